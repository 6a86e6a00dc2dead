-- What is left where nothing went out.
use Rattle.std.proofs.Common.{List, [], ℕ, Some, None, Option, refl, sym, ap}
use Rattle.std.proofs.lemmas.List.{append-nil}
use Rattle.edge_io.specs.Files.{Took}

-- No bytes went to the end of what was taken.
pub took_nothing : (taken : Option (List ℕ)) → Took taken taken []
took_nothing None = refl
took_nothing (Some bytes) = ap (λ all. Some all) (sym (append-nil bytes))
