-- Where an id stands among facts by rising id.
use Rattle.std.specs.Prelude.{ℕ, suc, nat_lt, if◌then◌else◌, List, [], ◌∷◌}
use Rattle.base_items.specs.declared.items.Fact.{Fact}

-- how many facts in front have lower ids
abbrev pub rank : ℕ → List Fact → ℕ
rank id [] = 0
rank id (f ∷ fs) = if nat_lt f.id id then suc (rank id fs) else 0
