use Rattle.std.proofs.Common.{◌≡◌, length}
use Rattle.std.specs.List.{fold}
use Rattle.token_text.specs.Hashed.{quads}
use Rattle.token_text.proofs.compared.TextHash.hash.Given as goal

abbrev pub invariant-loop-rest : goal.invariant-loop-rest
invariant-loop-rest g l =
    fold g.H.Hasher.write l.state (quads l.rest)
    ≡ fold g.H.Hasher.write l.initial.state (quads l.fn.self)

abbrev pub decreases-loop-rest : goal.decreases-loop-rest
decreases-loop-rest g l = length l.rest
