-- The arcs of a walk are arcs of the digraph.
use Rattle.std.proofs.Common.{arith, ℕ, ◌<◌, zero, suc, List, [], ◌∷◌, length, slice_index_or}
use Rattle.plain_certificates.specs.Numbered.{Numbered}
use Rattle.plain_certificates.specs.Walks.{IsWalk}

pub walk_inside : (g : Numbered) (arcs : List ℕ) (u v place : ℕ) → IsWalk g u arcs v
    → place < length arcs → slice_index_or arcs place 0 < g.arcs
walk_inside g [] u v place walk inside = absurd (omega (arith, inside))
walk_inside g (arc ∷ arcs) u v zero walk inside = walk.0
walk_inside g (arc ∷ arcs) u v (suc place) walk inside =
    walk_inside g arcs (g.to arc) v place walk.2 (omega (arith, inside))
