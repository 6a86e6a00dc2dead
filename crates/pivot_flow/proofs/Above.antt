-- Depths, and going up once more.
use Rattle.std.proofs.Common.{ℕ, ◌<◌, arith}
use Rattle.plain_certificates.proofs.Forest.{over_up}
use Rattle.pivot_flow.specs.Tree.{ComesTo, IsHung, IsLow, Task, Tree, forest_of}

-- a node that hangs has a depth above 0, and the root alone has depth 0
pub low_deep : (t : Task) (h : Tree) (v : ℕ) → IsHung t h → IsLow t v → 0 < h.depth v
low_deep t h v s l = let a = s.falls v l in omega (arith, a)

-- going up once more
pub over_parent : (t : Task) (h : Tree) (u v : ℕ) → IsHung t h → IsLow t v → ComesTo h u v
    → ComesTo h u (h.parent v)
over_parent t h u v s l o = over_up (forest_of h) u v (s.falls v l) o
