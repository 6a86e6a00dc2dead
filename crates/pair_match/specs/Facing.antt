-- Digraphs whose arcs are turned so that each leads from its left node to its other one.
use Rattle.std.specs.Prelude.{ℕ, Bool, false, cond, List}
use Rattle.plain_certificates.specs.Numbered.{Numbered}
use Rattle.plain_certificates.specs.Tables.{at}
use Rattle.push_flow.specs.declared.push.Ends.{Ends}

-- of each node whether it is on the list's side
abbrev pub flags : List Bool → ℕ → Bool
flags list = at false list

-- the ends of an arc, its left one first
abbrev pub turned_ends : Bool → Ends → Ends
turned_ends left ends = cond left ends (record { from = ends.to; to = ends.from })

-- the same nodes, and each arc from its left end to its other one
abbrev pub facing : Numbered → (ℕ → Bool) → Numbered
facing g left = record {
  nodes = g.nodes;
  arcs = g.arcs;
  from = λ arc. cond (left (g.from arc)) (g.from arc) (g.to arc);
  to = λ arc. cond (left (g.from arc)) (g.to arc) (g.from arc);
}
