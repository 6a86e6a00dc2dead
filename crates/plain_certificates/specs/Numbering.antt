-- What a view shows, numbered in its order.
use Rattle.std.specs.Prelude.{◌≡◌, ℕ, ◌<◌, map, length}
use Rattle.plain_views.specs.Shown.{Shown, ShownArc, arcs_in_order, IsShown}
use Rattle.plain_certificates.specs.Numbered.{Numbered, EndsAreNodes}
use Rattle.plain_certificates.specs.Tables.{at, place_of}

-- the node with this number
abbrev pub node_at : Shown → ℕ → ℕ
node_at p node = at 0 p.nodes node

-- the arc with this number
abbrev pub arc_at : Shown → ℕ → ShownArc
arc_at p arc = at (record { id = 0; from = 0; to = 0 }) (arcs_in_order p) arc

-- the nodes in order, and the arcs in order: for each node in turn those from it
abbrev pub numbered : Shown → Numbered
numbered p = record {
  nodes = length p.nodes;
  arcs = length (arcs_in_order p);
  from = at 0 (map (λ arc. place_of p.nodes arc.from) (arcs_in_order p));
  to = at 0 (map (λ arc. place_of p.nodes arc.to) (arcs_in_order p));
}

-- ---- laws

-- the ends of each arc are nodes by number
abbrev pub NumberedHasEnds : Type 0
NumberedHasEnds = (p : Shown) → IsShown p → EndsAreNodes (numbered p)

-- they are the nodes that the view shows as its ends
abbrev pub NumberedKeepsEnds : Type 0
NumberedKeepsEnds =
    (p : Shown) (arc : ℕ) → IsShown p → arc < (numbered p).arcs
    → (node_at p ((numbered p).from arc) ≡ (arc_at p arc).from)
    × (node_at p ((numbered p).to arc) ≡ (arc_at p arc).to)
