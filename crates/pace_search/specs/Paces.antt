-- Paces by number: first each arc as it goes, then each arc the other way.
use Rattle.std.specs.Prelude.{ℕ, ◌-◌, cond, nat_lt, List, map}
use Rattle.plain_certificates.specs.Numbered.{Numbered}
use Rattle.plain_certificates.specs.Walks.{Pace, pace_from, pace_to}

-- the pace of a number: below the number of arcs the arc as it goes, and from there on the arc the
-- other way
abbrev pub pace_at : Numbered → ℕ → Pace
pace_at g k =
    record { arc = cond (nat_lt k g.arcs) k (k - g.arcs); onward = nat_lt k g.arcs }

-- the paces of some numbers
abbrev pub paces_at : Numbered → List ℕ → List Pace
paces_at g numbers = map (pace_at g) numbers

-- the digraph of which the first so many paces are the arcs
abbrev pub pace_graph : Numbered → ℕ → Numbered
pace_graph g count = record {
  nodes = g.nodes;
  arcs = count;
  from = λ k. pace_from g (pace_at g k);
  to = λ k. pace_to g (pace_at g k);
}
