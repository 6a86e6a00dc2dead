-- The fields of a numbered digraph. No public clause cites this module but for the model.
use Rattle.static_digraph.specs.declared.fixed.Fixed.TheInside.{Inside}
use Rattle.static_digraph.specs.declared.rows.Rows.{Rows}
use Rattle.static_digraph.specs.Fixed.{FixedOf}
use Rattle.static_digraph.specs.Kept.{RowsSeen, IsKept}

-- the four lists that contracts see
abbrev pub seen : Inside → FixedOf
seen s = record {
  nodes = s.nodes.items;
  arcs = s.arcs.items;
  from = s.from.items;
  to = s.to.items;
}

-- the lists of the rows of an end
abbrev pub rows_seen : Rows → RowsSeen
rows_seen rows = record { start = rows.start.items; arcs = rows.arcs.items }

-- what is always so
abbrev pub Holds : Inside → Type 0
Holds s = IsKept (seen s) (rows_seen s.out) (rows_seen s.into)
