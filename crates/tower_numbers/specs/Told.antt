-- Arcs by number with the ids of their ends.
use Rattle.std.specs.Prelude.{ℕ}
use Rattle.base_items.specs.declared.items.Fact.{Fact}
use Rattle.plain_certificates.specs.Tables.{at}
use Rattle.static_digraph.specs.Fixed.{FixedOf}

-- the arc with its id and those of its ends, as a fact without stamps
abbrev pub fact_at : FixedOf → ℕ → Fact
fact_at f arc = record {
  id = at 0 f.arcs arc;
  from = at 0 f.nodes (at 0 f.from arc);
  to = at 0 f.nodes (at 0 f.to arc);
  from_at = 0;
  to_at = 0;
}
