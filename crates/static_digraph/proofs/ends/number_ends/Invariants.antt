use Rattle.std.proofs.Common.{◌≡◌, map, take}
use Rattle.plain_certificates.specs.Tables.{at}
use Rattle.static_digraph.proofs.ends.number_ends.Given as goal

abbrev pub invariant-loop-fact : goal.invariant-loop-fact
invariant-loop-fact l = record {
  items : l.items.items ≡ map (λ fact. fact.id) (take l.fact-index l.arcs);
  from : l.from.items ≡ map (λ fact. at 0 l.table fact.from) (take l.fact-index l.arcs);
  to : l.to.items ≡ map (λ fact. at 0 l.table fact.to) (take l.fact-index l.arcs);
}
