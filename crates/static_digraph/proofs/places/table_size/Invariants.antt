use Rattle.static_digraph.specs.Places.{IsWideTo}
use Rattle.static_digraph.proofs.places.table_size.Given as goal

abbrev pub invariant-loop-id : goal.invariant-loop-id
invariant-loop-id l = IsWideTo l.ids l.id-index l.size
