use Rattle.std.proofs.Common.{take}
use Rattle.desk_world.proofs.NodesRaised.{Raises}
use Rattle.desk_world.proofs.node_words.node_above.Given as goal

abbrev pub invariant-loop-letter : goal.invariant-loop-letter
invariant-loop-letter l = Raises (take l.letter-index l.letters) l.letter-index l.node l.id
