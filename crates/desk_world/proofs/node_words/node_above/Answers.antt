use Rattle.std.proofs.Common.{sym}
use Rattle.desk_world.proofs.NodesRaised.{not_raised}
use Rattle.desk_world.proofs.node_words.node_above.Goals as goal

pub returns-else-letter-eq111 : goal.returns-else-letter-eq111
returns-else-letter-eq111 c =
    sym (not_raised c.args.letters.now c.loop-letter.letter-index c.args.node c.loop-letter.id
    c.loop-letter-test.true c.loop-letter.invariant c.if-letter-eq105.false
    c.if-letter-eq111.false)
