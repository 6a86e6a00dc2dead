use Rattle.std.proofs.Common.{false, length}
use Rattle.plain_certificates.specs.Tables.{at}
use Rattle.flow_replies.proofs.Picked.{picked_on, picked_off}
use Rattle.flow_replies.proofs.numbers.numbers_in.Goals as goal

pub loop-k-preserved-then-set-k : goal.loop-k-preserved-then-set-k
loop-k-preserved-then-set-k c =
    let set = c.args.set.now in
    picked_on (at false set) (length set) c.loop-k.k c.loop-k.numbers.items
    c.push.new.self.items c.loop-k.invariant c.loop-k-test.true c.if-set-k.true
    c.in_ok-push.ensures.items

pub loop-k-preserved : goal.loop-k-preserved
loop-k-preserved c =
    let set = c.args.set.now in
    picked_off (at false set) (length set) c.loop-k.k c.loop-k.numbers.items
    c.loop-k.invariant c.loop-k-test.true c.if-set-k.false
