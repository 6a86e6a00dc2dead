use Rattle.std.proofs.Common.{length, get_or, pos, sym, ◌∙◌, FitsSigned, w64, rules}
use Rattle.std.proofs.lemmas.Int.{to_z-of_z}
use Rattle.flow_replies.specs.Numbers.{carries}
use Rattle.flow_replies.proofs.Picked.{picked_on, picked_off}
use Rattle.flow_replies.proofs.numbers.numbers_with_flow.Goals as goal

pub loop-k-preserved-then-is_some_flow : goal.loop-k-preserved-then-is_some_flow
loop-k-preserved-then-is_some_flow c =
    let flow = c.args.flow.now in
    let value = get_or flow c.loop-k.k (pos 0) in
    let fits : FitsSigned w64 value = search rules in
    let told = rw (to_z-of_z w64 value fits) at c.is_some_flow.ensures in
    picked_on (carries flow) (length flow) c.loop-k.k c.loop-k.numbers.items
    c.push.new.self.items c.loop-k.invariant c.loop-k-test.true
    (sym told ∙ c.if-is_some_flow.true) c.in_ok-push.ensures.items

pub loop-k-preserved : goal.loop-k-preserved
loop-k-preserved c =
    let flow = c.args.flow.now in
    let value = get_or flow c.loop-k.k (pos 0) in
    let fits : FitsSigned w64 value = search rules in
    let told = rw (to_z-of_z w64 value fits) at c.is_some_flow.ensures in
    picked_off (carries flow) (length flow) c.loop-k.k c.loop-k.numbers.items
    c.loop-k.invariant c.loop-k-test.true (sym told ∙ c.if-is_some_flow.false)
