use Rattle.std.specs.Option.{option_copied}
use Rattle.task_bounds.specs.Given.{bounds_given}
use Rattle.flow_circulate.proofs.circulation.circulate.Goals as goal

pub returns : goal.returns
returns c = c.answer_of.ensures (bounds_given (option_copied c.args.lower)
    (option_copied c.args.upper) (option_copied c.args.supply)) c.in_ok-plan.ensures.task
