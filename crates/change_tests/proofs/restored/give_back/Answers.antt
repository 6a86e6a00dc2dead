use Rattle.alter_graph.specs.State.{State, state_of}
use Rattle.change_tests.specs.Watching.{watched}
use Rattle.change_tests.proofs.Staying.{others_stay, on_ok}
use Rattle.change_tests.proofs.restored.give_back.Goals as goal

pub returns-clause-others : goal.returns-clause-others
returns-clause-others g c =
    let s : State = state_of watched c.args.all.now in
    let t : State = state_of watched c.restore.new.self in
    on_ok c.has_lists.result (others_stay c.args.name s t c.in_default.ensures.restores)
