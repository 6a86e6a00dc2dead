use Rattle.std.proofs.Common.{◌≡◌, pos, refl, sym, ap, subst, ◌∙◌, Some, None, to_z, of_z}
use Rattle.std.proofs.Common.{FitsSigned, rules}
use Rattle.std.specs.Int.{w128}
use Rattle.std.specs.Prelude.{Ok}
use Rattle.std.specs.Option.{option_copied}
use Rattle.std.proofs.lemmas.Int.{to_z-of_z}
use Rattle.script_words.specs.declared.commands.Command.TheVariants as commands
use Rattle.report_text.specs.declared.replies.Reply.TheVariants as replies
use Rattle.plain_certificates.specs.Tables.{at}
use Rattle.plain_world.specs.declared.answers.Answer.TheVariants.{Answered}
use Rattle.plain_world.specs.Demands.{flow_demands}
use Rattle.plain_world.specs.Steps.{Step}
use Rattle.plain_world.proofs.CommandsKept.{commands_kept}
use Rattle.list_digraph.specs.Roomy.{Roomy}
use Rattle.static_digraph.specs.Fixed.{graph_of}
use Rattle.task_bounds.specs.Given.{bounds_given}
use Rattle.net_simplex.specs.Answers as cheapest
use Rattle.desk_seats.specs.contracts.seat.SeatObserver.TheImpl.{watch-value}
use Rattle.desk_world.specs.AskedBounds.{AsksBounds}
use Rattle.desk_world.specs.Plain.{plain_of}
use Rattle.desk_world.proofs.Answered.{same_stamps, still_valid}
use Rattle.desk_world.proofs.BoundsTold.{finds_barrier, same_written}
use Rattle.desk_world.proofs.CostsTold.{no_memory, also_cheapest, costs_read, basic_found}
use Rattle.desk_world.proofs.CostsTold.{finds_optimum, is_basic, finds_free, barrier_found}
use Rattle.desk_world.proofs.CostsTold.{free_found}
use Rattle.desk_world.proofs.Demanded.{fault_of}
use Rattle.desk_world.proofs.MapCommands.{left}
use Rattle.desk_world.proofs.cheapest_flows.World+Seat+B.cheapest.Goals as goal

pub returns-in_err-prices-in-Optimal : goal.returns-in_err-prices-in-Optimal
returns-in_err-prices-in-Optimal g c =
    let w = (watch-value g.row.B g.B.Observer g.B.Observer-dict g.B.Destruct-dict).it in
    let world = plain_of w c.args.self.now in
    let told = c.from_residual-in_err-prices-in-Optimal in
    let both = no_memory world c.args.view.now c.args.cost.now c.args.low.now c.args.up.now
    c.args.supply.now c.args.into.now world told.result told.ensures.1 refl in
    record {
      step = both.0;
      less = both.1;
      in_step = c.requires.in_step;
      stamps = same_stamps _ _ refl;
    }

pub returns-in_err-write_into-in-Optimal : goal.returns-in_err-write_into-in-Optimal
returns-in_err-write_into-in-Optimal g c =
    let w = (watch-value g.row.B g.B.Observer g.B.Observer-dict g.B.Destruct-dict).it in
    let world = plain_of w c.args.self.now in
    let told = c.from_residual-in_err-write_into-in-Optimal in
    let last = c.write_into.new.self in
    let same = c.in_err-write_into-in-Optimal.ensures.same in
    let both = no_memory world c.args.view.now c.args.cost.now c.args.low.now c.args.up.now
    c.args.supply.now c.args.into.now (plain_of w last) told.result told.ensures.1 same in
    record {
      step = both.0;
      less = both.1;
      in_step = still_valid w c.args.self.now last c.write_into.ensures.in_step same
          c.requires.in_step;
      stamps = same_stamps _ _
          (ap (λ (r : Roomy). r.graph.stamps) c.write_into.ensures.graph);
    }

pub returns-in-Optimal : goal.returns-in-Optimal
returns-in-Optimal g c =
    let w = (watch-value g.row.B g.B.Observer g.B.Observer-dict g.B.Destruct-dict).it in
    let world = plain_of w c.args.self.now in
    let view = c.args.view.now in
    let low = c.args.low.now in
    let up = c.args.up.now in
    let cost = c.args.cost.now in
    let supply = c.args.supply.now in
    let into = c.args.into.now in
    let copied = c.in_ok-copy_text.ensures ∙ c.as_bytes.ensures in
    let read = c.in_ok-read.read in
    let asks = subst (λ text. AsksBounds world view low up (Some text) supply read) copied
    c.in_ok-read.ensures.asks in
    let met = subst (λ text. fault_of world (flow_demands view low up (Some text) supply into)
    ≡ None) copied c.in_ok-read.ensures.meets in
    let lower_is = c.slice_given-lower.ensures ∙ asks.lower in
    let upper_is = c.slice_given-upper.ensures ∙ asks.upper in
    let supply_is = c.slice_given-supplies.ensures ∙ asks.supply_is in
    let costs_are = c.as_slice.ensures.value
    ∙ costs_read world view cost low up supply read asks c.in-Some.costs c.in-Some.is in
    let answer = subst (cheapest.Answers (graph_of read.asked.fixed) (bounds_given
    (option_copied c.slice_given-lower.result) (option_copied c.slice_given-upper.result)
    (option_copied c.slice_given-supplies.result)) (at (pos 0) c.as_slice.result.now))
    c.in-Optimal.is c.in_ok-flow.ensures in
    let flow = c.in-Optimal.flow in
    let pi = c.in-Optimal.pi in
    let total = c.in-Optimal.cost in
    let lines = c.in_ok-lines-in-Optimal.lines in
    let prices = c.in_ok-prices-in-Optimal.prices in
    let later = plain_of w c.write_into.new.self in
    let reply = replies.Cheapest lines prices total in
    let step = basic_found world view cost low up supply into met (at (pos 0) flow) reply
    (finds_optimum world view cost low up supply read asks _ _ _ _ lower_is upper_is supply_is
    costs_are flow pi total answer.shows.optimal lines prices c.in_ok-lines-in-Optimal.ensures
    c.in_ok-prices-in-Optimal.ensures)
    (is_basic world view cost low up supply read asks _ _ _ _ lower_is upper_is supply_is costs_are
    flow answer.basic) later
    (same_written world view low up (Some cost) supply read asks into (at (pos 0) flow) later
    c.in_ok-write_into-in-Optimal.ensures.written) in
    let asked = commands.Simplex view low up cost supply into in
    let fits : FitsSigned w128 total = search rules in
    let told = subst (λ x. Step world asked (Answered (replies.Cheapest lines prices x)) later)
    (sym (to_z-of_z w128 total fits)) step in
    record {
      step = told;
      less = also_cheapest world view cost low up supply into later
          (Ok (replies.Cheapest lines prices (to_z w128 (of_z w128 total)))) told;
      in_step = record {
        seats = c.write_into.ensures.in_step;
        valid = commands_kept world later asked (Answered reply)
            c.requires.in_step.valid c.requires.valid (left world c.requires.stamps) step;
      };
      stamps = same_stamps _ _ (ap (λ (r : Roomy). r.graph.stamps) c.write_into.ensures.graph);
    }

pub returns-in-Barrier : goal.returns-in-Barrier
returns-in-Barrier g c =
    let w = (watch-value g.row.B g.B.Observer g.B.Observer-dict g.B.Destruct-dict).it in
    let world = plain_of w c.args.self.now in
    let view = c.args.view.now in
    let low = c.args.low.now in
    let up = c.args.up.now in
    let cost = c.args.cost.now in
    let supply = c.args.supply.now in
    let into = c.args.into.now in
    let copied = c.in_ok-copy_text.ensures ∙ c.as_bytes.ensures in
    let read = c.in_ok-read.read in
    let asks = subst (λ text. AsksBounds world view low up (Some text) supply read) copied
    c.in_ok-read.ensures.asks in
    let met = subst (λ text. fault_of world (flow_demands view low up (Some text) supply into)
    ≡ None) copied c.in_ok-read.ensures.meets in
    let lower_is = c.slice_given-lower.ensures ∙ asks.lower in
    let upper_is = c.slice_given-upper.ensures ∙ asks.upper in
    let supply_is = c.slice_given-supplies.ensures ∙ asks.supply_is in
    let answer = subst (cheapest.Answers (graph_of read.asked.fixed) (bounds_given
    (option_copied c.slice_given-lower.result) (option_copied c.slice_given-upper.result)
    (option_copied c.slice_given-supplies.result)) (at (pos 0) c.as_slice.result.now))
    c.in-Barrier.is c.in_ok-flow.ensures in
    let reply = c.in_ok-reply-in-Barrier.reply in
    let step = barrier_found world view cost low up supply into met reply
    (finds_barrier world view low up (Some cost) supply read asks _ _ _ lower_is upper_is supply_is
    c.in-Barrier.barrier answer.shows reply c.in_ok-reply-in-Barrier.ensures) in
    record {
      step = step;
      less = also_cheapest world view cost low up supply into world (Ok reply) step;
      in_step = c.requires.in_step;
      stamps = same_stamps _ _ refl;
    }

pub returns-in_err-round-in-FreeCycle : goal.returns-in_err-round-in-FreeCycle
returns-in_err-round-in-FreeCycle g c =
    let w = (watch-value g.row.B g.B.Observer g.B.Observer-dict g.B.Destruct-dict).it in
    let world = plain_of w c.args.self.now in
    let told = c.from_residual-in_err-round-in-FreeCycle in
    let both = no_memory world c.args.view.now c.args.cost.now c.args.low.now c.args.up.now
    c.args.supply.now c.args.into.now world told.result told.ensures.1 refl in
    record {
      step = both.0;
      less = both.1;
      in_step = c.requires.in_step;
      stamps = same_stamps _ _ refl;
    }

pub returns-in_err-write_into-in-FreeCycle : goal.returns-in_err-write_into-in-FreeCycle
returns-in_err-write_into-in-FreeCycle g c =
    let w = (watch-value g.row.B g.B.Observer g.B.Observer-dict g.B.Destruct-dict).it in
    let world = plain_of w c.args.self.now in
    let told = c.from_residual-in_err-write_into-in-FreeCycle in
    let last = c.write_into-in-FreeCycle.new.self in
    let same = c.in_err-write_into-in-FreeCycle.ensures.same in
    let both = no_memory world c.args.view.now c.args.cost.now c.args.low.now c.args.up.now
    c.args.supply.now c.args.into.now (plain_of w last) told.result told.ensures.1 same in
    record {
      step = both.0;
      less = both.1;
      in_step = still_valid w c.args.self.now last c.write_into-in-FreeCycle.ensures.in_step same
          c.requires.in_step;
      stamps = same_stamps _ _
          (ap (λ (r : Roomy). r.graph.stamps) c.write_into-in-FreeCycle.ensures.graph);
    }

pub returns : goal.returns
returns g c =
    let w = (watch-value g.row.B g.B.Observer g.B.Observer-dict g.B.Destruct-dict).it in
    let world = plain_of w c.args.self.now in
    let view = c.args.view.now in
    let low = c.args.low.now in
    let up = c.args.up.now in
    let cost = c.args.cost.now in
    let supply = c.args.supply.now in
    let into = c.args.into.now in
    let copied = c.in_ok-copy_text.ensures ∙ c.as_bytes.ensures in
    let read = c.in_ok-read.read in
    let asks = subst (λ text. AsksBounds world view low up (Some text) supply read) copied
    c.in_ok-read.ensures.asks in
    let met = subst (λ text. fault_of world (flow_demands view low up (Some text) supply into)
    ≡ None) copied c.in_ok-read.ensures.meets in
    let lower_is = c.slice_given-lower.ensures ∙ asks.lower in
    let upper_is = c.slice_given-upper.ensures ∙ asks.upper in
    let supply_is = c.slice_given-supplies.ensures ∙ asks.supply_is in
    let costs_are = c.as_slice.ensures.value
    ∙ costs_read world view cost low up supply read asks c.in-Some.costs c.in-Some.is in
    let answer = subst (cheapest.Answers (graph_of read.asked.fixed) (bounds_given
    (option_copied c.slice_given-lower.result) (option_copied c.slice_given-upper.result)
    (option_copied c.slice_given-supplies.result)) (at (pos 0) c.as_slice.result.now))
    c.in-FreeCycle.is c.in_ok-flow.ensures in
    let flow = c.in-FreeCycle.flow in
    let cycle = c.in-FreeCycle.cycle in
    let total = c.in-FreeCycle.cost in
    let lines = c.in_ok-lines-in-FreeCycle.lines in
    let round = c.in_ok-round-in-FreeCycle.round in
    let later = plain_of w c.write_into-in-FreeCycle.new.self in
    let reply = replies.FreeCycle lines round total in
    let step = free_found world view cost low up supply into met (at (pos 0) flow) reply
    (finds_free world view cost low up supply read asks _ _ _ _ lower_is upper_is supply_is
    costs_are flow cycle total answer.shows.1 lines round c.in_ok-lines-in-FreeCycle.ensures
    c.in_ok-round-in-FreeCycle.ensures) later
    (same_written world view low up (Some cost) supply read asks into (at (pos 0) flow) later
    c.in_ok-write_into-in-FreeCycle.ensures.written) in
    let asked = commands.Simplex view low up cost supply into in
    let fits : FitsSigned w128 total = search rules in
    let told = subst (λ x. Step world asked (Answered (replies.FreeCycle lines round x)) later)
    (sym (to_z-of_z w128 total fits)) step in
    record {
      step = told;
      less = also_cheapest world view cost low up supply into later
          (Ok (replies.FreeCycle lines round (to_z w128 (of_z w128 total)))) told;
      in_step = record {
        seats = c.write_into-in-FreeCycle.ensures.in_step;
        valid = commands_kept world later asked (Answered reply)
            c.requires.in_step.valid c.requires.valid (left world c.requires.stamps) step;
      };
      stamps = same_stamps _ _
          (ap (λ (r : Roomy). r.graph.stamps) c.write_into-in-FreeCycle.ensures.graph);
    }
