use Rattle.std.proofs.Common.{◌≤ℤ◌, ◌^◌, ℤ, pos, List, All, length, refl, sym, ap, subst, ◌∙◌}
use Rattle.std.proofs.Common.{FitsSigned, w64, rules}
use Rattle.std.proofs.lemmas.Int.{to_z-of_z}
use Rattle.script_words.specs.declared.commands.Command.TheVariants as commands
use Rattle.report_text.specs.declared.faults.StepFault.TheVariants as faults
use Rattle.report_text.specs.declared.replies.Reply.TheVariants as replies
use Rattle.plain_world.specs.declared.answers.Answer.TheVariants.{Answered}
use Rattle.plain_world.specs.Steps.{Step}
use Rattle.plain_world.proofs.CommandsKept.{commands_kept}
use Rattle.list_digraph.specs.Roomy.{Roomy}
use Rattle.static_digraph.specs.Fixed.{graph_of}
use Rattle.flow_preflow.specs.Answers.{IsAnswer}
use Rattle.desk_seats.specs.contracts.seat.SeatObserver.TheImpl.{watch-value}
use Rattle.desk_world.specs.Faults.{Answers}
use Rattle.desk_world.specs.Plain.{plain_of}
use Rattle.desk_world.proofs.Answered.{same_stamps, still_valid}
use Rattle.desk_world.proofs.Demanded.{refused}
use Rattle.desk_world.proofs.FlowsTold.{caps_all, caps_high, source_below, target_below}
use Rattle.desk_world.proofs.FlowsTold.{flow_all, side_all, flow_answered}
use Rattle.desk_world.proofs.Handed.{handed_on}
use Rattle.desk_world.proofs.MapCommands.{left}
use Rattle.desk_world.proofs.asked_flows.World+Seat+B.flow.Goals as goal

pub returns-in_err-read : goal.returns-in_err-read
returns-in_err-read g c =
    let w = (watch-value g.row.B g.B.Observer g.B.Observer-dict g.B.Destruct-dict).it in
    let world = plain_of w c.args.self.now in
    let asked = commands.MaxFlow c.args.view.now c.args.cap.now c.args.s.now c.args.t.now
    c.args.into.now in
    record {
      step = handed_on (Answers world asked world) c.from_residual.result _
          c.from_residual.ensures.1 (refused world asked _ c.in_err-read.ensures.meets);
      in_step = c.requires.in_step;
      stamps = same_stamps _ _ refl;
    }

pub max_flow-requires : goal.max_flow-requires
max_flow-requires g c =
    let w = (watch-value g.row.B g.B.Observer g.B.Observer-dict g.B.Destruct-dict).it in
    let world = plain_of w c.args.self.now in
    let view = c.args.view.now in
    let cap = c.args.cap.now in
    let s = c.args.s.now in
    let t = c.args.t.now in
    let read = c.in_ok-read.read in
    let asks = c.in_ok-read.ensures.asks in
    let caps = c.as_slice-caps.ensures.value in
    record {
      caps = ap length caps ∙ caps_all world view cap s t read asks;
      low = subst (All (λ x. pos 0 ≤ℤ x)) (sym caps) asks.least;
      high = subst (All (λ x. x ≤ℤ pos (2 ^ 36))) (sym caps)
          (caps_high world view cap s t read asks);
      nodes = (
        source_below world view cap s t read asks,
        target_below world view cap s t read asks,
        asks.apart,
      );
    }

pub returns-in_err-cut : goal.returns-in_err-cut
returns-in_err-cut g c =
    let w = (watch-value g.row.B g.B.Observer g.B.Observer-dict g.B.Destruct-dict).it in
    let world = plain_of w c.args.self.now in
    let asked = commands.MaxFlow c.args.view.now c.args.cap.now c.args.s.now c.args.t.now
    c.args.into.now in
    record {
      step = handed_on (Answers world asked world) c.from_residual-in_err-cut.result
          faults.Memory c.from_residual-in_err-cut.ensures.1 refl;
      in_step = c.requires.in_step;
      stamps = same_stamps _ _ refl;
    }

pub flow_lines-requires : goal.flow_lines-requires
flow_lines-requires g c =
    let w = (watch-value g.row.B g.B.Observer g.B.Observer-dict g.B.Destruct-dict).it in
    let world = plain_of w c.args.self.now in
    let view = c.args.view.now in
    let cap = c.args.cap.now in
    let s = c.args.s.now in
    let t = c.args.t.now in
    let read = c.in_ok-read.read in
    let asks = c.in_ok-read.ensures.asks in
    let cut = c.in_ok-cut.cut in
    let answer = subst (λ (caps : List ℤ). IsAnswer (graph_of read.asked.fixed) caps read.source
    read.target cut.value cut.flow cut.side) c.as_slice-caps.ensures.value c.in_ok-cut.ensures in
    record {
      in_step = c.requires.in_step;
      asks = asks.asks;
      all = flow_all world view cap s t read asks cut.value cut.flow cut.side answer;
    }

pub names_in-requires : goal.names_in-requires
names_in-requires g c =
    let w = (watch-value g.row.B g.B.Observer g.B.Observer-dict g.B.Destruct-dict).it in
    let world = plain_of w c.args.self.now in
    let view = c.args.view.now in
    let cap = c.args.cap.now in
    let s = c.args.s.now in
    let t = c.args.t.now in
    let read = c.in_ok-read.read in
    let asks = c.in_ok-read.ensures.asks in
    let cut = c.in_ok-cut.cut in
    let answer = subst (λ (caps : List ℤ). IsAnswer (graph_of read.asked.fixed) caps read.source
    read.target cut.value cut.flow cut.side) c.as_slice-caps.ensures.value c.in_ok-cut.ensures in
    record {
      in_step = c.requires.in_step;
      asks = asks.asks;
      all = side_all world view cap s t read asks cut.value cut.flow cut.side answer;
    }

pub write_into-requires : goal.write_into-requires
write_into-requires g c =
    let w = (watch-value g.row.B g.B.Observer g.B.Observer-dict g.B.Destruct-dict).it in
    let world = plain_of w c.args.self.now in
    let view = c.args.view.now in
    let cap = c.args.cap.now in
    let s = c.args.s.now in
    let t = c.args.t.now in
    let read = c.in_ok-read.read in
    let asks = c.in_ok-read.ensures.asks in
    let cut = c.in_ok-cut.cut in
    let answer = subst (λ (caps : List ℤ). IsAnswer (graph_of read.asked.fixed) caps read.source
    read.target cut.value cut.flow cut.side) c.as_slice-caps.ensures.value c.in_ok-cut.ensures in
    record {
      in_step = c.requires.in_step;
      asks = asks.asks;
      takes = c.in_ok-read.ensures.takes;
      sizes = flow_all world view cap s t read asks cut.value cut.flow cut.side answer;
    }

pub returns-in_err-lines : goal.returns-in_err-lines
returns-in_err-lines g c =
    let w = (watch-value g.row.B g.B.Observer g.B.Observer-dict g.B.Destruct-dict).it in
    let world = plain_of w c.args.self.now in
    let asked = commands.MaxFlow c.args.view.now c.args.cap.now c.args.s.now c.args.t.now
    c.args.into.now in
    record {
      step = handed_on (Answers world asked world) c.from_residual-in_err-lines.result
          faults.Memory c.from_residual-in_err-lines.ensures.1 refl;
      in_step = c.requires.in_step;
      stamps = same_stamps _ _ refl;
    }

pub returns-in_err-side : goal.returns-in_err-side
returns-in_err-side g c =
    let w = (watch-value g.row.B g.B.Observer g.B.Observer-dict g.B.Destruct-dict).it in
    let world = plain_of w c.args.self.now in
    let asked = commands.MaxFlow c.args.view.now c.args.cap.now c.args.s.now c.args.t.now
    c.args.into.now in
    record {
      step = handed_on (Answers world asked world) c.from_residual-in_err-side.result
          faults.Memory c.from_residual-in_err-side.ensures.1 refl;
      in_step = c.requires.in_step;
      stamps = same_stamps _ _ refl;
    }

pub returns-in_err-write_into : goal.returns-in_err-write_into
returns-in_err-write_into g c =
    let w = (watch-value g.row.B g.B.Observer g.B.Observer-dict g.B.Destruct-dict).it in
    let self = c.args.self.now in
    let last = c.write_into.new.self in
    let world = plain_of w self in
    let asked = commands.MaxFlow c.args.view.now c.args.cap.now c.args.s.now c.args.t.now
    c.args.into.now in
    let same = c.in_err-write_into.ensures.same in
    record {
      step = handed_on (Answers world asked (plain_of w last))
          c.from_residual-in_err-write_into.result faults.Memory
          c.from_residual-in_err-write_into.ensures.1 same;
      in_step = still_valid w self last c.write_into.ensures.in_step same c.requires.in_step;
      stamps = same_stamps _ _ (ap (λ (r : Roomy). r.graph.stamps) c.write_into.ensures.graph);
    }

pub returns : goal.returns
returns g c =
    let w = (watch-value g.row.B g.B.Observer g.B.Observer-dict g.B.Destruct-dict).it in
    let world = plain_of w c.args.self.now in
    let view = c.args.view.now in
    let cap = c.args.cap.now in
    let s = c.args.s.now in
    let t = c.args.t.now in
    let read = c.in_ok-read.read in
    let asks = c.in_ok-read.ensures.asks in
    let cut = c.in_ok-cut.cut in
    let answer = subst (λ (caps : List ℤ). IsAnswer (graph_of read.asked.fixed) caps read.source
    read.target cut.value cut.flow cut.side) c.as_slice-caps.ensures.value c.in_ok-cut.ensures in
    let into = c.args.into.now in
    let last = c.write_into.new.self in
    let lines = c.in_ok-lines.lines in
    let names = c.in_ok-side.side in
    let asked = commands.MaxFlow view cap s t into in
    let step = flow_answered world view cap s t read asks cut.value cut.flow cut.side answer into
    c.in_ok-read.ensures.meets lines names c.in_ok-lines.ensures c.in_ok-side.ensures
    (plain_of w last) c.in_ok-write_into.ensures.written in
    let fits : FitsSigned w64 cut.value = search rules in
    record {
      step = subst (λ x. Step world asked (Answered (replies.MaxFlow lines names x))
          (plain_of w last)) (sym (to_z-of_z w64 cut.value fits)) step;
      in_step = record {
        seats = c.write_into.ensures.in_step;
        valid = commands_kept world (plain_of w last) asked
            (Answered (replies.MaxFlow lines names cut.value)) c.requires.in_step.valid tt
            (left world c.requires.stamps) step;
      };
      stamps = same_stamps _ _ (ap (λ (r : Roomy). r.graph.stamps) c.write_into.ensures.graph);
    }
