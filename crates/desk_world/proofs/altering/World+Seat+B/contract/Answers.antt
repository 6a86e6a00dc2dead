use Rattle.std.proofs.Common.{refl, sym, ap, subst, ◌∙◌, ◌∷◌, [], None, not}
use Rattle.std.specs.Option.{option_or}
use Rattle.base_items.specs.declared.items.ItemSort.TheVariants as sorts
use Rattle.script_words.specs.declared.commands.Command.TheVariants as commands
use Rattle.report_text.specs.declared.faults.Fault.TheVariants as faults
use Rattle.plain_world.specs.Demands as demands
use Rattle.plain_world.specs.Refusals.{unless}
use Rattle.desk_seats.specs.contracts.seat.SeatObserver.TheImpl.{watch-value}
use Rattle.desk_world.specs.Faults.{Answers, Is}
use Rattle.desk_world.specs.Plain.{plain_of}
use Rattle.desk_world.proofs.Answered.{same_stamps}
use Rattle.desk_world.proofs.Asked.{contracts}
use Rattle.desk_world.proofs.Demanded.{refused, not_met}
use Rattle.desk_world.proofs.Edited.{behind, ends, few_asked, in_front, in_two}
use Rattle.desk_world.proofs.Handed.{handed_on}
use Rattle.desk_world.proofs.altering.World+Seat+B.contract.Goals as goal

pub returns-in_err-found : goal.returns-in_err-found
returns-in_err-found g c =
    let w = (watch-value g.row.B g.B.Observer g.B.Observer-dict g.B.Destruct-dict).it in
    let world = plain_of w c.args.self.now in
    let u = c.args.u.now in
    let v = c.args.v.now in
    let asked = commands.Contract u v c.args.loops in
    let there = demands.There (demands.Labels sorts.Node) u
    ∷ demands.There (demands.Labels sorts.Node) v ∷ [] in
    record {
      step = handed_on (Answers world asked world) c.from_residual.result _
          c.from_residual.ensures.1
          (refused world asked _
          (in_front world there (demands.Differ u v ∷ []) _ c.in_err-found.ensures.meets));
      in_step = c.requires.in_step;
      stamps = same_stamps _ _ refl;
    }

pub returns-then-eq : goal.returns-then-eq
returns-then-eq g c =
    let w = (watch-value g.row.B g.B.Observer g.B.Observer-dict g.B.Destruct-dict).it in
    let world = plain_of w c.args.self.now in
    let u = c.args.u.now in
    let v = c.args.v.now in
    let asked = commands.Contract u v c.args.loops in
    let there = demands.There (demands.Labels sorts.Node) u
    ∷ demands.There (demands.Labels sorts.Node) v ∷ [] in
    let is = subst (λ b. Is (unless (not b) (faults.SameNode u)) c.same_node.result)
    (sym (sym c.eq.ensures ∙ c.if-eq.true)) c.same_node.ensures in
    record {
      step = refused world asked c.same_node.result
          (behind world there (demands.Differ u v ∷ []) c.same_node.result
          c.in_ok-found.ensures.meets (not_met world (demands.Differ u v) [] c.same_node.result
          is));
      in_step = c.requires.in_step;
      stamps = same_stamps _ _ refl;
    }

pub edit-requires : goal.edit-requires
edit-requires g c =
    let w = (watch-value g.row.B g.B.Observer g.B.Observer-dict g.B.Destruct-dict).it in
    let world = plain_of w c.args.self.now in
    let u = c.args.u.now in
    let v = c.args.v.now in
    let asks = contracts world c.requires.in_step.valid.graph_ok u _ c.in_ok-found.ensures.found v _
    c.in_ok-found.ensures.node (sym c.eq.ensures ∙ c.if-eq.false) c.args.loops in
    record {
      in_step = c.requires.in_step;
      stamps = c.requires.stamps;
      can = asks.can;
      few = few_asked world (commands.Contract u v c.args.loops) _ c.requires.in_step.valid
          asks.alters;
    }

pub returns : goal.returns
returns g c =
    let w = (watch-value g.row.B g.B.Observer g.B.Observer-dict g.B.Destruct-dict).it in
    let self = c.args.self.now in
    let world = plain_of w self in
    let last = c.edit.new.self in
    let u = c.args.u.now in
    let v = c.args.v.now in
    let there = demands.There (demands.Labels sorts.Node) u
    ∷ demands.There (demands.Labels sorts.Node) v ∷ [] in
    let differ = sym c.eq.ensures ∙ c.if-eq.false in
    let asks = contracts world c.requires.in_step.valid.graph_ok u _ c.in_ok-found.ensures.found v _
    c.in_ok-found.ensures.node differ c.args.loops in
    let met = in_two world there (demands.Differ u v ∷ [])
    ∙ (λ i. option_or (c.in_ok-found.ensures.meets i)
    (option_or (unless (not (differ i)) (faults.SameNode u)) None)) in
    let done = ends w self last (commands.Contract u v c.args.loops)
    (demands.There (demands.Labels sorts.Node) u ∷ demands.There (demands.Labels sorts.Node) v
    ∷ demands.Differ u v ∷ []) [] _ [] c.requires.in_step c.requires.stamps tt refl asks.alters met
    (λ reply later quiet is. (quiet, is)) c.edit.ensures.in_step c.edit.result
    c.edit.ensures.edits in
    record { step = done.step; in_step = done.in_step; stamps = c.edit.ensures.stamps }
