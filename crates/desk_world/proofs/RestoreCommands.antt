-- The command restore, from the calls of which it consists.
use Rattle.std.proofs.Common.{◌≡◌, ◌+◌, ◌<◌, Bool, true, false, List, [], ◌∷◌, refl}
use Rattle.std.proofs.Common.{sym, ap, subst, ◌∙◌, Option, Some, None, is_some}
use Rattle.std.specs.Prelude.{option_and_then, option_map}
use Rattle.std.specs.Option.{option_map_or, option_or}
use Rattle.std.proofs.lemmas.Bool.{true≢false}
use Rattle.script_words.specs.declared.commands.Command.{Command}
use Rattle.script_words.specs.declared.commands.Command.TheVariants as commands
use Rattle.report_text.specs.declared.faults.Fault.TheVariants as faults
use Rattle.report_text.specs.declared.faults.StepFault.{StepFault}
use Rattle.report_text.specs.declared.faults.StepFault.TheVariants as step_faults
use Rattle.report_text.specs.declared.replies.Reply.TheVariants.{Quiet}
use Rattle.plain_digraph.specs.Alterations.{Alteration, all_steps, refusable_steps, restoring}
use Rattle.plain_digraph.specs.Copies.{Copy, copy_of}
use Rattle.plain_digraph.specs.Digraph.{Digraph}
use Rattle.plain_digraph.specs.PlainSteps.{after_steps}
use Rattle.observe_core.specs.Seen.{Watched}
use Rattle.alter_graph.specs.declared.faults.AlterFault.{AlterFault}
use Rattle.alter_graph.specs.declared.faults.AlterFault.TheVariants as alter
use Rattle.alter_graph.specs.declared.snaps.SnapKeys.{SnapKeys}
use Rattle.alter_graph.specs.Chains.{ChainsSeen, chains_seen}
use Rattle.alter_graph.specs.Outcome.{Refuses}
use Rattle.alter_graph.specs.Present.{present_of}
use Rattle.alter_graph.specs.Restoring.{LeavesAll, Restores}
use Rattle.alter_graph.specs.Snaps.{is_valid, saved_by}
use Rattle.alter_graph.specs.State.{AlterOf, state_of}
use Rattle.alter_graph.proofs.Parting.{graph_on}
use Rattle.plain_world.specs.declared.answers.Answer.TheVariants.{Answered}
use Rattle.plain_world.specs.Altering.{alteration_of}
use Rattle.plain_world.specs.Demands.{Demand}
use Rattle.plain_world.specs.Demands as demand
use Rattle.plain_world.specs.Effects.{after_command}
use Rattle.plain_world.specs.Following.{altered}
use Rattle.plain_world.specs.Refusals.{breach, refusal_of, unless, veto_of}
use Rattle.plain_world.specs.Steps.{Step}
use Rattle.plain_world.specs.Tables.{Name, entry, without_entry}
use Rattle.plain_world.specs.World as plain
use Rattle.plain_world.proofs.Restoring.{rest_sure}
use Rattle.plain_machine.specs.Built.{RefusedBy}
use Rattle.desk_names.specs.Rows.{Rows}
use Rattle.desk_world.specs.declared.world.World.{World}
use Rattle.desk_world.specs.Faults.{Is}
use Rattle.desk_world.specs.InStep.{HasStamps, IsInStep}
use Rattle.desk_world.specs.Leaving.{AreAltered}
use Rattle.desk_world.specs.Plain.{plain_of}
use Rattle.desk_world.proofs.Demanded.{fault_of, met, not_met}
use Rattle.desk_world.proofs.NamedRows.{Stands}
use Rattle.desk_world.proofs.RestoreMaking.{IsMade, few, takes}
use Rattle.desk_world.proofs.RestoredWorlds.{restored_follows, restored_in_step}
use Rattle.desk_world.proofs.SnapCommands.{none_there, row_there}
use Rattle.desk_world.proofs.SnapRows.{with_snaps}
use Rattle.desk_world.proofs.SnapsFollow.{copy_if}
use Rattle.desk_world.proofs.SnapsFound.{snap_found}
use Rattle.desk_world.proofs.StampsOf.{few_stamps}
use Rattle.desk_world.proofs.VetoesTold.{unvetoed}

-- ---- the plain command

-- the snapshot goes from the world
abbrev pub without_snapshot : plain.World → Name → plain.World
without_snapshot world name =
    record world { snapshots = without_entry world.snapshots name }

abbrev pub restore_demands : Name → List Demand
restore_demands name =
    demand.There demand.Snapshots name ∷ demand.IsValid name ∷ []

module _ (world : plain.World) (name : Name) (copy : Copy)
    (found : entry world.snapshots name ≡ Some (Some copy))
    (meets : fault_of world (restore_demands name) ≡ None) where
  abbrev asked : Command
  asked = commands.Restore name

  alters : alteration_of world asked ≡ Some (restoring copy)
  alters = ap (λ o. option_map restoring (option_and_then (λ (o : Option Copy). o) o)) found

  refusal : refusal_of world asked ≡ veto_of world (restoring copy)
  refusal = λ i. option_or (meets i) (option_and_then (veto_of world) (alters i))

  pub restore_answered : (later : plain.World) → veto_of world (restoring copy) ≡ None
      → later ≡ without_snapshot (altered world (restoring copy)) name
      → Step world asked (Answered Quiet) later
  restore_answered later none is = (
    refusal ∙ none,
    (
      refl,
      is ∙ (λ i. after_command (option_map_or (altered world) (sym alters i) world) asked),
    ),
  )

  pub restore_vetoed : (later : plain.World) (fault : StepFault)
      → Is (veto_of world (restoring copy)) fault → later ≡ world
      → RefusedBy world asked later fault
  restore_vetoed later (step_faults.Refused f) is same = (refusal ∙ is, same)
  restore_vetoed later step_faults.Memory is same = same

-- ---- its demands

module _ {O : Type 0} (watch : O → Watched) (w : World O) (in_step : IsInStep watch w)
    (name : Name) where
  abbrev world : plain.World
  world = plain_of watch w

  abbrev c : ChainsSeen
  c = chains_seen watch w.graph.chains

  pub none_known : entry w.snapshots.rows name ≡ None → (fault : StepFault)
      → Is (Some (faults.Unknown name)) fault
      → Is (fault_of world (restore_demands name)) fault
  none_known none fault is =
      not_met world (demand.There demand.Snapshots name) (demand.IsValid name ∷ []) fault
      (subst (λ o. Is o fault) (sym (none_there watch w in_step.seats name none)) is)

  module _ (keys : SnapKeys) (row : entry w.snapshots.rows name ≡ Some keys) where
    validity : breach world (demand.IsValid name)
        ≡ unless (is_valid keys c) (faults.Stale name)
    validity =
        ap (option_and_then (λ (copy : Option Copy). unless (is_some copy) (faults.Stale name)))
        (snap_found watch w in_step.seats name keys row)
        ∙ by (is_valid keys c)
      where
        by : (b : Bool)
            → unless (is_some (copy_if b (saved_by keys (present_of w.graph.graph.graph) c)))
            (faults.Stale name)
            ≡ unless b (faults.Stale name)
        by true = refl
        by false = refl

    pub stale_known : is_valid keys c ≡ false → (fault : StepFault)
        → Is (Some (faults.Stale name)) fault → Is (fault_of world (restore_demands name)) fault
    stale_known stale fault is =
        met world (demand.There demand.Snapshots name) (demand.IsValid name ∷ []) fault
        (row_there watch w in_step.seats name keys row)
        (not_met world (demand.IsValid name) [] fault
        (subst (λ o. Is o fault)
        (sym (validity ∙ ap (λ b. unless b (faults.Stale name)) stale)) is))

    pub valid_known : is_valid keys c ≡ true → fault_of world (restore_demands name) ≡ None
    valid_known valid =
        let there = row_there watch w in_step.seats name keys row in
        let ok = validity ∙ ap (λ b. unless b (faults.Stale name)) valid in
        λ i. option_or (there i) (option_or (ok i) None)

-- ---- it was refused, or done

module _ {O : Type 0} (watch : O → Watched) (w : World O) (in_step : IsInStep watch w)
    (name : Name) (keys : SnapKeys) (row : entry w.snapshots.rows name ≡ Some keys)
    (valid : is_valid keys (chains_seen watch w.graph.chains) ≡ true)
    (made : IsMade watch w name keys) where
  abbrev g : Digraph
  g = w.graph.graph.graph

  -- a valid snapshot isn't stale
  pub restore_refuses : (a : AlterOf O) (why : AlterFault)
      → LeavesAll keys (state_of watch w.graph) (state_of watch a) why
      → Refuses (restoring (copy_of made.making)) (state_of watch w.graph) (state_of watch a) why
  restore_refuses a (alter.Vetoed sort key) is = is.1.refuses made.making made.is
  restore_refuses a alter.SameNode is = absurd is
  restore_refuses a (alter.Full limit) is = is.2.refuses made.making made.is
  restore_refuses a alter.Stale is = absurd (true≢false (sym valid ∙ is.0))
  restore_refuses a alter.Memory is =
      record { same = is.same; refused = tt; in_step = is.in_step }

  module _ (left : HasStamps w) (rows : Rows SnapKeys) (a : AlterOf O)
      (less : rows.rows ≡ without_entry w.snapshots.rows name)
      (at : Stands w.snapshots.rows name keys)
      (restores : Restores keys (state_of watch w.graph) (state_of watch a)) where
    abbrev steps : Alteration
    steps = restoring (copy_of made.making)

    pub record IsRestored : Type 0 where
      pub seats : AreAltered watch (with_snaps w rows a)
      pub plain : plain_of watch (with_snaps w rows a)
          ≡ without_snapshot (altered (plain_of watch w) steps) name
      pub free : veto_of (plain_of watch w) steps ≡ None
      pub stamps : a.graph.graph.stamps < g.stamps + 16777216

    pub is_restored : IsRestored
    is_restored =
        let happens = restores.happens made.making made.is in
        let all = all_steps g steps in
        let can = takes watch w in_step name keys row valid made left in
        record {
          seats = restored_in_step watch w rows a name keys in_step less at all restores.restored
              happens.goes can restores.graph restores.gone restores.in_step;
          plain = restored_follows watch w rows a name keys in_step less at all restores.restored
              happens.goes can restores.graph restores.gone restores.in_step;
          free = unvetoed watch w in_step.seats (refusable_steps g steps) happens.passes;
          stamps = few_stamps g a.graph.graph steps
              (rest_sure made.making (after_steps g (refusable_steps g steps)))
              (few watch w in_step name keys row valid made left)
              (restores.graph
              ∙ graph_on all (state_of watch w.graph) restores.restored happens.goes.took);
        }
