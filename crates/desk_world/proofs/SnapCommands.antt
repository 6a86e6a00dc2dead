-- The commands on snapshots, from the calls of which they consist.
use Rattle.std.proofs.Common.{◌≡◌, Bool, true, false, not, [], refl, sym, ap, ◌∙◌, None, Some}
use Rattle.std.proofs.Common.{◌+◌, ◌^◌, ◌≤◌, is_some}
use Rattle.std.specs.Option.{option_or}
use Rattle.std.proofs.lemmas.Option.{none-some}
use Rattle.base_items.specs.declared.limits.TheConstants.{MAX_STAMP}
use Rattle.script_words.specs.declared.commands.Command.TheVariants as commands
use Rattle.report_text.specs.declared.faults.Fault.{Fault}
use Rattle.report_text.specs.declared.faults.Fault.TheVariants as faults
use Rattle.report_text.specs.declared.faults.StepFault.{StepFault}
use Rattle.report_text.specs.declared.replies.Reply.TheVariants.{Quiet}
use Rattle.plain_digraph.specs.Copies.{copy_of}
use Rattle.observe_core.specs.Seen.{Watched}
use Rattle.alter_graph.specs.declared.snaps.SnapKeys.{SnapKeys}
use Rattle.plain_world.specs.declared.answers.Answer.TheVariants.{Answered}
use Rattle.plain_world.specs.Tables.{Name, entry, has_entry, with_entry, without_entry}
use Rattle.plain_world.specs.World as plain
use Rattle.plain_world.specs.Demands as demand
use Rattle.plain_world.specs.Refusals.{breach, unless}
use Rattle.plain_world.specs.Steps.{Step}
use Rattle.plain_world.specs.Valid.{IsWorld}
use Rattle.plain_machine.specs.Built.{RefusedBy}
use Rattle.plain_world.proofs.CommandsKept.{commands_kept}
use Rattle.desk_world.specs.declared.world.World.{World}
use Rattle.desk_world.specs.Faults.{Is}
use Rattle.desk_world.specs.InStep.{AreInStep}
use Rattle.desk_world.specs.Plain.{plain_of}
use Rattle.desk_world.proofs.Demanded.{refused, not_met}
use Rattle.desk_world.proofs.MapCommands.{left}
use Rattle.desk_world.proofs.SnapsFound.{snap_there, snap_found}

-- ---- the plain commands

module _ (world : plain.World) (name : Name) where
  pub snap_refused : (fault : StepFault)
      → Is (breach world (demand.New demand.Snapshots name)) fault
      → RefusedBy world (commands.Snap name) world fault
  snap_refused fault is =
      refused world (commands.Snap name) fault
      (not_met world (demand.New demand.Snapshots name) [] fault is)

  -- the snapshot is the newest
  abbrev pub snapped : plain.World
  snapped = record world {
    snapshots = with_entry world.snapshots name (Some (copy_of world.graph));
  }

  pub snap_answered : (later : plain.World)
      → breach world (demand.New demand.Snapshots name) ≡ None → later ≡ snapped
      → Step world (commands.Snap name) (Answered Quiet) later
  snap_answered later new is = (
    (λ i. option_or (option_or (new i) None) None),
    (refl, is),
  )

  pub forget_refused : (fault : StepFault)
      → Is (breach world (demand.There demand.Snapshots name)) fault
      → RefusedBy world (commands.Forget name) world fault
  forget_refused fault is =
      refused world (commands.Forget name) fault
      (not_met world (demand.There demand.Snapshots name) [] fault is)

  -- the snapshot is gone
  abbrev pub forgot : plain.World
  forgot = record world { snapshots = without_entry world.snapshots name }

  pub forget_answered : (later : plain.World)
      → breach world (demand.There demand.Snapshots name) ≡ None → later ≡ forgot
      → Step world (commands.Forget name) (Answered Quiet) later
  forget_answered later there is = (
    (λ i. option_or (option_or (there i) None) None),
    (refl, is),
  )

  -- they leave a valid world
  module _ (later : plain.World) (ok : IsWorld world)
      (enough : world.graph.stamps + 2 ^ 24 ≤ MAX_STAMP) where
    pub snap_valid : Step world (commands.Snap name) (Answered Quiet) later → IsWorld later
    snap_valid step =
        commands_kept world later (commands.Snap name) (Answered Quiet) ok tt (left world enough)
        step

    pub forget_valid : Step world (commands.Forget name) (Answered Quiet) later → IsWorld later
    forget_valid step =
        commands_kept world later (commands.Forget name) (Answered Quiet) ok tt (left world enough)
        step

-- ---- demands

unless_met : (b : Bool) (fault : Fault) → unless (not b) fault ≡ None → b ≡ false
unless_met true fault is = absurd (none-some fault (sym is))
unless_met false fault is = refl

module _ {O : Type 0} (watch : O → Watched) (w : World O) (in_step : AreInStep watch w)
    (name : Name) where
  -- the name is new to the table too
  pub new_row : breach (plain_of watch w) (demand.New demand.Snapshots name) ≡ None
      → (told : Name) → told ≡ name → has_entry w.snapshots.rows told ≡ false
  new_row free told own =
      ap (has_entry w.snapshots.rows) own ∙ sym (snap_there watch w in_step name)
      ∙ unless_met (has_entry (plain_of watch w).snapshots name) (faults.Taken name) free

  -- the snapshot of a row is there, and no row, no snapshot
  pub row_there : (keys : SnapKeys) → entry w.snapshots.rows name ≡ Some keys
      → breach (plain_of watch w) (demand.There demand.Snapshots name) ≡ None
  row_there keys found =
      ap (λ o. unless (is_some o) (faults.Unknown name))
      (snap_found watch w in_step name keys found)

  pub none_there : entry w.snapshots.rows name ≡ None
      → breach (plain_of watch w) (demand.There demand.Snapshots name)
      ≡ Some (faults.Unknown name)
  none_there none =
      ap (λ b. unless b (faults.Unknown name)) (snap_there watch w in_step name ∙ ap is_some none)
