-- A world that is made ready for one more snapshot, and what snap leaves.
use Rattle.std.proofs.Common.{◌≡◌, ◌+◌, ◌<◌, ◌++◌, map, sym, ap, ◌∙◌, subst, arith, None}
use Rattle.std.specs.List.{flat_map}
use Rattle.script_words.specs.declared.commands.Command.TheVariants as commands
use Rattle.report_text.specs.declared.replies.Reply.TheVariants.{Quiet}
use Rattle.plain_digraph.specs.Digraph.{Digraph}
use Rattle.observe_core.specs.Seen.{Watched}
use Rattle.alter_graph.specs.declared.snaps.SnapKeys.{SnapKeys}
use Rattle.alter_graph.specs.Chains.{chains_seen}
use Rattle.alter_graph.specs.Snapping.{Makes}
use Rattle.alter_graph.specs.State as graph
use Rattle.alter_graph.specs.State.{AlterOf, IsSame, state_of}
use Rattle.plain_world.specs.declared.answers.Answer.TheVariants.{Answered}
use Rattle.plain_world.specs.Demands as demand
use Rattle.plain_world.specs.Refusals.{breach}
use Rattle.plain_world.specs.Steps.{Step}
use Rattle.plain_world.specs.Tables.{Name, Named, with_entry}
use Rattle.plain_world.specs.Valid.{IsWorld}
use Rattle.desk_names.specs.Rows.{Rows}
use Rattle.desk_world.specs.declared.world.World.{World}
use Rattle.desk_world.specs.InStep.{AreInStep, AreSeated, HasStamps, IsInStep}
use Rattle.desk_world.specs.Looks.{looked}
use Rattle.desk_world.specs.Plain.{look_of, plain_of, snapshot_seen}
use Rattle.desk_world.proofs.SnapCommands.{snap_answered, snap_valid, snapped}
use Rattle.desk_world.proofs.SnapRows.{claims_before, claims_now, others, with_snaps}
use Rattle.desk_world.proofs.SnapsComing.{more_in_step, snap_came}
use Rattle.desk_world.specs.Claims.{snap_claims}
use Rattle.desk_world.proofs.Unchanged.{plain_still, still_in_step}

module _ {O : Type 0} (watch : O → Watched) (w : World O) (in_step : IsInStep watch w)
    (rows : Rows SnapKeys) where
  -- ---- with the same rows

  module _ (same : rows.rows ≡ w.snapshots.rows) where
    abbrev pub ready : World O
    ready = record w { snapshots = rows }

    pub ready_plain : plain_of watch ready ≡ plain_of watch w
    ready_plain =
        let g : Digraph = w.graph.graph.graph in
        ap (λ table. record (plain_of watch w) {
          snapshots = looked (snapshot_seen g (look_of watch w)) table;
        }) same

    ready_seats : AreInStep watch ready
    ready_seats = record {
      graph = in_step.seats.graph;
      seated = subst (λ list. AreSeated list (chains_seen watch w.graph.chains))
          (claims_before w ∙ ap (λ table. others w ++ flat_map snap_claims table) (sym same)
          ∙ sym (claims_now w rows w.graph)) in_step.seats.seated;
      boxes = in_step.seats.boxes;
      snaps = in_step.seats.snaps ∙ sym (ap (map (λ (e : Named SnapKeys). e.value)) same);
      derived = in_step.seats.derived;
      kept = in_step.seats.kept;
    }

    pub ready_in_step : IsInStep watch ready
    ready_in_step = record {
      seats = ready_seats;
      valid = subst IsWorld (sym ready_plain) in_step.valid;
    }

    -- no snapshot came
    module _ (a : AlterOf O) (still : IsSame (state_of watch w.graph) (state_of watch a))
        (then : graph.IsInStep (state_of watch a)) where
      pub unmade_plain : plain_of watch (record ready { graph = a }) ≡ plain_of watch w
      unmade_plain = plain_still watch ready a ready_seats still then ∙ ready_plain

      pub unmade_in_step : IsInStep watch (record ready { graph = a })
      unmade_in_step = record {
        seats = still_in_step watch ready a ready_seats still then;
        valid = subst IsWorld (sym unmade_plain) in_step.valid;
      }

      pub unmade_stamps : a.graph.graph.stamps < w.graph.graph.graph.stamps + 16777216
      unmade_stamps =
          let same = ap (λ (d : Digraph). d.stamps) still.graph in
          omega (arith, same)

  -- ---- with one row more

  module _ (left : HasStamps w) (a : AlterOf O) (name told : Name) (keys : SnapKeys)
      (own : told ≡ name)
      (free : breach (plain_of watch w) (demand.New demand.Snapshots name) ≡ None)
      (put : rows.rows ≡ with_entry w.snapshots.rows told keys)
      (makes : Makes keys (state_of watch w.graph) (state_of watch a))
      (then : graph.IsInStep (state_of watch a)) where
    pub made_step : Step (plain_of watch w) (commands.Snap name) (Answered Quiet)
        (plain_of watch (with_snaps w rows a))
    made_step =
        snap_answered (plain_of watch w) name (plain_of watch (with_snaps w rows a)) free
        (snap_came watch w rows a told keys in_step.seats put makes makes.node_new makes.arc_new
        then ∙ ap (snapped (plain_of watch w)) own)

    pub made_in_step : IsInStep watch (with_snaps w rows a)
    made_in_step = record {
      seats = more_in_step watch w rows a told keys in_step.seats put makes makes.node_new
          makes.arc_new then;
      valid = snap_valid (plain_of watch w) name (plain_of watch (with_snaps w rows a))
          in_step.valid left made_step;
    }

    pub made_stamps : a.graph.graph.stamps < w.graph.graph.graph.stamps + 16777216
    made_stamps =
        let same = ap (λ (d : Digraph). d.stamps) makes.graph in
        omega (arith, same)
