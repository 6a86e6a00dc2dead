-- A world after an alteration of its digraph, done or refused.
use Rattle.std.proofs.Common.{◌≡◌, ◌+◌, ◌<◌, ◌≤◌, ◌*◌, [], refl, sym, ap, subst, ◌∙◌, length}
use Rattle.std.proofs.Common.{None, List, ◌∷◌, arith}
use Rattle.std.specs.Prelude.{option_map}
use Rattle.base_items.specs.declared.limits.TheConstants.{MAX_ARCS}
use Rattle.report_text.specs.declared.faults.Fault.TheVariants as faults
use Rattle.report_text.specs.declared.faults.StepFault.{StepFault}
use Rattle.plain_digraph.specs.Digraph.{Digraph}
use Rattle.plain_digraph.specs.Lists.{AllOf}
use Rattle.plain_digraph.specs.PlainSteps.{PlainStep, after_steps}
use Rattle.plain_digraph.specs.Alterations.{Alteration, all_steps, refusable_steps, unrolled}
use Rattle.observe_core.specs.Seen.{Watched}
use Rattle.alter_graph.specs.declared.faults.AlterFault.{AlterFault}
use Rattle.alter_graph.specs.Chains.{chains_seen}
use Rattle.alter_graph.specs.Outcome.{Happens, Refuses, Refused}
use Rattle.alter_graph.specs.Room.{HasRoomFor}
use Rattle.alter_graph.specs.State.{AlterOf, State, state_of}
use Rattle.alter_graph.specs.Steps as taken
use Rattle.alter_graph.specs.Steps.{took}
use Rattle.alter_graph.specs.Verdict.{guards_of}
use Rattle.alter_graph.proofs.Parting.{guards_same}
use Rattle.plain_world.specs.World as plain
use Rattle.plain_world.specs.Following.{altered}
use Rattle.plain_world.specs.Refusals.{veto_of}
use Rattle.plain_world.proofs.StepsKept.{IsSure}
use Rattle.desk_world.specs.declared.world.World.{World}
use Rattle.desk_world.specs.Faults.{Is}
use Rattle.desk_world.specs.InStep.{AreInStep, IsInStep}
use Rattle.desk_world.specs.Leaving.{AreAltered}
use Rattle.desk_world.specs.Plain.{plain_of}
use Rattle.desk_world.specs.Vetoes.{AreRefused, veto_of_steps}
use Rattle.desk_world.proofs.Altered.{altered_in_step, altered_follows}
use Rattle.desk_world.proofs.StampsOf.{few_stamps}
use Rattle.desk_world.proofs.Takes.{TakesAll}
use Rattle.desk_world.proofs.Unchanged.{still_in_step, plain_still}
use Rattle.desk_world.proofs.VetoesTold.{passes}

module _ {O : Type 0} (watch : O → Watched) (w : World O) (a : AlterOf O)
    (alteration : Alteration) (in_step : IsInStep watch w) where
  abbrev g : Digraph
  g = w.graph.graph.graph

  abbrev world : plain.World
  world = plain_of watch w

  abbrev later : World O
  later = record w { graph = a }

  -- ---- it was done

  -- all is in step but for guards that left, and the plain world is altered
  pub record IsDone : Type 0 where
    pub seats : AreAltered watch later
    pub plain : plain_of watch later ≡ altered world alteration
    pub unvetoed : veto_of world alteration ≡ None

  pub is_done : TakesAll (all_steps g alteration) g
      → Happens alteration (state_of watch w.graph) (state_of watch a) → IsDone
  is_done takes happens = record {
    seats = altered_in_step watch w a (all_steps g alteration) in_step.seats happens.goes takes;
    plain = altered_follows watch w a (all_steps g alteration) in_step.seats happens.goes takes
        in_step.valid;
    unvetoed = ap (option_map (λ guard. faults.Vetoed guard.name))
        (passes watch w in_step.seats g (refusable_steps g alteration) happens.passes);
  }

  -- the stamps of a digraph that is the one after it
  pub stamps_after : AllOf IsSure
      (unrolled (after_steps g (refusable_steps g alteration)) alteration.sure)
      → length (refusable_steps g alteration) ≤ 2 * MAX_ARCS
      → Happens alteration (state_of watch w.graph) (state_of watch a)
      → a.graph.graph.stamps < g.stamps + 16777216
  stamps_after sure few happens =
      few_stamps g a.graph.graph alteration sure few
      (happens.goes.took.graph ∙ steps_of (all_steps g alteration) (state_of watch w.graph))
    where
      steps_of : (steps : List PlainStep) (s : State)
          → (taken.altered steps s).graph ≡ after_steps s.graph steps
      steps_of [] s = refl
      steps_of (step ∷ steps) s = steps_of steps (took step s)

  -- ---- it was refused

  module _ (why : AlterFault) (room : HasRoomFor (refusable_steps g alteration) g)
      (stays : Refuses alteration (state_of watch w.graph) (state_of watch a) why) where
    pub seats_stay : AreInStep watch later
    seats_stay = still_in_step watch w a in_step.seats stays.same stays.in_step

    pub plain_stays : plain_of watch later ≡ world
    plain_stays = plain_still watch w a in_step.seats stays.same stays.in_step

    -- the digraph refused the steps for this reason
    pub are_refused : AreRefused watch later why (refusable_steps g alteration)
    are_refused =
        let steps = refusable_steps g alteration in
        let graph = stays.same.graph in
        let guards = guards_same (state_of watch w.graph) (state_of watch a) stays.same in
        record {
          room = subst (HasRoomFor steps) (sym graph) room;
          refused = subst (λ d. Refused (guards_of (chains_seen watch a.chains)) steps d why)
              (sym graph)
              (subst (λ gs. Refused gs steps g why) (sym guards) stays.refused);
        }

    -- so the veto of the world is the fault
    pub veto_is : (fault : StepFault)
        → Is (veto_of_steps (plain_of watch later) (refusable_steps g alteration)) fault
        → Is (veto_of world alteration) fault
    veto_is fault is =
        subst (λ v. Is (veto_of_steps v (refusable_steps g alteration)) fault) plain_stays is

    pub stamps_stay : a.graph.graph.stamps < g.stamps + 16777216
    stamps_stay =
        let same = ap (λ (d : Digraph). d.stamps) stays.same.graph in
        omega (arith, same)
