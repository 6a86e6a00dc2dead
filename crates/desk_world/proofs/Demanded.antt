-- The refusal of a command, from what is known of its demands.
use Rattle.std.proofs.Common.{◌≡◌, List, ◌∷◌, map, refl, sym, ap, subst, Option, Some}
use Rattle.std.proofs.Common.{None, ◌∙◌}
use Rattle.std.specs.Prelude.{option_and_then}
use Rattle.std.specs.Option.{option_or}
use Rattle.script_words.specs.declared.commands.Command.{Command}
use Rattle.report_text.specs.declared.faults.Fault.{Fault}
use Rattle.report_text.specs.declared.faults.StepFault.{StepFault}
use Rattle.report_text.specs.declared.faults.StepFault.TheVariants as faults
use Rattle.plain_digraph.specs.Alterations.{Alteration, refusable_steps}
use Rattle.plain_digraph.specs.PlainSteps.{PlainStep}
use Rattle.plain_world.specs.World.{World}
use Rattle.plain_world.specs.Demands.{Demand, demands}
use Rattle.plain_world.specs.Refusals.{breach, first_of, refusal_of, veto_of}
use Rattle.plain_world.specs.Altering.{alteration_of}
use Rattle.plain_machine.specs.Built.{RefusedBy}
use Rattle.desk_world.specs.Faults.{Is}
use Rattle.desk_world.specs.Vetoes.{veto_of_steps}

module _ (world : World) where
  -- the first fault of some demands
  abbrev pub fault_of : List Demand → Option Fault
  fault_of demands = first_of (map (breach world) demands)

  -- the first of them isn't met
  pub not_met : (d : Demand) (ds : List Demand) (fault : StepFault) → Is (breach world d) fault
      → Is (fault_of (d ∷ ds)) fault
  not_met d ds (faults.Refused f) is = ap (λ o. option_or o (fault_of ds)) is
  not_met d ds faults.Memory is = tt

  -- the first of them is met, and the fault is one of the others
  pub met : (d : Demand) (ds : List Demand) (fault : StepFault) → breach world d ≡ None
      → Is (fault_of ds) fault → Is (fault_of (d ∷ ds)) fault
  met d ds (faults.Refused f) none is = ap (λ o. option_or o (fault_of ds)) none ∙ is
  met d ds faults.Memory none is = tt

  -- a command is refused by the first fault of its demands
  pub refused : (command : Command) (fault : StepFault) → Is (fault_of (demands command)) fault
      → RefusedBy world command world fault
  refused command (faults.Refused f) is = (
    ap (λ o. option_or o
        (option_and_then (veto_of world) (alteration_of world command))) is,
    refl,
  )
  refused command faults.Memory is = refl

  -- ---- demands that are met

  pub both_met : (d : Demand) (ds : List Demand) → breach world d ≡ None → fault_of ds ≡ None
      → fault_of (d ∷ ds) ≡ None
  both_met d ds one others = ap (λ o. option_or o (fault_of ds)) one ∙ others

  module _ (command : Command) (alteration : Alteration)
      (all_met : fault_of (demands command) ≡ None)
      (asks : alteration_of world command ≡ Some alteration) where
    only_veto : refusal_of world command ≡ veto_of world alteration
    only_veto = λ i. option_or (all_met i) (option_and_then (veto_of world) (asks i))

    -- the command is refused by the veto of its alteration
    pub vetoed : (fault : StepFault) → Is (veto_of world alteration) fault
        → RefusedBy world command world fault
    vetoed (faults.Refused f) is = (only_veto ∙ is, refl)
    vetoed faults.Memory is = refl

    -- where nobody vetoes it, it isn't refused
    pub not_vetoed : veto_of world alteration ≡ None → refusal_of world command ≡ None
    not_vetoed none = only_veto ∙ none

-- the same said of the world by which the steps were told
pub told_then : (world later : World) (command : Command) (alteration : Alteration)
    (steps : List PlainStep) (fault : StepFault) → later ≡ world
    → fault_of world (demands command) ≡ None → alteration_of world command ≡ Some alteration
    → steps ≡ refusable_steps world.graph alteration → Is (veto_of_steps later steps) fault
    → RefusedBy world command later fault
told_then world later command alteration steps fault same all_met asks are is =
    subst (λ w. RefusedBy world command w fault) (sym same)
    (vetoed world command alteration all_met asks fault
    (subst (λ o. Is o fault) (λ i. veto_of_steps (same i) (are i)) is))

pub no_veto : (world now : World) (steps asked : List PlainStep) → now ≡ world → steps ≡ asked
    → veto_of_steps now steps ≡ None → veto_of_steps world asked ≡ None
no_veto world now steps asked same are none = sym (λ i. veto_of_steps (same i) (are i)) ∙ none
