-- What a command answers that alters the digraph, and the world that it leaves.
use Rattle.std.proofs.Common.{◌≡◌, ◌+◌, ◌*◌, ◌≤◌, List, [], ◌∷◌, ◌++◌, length, refl, sym, ap}
use Rattle.std.proofs.Common.{subst, ◌∙◌}
use Rattle.std.proofs.Common.{Option, Some, None, Result, Ok, Err, arith}
use Rattle.std.specs.Prelude.{option_and_then}
use Rattle.std.specs.Option.{option_map_or, option_or}
use Rattle.base_items.specs.declared.items.ItemSort.{ItemSort}
use Rattle.base_items.specs.declared.limits.TheConstants.{MAX_ARCS, MAX_STAMP}
use Rattle.script_words.specs.declared.commands.Command.{Command}
use Rattle.script_words.specs.Valid as script
use Rattle.report_text.specs.declared.faults.StepFault.{StepFault}
use Rattle.report_text.specs.declared.faults.StepFault.TheVariants as faults
use Rattle.report_text.specs.declared.replies.Reply.{Reply}
use Rattle.report_text.specs.declared.replies.Reply.TheVariants.{Quiet}
use Rattle.plain_digraph.specs.Alterations.{Alteration, refusable_steps}
use Rattle.observe_core.specs.Seen.{Watched}
use Rattle.plain_world.specs.declared.answers.Answer.TheVariants as answers
use Rattle.plain_world.specs.Tables.{Name}
use Rattle.plain_world.specs.World.{World}
use Rattle.plain_world.specs.Following.{altered}
use Rattle.plain_world.specs.Demands.{Demand, demands}
use Rattle.plain_world.specs.Altering.{alteration_of}
use Rattle.plain_world.specs.Refusals.{breach, veto_of, refusal_of}
use Rattle.plain_world.specs.Laws.{stamps_taken}
use Rattle.plain_world.specs.Steps.{Does}
use Rattle.plain_world.specs.Valid.{IsWorld}
use Rattle.plain_world.proofs.CommandsKept.{commands_kept}
use Rattle.plain_world.proofs.StampsTaken.{few_taken}
use Rattle.desk_world.specs.declared.world.World as desk
use Rattle.desk_world.specs.Edits.{Edits, Happened, Stopped, with_labels}
use Rattle.desk_world.specs.Faults.{Is, Answers}
use Rattle.desk_world.specs.InStep.{AreInStep, HasStamps, IsInStep}
use Rattle.desk_world.specs.Plain.{plain_of}
use Rattle.desk_world.proofs.Demanded.{fault_of}

-- ---- demands in two parts

or_assoc : {X : Type 0} (a b c : Option X)
    → option_or (option_or a b) c ≡ option_or a (option_or b c)
or_assoc None b c = refl
or_assoc (Some x) b c = refl

pub in_two : (world : World) (front back : List Demand)
    → fault_of world (front ++ back) ≡ option_or (fault_of world front) (fault_of world back)
in_two world [] back = refl
in_two world (d ∷ front) back =
    ap (option_or (breach world d)) (in_two world front back)
    ∙ sym (or_assoc (breach world d) (fault_of world front) (fault_of world back))

-- a fault of the first part is one of all
pub in_front : (world : World) (front back : List Demand) (fault : StepFault)
    → Is (fault_of world front) fault → Is (fault_of world (front ++ back)) fault
in_front world front back (faults.Refused f) is =
    in_two world front back ∙ ap (λ o. option_or o (fault_of world back)) is
in_front world front back faults.Memory is = tt

-- where the first part is met, so is one of the second
pub behind : (world : World) (front back : List Demand) (fault : StepFault)
    → fault_of world front ≡ None → Is (fault_of world back) fault
    → Is (fault_of world (front ++ back)) fault
behind world front back (faults.Refused f) met is =
    in_two world front back ∙ ap (λ o. option_or o (fault_of world back)) met ∙ is
behind world front back faults.Memory met is = tt

-- ---- the answer

-- after the alteration and the labels of new items the command does nothing more, and tells nothing
abbrev pub LeadsTo : World → Command → List (ItemSort × Name) → Type 0
LeadsTo world command labels = (reply : Reply) (later : World) → reply ≡ Quiet
    → later ≡ with_labels world.graph labels
    (option_map_or (altered world) (alteration_of world command) world)
    → Does world command reply later

module _ (world later : World) (command : Command) (front back : List Demand)
    (alteration : Alteration) (labels : List (ItemSort × Name))
    (asks : demands command ≡ front ++ back)
    (alters : alteration_of world command ≡ Some alteration) (met : fault_of world front ≡ None)
    (leads : LeadsTo world command labels) where
  refusal : refusal_of world command
      ≡ option_or (option_or (fault_of world front) (fault_of world back))
      (veto_of world alteration)
  refusal =
      let all = ap (fault_of world) asks ∙ in_two world front back in
      λ i. option_or (all i) (option_and_then (veto_of world) (alters i))

  done : (reply : Reply) → Happened world back alteration labels later reply
      → Answers world command later (Ok reply)
  done reply is = (
    refusal ∙ (λ i. option_or (option_or (met i) (is.met i)) (is.unvetoed i)),
    leads reply later is.quiet
        (is.world ∙ (λ i. with_labels world.graph labels
        (option_map_or (altered world) (sym alters i) world))),
  )

  stopped : (fault : StepFault) → Stopped world back alteration later fault
      → Answers world command later (Err fault)
  stopped faults.Memory is = is.same
  stopped (faults.Refused f) is = (
    refusal
        ∙ ap (λ o. option_or (option_or o (fault_of world back)) (veto_of world alteration)) met
        ∙ is.why,
    is.same,
  )

  pub edited : (result : Result Reply StepFault)
      → Edits world back alteration labels later result → Answers world command later result
  edited (Ok reply) is = done reply is
  edited (Err fault) is = stopped fault is

-- ---- an alteration that isn't tried

-- a demand isn't met
pub unmet_edits : (world : World) (ds : List Demand) (alteration : Alteration)
    (labels : List (ItemSort × Name)) (fault : StepFault) → Is (fault_of world ds) fault
    → Edits world ds alteration labels world (Err fault)
unmet_edits world ds alteration labels fault is = record { why = first fault is; same = refl }
  where
    first : (f : StepFault) → Is (fault_of world ds) f
        → Is (option_or (fault_of world ds) (veto_of world alteration)) f
    first (faults.Refused f) one = ap (λ o. option_or o (veto_of world alteration)) one
    first faults.Memory one = tt

-- memory ran out
pub memory_edits : (world later : World) (ds : List Demand) (alteration : Alteration)
    (labels : List (ItemSort × Name)) → later ≡ world
    → Edits world ds alteration labels later (Err faults.Memory)
memory_edits world later ds alteration labels same = record { why = tt; same = same }

-- ---- the world that is left

pub enough : (world : World) (command : Command) → IsWorld world
    → world.graph.stamps + 16777216 ≤ MAX_STAMP
    → world.graph.stamps + stamps_taken world command ≤ MAX_STAMP
enough world command ok left =
    let few = few_taken world command ok in omega (arith, left, few)

pub still_world : (world later : World) (command : Command) → IsWorld world
    → script.IsValid command → world.graph.stamps + 16777216 ≤ MAX_STAMP
    → (result : Result Reply StepFault) → Answers world command later result → IsWorld later
still_world world later command ok valid left (Ok reply) step =
    commands_kept world later command (answers.Answered reply) ok valid
    (enough world command ok left) step
still_world world later command ok valid left (Err (faults.Refused f)) step =
    commands_kept world later command (answers.Refused f) ok valid
    (enough world command ok left) step
still_world world later command ok valid left (Err faults.Memory) same =
    subst IsWorld (sym same) ok

-- an alteration that a command asks for takes few stamps
pub few_asked : (world : World) (command : Command) (alteration : Alteration) → IsWorld world
    → alteration_of world command ≡ Some alteration
    → length (refusable_steps world.graph alteration) ≤ 2 * MAX_ARCS
few_asked world command alteration ok alters =
    subst (λ o. option_map_or (λ a. length (refusable_steps world.graph a)) o 0 ≤ 2 * MAX_ARCS)
    alters (few_taken world command ok)

-- ---- all that a command answers

pub record Ends {O : Type 0} (watch : O → Watched) (w last : desk.World O) (command : Command)
    (result : Result Reply StepFault) : Type 0 where
  pub step : Answers (plain_of watch w) command (plain_of watch last) result
  pub in_step : IsInStep watch last

pub ends : {O : Type 0} (watch : O → Watched) (w last : desk.World O) (command : Command)
    (front back : List Demand) (alteration : Alteration) (labels : List (ItemSort × Name))
    → IsInStep watch w → HasStamps w → script.IsValid command
    → demands command ≡ front ++ back
    → alteration_of (plain_of watch w) command ≡ Some alteration
    → fault_of (plain_of watch w) front ≡ None → LeadsTo (plain_of watch w) command labels
    → AreInStep watch last → (result : Result Reply StepFault)
    → Edits (plain_of watch w) back alteration labels (plain_of watch last) result
    → Ends watch w last command result
ends watch w last command front back alteration labels ok left valid asks alters met leads seats
    result is =
    let step = edited (plain_of watch w) (plain_of watch last) command front back alteration labels
    asks alters met leads result is in
    record {
      step = step;
      in_step = record {
        seats = seats;
        valid = still_world (plain_of watch w) (plain_of watch last) command ok.valid valid left
            result step;
      };
    }
