-- Lines that leave no choice are answered by whatever is picked.
use Rattle.std.proofs.Common.{◌≡◌, ℕ, ◌+◌, Bool, true, false, List, [], ◌∷◌, ◌++◌, subst}
use Rattle.std.specs.Prelude.{MatchBool}
use Rattle.edge_io.specs.Files.{Files}
use Rattle.token_text.specs.Lines.{is_passed_over}
use Rattle.plain_world.specs.declared.answers.Answer.{Answer}
use Rattle.plain_world.specs.Choices as choices
use Rattle.plain_world.specs.World.{World}
use Rattle.plain_machine.specs.Built.{Answers}
use Rattle.plain_machine.specs.Chosen.{Pick, PickedAnswers}
use Rattle.plain_machine.specs.Laws.{IsSure, AreSure, SureRunsAreOne, SureStopsAreOne}
use Rattle.plain_machine.specs.Runs.{Run, StoppedAt}
use Rattle.plain_machine.proofs.Once.{runs_once, stops_once}
use Rattle.plain_machine.proofs.Stepped.{nothing_picked, picked_once}

-- any pick will do
abbrev some : Pick
some world command = choices.None

-- one line, answered or passed over, and the rest of the run
line_picked : (world later : World) (number : ℕ) (line : List ℕ) (lines : List (List ℕ))
    (said : List (ℕ × Answer)) → IsSure line
    → ((mid : World) (others : List (ℕ × Answer)) → Run Answers mid (number + 1) lines others later
    → Run (PickedAnswers some) mid (number + 1) lines others later)
    → (b : Bool)
    → MatchBool b (Run Answers world (number + 1) lines said later)
    ((answer : Answer) × (others : List (ℕ × Answer)) × (mid : World)
    × (said ≡ (number, answer) ∷ others) × Answers world line answer mid
    × Run Answers mid (number + 1) lines others later)
    → MatchBool b (Run (PickedAnswers some) world (number + 1) lines said later)
    ((answer : Answer) × (others : List (ℕ × Answer)) × (mid : World)
    × (said ≡ (number, answer) ∷ others) × PickedAnswers some world line answer mid
    × Run (PickedAnswers some) mid (number + 1) lines others later)
line_picked world later number line lines said sure rest true run = rest world said run
line_picked world later number line lines said sure rest false run =
    let answered = nothing_picked some world run.2 line run.0 sure run.4 in
    (run.0, run.1, run.2, run.3, answered, rest run.2 run.1 run.5)

run_picked : (world later : World) (number : ℕ) (lines : List (List ℕ))
    (said : List (ℕ × Answer)) → AreSure lines → Run Answers world number lines said later
    → Run (PickedAnswers some) world number lines said later
run_picked world later number [] said sure run = run
run_picked world later number (line ∷ lines) said sure run =
    line_picked world later number line lines said sure.0
    (λ mid others. run_picked mid later (number + 1) lines others sure.1) (is_passed_over line) run

pub sure_runs : SureRunsAreOne
sure_runs world later after number lines said also sure one other =
    runs_once (PickedAnswers some) (picked_once some) world later after number lines said also
    (run_picked world later number lines said sure one)
    (run_picked world after number lines also sure other)

front_sure : (xs ys : List (List ℕ)) → AreSure (xs ++ ys) → AreSure xs
front_sure [] ys sure = tt
front_sure (x ∷ xs) ys sure = (sure.0, front_sure xs ys sure.1)

stop_picked : (world : World) (files : Files) (lines : List (List ℕ)) (part out : List ℕ)
    → AreSure lines → StoppedAt Answers world files lines part out
    → StoppedAt (PickedAnswers some) world files lines part out
stop_picked world files lines part out sure stop = record {
  before = stop.before;
  line = stop.line;
  after = stop.after;
  split = stop.split;
  asked = stop.asked;
  answers = stop.answers;
  mid = stop.mid;
  ran = run_picked world stop.mid 1 stop.before stop.answers
      (front_sure stop.before (stop.line ∷ stop.after) (subst AreSure stop.split sure)) stop.ran;
  out_is = stop.out_is;
  kept = stop.kept;
  kept_are = stop.kept_are;
}

pub sure_stops : SureStopsAreOne
unfolding stop_picked
sure_stops world files lines part out part_b out_b sure one other =
    stops_once (PickedAnswers some) (picked_once some) world files lines part out part_b out_b
    (stop_picked world files lines part out sure one)
    (stop_picked world files lines part_b out_b sure other)
