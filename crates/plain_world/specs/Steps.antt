-- What the world answers to a command, and to a line.
use Rattle.std.specs.Prelude.{◌≡◌, ◌⊎◌, ℕ, List, None, Some}
use Rattle.script_words.specs.Lines.{Says, IsBad}
use Rattle.script_words.specs.declared.commands.Command.{Command}
use Rattle.script_words.specs.declared.commands.Command.TheVariants as commands
use Rattle.report_text.specs.declared.faults.Fault.TheVariants.{BadLine}
use Rattle.report_text.specs.declared.replies.Reply.{Reply}
use Rattle.plain_world.specs.declared.answers.Answer.{Answer}
use Rattle.plain_world.specs.declared.answers.Answer.TheVariants.{Answered, Refused}
use Rattle.plain_world.specs.World.{World}
use Rattle.plain_world.specs.Refusals.{refusal_of}
use Rattle.plain_world.specs.Effects.{after}
use Rattle.plain_world.specs.Replies.{reply_of}
use Rattle.plain_world.specs.Queries.{bounds_of, Writes, Tells, FindsCheapest, FindsBasic}
use Rattle.plain_world.specs.Queries.{FindsPaths, FindsNegativeCycle, FindsCut, FindsFlow}
use Rattle.plain_world.specs.Queries.{FindsBarrier, FindsPairing, FindsHeaviest, FindsAssignment}
use Rattle.plain_world.specs.Queries.{FindsShort, FindsMean, FindsOrder}

-- what a command that isn't refused replies, and the world that it leaves
abbrev pub Does : World → Command → Reply → World → Type 0
Does world (commands.Dijkstra view length start) reply later =
    Tells world view (FindsPaths world view length start) reply later
Does world (commands.Bellman view length start) reply later =
    Tells world view (FindsPaths world view length start) reply later
    ⊎ Tells world view (FindsNegativeCycle world view length start) reply later
Does world (commands.MaxFlow view cap s t into) reply later =
    Writes world view into (FindsCut world view cap s t) reply later
Does world (commands.Circulate view low up supply into) reply later =
    Writes world view into (FindsFlow world view (bounds_of world view low up supply)) reply later
    ⊎ Tells world view (FindsBarrier world view (bounds_of world view low up supply)) reply later
Does world (commands.MinCost view low up cost supply into) reply later =
    FindsCheapest world view (bounds_of world view low up supply) cost into reply later
Does world (commands.Simplex view low up cost supply into) reply later =
    FindsBasic world view (bounds_of world view low up supply) cost into reply later
Does world (commands.Match view left) reply later =
    Tells world view (FindsPairing world view left) reply later
Does world (commands.Heaviest view left weight) reply later =
    Tells world view (FindsHeaviest world view left weight) reply later
Does world (commands.Assign view left cost) reply later =
    Tells world view (FindsAssignment world view left cost) reply later
    ⊎ Tells world view (FindsShort world view left) reply later
Does world (commands.MeanCycle view length time) reply later =
    Tells world view (FindsMean world view length time) reply later
    ⊎ Tells world view (FindsOrder world view) reply later
Does world command reply later = (reply ≡ reply_of world command) × (later ≡ after world command)

-- the command has this answer and leaves this world; a refused one changes nothing
abbrev pub Step : World → Command → Answer → World → Type 0
Step world command (Refused fault) later = (refusal_of world command ≡ Some fault) × (later ≡ world)
Step world command (Answered reply) later = (refusal_of world command ≡ None)
    × Does world command reply later

-- the line has this answer: that of its command, or where it says none, that it goes wrong at its
-- bad column
abbrev pub Answers : World → List ℕ → Answer → World → Type 0
Answers world line answer later =
    ((command : Command) × Says line command × Step world command answer later)
    ⊎ ((column : ℕ) × IsBad line column × (answer ≡ Refused (BadLine column)) × (later ≡ world))
