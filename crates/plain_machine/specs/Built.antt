-- What the program runs, and what it answers to a line.
use Rattle.std.specs.Prelude.{◌≡◌, ◌⊎◌, ℕ, ◌+◌, ◌-◌, Bool, true, false, MatchBool, List, length}
use Rattle.token_text.specs.Grammar.{after_blanks}
use Rattle.script_words.specs.Lines.{Says, IsBad}
use Rattle.script_words.specs.declared.commands.Command.{Command}
use Rattle.script_words.specs.declared.commands.Command.TheVariants as commands
use Rattle.report_text.specs.declared.faults.Fault.TheVariants.{BadLine}
use Rattle.report_text.specs.declared.faults.StepFault.{StepFault}
use Rattle.report_text.specs.declared.faults.StepFault.TheVariants as faults
use Rattle.plain_world.specs.declared.answers.Answer.{Answer}
use Rattle.plain_world.specs.declared.answers.Answer.TheVariants.{Refused}
use Rattle.plain_world.specs.World.{World}
use Rattle.plain_world.specs.Steps.{Step}

-- Which commands the program runs: nothing else keeps out what the world can't run yet.
abbrev pub is_built : Command → Bool
is_built (commands.AddNode label) = true
is_built (commands.AddArc label from to) = true
is_built (commands.DelNode node) = true
is_built (commands.DelArc arc) = true
is_built (commands.Source arc node) = true
is_built (commands.Target arc node) = true
is_built (commands.Turn arc) = true
is_built (commands.Contract u v loops) = true
is_built (commands.SplitNode node label arc) = true
is_built (commands.SplitArc arc label new) = true
is_built commands.Clear = true
is_built (commands.NodeMap map type) = true
is_built (commands.ArcMap map type) = true
is_built (commands.Retype sort map type) = true
is_built (commands.Set sort map item value) = true
is_built (commands.Get sort map item) = true
is_built (commands.Degree map way) = true
is_built (commands.Trues sort index map) = true
is_built (commands.Items sort index) = true
is_built (commands.DropMap sort map) = true
is_built (commands.Total sort map) = true
is_built (commands.Least sort map) = true
is_built (commands.Count sort map) = true
is_built (commands.Guard guard sort kind limit) = true
is_built (commands.Unguard guard) = true
is_built commands.Guards = true
is_built (commands.Snap snapshot) = true
is_built (commands.Restore snapshot) = true
is_built (commands.Forget snapshot) = true
is_built commands.Snaps = true
is_built (commands.View view layer below) = true
is_built (commands.Keep view) = true
is_built (commands.Unview view) = true
is_built (commands.Nodes view) = true
is_built (commands.Arcs view) = true
is_built (commands.Out view node) = true
is_built (commands.In view node) = true
is_built (commands.Dijkstra view length start) = true
is_built (commands.Bellman view length start) = true
is_built (commands.MaxFlow view cap s t into) = true
is_built (commands.Circulate view low up supply into) = true
is_built (commands.MinCost view low up cost supply into) = true
is_built (commands.Simplex view low up cost supply into) = true
is_built (commands.Match view left) = true
is_built (commands.Tie attribute sort) = true
is_built (commands.Untie attribute) = true
is_built (commands.Attr attribute) = true
is_built (commands.Relabel sort old new) = true
is_built (commands.Save file) = true
is_built _ = false

-- The command is refused, or memory ran out, and nothing has changed.
abbrev pub RefusedBy : World → Command → World → StepFault → Type 0
RefusedBy old command new (faults.Refused fault) = Step old command (Refused fault) new
RefusedBy old command new faults.Memory = new ≡ old

-- The line is refused as none that goes on at this column, counted in bytes from 1.
abbrev pub IsBadAt : World → ℕ → Answer → World → Type 0
IsBadAt world column answer later = (answer ≡ Refused (BadLine column)) × (later ≡ world)

-- The column of the first byte that is no blank.
abbrev pub first_column : List ℕ → ℕ
first_column line = length line - length (after_blanks line) + 1

-- The line, which says the command, has this answer by these steps of commands: the command's, or
-- where the program doesn't run it, that the line goes wrong at its first word.
abbrev pub AnswersCommand : (World → Command → Answer → World → Type 0)
    → World → List ℕ → Command → Answer → World → Type 0
AnswersCommand step world line command answer later =
    MatchBool (is_built command)
    (step world command answer later)
    (IsBadAt world (first_column line) answer later)

-- The line has this answer by these steps: that of its command, or where it says none, that it goes
-- wrong at its bad column.
abbrev pub AnswersBy : (World → Command → Answer → World → Type 0)
    → World → List ℕ → Answer → World → Type 0
AnswersBy step world line answer later =
    ((command : Command) × Says line command × AnswersCommand step world line command answer later)
    ⊎ ((column : ℕ) × IsBad line column × IsBadAt world column answer later)

-- The line has this answer by the world's own steps.
abbrev pub Answers : World → List ℕ → Answer → World → Type 0
Answers = AnswersBy Step
