-- What the answers of `read_line` say.
use Rattle.std.specs.Prelude.{◌≡◌, ℕ, List, Some, None, Option, Ok, Err, Result, ⊤}
use Rattle.script_words.specs.declared.commands.Command.{Command}
use Rattle.script_words.specs.declared.lines.LineFault.{LineFault}
use Rattle.script_words.specs.declared.lines.LineFault.TheVariants.{Bad, Memory}
use Rattle.script_words.specs.Lines.{IsBad}

-- A column is that of a line that says no command.
abbrev pub Refuses : List ℕ → LineFault → Type 0
Refuses line (Bad column) = IsBad line column
Refuses line Memory = ⊤

-- The answer is this command, or memory ran out.
abbrev pub Answers : Command → Result (Option Command) LineFault → Type 0
Answers command (Ok None) = ⊥
Answers command (Ok (Some found)) = found ≡ command
Answers command (Err (Bad column)) = ⊥
Answers command (Err Memory) = ⊤

-- The answer is this column, or memory ran out.
abbrev pub Tells : ℕ → Result (Option Command) LineFault → Type 0
Tells column (Ok found) = ⊥
Tells column (Err (Bad told)) = told ≡ column
Tells column (Err Memory) = ⊤
