-- What holds of script lines.
use Rattle.std.specs.Prelude.{◌≡◌, ℕ, false, List}
use Rattle.token_text.specs.Lines.{is_passed_over}
use Rattle.script_words.specs.declared.commands.Command.{Command}
use Rattle.script_words.specs.Lines.{Says, IsBad}

-- A line says one command at most.
abbrev pub OneCommand : Type 0
OneCommand = (line : List ℕ) (one other : Command) → Says line one → Says line other → one ≡ other

-- A line goes wrong in one column at most.
abbrev pub OneColumn : Type 0
OneColumn = (line : List ℕ) (one other : ℕ) → IsBad line one → IsBad line other → one ≡ other

-- A line that is neither passed over nor says a command goes wrong in some column.
abbrev pub SomeColumn : Type 0
SomeColumn = (line : List ℕ) → is_passed_over line ≡ false
    → ((command : Command) → Says line command → ⊥) → (column : ℕ) × IsBad line column
