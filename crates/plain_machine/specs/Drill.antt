-- Drills: a script that is drawn from a seed, and what it comes to on a graph from that seed.
use Rattle.std.specs.Prelude.{◌≡◌, ℕ, zero, suc, ◌+◌, ◌%◌, not, List, [], ◌∷◌, ◌++◌, codes}
use Rattle.std.specs.Prelude.{map, length, get_or}
use Rattle.std.specs.List.{range_with_len, count_by}
use Rattle.std.specs.Fmt.{decimal}
use Rattle.base_items.specs.declared.items.ItemSort.TheVariants as sorts
use Rattle.script_words.specs.declared.commands.GuardWord.{GuardWord}
use Rattle.plain_digraph.specs.Items.{count_of}
use Rattle.plain_world.specs.declared.answers.Answer.{Answer}
use Rattle.plain_world.specs.World.{World}
use Rattle.plain_world.specs.Documents.{load}
use Rattle.plain_machine.specs.declared.drills.DrillWord.{DrillWord}
use Rattle.plain_machine.specs.declared.drills.DrillWord.TheVariants.{New, Node, Arc}
use Rattle.plain_machine.specs.Texts.{is_refused}
use Rattle.plain_machine.specs.Runs.{Run}
use Rattle.plain_machine.specs.Generator.{next, state, made}

-- ---- the lines

-- The lines before those that are drawn.
abbrev pub first_lines : List (List ℕ)
first_lines =
    codes "type arc cap int"
    ∷ codes "type arc cost int"
    ∷ codes "guard q arc quota 600"
    ∷ codes "guard f node fuse 50"
    ∷ codes "guard t arc tally"
    ∷ codes "degree d out"
    ∷ codes "view r reverse base"
    ∷ []

-- What lines may be drawn: the command, and the words behind it.
pub record LineForm : Type 0 where
  pub command : List ℕ
  pub words : List DrillWord

abbrev form : List ℕ → List DrillWord → LineForm
form command words = record { command = command; words = words }

-- The twelve forms, by what is drawn for them. The letters of new labels are n, a, m and b.
abbrev pub line_forms : List LineForm
line_forms =
    form (codes "addnode") (New 110 ∷ [])
    ∷ form (codes "addarc") (New 97 ∷ Node ∷ Node ∷ [])
    ∷ form (codes "delarc") (Arc ∷ [])
    ∷ form (codes "source") (Arc ∷ Node ∷ [])
    ∷ form (codes "target") (Arc ∷ Node ∷ [])
    ∷ form (codes "turn") (Arc ∷ [])
    ∷ form (codes "splitarc") (Arc ∷ New 109 ∷ New 98 ∷ [])
    ∷ form (codes "contract") (Node ∷ Node ∷ [])
    ∷ form (codes "snap s") []
    ∷ form (codes "restore s") []
    ∷ form (codes "forget s") []
    ∷ form (codes "splitnode") (Node ∷ New 109 ∷ New 98 ∷ [])
    ∷ []

-- ---- what is drawn

-- A word, by the number of its line and the state before it.
abbrev pub word_text : DrillWord → (number state : ℕ) → List ℕ
word_text (New letter) number state = letter ∷ decimal number
word_text Node number state = decimal (next state % 100)
word_text Arc number state = decimal (next state % 400)

-- The state after a word.
abbrev pub after_word : DrillWord → ℕ → ℕ
after_word (New letter) state = state
after_word Node state = next state
after_word Arc state = next state

-- Words, each behind a blank of byte 32.
abbrev pub words_text : List DrillWord → (number state : ℕ) → List ℕ
words_text [] number state = []
words_text (word ∷ words) number state =
    32 ∷ word_text word number state ++ words_text words number (after_word word state)

-- The state after words.
abbrev pub after_words : List DrillWord → ℕ → ℕ
after_words [] state = state
after_words (word ∷ words) state = after_words words (after_word word state)

-- The form of this number.
abbrev pub form_at : ℕ → LineForm
form_at number = get_or line_forms number (form [] [])

-- The form that is drawn first for a line, by the state before it.
abbrev pub form_drawn : ℕ → LineForm
form_drawn state = form_at (next state % 12)

-- The line of a number, by the state before it: its form, and then its words.
abbrev pub line_text : (number state : ℕ) → List ℕ
line_text number state =
    let drawn = form_drawn state in
    drawn.command ++ words_text drawn.words number (next state)

-- The state after it.
abbrev pub after_line : ℕ → ℕ
after_line state = after_words (form_drawn state).words (next state)

-- The state before the line of a number: the first one is that after the graph, each other one that
-- after the line before.
abbrev pub line_state : (seed number : ℕ) → ℕ
line_state seed zero = state seed 1600
line_state seed (suc number) = after_line (line_state seed number)

-- So many lines, numbered from 0.
abbrev pub drawn_lines : (seed count : ℕ) → List (List ℕ)
drawn_lines seed count =
    map (λ number. line_text number (line_state seed number)) (range_with_len 0 count)

-- ---- what they come to

-- How many of the answers are none that refuse, and how many refuse.
abbrev pub accepted_in : List (ℕ × Answer) → ℕ
accepted_in answers = count_by (λ a. not (is_refused a.1)) answers

abbrev pub refused_in : List (ℕ × Answer) → ℕ
refused_in answers = count_by (λ a. is_refused a.1) answers

-- A title and a number.
abbrev pub counted : List ℕ → ℕ → List ℕ
counted title number = title ++ decimal number

-- drill accepted A refused R nodes N arcs M
abbrev pub drill_text : (accepted refused nodes arcs : ℕ) → List ℕ
drill_text accepted refused nodes arcs =
    counted (codes "drill accepted ") accepted ++ (counted (codes " refused ") refused
    ++ (counted (codes " nodes ") nodes ++ (counted (codes " arcs ") arcs ++ 10 ∷ [])))

-- On a machine whose lines have these answers, the first lines and then so many that are drawn were
-- answered from the graph of the seed, with these boxes, to this last world. The text counts the
-- answers to the lines that are drawn, and the items that are live in the end.
pub record Drilled (answers : World → List ℕ → Answer → World → Type 0) (pool : List GuardWord)
    (seed count : ℕ) (last : World) (text : List ℕ) : Type 0 where
  pub opening : List (ℕ × Answer)
  pub begun : World
  pub opened : Run answers (load (made seed 100 400) pool) 1 first_lines opening begun
  pub drawn : List (ℕ × Answer)
  pub ran : Run answers begun (length first_lines + 1) (drawn_lines seed count) drawn last
  pub text_is : text ≡ drill_text (accepted_in drawn) (refused_in drawn)
      (count_of last.graph sorts.Node) (count_of last.graph sorts.Arc)
