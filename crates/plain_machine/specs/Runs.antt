-- Runs of a script, whole or ended early, on any machine: a type of worlds, and how a world answers
-- a line.
use Rattle.std.specs.Prelude.{◌≡◌, ℕ, ◌+◌, Bool, false, MatchBool, List, [], ◌∷◌, ◌++◌, length}
use Rattle.edge_io.specs.Files.{Files, KeepsPart}
use Rattle.token_text.specs.Lines.{is_passed_over}
use Rattle.report_text.specs.declared.replies.Reply.TheVariants.{Save}
use Rattle.plain_world.specs.declared.answers.Answer.{Answer}
use Rattle.plain_world.specs.declared.answers.Answer.TheVariants.{Answered}
use Rattle.plain_machine.specs.Texts.{answer_text, report_of, has_refusal}
use Rattle.plain_machine.specs.Texts.{saves_of, all_saves, overwritten}

module _ {World : Type 0} (Answers : World → List ℕ → Answer → World → Type 0) where
  -- The lines from this number on have these answers, each with the number of its line.
  abbrev pub Run : World → ℕ → List (List ℕ) → List (ℕ × Answer) → World → Type 0
  Run world number [] answers later = (answers ≡ []) × (later ≡ world)
  Run world number (line ∷ lines) answers later = MatchBool (is_passed_over line)
      (Run world (number + 1) lines answers later)
      ((answer : Answer) × (others : List (ℕ × Answer)) × (mid : World)
      × (answers ≡ (number, answer) ∷ others)
      × Answers world line answer mid × Run mid (number + 1) lines others later)

  -- All lines were answered, up to this last world: the text of the answers went out, and the files
  -- are as the saves leave them.
  pub record Finished (world : World) (files : Files) (lines : List (List ℕ)) (refused : Bool)
      (last : World) (out : List ℕ) (now : Files) : Type 0 where
    pub answers : List (ℕ × Answer)
    pub ran : Run world 1 lines answers last
    pub out_is : out ≡ report_of answers
    pub refused_is : refused ≡ has_refusal answers
    pub files_are : now ≡ overwritten files (all_saves answers)

  -- The run came to this line, the first whose answer wasn't done whole: the text of the lines
  -- before it went out, and then this part, and these are the files as the saves before leave them.
  pub record StoppedAt (world : World) (files : Files) (lines : List (List ℕ)) (part out : List ℕ)
      : Type 0 where
    pub before : List (List ℕ)
    pub line : List ℕ
    pub after : List (List ℕ)
    pub split : lines ≡ before ++ line ∷ after
    pub asked : is_passed_over line ≡ false
    pub answers : List (ℕ × Answer)
    pub mid : World
    pub ran : Run world 1 before answers mid
    pub out_is : out ≡ report_of answers ++ part
    pub kept : Files
    pub kept_are : kept ≡ overwritten files (all_saves answers)

  -- Memory ran out: nothing of the text of the line went out, and the files are as the saves before
  -- leave them.
  abbrev pub StoppedBefore : World → Files → List (List ℕ) → List ℕ → Files → Type 0
  StoppedBefore world files lines out now =
      (stop : StoppedAt world files lines [] out) × (now ≡ stop.kept)

  -- The report failed: a prefix of the text of the line went out, and a file that it saves stands
  -- whole.
  abbrev pub StoppedWithin : World → Files → List (List ℕ) → List ℕ → Files → Type 0
  StoppedWithin world files lines out now =
      (part : List ℕ) × (stop : StoppedAt world files lines part out) × (answer : Answer)
      × (later : World) × (more : List ℕ)
      × Answers stop.mid stop.line answer later
      × (part ++ more ≡ answer_text (length stop.before + 1) answer)
      × (now ≡ overwritten stop.kept (saves_of answer))

  -- The store of this file failed: nothing of the text of the line went out, and the file is as the
  -- saves before leave it, or has a prefix of the bytes.
  abbrev pub StoppedStoring : World → Files → List (List ℕ) → List ℕ → List ℕ → Files → Type 0
  StoppedStoring world files lines name out now =
      (stop : StoppedAt world files lines [] out) × (bytes : List ℕ) × (later : World)
      × Answers stop.mid stop.line (Answered (Save name bytes)) later
      × KeepsPart stop.kept name bytes now
