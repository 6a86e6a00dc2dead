-- What answers print, and what they store.
use Rattle.std.specs.Prelude.{ℕ, Bool, true, false, List, [], ◌∷◌, ◌++◌, codes}
use Rattle.std.specs.List.{flat_map, list_any}
use Rattle.std.specs.Fmt.{decimal}
use Rattle.edge_io.specs.Files.{Files}
use Rattle.std.specs.FinMap as fin
use Rattle.lgf_file.specs.declared.faults.LgfFault.{LgfFault}
use Rattle.lgf_file.specs.Kinds.{kind_name}
use Rattle.report_text.specs.Texts.{reply_text, fault_text}
use Rattle.report_text.specs.declared.replies.Reply.TheVariants as replies
use Rattle.plain_world.specs.declared.answers.Answer.{Answer}
use Rattle.plain_world.specs.declared.answers.Answer.TheVariants.{Answered, Refused}

-- ---- texts

-- The text of the answer to the line with this number.
abbrev pub answer_text : ℕ → Answer → List ℕ
answer_text line (Answered reply) = reply_text reply
answer_text line (Refused fault) = fault_text line fault

abbrev pub is_refused : Answer → Bool
is_refused (Answered reply) = false
is_refused (Refused fault) = true

-- The text of some answers, each with the number of its line.
abbrev pub report_of : List (ℕ × Answer) → List ℕ
report_of answers = flat_map (λ a. answer_text a.0 a.1) answers

abbrev pub has_refusal : List (ℕ × Answer) → Bool
has_refusal answers = list_any (λ a. is_refused a.1) answers

-- ! graph LINE KIND
abbrev pub graph_fault_text : LgfFault → List ℕ
graph_fault_text fault =
    codes "! graph " ++ decimal fault.line ++ 32 ∷ kind_name fault.kind ++ 10 ∷ []

-- ---- saves

-- A file that an answer stores: its name and its bytes.
abbrev pub Saved : Type 0
Saved = List ℕ × List ℕ

-- The file that the answer stores, if any.
abbrev pub saves_of : Answer → List Saved
saves_of (Answered (replies.Save name bytes)) = (name, bytes) ∷ []
saves_of _ = []

-- The files that answers store, in their order.
abbrev pub all_saves : List (ℕ × Answer) → List Saved
all_saves answers = flat_map (λ a. saves_of a.1) answers

-- The files after some saves.
abbrev pub overwritten : Files → List Saved → Files
overwritten files [] = files
overwritten files (save ∷ saves) = overwritten (fin.insert files save.0 save.1) saves
