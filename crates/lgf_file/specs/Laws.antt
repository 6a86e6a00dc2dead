-- What holds of documents, of the bytes that spell them and of faults.
use Rattle.std.specs.Prelude.{◌≡◌, ℕ, List, ◌⊎◌}
use Rattle.token_text.specs.Lines.{lines_of}
use Rattle.lgf_file.specs.Documents.{IsDoc, Spells}
use Rattle.lgf_file.specs.Plain.{plain}
use Rattle.lgf_file.specs.Faults.{FirstFault}
use Rattle.lgf_file.specs.declared.documents.Doc.{Doc}
use Rattle.lgf_file.specs.declared.faults.LgfFault.{LgfFault}

-- The written document spells its document.
abbrev pub PlainSpells : Type 0
PlainSpells = (doc : Doc) → IsDoc doc → Spells (plain doc) doc

-- Bytes spell one document at most.
abbrev pub OneDocument : Type 0
OneDocument =
    (bytes : List ℕ) (one other : Doc) → Spells bytes one → Spells bytes other → one ≡ other

-- This is the first fault of the bytes.
abbrev pub HasFault : List ℕ → LgfFault → Type 0
HasFault bytes fault = FirstFault (lines_of bytes) fault

-- Bytes that have a fault spell no document.
abbrev pub FaultSpellsNone : Type 0
FaultSpellsNone =
    (bytes : List ℕ) (fault : LgfFault) (doc : Doc) → HasFault bytes fault → Spells bytes doc → ⊥

-- There is one first fault at most.
abbrev pub OneFault : Type 0
OneFault = (bytes : List ℕ) (one other : LgfFault) → HasFault bytes one → HasFault bytes other
    → one ≡ other

-- Bytes spell a document or have a first fault.
abbrev pub SomeAnswer : Type 0
SomeAnswer =
    (bytes : List ℕ) → ((doc : Doc) × Spells bytes doc) ⊎ ((fault : LgfFault)
    × HasFault bytes fault)
