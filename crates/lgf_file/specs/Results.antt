-- What the answers of `read_doc` say.
use Rattle.std.specs.Prelude.{◌≡◌, ℕ, List, Ok, Err, Result, ⊤}
use Rattle.lgf_file.specs.Documents.{Spells}
use Rattle.lgf_file.specs.Laws.{HasFault}
use Rattle.lgf_file.specs.declared.documents.Doc.{Doc}
use Rattle.lgf_file.specs.declared.faults.LgfFault.{LgfFault}
use Rattle.lgf_file.specs.declared.faults.DocFault.{DocFault}
use Rattle.lgf_file.specs.declared.faults.DocFault.TheVariants.{Lgf, Memory}

-- A fault of the file is its first one, and the bytes spell no document.
abbrev pub Refuses : List ℕ → DocFault → Type 0
Refuses bytes (Lgf fault) = HasFault bytes fault × ((doc : Doc) → Spells bytes doc → ⊥)
Refuses bytes Memory = ⊤

-- The answer is this document, or memory ran out.
abbrev pub Answers : Doc → Result Doc DocFault → Type 0
Answers doc (Ok found) = found ≡ doc
Answers doc (Err (Lgf fault)) = ⊥
Answers doc (Err Memory) = ⊤

-- The answer is this fault, or memory ran out.
abbrev pub Names : LgfFault → Result Doc DocFault → Type 0
Names fault (Ok doc) = ⊥
Names fault (Err (Lgf found)) = found ≡ fault
Names fault (Err Memory) = ⊤
