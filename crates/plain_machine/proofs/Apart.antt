-- What a file can't be at once, and what the two files of a run can't be.
use Rattle.std.proofs.Common.{◌≡◌, ℕ, List, ◌∷◌, [], length, Some, None, inl, inr, sym, ap, ◌∙◌}
use Rattle.std.proofs.Common.{subst, arith}
use Rattle.std.specs.Prelude.{codes}
use Rattle.std.specs.Str.Parse.{digits_value}
use Rattle.edge_io.specs.Files.{Files, Holds, HoldsWithin, Lacks, IsTooLong}
use Rattle.lgf_file.specs.Documents.{Spells}
use Rattle.lgf_file.specs.Laws.{HasFault}
use Rattle.lgf_file.specs.declared.documents.Doc.{Doc}
use Rattle.lgf_file.specs.declared.faults.LgfFault.{LgfFault}
use Rattle.lgf_file.proofs.SectionsRead.{one_document}
use Rattle.lgf_file.proofs.FirstFaults.{one_fault, fault_spells_none}
use Rattle.plain_machine.specs.declared.limits.TheConstants.{GRAPH_LIMIT, SCRIPT_LIMIT}
use Rattle.plain_machine.specs.Words.{RunOn, Asks, AsksGraph, AsksDrill}
use Rattle.plain_machine.specs.Inputs.{HasGraph, HasBadGraph, LacksNeeded, HasTooLong}

-- ---- names

-- Words have the names of one run at most.
pub same_names : (words : List (List ℕ)) (graph script other another : List ℕ)
    → Asks words (RunOn graph script) → Asks words (RunOn other another)
    → (graph ≡ other) × (script ≡ another)
same_names words graph script other another h k =
    let e : codes "run" ∷ graph ∷ script ∷ [] ≡ codes "run" ∷ other ∷ another ∷ [] =
    sym h.0 ∙ k.0 in
    (cc, cc)

-- They ask for one graph at most.
pub same_numbers : (words : List (List ℕ)) (seed nodes arcs other some more : ℕ)
    → AsksGraph words seed nodes arcs → AsksGraph words other some more
    → (seed ≡ other) × (nodes ≡ some) × (arcs ≡ more)
same_numbers words seed nodes arcs other some more h k =
    let e : codes "make" ∷ h.first ∷ h.second ∷ h.third ∷ []
    ≡ codes "make" ∷ k.first ∷ k.second ∷ k.third ∷ [] = sym h.words_are ∙ k.words_are in
    let first : h.first ≡ k.first = cc in
    let second : h.second ≡ k.second = cc in
    let third : h.third ≡ k.third = cc in (
      h.seed_is.0.1 ∙ ap (digits_value 10) first ∙ sym k.seed_is.0.1,
      h.nodes_are.0.1 ∙ ap (digits_value 10) second ∙ sym k.nodes_are.0.1,
      h.arcs_are.0.1 ∙ ap (digits_value 10) third ∙ sym k.arcs_are.0.1,
    )

-- They don't ask for both.
pub run_or_graph : (words : List (List ℕ)) (graph script : List ℕ) (seed nodes arcs : ℕ)
    → Asks words (RunOn graph script) → AsksGraph words seed nodes arcs → ⊥
run_or_graph words graph script seed nodes arcs h k =
    absurd (omega (arith, ap length (sym h.0 ∙ k.words_are)))

-- They ask for one drill at most.
pub same_drill : (words : List (List ℕ)) (seed lines other some : ℕ)
    → AsksDrill words seed lines → AsksDrill words other some
    → (seed ≡ other) × (lines ≡ some)
same_drill words seed lines other some h k =
    let e : codes "drill" ∷ h.first ∷ h.second ∷ [] ≡ codes "drill" ∷ k.first ∷ k.second ∷ [] =
    sym h.words_are ∙ k.words_are in
    let first : h.first ≡ k.first = cc in
    let second : h.second ≡ k.second = cc in (
      h.seed_is.0.1 ∙ ap (digits_value 10) first ∙ sym k.seed_is.0.1,
      h.lines_are.0.1 ∙ ap (digits_value 10) second ∙ sym k.lines_are.0.1,
    )

-- They don't ask for a run and for a drill.
pub run_or_drill : (words : List (List ℕ)) (graph script : List ℕ) (seed lines : ℕ)
    → Asks words (RunOn graph script) → AsksDrill words seed lines → ⊥
run_or_drill words graph script seed lines h k =
    let e : codes "run" ∷ graph ∷ script ∷ [] ≡ codes "drill" ∷ k.first ∷ k.second ∷ [] =
    sym h.0 ∙ k.words_are in
    let first : codes "run" ≡ codes "drill" = cc in
    absurd (omega (arith, ap length first))

-- They don't ask for a graph and for a drill.
pub graph_or_drill : (words : List (List ℕ)) (seed nodes arcs other lines : ℕ)
    → AsksGraph words seed nodes arcs → AsksDrill words other lines → ⊥
graph_or_drill words seed nodes arcs other lines h k =
    absurd (omega (arith, ap length (sym h.words_are ∙ k.words_are)))

-- ---- one file

-- A file has one content.
pub one_file : (files : Files) (name a b : List ℕ) → Holds files name a → Holds files name b
    → a ≡ b
one_file files name a b h k = let e : Some a ≡ Some b = sym h ∙ k in cc

-- It isn't missing.
pub there : (files : Files) (name a : List ℕ) → Holds files name a → Lacks files name → ⊥
there files name a h k = absurd (let e : Some a ≡ None = sym h ∙ k in cc)

-- It isn't too long.
pub within : (files : Files) (name a : List ℕ) (limit : ℕ) → HoldsWithin files name limit a
    → IsTooLong files name limit → ⊥
within files name a limit h k =
    absurd (omega (arith, h.1, k.2, ap length (one_file files name a k.0 h.0 k.1)))

-- It doesn't both spell a document and have a fault.
pub graph_or_bad : (files : Files) (graph : List ℕ) (doc : Doc) (fault : LgfFault)
    → HasGraph files graph doc → HasBadGraph files graph fault → ⊥
graph_or_bad files graph doc fault h k =
    let same = one_file files graph h.0 k.0 h.1.0 k.1.0 in
    fault_spells_none k.0 fault doc k.2 (subst (λ bytes. Spells bytes doc) same h.2)

-- It spells one document.
pub one_graph : (files : Files) (graph : List ℕ) (doc other : Doc) → HasGraph files graph doc
    → HasGraph files graph other → doc ≡ other
one_graph files graph doc other h k =
    let same = one_file files graph h.0 k.0 h.1.0 k.1.0 in
    one_document k.0 doc other (subst (λ bytes. Spells bytes doc) same h.2) k.2

-- It has one first fault.
pub one_bad_graph : (files : Files) (graph : List ℕ) (fault other : LgfFault)
    → HasBadGraph files graph fault → HasBadGraph files graph other → fault ≡ other
one_bad_graph files graph fault other h k =
    let same = one_file files graph h.0 k.0 h.1.0 k.1.0 in
    one_fault k.0 fault other (subst (λ bytes. HasFault bytes fault) same h.2) k.2

-- ---- two files

-- With a good graph file a needed file is missing only where the script is.
pub graph_there : (files : Files) (graph script : List ℕ) (doc : Doc) → HasGraph files graph doc
    → (Lacks files script → ⊥) → LacksNeeded files graph script → ⊥
graph_there files graph script doc h other (inl lacks) = there files graph h.0 h.1.0 lacks
graph_there files graph script doc h other (inr lacks) = other lacks.1

-- With a good graph file a needed file is too long only where the script is.
pub graph_within : (files : Files) (graph script : List ℕ) (doc : Doc) → HasGraph files graph doc
    → (IsTooLong files script SCRIPT_LIMIT → ⊥) → HasTooLong files graph script → ⊥
graph_within files graph script doc h other (inl long) = within files graph h.0 GRAPH_LIMIT h.1 long
graph_within files graph script doc h other (inr long) = other long.1

-- With a bad graph file no needed file is missing.
pub bad_there : (files : Files) (graph script : List ℕ) (fault : LgfFault)
    → HasBadGraph files graph fault → LacksNeeded files graph script → ⊥
bad_there files graph script fault h (inl lacks) = there files graph h.0 h.1.0 lacks
bad_there files graph script fault h (inr lacks) =
    graph_or_bad files graph lacks.0.0 fault lacks.0.1 h

-- With a bad graph file no needed file is too long.
pub bad_within : (files : Files) (graph script : List ℕ) (fault : LgfFault)
    → HasBadGraph files graph fault → HasTooLong files graph script → ⊥
bad_within files graph script fault h (inl long) = within files graph h.0 GRAPH_LIMIT h.1 long
bad_within files graph script fault h (inr long) =
    graph_or_bad files graph long.0.0 fault long.0.1 h

-- Where a needed file is too long none is missing.
pub long_there : (files : Files) (graph script : List ℕ) → HasTooLong files graph script
    → LacksNeeded files graph script → ⊥
long_there files graph script (inl long) (inl lacks) = there files graph long.0 long.1 lacks
long_there files graph script (inl long) (inr lacks) =
    within files graph lacks.0.1.0 GRAPH_LIMIT lacks.0.1.1 long
long_there files graph script (inr long) lacks =
    graph_there files graph script long.0.0 long.0.1 (there files script long.1.0 long.1.1) lacks
