-- Where the sections of a file begin.
use Rattle.std.proofs.Common.{◌≡◌, ℕ, ◌+◌, Bool, true, false, cond, List, [], ◌∷◌, ◌++◌, Some, None}
use Rattle.std.proofs.Common.{Option, refl, suc, get_or, subst, arith}
use Rattle.std.specs.Prelude.{not, if◌then◌else◌}
use Rattle.std.proofs.lemmas.Bool.{and_parts, not-true}
use Rattle.token_text.specs.Bytes.{is_blank}
use Rattle.token_text.specs.Grammar.{is_word_bytes, IsStop}
use Rattle.token_text.specs.Lines.{lines_of}
use Rattle.lgf_file.specs.Sections.{name_of, kind_of, is_opened_by, Part, part, part_from, rows_of}
use Rattle.lgf_file.specs.Found.{section_at, found_or}
use Rattle.lgf_file.specs.declared.sections.Section.{Section}
use Rattle.lgf_file.specs.declared.sections.Section.TheVariants.{Nodes, Arcs}
use Rattle.lgf_file.specs.declared.sections.LineKind.{LineKind}
use Rattle.lgf_file.specs.declared.sections.LineKind.TheVariants.{Opens}

-- ---- how the sections of a file are found line by line

-- The visible bytes up to a blank or the end are the name.
pub name_is : (word rest : List ℕ) → is_word_bytes word ≡ true → IsStop rest
    → name_of (word ++ rest) ≡ word
name_is [] [] visible stop = refl
name_is [] (byte ∷ rest) visible stop = rw stop refl
name_is (byte ∷ word) rest visible stop =
    let parts = and_parts (not (is_blank byte)) (is_word_bytes word) visible in
    rw (not-true (is_blank byte) parts.0, name_is word rest parts.1 stop) refl

-- The section that was found, or else the first one of the lines that are left.
abbrev pub or_later : Option Part → Option Part → Option Part
or_later (Some found) later = Some found
or_later None later = later

-- One line on.
pub one_on : (section : Section) (number : ℕ) (found : Option Part) (line rest after : List ℕ)
    → lines_of rest ≡ line ∷ lines_of after
    → or_later found (part_from number section (lines_of rest))
    ≡ or_later (found_or found (is_opened_by section (kind_of line)) (section_at number after))
    (part_from (number + 1) section (lines_of after))
one_on section number (Some found) line rest after same = refl
one_on section number None line rest after same =
    rw same (by_test (is_opened_by section (kind_of line)) (section_at number after) _)
  where
    by_test : (opens : Bool) (here : Part) (later : Option Part)
        → cond opens (Some here) later ≡ or_later (cond opens (Some here) None) later
    by_test true here later = refl
    by_test false here later = refl

-- No line is left.
pub found_all : (found : Option Part) → or_later found None ≡ found
found_all None = refl
found_all (Some found) = refl

-- ---- the first sections of two kinds begin at two lines

-- No line opens both a section of nodes and one of arcs.
opens_one : (kind : LineKind) → is_opened_by Nodes kind ≡ true → is_opened_by Arcs kind ≡ true → ⊥
opens_one (Opens (Some Nodes)) opens other = absurd (cc)
opens_one kind opens other = absurd (cc)

-- The first section of its kind begins at a line that opens it, and its rows are those behind.
pub record OpenedAt (number : ℕ) (section : Section) (lines : List (List ℕ)) (found : Part) : Type 0
  where
    pub before : ℕ
    pub at_is : found.at ≡ number + before
    pub opens : is_opened_by section (kind_of (get_or lines before [])) ≡ true
    pub behind : List (List ℕ)
    pub rows_are : found.rows ≡ rows_of (found.at + 1) behind

pub opened_at : (number : ℕ) (section : Section) (lines : List (List ℕ)) (found : Part)
    → part_from number section lines ≡ Some found → OpenedAt number section lines found
opened_at number section [] found is = absurd (cc)
opened_at number section (line ∷ lines) found is =
    by_test (opened_at (number + 1) section lines found) (is_opened_by section (kind_of line)) refl
    is
  where
    here : Part
    here = record { at = number; rows = rows_of (number + 1) lines }

    by_test : (part_from (number + 1) section lines ≡ Some found
        → OpenedAt (number + 1) section lines found)
        → (test : Bool) → is_opened_by section (kind_of line) ≡ test
        → (if test then Some here else part_from (number + 1) section lines) ≡ Some found
        → OpenedAt number section (line ∷ lines) found
    by_test next true opens own =
        let same : here ≡ found = cc in
        subst (OpenedAt number section (line ∷ lines)) same
        (record { before = 0; at_is = omega arith; opens = opens; behind = lines; rows_are = refl })
    by_test next false other own =
        let rest = next own in
        record {
          before = suc rest.before;
          at_is = omega (arith, rest.at_is);
          opens = rest.opens;
          behind = rest.behind;
          rows_are = rest.rows_are;
        }

-- The first sections of nodes and of arcs begin at two lines.
pub ats_differ : (lines : List (List ℕ)) (nodes arcs : Part) → part Nodes lines ≡ Some nodes
    → part Arcs lines ≡ Some arcs → nodes.at ≡ arcs.at → ⊥
ats_differ lines nodes arcs nodes_is arcs_is same =
    let first = opened_at 1 Nodes lines nodes nodes_is in
    let second = opened_at 1 Arcs lines arcs arcs_is in
    let place : second.before ≡ first.before = omega (arith, first.at_is, second.at_is, same) in
    opens_one (kind_of (get_or lines first.before [])) first.opens (rw place at second.opens)
