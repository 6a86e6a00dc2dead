-- Names among others, names that differ, and names at their places.
use Rattle.std.proofs.Common.{◌≡◌, ℕ, zero, suc, ◌<◌, true, false, List, [], ◌∷◌, ◌++◌, length}
use Rattle.std.proofs.Common.{take, drop-cons, refl, sym, ap, ◌∙◌, subst, arith}
use Rattle.std.proofs.lemmas.List.{take-append-drop}
use Rattle.std.specs.Prelude.{slice_index_or}
use Rattle.std.specs.Str.{bytes_eq}
use Rattle.std.proofs.lemmas.Bool.{or_parts, or_from, both_ways, false_from_ne_true}
use Rattle.std.proofs.lemmas.List.Folds.{list_any-append, list_any_at}
use Rattle.std.proofs.lemmas.Slice.Eq.{bytes_eq-Decides}
use Rattle.token_text.specs.Names.{is_among, has_twice}

-- A list of names.
abbrev pub Names : Type 0
Names = List (List ℕ)

-- A name is equal to itself.
pub name_itself : (name : List ℕ) → bytes_eq name name ≡ true
name_itself name = (bytes_eq-Decides name name).1 refl

-- Names that aren't equal one way aren't the other way round.
pub apart_back : (one other : List ℕ) → bytes_eq one other ≡ false → bytes_eq other one ≡ false
apart_back one other apart = false_from_ne_true (bytes_eq other one) (λ same.
    both_ways (bytes_eq one other) apart
    ((bytes_eq-Decides one other).1 (sym ((bytes_eq-Decides other one).0 same))))

-- A name at a place of a list is among the list's.
pub among_at : (names : Names) (place : ℕ) → place < length names
    → is_among (slice_index_or names place []) names ≡ true
among_at names place within =
    let name = slice_index_or names place [] in
    list_any_at (bytes_eq name) names place [] within (name_itself name)

-- A name that is none of the names behind it differs from a name in their midst.
pub among_midst : (name : List ℕ) (front : Names) (other : List ℕ) (more : Names)
    → is_among name (front ++ other ∷ more) ≡ false → bytes_eq name other ≡ false
among_midst name front other more none =
    let parts = sym (list_any-append (bytes_eq name) front (other ∷ more)) ∙ none in
    let behind = (or_parts (is_among name front) (is_among name (other ∷ more)) parts).1 in
    (or_parts (bytes_eq name other) (is_among name more) behind).0

-- Of names that differ none stands before itself.
pub twice_front : (front : Names) (name : List ℕ) (more : Names)
    → has_twice (front ++ name ∷ more) ≡ false → is_among name front ≡ false
twice_front [] name more differ = refl
twice_front (first ∷ front) name more differ =
    let names = front ++ name ∷ more in
    let parts = or_parts (is_among first names) (has_twice names) differ in
    or_from (bytes_eq name first) (is_among name front)
    (apart_back first name (among_midst first front name more parts.0))
    (twice_front front name more parts.1)

-- Names that differ, and one more that is none of them, differ.
pub twice_push : (names : Names) (name : List ℕ) → has_twice names ≡ false
    → is_among name names ≡ false → has_twice (names ++ name ∷ []) ≡ false
twice_push [] name differ none = refl
twice_push (first ∷ names) name differ none =
    let parts = or_parts (is_among first names) (has_twice names) differ in
    let apart = or_parts (bytes_eq name first) (is_among name names) none in
    let last = or_from (bytes_eq first name) false (apart_back name first apart.0) refl in
    or_from (is_among first (names ++ name ∷ [])) (has_twice (names ++ name ∷ []))
    (list_any-append (bytes_eq first) names (name ∷ [])
    ∙ or_from (is_among first names) (is_among first (name ∷ [])) parts.0 last)
    (twice_push names name parts.1 apart.1)

-- A name at a place behind the first differs from the first, where the names differ.
first_apart : (first : List ℕ) (names : Names) (place : ℕ) → has_twice (first ∷ names) ≡ false
    → place < length names → first ≡ slice_index_or names place [] → ⊥
first_apart first names place differ within same =
    let parts = or_parts (is_among first names) (has_twice names) differ in
    both_ways (is_among first names) parts.0
    (subst (λ own. is_among own names ≡ true) (sym same) (among_at names place within))

-- Names that differ stand at one place each.
pub one_place : (names : Names) (place other : ℕ) → has_twice names ≡ false
    → place < length names → other < length names
    → slice_index_or names place [] ≡ slice_index_or names other [] → place ≡ other
one_place [] place other differ within other_within same = absurd (omega arith)
one_place (first ∷ names) zero zero differ within other_within same = refl
one_place (first ∷ names) zero (suc other) differ within other_within same =
    absurd (first_apart first names other differ (omega arith) same)
one_place (first ∷ names) (suc place) zero differ within other_within same =
    absurd (first_apart first names place differ (omega arith) (sym same))
one_place (first ∷ names) (suc place) (suc other) differ within other_within same =
    let rest = (or_parts (is_among first names) (has_twice names) differ).1 in
    ap suc (one_place names place other rest (omega arith) (omega arith) same)

-- Of names that differ none stands before its place.
pub apart_at : (names : Names) (place : ℕ) → has_twice names ≡ false → place < length names
    → is_among (slice_index_or names place []) (take place names) ≡ false
apart_at names place differ within =
    let name = slice_index_or names place [] in
    let split = sym (take-append-drop place names)
    ∙ ap (λ behind. take place names ++ behind) (drop-cons names place [] within) in
    twice_front (take place names) name _ (sym (ap has_twice split) ∙ differ)
