-- Names, each at its place.
use Rattle.std.proofs.Common.{◌≡◌, ℕ, zero, suc, ◌<◌, Bool, true, false, List, [], ◌∷◌, ◌++◌}
use Rattle.std.proofs.Common.{length, get_or, Option, Some, None, ⊎_elim, refl, sym, ap, ◌∙◌, arith}
use Rattle.std.specs.Prelude.{◌||◌, if◌then◌else◌, MatchOption, is_some, slice_get, position}
use Rattle.std.proofs.lemmas.Bool.{cases_Bool, or_parts}
use Rattle.std.proofs.lemmas.List.Quantifiers.{position-Some}
use Rattle.std.proofs.lemmas.Option.{slice_get-get_or, slice_get_within, get_or_from_slice_get}
use Rattle.std.proofs.lemmas.Slice.Eq.{bytes_eq-Decides}
use Rattle.std.specs.List.{list_any}
use Rattle.std.specs.Str.{bytes_eq}
use Rattle.token_text.specs.Names.{IsNoneOf}

-- what a test against each label says
pub none_from_test : (label : List ℕ) (labels : List (List ℕ))
    → list_any (bytes_eq label) labels ≡ false
    → IsNoneOf label labels
none_from_test label [] e = tt
none_from_test label (other ∷ others) e =
    let parts = or_parts (bytes_eq label other) (list_any (bytes_eq label) others) e in
    let apart : label ≡ other → ⊥ =
    λ h. absurd (cc (sym ((bytes_eq-Decides label other).1 h) ∙ parts.0)) in
    (apart, none_from_test label others parts.1)

pub test_from_none : (label : List ℕ) (labels : List (List ℕ)) → IsNoneOf label labels
    → list_any (bytes_eq label) labels ≡ false
test_from_none label [] h = refl
test_from_none label (other ∷ others) h = ⊎_elim
    (λ (e : bytes_eq label other ≡ true). absurd (h.0 ((bytes_eq-Decides label other).0 e)))
    (λ (e : bytes_eq label other ≡ false).
    ap (λ b. b || list_any (bytes_eq label) others) e ∙ test_from_none label others h.1)
    (cases_Bool (bytes_eq label other))

-- the first place whose label is equal, or none
pub place_found : (label : List ℕ) (labels : List (List ℕ)) (found : Option ℕ)
    → found ≡ position (bytes_eq label) labels
    → is_some found ≡ list_any (bytes_eq label) labels
    → MatchOption found (IsNoneOf label labels) (λ place. slice_get labels place ≡ Some label)
place_found label labels None e some = none_from_test label labels (sym some)
place_found label labels (Some place) e some =
    let at = position-Some (bytes_eq label) labels place [] (sym e) in
    let same = (bytes_eq-Decides label (get_or labels place [])).0 at.1 in
    slice_get-get_or labels place [] at.0 ∙ ap Some (sym same)

-- a label that is put last
pub label_put : (label : List ℕ) (labels : List (List ℕ)) → IsNoneOf label labels
    → (if list_any (bytes_eq label) labels then labels else labels ++ label ∷ []) ≡ labels
    ++ label ∷ []
label_put label labels none =
    ap (λ (t : Bool). if t then labels else labels ++ label ∷ []) (test_from_none label labels none)

-- a label that is none of these has no place among them
pub not_at : (label : List ℕ) (labels : List (List ℕ)) (place : ℕ) → place < length labels
    → IsNoneOf label labels → label ≡ get_or labels place [] → ⊥
not_at label [] place within none e = absurd (omega arith)
not_at label (other ∷ others) zero within none e = none.0 e
not_at label (other ∷ others) (suc place) within none e =
    not_at label others place (omega arith) none.1 e

-- and isn't found there
pub found_not_none : (label : List ℕ) (labels : List (List ℕ)) (found : Option ℕ)
    → MatchOption found (IsNoneOf label labels) (λ place. slice_get labels place ≡ Some label)
    → is_some found ≡ true → IsNoneOf label labels → ⊥
found_not_none label labels None h some none = absurd (cc some)
found_not_none label labels (Some place) h some none =
    not_at label labels place (slice_get_within labels place label h) none
    (sym (get_or_from_slice_get labels place label [] h))
