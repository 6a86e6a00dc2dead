-- No tokens are two forms.
use Rattle.std.proofs.Common.{◌≡◌, ℕ, zero, suc, ◌<◌, Bool, true, false, not, ◌&&◌, inl, inr, List}
use Rattle.std.proofs.Common.{[], ◌∷◌, length, get_or, refl, ap, sym, ◌∙◌, subst, arith}
use Rattle.std.specs.List.{list_all}
use Rattle.std.specs.Str.{bytes_eq}
use Rattle.std.proofs.lemmas.Bool.{and_parts, cases_order}
use Rattle.std.proofs.lemmas.Slice.Eq.{bytes_eq-Decides}
use Rattle.token_text.specs.declared.tokens.Token.{Token}
use Rattle.script_words.specs.declared.forms.Form.{Form}
use Rattle.script_words.specs.declared.forms.Form.TheVariants as form
use Rattle.script_words.specs.declared.forms.TheConstants.{FORMS}
use Rattle.script_words.specs.Slots.{Slot, Word, fits, begins}
use Rattle.script_words.specs.Forms.{shape}
use Rattle.script_words.specs.Lines.{Matches}
use Rattle.script_words.proofs.Clash.{differ, clash}
use Rattle.script_words.proofs.Listed.{number, listed, number_within}
use Rattle.script_words.proofs.Reach.{by_test}

-- Bytes that test as equal are equal.
pub same_bytes : (v w : List ℕ) → bytes_eq v w ≡ true → v ≡ w
same_bytes v w e = (bytes_eq-Decides v w).0 e

-- No bytes are two different words.
pub differ_fits : (a b : Slot) (bytes : List ℕ) → differ a b ≡ true → fits a bytes ≡ true
    → fits b bytes ≡ true → ⊥
differ_fits (Word v) (Word w) bytes d f g =
    let same : v ≡ w = sym (same_bytes bytes v f) ∙ same_bytes bytes w g in
    let eq : bytes_eq v w ≡ true = (bytes_eq-Decides v w).1 same in
    let no : not (bytes_eq v w) ≡ false = ap not eq in
    let bad : true ≡ false = sym d ∙ no in
    cc
differ_fits (Word v) b bytes d f g = let bad : false ≡ true = d in cc
differ_fits a b bytes d f g = let bad : false ≡ true = d in cc

-- No tokens are two forms that clash.
pub clash_begins : (xs ys : List Slot) (tokens : List Token) → clash xs ys ≡ true
    → begins xs tokens ≡ true → length tokens ≡ length xs
    → begins ys tokens ≡ true → length tokens ≡ length ys → ⊥
clash_begins [] [] tokens c f m g n = let bad : false ≡ true = c in cc
clash_begins [] (b ∷ ys) tokens c f m g n = omega arith
clash_begins (a ∷ xs) [] tokens c f m g n = omega arith
clash_begins (a ∷ xs) (b ∷ ys) [] c f m g n = omega arith
clash_begins (a ∷ xs) (b ∷ ys) (t ∷ ts) c f m g n =
    let p = and_parts (fits a t.bytes) (begins xs ts) f in
    let q = and_parts (fits b t.bytes) (begins ys ts) g in
    by_test (differ a b) ⊥
    (λ e. differ_fits a b t.bytes e p.0 q.0)
    (λ e. clash_begins xs ys ts (rw e at c) p.1 (omega arith) q.1 (omega arith))

-- The places of a form.
abbrev pub slots_of : Form → List Slot
slots_of form = (shape form).slots

-- Whether each form clashes with each that follows it.
abbrev pub apart : List Form → Bool
apart [] = true
apart (f ∷ fs) = list_all (λ g. clash (slots_of f) (slots_of g)) fs && apart fs

-- What holds of all forms of a list holds of the one at this place.
pub all_at : (p : Form → Bool) (fs : List Form) (k : ℕ) (d : Form) → k < length fs
    → list_all p fs ≡ true
    → p (get_or fs k d) ≡ true
all_at p [] k d h e = absurd (omega arith)
all_at p (f ∷ fs) zero d h e = (and_parts (p f) (list_all p fs) e).0
all_at p (f ∷ fs) (suc k) d h e =
    all_at p fs k d (omega arith) (and_parts (p f) (list_all p fs) e).1

-- Of forms that clash with each other any two do.
pub apart_at : (fs : List Form) (i j : ℕ) (d : Form) → i < j → j < length fs → apart fs ≡ true
    → clash (slots_of (get_or fs i d)) (slots_of (get_or fs j d)) ≡ true
apart_at [] i j d h k e = absurd (omega arith)
apart_at (f ∷ fs) i zero d h k e = absurd (omega arith)
apart_at (f ∷ fs) zero (suc j) d h k e =
    all_at (λ g. clash (slots_of f) (slots_of g)) fs j d (omega arith)
    (and_parts (list_all (λ g. clash (slots_of f) (slots_of g)) fs) (apart fs) e).0
apart_at (f ∷ fs) (suc i) (suc j) d h k e =
    apart_at fs i j d (omega arith) (omega arith)
    (and_parts (list_all (λ g. clash (slots_of f) (slots_of g)) fs) (apart fs) e).1

-- The forms of the table clash with each other.
pub table_apart : apart FORMS ≡ true
table_apart = refl

-- No tokens are two forms of which one stands before the other in the table.
pub earlier : (f g : Form) (tokens : List Token) → number f < number g
    → Matches f tokens → Matches g tokens → ⊥
earlier f g tokens h m n =
    let c = apart_at FORMS (number f) (number g) form.AddNode h (number_within g) table_apart in
    let P : Form → Form → Type 0 = λ a b. clash (slots_of a) (slots_of b) ≡ true in
    let other : Form = get_or FORMS (number g) form.AddNode in
    let here : P f other = subst (λ (a : Form). P a other) (listed f) c in
    let d : clash (slots_of f) (slots_of g) ≡ true = subst (λ (b : Form). P f b) (listed g) here in
    clash_begins (slots_of f) (slots_of g) tokens d m.begins m.whole n.begins n.whole

-- Tokens are one form at most.
pub matches_alone : (f g : Form) (tokens : List Token) → Matches f tokens → Matches g tokens → f ≡ g
matches_alone f g tokens m n =
    elim (cases_order (number f) (number g)) [
      | inl e ↦ sym (listed f) ∙ ap (λ k. get_or FORMS k form.AddNode) e ∙ listed g
      | inr h ↦
          elim h [
            | inl k ↦ absurd (earlier f g tokens k m n)
            | inr k ↦ absurd (earlier g f tokens k n m)
          ]
    ]
