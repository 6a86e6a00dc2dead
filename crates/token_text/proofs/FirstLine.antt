-- What stands before the first place of a byte, and the first line of some bytes.
use Rattle.std.proofs.Common.{◌≡◌, ℕ, zero, suc, ◌<◌, List, [], ◌∷◌, ◌++◌, length, take, get_or}
use Rattle.std.proofs.Common.{refl, ap, ◌∙◌, arith}
use Rattle.std.proofs.Common.{cond}
use Rattle.std.proofs.lemmas.Bool.{ne_eqb}
use Rattle.token_text.specs.Lines.{LacksByte, lines_of, onto_first}

-- what stands before the first place of the byte is one alone
pub one_part : (byte : ℕ) (a b x y : List ℕ) → LacksByte byte a → LacksByte byte b
    → a ++ byte ∷ x ≡ b ++ byte ∷ y → (a ≡ b) × (x ≡ y)
one_part byte [] [] x y p q e = (refl, cc)
one_part byte [] (c ∷ b) x y p q e = absurd (q.0 (cc))
one_part byte (c ∷ a) [] x y p q e = absurd (p.0 (cc))
one_part byte (c ∷ a) (d ∷ b) x y p q e =
    let tails : a ++ byte ∷ x ≡ b ++ byte ∷ y = cc in
    let heads : c ≡ d = cc in
    let more = one_part byte a b x y p.1 q.1 tails in
    (λ i. heads i ∷ more.0 i, more.1)

-- bytes that have one don't lack it
pub not_inside : (byte : ℕ) (a x : List ℕ) → LacksByte byte (a ++ byte ∷ x) → ⊥
not_inside byte [] x p = p.0 refl
not_inside byte (c ∷ a) x p = not_inside byte a x p.1

-- none of the first n bytes is this one
pub inside_from : (byte : ℕ) (xs : List ℕ) (n : ℕ) → ((k : ℕ) → k < n → get_or xs k 0 ≡ byte → ⊥)
    → LacksByte byte (take n xs)
inside_from byte [] zero h = tt
inside_from byte [] (suc n) h = tt
inside_from byte (x ∷ xs) zero h = tt
inside_from byte (x ∷ xs) (suc n) h =
    (h zero (omega arith), inside_from byte xs n (λ k below. h (suc k) (omega arith)))

-- ---- lines

onto : (b : ℕ) (bytes : List ℕ) (lines : List (List ℕ)) → (b ≡ 10 → ⊥) → lines_of bytes ≡ lines
    → lines_of (b ∷ bytes) ≡ onto_first b lines
onto b bytes lines differs e =
    ap (λ t. cond t ([] ∷ lines_of bytes) (onto_first b (lines_of bytes))) (ne_eqb b 10 differs)
    ∙ ap (onto_first b) e

-- the first line, with its end
pub lines_first : (line after : List ℕ) → LacksByte 10 line
    → lines_of (line ++ 10 ∷ after) ≡ line ∷ lines_of after
lines_first [] after h = refl
lines_first (b ∷ line) after h =
    onto b (line ++ 10 ∷ after) (line ∷ lines_of after) h.0 (lines_first line after h.1)

-- the last line, without one
pub lines_last : (bytes : List ℕ) → 0 < length bytes → LacksByte 10 bytes
    → lines_of bytes ≡ bytes ∷ []
lines_last [] some h = absurd (omega arith)
lines_last (b ∷ []) some h = onto b [] [] h.0 refl
lines_last (b ∷ c ∷ bytes) some h =
    onto b (c ∷ bytes) ((c ∷ bytes) ∷ []) h.0 (lines_last (c ∷ bytes) (omega arith) h.1)
