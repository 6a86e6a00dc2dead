-- Bits in words, and the lowest of them.
use Rattle.std.proofs.Common.{◌≡◌, ℕ, ◌+◌, ◌-◌, ◌*◌, ◌/◌, ◌%◌, ◌^◌, ◌<◌, ◌≤◌, ◌==◌}
use Rattle.std.proofs.Common.{true, false}
use Rattle.std.proofs.Common.{List, length, w64, sym, ap, ◌∙◌, arith}
use Rattle.std.proofs.Math.Nat.{div-div-eq-div-mul}
use Rattle.std.proofs.lemmas.Grind.{common_steps}
use Rattle.std.proofs.lemmas.Nat.{pow-add}
use Rattle.std.proofs.lemmas.Nat.Bits.{bit_at-trailing_zeros, bit_at-zero, bit_at_above}
use Rattle.std.specs.Int.{bit_at, trailing_zeros}
use Rattle.index_maps.specs.Bits.{bit_in, has_bits, word_at, word_end, NoneWithin, IsFirst}

-- a bit by its word and its place there
pub bit_by : (ws : List ℕ) (w p k : ℕ) → k ≡ w * 64 + p → p < 64
    → bit_in ws k ≡ (bit_at (word_at ws w) p == 1)
bit_by ws w p k e l =
    let q : k / 64 ≡ w = omega (arith, e, l) in
    let r : k % 64 ≡ p = omega (arith, e, l) in
    ap (λ v. bit_at (word_at ws v) (k % 64) == 1) q
    ∙ ap (λ o. bit_at (word_at ws w) o == 1) r

pub unset : (ws : List ℕ) (w p k : ℕ) → k ≡ w * 64 + p → p < 64
    → bit_at (word_at ws w) p ≡ 0 → bit_in ws k ≡ false
unset ws w p k e l z = bit_by ws w p k e l ∙ ap (λ b. b == 1) z

-- a word without bits
pub no_bits : (ws : List ℕ) (w k : ℕ) → has_bits ws w ≡ false → k / 64 ≡ w → bit_in ws k ≡ false
no_bits ws w k h e =
    let z : word_at ws w ≡ 0 = grind (arith, common_steps, h) in
    let p : k ≡ w * 64 + k % 64 = omega (arith, e) in
    unset ws w (k % 64) k p (omega arith) (ap (λ n. bit_at n (k % 64)) z ∙ bit_at-zero (k % 64))

-- n is a word without its s lowest bits
module _ (ws : List ℕ) (w s n from : ℕ) (e : from ≡ w * 64 + s) (l : s < 64)
    (same : (i : ℕ) → bit_at n i ≡ bit_at (word_at ws w) (s + i)) where
  pub none_rest : n ≡ 0 → NoneWithin (bit_in ws) from (word_end from)
  none_rest z k a b =
      let i = k - from in
      let q : k ≡ w * 64 + (s + i) = omega (arith, e, a) in
      let m : s + i < 64 = omega (arith, e, l, a, b) in
      unset ws w (s + i) k q m (sym (same i) ∙ ap (λ x. bit_at x i) z ∙ bit_at-zero i)

  pub first_rest : word_at ws w < 18446744073709551616 → n ≤ word_at ws w → 0 < n
      → IsFirst (bit_in ws) from (from + trailing_zeros w64 n)
  first_rest fits small p =
      let t = trailing_zeros w64 n in
      let low = bit_at-trailing_zeros w64 n p (omega (arith, fits, small)) in
      let up : bit_at (word_at ws w) (s + t) ≡ 1 = sym (same t) ∙ low.1 in
      let m : s + t < 64 = within t up in
      record {
        above = omega arith;
        found = bit_by ws w (s + t) (from + t) (omega (arith, e)) m ∙ ap (λ b. b == 1) up;
        first = λ k a b.
            let i = k - from in
            let q : k ≡ w * 64 + (s + i) = omega (arith, e, a) in
            unset ws w (s + i) k q (omega (arith, a, b, m))
            (sym (same i) ∙ low.2 i (omega (arith, a, b)));
      }
    where
      within : (t : ℕ) → bit_at (word_at ws w) (s + t) ≡ 1 → s + t < 64
      within t up = grind (arith, common_steps, up, bit_at_above (word_at ws w) 64 (s + t) fits)

-- a word without its lowest bits, as a shift has it
pub shifted : (s n i : ℕ) → bit_at (n / 2 ^ s) i ≡ bit_at n (s + i)
shifted s n i =
    ap (λ q. q % 2)
    (div-div-eq-div-mul n (2 ^ s) (2 ^ i) ∙ ap (λ d. n / d) (sym (pow-add 2 s i)))

-- a word with a bit is one of the words
pub inside : (ws : List ℕ) (w : ℕ) → has_bits ws w ≡ true → w < length ws
inside ws w h = grind (arith, common_steps, h)
