-- Levels of words through changes, and the first place by them.
use Rattle.std.proofs.Common.{◌≡◌, ◌≢◌, ℕ, ◌+◌, ◌*◌, ◌/◌, ◌%◌, ◌<◌, ◌≤◌, ◌==◌, Bool, false, not}
use Rattle.std.proofs.Common.{List}
use Rattle.std.proofs.Common.{sym, ap, subst, ◌∙◌, arith, ⊎_elim}
use Rattle.std.proofs.lemmas.Bool.{cases_eq, cases_lt}
use Rattle.std.specs.Int.{bit_at}
use Rattle.index_maps.specs.Bits.{bit_in, has_bits, word_at, word_end, NoneWithin, IsFirst, Sums}
use Rattle.index_maps.proofs.BitLemmas.{no_bits}

-- the same set has the same first place
pub first_same : (b c : ℕ → Bool) → ((k : ℕ) → b k ≡ c k) → (low k : ℕ) → IsFirst b low k
    → IsFirst c low k
first_same b c same low k h = record {
  above = h.above;
  found = sym (same k) ∙ h.found;
  first = λ j l m. sym (same j) ∙ h.first j l m;
}

module _ (ws : List ℕ) (from : ℕ) (none : NoneWithin (bit_in ws) from (word_end from)) where
  -- a place from the next word with a bit on
  pub later_first : (w k : ℕ) → IsFirst (has_bits ws) (from / 64 + 1) w
      → IsFirst (bit_in ws) (w * 64) k → IsFirst (bit_in ws) from k
  later_first w k h g =
      let a = h.above in
      let b = g.above in
      record {
        above = omega (arith, a, b);
        found = g.found;
        first = λ j l m. ⊎_elim
            (λ (n : j < word_end from). none j l n)
            (λ (n : word_end from ≤ j). ⊎_elim
            (λ (o : j < w * 64). no_bits ws (j / 64) j
            (h.first (j / 64) (omega (arith, n)) (omega (arith, o))) (omega arith))
            (λ (o : w * 64 ≤ j). g.first j o m)
            (cases_lt j (w * 64)))
            (cases_lt j (word_end from));
      }

  pub later_none : ((w : ℕ) → from / 64 + 1 ≤ w → has_bits ws w ≡ false)
      → (j : ℕ) → from ≤ j → bit_in ws j ≡ false
  later_none h j l = ⊎_elim
      (λ (n : j < word_end from). none j l n)
      (λ (n : word_end from ≤ j).
      no_bits ws (j / 64) j (h (j / 64) (omega (arith, n))) (omega arith))
      (cases_lt j (word_end from))

-- words that are the same have the same bits
pub bit_same : (ws now : List ℕ) → ((w : ℕ) → word_at now w ≡ word_at ws w) → (k : ℕ)
    → bit_in now k ≡ bit_in ws k
bit_same ws now same k = ap (λ n. bit_at n (k % 64) == 1) (same (k / 64))

pub sums_same : (us vs ws now : List ℕ) → Sums us ws → ((w : ℕ) → word_at vs w ≡ word_at us w)
    → ((w : ℕ) → word_at now w ≡ word_at ws w) → Sums vs now
sums_same us vs ws now h upper words w =
    bit_same us vs upper w ∙ h w ∙ ap (λ n. not (n == 0)) (sym (words w))

-- one word changes, and its bit in the summary
pub sums_marked : (us vs ws now : List ℕ) (at : ℕ) → Sums us ws
    → bit_in vs at ≡ has_bits now at
    → ((k : ℕ) → k ≢ at → bit_in vs k ≡ bit_in us k)
    → ((w : ℕ) → w ≢ at → word_at now w ≡ word_at ws w) → Sums vs now
sums_marked us vs ws now at h same others words w = ⊎_elim
    (λ (q : w ≡ at). subst (λ v. bit_in vs v ≡ has_bits now v) (sym q) same)
    (λ (q : w ≢ at). others w q ∙ h w ∙ ap (λ n. not (n == 0)) (sym (words w q)))
    (cases_eq w at)
