-- The ints and the bools that texts spell.
use Rattle.std.proofs.Common.{◌≡◌, ℕ, ℤ, Bool, true, false, cond, List, length, refl}
use Rattle.std.proofs.Common.{sym, ap}
use Rattle.std.proofs.Common.{subst, Some, None, ◌∙◌, inl, inr, arith}
use Rattle.std.specs.Prelude.{◌&&◌, ◌||◌, nat_le, codes}
use Rattle.std.specs.List.{list_all}
use Rattle.std.specs.Str.{bytes_eq}
use Rattle.std.specs.Str.Parse.{without_leading_sign, signed_digits_value, digits_value}
use Rattle.std.proofs.lemmas.Grind.{common_steps}
use Rattle.std.proofs.lemmas.Int.{ints}
use Rattle.std.proofs.lemmas.Slice.Eq.{bytes_eq-Decides}
use Rattle.std.proofs.lemmas.Str.Parse.{IsDigitsTest, IsNumeralModel, numerals_by_value}
use Rattle.token_text.specs.Numbers.{IsInt, IsBool}
use Rattle.script_words.specs.Slots.{is_digit}
use Rattle.observe_core.proofs.ItemLemmas.{and_left, and_right}
use Rattle.plain_world.specs.Values.{int_of, bool_of, fits_64}

-- ---- ints

tells : IsDigitsTest (λ bytes. list_all is_digit bytes ≡ true)
tells = record {
  empty = refl;
  parts = λ byte bytes all.
      let here = and_left (is_digit byte) (list_all is_digit bytes) all in
      let low = and_left (nat_le 48 byte) (nat_le byte 57) here in
      let high = and_right (nat_le 48 byte) (nat_le byte 57) here in (
        (grind (arith, common_steps, low), grind (arith, common_steps, high)),
        and_right (is_digit byte) (list_all is_digit bytes) all,
      );
  more = λ byte bytes within all.
      let low : nat_le 48 byte ≡ true = grind (arith, common_steps, within) in
      let high : nat_le byte 57 ≡ true = grind (arith, common_steps, within) in
      λ i. (low i && high i) && all i;
}

numerals : IsNumeralModel (λ bytes. list_all is_digit bytes ≡ true) (digits_value 10)
numerals = numerals_by_value (λ bytes. list_all is_digit bytes ≡ true) tells

-- the bytes spell an int of 64 bits
abbrev is_int : List ℕ → Bool
is_int bytes =
    nat_le 1 (length (without_leading_sign bytes))
    && list_all is_digit (without_leading_sign bytes) && fits_64 (signed_digits_value 10 bytes)

to_int : (bytes : List ℕ) → is_int bytes ≡ true → IsInt bytes (signed_digits_value 10 bytes)
to_int bytes is =
    let digits = without_leading_sign bytes in
    let value = signed_digits_value 10 bytes in
    let own = nat_le 1 (length digits) && list_all is_digit digits in
    let first = and_left own (fits_64 value) is in
    let fits = and_right own (fits_64 value) is in
    let some = and_left (nat_le 1 (length digits)) (list_all is_digit digits) first in
    let all = and_right (nat_le 1 (length digits)) (list_all is_digit digits) first in
    record {
      numeral = (grind (arith, common_steps, some), numerals.to digits all);
      value_is = refl;
      fits = search (arith, ints, fits);
    }

from_int : (bytes : List ℕ) (value : ℤ) → IsInt bytes value → is_int bytes ≡ true
from_int bytes value int =
    let digits = without_leading_sign bytes in
    let some : nat_le 1 (length digits) ≡ true =
    let n = int.numeral.0 in grind (arith, common_steps, n) in
    let all = numerals.from digits int.numeral.1 in
    let fits : fits_64 (signed_digits_value 10 bytes) ≡ true =
    subst (λ n. fits_64 n ≡ true) int.value_is (let f = int.fits in search (arith, ints, f)) in
    λ i. (some i && all i) && fits i

pub int_told : (bytes : List ℕ) (value : ℤ) → IsInt bytes value → int_of bytes ≡ Some value
int_told bytes value int =
    ap (λ b. cond b (Some (signed_digits_value 10 bytes)) None) (from_int bytes value int)
    ∙ ap Some (sym int.value_is)

pub no_int : (bytes : List ℕ) → ((value : ℤ) → IsInt bytes value → ⊥) → int_of bytes ≡ None
no_int bytes none =
    elim (is_int bytes) as (λ b. is_int bytes ≡ b
    → cond b (Some (signed_digits_value 10 bytes)) None ≡ None) [
      | true ↦ λ is. absurd (none (signed_digits_value 10 bytes) (to_int bytes is))
      | false ↦ λ is. refl
    ] refl

-- ---- bools

pub bool_told : (bytes : List ℕ) (value : Bool) → IsBool bytes value → bool_of bytes ≡ Some value
bool_told bytes false (inl is) = ap bool_of is
bool_told bytes false (inr is) = ap bool_of is
bool_told bytes true (inl is) = ap bool_of is
bool_told bytes true (inr is) = ap bool_of is

unlike : (bytes other : List ℕ) → (bytes ≡ other → ⊥) → bytes_eq bytes other ≡ false
unlike bytes other apart =
    elim (bytes_eq bytes other) as (λ b. bytes_eq bytes other ≡ b → b ≡ false) [
      | true ↦ λ is. absurd (apart ((bytes_eq-Decides bytes other).0 is))
      | false ↦ λ is. refl
    ] refl

pub no_bool : (bytes : List ℕ) → ((value : Bool) → IsBool bytes value → ⊥) → bool_of bytes ≡ None
no_bool bytes none =
    let zero = unlike bytes (codes "0") (λ is. none false (inl is)) in
    let no = unlike bytes (codes "false") (λ is. none false (inr is)) in
    let one = unlike bytes (codes "1") (λ is. none true (inl is)) in
    let yes = unlike bytes (codes "true") (λ is. none true (inr is)) in
    λ i. cond (zero i || no i) (Some false) (cond (one i || yes i) (Some true) None)
