-- An id or none as one number: 2^32 - 1 is none.
use Rattle.std.specs.Prelude.{◌≡◌, ℕ, ◌==◌, Bool, true, false, cond, Option, None, Some}
use Rattle.std.proofs.Common.{refl, sym}
use Rattle.std.proofs.lemmas.Bool.{eqb-true}
use Rattle.linked_lists.specs.declared.spots.Spot.TheInside.{Inside}

abbrev pub spot_of : Inside → Option ℕ
spot_of s = cond (s.raw == 4294967295) None (Some s.raw)

abbrev pub raw_of : Option ℕ → Inside
raw_of None = record { raw = 4294967295 }
raw_of (Some id) = record { raw = id }

-- The number is given back.
pub raw_back : (s : Inside) → raw_of (spot_of s) ≡ s
raw_back s = either (s.raw == 4294967295) refl
  where
    either : (b : Bool) → (s.raw == 4294967295) ≡ b → raw_of (cond b None (Some s.raw)) ≡ s
    either true is = λ i. record { raw = sym (eqb-true s.raw 4294967295 is) i }
    either false is = refl
