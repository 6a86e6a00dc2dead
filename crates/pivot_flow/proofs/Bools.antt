-- Cases of a truth value.
use Rattle.std.proofs.Common.{◌≡◌, ◌⊎◌, inl, inr, Bool, true}
use Rattle.std.proofs.Common.{false, refl}

pub true_not_false : true ≡ false → ⊥
true_not_false h = cc

pub bool_cases : (b : Bool) → (b ≡ true) ⊎ (b ≡ false)
bool_cases true = inl refl
bool_cases false = inr refl
