-- What clauses on results and options say of the one that is there.
use Rattle.std.proofs.Common.{◌≡◌, true, false, Option, Some, None, Result, Ok, Err, subst}
use Rattle.std.specs.Prelude.{is_err, IfSome, IfNone, OnOk, OnErr}

-- What is said of an `Ok`, at one.
pub at_ok : {T E P : Type 0} (r : Result T E) → is_err r ≡ false → OnOk r P → P
at_ok (Ok x) e p = p
at_ok (Err y) e p = absurd (cc)

-- What is said of an error, at one.
pub at_err : {T E P : Type 0} (r : Result T E) → is_err r ≡ true → OnErr r P → P
at_err (Ok x) e p = absurd (cc)
at_err (Err y) e p = p

-- What holds whatever the result is.
pub on_err : {T E P : Type 0} (r : Result T E) → P → OnErr r P
on_err (Ok x) p = tt
on_err (Err y) p = p

-- What follows from two facts on an error.
pub by_both : {T E A B P : Type 0} (r : Result T E) → (A → B → P) → OnErr r A → OnErr r B
    → OnErr r P
by_both (Ok x) f a b = tt
by_both (Err y) f a b = f a b

-- What is said of the value, at one.
pub at_some : {T : Type 0} (P : T → Type 0) (found : Option T) (x : T) → found ≡ Some x
    → IfSome found P → P x
at_some P None x e p = absurd (cc)
at_some P (Some y) x e p = let same : y ≡ x = cc in subst P same p

-- What is said where there is none, at none.
pub at_none : {T P : Type 0} (found : Option T) → found ≡ None → IfNone found P → P
at_none None e p = p
at_none (Some x) e p = absurd (cc)
