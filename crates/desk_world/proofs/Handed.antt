-- A fault that is handed on.
use Rattle.std.proofs.Common.{◌≡◌, sym, subst}
use Rattle.std.specs.Prelude.{Result, Ok, Err, IsErrAnd}

-- what holds of the fault's answer holds of the answer that has this fault
pub handed_on : {T E : Type 0} (P : Result T E → Type 0) (r : Result T E) (fault : E)
    → IsErrAnd r (λ e. e ≡ fault) → P (Err fault) → P r
handed_on P (Ok x) fault is holds = absurd is
handed_on P (Err e) fault is holds = subst (λ e. P (Err e)) (sym is) holds
