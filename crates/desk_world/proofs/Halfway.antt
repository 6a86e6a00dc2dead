-- What holds of the items of a list that were taken, while they are taken one after the other.
use Rattle.std.proofs.Common.{◌≡◌, ◌<◌, List, [], ◌∷◌, ◌++◌, length, refl, sym, ap, ◌∙◌, subst}
use Rattle.std.proofs.Common.{arith}
use Rattle.std.proofs.lemmas.List.{append_assoc, append-nil, length-append}

-- some were taken, of which it holds, and the rest is left
pub record Halfway {X : Type 0} (all rest : List X) (P : List X → Type 0) : Type 0 where
  pub done : List X
  pub whole : all ≡ done ++ rest
  pub holds : P done

module _ {X : Type 0} (all : List X) where
  pub none_taken : (P : List X → Type 0) → P [] → Halfway all all P
  none_taken P start = record { done = []; whole = refl; holds = start }

  pub one_taken : (x : X) (rest : List X) (P Q : List X → Type 0) → Halfway all (x ∷ rest) P
      → ((done : List X) → all ≡ done ++ x ∷ rest → P done → Q (done ++ x ∷ []))
      → Halfway all rest Q
  one_taken x rest P Q was next = record {
    done = was.done ++ x ∷ [];
    whole = was.whole ∙ sym (append_assoc was.done (x ∷ []) rest);
    holds = next was.done was.whole was.holds;
  }

  pub all_taken : (P : List X → Type 0) → Halfway all [] P → P all
  all_taken P was = subst P (sym (was.whole ∙ append-nil was.done)) was.holds

-- while one is left, fewer than all were taken
pub more_left : {X : Type 0} (all : List X) (x : X) (rest : List X) (P : List X → Type 0)
    → (was : Halfway all (x ∷ rest) P) → length was.done < length all
more_left all x rest P was =
    let whole = ap length was.whole ∙ length-append was.done (x ∷ rest) in omega (arith, whole)

pub none_left : {X : Type 0} (rest : List X) → length rest ≡ 0 → rest ≡ []
none_left [] none = refl
none_left (x ∷ rest) none = absurd (omega (arith, none))
