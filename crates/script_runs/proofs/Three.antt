-- Lists of words.
use Rattle.std.proofs.Common.{◌≡◌, ◌<◌, ◌≤◌, List, [], ◌∷◌, length, get_or, sym, arith}

-- A list of three.
pub three : {X : Type 0} (xs : List X) (a b c : X) → 3 ≤ length xs → length xs < 4
    → a ≡ get_or xs 0 a → b ≡ get_or xs 1 b → c ≡ get_or xs 2 c → xs ≡ a ∷ b ∷ c ∷ []
three [] a b c low high p q r = absurd (omega arith)
three (x ∷ []) a b c low high p q r = absurd (omega arith)
three (x ∷ y ∷ []) a b c low high p q r = absurd (omega arith)
three (x ∷ y ∷ z ∷ []) a b c low high p q r = λ i. sym p i ∷ sym q i ∷ sym r i ∷ []
three (x ∷ y ∷ z ∷ w ∷ xs) a b c low high p q r = absurd (omega arith)
