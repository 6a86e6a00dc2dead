-- Words that ask for a drill, by their three parts.
use Rattle.std.proofs.Common.{◌≡◌, ◌<◌, ◌≤◌, ℕ, List, [], ◌∷◌, length, get_or, sym, ap, ◌∙◌, arith}
use Rattle.std.specs.Prelude.{codes}
use Rattle.std.specs.declared.vec.Vec.{Vec}
use Rattle.std.specs.declared.alloc.Global.{Global}
use Rattle.plain_machine.specs.declared.limits.TheConstants.{MAX_SEED, MAX_DRILLED}
use Rattle.plain_machine.specs.Words.{AsksDrill, IsBounded, contents}

-- A list of three.
pub three : {X : Type 0} (xs : List X) (a b c : X) → 3 ≤ length xs → length xs < 4
    → a ≡ get_or xs 0 a → b ≡ get_or xs 1 b → c ≡ get_or xs 2 c → xs ≡ a ∷ b ∷ c ∷ []
three [] a b c low high p q r = absurd (omega arith)
three (x ∷ []) a b c low high p q r = absurd (omega arith)
three (x ∷ y ∷ []) a b c low high p q r = absurd (omega arith)
three (x ∷ y ∷ z ∷ []) a b c low high p q r = λ i. sym p i ∷ sym q i ∷ sym r i ∷ []
three (x ∷ y ∷ z ∷ w ∷ xs) a b c low high p q r = absurd (omega arith)

-- Two numbers within their bounds say which drill.
pub asked : (words : List (Vec ℕ Global)) (first one two : Vec ℕ Global)
    → words ≡ first ∷ one ∷ two ∷ [] → first.items ≡ codes "drill" → (seed lines : ℕ)
    (a b : List ℕ) → a ≡ one.items → b ≡ two.items → IsBounded 1 MAX_SEED a seed
    → IsBounded 0 MAX_DRILLED b lines → AsksDrill (contents words) seed lines
asked words first one two are drill seed lines a b a_is b_is seed_is lines_are = record {
  first = a;
  second = b;
  words_are = ap contents are ∙ (λ i. drill i ∷ sym a_is i ∷ sym b_is i ∷ []);
  seed_is = seed_is;
  lines_are = lines_are;
}
