-- Words that ask for a graph, by their four parts.
use Rattle.std.proofs.Common.{◌≡◌, ◌<◌, ◌≤◌, ℕ, Bool, true, false, not, List, [], ◌∷◌, length}
use Rattle.std.proofs.Common.{get_or, refl, sym, ap, ◌∙◌, subst, arith}
use Rattle.std.specs.Prelude.{codes}
use Rattle.std.specs.declared.vec.Vec.{Vec}
use Rattle.std.specs.declared.alloc.Global.{Global}
use Rattle.plain_machine.specs.declared.limits.TheConstants.{MAX_SEED, MAX_MADE_NODES}
use Rattle.plain_machine.specs.declared.limits.TheConstants.{MAX_MADE_ARCS}
use Rattle.plain_machine.specs.Words.{AsksGraph, IsBounded, contents}

pub not_false : (b : Bool) → not b ≡ false → b ≡ true
not_false true is = refl
not_false false is = sym is

-- A list of four.
pub four : {X : Type 0} (xs : List X) (a b c d : X) → 4 ≤ length xs → length xs < 5
    → a ≡ get_or xs 0 a → b ≡ get_or xs 1 b → c ≡ get_or xs 2 c → d ≡ get_or xs 3 d
    → xs ≡ a ∷ b ∷ c ∷ d ∷ []
four [] a b c d low high p q r s = absurd (omega arith)
four (x ∷ []) a b c d low high p q r s = absurd (omega arith)
four (x ∷ y ∷ []) a b c d low high p q r s = absurd (omega arith)
four (x ∷ y ∷ z ∷ []) a b c d low high p q r s = absurd (omega arith)
four (x ∷ y ∷ z ∷ w ∷ []) a b c d low high p q r s =
    λ i. sym p i ∷ sym q i ∷ sym r i ∷ sym s i ∷ []
four (x ∷ y ∷ z ∷ w ∷ v ∷ xs) a b c d low high p q r s = absurd (omega arith)

module _ (words : List (Vec ℕ Global)) (first one two three : Vec ℕ Global)
    (are : words ≡ first ∷ one ∷ two ∷ three ∷ []) where
  module _ (seed nodes arcs : ℕ) (asks : AsksGraph (contents words) seed nodes arcs) where
    parts : first.items ∷ one.items ∷ two.items ∷ three.items ∷ []
        ≡ codes "make" ∷ asks.first ∷ asks.second ∷ asks.third ∷ []
    parts = sym (ap contents are) ∙ asks.words_are

    first_same : asks.first ≡ one.items
    first_same = let e = parts in cc

    second_same : asks.second ≡ two.items
    second_same = let e = parts in cc

    third_same : asks.third ≡ three.items
    third_same = let e = parts in cc

  -- a part says no number within its bounds
  module _ (digits : List ℕ) where
    pub no_seed : digits ≡ one.items → ((n : ℕ) → IsBounded 1 MAX_SEED digits n → ⊥)
        → (seed nodes arcs : ℕ) → AsksGraph (contents words) seed nodes arcs → ⊥
    no_seed is none seed nodes arcs asks =
        none seed (subst (λ d. IsBounded 1 MAX_SEED d seed)
        (first_same seed nodes arcs asks ∙ sym is) asks.seed_is)

    pub no_nodes : digits ≡ two.items → ((n : ℕ) → IsBounded 1 MAX_MADE_NODES digits n → ⊥)
        → (seed nodes arcs : ℕ) → AsksGraph (contents words) seed nodes arcs → ⊥
    no_nodes is none seed nodes arcs asks =
        none nodes (subst (λ d. IsBounded 1 MAX_MADE_NODES d nodes)
        (second_same seed nodes arcs asks ∙ sym is) asks.nodes_are)

    pub no_arcs : digits ≡ three.items → ((n : ℕ) → IsBounded 0 MAX_MADE_ARCS digits n → ⊥)
        → (seed nodes arcs : ℕ) → AsksGraph (contents words) seed nodes arcs → ⊥
    no_arcs is none seed nodes arcs asks =
        none arcs (subst (λ d. IsBounded 0 MAX_MADE_ARCS d arcs)
        (third_same seed nodes arcs asks ∙ sym is) asks.arcs_are)

  -- all three say one
  pub asked : first.items ≡ codes "make" → (seed nodes arcs : ℕ) (a b c : List ℕ)
      → a ≡ one.items → b ≡ two.items → c ≡ three.items → IsBounded 1 MAX_SEED a seed
      → IsBounded 1 MAX_MADE_NODES b nodes → IsBounded 0 MAX_MADE_ARCS c arcs
      → AsksGraph (contents words) seed nodes arcs
  asked make seed nodes arcs a b c a_is b_is c_is seed_is nodes_are arcs_are = record {
    first = a;
    second = b;
    third = c;
    words_are = ap contents are ∙ (λ i. make i ∷ sym a_is i ∷ sym b_is i ∷ sym c_is i ∷ []);
    seed_is = seed_is;
    nodes_are = nodes_are;
    arcs_are = arcs_are;
  }
