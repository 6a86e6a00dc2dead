-- That half a snapshot stands for some facts has one proof at most.
use Rattle.std.specs.Prelude.{ℕ, List, [], ◌∷◌}
use Rattle.std.proofs.Props as below
use Rattle.plain_digraph.specs.Lists.{AllOf}
use Rattle.observe_core.specs.Items.{Lacks}

pub AllOf-prop : {X : Type 0} (P : X → Type 0) → ((x : X) → IsProp (P x)) → (xs : List X)
    → IsProp (AllOf P xs)
AllOf-prop P p [] = Prim.hlevel below.props
AllOf-prop P p (x ∷ xs) = let here = p x in let rest =
    AllOf-prop P p xs in Prim.hlevel (here, rest, below.props)

pub Lacks-prop : {X : Type 0} (id_of : X → ℕ) (i : ℕ) (xs : List X) → IsProp (Lacks id_of i xs)
Lacks-prop id_of i [] = Prim.hlevel below.props
Lacks-prop id_of i (x ∷ xs) = let rest = Lacks-prop id_of i xs in Prim.hlevel (rest, below.props)

pub ruleset props = (AllOf-prop, Lacks-prop, below.props)
