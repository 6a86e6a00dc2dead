-- The plain steps of a planned list.
use Rattle.std.proofs.Common.{◌≡◌, List, [], ◌∷◌, ◌++◌, refl, ap}
use Rattle.alter_graph.specs.declared.steps.Step.{Step}
use Rattle.alter_graph.specs.Steps.{plain_step, plain_steps}
use Rattle.alter_graph.proofs.Taking.{always_refusable}
use Rattle.alter_graph.proofs.Parting.{AllRefusable}

pub plain-append : (xs ys : List Step) → plain_steps (xs ++ ys) ≡ plain_steps xs ++ plain_steps ys
plain-append [] ys = refl
plain-append (x ∷ xs) ys = ap (λ l. plain_step x ∷ l) (plain-append xs ys)

pub all_refusable : (xs : List Step) → AllRefusable (plain_steps xs)
all_refusable [] = tt
all_refusable (x ∷ xs) = (always_refusable x, all_refusable xs)
