-- What each answer shows.
use Rattle.std.specs.Prelude.{ℕ, ℤ, pos}
use Rattle.static_digraph.specs.declared.answers.CostAnswer.{CostAnswer}
use Rattle.static_digraph.specs.declared.answers.CostAnswer.TheVariants as answers
use Rattle.plain_certificates.specs.Numbered.{Numbered}
use Rattle.plain_certificates.specs.Feasible.{Bounds}
use Rattle.plain_certificates.specs.Cheapest.{IsBasic}
use Rattle.plain_certificates.specs.Tables.{at}
use Rattle.task_bounds.specs.Answers.{Shows}

-- a flow of least cost is basic
abbrev pub IsBasicAt : Numbered → Bounds → CostAnswer → Type 0
IsBasicAt g bounds (answers.Optimal flow pi total) = IsBasic g bounds (at (pos 0) flow)
IsBasicAt g bounds (answers.Barrier b) = Unit {0}
IsBasicAt g bounds (answers.FreeCycle flow cycle total) = Unit {0}

-- what any way to a cheapest flow shows, and that such a flow is basic
pub record Answers (g : Numbered) (bounds : Bounds) (cost : ℕ → ℤ) (answer : CostAnswer) : Type 0
  where
    pub shows : Shows g bounds cost answer
    pub basic : IsBasicAt g bounds answer
