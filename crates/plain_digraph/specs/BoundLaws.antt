-- The facts of a valid digraph are in bounds, and a move changes its fact.
use Rattle.std.specs.Prelude.{◌≡◌, ◌≢◌, ℕ, ◌<◌, Some}
use Rattle.base_items.specs.declared.items.Fact.{Fact}
use Rattle.base_items.specs.declared.items.ItemSort.{ItemSort}
use Rattle.base_items.specs.declared.items.ItemSort.TheVariants as sorts
use Rattle.plain_digraph.specs.Facts.{with_source, with_target, turned}
use Rattle.plain_digraph.specs.Digraph.{Digraph}
use Rattle.plain_digraph.specs.Items.{fact_of, used_of}
use Rattle.plain_digraph.specs.Valid.{IsValid}

-- its ids are among the used ones, and its stamps too
pub record IsBounded (g : Digraph) (sort : ItemSort) (fact : Fact) : Type 0 where
  pub id : fact.id < used_of g sort
  pub from : fact.from < g.used_nodes
  pub to : fact.to < g.used_nodes
  pub from_at : fact.from_at < g.stamps
  pub to_at : fact.to_at < g.stamps

-- each fact of a valid digraph is bounded
abbrev pub FactsAreBounded : Type 0
FactsAreBounded = (g : Digraph) (sort : ItemSort) (id : ℕ) (fact : Fact) → IsValid g
    → fact_of g sort id ≡ Some fact → IsBounded g sort fact

-- a moved arc has another fact than before, since its stamp is new
abbrev pub MovedFactsDiffer : Type 0
MovedFactsDiffer = (g : Digraph) (fact : Fact) (node : ℕ) → IsValid g
    → fact_of g sorts.Arc fact.id ≡ Some fact
    → (with_source fact node g.stamps ≢ fact) × (with_target fact node g.stamps ≢ fact)
    × (turned fact g.stamps ≢ fact)
