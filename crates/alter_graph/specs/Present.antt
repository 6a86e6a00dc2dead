-- What is there: the facts of the live items, and how many stamps were used.
use Rattle.std.specs.Prelude.{ℕ, List}
use Rattle.std.specs.Option.{option_map_or}
use Rattle.base_items.specs.declared.items.Fact.{Fact}
use Rattle.base_items.specs.declared.items.ItemSort.{ItemSort}
use Rattle.base_items.specs.declared.items.ItemSort.TheVariants as sorts
use Rattle.plain_digraph.specs.Digraph.{Digraph}
use Rattle.plain_digraph.specs.Items.{fact_of, facts, node_fact}

pub record Present : Type 0 where
  pub nodes : List Fact
  pub arcs : List Fact
  pub stamps : ℕ

abbrev pub present_of : Digraph → Present
present_of g =
    record { nodes = facts g sorts.Node; arcs = facts g sorts.Arc; stamps = g.stamps }

abbrev pub facts_in : ItemSort → Present → List Fact
facts_in sorts.Node p = p.nodes
facts_in sorts.Arc p = p.arcs

-- what is told of the item; of one that isn't live, nothing in particular
abbrev pub fact_at : Digraph → ItemSort → ℕ → Fact
fact_at g sort id = option_map_or (λ fact. fact) (fact_of g sort id) (node_fact 0 0)
