-- Which alterations are vetoed, and by whom: whole digraphs are tested, and nobody is told.
use Rattle.std.specs.Prelude.{◌≡◌, ℕ, Bool, true, false, not, ◌&&◌, List, ◌++◌, map}
use Rattle.std.specs.Prelude.{Option, Some, None, option_map}
use Rattle.base_items.specs.declared.items.ItemSort.{ItemSort}
use Rattle.base_items.specs.declared.items.ItemSort.TheVariants as sorts
use Rattle.plain_digraph.specs.Digraph.{Digraph}
use Rattle.plain_digraph.specs.Items.{facts}
use Rattle.plain_digraph.specs.PlainSteps.{PlainStep}
use Rattle.plain_digraph.specs.Alterations.{vetoer}
use Rattle.observe_core.specs.declared.kinds.Kind.{Kind}
use Rattle.observe_core.specs.Guards.{keeps_law}
use Rattle.notify_chain.specs.Seats.{SeatSeen}
use Rattle.notify_chain.specs.declared.key.SeatKey.{SeatKey}
use Rattle.alter_graph.specs.Chains.{ChainsSeen}

-- the sort of a seat, its key, and its law
pub record Guard : Type 0 where
  pub sort : ItemSort
  pub key : ℕ
  pub kind : Kind
  pub k : ℕ

abbrev pub guard_in : ItemSort → SeatSeen → Guard
guard_in sort s = record { sort = sort; key = s.key; kind = s.seen.kind; k = s.seen.k }

-- the seats of the node chain, oldest first, and then those of the arc chain
abbrev pub guards_of : ChainsSeen → List Guard
guards_of c = map (guard_in sorts.Node) c.nodes.seats ++ map (guard_in sorts.Arc) c.arcs.seats

abbrev pub is_sort : ItemSort → ItemSort → Bool
is_sort sorts.Node sorts.Node = true
is_sort sorts.Node sorts.Arc = false
is_sort sorts.Arc sorts.Node = false
is_sort sorts.Arc sorts.Arc = true

-- the facts of its sort break its law. A guard of the other sort isn't told
abbrev pub breaks : Guard → ItemSort → Digraph → Bool
breaks guard sort g = is_sort guard.sort sort && not (keeps_law guard.kind guard.k (facts g sort))

-- no guard refuses any of the steps
abbrev pub Passes : List Guard → List PlainStep → Digraph → Type 0
Passes guards steps g = vetoer breaks guards g steps ≡ None

-- the oldest guard that refuses the first step that one refuses
abbrev pub veto : List Guard → List PlainStep → Digraph → Option (ItemSort × ℕ)
veto guards steps g = option_map (λ guard. (guard.sort, guard.key)) (vetoer breaks guards g steps)

abbrev pub Vetoes : List Guard → List PlainStep → Digraph → ItemSort → SeatKey → Type 0
Vetoes guards steps g sort key = veto guards steps g ≡ Some (sort, key.0)
