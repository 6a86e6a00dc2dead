-- That items stand in their lists has one proof at most.
use Rattle.std.specs.Prelude.{ℕ, List, [], ◌∷◌, Option, None, Some, IfSome}
use Rattle.std.proofs.Props as below
use Rattle.base_items.specs.declared.items.Fact.{Fact}
use Rattle.linked_lists.specs.declared.lists.Link.{Link}
use Rattle.linked_lists.specs.Links.{IsChain, IsList}
use Rattle.plain_digraph.specs.Lists.{AllOf}
use Rattle.list_digraph.specs.Tables.{AreLinked}
use Rattle.kept_views.specs.declared.listing.Listing.{Listing}
use Rattle.kept_views.specs.declared.order.Order.{Order}
use Rattle.kept_views.specs.declared.orders.Orders.{Orders}
use Rattle.kept_views.specs.Order.{HasRow}
use Rattle.kept_views.specs.Listed.{IsListed}
use Rattle.kept_views.specs.Ordered.{IsOrdered}

chain-prop : (links : List Link) (before : Option ℕ) (ids : List ℕ) (after : Option ℕ)
    → IsProp (IsChain links before ids after)
chain-prop links before [] after = Prim.hlevel below.props
chain-prop links before (id ∷ ids) after =
    let rest = chain-prop links (Some id) ids after in Prim.hlevel (rest, below.props)

list-prop : (head : Option ℕ) (links : List Link) (ids : List ℕ) → IsProp (IsList head links ids)
list-prop head links ids =
    let chain = chain-prop links None ids None in Prim.hlevel (chain, below.props)

linked-prop : (heads : List (Option ℕ)) (links : List Link) (lists : ℕ → List ℕ)
    → IsProp (AreLinked heads links lists)
linked-prop heads links lists = Prim.hlevel (list-prop, below.props)

rows-prop : (l : Listing) (m n : ℕ) (fs : List Fact) → IsProp (AllOf (HasRow l m n) fs)
rows-prop l m n [] = Prim.hlevel below.props
rows-prop l m n (f ∷ fs) = let rest = rows-prop l m n fs in Prim.hlevel (rest, below.props)

listed-prop : (o : Order) (fs : List Fact) → IsProp (IsListed o fs)
listed-prop o fs = Prim.hlevel (linked-prop, rows-prop, below.props)

second-prop : (o : Option Order) (fs : List Fact) → IsProp (IfSome o (λ o. IsListed o fs))
second-prop None fs = Prim.hlevel below.props
second-prop (Some o) fs = listed-prop o fs

pub order-prop : (os : Orders) (fs : List Fact) → IsProp (IsOrdered os fs)
order-prop os fs =
    let first = listed-prop os.first fs in
    let second = second-prop os.second fs in
    Prim.hlevel (first, second, below.props)
