-- Room for the items of a kept view after a change.
use Rattle.std.proofs.Common.{◌≡◌, ◌==◌, true, false, if◌then◌else◌, List, [], ◌∷◌, length}
use Rattle.std.proofs.Common.{Option, Some, None, IfSome, refl, ap, ◌∙◌, arith}
use Rattle.std.proofs.lemmas.Grind.{common_steps}
use Rattle.base_items.specs.declared.items.Fact.{Fact}
use Rattle.plain_digraph.specs.Facts.{fact_id}
use Rattle.plain_digraph.specs.Lists.{AllOf}
use Rattle.plain_digraph.specs.Rising.{with_item, without_item, swapped}
use Rattle.observe_core.proofs.ItemLemmas.{all-place}
use Rattle.kept_views.specs.declared.order.Order.{Order}
use Rattle.kept_views.specs.declared.orders.Orders.{Orders}
use Rattle.kept_views.specs.Order.{HasRow}
use Rattle.kept_views.specs.Listed.{IsListed, HasRows, HasRoom}
use Rattle.kept_views.specs.Ordered.{IsOrdered, HaveRows, HaveRoom}

-- an item in place of another
pub without_swapped : (f : Fact) (fs : List Fact)
    → without_item fact_id f.id (swapped fact_id f fs) ≡ without_item fact_id f.id fs
without_swapped f [] = refl
without_swapped f (g ∷ gs) =
    let r = without_swapped f gs in
    elim (g.id == f.id) as (λ b. (g.id == f.id) ≡ b
    → without_item fact_id f.id ((if b then f else g) ∷ swapped fact_id f gs)
    ≡ (if b then without_item fact_id f.id gs else g ∷ without_item fact_id f.id gs)) [
      | true ↦ λ e.
          let same : (f.id == f.id) ≡ true = grind (arith, common_steps) in
          ap (λ b. if b then without_item fact_id f.id (swapped fact_id f gs)
          else f ∷ without_item fact_id f.id (swapped fact_id f gs)) same ∙ r
      | false ↦ λ e.
          ap (λ b. if b then without_item fact_id f.id (swapped fact_id f gs)
          else g ∷ without_item fact_id f.id (swapped fact_id f gs)) e ∙ ap (λ l. g ∷ l) r
    ] refl

all_swapped : (P : Fact → Type 0) (f : Fact) (fs : List Fact) → P f → AllOf P fs
    → AllOf P (swapped fact_id f fs)
all_swapped P f [] here all = tt
all_swapped P f (g ∷ gs) here all =
    let r = all_swapped P f gs here all.1 in
    elim (g.id == f.id) as (λ b. AllOf P ((if b then f else g) ∷ swapped fact_id f gs))
    [ true ↦ (here, r) | false ↦ (all.0, r) ]

abbrev row_in : Order → Fact → Type 0
row_in o f = HasRow o.listing (length o.heads.items) (length o.links.items) f

module _ (f : Fact) (fs : List Fact) where
  second_more : (o : Option Order) → IfSome o (λ o. IsListed o fs) → IfSome o (λ o. HasRoom o f)
      → IfSome o (λ o. HasRows o (with_item fact_id f fs))
  second_more None listed room = tt
  second_more (Some o) listed room = all-place (row_in o) fact_id f fs room listed.rows

  pub rows_more : (os : Orders) → IsOrdered os fs → HaveRoom os f
      → HaveRows os (with_item fact_id f fs)
  rows_more os ordered room = record {
    first = all-place (row_in os.first) fact_id f fs room.first ordered.first.rows;
    second = second_more os.second ordered.second room.second;
  }

  second_swapped : (o : Option Order) → IfSome o (λ o. IsListed o fs)
      → IfSome o (λ o. HasRoom o f) → IfSome o (λ o. HasRows o (swapped fact_id f fs))
  second_swapped None listed room = tt
  second_swapped (Some o) listed room = all_swapped (row_in o) f fs room listed.rows

  pub rows_swapped : (os : Orders) → IsOrdered os fs → HaveRoom os f
      → HaveRows os (swapped fact_id f fs)
  rows_swapped os ordered room = record {
    first = all_swapped (row_in os.first) f fs room.first ordered.first.rows;
    second = second_swapped os.second ordered.second room.second;
  }
