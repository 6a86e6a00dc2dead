-- The walk to an item's place, over a table of items.
use Rattle.std.proofs.Common.{◌≡◌, ◌≢◌, ℕ, ◌-◌, ◌<◌, ◌≤◌, IsTrue, List, map, length, Option}
use Rattle.std.proofs.Common.{Some, None, get_or, sym, subst}
use Rattle.std.specs.Prelude.{Contains}
use Rattle.base_items.specs.declared.items.Fact.{Fact}
use Rattle.linked_lists.specs.declared.lists.Link.{Link}
use Rattle.linked_lists.specs.Links.{link_at, IsList}
use Rattle.plain_digraph.specs.Facts.{fact_id}
use Rattle.plain_digraph.specs.Lists.{AllOf}
use Rattle.plain_digraph.specs.Rising.{without_item}
use Rattle.observe_core.specs.Items.{Lacks, rises_from}
use Rattle.observe_core.proofs.ItemLemmas.{all_more, all-without, holds_only}
use Rattle.observe_core.proofs.LiveLaws.{rises-without}
use Rattle.list_digraph.proofs.Lists.{few_within}
use Rattle.kept_views.specs.declared.listing.Listing.{Listing}
use Rattle.kept_views.specs.Order.{owner_of, rank, items_at, AreListed}
use Rattle.kept_views.specs.Listed.{Stands}
use Rattle.kept_views.proofs.OrderLemmas.{distinct, owned_at}
use Rattle.kept_views.proofs.Walk.{Walking, all_items_at, all_lack, all_only, walk_starts}
use Rattle.kept_views.proofs.Walk.{is_there, stands_here, walk_on, holds_here}

module _ (l : Listing) (fs : List Fact) (f : Fact) (rises : IsTrue (rises_from fact_id 0 fs))
    (heads : List (Option ℕ)) (links : List Link)
    (listed : AreListed l heads links (without_item fact_id f.id fs))
    (room : owner_of l f < length heads) where
  abbrev others : List Fact
  others = without_item fact_id f.id fs

  abbrev whole : List Fact
  whole = items_at l (owner_of l f) others

  less : (P : Fact → Type 0) → AllOf P fs → AllOf P whole
  less P all =
      all_items_at P l (owner_of l f) others
      (all_more (λ x h. h.1) others (all-without P fact_id f.id fs all))

  list : IsList (get_or heads (owner_of l f) None) links (map fact_id whole)
  list = listed.linked.each (owner_of l f) room

  rows : AllOf (λ g. g.id < length links) others
  rows = all_more (λ g r. r.1) others listed.rows

  pub starts : (head : Option ℕ) → head ≡ get_or heads (owner_of l f) None
      → Walking l f whole None head (length links)
  starts head is =
      let owned = owned_at l (length links) others
      (distinct 0 others (rises-without fact_id 0 f.id fs rises)) rows in
      walk_starts l f whole head links (length links)
      (subst (λ h. IsList h links (map fact_id whole)) (sym is) list)
      (few_within (length links) (map fact_id whole) (owned.apart (owner_of l f))
      (owned.within (owner_of l f)))

  module _ (behind next : Option ℕ) (left id : ℕ) (w : Walking l f whole behind next left)
      (is : next ≡ Some id) where
    pub never_missing : Lacks fact_id id fs → ⊥
    never_missing lacks =
        is_there l f whole behind next left w id is (less (λ g. g.id ≢ id) (all_lack id fs lacks))

    module _ (g : Fact) (there : Contains fs g) (named : g.id ≡ id) where
      only : AllOf (λ x. x.id ≡ g.id → x ≡ g) whole
      only = less (λ x. x.id ≡ g.id → x ≡ g) (all_only g fs (holds_only fact_id 0 g fs rises there))

      pub stops : rank l g ≤ rank l f → Stands l f whole behind
      stops low = stands_here l f whole behind next left w id is g named only low

      pub id_below : id < length links
      id_below =
          subst (λ n. n < length links) named
          (holds_here l f whole behind next left w id is g named only (λ x. x.id < length links)
          (all_items_at (λ x. x.id < length links) l (owner_of l f) others rows))

      pub goes : rank l f < rank l g → 0 < left
          → Walking l f whole (Some id) (link_at links id).next (left - 1)
      goes high some =
          walk_on l f whole behind next left w id is g named only
          (get_or heads (owner_of l f) None) links list high some
