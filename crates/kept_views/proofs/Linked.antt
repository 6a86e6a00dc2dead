-- An item enters its list, or leaves it.
use Rattle.std.proofs.Common.{◌≡◌, ℕ, ◌<◌, ◌≤◌, nat_le, ◌==◌, true, false}
use Rattle.std.proofs.Common.{if◌then◌else◌, IsTrue, List, [], ◌∷◌, ◌++◌, map, length, Option}
use Rattle.std.proofs.Common.{None, get_or, set, refl, sym, ap, subst, ◌∙◌, arith, cond}
use Rattle.std.specs.Prelude.{◌||◌, Contains, not}
use Rattle.std.proofs.lemmas.Bool.{eq-eqb, eqb-true}
use Rattle.std.proofs.lemmas.List.{map-append, length-set}
use Rattle.base_items.specs.declared.items.Fact.{Fact}
use Rattle.linked_lists.specs.declared.lists.Link.{Link}
use Rattle.linked_lists.specs.Links.{link_at, HasPlaces, AreWithin, IsList, IsPlace}
use Rattle.linked_lists.specs.Links.{next_from}
use Rattle.linked_lists.specs.Links.{removed, head_removed, inserted, head_inserted}
use Rattle.plain_digraph.specs.Facts.{fact_id}
use Rattle.plain_digraph.specs.Lists.{AllOf, has, without}
use Rattle.plain_digraph.specs.Rising.{with_item, without_item}
use Rattle.plain_digraph.proofs.Counts.{without-lacks}
use Rattle.observe_core.specs.Facts.{AllInBounds, IsInBounds}
use Rattle.observe_core.specs.Items.{rises_from}
use Rattle.observe_core.proofs.ItemLemmas.{all_more, all_at, all-without, contains-has, holds_only}
use Rattle.observe_core.proofs.ItemLemmas.{lacks-without, place-without}
use Rattle.observe_core.proofs.LiveLaws.{rises-without}
use Rattle.list_digraph.specs.Tables.{AreLinked}
use Rattle.list_digraph.proofs.Lists.{Owned, linked_left, linked_entered, linked_as, at_node}
use Rattle.list_digraph.proofs.Lists.{leaver_placed}
use Rattle.linked_lists.proofs.Changes.{removed-length, inserted-length, last_place, next_from-read}
use Rattle.linked_lists.proofs.Changes.{first_back_place}
use Rattle.kept_views.specs.declared.listing.Listing.{Listing}
use Rattle.kept_views.specs.Order.{owner_of, rank, put_falling, items_at, ids_at, HasRow, AreListed}
use Rattle.kept_views.specs.Listed.{Stands}
use Rattle.kept_views.proofs.OrderLemmas.{more_at, lacks_at, has_put, distinct, owned_at}

-- the item is taken out and put in again
pub again : (fs : List Fact) (f : Fact) → IsTrue (rises_from fact_id 0 fs) → Contains fs f
    → with_item fact_id f (without_item fact_id f.id fs) ≡ fs
again fs f rises there =
    place-without fact_id 0 f fs rises (holds_only fact_id 0 f fs rises there)
    (contains-has fact_id f fs there)

module _ (l : Listing) (fs : List Fact) (f : Fact) (rises : IsTrue (rises_from fact_id 0 fs))
    (bounded : AllInBounds fs) (there : Contains fs f) where
  abbrev others : List Fact
  others = without_item fact_id f.id fs

  less : (P : Fact → Type 0) → AllOf P fs → AllOf P others
  less P all = all_more (λ x h. h.1) others (all-without P fact_id f.id fs all)

  -- the lists of all items, by those of the others
  by_others : (v : ℕ) → items_at l v fs
      ≡ (if owner_of l f == v then put_falling l f (items_at l v others) else items_at l v others)
  by_others v =
      ap (items_at l v) (sym (again fs f rises there))
      ∙ more_at l v f others (lacks-without fact_id f.id fs) (all_at IsInBounds f fs bounded there)
      (less IsInBounds bounded)

  lacks_others : (v : ℕ) → has (ids_at l others v) f.id ≡ false
  lacks_others v = lacks_at l v f.id others (lacks-without fact_id f.id fs)

  without_put : (xs : List Fact)
      → without (map fact_id (put_falling l f xs)) f.id ≡ without (map fact_id xs) f.id
  without_put [] =
      ap (λ b. cond (not b) (f.id ∷ []) []) (eq-eqb f.id f.id refl)
  without_put (x ∷ xs) =
      let r = without_put xs in
      elim (nat_le (rank l x) (rank l f)) as (λ b.
      without (map fact_id (if b then f ∷ x ∷ xs else x ∷ put_falling l f xs)) f.id
      ≡ without (map fact_id (x ∷ xs)) f.id) [
        | true ↦
            ap (λ b. cond (not b) (f.id ∷ without (map fact_id (x ∷ xs)) f.id)
            (without (map fact_id (x ∷ xs)) f.id)) (eq-eqb f.id f.id refl)
        | false ↦ ap (λ ys. cond (not (x.id == f.id)) (x.id ∷ ys) ys) r
      ]

  less_at : (v : ℕ) → without (ids_at l fs v) f.id ≡ ids_at l others v
  less_at v =
      ap (λ xs. without (map fact_id xs) f.id) (by_others v)
      ∙ elim (owner_of l f == v) as (λ b. without (map fact_id
      (if b then put_falling l f (items_at l v others) else items_at l v others)) f.id
      ≡ without (ids_at l others v) f.id) [
        | true ↦ without_put (items_at l v others)
        | false ↦ refl
      ]
      ∙ without-lacks (ids_at l others v) f.id (lacks_others v)

  pub here_at : has (ids_at l fs (owner_of l f)) f.id ≡ true
  here_at =
      ap (λ xs. has (map fact_id xs) f.id) (by_others (owner_of l f))
      ∙ ap (λ b. has (map fact_id (if b then put_falling l f (items_at l (owner_of l f) others)
      else items_at l (owner_of l f) others)) f.id) (eq-eqb (owner_of l f) (owner_of l f) refl)
      ∙ has_put l f (items_at l (owner_of l f) others) f.id
      ∙ ap (λ b. b || has (ids_at l others (owner_of l f)) f.id) (eq-eqb f.id f.id refl)

  module _ (heads : List (Option ℕ)) (links : List Link)
      (rows : AllOf (HasRow l (length heads) (length links)) fs) where
    pub row : HasRow l (length heads) (length links) f
    row = all_at (HasRow l (length heads) (length links)) f fs rows there

    ids_within : AllOf (λ g. g.id < length links) fs
    ids_within = all_more (λ g r. r.1) fs rows

    abbrev head : Option ℕ
    head = get_or heads (owner_of l f) None

    -- ---- it leaves

    all_owned : Owned (length links) (ids_at l fs)
    all_owned = owned_at l (length links) fs (distinct 0 fs rises) ids_within

    pub leaver_has_places : AreLinked heads links (ids_at l fs)
        → HasPlaces (length links) (link_at links f.id)
    leaver_has_places linked =
        leaver_placed {lists = ids_at l fs} all_owned linked (owner_of l f) f.id row.0 here_at

    pub all_left : AreLinked heads links (ids_at l fs) → length links ≤ 4194304
        → AreListed l (set heads (owner_of l f) (head_removed head links f.id))
        (removed links f.id) others
    all_left linked few =
        let sized = length-set heads (owner_of l f) (head_removed head links f.id) in
        let placed = removed-length links f.id in
        record {
          linked = linked_as
              (linked_left {lists = ids_at l fs} all_owned linked (owner_of l f) f.id row.0 here_at)
              less_at;
          rows = subst (λ n. AllOf (HasRow l n (length (removed links f.id))) others) (sym sized)
              (subst (λ n. AllOf (HasRow l (length heads) n) others) (sym placed)
              (less (HasRow l (length heads) (length links)) rows));
          few = omega (arith, placed, few);
        }

    -- by the words of the code
    pub left_as : AreLinked heads links (ids_at l fs) → length links ≤ 4194304
        → (n id : ℕ) (h old : Option ℕ) (new : List Link) → f.id ≡ id → n ≡ owner_of l f
        → old ≡ get_or heads n None
        → h ≡ head_removed old links id → new ≡ removed links id
        → AreListed l (set heads n h) new (without_item fact_id id fs)
    left_as linked few n id h old new named owner read headed gone =
        let q : head_removed head links f.id ≡ h =
        sym (headed ∙ (λ i. head_removed ((read ∙ (λ j. get_or heads (owner j) None)) i) links
        (sym named i))) in
        let r : removed links f.id ≡ new = sym (gone ∙ ap (removed links) (sym named)) in
        subst (λ i. AreListed l (set heads n h) new (without_item fact_id i fs)) named
        (subst (λ k. AreListed l (set heads n h) k others) r
        (subst (λ (k : List (Option ℕ)). AreListed l k (removed links f.id) others)
        (λ i. set heads (sym owner i) (q i)) (all_left linked few)))

    -- ---- it enters

    others_owned : Owned (length links) (ids_at l others)
    others_owned =
        owned_at l (length links) others
        (distinct 0 others (rises-without fact_id 0 f.id fs rises))
        (less (λ (g : Fact). g.id < length links) ids_within)

    module _ (linked : AreLinked heads links (ids_at l others)) (behind : Option ℕ)
        (stands : Stands l f (items_at l (owner_of l f) others) behind) where
      abbrev front : List ℕ
      front = map fact_id stands.front

      abbrev back : List ℕ
      back = map fact_id stands.back

      split : ids_at l others (owner_of l f) ≡ front ++ back
      split = ap (map fact_id) stands.parts ∙ map-append fact_id stands.front stands.back

      more_ids : (v : ℕ) → at_node (ids_at l others) (owner_of l f) (front ++ f.id ∷ back) v
          ≡ ids_at l fs v
      more_ids v =
          elim (owner_of l f == v) as (λ b. (owner_of l f == v) ≡ b
          → cond b (front ++ f.id ∷ back) (ids_at l others v)
          ≡ map fact_id
          (if b then put_falling l f (items_at l v others) else items_at l v others)) [
            | true ↦ λ e.
                let same : owner_of l f ≡ v = eqb-true (owner_of l f) v e in
                sym (map-append fact_id stands.front (f ∷ stands.back))
                ∙ ap (map fact_id) (sym stands.put)
                ∙ ap (λ w. map fact_id (put_falling l f (items_at l w others))) same
            | false ↦ λ e. refl
          ] refl
          ∙ ap (map fact_id) (sym (by_others v))

      within_parts : AreWithin (length links) (front ++ back)
      within_parts = subst (AreWithin (length links)) split (others_owned.within (owner_of l f))

      list_here : IsList head links (front ++ back)
      list_here = subst (IsList head links) split (linked.each (owner_of l f) row.0)

      pub behind_placed : IsPlace (length links) behind
      behind_placed =
          subst (IsPlace (length links)) (sym stands.last)
          (last_place (length links) front back within_parts)

      pub next_placed : IsPlace (length links) (next_from head links behind)
      next_placed =
          subst (IsPlace (length links))
          (sym (ap (next_from head links) stands.last
          ∙ next_from-read head links front back list_here))
          (first_back_place (length links) front back within_parts)

      pub all_entered : length links ≤ 4194304
          → AreListed l (set heads (owner_of l f) (head_inserted head behind f.id))
          (inserted head links behind f.id) fs
      all_entered few =
          let sized = length-set heads (owner_of l f) (head_inserted head behind f.id) in
          let placed = inserted-length head links behind f.id in
          record {
            linked = linked_as (subst (λ b. AreLinked
                (set heads (owner_of l f) (head_inserted head b f.id)) (inserted head links b f.id)
                (at_node (ids_at l others) (owner_of l f) (front ++ f.id ∷ back)))
                (sym stands.last)
                (linked_entered {lists = ids_at l others} others_owned linked (owner_of l f) f.id
                row.0 front back split lacks_others row.1)) more_ids;
            rows = subst (λ n. AllOf (HasRow l n (length (inserted head links behind f.id))) fs)
                (sym sized)
                (subst (λ n. AllOf (HasRow l (length heads) n) fs) (sym placed) rows);
            few = omega (arith, placed, few);
          }

      pub entered_as : length links ≤ 4194304 → (n id : ℕ) (h old : Option ℕ) (new : List Link)
          → f.id ≡ id → n ≡ owner_of l f → old ≡ get_or heads n None
          → h ≡ head_inserted old behind id → new ≡ inserted old links behind id
          → AreListed l (set heads n h) new fs
      entered_as few n id h old new named owner read headed there =
          let o : old ≡ head = read ∙ (λ j. get_or heads (owner j) None) in
          let q : head_inserted head behind f.id ≡ h =
          sym (headed ∙ (λ i. head_inserted (o i) behind (sym named i))) in
          let r : inserted head links behind f.id ≡ new =
          sym (there ∙ (λ i. inserted (o i) links behind (sym named i))) in
          subst (λ k. AreListed l (set heads n h) k fs) r
          (subst (λ (k : List (Option ℕ)). AreListed l k (inserted head links behind f.id) fs)
          (λ i. set heads (sym owner i) (q i)) (all_entered few))
