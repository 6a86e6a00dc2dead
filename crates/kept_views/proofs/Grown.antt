-- Room for more lists, and for more ids.
use Rattle.std.proofs.Common.{◌≡◌, ℕ, zero, suc, ◌+◌, ◌-◌, ◌<◌, ◌≤◌, ◌==◌, Bool, true, false}
use Rattle.std.proofs.Common.{if◌then◌else◌, List, [], ◌∷◌, ◌++◌, map, length, Option, None}
use Rattle.std.proofs.Common.{take, take_all, replicate, get_or, inl, inr, refl, sym, ap, subst}
use Rattle.std.proofs.Common.{arith}
use Rattle.std.proofs.lemmas.Grind.{common_steps}
use Rattle.std.proofs.lemmas.Bool.{cases_lt}
use Rattle.std.proofs.lemmas.List.{length-append, length-replicate, get_or_append_left}
use Rattle.base_items.specs.declared.items.Fact.{Fact}
use Rattle.linked_lists.specs.declared.lists.Link.{Link}
use Rattle.linked_lists.specs.Links.{loose, link_at, IsList}
use Rattle.linked_lists.proofs.Chains.{chain_same}
use Rattle.linked_lists.proofs.Changes.{walk_read}
use Rattle.linked_lists.proofs.Ids.{in_both}
use Rattle.plain_digraph.specs.Lists.{AllOf, has, first, after}
use Rattle.observe_core.proofs.ItemLemmas.{all_more}
use Rattle.kept_views.specs.declared.listing.Listing.{Listing}
use Rattle.kept_views.specs.Order.{owner_of, put_falling, items_at, ids_at, HasRow, AreListed}
use Rattle.kept_views.proofs.OrderLemmas.{within_at}

-- a list that no item is in
no_items : (l : Listing) (v n : ℕ) (fs : List Fact) → AllOf (λ f. owner_of l f < n) fs → n ≤ v
    → items_at l v fs ≡ []
no_items l v n [] all above = refl
no_items l v n (f ∷ fs) all above =
    let r = no_items l v n fs all.1 above in
    let here = all.0 in
    elim (owner_of l f == v) as (λ b. (owner_of l f == v) ≡ b
    → (if b then put_falling l f (items_at l v fs) else items_at l v fs) ≡ []) [
      | true ↦ λ e. let same : owner_of l f ≡ v = grind (arith, common_steps, e) in
          absurd (omega (arith, same, here, above))
      | false ↦ λ e. r
    ] refl

abbrev no_head : Option ℕ
no_head = None

none_read : (n i : ℕ) → get_or (replicate n no_head) i None ≡ None
none_read zero i = refl
none_read (suc n) zero = refl
none_read (suc n) (suc i) = none_read n i

past_read : (heads : List (Option ℕ)) (n v : ℕ) → length heads ≤ v
    → get_or (heads ++ replicate n None) v None ≡ None
past_read [] n v above = none_read n v
past_read (h ∷ heads) n zero above = absurd (omega (arith, above))
past_read (h ∷ heads) n (suc v) above = past_read heads n v (omega (arith, above))

module _ (l : Listing) (heads : List (Option ℕ)) (links : List Link) (fs : List Fact)
    (listed : AreListed l heads links fs) where
  more_rows : (m n : ℕ) → length heads ≤ m → length links ≤ n → AllOf (HasRow l m n) fs
  more_rows m n one two =
      all_more (λ f r.
      let a = r.0 in
      let b = r.1 in
      let t = r.2 in (omega (arith, a, one), omega (arith, b, two), omega (arith, t, one)))
      fs listed.rows

  more_lists : (n : ℕ) → AreListed l (heads ++ replicate n None) links fs
  more_lists n = record {
    linked = record {
      each = λ v below. elim (cases_lt v (length heads)) [
        | inl inside ↦
            subst (λ h. IsList h links (ids_at l fs v))
            (sym (get_or_append_left heads (replicate n None) None v inside))
            (listed.linked.each v inside)
        | inr past ↦
            let none = no_items l v (length heads) fs (all_more (λ f r. r.0) fs listed.rows) past in
            subst (λ h. IsList h links (ids_at l fs v)) (sym (past_read heads n v past))
            (subst (λ xs. IsList None links (map (λ f. f.id) xs)) (sym none)
            (record { begins = refl; linked = tt }))
      ];
    };
    rows = let size = length-append heads (replicate n None) in
        more_rows (length (heads ++ replicate n None)) (length links) (omega (arith, size))
        (omega arith);
    few = listed.few;
  }

  more_links : (n : ℕ) → length links + n ≤ 4194304
      → AreListed l heads (links ++ replicate n loose) fs
  more_links n few =
      let new : List Link = links ++ replicate n loose in
      let size = length-append links (replicate n loose) in
      record {
        linked = record {
          each = λ v below.
              let list = listed.linked.each v below in
              let within = within_at l v (length links) fs (all_more (λ f r. r.1) fs listed.rows) in
              record {
                begins = list.begins;
                linked = chain_same links new None (ids_at l fs v) None
                    (λ id at. get_or_append_left links (replicate n loose) loose id (within id at))
                    list.linked;
              };
        };
        rows = more_rows (length heads) (length new) (omega arith) (omega (arith, size));
        few = let more = length-replicate n loose in omega (arith, size, more, few);
      }

-- what a resize that may fail leaves
pub lists_resized : (l : Listing) (heads : List (Option ℕ)) (links : List Link) (b : Bool)
    (n m : ℕ) → length heads ≤ n → (fs : List Fact) → AreListed l heads links fs
    → AreListed l (if b then take n heads ++ replicate (n - m) None else heads) links fs
lists_resized l heads links true n m few fs listed =
    rw (take_all n heads few) (more_lists l heads links fs listed (n - m))
lists_resized l heads links false n m few fs listed = listed

pub links_resized : (l : Listing) (heads : List (Option ℕ)) (links : List Link) (b : Bool)
    (n m : ℕ) (blank : Link) → blank ≡ loose → m ≡ length links → m ≤ n → n ≤ 4194304
    → (fs : List Fact) → AreListed l heads links fs
    → AreListed l heads (if b then take n links ++ replicate (n - m) blank else links) fs
links_resized l heads links true n m blank is size more few fs listed =
    rw (take_all n links (omega (arith, size, more)))
    (subst (λ (k : Link). AreListed l heads (links ++ replicate (n - m) k) fs) (sym is)
    (more_links l heads links fs listed (n - m) (omega (arith, size, more, few))))
links_resized l heads links false n m blank is size more few fs listed = listed

-- ---- walks

module _ (l : Listing) (heads : List (Option ℕ)) (links : List Link) (fs : List Fact)
    (listed : AreListed l heads links fs) (v : ℕ) where
  pub first_read : v < length heads → get_or heads v None ≡ first (ids_at l fs v)
  first_read below = (listed.linked.each v below).begins

  pub none_at : length heads ≤ v → None ≡ first (ids_at l fs v)
  none_at past =
      let none = no_items l v (length heads) fs (all_more (λ f r. r.0) fs listed.rows) past in
      ap (λ (xs : List Fact). first (map (λ f. f.id) xs)) (sym none)

  pub next_read : (id : ℕ) → has (ids_at l fs v) id ≡ true
      → (link_at links id).next ≡ after (ids_at l fs v) id
  next_read id at = elim (cases_lt v (length heads)) [
    | inl below ↦ walk_read (ids_at l fs v) id (listed.linked.each v below) at
    | inr past ↦
        let none = no_items l v (length heads) fs (all_more (λ f r. r.0) fs listed.rows) past in
        in_both (has (ids_at l fs v) id) at
        (ap (λ (xs : List Fact). has (map (λ f. f.id) xs) id) none)
  ]
