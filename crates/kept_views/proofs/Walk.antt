-- The walk to an item's place in a list.
use Rattle.std.proofs.Common.{◌≡◌, ◌≢◌, ℕ, ◌-◌, ◌<◌, ◌≤◌, nat_le, ◌==◌, true}
use Rattle.std.proofs.Common.{false, if◌then◌else◌, List, [], ◌∷◌, ◌++◌, map, length}
use Rattle.std.proofs.Common.{Option}
use Rattle.std.proofs.Common.{Some, None, refl, sym, ap, subst, ◌∙◌, arith, append_assoc}
use Rattle.std.proofs.lemmas.Grind.{common_steps}
use Rattle.std.proofs.lemmas.List.{map-append, length-map}
use Rattle.std.proofs.lemmas.Option.{none-some, same_Some}
use Rattle.base_items.specs.declared.items.Fact.{Fact}
use Rattle.linked_lists.specs.declared.lists.Link.{Link}
use Rattle.linked_lists.specs.Links.{last_or, link_at, IsList, first_or}
use Rattle.linked_lists.proofs.Changes.{next_read}
use Rattle.linked_lists.proofs.Ids.{last_or-push, first_or-none}
use Rattle.plain_digraph.specs.Facts.{fact_id}
use Rattle.plain_digraph.specs.Lists.{AllOf, first}
use Rattle.observe_core.specs.Items.{Lacks, HoldsOnly}
use Rattle.kept_views.specs.declared.listing.Listing.{Listing}
use Rattle.kept_views.specs.Order.{owner_of, rank, put_falling, items_at}
use Rattle.kept_views.specs.Listed.{Stands}

-- ---- what is so of all items is so of those of a list

all_put : (P : Fact → Type 0) (l : Listing) (f : Fact) → P f → (xs : List Fact) → AllOf P xs
    → AllOf P (put_falling l f xs)
all_put P l f here [] all = (here, tt)
all_put P l f here (x ∷ xs) all =
    let r = all_put P l f here xs all.1 in
    elim (nat_le (rank l x) (rank l f)) as (λ b.
    AllOf P (if b then f ∷ x ∷ xs else x ∷ put_falling l f xs))
    [ true ↦ (here, all) | false ↦ (all.0, r) ]

pub all_items_at : (P : Fact → Type 0) (l : Listing) (v : ℕ) (fs : List Fact) → AllOf P fs
    → AllOf P (items_at l v fs)
all_items_at P l v [] all = tt
all_items_at P l v (f ∷ fs) all =
    let r = all_items_at P l v fs all.1 in
    elim (owner_of l f == v) as (λ b.
    AllOf P (if b then put_falling l f (items_at l v fs) else items_at l v fs))
    [ true ↦ all_put P l f all.0 (items_at l v fs) r | false ↦ r ]

pub all_lack : (i : ℕ) (fs : List Fact) → Lacks fact_id i fs → AllOf (λ g. g.id ≢ i) fs
all_lack i [] lacks = tt
all_lack i (f ∷ fs) lacks = (lacks.0, all_lack i fs lacks.1)

pub all_only : (f : Fact) (fs : List Fact) → HoldsOnly fact_id f fs
    → AllOf (λ g. g.id ≡ f.id → g ≡ f) fs
all_only f [] only = tt
all_only f (g ∷ gs) only = (only.0, all_only f gs only.1)

all_right : (P : Fact → Type 0) (xs ys : List Fact) → AllOf P (xs ++ ys) → AllOf P ys
all_right P [] ys all = all
all_right P (x ∷ xs) ys all = all_right P xs ys all.1

-- ---- the walk

-- these items are passed, and those are ahead
pub record Walking (l : Listing) (f : Fact) (whole : List Fact) (behind next : Option ℕ)
    (left : ℕ) : Type 0 where
  pub front : List Fact
  pub back : List Fact
  pub parts : whole ≡ front ++ back
  pub last : behind ≡ last_or None (map fact_id front)
  pub ahead : next ≡ first (map fact_id back)
  pub passed : put_falling l f whole ≡ front ++ put_falling l f back
  pub few : length back ≤ left

module _ (l : Listing) (f : Fact) (whole : List Fact) where
  pub walk_starts : (head : Option ℕ) (links : List Link) (left : ℕ)
      → IsList head links (map fact_id whole) → length (map fact_id whole) ≤ left
      → Walking l f whole None head left
  walk_starts head links left list few = record {
    front = [];
    back = whole;
    parts = refl;
    last = refl;
    ahead = list.begins;
    passed = refl;
    few = let e = length-map whole fact_id in omega (arith, e, few);
  }

  module _ (behind next : Option ℕ) (left : ℕ) (w : Walking l f whole behind next left) where
    at_end : (back : List Fact) → back ≡ [] → w.back ≡ back → Stands l f whole behind
    at_end back none is =
        let e : w.back ≡ [] = is ∙ none in
        record {
          front = w.front;
          back = [];
          parts = w.parts ∙ ap (λ b. w.front ++ b) e;
          last = w.last;
          put = w.passed ∙ ap (λ b. w.front ++ put_falling l f b) e;
        }

    none_ahead : (back : List Fact) → first (map fact_id back) ≡ None → back ≡ []
    none_ahead [] e = refl
    none_ahead (x ∷ xs) e = cc

    none_left : (back : List Fact) → length back ≤ 0 → back ≡ []
    none_left [] e = refl
    none_left (x ∷ xs) e = absurd (omega (arith, e))

    -- nothing is ahead
    pub stands_at_end : next ≡ None → Stands l f whole behind
    stands_at_end none = at_end w.back (none_ahead w.back (sym w.ahead ∙ none)) refl

    pub stands_when_spent : left ≤ 0 → Stands l f whole behind
    stands_when_spent spent = let few = w.few in
        at_end w.back (none_left w.back (omega (arith, few, spent))) refl

    -- an item of this id is ahead
    module _ (id : ℕ) (is : next ≡ Some id) where
      -- it is none but that of all items with the id
      lacking : (back : List Fact) → first (map fact_id back) ≡ Some id
          → AllOf (λ g. g.id ≢ id) back → ⊥
      lacking [] e none = none-some id e
      lacking (x ∷ xs) e none = none.0 (same_Some x.id id e)

      pub is_there : AllOf (λ g. g.id ≢ id) whole → ⊥
      is_there none =
          lacking w.back (sym w.ahead ∙ is)
          (all_right (λ g. g.id ≢ id) w.front w.back (subst (AllOf (λ g. g.id ≢ id)) w.parts none))

      module _ (g : Fact) (named : g.id ≡ id) (only : AllOf (λ x. x.id ≡ g.id → x ≡ g) whole) where
        abbrev tail : List Fact → List Fact
        tail [] = []
        tail (x ∷ xs) = xs

        begins : (back : List Fact) → first (map fact_id back) ≡ Some id
            → AllOf (λ x. x.id ≡ g.id → x ≡ g) back → back ≡ g ∷ tail back
        begins [] e all = absurd (none-some id e)
        begins (x ∷ xs) e all =
            let same : x.id ≡ id = same_Some x.id id e in
            ap (λ y. y ∷ xs) (all.0 (same ∙ sym named))

        abbrev rest : List Fact
        rest = tail w.back

        back_is : w.back ≡ g ∷ rest
        back_is =
            begins w.back (sym w.ahead ∙ is)
            (all_right (λ x. x.id ≡ g.id → x ≡ g) w.front w.back
            (subst (AllOf (λ x. x.id ≡ g.id → x ≡ g)) w.parts only))

        whole_is : whole ≡ w.front ++ g ∷ rest
        whole_is = w.parts ∙ ap (λ b. w.front ++ b) back_is

        pub holds_here : (P : Fact → Type 0) → AllOf P whole → P g
        holds_here P all = (all_right P w.front (g ∷ rest) (subst (AllOf P) whole_is all)).0

        passed_is : put_falling l f whole ≡ w.front ++ put_falling l f (g ∷ rest)
        passed_is = w.passed ∙ ap (λ b. w.front ++ put_falling l f b) back_is

        pub stands_here : rank l g ≤ rank l f → Stands l f whole behind
        stands_here low =
            let t : nat_le (rank l g) (rank l f) ≡ true = grind (arith, common_steps, low) in
            record {
              front = w.front;
              back = g ∷ rest;
              parts = whole_is;
              last = w.last;
              put = passed_is
                  ∙ ap (λ b. w.front ++ (if b then f ∷ g ∷ rest else g ∷ put_falling l f rest)) t;
            }

        pub walk_on : (head : Option ℕ) (links : List Link) → IsList head links (map fact_id whole)
            → rank l f < rank l g → 0 < left
            → Walking l f whole (Some id) (link_at links id).next (left - 1)
        walk_on head links list high some =
            let t : nat_le (rank l g) (rank l f) ≡ false = grind (arith, common_steps, high) in
            let few = w.few in
            let size = ap length back_is in
            let ids : map fact_id whole ≡ map fact_id w.front ++ g.id ∷ map fact_id rest =
            ap (map fact_id) whole_is ∙ map-append fact_id w.front (g ∷ rest) in
            let read : (link_at links g.id).next ≡ first_or (map fact_id rest) None =
            next_read (map fact_id w.front) (map fact_id rest) g.id
            (subst (IsList head links) ids list) in
            record {
              front = w.front ++ g ∷ [];
              back = rest;
              parts = whole_is ∙ sym (append_assoc w.front (g ∷ []) rest);
              last = ap Some (sym named)
                  ∙ sym (ap (last_or None) (map-append fact_id w.front (g ∷ []))
                  ∙ last_or-push None (map fact_id w.front) g.id);
              ahead = ap (λ i. (link_at links i).next) (sym named) ∙ read
                  ∙ first_or-none (map fact_id rest);
              passed = passed_is
                  ∙ ap (λ b. w.front ++ (if b then f ∷ g ∷ rest else g ∷ put_falling l f rest)) t
                  ∙ sym (append_assoc w.front (g ∷ []) (put_falling l f rest));
              few = omega (arith, few, size, some);
            }
