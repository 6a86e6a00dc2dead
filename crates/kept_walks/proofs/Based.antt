-- What is held of a digraph has its orders and its ends.
use Rattle.std.proofs.Common.{◌≡◌, ◌≢◌, ℕ, ◌+◌, ◌*◌, ◌<◌, ◌≤◌, nat_le, nat_lt, true, false}
use Rattle.std.proofs.Common.{cond}
use Rattle.std.proofs.Common.{if◌then◌else◌, List, [], ◌∷◌, map, Option, Some, None, refl}
use Rattle.std.proofs.Common.{sym}
use Rattle.std.proofs.Common.{ap, subst, ◌∙◌, arith}
use Rattle.std.specs.Option.{option_map, option_map_or, option_and_then}
use Rattle.std.specs.List.{filter_map, cons_option, range_with_len}
use Rattle.std.specs.FinMap as fin
use Rattle.std.proofs.lemmas.Grind.{common_steps}
use Rattle.std.proofs.lemmas.Option.{none-some, same_Some}
use Rattle.base_items.specs.declared.items.Fact.{Fact}
use Rattle.base_items.specs.declared.items.ItemSort.{ItemSort}
use Rattle.base_items.specs.declared.items.ItemSort.TheVariants as sorts
use Rattle.plain_digraph.specs.Digraph.{Digraph, Place}
use Rattle.plain_digraph.specs.Facts.{fact_id}
use Rattle.plain_digraph.specs.Falling.{by_falling}
use Rattle.plain_digraph.specs.Items.{facts, fact_of, ids, stamp_of, arc_fact, source_of, target_of}
use Rattle.plain_digraph.specs.Items.{used_of}
use Rattle.plain_digraph.specs.Lists.{AllOf}
use Rattle.plain_digraph.specs.Steps.{placed}
use Rattle.plain_digraph.specs.Valid.{IsValid, FallBelow}
use Rattle.plain_digraph.proofs.Bounded.{facts_are_bounded}
use Rattle.plain_digraph.proofs.SameLists.{lists_are_falling}
use Rattle.plain_views.specs.Shown.{shown_arc, base_shown}
use Rattle.kept_views.specs.declared.listing.Listing.{Listing}
use Rattle.kept_views.specs.declared.listing.Listing.TheVariants.{Whole, BySource, ByTarget}
use Rattle.kept_views.specs.Order as order
use Rattle.kept_views.specs.Order.{rank, put_falling}
use Rattle.kept_walks.specs.Stored.{in_falling, arc_shown, stored}
use Rattle.kept_walks.specs.Falling.{all_falling}

-- ---- strictly falling places

at_below : (b id at : ℕ) (xs : List Place) → FallBelow b (placed xs id at) → at < b
at_below b id at [] falls = falls.0
at_below b id at (q ∷ xs) falls =
    elim (nat_lt q.1 at) as (λ t. FallBelow b (cond t ((id, at) ∷ q ∷ xs) (q ∷ placed xs id at))
    → at < b) [
      | true ↦ λ f. f.0
      | false ↦ λ f. let r = at_below q.1 id at xs f.1 in let h = f.0 in omega (arith, r, h)
    ] falls

low_differ : (b at : ℕ) (xs : List Place) → b ≤ at → FallBelow b xs → AllOf (λ q. q.1 ≢ at) xs
low_differ b at [] low falls = tt
low_differ b at (q ∷ xs) low falls =
    let h = falls.0 in (
      (λ e. absurd (omega (arith, e, h, low))),
      low_differ q.1 at xs (omega (arith, h, low)) falls.1,
    )

wider : (b c : ℕ) (xs : List Place) → b ≤ c → FallBelow b xs → FallBelow c xs
wider b c [] low falls = tt
wider b c (q ∷ xs) low falls = let h = falls.0 in (omega (arith, h, low), falls.1)

apart_placed : (b id at : ℕ) (xs : List Place) → FallBelow b (placed xs id at)
    → FallBelow b xs × AllOf (λ q. q.1 ≢ at) xs
apart_placed b id at [] falls = (tt, tt)
apart_placed b id at (q ∷ xs) falls =
    elim (nat_lt q.1 at) as (λ t. nat_lt q.1 at ≡ t
    → FallBelow b (cond t ((id, at) ∷ q ∷ xs) (q ∷ placed xs id at))
    → FallBelow b (q ∷ xs) × AllOf (λ p. p.1 ≢ at) (q ∷ xs)) [
      | true ↦ λ e f.
          let lower : q.1 < at = f.1.0 in
          let top : at < b = f.0 in (
            (omega (arith, lower, top), f.1.1),
            (
              (λ s. absurd (omega (arith, s, lower))),
              low_differ q.1 at xs (omega (arith, lower)) f.1.1,
            ),
          )
      | false ↦ λ e f.
          let r = apart_placed q.1 id at xs f.1 in
          let low : at < q.1 = at_below q.1 id at xs f.1 in
          ((f.0, r.0), ((λ s. absurd (omega (arith, s, low))), r.1))
    ] refl falls

-- ---- the order by rank is the one by stamp, where stamps differ

abbrev place : Listing → Fact → Place
place l f = (f.id, order.stamp_of l f)

same_test : (a b i j : ℕ) → a ≢ b → i < 4194304 → j < 4194304
    → nat_le (a * 4194304 + i) (b * 4194304 + j) ≡ nat_lt a b
same_test a b i j differ low small =
    elim (nat_lt a b) as (λ t. nat_lt a b ≡ t → nat_le (a * 4194304 + i) (b * 4194304 + j) ≡ t) [
      | true ↦ λ e.
          let lower : a < b = grind (arith, common_steps, e) in
          let h : a * 4194304 + i ≤ b * 4194304 + j = omega (arith, lower, low, small) in
          grind (arith, common_steps, h)
      | false ↦ λ e.
          let higher : b ≤ a = grind (arith, common_steps, e) in
          let h : b * 4194304 + j < a * 4194304 + i = omega (arith, higher, differ, low, small) in
          grind (arith, common_steps, h)
    ] refl

put_placed : (l : Listing) (f : Fact) (xs : List Fact) → f.id < 4194304
    → AllOf (λ x. x.id < 4194304) xs
    → AllOf (λ (q : Place). q.1 ≢ order.stamp_of l f) (map (place l) xs)
    → map (place l) (put_falling l f xs) ≡ placed (map (place l) xs) f.id (order.stamp_of l f)
put_placed l f [] low small differ = refl
put_placed l f (x ∷ xs) low small differ =
    let r = put_placed l f xs low small.1 differ.1 in
    let t = same_test (order.stamp_of l x) (order.stamp_of l f) x.id f.id differ.0 small.0 low in
    ap (λ b. map (place l) (if b then f ∷ x ∷ xs else x ∷ put_falling l f xs)) t
    ∙ elim (nat_lt (order.stamp_of l x) (order.stamp_of l f)) as (λ b.
    map (place l) (if b then f ∷ x ∷ xs else x ∷ put_falling l f xs)
    ≡ cond b (place l f ∷ place l x ∷ map (place l) xs)
    (place l x ∷ placed (map (place l) xs) f.id (order.stamp_of l f)))
    [ true ↦ refl | false ↦ ap (λ ps. place l x ∷ ps) r ]

same_order : (l : Listing) (b : ℕ) (fs : List Fact) → AllOf (λ x. x.id < 4194304) fs
    → FallBelow b (by_falling (map (place l) fs))
    → map (place l) (in_falling l fs) ≡ by_falling (map (place l) fs)
same_order l b [] small falls = refl
same_order l b (f ∷ fs) small falls =
    let rest = by_falling (map (place l) fs) in
    let parts = apart_placed b f.id (order.stamp_of l f) rest falls in
    let r = same_order l b fs small.1 parts.0 in
    put_placed l f (in_falling l fs) small.0 (all_falling l (λ x. x.id < 4194304) fs small.1)
    (subst (AllOf (λ (q : Place). q.1 ≢ order.stamp_of l f)) (sym r) parts.1)
    ∙ ap (λ ps. placed ps f.id (order.stamp_of l f)) r

ids_of : (l : Listing) (xs : List Fact) → ids (map (place l) xs) ≡ map fact_id xs
ids_of l [] = refl
ids_of l (x ∷ xs) = ap (λ r. x.id ∷ r) (ids_of l xs)

order_is : (l : Listing) (b : ℕ) (fs : List Fact) (list : List Place)
    → AllOf (λ x. x.id < 4194304) fs → FallBelow b list
    → list ≡ by_falling (map (place l) fs) → map fact_id (in_falling l fs) ≡ ids list
order_is l b fs list small falls is =
    sym (ids_of l (in_falling l fs))
    ∙ ap ids (same_order l b fs small (subst (FallBelow b) is falls) ∙ sym is)

-- ---- what is told of an arc

told : (id : ℕ) (e : Option (ℕ × ℕ)) (a b : Option ℕ) (f : Fact)
    → option_and_then (λ ends. option_and_then
    (λ from_at. option_map (arc_fact id ends from_at) b) a) e ≡ Some f
    → arc_shown f ≡ record {
      id = f.id;
      from = option_map_or (λ ends. ends.0) e 0;
      to = option_map_or (λ ends. ends.1) e 0;
    } × (f.id ≡ id)
told id None a b f h = absurd (none-some f h)
told id (Some e) None b f h = absurd (none-some f h)
told id (Some e) (Some a) None f h = absurd (none-some f h)
told id (Some e) (Some a) (Some b) f h =
    let same : arc_fact id e a b ≡ f = same_Some (arc_fact id e a b) f h in (
      (λ i. record {
        id = f.id;
        from = (sym same i).from;
        to = (sym same i).to;
      }),
      ap (λ (x : Fact). x.id) (sym same),
    )

pub all_told : (P : Fact → Type 0) (told : ℕ → Option Fact)
    → ((id : ℕ) (f : Fact) → told id ≡ Some f → P f) → (xs : List ℕ)
    → AllOf P (filter_map told xs)
all_told P told each [] = tt
all_told P told each (x ∷ xs) =
    let r = all_told P told each xs in
    elim (told x) as (λ o. told x ≡ o → AllOf P (cons_option o (filter_map told xs)))
    [ None ↦ λ e. r | Some f ↦ λ e. (each x f e, r) ] refl

-- ---- of a digraph

module _ (g : Digraph) (valid : IsValid g) where
  small : (sort : ItemSort) → AllOf (λ x. x.id < 4194304) (facts g sort)
  small sort =
      all_told (λ x. x.id < 4194304) (fact_of g sort)
      (λ id f t.
      let within = facts_are_bounded g sort id f valid t in
      let below = within.id in
      let used = few sort in
      omega (arith, below, used))
      (range_with_len 0 (used_of g sort))
    where
      few : (s : ItemSort) → used_of g s ≤ 4194304
      few sorts.Node = let n = valid.few_nodes in omega (arith, n)
      few sorts.Arc = let n = valid.few_arcs in omega (arith, n)

  arcs_told : AllOf (λ f. arc_shown f ≡ shown_arc g f.id) (facts g sorts.Arc)
  arcs_told =
      all_told (λ f. arc_shown f ≡ shown_arc g f.id) (fact_of g sorts.Arc)
      (λ id f t.
      let parts = told id (fin.get g.ends id) (stamp_of g.by_source id) (stamp_of g.by_target id)
      f t in
      parts.0 ∙ (λ i. record {
        id = f.id;
        from = source_of g (sym parts.1 i);
        to = target_of g (sym parts.1 i);
      }))
      (range_with_len 0 (used_of g sorts.Arc))

  shown_same : (xs : List Fact) → AllOf (λ f. arc_shown f ≡ shown_arc g f.id) xs
      → map arc_shown xs ≡ map (shown_arc g) (map fact_id xs)
  shown_same [] all = refl
  shown_same (x ∷ xs) all = λ i. all.0 i ∷ shown_same xs all.1 i

  arcs_as : (l : Listing) (list : List Place) → FallBelow g.stamps list
      → list ≡ by_falling (map (place l) (facts g sorts.Arc))
      → map arc_shown (in_falling l (facts g sorts.Arc)) ≡ map (shown_arc g) (ids list)
  arcs_as l list falls is =
      shown_same (in_falling l (facts g sorts.Arc))
      (all_falling l (λ f. arc_shown f ≡ shown_arc g f.id) (facts g sorts.Arc) arcs_told)
      ∙ ap (map (shown_arc g))
      (order_is l g.stamps (facts g sorts.Arc) list (small sorts.Arc) falls is)

  pub is_base : stored (facts g sorts.Node) (facts g sorts.Arc) ≡ base_shown g
  is_base =
      let fall = lists_are_falling g valid in
      let nodes = order_is Whole g.stamps (facts g sorts.Node) g.nodes (small sorts.Node)
      valid.nodes_fall fall.nodes in
      let sources = arcs_as BySource g.by_source valid.sources_fall fall.by_source in
      let targets = arcs_as ByTarget g.by_target valid.targets_fall fall.by_target in
      λ i. record { nodes = nodes i; by_source = sources i; by_target = targets i }
