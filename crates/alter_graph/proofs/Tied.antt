-- What the halves of a snapshot hold is what the restoring of its copy asks for.
use Rattle.std.proofs.Common.{◌≡◌, ◌≢◌, ℕ, zero, suc, ◌+◌, ◌≤◌, Bool, true, false, nat_le, ◌==◌}
use Rattle.std.proofs.Common.{if◌then◌else◌, IsTrue, List, [], ◌∷◌, ◌++◌, map, filter, Contains}
use Rattle.std.proofs.Common.{Some, None, is_some, inl, inr, refl, sym, ap, subst, ◌∙◌, arith}
use Rattle.std.proofs.Common.{append_assoc}
use Rattle.std.specs.Prelude.{not, ◌⊎◌}
use Rattle.std.specs.Option.{option_map_or}
use Rattle.std.specs.List.{filter_map, range_with_len}
use Rattle.std.proofs.lemmas.Grind.{common_steps}
use Rattle.std.proofs.lemmas.List.{append-nil}
use Rattle.base_items.specs.declared.items.Fact.{Fact}
use Rattle.base_items.specs.declared.items.ItemSort.{ItemSort}
use Rattle.base_items.specs.declared.items.ItemSort.TheVariants as sorts
use Rattle.plain_digraph.specs.Lists.{AllOf, has}
use Rattle.plain_digraph.specs.Facts.{fact_id}
use Rattle.plain_digraph.specs.Digraph.{Digraph}
use Rattle.plain_digraph.specs.Items.{fact_of, facts}
use Rattle.plain_digraph.specs.PlainSteps.{PlainStep, PlaceBack, EraseArc, EraseNode, after_steps}
use Rattle.plain_digraph.specs.Copies.{Copy, copy_of, ids_in, added, is_placed_as, is_moved, moved}
use Rattle.plain_digraph.specs.Alterations.{places_back, arcs_out, nodes_out, restoring, all_steps}
use Rattle.plain_digraph.specs.Alterations.{refusable_steps}
use Rattle.plain_digraph.specs.RestoreLaws.{after_part}
use Rattle.plain_digraph.specs.Valid.{IsValid}
use Rattle.plain_digraph.proofs.Rows.{fact_of-id}
use Rattle.plain_digraph.proofs.Live.{live_listed, listed_below}
use Rattle.plain_digraph.proofs.Facts.{listed_if_told}
use Rattle.plain_digraph.proofs.SameLists.{facts_are_whole}
use Rattle.plain_digraph.proofs.Restored.{in_copy}
use Rattle.plain_digraph.proofs.MovedCopied.{moved_are_copied}
use Rattle.observe_core.specs.Items.{has_id, number_id, rises_from}
use Rattle.observe_core.specs.Held.{Held, Nothing, Values, Degree, Half, Kept, Ties, IsHeldSound}
use Rattle.observe_core.specs.Saved.{was_of, saved, saved_of}
use Rattle.observe_core.specs.Fits.{HeldFits}
use Rattle.observe_core.proofs.ItemLemmas.{and_left, and_right, rises_higher, has_from, all_at}
use Rattle.observe_core.proofs.ItemLemmas.{contains-has, lacks-not_has}
use Rattle.observe_core.proofs.KeptLemmas.{same-is}
use Rattle.notify_chain.specs.Seats.{AllSeats, Steady}
use Rattle.alter_graph.specs.declared.snaps.SnapKeys.{SnapKeys}
use Rattle.alter_graph.specs.Present.{Present, present_of}
use Rattle.alter_graph.specs.Snaps.{IsHalf, kept_of, added_of, Saved, IsSnap, Follows, is_valid}
use Rattle.alter_graph.specs.Snaps.{node_half, arc_half}
use Rattle.alter_graph.specs.State.{State, IsInStep, SnapsFollow}
use Rattle.alter_graph.specs.Restoring.{places, IsMaking}
use Rattle.alter_graph.proofs.Listing.{all_in, contained, range_rises, live_has, told_live}
use Rattle.alter_graph.proofs.Listing.{facts_live, has_live, none_lacks}
use Rattle.alter_graph.proofs.Saving.{added_out, other_in, ids_rise, sound_at}
use Rattle.alter_graph.proofs.Following.{fits_at}
use Rattle.alter_graph.proofs.Kept.{kept_in, kept_moved_on}

-- ---- rising lists

first_or : {X : Type 0} (y : X) (ys : List X) (x : X) → Contains (y ∷ ys) x
    → (y ≡ x) ⊎ Contains ys x
first_or y ys x (zero, l, e) = inl e
first_or y ys x (suc n, l, e) = inr (n, omega (arith, l), e)

behind : {X : Type 0} (y : X) (ys : List X) (x : X) → Contains ys x → Contains (y ∷ ys) x
behind y ys x (n, l, e) = (suc n, omega (arith, l), e)

module _ {X : Type 0} (p : X → Bool) where
  passed : (xs : List X) (x : X) → Contains (filter p xs) x → Contains xs x × (p x ≡ true)
  passed [] x c = absurd (let l = c.1 in omega (arith, l))
  passed (y ∷ ys) x c =
      elim (p y) as (λ b. p y ≡ b → Contains (if b then y ∷ filter p ys else filter p ys) x
      → Contains (y ∷ ys) x × (p x ≡ true)) [
        | true ↦ λ t d. elim (first_or y (filter p ys) x d) [
          | inl e ↦ ((zero, omega arith, e), sym (ap p e) ∙ t)
          | inr m ↦ let r = passed ys x m in (behind y ys x r.0, r.1)
        ]
        | false ↦ λ t d. let r = passed ys x d in (behind y ys x r.0, r.1)
      ] refl c

  passes : (xs : List X) (x : X) → Contains xs x → p x ≡ true → Contains (filter p xs) x
  passes [] x c t = absurd (let l = c.1 in omega (arith, l))
  passes (y ∷ ys) x c t =
      elim (first_or y ys x c) [
        | inl e ↦ subst (λ b. Contains (if b then y ∷ filter p ys else filter p ys) x)
            (sym (ap p e ∙ t)) (zero, omega arith, e)
        | inr d ↦
            let r = passes ys x d t in
            elim (p y) as (λ b. Contains (if b then y ∷ filter p ys else filter p ys) x)
            [ true ↦ behind y (filter p ys) x r | false ↦ r ]
      ]

module _ {X : Type 0} (id_of : X → ℕ) where
  filter_rises : (p : X → Bool) (low : ℕ) (xs : List X) → IsTrue (rises_from id_of low xs)
      → IsTrue (rises_from id_of low (filter p xs))
  filter_rises p low [] rise = refl
  filter_rises p low (x ∷ xs) rise =
      let a = and_left (nat_le low (id_of x)) (rises_from id_of (id_of x + 1) xs) rise in
      let r = filter_rises p (id_of x + 1) xs
      (and_right (nat_le low (id_of x)) (rises_from id_of (id_of x + 1) xs) rise) in
      elim (p x) as (λ b.
      IsTrue (rises_from id_of low (if b then x ∷ filter p xs else filter p xs))) [
        | true ↦ grind (arith, common_steps, a, r)
        | false ↦ rises_higher id_of low (id_of x + 1) (filter p xs) r
            (grind (arith, common_steps, a))
      ]

  -- those that rise and have the same items are the same
  same_items : (low : ℕ) (xs ys : List X) → IsTrue (rises_from id_of low xs)
      → IsTrue (rises_from id_of low ys) → AllOf (Contains ys) xs → AllOf (Contains xs) ys → xs ≡ ys
  same_items low [] [] rx ry a b = refl
  same_items low [] (y ∷ ys) rx ry a b = absurd (let l = b.0.1 in omega (arith, l))
  same_items low (x ∷ xs) [] rx ry a b = absurd (let l = a.0.1 in omega (arith, l))
  same_items low (x ∷ xs) (y ∷ ys) rx ry a b =
      let later_x = and_right (nat_le low (id_of x)) (rises_from id_of (id_of x + 1) xs) rx in
      let later_y = and_right (nat_le low (id_of y)) (rises_from id_of (id_of y + 1) ys) ry in
      let above_x : (z : X) → Contains xs z → id_of x + 1 ≤ id_of z = λ z c.
      has_from id_of (id_of x + 1) (id_of z) xs later_x (contains-has id_of z xs c) in
      let above_y : (z : X) → Contains ys z → id_of y + 1 ≤ id_of z = λ z c.
      has_from id_of (id_of y + 1) (id_of z) ys later_y (contains-has id_of z ys c) in
      let e : x ≡ y = elim (first_or y ys x a.0) [
        | inl e ↦ sym e
        | inr c ↦ elim (first_or x xs y b.0) [
          | inl e ↦ e
          | inr d ↦ let m = above_y x c in let n = above_x y d in absurd (omega (arith, m, n))
        ]
      ] in
      let same : id_of x ≡ id_of y = ap id_of e in
      let one : AllOf (Contains ys) xs = all_in (Contains ys) xs (λ z c.
      elim (first_or y ys z (all_at (Contains (y ∷ ys)) z xs a.1 c)) [
        | inl f ↦
            let m = above_x z c in
            let n = ap id_of f in
            absurd (omega (arith, m, n, same))
        | inr d ↦ d
      ]) in
      let two : AllOf (Contains xs) ys = all_in (Contains xs) ys (λ z c.
      elim (first_or x xs z (all_at (Contains (x ∷ xs)) z ys b.1 c)) [
        | inl f ↦
            let m = above_y z c in
            let n = ap id_of f in
            absurd (omega (arith, m, n, same))
        | inr d ↦ d
      ]) in
      let r = same_items (id_of x + 1) xs ys later_x
      (subst (λ n. IsTrue (rises_from id_of (n + 1) ys)) (sym same) later_y) one two in
      λ i. e i ∷ r i

-- ---- the added items

numbers_in : (id : ℕ) (ids : List ℕ) → IsTrue (has_id number_id id ids) → Contains ids id
numbers_in id ids h = let r = contained number_id id ids h in
    subst (Contains ids) r.2 r.1

ids_in_live : (id : ℕ) (live : List Fact) → IsTrue (has_id fact_id id live)
    → Contains (map fact_id live) id
ids_in_live id [] h = cc
ids_in_live id (f ∷ fs) h =
    elim (f.id == id) as (λ b. (f.id == id) ≡ b → IsTrue (if b then true else has_id fact_id id fs)
    → Contains (f.id ∷ map fact_id fs) id) [
      | true ↦ λ e t. (zero, omega arith, grind (arith, common_steps, e))
      | false ↦ λ e t. behind f.id (map fact_id fs) id (ids_in_live id fs t)
    ] refl h

live_in_ids : (id : ℕ) (live : List Fact) → Contains (map fact_id live) id
    → IsTrue (has_id fact_id id live)
live_in_ids id [] c = absurd (let l = c.1 in omega (arith, l))
live_in_ids id (f ∷ fs) c =
    elim (first_or f.id (map fact_id fs) id c) [
      | inl e ↦ grind (arith, common_steps, e)
      | inr d ↦
          let r = live_in_ids id fs d in
          elim (f.id == id) as (λ b. IsTrue (if b then true else has_id fact_id id fs))
          [ true ↦ refl | false ↦ r ]
    ]

-- an id is told of exactly where a fact has it
told_has : (g : Digraph) (sort : ItemSort) (id : ℕ) → IsValid g
    → is_some (fact_of g sort id) ≡ has_id fact_id id (facts g sort)
told_has g sort id valid =
    elim (fact_of g sort id) as (λ o. fact_of g sort id ≡ o
    → is_some o ≡ has_id fact_id id (facts g sort)) [
      | Some fact ↦ λ e. sym (live_has g sort valid id (told_live g sort valid id fact e))
      | None ↦ λ e. sym (lacks-not_has fact_id id (facts g sort) (none_lacks g sort valid id e))
    ] refl

module _ (g : Digraph) (valid : IsValid g) (sort : ItemSort) where
  abbrev live : List Fact
  live = facts g sort

  module _ (copy : Copy) where
    -- an item is outside the copy
    abbrev is_out : ℕ → Bool
    is_out id = not (has (ids_in copy sort) id)

    -- what lists the items that a half saves is without those that it has as added
    abbrev pub ListsSaved : Held → Type 0
    ListsSaved h = (id : ℕ) → has (ids_in copy sort) id ≡ has_id fact_id id (saved_of h live)

    pub added_outside : (h : Held) → IsHalf h → HeldFits h live → IsHeldSound h → ListsSaved h
        → added_of h ≡ added copy g sort
    added_outside Nothing half fits sound lists = absurd half
    added_outside (Values t es) half fits sound lists = absurd half
    added_outside (Degree out ends) half fits sound lists = absurd half
    added_outside (Half a others k v) half fits sound lists =
        same_items number_id 0 a (filter is_out (map fact_id live)) sound.0
        (filter_rises number_id is_out 0 (map fact_id live)
        (ids_rise 0 live (facts_live g sort valid).rising))
        (all_in (Contains (filter is_out (map fact_id live))) a (λ id c.
        passes is_out (map fact_id live) id
        (ids_in_live id live (all_at (λ i. IsTrue (has_id fact_id i live)) id a fits.among c))
        (ap not (lists id ∙ added_out a k id live (contains-has number_id id a c)))))
        (all_in (Contains a) (filter is_out (map fact_id live)) (λ id c.
        let r = passed is_out (map fact_id live) id c in
        numbers_in id a (is_added id (live_in_ids id live r.0) r.1)))
      where
        is_added : (id : ℕ) → IsTrue (has_id fact_id id live) → is_out id ≡ true
            → IsTrue (has_id number_id id a)
        is_added id lives out =
            elim (has_id number_id id a) as (λ b. has_id number_id id a ≡ b → b ≡ true) [
              | true ↦ λ e. refl
              | false ↦ λ e.
                  let t : not true ≡ true = sym (ap not (other_in a k id live e lives))
                  ∙ sym (ap not (lists id)) ∙ out in
                  cc
            ] refl
    added_outside (Kept role all items) half fits sound lists = absurd half
    added_outside (Ties ties) half fits sound lists = absurd half

module _ (making g : Digraph) (valid_making : IsValid making) (valid : IsValid g)
    (sort : ItemSort) where
  pub added_tied : (h : Held) → IsHalf h → HeldFits h (facts g sort) → IsHeldSound h
      → saved_of h (facts g sort) ≡ facts making sort → added_of h ≡ added (copy_of making) g sort
  added_tied h half fits sound same =
      added_outside g valid sort (copy_of making) h half fits sound
      (λ id. in_copy making sort id valid_making ∙ told_has making sort id valid_making
      ∙ ap (has_id fact_id id) (sym same))

-- ---- the moved arcs

same_place : (now f : Fact) → now.id ≡ f.id → is_placed_as now f ≡ true → now ≡ f
same_place now f id placed = same-is now f (grind (arith, common_steps, id, placed))

-- what is saved is kept, or present
kept_or_it : (g : Fact) (ks : List Fact) → Contains ks (was_of ks g) ⊎ (was_of ks g ≡ g)
kept_or_it g [] = inr refl
kept_or_it g (x ∷ xs) =
    elim (x.id == g.id) as (λ b. Contains (x ∷ xs) (if b then x else was_of xs g)
    ⊎ ((if b then x else was_of xs g) ≡ g)) [
      | true ↦ inl (zero, omega arith, refl)
      | false ↦ elim (kept_or_it g xs) [
        | inl m ↦ inl (behind x xs (was_of xs g) m)
        | inr e ↦ inr e
      ]
    ]

kept_or_live : (a : List ℕ) (k live : List Fact) (f : Fact) → Contains (saved a k live) f
    → Contains k f ⊎ Contains live f
kept_or_live a k [] f c = absurd (let l = c.1 in omega (arith, l))
kept_or_live a k (g ∷ gs) f c =
    let further : Contains (saved a k gs) f → Contains k f ⊎ Contains (g ∷ gs) f = λ d.
    elim (kept_or_live a k gs f d) [ inl m ↦ inl m | inr m ↦ inr (behind g gs f m) ] in
    elim (has_id number_id g.id a) as (λ b.
    Contains (if b then saved a k gs else was_of k g ∷ saved a k gs) f
    → Contains k f ⊎ Contains (g ∷ gs) f) [
      | true ↦ further
      | false ↦ λ d. elim (first_or (was_of k g) (saved a k gs) f d) [
        | inl e ↦ elim (kept_or_it g k) [
          | inl m ↦ inl (subst (Contains k) e m)
          | inr m ↦ inr (zero, omega arith, sym m ∙ e)
        ]
        | inr m ↦ further m
      ]
    ] c

module _ (making g : Digraph) (valid_making : IsValid making) (valid : IsValid g) where
  abbrev arcs : List Fact
  arcs = facts g sorts.Arc

  -- the copied facts, by the ids that are used now
  abbrev copied : List Fact
  copied = filter_map (fact_of making sorts.Arc) (range_with_len 0 g.used_arcs)

  -- what has another fact now has moved
  is_elsewhere : (f : Fact) → IsTrue (has_id fact_id f.id arcs) → AllOf (λ now. now ≢ f) arcs
      → is_moved g f ≡ true
  is_elsewhere f lives other =
      let there = contained fact_id f.id arcs lives in
      let told = sym (ap (fact_of g sorts.Arc) there.2)
      ∙ (facts_are_whole g sorts.Arc there.0 valid).0 there.1 in
      ap (λ o. option_map_or (λ now. not (is_placed_as now f)) o false) told
      ∙ elim (is_placed_as there.0 f) as (λ b. is_placed_as there.0 f ≡ b → not b ≡ true) [
        | true ↦ λ e. absurd (all_at (λ now. now ≢ f) there.0 arcs other there.1
            (same_place there.0 f there.2 e))
        | false ↦ λ e. refl
      ] refl

  pub moved_tied : (h : Held) → IsHalf h → HeldFits h arcs → IsHeldSound h
      → saved_of h arcs ≡ facts making sorts.Arc → kept_of h ≡ moved (copy_of making) g
  moved_tied Nothing half fits sound same = absurd half
  moved_tied (Values t es) half fits sound same = absurd half
  moved_tied (Degree out ends) half fits sound same = absurd half
  moved_tied (Half a others k v) half fits sound same =
      same_items fact_id 0 k (filter (is_moved g) copied) sound.1
      (filter_rises fact_id (is_moved g) 0 copied
      (range_rises (fact_of making sorts.Arc) (fact_of-id making sorts.Arc) 0 g.used_arcs))
      (all_in (Contains (filter (is_moved g) copied)) k (λ f c.
      let on = all_at (λ x. IsTrue (has_id fact_id x.id arcs) × AllOf (λ now. now ≢ x) arcs) f k
      (kept_moved_on (Half a others k v) arcs fits) c in
      let lives = has_live g sorts.Arc valid f.id on.0 in
      passes (is_moved g) copied f
      (listed_if_told (fact_of making sorts.Arc) 0 g.used_arcs f.id f (omega arith)
      (below (listed_below g sorts.Arc f.id valid (live_listed g sorts.Arc f.id lives)))
      (all_at (λ x. fact_of making sorts.Arc x.id ≡ Some x) f k
      (kept_in (λ x. fact_of making sorts.Arc x.id ≡ Some x) (Half a others k v) arcs fits sound
      saved_told) c))
      (is_elsewhere f on.0 on.1)))
      (all_in (Contains k) (filter (is_moved g) copied) (λ f c.
      let r = all_at (λ x. (fact_of making sorts.Arc x.id ≡ Some x)
      × ((now : Fact) → fact_of g sorts.Arc x.id ≡ Some now → x ≢ now)) f
      (moved (copy_of making) g) (moved_are_copied making g) c in
      elim (kept_or_live a k arcs f (subst (λ l. Contains l f) (sym same)
      ((facts_are_whole making sorts.Arc f valid_making).1 r.0))) [
        | inl m ↦ m
        | inr m ↦ absurd (r.1 f ((facts_are_whole g sorts.Arc f valid).0 m) refl)
      ]))
    where
      below : {id : ℕ} → suc id ≤ g.used_arcs → suc id ≤ 0 + g.used_arcs
      below l = omega (arith, l)

      saved_told : AllOf (λ x. fact_of making sorts.Arc x.id ≡ Some x) (saved a k arcs)
      saved_told = subst (AllOf (λ x. fact_of making sorts.Arc x.id ≡ Some x)) (sym same)
          (all_in (λ x. fact_of making sorts.Arc x.id ≡ Some x) (facts making sorts.Arc)
          (λ x c. (facts_are_whole making sorts.Arc x valid_making).0 c))
  moved_tied (Kept role all items) half fits sound same = absurd half
  moved_tied (Ties ties) half fits sound same = absurd half

-- ---- the steps of a restore

module _ (k : SnapKeys) (making : Digraph) where
  -- while a snapshot is valid, it may have been made of the same digraph
  pub making_on : (steps : List PlainStep) (s t : State) → SnapsFollow steps s t
      → Contains s.chains.snaps k → IsTrue (is_valid k t.chains) → IsMaking k s making
      → IsMaking k t making
  making_on steps s t follow there v is =
      let one = all_at (Follows steps (present_of s.graph) s.chains (present_of t.graph) t.chains) k
      s.chains.snaps follow.each there in
      let e = one.copy v in
      record {
        valid = is.valid;
        nodes = ap (λ (c : Saved). c.nodes) e ∙ is.nodes;
        arcs = ap (λ (c : Saved). c.arcs) e ∙ is.arcs;
      }

  module _ (s : State) (h : IsInStep s) (there : Contains s.chains.snaps k)
      (is : IsMaking k s making) where
    abbrev p : Present
    p = present_of s.graph

    snap : IsSnap p s.chains k
    snap = all_at (IsSnap p s.chains) k s.chains.snaps h.seats.snaps.each there

    module _ (steady : AllSeats Steady s.chains.arcs.seats) where
      pub places_tied : places k s.chains ≡ places_back (copy_of making) s.graph
      places_tied = ap (map PlaceBack) (moved_tied making s.graph is.valid h.valid
          (arc_half k s.chains) snap.arcs.half
          (fits_at p.stamps p.arcs k.arcs.0 s.chains.arcs.seats h.seats.arcs)
          (sound_at k.arcs.0 s.chains.arcs.seats steady) is.arcs)

      pub refusable_tied : places k s.chains
          ≡ refusable_steps s.graph (restoring (copy_of making))
      refusable_tied = places_tied ∙ sym (append-nil (places_back (copy_of making) s.graph))

      pub arcs_tied : map EraseArc (added_of (arc_half k s.chains))
          ≡ arcs_out (copy_of making) s.graph
      arcs_tied = ap (map EraseArc) (added_tied making s.graph is.valid h.valid sorts.Arc
          (arc_half k s.chains) snap.arcs.half
          (fits_at p.stamps p.arcs k.arcs.0 s.chains.arcs.seats h.seats.arcs)
          (sound_at k.arcs.0 s.chains.arcs.seats steady) is.arcs)

    pub nodes_tied : AllSeats Steady s.chains.nodes.seats
        → map EraseNode (added_of (node_half k s.chains)) ≡ nodes_out (copy_of making) s.graph
    nodes_tied steady = ap (map EraseNode) (added_tied making s.graph is.valid h.valid sorts.Node
        (node_half k s.chains) snap.nodes.half
        (fits_at p.stamps p.nodes k.nodes.0 s.chains.nodes.seats h.seats.nodes)
        (sound_at k.nodes.0 s.chains.nodes.seats steady) is.nodes)

-- the steps of three parts, each by the digraph that the parts before it leave
pub steps_tied : (making g g1 g2 : Digraph) (places arcs nodes : List PlainStep)
    → places ≡ places_back (copy_of making) g → g1 ≡ after_steps g places
    → arcs ≡ arcs_out (copy_of making) g1 → g2 ≡ after_steps g1 arcs
    → nodes ≡ nodes_out (copy_of making) g2
    → places ++ arcs ++ nodes ≡ all_steps g (restoring (copy_of making))
steps_tied making g g1 g2 places arcs nodes p at1 a at2 n =
    let copy = copy_of making in
    let is1 : g1 ≡ after_part (places_back copy) g = at1 ∙ ap (after_steps g) p in
    let is2 : g2 ≡ after_part (arcs_out copy) g1 = at2 ∙ ap (after_steps g1) a in
    append_assoc places arcs nodes
    ∙ ap (λ l. places ++ (arcs ++ l)) (n ∙ sym (append-nil (nodes_out copy g2)))
    ∙ ap (λ h. places ++ (arcs ++ (nodes_out copy h ++ []))) is2
    ∙ ap (λ l. places ++ (l ++ (nodes_out copy (after_part (arcs_out copy) g1) ++ []))) a
    ∙ ap (λ h. places ++ (arcs_out copy h
    ++ (nodes_out copy (after_part (arcs_out copy) h) ++ []))) is1
    ∙ ap (λ l. l ++ (arcs_out copy (after_part (places_back copy) g)
    ++ (nodes_out copy (after_part (arcs_out copy) (after_part (places_back copy) g)) ++ []))) p
