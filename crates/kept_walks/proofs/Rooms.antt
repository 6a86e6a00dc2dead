-- Marks that tell the present rooms, and what a residual shows by them.
use Rattle.std.proofs.Common.{◌≡◌, ℕ, Bool, true, false, cond, IsTrue, List, [], ◌∷◌, ◌++◌, map}
use Rattle.std.proofs.Common.{filter, refl, sym, ap, ◌∙◌}
use Rattle.std.proofs.Common.{arith}
use Rattle.std.specs.Prelude.{ℤ, pos, int_lt}
use Rattle.std.proofs.lemmas.Bool.Decides.{nat_tests}
use Rattle.plain_digraph.specs.Facts.{fact_id}
use Rattle.plain_digraph.specs.Lists.{AllOf}
use Rattle.observe_core.specs.Held.{Marked}
use Rattle.observe_core.specs.Items.{has_id}
use Rattle.observe_core.specs.Seen.{facts_of_marked}
use Rattle.plain_views.specs.Shown.{ShownArc, Shown}
use Rattle.plain_views.specs.Adaptors.{residual, has_room, id_has_room, forward, backward, is_even}
use Rattle.plain_views.specs.Adaptors.{half, twice, odd}
use Rattle.plain_views.proofs.Adapted.{half_twice, half_odd}
use Rattle.kept_views.specs.declared.listing.Listing.{Listing}
use Rattle.kept_views.specs.ItemViews.{marks_in}
use Rattle.kept_walks.specs.Stored.{in_falling, arc_shown, cap_in, flow_in, one_if, two_if}
use Rattle.kept_walks.specs.Present.{Present, AreRoomy, can_grow, can_fall}
use Rattle.kept_walks.proofs.Following.{marked_as, same_filter, all_map, all_own, arcs_own}

-- ---- the room of an arc, as it goes and the other way

even_twice : (i : ℕ) → is_even (twice i) ≡ true
even_twice i = grind (arith, nat_tests)

odd_not_even : (i : ℕ) → is_even (odd i) ≡ false
odd_not_even i = grind (arith, nat_tests)

module _ (cap flow : ℕ → ℤ) (i : ℕ) where
  room_on : id_has_room cap flow (twice i) ≡ can_grow cap flow i
  room_on =
      ap (λ b. cond b (can_grow cap flow (half (twice i))) (can_fall flow (half (twice i))))
      (even_twice i)
      ∙ ap (can_grow cap flow) (half_twice i)

  room_back : id_has_room cap flow (odd i) ≡ can_fall flow i
  room_back =
      ap (λ b. cond b (can_grow cap flow (half (odd i))) (can_fall flow (half (odd i))))
      (odd_not_even i)
      ∙ ap (can_fall flow) (half_odd i)

-- ---- rooms that agree on the arcs that are shown

all_both : {X : Type 0} (P : X → Type 0) (xs ys : List X) → AllOf P xs → AllOf P ys
    → AllOf P (xs ++ ys)
all_both P [] ys one two = two
all_both P (x ∷ xs) ys one two = (one.0, all_both P xs ys one.1 two)

module _ (cap flow caps flows : ℕ → ℤ) where
  -- the flow of the arc can grow by both, or by neither, and it can fall so
  abbrev pub AgreeAt : ℕ → Type 0
  AgreeAt i = (can_grow cap flow i ≡ can_grow caps flows i) × (can_fall flow i ≡ can_fall flows i)

  abbrev pub Agree : ShownArc → Type 0
  Agree a = AgreeAt a.id

  abbrev Same : ShownArc → Type 0
  Same a = has_room cap flow a ≡ has_room caps flows a

  on : (xs : List ShownArc) → AllOf Agree xs → AllOf (λ a. Same (forward a)) xs
  on [] all = tt
  on (a ∷ xs) all =
      let one = room_on cap flow a.id in
      let two = room_on caps flows a.id in
      (one ∙ all.0.0 ∙ sym two, on xs all.1)

  back : (xs : List ShownArc) → AllOf Agree xs → AllOf (λ a. Same (backward a)) xs
  back [] all = tt
  back (a ∷ xs) all =
      let one = room_back cap flow a.id in
      let two = room_back caps flows a.id in
      (one ∙ all.0.1 ∙ sym two, back xs all.1)

  same_rooms : (xs ys : List ShownArc) → AllOf Agree xs → AllOf Agree ys
      → filter (has_room cap flow) (map forward xs ++ map backward ys)
      ≡ filter (has_room caps flows) (map forward xs ++ map backward ys)
  same_rooms xs ys one two =
      same_filter (has_room cap flow) (has_room caps flows) (map forward xs ++ map backward ys)
      (all_both Same (map forward xs) (map backward ys) (all_map Same forward xs (on xs one))
      (all_map Same backward ys (back ys two)))

  pub same_residual : (p : Shown) → AllOf Agree p.by_source → AllOf Agree p.by_target
      → residual cap flow p ≡ residual caps flows p
  same_residual p one two =
      let sources = same_rooms p.by_source p.by_target one two in
      let targets = same_rooms p.by_target p.by_source two one in
      λ i. record { nodes = p.nodes; by_source = sources i; by_target = targets i }

-- ---- rooms by marks

grows_as : (a b : Bool) → int_lt (one_if b) (two_if a b) ≡ a
grows_as true true = refl
grows_as true false = refl
grows_as false true = refl
grows_as false false = refl

falls_as : (b : Bool) → int_lt (pos 0) (one_if b) ≡ b
falls_as true = refl
falls_as false = refl

module _ (v : Present) (arcs : List Marked) (roomy : AreRoomy v arcs) where
  abbrev pub ByMarks : ShownArc → Type 0
  ByMarks = Agree (cap_in arcs) (flow_in arcs) v.cap v.flow

  by_marks : (i : ℕ) → IsTrue (has_id fact_id i (facts_of_marked arcs))
      → AgreeAt (cap_in arcs) (flow_in arcs) v.cap v.flow i
  by_marks i held =
      let m = marks_in i arcs in (
        grows_as m.forward m.backward
            ∙ marked_as (λ m. m.forward) (can_grow v.cap v.flow) arcs roomy.forward i held,
        falls_as m.backward
            ∙ marked_as (λ m. m.backward) (can_fall v.flow) arcs roomy.backward i held,
      )

  pub agree : (l : Listing)
      → AllOf ByMarks (map arc_shown (in_falling l (facts_of_marked arcs)))
  agree l =
      arcs_own l ByMarks (facts_of_marked arcs)
      (all_own (λ f. ByMarks (arc_shown f)) (facts_of_marked arcs) (λ f held. by_marks f.id held))
