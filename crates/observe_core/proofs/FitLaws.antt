-- What an observer stands for after each notice.
use Rattle.std.proofs.Common.{◌≡◌, ◌≢◌, ℕ, ◌+◌, ◌-◌, Bool, true, false, ◌==◌, if◌then◌else◌, IsTrue}
use Rattle.std.proofs.Common.{List, [], ◌∷◌, map, refl, sym, ap, subst, ◌∙◌, arith, Contains}
use Rattle.std.proofs.Common.{count_by, nat_le, suc}
use Rattle.std.proofs.lemmas.Grind.{common_steps}
use Rattle.base_items.specs.declared.items.Fact.{Fact}
use Rattle.observe_core.specs.declared.kinds.Kind.{Kind}
use Rattle.observe_core.specs.declared.kinds.Kind.TheVariants.{Map, Quota, Loopless, Simple, OutCap}
use Rattle.observe_core.specs.declared.kinds.Kind.TheVariants.{Fuse, Tally}
use Rattle.plain_digraph.specs.Rising.{with_item, without_item, swapped}
use Rattle.plain_digraph.specs.Lists.{AllOf}
use Rattle.observe_core.specs.Items.{place_all, Lacks, has_id, rises_from, number_id, drop_number}
use Rattle.plain_digraph.specs.Facts.{fact_id}
use Rattle.observe_core.specs.Facts.{end_of, IsLive}
use Rattle.observe_core.specs.Held.{Held, Nothing, Values, Degree, Half, Kept, Ties, MapType}
use Rattle.observe_core.specs.Held.{entry_id, Marked, Tie, tied_id, IsHeldSound}
use Rattle.observe_core.specs.Guards.{by_kind}
use Rattle.observe_core.specs.Seen.{Seen, IsSound, facts_of_marked}
use Rattle.observe_core.specs.Told.{added, held_added, new_entry, new_marked, shifted, held_shifted}
use Rattle.observe_core.specs.Told.{marked_moved, built, held_built, erased, held_erased, cleared}
use Rattle.observe_core.specs.Told.{held_cleared}
use Rattle.observe_core.specs.Fits.{Fits, HeldFits, HalfFits, IsKept}
use Rattle.observe_core.proofs.ItemLemmas.{map-place, map-place_all, map-without, has-place}
use Rattle.observe_core.proofs.ItemLemmas.{has-without, has-swapped, length-place, length-place_all}
use Rattle.observe_core.proofs.ItemLemmas.{length-swapped, all_more, all-place, all-without}
use Rattle.observe_core.proofs.ItemLemmas.{not_has-lacks, rises_higher, and_left, and_right}
use Rattle.observe_core.proofs.CountLemmas.{count-place, count-place_all, count-without}
use Rattle.observe_core.proofs.CountLemmas.{count-swapped, count-map, count-drop, length-without}
use Rattle.observe_core.proofs.CountLemmas.{among-fewer, counted-has, contained-counted}
use Rattle.observe_core.proofs.KeptLemmas.{kept-on}

-- a guard's facts go the way of the live ones
by_own : (g : List Fact → List Fact) → g [] ≡ [] → (k : Kind) (fs live : List Fact)
    → fs ≡ by_kind [] live k → g fs ≡ by_kind [] (g live) k
by_own g n Map fs live e = ap g e ∙ n
by_own g n Quota fs live e = ap g e
by_own g n Loopless fs live e = ap g e
by_own g n Simple fs live e = ap g e
by_own g n OutCap fs live e = ap g e
by_own g n Fuse fs live e = ap g e
by_own g n Tally fs live e = ap g e

by_new : (g : List Fact → List Fact) (k : Kind) (fs live : List Fact) → fs ≡ by_kind [] live k
    → by_kind fs (g fs) k ≡ by_kind [] (g live) k
by_new g Map fs live e = e
by_new g Quota fs live e = ap g e
by_new g Loopless fs live e = ap g e
by_new g Simple fs live e = ap g e
by_new g OutCap fs live e = ap g e
by_new g Fuse fs live e = ap g e
by_new g Tally fs live e = ap g e

by_all : (all : List Fact) (k : Kind) (fs : List Fact) → fs ≡ by_kind [] [] k
    → by_kind fs all k ≡ by_kind [] all k
by_all all Map fs e = e
by_all all Quota fs e = refl
by_all all Loopless fs e = refl
by_all all Simple fs e = refl
by_all all OutCap fs e = refl
by_all all Fuse fs e = refl
by_all all Tally fs e = refl

by_none : (k : Kind) → [] ≡ by_kind {A = List Fact} [] [] k
by_none Map = refl
by_none Quota = refl
by_none Loopless = refl
by_none Simple = refl
by_none OutCap = refl
by_none Fuse = refl
by_none Tally = refl

----------------------------------------------------------------------------------------------------
-- an addition
----------------------------------------------------------------------------------------------------
more_live : (f : Fact) (live : List Fact) (i : ℕ) → IsTrue (has_id fact_id i live)
    → IsTrue (has_id fact_id i (with_item fact_id f live))
more_live f live i t =
    subst IsTrue (sym (has-place fact_id i f live))
    (elim (f.id == i) as (λ b. IsTrue (if b then true else has_id fact_id i live))
    [ true ↦ refl | false ↦ t ])

half_added : (f : Fact) (new : List ℕ) (others : ℕ) (kept live : List Fact)
    → HalfFits new others kept live → Lacks fact_id f.id live
    → HalfFits (with_item number_id f.id new) others kept (with_item fact_id f live)
half_added f new others kept live h l = record {
  counted = let a = length-place number_id f.id new in let b =
      length-place fact_id f live in let e = h.counted in omega (arith, a, b, e);
  among =
      all-place (λ i. IsTrue (has_id fact_id i (with_item fact_id f live))) number_id f.id new
      (subst IsTrue (sym (has-place fact_id f.id f live)) (grind (arith, common_steps)))
      (all_more (more_live f live) new h.among);
  moved = still kept h.moved;
}
  where
    apart_ids : (k : Fact) (gs : List Fact) → IsTrue (has_id fact_id k.id gs)
        → Lacks fact_id f.id gs → f.id ≢ k.id
    apart_ids k [] t l = cc
    apart_ids k (g ∷ gs) t l =
        elim (g.id == k.id) as (λ b. (g.id == k.id) ≡ b
        → IsTrue (if b then true else has_id fact_id k.id gs) → f.id ≢ k.id) [
          | true ↦ λ e u m. l.0 (grind (arith, common_steps, e, m))
          | false ↦ λ e u. apart_ids k gs u l.1
        ] refl t

    still : (ks : List Fact) → AllOf (IsKept new live) ks
        → AllOf (IsKept (with_item number_id f.id new) (with_item fact_id f live)) ks
    still [] a = tt
    still (k ∷ ks) a =
        let d = apart_ids k live a.0.live_id l in (
          record {
            live_id = more_live f live k.id a.0.live_id;
            older = lacks_placed new a.0.older d;
            moved = all-place (λ g. g ≢ k) fact_id f live (λ e. d (ap fact_id e)) a.0.moved;
          },
          still ks a.1,
        )
      where
        lacks_placed : (ns : List ℕ) → Lacks number_id k.id ns → f.id ≢ k.id
            → Lacks number_id k.id (with_item number_id f.id ns)
        lacks_placed [] o d = (d, tt)
        lacks_placed (n ∷ ns) o d =
            elim (nat_le f.id n) as (λ b.
            Lacks number_id k.id (if b then f.id ∷ n ∷ ns else n ∷ with_item number_id f.id ns)) [
              | true ↦ (d, o)
              | false ↦ (o.0, lacks_placed ns o.1 d)
            ]

held_added_fits : (f : Fact) (held : Held) (live : List Fact) → HeldFits held live
    → Lacks fact_id f.id live → HeldFits (held_added f held) (with_item fact_id f live)
held_added_fits f Nothing live h l = tt
held_added_fits f (Values t es) live h l =
    map-place entry_id number_id (new_entry t f.id) es ∙ ap (with_item number_id f.id) h
    ∙ sym (map-place fact_id number_id f live)
held_added_fits f (Degree out ends) live h l = λ v.
    let a = count-place number_id (λ n. n == v) (end_of out f) ends in
    let b = count-place fact_id (λ g. end_of out g == v) f live in
    a ∙ ap (λ n. (if end_of out f == v then 1 else 0) + n) (h v) ∙ sym b
held_added_fits f (Half new others kept valid) live h l = half_added f new others kept live h l
held_added_fits f (Kept role all items) live h l =
    map-place (λ m. m.fact) fact_id (new_marked all f) items ∙ ap (with_item fact_id f) h
held_added_fits f (Ties ties) live h l = all_more (λ t. more_live f live t.item) ties h

pub fits-added : (f : Fact) (s : Seen) (live : List Fact) → Fits s live → Lacks fact_id f.id live
    → Fits (added f s) (with_item fact_id f live)
fits-added f s live h l =
    record {
      guard = by_new (with_item fact_id f) s.kind s.facts live h.guard;
      held =
          held_added_fits f s.held live h.held l;
    }

----------------------------------------------------------------------------------------------------
-- a move
----------------------------------------------------------------------------------------------------
ids_stay : (now : Fact) (live : List Fact)
    → map fact_id (swapped fact_id now live) ≡ map fact_id live
ids_stay now [] = refl
ids_stay now (g ∷ gs) =
    let r = ids_stay now gs in
    elim (g.id == now.id) as (λ b. (g.id == now.id) ≡ b
    → map fact_id ((if b then now else g) ∷ swapped fact_id now gs) ≡ map fact_id (g ∷ gs)) [
      | true ↦ λ t. let e : now.id ≡ g.id = grind (arith, common_steps, t) in λ i. e i ∷ r i
      | false ↦ λ t. ap (λ l. g.id ∷ l) r
    ] refl

marked_live : (now : Fact) (items : List Marked)
    → facts_of_marked (marked_moved now items) ≡ swapped fact_id now (facts_of_marked items)
marked_live now [] = refl
marked_live now (m ∷ ms) =
    let r = marked_live now ms in
    elim (m.fact.id == now.id) as (λ b.
    facts_of_marked ((if b then record m { fact = now } else m) ∷ marked_moved now ms)
    ≡ (if b then now else m.fact) ∷ swapped fact_id now (facts_of_marked ms)) [
      | true ↦ ap (λ l. now ∷ l) r
      | false ↦ ap (λ l. m.fact ∷ l) r
    ]

-- the end of a live arc is counted
end_counted : (out : Bool) (f : Fact) (ends : List ℕ) (live : List Fact)
    → ((v : ℕ) → count_by (λ n. n == v) ends ≡ count_by (λ g. end_of out g == v) live)
    → Contains live f → IsTrue (has_id number_id (end_of out f) ends)
end_counted out f ends live counts there =
    let c = contained-counted (λ g. end_of out g == end_of out f) f live
    (grind (arith, common_steps)) there in
    let e = counts (end_of out f) in
    counted-has (end_of out f) ends (omega (arith, c, e))

held_shifted_fits : (old now : Fact) (held : Held) (live : List Fact) → HeldFits held live
    → IsTrue (rises_from fact_id 0 live) → Contains live old → now.id ≡ old.id → now ≢ old
    → HeldFits (held_shifted old now held) (swapped fact_id now live)
held_shifted_fits old now Nothing live h s c e d = tt
held_shifted_fits old now (Values t es) live h s c e d = h ∙ sym (ids_stay now live)
held_shifted_fits old now (Degree out ends) live h s c e d = λ v.
    let a = count-place number_id (λ n. n == v) (end_of out now)
    (drop_number (end_of out old) ends) in
    let b = count-drop (end_of out old) v ends (end_counted out old ends live h c) in
    let w = count-without fact_id (λ g. end_of out g == v) old live s c in
    let x = count-swapped fact_id (λ g. end_of out g == v) old now live s c e in
    let y = h v in
    a ∙ ap (λ n. (if end_of out now == v then 1 else 0) + n)
    (same (count_by (λ n. n == v) ends) (if end_of out old == v then 1 else 0)
    (count_by (λ n. n == v) (drop_number (end_of out old) ends))
    (count_by (λ g. end_of out g == v) (without_item fact_id old.id live)) b (y ∙ w)) ∙ sym x
  where
    same : (m a n p : ℕ) → m ≡ a + n → m ≡ a + p → n ≡ p
    same m a n p e f = omega (arith, e, f)
held_shifted_fits old now (Half new others kept valid) live h s c e d = record {
  counted = h.counted ∙ sym (length-swapped fact_id now live);
  among = all_more (λ i t. subst IsTrue (sym (has-swapped fact_id i now live)) t) new h.among;
  moved = kept-on new live kept old now e d s c h.moved;
}
held_shifted_fits old now (Kept role all items) live h s c e d = marked_live now items
    ∙ ap (swapped fact_id now) h
held_shifted_fits old now (Ties ties) live h s c e d =
    all_more (λ t u. subst IsTrue (sym (has-swapped fact_id t.item now live)) u) ties h

pub fits-shifted : (old now : Fact) (s : Seen) (live : List Fact) → Fits s live → IsLive live
    → Contains live old → now.id ≡ old.id → now ≢ old
    → Fits (shifted old now s) (swapped fact_id now live)
fits-shifted old now s live h l c e d = record {
  guard = by_own (swapped fact_id now) refl s.kind s.facts live h.guard;
  held = held_shifted_fits old now s.held live h.held l.rising c e d;
}

----------------------------------------------------------------------------------------------------
-- a build
----------------------------------------------------------------------------------------------------
new_ids : (t : MapType) (all : List Fact)
    → map entry_id (map (λ f. new_entry t f.id) all) ≡ map fact_id all
new_ids t [] = refl
new_ids t (f ∷ fs) = ap (λ l. f.id ∷ l) (new_ids t fs)

new_facts : (shows : Bool) (all : List Fact) → facts_of_marked (map (new_marked shows) all) ≡ all
new_facts shows [] = refl
new_facts shows (f ∷ fs) = ap (λ l. f ∷ l) (new_facts shows fs)

held_built_fits : (all : List Fact) (held : Held)
    → HeldFits (held_built all held) (place_all fact_id all [])
held_built_fits all Nothing = tt
held_built_fits all (Values t es) =
    map-place_all entry_id number_id (map (λ f. new_entry t f.id) all) []
    ∙ ap (λ l. place_all number_id l []) (new_ids t all)
    ∙ sym (map-place_all fact_id number_id all [])
held_built_fits all (Degree out ends) = λ v.
    let a = count-place_all number_id (λ n. n == v) (map (end_of out) all) [] in
    let b = count-place_all fact_id (λ g. end_of out g == v) all [] in
    let c = count-map (end_of out) v all in
    omega (arith, a, b, c)
held_built_fits all (Half new others kept valid) = record {
  counted = let a = length-place_all fact_id all [] in omega (arith, a);
  among = tt;
  moved = tt;
}
held_built_fits all (Kept role shows items) =
    map-place_all (λ m. m.fact) fact_id (map (new_marked shows) all) []
    ∙ ap (λ l. place_all fact_id l []) (new_facts shows all)
held_built_fits all (Ties ties) = tt

pub fits-built : (all : List Fact) (s : Seen) → Fits s []
    → Fits (built all s) (place_all fact_id all [])
fits-built all s h =
    record {
      guard = by_all (place_all fact_id all []) s.kind s.facts h.guard;
      held =
          held_built_fits all s.held;
    }

----------------------------------------------------------------------------------------------------
-- an erasure
----------------------------------------------------------------------------------------------------
ids_without : (i : ℕ) (live : List Fact)
    → map fact_id (without_item fact_id i live) ≡ without_item number_id i (map fact_id live)
ids_without i live = map-without fact_id number_id i live

less_live : (i j : ℕ) (live : List Fact) → j ≢ i → IsTrue (has_id fact_id j live)
    → IsTrue (has_id fact_id j (without_item fact_id i live))
less_live i j live n t = subst IsTrue (sym (has-without fact_id i j live n)) t

still_kept : (new fewer : List ℕ) (live kept : List Fact) (i : ℕ)
    → ((j : ℕ) → Lacks number_id j new → Lacks number_id j fewer) → AllOf (IsKept new live) kept
    → AllOf (IsKept fewer (without_item fact_id i live)) (without_item fact_id i kept)
still_kept new fewer live kept i less h =
    all_more (λ k w.
    record {
      live_id = less_live i k.id live w.0 w.1.live_id;
      older =
          less k.id w.1.older;
      moved =
          all_more (λ g z. z.1) (without_item fact_id i live)
          (all-without (λ g. g ≢ k) fact_id i live w.1.moved);
    })
    (without_item fact_id i kept) (all-without (IsKept new live) fact_id i kept h)

lacks_fewer : (i j : ℕ) (ns : List ℕ) → Lacks number_id j ns
    → Lacks number_id j (without_item number_id i ns)
lacks_fewer i j [] h = tt
lacks_fewer i j (n ∷ ns) h =
    elim (n == i) as (λ b.
    Lacks number_id j
    (if b then without_item number_id i ns else n ∷ without_item number_id i ns)) [
      | true ↦ lacks_fewer i j ns h.1
      | false ↦ (h.0, lacks_fewer i j ns h.1)
    ]

number_in : (i : ℕ) (ns : List ℕ) → IsTrue (has_id number_id i ns) → Contains ns i
number_in i [] h = cc
number_in i (n ∷ ns) h =
    elim (n == i) as (λ b. (n == i) ≡ b → IsTrue (if b then true else has_id number_id i ns)
    → Contains (n ∷ ns) i) [
      | true ↦ λ t u. (0, omega arith, grind (arith, common_steps, t))
      | false ↦ λ t u. let c = number_in i ns u in (suc c.0, omega (arith, c.1), c.2)
    ] refl h

half_erased : (f : Fact) (new : List ℕ) (others : ℕ) (kept : List Fact) (valid : Bool) (live : List
    Fact) → HalfFits new others kept live → IsTrue (rises_from number_id 0 new)
    → IsTrue (rises_from fact_id 0 live) → Contains live f
    → HeldFits (held_erased f (Half new others kept valid)) (without_item fact_id f.id live)
half_erased f new others kept valid live h r s c =
    let l = length-without fact_id f live s c in
    let e = h.counted in
    elim (has_id number_id f.id new) as (λ b. has_id number_id f.id new ≡ b
    → HeldFits (if b then Half (without_item number_id f.id new) others
    (without_item fact_id f.id kept) valid else Half new (others - 1)
    (without_item fact_id f.id kept) false) (without_item fact_id f.id live)) [
      | true ↦ λ t. record {
        counted = let m =
            length-without number_id f.id new r (number_in f.id new t) in omega (arith, l, e, m);
        among = all_more (λ j w. less_live f.id j live w.0 w.1) (without_item number_id f.id new)
            (all-without (λ j. IsTrue (has_id fact_id j live)) number_id f.id new h.among);
        moved = still_kept new (without_item number_id f.id new) live kept f.id
            (λ j. lacks_fewer f.id j new) h.moved;
      }
      | false ↦ λ t.
          let o = not_has-lacks number_id f.id new t in
          let a = among_rest new o h.among in
          let m = among-fewer fact_id 0 new (without_item fact_id f.id live) r
          (rises_without 0 live s) a in
          record {
            counted = omega (arith, l, e, m);
            among = a;
            moved = still_kept new new live kept f.id (λ j x. x) h.moved;
          }
    ] refl
  where
    among_rest : (ns : List ℕ) → Lacks number_id f.id ns
        → AllOf (λ j. IsTrue (has_id fact_id j live)) ns
        → AllOf (λ j. IsTrue (has_id fact_id j (without_item fact_id f.id live))) ns
    among_rest [] o a = tt
    among_rest (n ∷ ns) o a = (less_live f.id n live o.0 a.0, among_rest ns o.1 a.1)

    rises_without : (low : ℕ) (gs : List Fact) → IsTrue (rises_from fact_id low gs)
        → IsTrue (rises_from fact_id low (without_item fact_id f.id gs))
    rises_without low [] s = refl
    rises_without low (g ∷ gs) s =
        let a = and_left (nat_le low g.id) (rises_from fact_id (g.id + 1) gs) s in
        let b = and_right (nat_le low g.id) (rises_from fact_id (g.id + 1) gs) s in
        let w = rises_without (g.id + 1) gs b in
        elim (g.id == f.id) as (λ t.
        IsTrue (rises_from fact_id low
        (if t then without_item fact_id f.id gs else g ∷ without_item fact_id f.id gs))) [
          | true ↦ rises_higher fact_id low (g.id + 1) (without_item fact_id f.id gs) w
              (grind (arith, common_steps, a))
          | false ↦ grind (arith, common_steps, a, w)
        ]

ties_left : (i : ℕ) (live : List Fact) (ties : List Tie)
    → AllOf (λ t. IsTrue (has_id fact_id (tied_id t) live)) ties
    → AllOf (λ t. IsTrue (has_id fact_id (tied_id t) (without_item fact_id i live)))
    (without_item tied_id i ties)
ties_left i live ties h =
    all_more (λ t w. less_live i t.item live w.0 w.1) (without_item tied_id i ties)
    (all-without (λ t. IsTrue (has_id fact_id (tied_id t) live)) tied_id i ties h)

held_erased_fits : (f : Fact) (held : Held) (live : List Fact) → HeldFits held live
    → IsHeldSound held → IsTrue (rises_from fact_id 0 live) → Contains live f
    → HeldFits (held_erased f held) (without_item fact_id f.id live)
held_erased_fits f Nothing live h r s c = tt
held_erased_fits f (Values t es) live h r s c = map-without entry_id number_id f.id es
    ∙ ap (without_item number_id f.id) h ∙ sym (ids_without f.id live)
held_erased_fits f (Degree out ends) live h r s c = λ v.
    let b = count-drop (end_of out f) v ends (end_counted out f ends live h c) in
    let w = count-without fact_id (λ g. end_of out g == v) f live s c in
    let y = h v in
    same (count_by (λ n. n == v) ends) (if end_of out f == v then 1 else 0)
    (count_by (λ n. n == v) (drop_number (end_of out f) ends))
    (count_by (λ g. end_of out g == v) (without_item fact_id f.id live)) b (y ∙ w)
  where
    same : (m a n p : ℕ) → m ≡ a + n → m ≡ a + p → n ≡ p
    same m a n p e f = omega (arith, e, f)
held_erased_fits f (Half new others kept valid) live h r s c =
    half_erased f new others kept valid live h r.0 s c
held_erased_fits f (Kept role all items) live h r s c = map-without (λ m. m.fact) fact_id f.id items
    ∙ ap (without_item fact_id f.id) h
held_erased_fits f (Ties ties) live h r s c = ties_left f.id live ties h

pub fits-erased : (f : Fact) (s : Seen) (live : List Fact) → Fits s live → IsLive live → IsSound s
    → Contains live f → Fits (erased f s) (without_item fact_id f.id live)
fits-erased f s live h l sound c = record {
  guard = by_own (without_item fact_id f.id) refl s.kind s.facts live h.guard;
  held = held_erased_fits f s.held live h.held sound.held l.rising c;
}

----------------------------------------------------------------------------------------------------
-- a clear
----------------------------------------------------------------------------------------------------
held_cleared_fits : (held : Held) → HeldFits (held_cleared held) []
held_cleared_fits Nothing = tt
held_cleared_fits (Values t es) = refl
held_cleared_fits (Degree out ends) = λ v. refl
held_cleared_fits (Half new others kept valid) =
    record { counted = omega arith; among = tt; moved = tt }
held_cleared_fits (Kept role all items) = refl
held_cleared_fits (Ties ties) = tt

pub fits-cleared : (s : Seen) (live : List Fact) → Fits s live → Fits (cleared s) []
fits-cleared s live h = record { guard = by_none s.kind; held = held_cleared_fits s.held }
