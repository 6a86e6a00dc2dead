-- An observer that tracks nothing is told of all items, and stands for them.
use Rattle.std.proofs.Common.{◌≡◌, ℕ, ◌+◌, ◌<◌, ◌≤◌, false, nat_le}
use Rattle.std.proofs.Common.{if◌then◌else◌, IsTrue, List, [], ◌∷◌, ◌++◌, append_assoc}
use Rattle.std.proofs.Common.{refl, sym, ap, subst, ◌∙◌, arith, Result, Ok, Err, IfOk, OnErr}
use Rattle.std.proofs.lemmas.Grind.{common_steps}
use Rattle.std.proofs.lemmas.List.{append-nil}
use Rattle.base_items.specs.declared.items.Fact.{Fact}
use Rattle.base_items.specs.declared.items.ItemSort.{ItemSort}
use Rattle.base_items.specs.declared.items.ItemSort.TheVariants as sorts
use Rattle.plain_digraph.specs.Lists.{AllOf}
use Rattle.plain_digraph.specs.Facts.{fact_id}
use Rattle.plain_digraph.specs.Rising.{with_item}
use Rattle.plain_digraph.specs.Items.{facts}
use Rattle.plain_digraph.specs.Digraph.{Digraph}
use Rattle.plain_digraph.specs.Valid.{IsValid}
use Rattle.observe_core.specs.declared.kinds.Kind.{Kind}
use Rattle.observe_core.specs.declared.kinds.Kind.TheVariants.{Map, Quota, Loopless, Simple, OutCap}
use Rattle.observe_core.specs.declared.kinds.Kind.TheVariants.{Fuse, Tally}
use Rattle.observe_core.specs.Items.{place_all, rises_from}
use Rattle.observe_core.specs.Facts as listed
use Rattle.observe_core.specs.Guards.{by_kind}
use Rattle.observe_core.specs.Held.{Held, Nothing, Values, Degree, Half, Kept, Ties}
use Rattle.observe_core.specs.Seen.{Seen, Watched}
use Rattle.observe_core.specs.Told.{built}
use Rattle.observe_core.specs.Untold.{TracksNothing, held_unbuilt}
use Rattle.observe_core.specs.Fits.{HeldFits, Fits}
use Rattle.observe_core.specs.Conditions.{CanBuild}
use Rattle.observe_core.proofs.ItemLemmas.{and_left, and_right, rises-lacks}
use Rattle.observe_core.proofs.FitLaws.{fits-built}
use Rattle.observe_core.proofs.LiveLaws.{live-few}
use Rattle.notify_chain.specs.Seats.{SeatSeen, Attached}
use Rattle.alter_graph.specs.Chains.{ChainsSeen, seats_in, in_chain}
use Rattle.alter_graph.specs.Present.{present_of, facts_in}
use Rattle.alter_graph.specs.State.{State, Stands, InStep, IsInStep, SnapsStay}
use Rattle.alter_graph.specs.Attaching.{HasNoCounts, Attaches, with_seats}
use Rattle.alter_graph.proofs.Listing.{facts_live}
use Rattle.alter_graph.proofs.Reseated.{seated_in_step, seated_stay}

-- ---- facts by rising id, put to their places in turn

abbrev AllBelow : ℕ → List Fact → Type 0
AllBelow n fs = AllOf (λ f. f.id < n) fs

last_placed : (f : Fact) (fs : List Fact) → AllBelow f.id fs → with_item fact_id f fs ≡ fs ++ f ∷ []
last_placed f [] below = refl
last_placed f (g ∷ gs) below =
    let r = last_placed f gs below.1 in
    let b = below.0 in
    let later : nat_le f.id g.id ≡ false = grind (arith, common_steps, b) in
    ap (λ t. if t then f ∷ g ∷ gs else g ∷ with_item fact_id f gs) later ∙ ap (λ l. g ∷ l) r

below_more : (n : ℕ) (f : Fact) (fs : List Fact) → n ≤ f.id → AllBelow n fs
    → AllBelow (f.id + 1) (fs ++ f ∷ [])
below_more n f [] l all = (omega arith, tt)
below_more n f (g ∷ gs) l all =
    let b = all.0 in (omega (arith, b, l), below_more n f gs l all.1)

below_up : (n m : ℕ) (fs : List Fact) → n ≤ m → AllBelow n fs → AllBelow m fs
below_up n m [] l all = tt
below_up n m (g ∷ gs) l all = let b = all.0 in (omega (arith, b, l), below_up n m gs l all.1)

all_placed : (low : ℕ) (xs ys : List Fact) → IsTrue (rises_from fact_id low xs) → AllBelow low ys
    → place_all fact_id xs ys ≡ ys ++ xs
all_placed low [] ys rise below = sym (append-nil ys)
all_placed low (x ∷ xs) ys rise below =
    let a = and_left (nat_le low x.id) (rises_from fact_id (x.id + 1) xs) rise in
    let b = and_right (nat_le low x.id) (rises_from fact_id (x.id + 1) xs) rise in
    let l : low ≤ x.id = grind (arith, common_steps, a) in
    ap (place_all fact_id xs) (last_placed x ys (below_up low x.id ys l below))
    ∙ all_placed (x.id + 1) xs (ys ++ x ∷ []) b (below_more low x ys l below)
    ∙ append_assoc ys (x ∷ []) xs

pub placed_all : (live : List Fact) → IsTrue (rises_from fact_id 0 live)
    → place_all fact_id live [] ≡ live
placed_all live rise = all_placed 0 live [] rise tt

distinct : (low : ℕ) (fs : List Fact) → IsTrue (rises_from fact_id low fs)
    → listed.HasDistinctIds fs
distinct low [] rise = tt
distinct low (f ∷ fs) rise =
    let b = and_right (nat_le low f.id) (rises_from fact_id (f.id + 1) fs) rise in
    (rises-lacks fact_id (f.id + 1) f.id fs b (omega arith), distinct (f.id + 1) fs b)

-- ---- one that tracks nothing

none_of : (k : Kind) → ◌≡◌ {A = List Fact} [] (by_kind [] [] k)
none_of Map = refl
none_of Quota = refl
none_of Loopless = refl
none_of Simple = refl
none_of OutCap = refl
none_of Fuse = refl
none_of Tally = refl

held_none : (h : Held) → HeldFits (held_unbuilt h) []
held_none Nothing = tt
held_none (Values t es) = refl
held_none (Degree out ends) = λ v. refl
held_none (Half added others kept valid) = record { counted = omega arith; among = tt; moved = tt }
held_none (Kept role all items) = refl
held_none (Ties ties) = tt

fits_none : (s : Seen) → TracksNothing s → Fits s []
fits_none s e = record {
  guard = ap (λ (x : Seen). x.facts) e ∙ none_of s.kind;
  held = subst (λ h. HeldFits h []) (sym (ap (λ (x : Seen). x.held) e)) (held_none s.held);
}

module _ (g : Digraph) (sort : ItemSort) (valid : IsValid g) (s : Seen) (none : TracksNothing s)
  where
    pub may_build : CanBuild (facts g sort) s
    may_build =
        let live = facts_live g sort valid in
        record {
          empty = none;
          distinct = distinct 0 (facts g sort) live.rising;
          bounded =
              live.bounded;
        }

    built_fits : Fits (built (facts g sort) s) (facts g sort)
    built_fits = subst (Fits (built (facts g sort) s))
        (placed_all (facts g sort) (facts_live g sort valid).rising)
        (fits-built (facts g sort) s (fits_none s none))

    pub built_stands : HasNoCounts s → (seat : SeatSeen) → seat.seen ≡ built (facts g sort) s
        → Stands g.stamps (facts g sort) seat
    built_stands counts seat e =
        let few = live-few (facts g sort) (facts_live g sort valid) in
        let a = ap (λ (x : Seen). x.added) e ∙ counts.added in
        let r = ap (λ (x : Seen). x.erased) e ∙ counts.erased in
        let m = ap (λ (x : Seen). x.moved) e ∙ counts.moved in
        record {
          fits = subst (λ x. Fits x (facts g sort)) (sym e) built_fits;
          added = omega (arith, a);
          erased = omega (arith, r, few);
          moved = omega (arith, m);
        }

facts_sort : (sort : ItemSort) (g : Digraph) → facts_in sort (present_of g) ≡ facts g sort
facts_sort sorts.Node g = refl
facts_sort sorts.Arc g = refl

pub attached_in_step : (sort : ItemSort) (key : ℕ) (came : Watched) (s t : State) → IsInStep s
    → TracksNothing came.seen → HasNoCounts came.seen → Attaches sort key came s t → IsInStep t
attached_in_step sort key came s t at none counts h =
    let stand = subst (λ fs. Stands s.graph.stamps fs h.seat.seat) (sym (facts_sort sort s.graph))
    (built_stands s.graph sort at.valid came.seen none counts h.seat.seat h.seat.seen) in
    let step = seated_in_step (present_of s.graph) s.chains sort h.seat.seat at.seats stand in
    let chains = h.rest ∙ ap (λ ss. in_chain sort (with_seats ss) s.chains) h.seat.last in
    record {
      valid = subst IsValid (sym h.graph) at.valid;
      seats = subst (λ (g : Digraph). InStep (present_of g) t.chains) (sym h.graph)
          (subst (InStep (present_of s.graph)) (sym chains) step);
    }

-- the seat is told, and the snapshots stay
pub attaches : (sort : ItemSort) (key : ℕ) (came : Watched) (s : State) (d : ChainsSeen)
    → IsInStep s
    → Attached (seats_in sort s.chains) (seats_in sort d) key came
    (built (facts s.graph sort) came.seen)
    → d ≡ in_chain sort (with_seats (seats_in sort d)) s.chains
    → Attaches sort key came s (record { graph = s.graph; chains = d })
attaches sort key came s d at seat rest =
    let chains = rest ∙ ap (λ ss. in_chain sort (with_seats ss) s.chains) seat.last in
    record {
      graph = refl;
      seat = seat;
      rest = rest;
      snaps = subst (λ (c : ChainsSeen). SnapsStay s.chains.snaps s
          (record { graph = s.graph; chains = c })) (sym chains)
          (seated_stay (present_of s.graph) s.chains sort seat.seat at.seats);
    }

pub on_ok_of : {T E : Type 0} {P Q : T → Type 0} (r : Result T E) → ((x : T) → P x → Q x)
    → IfOk r P → IfOk r Q
on_ok_of (Ok x) f h = f x h
on_ok_of (Err e) f h = tt

pub either_way : {T E : Type 0} {P : T → Type 0} {Q R : Type 0} (r : Result T E)
    → ((x : T) → P x → R) → (Q → R) → IfOk r P → OnErr r Q → R
either_way (Ok x) f g ok err = f x ok
either_way (Err e) f g ok err = g err
