-- Seats come and go beside the halves of snapshots.
use Rattle.std.proofs.Common.{◌≡◌, ℕ, Bool, true, false, not, ◌&&◌, ◌==◌, if◌then◌else◌}
use Rattle.std.proofs.Common.{List, [], ◌∷◌, ◌++◌, filter, refl, sym, ap, subst, ◌∙◌}
use Rattle.std.proofs.lemmas.Grind.{common_steps}
use Rattle.std.proofs.Common.{arith}
use Rattle.base_items.specs.declared.items.Fact.{Fact}
use Rattle.base_items.specs.declared.items.ItemSort.{ItemSort}
use Rattle.base_items.specs.declared.items.ItemSort.TheVariants as sorts
use Rattle.plain_digraph.specs.Lists.{AllOf}
use Rattle.plain_digraph.specs.Rising.{without_item}
use Rattle.observe_core.specs.declared.kinds.Kind.TheVariants.{Map}
use Rattle.observe_core.specs.Saved as whole
use Rattle.observe_core.proofs.ItemLemmas.{all_more}
use Rattle.notify_chain.specs.Seats.{SeatSeen, AllSeats, seat_key}
use Rattle.alter_graph.specs.declared.snaps.SnapKeys.{SnapKeys}
use Rattle.alter_graph.specs.Chains.{ChainsSeen, seats_in, in_chain}
use Rattle.alter_graph.specs.Present.{Present, present_of, facts_in}
use Rattle.alter_graph.specs.Snaps.{half_of, held_at, kind_at, IsHalf, kept_of, node_half, arc_half}
use Rattle.alter_graph.specs.Snaps.{saved_by, is_valid, saved_arcs, HasEnds, IsSnap}
use Rattle.alter_graph.specs.Snaps.{OwnStamps, SnapsHold, Follows}
use Rattle.alter_graph.specs.State.{State, Stands, InStep, SnapsStay}
use Rattle.alter_graph.specs.Attaching.{with_seats, uses_key, detached}
use Rattle.alter_graph.proofs.Apart.{own_fewer}
use Rattle.alter_graph.proofs.Keeping.{and_true, follow_each}
use Rattle.alter_graph.proofs.Following.{StaysValid, all_left, all_right, all_both, fewer_arcs}

-- ---- the halves of a snapshot, among other seats

pub record KeepsHalves (c d : ChainsSeen) (k : SnapKeys) : Type 0 where
  pub node : node_half k d ≡ node_half k c
  pub arc : arc_half k d ≡ arc_half k c
  pub node_kind : kind_at k.nodes.0 d.nodes.seats ≡ Map
  pub arc_kind : kind_at k.arcs.0 d.arcs.seats ≡ Map

pub filtered : (P : SnapKeys → Type 0) (keep : SnapKeys → Bool) (ks : List SnapKeys) → AllOf P ks
    → AllOf P (filter keep ks)
filtered P keep [] all = tt
filtered P keep (k ∷ ks) all =
    let r = filtered P keep ks all.1 in
    elim (keep k) as (λ b. AllOf P (if b then k ∷ filter keep ks else filter keep ks))
    [ true ↦ (all.0, r) | false ↦ r ]

module _ (p : Present) (c d : ChainsSeen) where
  copy_kept : (k : SnapKeys) → KeepsHalves c d k → saved_by k p d ≡ saved_by k p c
  copy_kept k h =
      let n = h.node in
      let a = h.arc in
      λ i. record { nodes = whole.saved_of (n i) p.nodes; arcs = whole.saved_of (a i) p.arcs }

  flag_kept : (k : SnapKeys) → KeepsHalves c d k → is_valid k d ≡ is_valid k c
  flag_kept k h =
      let n = h.node in
      let a = h.arc in
      λ i. whole.is_valid (n i) && whole.is_valid (a i)

  snap_kept : (k : SnapKeys) → IsSnap p c k → KeepsHalves c d k → IsSnap p d k
  snap_kept k was h = record {
    nodes = record { kind = h.node_kind; half = subst IsHalf (sym h.node) was.nodes.half };
    arcs = record { kind = h.arc_kind; half = subst IsHalf (sym h.arc) was.arcs.half };
    still = ap kept_of h.node ∙ was.still;
    ends = λ v. subst HasEnds (sym (copy_kept k h)) (was.ends (sym (flag_kept k h) ∙ v));
  }

  -- it is as valid as before, with the same copy
  pub stays_as_is : (k : SnapKeys) → KeepsHalves c d k → Follows [] p c p d k
  stays_as_is k h = record {
    flag = flag_kept k h ∙ and_true (is_valid k c);
    copy = λ v. copy_kept k h;
  }

  stays_valid : (k : SnapKeys) → KeepsHalves c d k → StaysValid p c p d k
  stays_valid k h v = (sym (flag_kept k h) ∙ v, copy_kept k h)

  filtered_arcs : (P : Fact → Type 0) (keep : SnapKeys → Bool) (ks : List SnapKeys)
      → AllOf P (saved_arcs ks p c) → AllOf P (saved_arcs (filter keep ks) p c)
  filtered_arcs P keep [] all = tt
  filtered_arcs P keep (k ∷ ks) all =
      let own : List Fact = if is_valid k c then (saved_by k p c).arcs else [] in
      let r = filtered_arcs P keep ks (all_right P own (saved_arcs ks p c) all) in
      elim (keep k) as (λ b.
      AllOf P (saved_arcs (if b then k ∷ filter keep ks else filter keep ks) p c)) [
        | true ↦ all_both P own (saved_arcs (filter keep ks) p c)
            (all_left P own (saved_arcs ks p c) all) r
        | false ↦ r
      ]

  both_of : {P Q : SnapKeys → Type 0} (R : SnapKeys → Type 0) → ((k : SnapKeys) → P k → Q k → R k)
      → (ks : List SnapKeys) → AllOf P ks → AllOf Q ks → AllOf R ks
  both_of R f [] a b = tt
  both_of R f (k ∷ ks) a b = (f k a.0 b.0, both_of R f ks a.1 b.1)

  -- some names may be gone
  pub snaps_kept : (keep : SnapKeys → Bool) → d.snaps ≡ filter keep c.snaps
      → AllOf (KeepsHalves c d) d.snaps → SnapsHold p c → SnapsHold p d
  snaps_kept keep names all h =
      let left : List SnapKeys = filter keep c.snaps in
      let halves : AllOf (KeepsHalves c d) left = subst (AllOf (KeepsHalves c d)) names all in
      let was : AllOf (IsSnap p c) left = filtered (IsSnap p c) keep c.snaps h.each in
      let stays : AllOf (StaysValid p c p d) left = all_more stays_valid left halves in
      record {
        each = subst (AllOf (IsSnap p d)) (sym names)
            (both_of (IsSnap p d) snap_kept left was halves);
        stamps = subst (λ ks. OwnStamps p.arcs (saved_arcs ks p d)
            p.stamps) (sym names)
            (own_fewer p.arcs (saved_arcs c.snaps p c) (saved_arcs left p d) p.stamps
            (λ P a. fewer_arcs P left p p c d stays (filtered_arcs P keep c.snaps a)) h.stamps);
      }

all_names : (ks : List SnapKeys) → filter (λ k. true) ks ≡ ks
all_names [] = refl
all_names (k ∷ ks) = ap (λ l. k ∷ l) (all_names ks)

-- or the names are the same
pub all_snaps_kept : (p : Present) (c d : ChainsSeen) → d.snaps ≡ c.snaps
    → ((k : SnapKeys) → IsSnap p c k → KeepsHalves c d k) → SnapsHold p c → SnapsHold p d
all_snaps_kept p c d names each h =
    snaps_kept p c d (λ k. true) (names ∙ sym (all_names c.snaps))
    (subst (AllOf (KeepsHalves c d)) (sym names) (all_more each c.snaps h.each)) h

-- ---- one more seat

pub held_front : (key : ℕ) (ss more : List SeatSeen) → IsHalf (held_at key ss)
    → held_at key (ss ++ more) ≡ held_at key ss
held_front key [] more half = absurd half
held_front key (s ∷ ss) more half =
    elim (s.key == key) as (λ b. IsHalf (if b then half_of s.seen else held_at key ss)
    → (if b then half_of s.seen else held_at key (ss ++ more))
    ≡ (if b then half_of s.seen else held_at key ss)) [
      | true ↦ λ h. refl
      | false ↦ λ h. held_front key ss more h
    ] half

pub kind_front : (key : ℕ) (ss more : List SeatSeen) → IsHalf (held_at key ss)
    → kind_at key (ss ++ more) ≡ kind_at key ss
kind_front key [] more half = absurd half
kind_front key (s ∷ ss) more half =
    elim (s.key == key) as (λ b. IsHalf (if b then half_of s.seen else held_at key ss)
    → (if b then s.seen.kind else kind_at key (ss ++ more))
    ≡ (if b then s.seen.kind else kind_at key ss)) [
      | true ↦ λ h. refl
      | false ↦ λ h. kind_front key ss more h
    ] half

halves_beside : (p : Present) (c : ChainsSeen) (sort : ItemSort) (more : List SeatSeen)
    (k : SnapKeys) → IsSnap p c k
    → KeepsHalves c (in_chain sort (with_seats (seats_in sort c ++ more)) c) k
halves_beside p c sorts.Node more k was = record {
  node = held_front k.nodes.0 c.nodes.seats more was.nodes.half;
  arc = refl;
  node_kind = kind_front k.nodes.0 c.nodes.seats more was.nodes.half ∙ was.nodes.kind;
  arc_kind = was.arcs.kind;
}
halves_beside p c sorts.Arc more k was = record {
  node = refl;
  arc = held_front k.arcs.0 c.arcs.seats more was.arcs.half;
  node_kind = was.nodes.kind;
  arc_kind = kind_front k.arcs.0 c.arcs.seats more was.arcs.half ∙ was.arcs.kind;
}

stand_more : (stamps : ℕ) (live : List Fact) (ss more : List SeatSeen)
    → AllSeats (Stands stamps live) ss → AllSeats (Stands stamps live) more
    → AllSeats (Stands stamps live) (ss ++ more)
stand_more stamps live [] more a b = b
stand_more stamps live (s ∷ ss) more a b = (a.0, stand_more stamps live ss more a.1 b)

pub same_names : (sort : ItemSort) (ss : List SeatSeen) (c : ChainsSeen)
    → (in_chain sort (with_seats ss) c).snaps ≡ c.snaps
same_names sorts.Node ss c = refl
same_names sorts.Arc ss c = refl

pub seated_in_step : (p : Present) (c : ChainsSeen) (sort : ItemSort) (seat : SeatSeen)
    → InStep p c → Stands p.stamps (facts_in sort p) seat
    → InStep p (in_chain sort (with_seats (seats_in sort c ++ seat ∷ [])) c)
seated_in_step p c sort seat at stand =
    let d : ChainsSeen = in_chain sort (with_seats (seats_in sort c ++ seat ∷ [])) c in
    let names = same_names sort (seats_in sort c ++ seat ∷ []) c in
    let snaps = all_snaps_kept p c d names (halves_beside p c sort (seat ∷ [])) at.snaps in
    of sort stand snaps
  where
    of : (x : ItemSort) → Stands p.stamps (facts_in x p) seat
        → SnapsHold p (in_chain x (with_seats (seats_in x c ++ seat ∷ [])) c)
        → InStep p (in_chain x (with_seats (seats_in x c ++ seat ∷ [])) c)
    of sorts.Node st snaps = record {
      nodes = stand_more p.stamps p.nodes c.nodes.seats (seat ∷ []) at.nodes (st, tt);
      arcs = at.arcs;
      snaps = snaps;
    }
    of sorts.Arc st snaps = record {
      nodes = at.nodes;
      arcs = stand_more p.stamps p.arcs c.arcs.seats (seat ∷ []) at.arcs (st, tt);
      snaps = snaps;
    }

pub seated_stay : (p : Present) (c : ChainsSeen) (sort : ItemSort) (seat : SeatSeen) → InStep p c
    → AllOf (Follows [] p c p (in_chain sort (with_seats (seats_in sort c ++ seat ∷ [])) c)) c.snaps
seated_stay p c sort seat at =
    let d : ChainsSeen = in_chain sort (with_seats (seats_in sort c ++ seat ∷ [])) c in
    all_more (λ k was. stays_as_is p c d k (halves_beside p c sort (seat ∷ []) k was)) c.snaps
    at.snaps.each

-- ---- one seat fewer

held_without : (gone key : ℕ) (ss : List SeatSeen) → (key == gone) ≡ false
    → held_at key (without_item seat_key gone ss) ≡ held_at key ss
held_without gone key [] apart = refl
held_without gone key (s ∷ ss) apart =
    let r = held_without gone key ss apart in
    let rest = without_item seat_key gone ss in
    elim (s.key == gone) as (λ b. (s.key == gone) ≡ b
    → held_at key (if b then rest else s ∷ rest)
    ≡ (if s.key == key then half_of s.seen else held_at key ss)) [
      | true ↦ λ e.
          let other : (s.key == key) ≡ false = grind (arith, common_steps, e, apart) in
          r ∙ sym (ap (λ b. if b then half_of s.seen else held_at key ss) other)
      | false ↦ λ e. ap (λ h. if s.key == key then half_of s.seen else h) r
    ] refl

kind_without : (gone key : ℕ) (ss : List SeatSeen) → (key == gone) ≡ false
    → kind_at key (without_item seat_key gone ss) ≡ kind_at key ss
kind_without gone key [] apart = refl
kind_without gone key (s ∷ ss) apart =
    let r = kind_without gone key ss apart in
    let rest = without_item seat_key gone ss in
    elim (s.key == gone) as (λ b. (s.key == gone) ≡ b
    → kind_at key (if b then rest else s ∷ rest)
    ≡ (if s.key == key then s.seen.kind else kind_at key ss)) [
      | true ↦ λ e.
          let other : (s.key == key) ≡ false = grind (arith, common_steps, e, apart) in
          r ∙ sym (ap (λ b. if b then s.seen.kind else kind_at key ss) other)
      | false ↦ λ e. ap (λ h. if s.key == key then s.seen.kind else h) r
    ] refl

stand_fewer : (stamps : ℕ) (live : List Fact) (gone : ℕ) (ss : List SeatSeen)
    → AllSeats (Stands stamps live) ss
    → AllSeats (Stands stamps live) (without_item seat_key gone ss)
stand_fewer stamps live gone [] h = tt
stand_fewer stamps live gone (s ∷ ss) h =
    let r = stand_fewer stamps live gone ss h.1 in
    let rest = without_item seat_key gone ss in
    elim (s.key == gone) as (λ b. AllSeats (Stands stamps live) (if b then rest else s ∷ rest))
    [ true ↦ r | false ↦ (h.0, r) ]

halves_left : (p : Present) (c : ChainsSeen) (sort : ItemSort) (gone : ℕ) (k : SnapKeys)
    → IsSnap p c k → uses_key sort gone k ≡ false → KeepsHalves c (detached sort gone c) k
halves_left p c sorts.Node gone k was apart = record {
  node = held_without gone k.nodes.0 c.nodes.seats apart;
  arc = refl;
  node_kind = kind_without gone k.nodes.0 c.nodes.seats apart ∙ was.nodes.kind;
  arc_kind = was.arcs.kind;
}
halves_left p c sorts.Arc gone k was apart = record {
  node = refl;
  arc = held_without gone k.arcs.0 c.arcs.seats apart;
  node_kind = was.nodes.kind;
  arc_kind = kind_without gone k.arcs.0 c.arcs.seats apart ∙ was.arcs.kind;
}

all_left_halves : (p : Present) (c : ChainsSeen) (sort : ItemSort) (gone : ℕ) (ks : List SnapKeys)
    → AllOf (IsSnap p c) ks
    → AllOf (KeepsHalves c (detached sort gone c)) (filter (λ k. not (uses_key sort gone k)) ks)
all_left_halves p c sort gone [] all = tt
all_left_halves p c sort gone (k ∷ ks) all =
    let r = all_left_halves p c sort gone ks all.1 in
    let rest = filter (λ k. not (uses_key sort gone k)) ks in
    elim (uses_key sort gone k) as (λ b. uses_key sort gone k ≡ b
    → AllOf (KeepsHalves c (detached sort gone c)) (if not b then k ∷ rest else rest)) [
      | true ↦ λ e. r
      | false ↦ λ e. (halves_left p c sort gone k all.0 e, r)
    ] refl

pub detached_in_step : (p : Present) (c : ChainsSeen) (sort : ItemSort) (gone : ℕ) → InStep p c
    → InStep p (detached sort gone c)
detached_in_step p c sort gone at =
    of sort (snaps_kept p c (detached sort gone c) (λ k. not (uses_key sort gone k)) refl
    (all_left_halves p c sort gone c.snaps at.snaps.each) at.snaps)
  where
    of : (x : ItemSort) → SnapsHold p (detached x gone c) → InStep p (detached x gone c)
    of sorts.Node snaps = record {
      nodes = stand_fewer p.stamps p.nodes gone c.nodes.seats at.nodes;
      arcs = at.arcs;
      snaps = snaps;
    }
    of sorts.Arc snaps = record {
      nodes = at.nodes;
      arcs = stand_fewer p.stamps p.arcs gone c.arcs.seats at.arcs;
      snaps = snaps;
    }

pub detached_stay : (p : Present) (c : ChainsSeen) (sort : ItemSort) (gone : ℕ) → InStep p c
    → AllOf (Follows [] p c p (detached sort gone c)) (detached sort gone c).snaps
detached_stay p c sort gone at =
    let d : ChainsSeen = detached sort gone c in
    all_more (stays_as_is p c d) d.snaps (all_left_halves p c sort gone c.snaps at.snaps.each)

-- those that stay at one change and at a seat that goes then
pub both_stay : (s t u : State) (sort : ItemSort) (gone : ℕ)
    → u.chains ≡ detached sort gone t.chains
    → SnapsStay t.chains.snaps s t → SnapsStay u.chains.snaps t u → SnapsStay u.chains.snaps s u
both_stay s t u sort gone e first then_too =
    let stay = Follows [] (present_of s.graph) s.chains (present_of t.graph) t.chains in
    follow_each [] [] s t u u.chains.snaps
    (subst (λ (c : ChainsSeen). AllOf stay c.snaps) (sym e)
    (filtered stay (λ k. not (uses_key sort gone k)) t.chains.snaps first)) then_too

-- ---- the same seats, and other keys that left

pub popped_in_step : (p : Present) (c d : ChainsSeen) → d.nodes.seats ≡ c.nodes.seats
    → d.arcs.seats ≡ c.arcs.seats → d.snaps ≡ c.snaps → InStep p c → InStep p d
popped_in_step p c d nodes arcs names at = record {
  nodes = subst (AllSeats (Stands p.stamps p.nodes)) (sym nodes) at.nodes;
  arcs = subst (AllSeats (Stands p.stamps p.arcs)) (sym arcs) at.arcs;
  snaps = all_snaps_kept p c d names one at.snaps;
}
  where
    one : (k : SnapKeys) → IsSnap p c k → KeepsHalves c d k
    one k was = record {
      node = ap (held_at k.nodes.0) nodes;
      arc = ap (held_at k.arcs.0) arcs;
      node_kind = ap (kind_at k.nodes.0) nodes ∙ was.nodes.kind;
      arc_kind = ap (kind_at k.arcs.0) arcs ∙ was.arcs.kind;
    }
