-- The observer of a seat is written.
use Rattle.std.proofs.Common.{◌≡◌, ℕ, true, false, ◌==◌, if◌then◌else◌, List, [], ◌∷◌}
use Rattle.std.proofs.Common.{Option, Some, None, IfSome, refl, sym, ap, subst, ◌∙◌, arith}
use Rattle.std.proofs.lemmas.Grind.{common_steps}
use Rattle.std.proofs.lemmas.Option.{same_Some}
use Rattle.std.specs.Borrow.{MutBor}
use Rattle.std.specs.Option.{option_copied_mut}
use Rattle.base_items.specs.declared.items.Fact.{Fact}
use Rattle.base_items.specs.declared.items.ItemSort.{ItemSort}
use Rattle.base_items.specs.declared.items.ItemSort.TheVariants as sorts
use Rattle.plain_digraph.specs.Lists.{AllOf}
use Rattle.plain_digraph.specs.Items.{facts}
use Rattle.observe_core.specs.Seen.{Watched}
use Rattle.observe_core.specs.Guards.{by_kind}
use Rattle.observe_core.proofs.ItemLemmas.{all_more}
use Rattle.notify_chain.specs.Seats.{SeatSeen, AllSeats, seat_from, seat_seen, find_seat, put_seat}
use Rattle.alter_graph.specs.declared.snaps.SnapKeys.{SnapKeys}
use Rattle.alter_graph.specs.Chains.{ChainsSeen, chains_seen, seats_in, in_chain}
use Rattle.alter_graph.specs.Present.{Present, present_of, facts_in}
use Rattle.alter_graph.specs.Snaps.{half_of, held_at, kind_at, IsHalf, IsSnap, SnapsHold, Follows}
use Rattle.alter_graph.specs.State.{AlterOf, Stands, InStep}
use Rattle.alter_graph.specs.Attaching.{with_seats}
use Rattle.alter_graph.specs.Lending.{AnyReseats, Rewrites, MayWrite}
use Rattle.alter_graph.proofs.Reseated.{KeepsHalves, stays_as_is, all_snaps_kept, same_names}

-- ---- one seat

stands_on : (stamps : ℕ) (live : List Fact) (old new : SeatSeen) → Rewrites live old.seen new.seen
    → Stands stamps live old → Stands stamps live new
stands_on stamps live old new h was =
    let a = h.added in
    let b = was.added in
    let e = h.erased in
    let f = was.erased in
    let m = h.moved in
    let n = was.moved in
    record {
      fits = record {
        guard = h.facts ∙ was.fits.guard ∙ ap (by_kind [] live) (sym h.kind);
        held = h.held was.fits.held;
      };
      added = omega (arith, a, b);
      erased = omega (arith, e, f);
      moved = omega (arith, m, n);
    }

-- ---- among the others

module _ (live : List Fact) (s old : SeatSeen) (h : Rewrites live old.seen s.seen) where
  put_stands : (stamps : ℕ) (ss : List SeatSeen) → find_seat s.key ss ≡ Some old
      → AllSeats (Stands stamps live) ss → AllSeats (Stands stamps live) (put_seat s ss)
  put_stands stamps [] e all = tt
  put_stands stamps (t ∷ ts) e all =
      elim (t.key == s.key) as (λ b. (if b then Some t else find_seat s.key ts) ≡ Some old
      → AllSeats (Stands stamps live) (if b then s ∷ ts else t ∷ put_seat s ts)) [
        | true ↦ λ q. (
          stands_on stamps live old s h (subst (Stands stamps live) (same_Some t old q) all.0),
          all.1,
        )
        | false ↦ λ q. (all.0, put_stands stamps ts q all.1)
      ] e

  module _ (key : ℕ) where
    -- a half is as it was
    held_put : (ss : List SeatSeen) → find_seat s.key ss ≡ Some old → IsHalf (held_at key ss)
        → held_at key (put_seat s ss) ≡ held_at key ss
    held_put [] e half = absurd half
    held_put (t ∷ ts) e half =
        elim (t.key == s.key) as (λ b. (t.key == s.key) ≡ b
        → (if b then Some t else find_seat s.key ts) ≡ Some old
        → held_at key (if b then s ∷ ts else t ∷ put_seat s ts) ≡ held_at key (t ∷ ts)) [
          | true ↦ λ k q.
              let m : s.key ≡ t.key = grind (arith, common_steps, k) in
              let same : IsHalf (half_of t.seen) → half_of s.seen ≡ half_of t.seen =
              subst (λ (x : SeatSeen). IsHalf (half_of x.seen) → half_of s.seen ≡ half_of x.seen)
              (sym (same_Some t old q)) h.half in
              ap (λ n. if n == key then half_of s.seen else held_at key ts) m
              ∙ elim (t.key == key) as (λ b. IsHalf (if b then half_of t.seen else held_at key ts)
              → (if b then half_of s.seen else held_at key ts)
              ≡ (if b then half_of t.seen else held_at key ts)) [
                | true ↦ same
                | false ↦ λ p. refl
              ] half
          | false ↦ λ k q.
              elim (t.key == key) as (λ b. IsHalf (if b then half_of t.seen else held_at key ts)
              → (if b then half_of t.seen else held_at key (put_seat s ts))
              ≡ (if b then half_of t.seen else held_at key ts)) [
                | true ↦ λ p. refl
                | false ↦ λ p. held_put ts q p
              ] half
        ] refl e

    kind_put : (ss : List SeatSeen) → find_seat s.key ss ≡ Some old
        → kind_at key (put_seat s ss) ≡ kind_at key ss
    kind_put [] e = refl
    kind_put (t ∷ ts) e =
        elim (t.key == s.key) as (λ b. (t.key == s.key) ≡ b
        → (if b then Some t else find_seat s.key ts) ≡ Some old
        → kind_at key (if b then s ∷ ts else t ∷ put_seat s ts) ≡ kind_at key (t ∷ ts)) [
          | true ↦ λ k q.
              let m : s.key ≡ t.key = grind (arith, common_steps, k) in
              let same : s.seen.kind ≡ t.seen.kind =
              h.kind ∙ ap (λ (x : SeatSeen). x.seen.kind) (sym (same_Some t old q)) in
              λ i. if m i == key then same i else kind_at key ts
          | false ↦ λ k q. ap (λ x. if t.key == key then t.seen.kind else x) (kind_put ts q)
        ] refl e

-- ---- all of them

module _ (p : Present) (c : ChainsSeen) (sort : ItemSort) (s old : SeatSeen)
    (h : Rewrites (facts_in sort p) old.seen s.seen)
    (found : find_seat s.key (seats_in sort c) ≡ Some old) where
  abbrev put : ItemSort → ChainsSeen
  put x = in_chain x (with_seats (put_seat s (seats_in x c))) c

  halves_put : (k : SnapKeys) → IsSnap p c k → KeepsHalves c (put sort) k
  halves_put k was = of sort h found
    where
      of : (x : ItemSort) → Rewrites (facts_in x p) old.seen s.seen
          → find_seat s.key (seats_in x c) ≡ Some old → KeepsHalves c (put x) k
      of sorts.Node r e = record {
        node = held_put p.nodes s old r k.nodes.0 c.nodes.seats e was.nodes.half;
        arc = refl;
        node_kind = kind_put p.nodes s old r k.nodes.0 c.nodes.seats e ∙ was.nodes.kind;
        arc_kind = was.arcs.kind;
      }
      of sorts.Arc r e = record {
        node = refl;
        arc = held_put p.arcs s old r k.arcs.0 c.arcs.seats e was.arcs.half;
        node_kind = was.nodes.kind;
        arc_kind = kind_put p.arcs s old r k.arcs.0 c.arcs.seats e ∙ was.arcs.kind;
      }

  put_stay : InStep p c → AllOf (Follows [] p c p (put sort)) c.snaps
  put_stay at = all_more (λ k was. stays_as_is p c (put sort) k (halves_put k was)) c.snaps
      at.snaps.each

  put_in_step : InStep p c → InStep p (put sort)
  put_in_step at =
      of sort h found (all_snaps_kept p c (put sort)
      (same_names sort (put_seat s (seats_in sort c)) c) halves_put at.snaps)
    where
      of : (x : ItemSort) → Rewrites (facts_in x p) old.seen s.seen
          → find_seat s.key (seats_in x c) ≡ Some old → SnapsHold p (put x) → InStep p (put x)
      of sorts.Node r e snaps = record {
        nodes = put_stands p.nodes s old r p.stamps c.nodes.seats e at.nodes;
        arcs = at.arcs;
        snaps = snaps;
      }
      of sorts.Arc r e snaps = record {
        nodes = at.nodes;
        arcs = put_stands p.arcs s old r p.stamps c.arcs.seats e at.arcs;
        snaps = snaps;
      }

-- ---- whatever is written

module _ {O : Type 0} (watch : O → Watched) (sort : ItemSort) (key : ℕ) (a : AlterOf O) where
  abbrev p : Present
  p = present_of a.graph.graph

  abbrev c : ChainsSeen
  c = chains_seen watch a.chains

  may_write : (o : O) → AnyReseats watch sort key a.chains
      → seat_seen watch key (Some o) ≡ find_seat key (seats_in sort c)
      → MayWrite watch sort key a o
  may_write o any found new =
      let s : SeatSeen = seat_from watch key (Some new) in
      let old : SeatSeen = seat_from watch key (Some o) in
      record {
        seats = any new;
        in_step = λ at h. record {
          valid = at.valid;
          seats = subst (InStep p) (sym (any new))
              (put_in_step p c sort s old (of sort h) (sym found) at.seats);
        };
        snaps = λ at h. subst (λ d. AllOf (Follows [] p c p d) c.snaps) (sym (any new))
            (put_stay p c sort s old (of sort h) (sym found) at.seats);
      }
    where
      of : (x : ItemSort) → Rewrites (facts a.graph.graph x) (watch o).seen (watch new).seen
          → Rewrites (facts_in x p) (watch o).seen (watch new).seen
      of sorts.Node h = h
      of sorts.Arc h = h

  pub may_write_lent : (r : Option (MutBor O)) → IfSome r (λ _. AnyReseats watch sort key a.chains)
      → seat_seen watch key (option_copied_mut r) ≡ find_seat key (seats_in sort c)
      → IfSome r (λ o. MayWrite watch sort key a o.now)
  may_write_lent None any found = tt
  may_write_lent (Some o) any found = may_write o.now any found
