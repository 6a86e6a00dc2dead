-- States that are the same have the same snapshots, and are in step alike.
use Rattle.std.proofs.Common.{◌≡◌, ℕ, Bool, true, false, not, ◌&&◌, ◌==◌, if◌then◌else◌, IsTrue}
use Rattle.std.proofs.Common.{List, [], ◌∷◌, ◌++◌, refl, sym, ap, subst, ◌∙◌}
use Rattle.std.specs.Prelude.{◌||◌}
use Rattle.std.specs.List.{list_any}
use Rattle.plain_digraph.specs.Lists.{AllOf}
use Rattle.plain_digraph.specs.Digraph.{Digraph}
use Rattle.plain_digraph.specs.PlainSteps.{PlainStep}
use Rattle.plain_digraph.specs.Valid.{IsValid}
use Rattle.observe_core.specs.Saved as whole
use Rattle.observe_core.proofs.ItemLemmas.{and_left, all_more}
use Rattle.notify_chain.specs.Seats.{SeatSeen, AllSeats}
use Rattle.alter_graph.specs.declared.snaps.SnapKeys.{SnapKeys}
use Rattle.alter_graph.specs.Present.{Present, present_of}
use Rattle.alter_graph.specs.Snaps.{half_of, held_at, kind_at, IsHalf, kept_of, saved_by, is_valid}
use Rattle.alter_graph.specs.Snaps.{saved_arcs, OwnStamps, HasEnds, IsHalfSeat, IsSnap, SnapsHold}
use Rattle.alter_graph.specs.Snaps.{takes_from, Follows}
use Rattle.alter_graph.specs.State.{State, IsSame, Stands, IsInStep, SnapsFollow}
use Rattle.alter_graph.proofs.Sameness.{AreSame}
use Rattle.alter_graph.proofs.Standing.{stand_same}

-- ---- look-ups

pub held_same : (key : ℕ) (xs ys : List SeatSeen) → AreSame xs ys
    → held_at key ys ≡ held_at key xs
held_same key [] [] e = refl
held_same key [] (y ∷ ys) e = absurd e
held_same key (x ∷ xs) [] e = absurd e
held_same key (x ∷ xs) (y ∷ ys) e =
    let r = held_same key xs ys e.1 in
    let k = e.0.key in
    let s = e.0.seen in
    λ i. if k i == key then half_of (s i) else r i

kind_same : (key : ℕ) (xs ys : List SeatSeen) → AreSame xs ys → kind_at key ys ≡ kind_at key xs
kind_same key [] [] e = refl
kind_same key [] (y ∷ ys) e = absurd e
kind_same key (x ∷ xs) [] e = absurd e
kind_same key (x ∷ xs) (y ∷ ys) e =
    let r = kind_same key xs ys e.1 in
    let k = e.0.key in
    let s = e.0.seen in
    λ i. if k i == key then (s i).kind else r i

half_same : (key : ℕ) (xs ys : List SeatSeen) → AreSame xs ys → IsHalfSeat key xs
    → IsHalfSeat key ys
half_same key xs ys e h = record {
  kind = kind_same key xs ys e ∙ h.kind;
  half = subst IsHalf (sym (held_same key xs ys e)) h.half;
}

-- ---- states

module _ (s t : State) (e : IsSame s t) where
  pub flag_same : (k : SnapKeys) → is_valid k t.chains ≡ is_valid k s.chains
  flag_same k =
      let n = held_same k.nodes.0 s.chains.nodes.seats t.chains.nodes.seats e.chains.nodes.seats in
      let a = held_same k.arcs.0 s.chains.arcs.seats t.chains.arcs.seats e.chains.arcs.seats in
      λ i. whole.is_valid (n i) && whole.is_valid (a i)

  pub copy_same : (k : SnapKeys) → saved_by k (present_of t.graph) t.chains
      ≡ saved_by k (present_of s.graph) s.chains
  copy_same k =
      let n = held_same k.nodes.0 s.chains.nodes.seats t.chains.nodes.seats e.chains.nodes.seats in
      let a = held_same k.arcs.0 s.chains.arcs.seats t.chains.arcs.seats e.chains.arcs.seats in
      let g = e.graph in
      λ i. record {
        nodes = whole.saved_of (n i) (present_of (g i)).nodes;
        arcs = whole.saved_of (a i) (present_of (g i)).arcs;
      }

  arcs_same : (ks : List SnapKeys) → saved_arcs ks (present_of t.graph) t.chains
      ≡ saved_arcs ks (present_of s.graph) s.chains
  arcs_same [] = refl
  arcs_same (k ∷ ks) =
      let r = arcs_same ks in
      let f = flag_same k in
      let c = copy_same k in
      λ i. (if f i then (c i).arcs else []) ++ r i

  snap_same : (k : SnapKeys) → IsSnap (present_of s.graph) s.chains k
      → IsSnap (present_of t.graph) t.chains k
  snap_same k was = record {
    nodes = half_same k.nodes.0 s.chains.nodes.seats t.chains.nodes.seats e.chains.nodes.seats
        was.nodes;
    arcs = half_same k.arcs.0 s.chains.arcs.seats t.chains.arcs.seats e.chains.arcs.seats
        was.arcs;
    still = ap kept_of
        (held_same k.nodes.0 s.chains.nodes.seats t.chains.nodes.seats e.chains.nodes.seats)
        ∙ was.still;
    ends = λ v. subst HasEnds (sym (copy_same k)) (was.ends (sym (flag_same k) ∙ v));
  }

  snaps_same : SnapsHold (present_of s.graph) s.chains → SnapsHold (present_of t.graph) t.chains
  snaps_same h = record {
    each = subst (AllOf (IsSnap (present_of t.graph) t.chains)) (sym e.chains.snaps)
        (all_more snap_same s.chains.snaps h.each);
    stamps = subst (λ ks. OwnStamps (present_of t.graph).arcs
        (saved_arcs ks (present_of t.graph) t.chains) t.graph.stamps) (sym e.chains.snaps)
        (subst (λ l. OwnStamps (present_of t.graph).arcs l t.graph.stamps)
        (sym (arcs_same s.chains.snaps))
        (subst (λ (g : Digraph). OwnStamps (present_of g).arcs
        (saved_arcs s.chains.snaps (present_of s.graph) s.chains) g.stamps) (sym e.graph)
        h.stamps));
  }

  pub same_in_step : IsInStep s → IsInStep t
  same_in_step at =
      let k = sym e.graph in
      let p = present_of s.graph in
      record {
        valid = subst IsValid k at.valid;
        seats = record {
          nodes = subst (λ (g : Digraph). AllSeats
              (Stands g.stamps (present_of g).nodes) t.chains.nodes.seats) k
              (stand_same p.stamps p.nodes s.chains.nodes.seats t.chains.nodes.seats
              e.chains.nodes.seats at.seats.nodes);
          arcs = subst (λ (g : Digraph). AllSeats
              (Stands g.stamps (present_of g).arcs) t.chains.arcs.seats) k
              (stand_same p.stamps p.arcs s.chains.arcs.seats t.chains.arcs.seats
              e.chains.arcs.seats at.seats.arcs);
          snaps = snaps_same at.seats.snaps;
        };
      }

-- ---- snapshots that follow

pub and_true : (b : Bool) → b ≡ b && true
and_true true = refl
and_true false = refl

pub follow_none : (s t : State) → IsSame s t → SnapsFollow [] s t
follow_none s t e = record {
  names = e.chains.snaps;
  each = all s.chains.snaps;
}
  where
    all : (ks : List SnapKeys)
        → AllOf (Follows [] (present_of s.graph) s.chains (present_of t.graph) t.chains) ks
    all [] = tt
    all (k ∷ ks) = (
      record {
        flag = flag_same s t e k ∙ and_true (is_valid k s.chains);
        copy = λ v. copy_same s t e k;
      },
      all ks,
    )

any-append : {X : Type 0} (test : X → Bool) (a b : List X)
    → list_any test (a ++ b) ≡ list_any test a || list_any test b
any-append test [] b = refl
any-append test (x ∷ a) b =
    ap (λ t. test x || t) (any-append test a b)
    ∙ or_assoc (test x) (list_any test a) (list_any test b)
  where
    or_assoc : (x y z : Bool) → x || (y || z) ≡ (x || y) || z
    or_assoc true y z = refl
    or_assoc false y z = refl

flags_both : (v w c : Bool) (x y z : Bool) → w ≡ v && not x → c ≡ w && not y
    → (IsTrue w → y ≡ z) → c ≡ v && not (x || z)
flags_both v w c x y z e f same =
    subst (λ w. c ≡ w && not y → (IsTrue w → y ≡ z) → c ≡ v && not (x || z))
    (sym e) (cases v x y z c) f same
  where
    cases : (v x y z c : Bool) → c ≡ (v && not x) && not y → (IsTrue (v && not x) → y ≡ z)
        → c ≡ v && not (x || z)
    cases true true y z c e same = e
    cases true false y z c e same = e ∙ ap not (same refl)
    cases false x y z c e same = e

module _ (a b : List PlainStep) (s t u : State) where
  abbrev p : Present
  p = present_of s.graph

  abbrev q : Present
  q = present_of t.graph

  abbrev r : Present
  r = present_of u.graph

  pub follow_one : (k : SnapKeys) → Follows a p s.chains q t.chains k
      → Follows b q t.chains r u.chains k → Follows (a ++ b) p s.chains r u.chains k
  follow_one k f g = record {
    flag = flags_both (is_valid k s.chains) (is_valid k t.chains) (is_valid k u.chains)
        (list_any (takes_from (saved_by k p s.chains)) a)
        (list_any (takes_from (saved_by k q t.chains)) b)
        (list_any (takes_from (saved_by k p s.chains)) b) f.flag g.flag
        (λ v. ap (λ copy. list_any (takes_from copy) b) (f.copy v))
        ∙ ap (λ x. is_valid k s.chains && not x)
        (sym (any-append (takes_from (saved_by k p s.chains)) a b));
    copy = λ v. g.copy v ∙ f.copy (and_left (is_valid k t.chains)
        (not (list_any (takes_from (saved_by k q t.chains)) b)) (sym g.flag ∙ v));
  }

  pub follow_each : (ks : List SnapKeys) → AllOf (Follows a p s.chains q t.chains) ks
      → AllOf (Follows b q t.chains r u.chains) ks
      → AllOf (Follows (a ++ b) p s.chains r u.chains) ks
  follow_each [] f g = tt
  follow_each (k ∷ ks) f g = (follow_one k f.0 g.0, follow_each ks f.1 g.1)

  -- first some steps, and then some more
  pub follow_both : SnapsFollow a s t → SnapsFollow b t u → SnapsFollow (a ++ b) s u
  follow_both f g = record {
    names = g.names ∙ f.names;
    each = follow_each s.chains.snaps f.each
        (subst (AllOf (Follows b q t.chains r u.chains)) f.names g.each);
  }
