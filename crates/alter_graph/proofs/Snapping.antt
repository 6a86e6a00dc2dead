-- A snapshot that was just made is valid, and copies what is there.
use Rattle.std.proofs.Common.{◌≡◌, ℕ, true, false, ◌==◌, ◌&&◌, if◌then◌else◌}
use Rattle.std.proofs.Common.{IsTrue, List, [], ◌∷◌, ◌++◌, length, Option, Some, None}
use Rattle.std.proofs.Common.{refl, sym, ap, subst, ◌∙◌, arith, IfSome, IfNone}
use Rattle.std.proofs.lemmas.Grind.{common_steps}
use Rattle.std.specs.FinMap as fin
use Rattle.base_items.specs.declared.items.Fact.{Fact}
use Rattle.base_items.specs.declared.items.ItemSort.{ItemSort}
use Rattle.base_items.specs.declared.items.ItemSort.TheVariants as sorts
use Rattle.plain_digraph.specs.Lists.{AllOf}
use Rattle.plain_digraph.specs.Facts.{fact_id}
use Rattle.plain_digraph.specs.Rising.{without_item}
use Rattle.plain_digraph.specs.Digraph.{Digraph}
use Rattle.plain_digraph.specs.Items.{facts, stamp_of}
use Rattle.plain_digraph.specs.Valid.{IsValid}
use Rattle.plain_digraph.proofs.SameLists.{facts_are_whole}
use Rattle.plain_digraph.proofs.Undone.{told_parts}
use Rattle.observe_core.specs.declared.kinds.Kind.TheVariants.{Map}
use Rattle.observe_core.specs.Items.{has_id}
use Rattle.observe_core.specs.Held.{Held, Nothing, Values, Degree, Half, Kept, Ties}
use Rattle.observe_core.specs.Saved as saved
use Rattle.observe_core.specs.Seen.{Seen, Watched}
use Rattle.observe_core.specs.Told.{built}
use Rattle.observe_core.specs.Conditions.{CanBuild}
use Rattle.snap_shots.specs.HalfViews.{fresh}
use Rattle.observe_core.proofs.ItemLemmas.{all_more}
use Rattle.notify_chain.specs.Seats.{SeatSeen, AllSeats, seat_key, find_seat}
use Rattle.alter_graph.specs.declared.snaps.SnapKeys.{SnapKeys}
use Rattle.alter_graph.specs.Chains.{ChainsSeen, ChainSeen, in_chain}
use Rattle.alter_graph.specs.Present.{Present, present_of}
use Rattle.alter_graph.specs.Snaps.{Saved, IsHalfSeat, kept_of, half_of, held_at, kind_at}
use Rattle.alter_graph.specs.Snaps.{IsHalf, HasEnds}
use Rattle.alter_graph.specs.Snaps.{Apart, AllApart, IsBelow}
use Rattle.alter_graph.specs.Snaps.{OwnStamps, saved_by, is_valid, saved_arcs, IsSnap, SnapsHold}
use Rattle.alter_graph.specs.State.{State, Stands, InStep, IsInStep}
use Rattle.alter_graph.specs.Attaching.{HasNoCounts, with_seats}
use Rattle.alter_graph.specs.Snapping.{Seated, Makes}
use Rattle.alter_graph.proofs.Apart.{apart_back}
use Rattle.alter_graph.proofs.Attached.{may_build, built_stands}
use Rattle.alter_graph.proofs.Following.{all_left, all_right, all_both}
use Rattle.alter_graph.proofs.Listing.{all_in, live_has}
use Rattle.alter_graph.proofs.Reseated.{KeepsHalves, stays_as_is, held_front, kind_front}
use Rattle.alter_graph.proofs.Reseated.{seated_in_step}

-- ---- a seat by its key

pub held_found : (key : ℕ) (ss : List SeatSeen) (seat : SeatSeen) → find_seat key ss ≡ Some seat
    → held_at key ss ≡ half_of seat.seen
held_found key [] seat e = cc
held_found key (s ∷ ss) seat e =
    elim (s.key == key) as (λ b. (if b then Some s else find_seat key ss) ≡ Some seat
    → (if b then half_of s.seen else held_at key ss) ≡ half_of seat.seen) [
      | true ↦ λ q. let m : s ≡ seat = cc in ap (λ (x : SeatSeen). half_of x.seen) m
      | false ↦ λ q. held_found key ss seat q
    ] e

pub held_missing : (key : ℕ) (ss : List SeatSeen) → find_seat key ss ≡ None
    → held_at key ss ≡ Nothing
held_missing key [] e = refl
held_missing key (s ∷ ss) e =
    elim (s.key == key) as (λ b. (if b then Some s else find_seat key ss) ≡ None
    → (if b then half_of s.seen else held_at key ss) ≡ Nothing) [
      | true ↦ λ q. cc
      | false ↦ λ q. held_missing key ss q
    ] e

-- what isn't a half is never stale
pub valid_unless_half : (h : Held) → (IsHalf h → ⊥) → true ≡ saved.is_valid h
valid_unless_half Nothing n = refl
valid_unless_half (Values t es) n = refl
valid_unless_half (Degree out ends) n = refl
valid_unless_half (Half added others kept valid) n = absurd (n tt)
valid_unless_half (Kept role all items) n = refl
valid_unless_half (Ties ties) n = refl

-- the newest seat, whose key is new
pub held_last : (key : ℕ) (ss : List SeatSeen) (seat : SeatSeen) → find_seat key ss ≡ None
    → seat.key ≡ key → held_at key (ss ++ seat ∷ []) ≡ half_of seat.seen
held_last key [] seat new name =
    let same : (seat.key == key) ≡ true = grind (arith, common_steps, name) in
    ap (λ b. if b then half_of seat.seen else Nothing) same
held_last key (s ∷ ss) seat new name =
    elim (s.key == key) as (λ b. (if b then Some s else find_seat key ss) ≡ None
    → (if b then half_of s.seen else held_at key (ss ++ seat ∷ [])) ≡ half_of seat.seen) [
      | true ↦ λ q. cc
      | false ↦ λ q. held_last key ss seat q name
    ] new

pub kind_last : (key : ℕ) (ss : List SeatSeen) (seat : SeatSeen) → find_seat key ss ≡ None
    → seat.key ≡ key → kind_at key (ss ++ seat ∷ []) ≡ seat.seen.kind
kind_last key [] seat new name =
    let same : (seat.key == key) ≡ true = grind (arith, common_steps, name) in
    ap (λ b. if b then seat.seen.kind else Map) same
kind_last key (s ∷ ss) seat new name =
    elim (s.key == key) as (λ b. (if b then Some s else find_seat key ss) ≡ None
    → (if b then s.seen.kind else kind_at key (ss ++ seat ∷ [])) ≡ seat.seen.kind) [
      | true ↦ λ q. cc
      | false ↦ λ q. kind_last key ss seat q name
    ] new

-- without it the others are there
pub without_last : (key : ℕ) (ss : List SeatSeen) (seat : SeatSeen) → find_seat key ss ≡ None
    → seat.key ≡ key → without_item seat_key key (ss ++ seat ∷ []) ≡ ss
without_last key [] seat new name =
    let same : (seat.key == key) ≡ true = grind (arith, common_steps, name) in
    ap (λ b. if b then [] else seat ∷ []) same
without_last key (s ∷ ss) seat new name =
    elim (s.key == key) as (λ b. (if b then Some s else find_seat key ss) ≡ None
    → (if b then without_item seat_key key (ss ++ seat ∷ [])
    else s ∷ without_item seat_key key (ss ++ seat ∷ [])) ≡ s ∷ ss) [
      | true ↦ λ q. cc
      | false ↦ λ q. ap (λ l. s ∷ l) (without_last key ss seat q name)
    ] new

-- ---- what the halves save

pub saves_all : (live : List Fact) → saved.saved [] [] live ≡ live
saves_all [] = refl
saves_all (f ∷ fs) = ap (λ l. f ∷ l) (saves_all fs)

-- both ends of a live arc are live
pub ends_there : (g : Digraph) → IsValid g
    → HasEnds (record { nodes = facts g sorts.Node; arcs = facts g sorts.Arc })
ends_there g valid = all_in (λ f. IsTrue (has_id fact_id f.from (facts g sorts.Node))
    × IsTrue (has_id fact_id f.to (facts g sorts.Node))) (facts g sorts.Arc) (λ f at.
    let told = (facts_are_whole g sorts.Arc f valid).0 at in
    let parts = told_parts f.id (fin.get g.ends f.id) (stamp_of g.by_source f.id)
    (stamp_of g.by_target f.id) f told in
    let live = valid.ends_live f.id f.from f.to parts.1 in
    (live_has g sorts.Node valid f.from live.0, live_has g sorts.Node valid f.to live.1))

-- ---- stamps

flip : (xs ys : List Fact) → AllApart xs ys → AllApart ys xs
flip xs [] h = tt
flip xs (y ∷ ys) h = (
  all_more (λ x a. apart_back x y a.0) xs h,
  flip xs ys (all_more (λ x a. a.1) xs h),
)

both : {P Q R : Fact → Type 0} → ((f : Fact) → P f → Q f → R f) → (fs : List Fact) → AllOf P fs
    → AllOf Q fs → AllOf R fs
both f [] a b = tt
both f (x ∷ xs) a b = (f x a.0 b.0, both f xs a.1 b.1)

-- copies of what is there share no stamp with others
own_more : (live old new : List Fact) (n : ℕ)
    → ((P : Fact → Type 0) → AllOf P old → AllOf P live → AllOf P new) → OwnStamps live old n
    → OwnStamps live new n
own_more live old new n more h =
    let across : AllApart live new = both (λ f a b. more (Apart f) b a) live h.present h.across in
    record {
      present = h.present;
      across = across;
      copies =
          more (λ f. AllOf (Apart f) new) (both (λ f a b. more (Apart f) a b) old h.copies
          (flip live old h.across)) across;
      present_below = h.present_below;
      copies_below = more (IsBelow n) h.copies_below h.present_below;
    }

-- ---- one more name

module _ (p : Present) (c d : ChainsSeen) (nodes : d.nodes ≡ c.nodes) (arcs : d.arcs ≡ c.arcs) where
  same_copy : (k : SnapKeys) → saved_by k p d ≡ saved_by k p c
  same_copy k = λ i. record {
    nodes = saved.saved_of (held_at k.nodes.0 (nodes i).seats) p.nodes;
    arcs = saved.saved_of (held_at k.arcs.0 (arcs i).seats) p.arcs;
  }

  same_flag : (k : SnapKeys) → is_valid k d ≡ is_valid k c
  same_flag k =
      λ i. saved.is_valid (held_at k.nodes.0 (nodes i).seats)
      && saved.is_valid (held_at k.arcs.0 (arcs i).seats)

  same_snap : (k : SnapKeys) → IsSnap p c k → IsSnap p d k
  same_snap k was = record {
    nodes = subst (λ (x : ChainSeen). IsHalfSeat k.nodes.0 x.seats)
        (sym nodes) was.nodes;
    arcs = subst (λ (x : ChainSeen). IsHalfSeat k.arcs.0 x.seats)
        (sym arcs) was.arcs;
    still = ap (λ (x : ChainSeen). kept_of
        (held_at k.nodes.0 x.seats)) nodes ∙ was.still;
    ends = λ v. subst HasEnds (sym (same_copy k)) (was.ends (sym (same_flag k) ∙ v));
  }

  more_names : (P : Fact → Type 0) (name : SnapKeys) → (saved_by name p d).arcs ≡ p.arcs
      → (ks : List SnapKeys) → AllOf P (saved_arcs ks p c) → AllOf P p.arcs
      → AllOf P (saved_arcs (ks ++ name ∷ []) p d)
  more_names P name copy [] old live = all_both P
      (if is_valid name d then (saved_by name p d).arcs else []) []
      (elim (is_valid name d) as (λ b. AllOf P (if b then (saved_by name p d).arcs else []))
      [ true ↦ subst (AllOf P) (sym copy) live | false ↦ tt ]) tt
  more_names P name copy (k ∷ ks) old live =
      let own : List Fact = if is_valid k c then (saved_by k p c).arcs else [] in
      let here = all_left P own (saved_arcs ks p c) old in
      let rest = more_names P name copy ks (all_right P own (saved_arcs ks p c) old) live in
      let f = same_flag k in
      let s = same_copy k in
      all_both P (if is_valid k d then (saved_by k p d).arcs else [])
      (saved_arcs (ks ++ name ∷ []) p d)
      (subst (AllOf P) (sym (λ i. if f i then (s i).arcs else [])) here) rest

  each_more : (name : SnapKeys) → IsSnap p d name → (ks : List SnapKeys) → AllOf (IsSnap p c) ks
      → AllOf (IsSnap p d) (ks ++ name ∷ [])
  each_more name own [] all = (own, tt)
  each_more name own (k ∷ ks) all = (same_snap k all.0, each_more name own ks all.1)

  pub named_hold : (name : SnapKeys) → d.snaps ≡ c.snaps ++ name ∷ [] → IsSnap p d name
      → (saved_by name p d).arcs ≡ p.arcs → SnapsHold p c → SnapsHold p d
  named_hold name names own copy h = record {
    each = subst (AllOf (IsSnap p d)) (sym names) (each_more name own c.snaps h.each);
    stamps = subst (λ ks. OwnStamps p.arcs (saved_arcs ks p d) p.stamps) (sym names)
        (own_more p.arcs (saved_arcs c.snaps p c) (saved_arcs (c.snaps ++ name ∷ []) p d) p.stamps
        (λ P old live. more_names P name copy c.snaps old live) h.stamps);
  }

-- ---- a snapshot

no_counts : HasNoCounts fresh
no_counts = record { added = refl; erased = refl; moved = refl }

pub may_build_half : (g : Digraph) (sort : ItemSort) → IsValid g → (x : Seen) → x ≡ fresh
    → CanBuild (facts g sort) x
may_build_half g sort valid x e =
    subst (CanBuild (facts g sort)) (sym e) (may_build g sort valid fresh refl)

module _ (s : State) (d : ChainsSeen) (name : SnapKeys) (node arc : Watched) (at : IsInStep s)
    (node_fresh : node.seen ≡ fresh) (arc_fresh : arc.seen ≡ fresh)
    (h : Seated name node arc (facts s.graph sorts.Node) (facts s.graph sorts.Arc) s.chains d) where
  node_seen : h.nodes.seat.seen ≡ built (facts s.graph sorts.Node) fresh
  node_seen = h.nodes.seen ∙ ap (built (facts s.graph sorts.Node)) node_fresh

  arc_seen : h.arcs.seat.seen ≡ built (facts s.graph sorts.Arc) fresh
  arc_seen = h.arcs.seen ∙ ap (built (facts s.graph sorts.Arc)) arc_fresh

  node_held : held_at name.nodes.0 d.nodes.seats
      ≡ Half [] (length (facts s.graph sorts.Node)) [] true
  node_held =
      ap (held_at name.nodes.0) h.nodes.last
      ∙ held_last name.nodes.0 s.chains.nodes.seats h.nodes.seat h.nodes.is_new h.nodes.name
      ∙ ap half_of node_seen

  arc_held : held_at name.arcs.0 d.arcs.seats ≡ Half [] (length (facts s.graph sorts.Arc)) [] true
  arc_held =
      ap (held_at name.arcs.0) h.arcs.last
      ∙ held_last name.arcs.0 s.chains.arcs.seats h.arcs.seat h.arcs.is_new h.arcs.name
      ∙ ap half_of arc_seen

  made_valid : is_valid name d ≡ true
  made_valid = λ i. saved.is_valid (node_held i) && saved.is_valid (arc_held i)

  made_copy : saved_by name (present_of s.graph) d
      ≡ record { nodes = facts s.graph sorts.Node; arcs = facts s.graph sorts.Arc }
  made_copy =
      (λ i. record {
        nodes = saved.saved_of (node_held i) (facts s.graph sorts.Node);
        arcs = saved.saved_of (arc_held i) (facts s.graph sorts.Arc);
      })
      ∙ (λ i. record {
        nodes = saves_all (facts s.graph sorts.Node) i;
        arcs = saves_all (facts s.graph sorts.Arc) i;
      })

  made_snap : IsSnap (present_of s.graph) d name
  made_snap = record {
    nodes = record {
      kind =
          ap (kind_at name.nodes.0) h.nodes.last
          ∙ kind_last name.nodes.0 s.chains.nodes.seats h.nodes.seat h.nodes.is_new h.nodes.name
          ∙ ap (λ (x : Seen). x.kind) node_seen;
      half = subst IsHalf (sym node_held) tt;
    };
    arcs = record {
      kind =
          ap (kind_at name.arcs.0) h.arcs.last
          ∙ kind_last name.arcs.0 s.chains.arcs.seats h.arcs.seat h.arcs.is_new h.arcs.name
          ∙ ap (λ (x : Seen). x.kind) arc_seen;
      half = subst IsHalf (sym arc_held) tt;
    };
    still = ap kept_of node_held;
    ends = λ v. subst HasEnds (sym made_copy) (ends_there s.graph at.valid);
  }

  pub made_in_step : InStep (present_of s.graph) d
  made_in_step =
      let p : Present = present_of s.graph in
      let b : ChainsSeen = in_chain sorts.Node
      (with_seats (s.chains.nodes.seats ++ h.nodes.seat ∷ [])) s.chains in
      let c : ChainsSeen = in_chain sorts.Arc
      (with_seats (s.chains.arcs.seats ++ h.arcs.seat ∷ [])) b in
      let node_stands = built_stands s.graph sorts.Node at.valid fresh refl no_counts h.nodes.seat
      node_seen in
      let arc_stands = built_stands s.graph sorts.Arc at.valid fresh refl no_counts h.arcs.seat
      arc_seen in
      let seated : InStep p c = seated_in_step p b sorts.Arc h.arcs.seat
      (seated_in_step p s.chains sorts.Node h.nodes.seat at.seats node_stands) arc_stands in
      let nodes : d.nodes ≡ c.nodes =
      (λ i. record { seats = h.nodes.last i; left = h.nodes_left i }) in
      let arcs : d.arcs ≡ c.arcs =
      (λ i. record { seats = h.arcs.last i; left = h.arcs_left i }) in
      record {
        nodes = subst (λ (x : ChainSeen). AllSeats (Stands p.stamps p.nodes) x.seats) (sym nodes)
            seated.nodes;
        arcs = subst (λ (x : ChainSeen). AllSeats (Stands p.stamps p.arcs) x.seats) (sym arcs)
            seated.arcs;
        snaps = named_hold p c d nodes arcs name h.names made_snap
            (ap (λ (x : Saved). x.arcs) made_copy) seated.snaps;
      }

  beside : (k : SnapKeys) → IsSnap (present_of s.graph) s.chains k → KeepsHalves s.chains d k
  beside k was =
      let more = h.nodes.seat ∷ [] in
      let too = h.arcs.seat ∷ [] in
      record {
        node = ap (held_at k.nodes.0) h.nodes.last
            ∙ held_front k.nodes.0 s.chains.nodes.seats more was.nodes.half;
        arc = ap (held_at k.arcs.0) h.arcs.last
            ∙ held_front k.arcs.0 s.chains.arcs.seats too was.arcs.half;
        node_kind = ap (kind_at k.nodes.0) h.nodes.last
            ∙ kind_front k.nodes.0 s.chains.nodes.seats more was.nodes.half ∙ was.nodes.kind;
        arc_kind = ap (kind_at k.arcs.0) h.arcs.last
            ∙ kind_front k.arcs.0 s.chains.arcs.seats too was.arcs.half ∙ was.arcs.kind;
      }

  pub made_makes : Makes name s (record { graph = s.graph; chains = d })
  made_makes = record {
    graph = refl;
    node_seat = h.nodes.seat;
    node_key = h.nodes.name;
    node_new = h.nodes.is_new;
    nodes = λ i. record { seats = h.nodes.last i; left = h.nodes_left i };
    arc_seat = h.arcs.seat;
    arc_key = h.arcs.name;
    arc_new = h.arcs.is_new;
    arcs = λ i. record { seats = h.arcs.last i; left = h.arcs_left i };
    names = h.names;
    others = all_more (λ k was. stays_as_is (present_of s.graph) s.chains d k (beside k was))
        s.chains.snaps at.seats.snaps.each;
    valid = made_valid;
    copy = made_copy;
  }

-- ---- what a result holds

pub on_some : {T : Type 0} {P Q : T → Type 0} (o : Option T) → ((x : T) → P x → Q x)
    → IfSome o P → IfSome o Q
on_some None f h = tt
on_some (Some x) f h = f x h

pub on_none : {T : Type 0} {P Q : Type 0} (o : Option T) → (P → Q) → IfNone o P → IfNone o Q
on_none None f h = f h
on_none (Some x) f h = tt

pub some_or_none : {T : Type 0} {P : T → Type 0} {Q R : Type 0} (o : Option T)
    → ((x : T) → P x → R) → (Q → R) → IfSome o P → IfNone o Q → R
some_or_none None f g some none = g none
some_or_none (Some x) f g some none = f x some
