-- All items of a sort are placed in a kept view, one after another.
use Rattle.std.proofs.Common.{◌≡◌, ℕ, ◌+◌, ◌<◌, ◌≤◌, arith, Bool, true, false, cond, List, [], ◌∷◌}
use Rattle.std.proofs.Common.{map, refl, sym, ap, subst, Option, Some, None, ◌∙◌}
use Rattle.std.proofs.Common.{inl, inr, is_some, not}
use Rattle.std.specs.Prelude.{◌==◌, ◌&&◌, nat_lt}
use Rattle.std.proofs.lemmas.Bool.{cases_eq, eq-eqb, ne_eqb, lt-ltb, le-ltb, true≢false}
use Rattle.std.proofs.lemmas.Option.{none-some, same_Some}
use Rattle.base_items.specs.declared.items.Fact.{Fact}
use Rattle.base_items.specs.declared.items.ItemSort.{ItemSort}
use Rattle.base_items.specs.declared.items.ItemSort.TheVariants as sorts
use Rattle.notify_chain.specs.declared.key.SeatKey.{SeatKey}
use Rattle.plain_digraph.specs.Items.{fact_of, facts, used_of}
use Rattle.plain_digraph.specs.Lists.{AllOf}
use Rattle.plain_digraph.proofs.Live.{fact_of-has, listed_below}
use Rattle.plain_digraph.proofs.SameLists.{facts_are_whole}
use Rattle.observe_core.specs.Fits.{HeldFits}
use Rattle.observe_core.specs.Held as held
use Rattle.observe_core.specs.Held.{Held, Marked, Making, KeptRole, making_of}
use Rattle.observe_core.specs.Seen.{Seen, Watched}
use Rattle.notify_chain.specs.Seats.{SeatSeen, put_seat}
use Rattle.alter_graph.specs.Attaching.{with_seats}
use Rattle.alter_graph.specs.Chains.{ChainsSeen, chains_seen, seats_in, in_chain}
use Rattle.alter_graph.specs.State as states
use Rattle.alter_graph.specs.State.{AlterOf, state_of}
use Rattle.alter_graph.specs.Verdict.{is_sort}
use Rattle.alter_graph.proofs.Listing.{all_in}
use Rattle.kept_views.specs.declared.items.Marks.{Marks}
use Rattle.kept_views.specs.ItemViews.{with_marks, marked_set}
use Rattle.desk_seats.specs.Contents.{holding, marked_in, marked_held, role_in, role_held}
use Rattle.desk_seats.specs.Contents.{shows_all, all_held}
use Rattle.desk_world.specs.declared.tables.KeptKeys.{KeptKeys}
use Rattle.desk_world.specs.declared.tables.KeptMaps.{KeptMaps}
use Rattle.desk_world.specs.Claims as claims
use Rattle.desk_world.specs.Claims.{Role, Plays, Sits, claim, made_for}
use Rattle.desk_world.specs.KeptMaps.{present_in}
use Rattle.desk_world.specs.Looks.{look_in, seen_at}
use Rattle.desk_world.specs.Placing.{SitsGiven, SitMaps, own_key, own_role, marks_by, marked_with}
use Rattle.desk_world.specs.Placing.{all_marked}
use Rattle.desk_world.specs.Seating.{Puts}
use Rattle.desk_world.proofs.Following.{chain_here, same_sort}
use Rattle.desk_world.proofs.FollowedStep.{seat_of}
use Rattle.desk_world.proofs.IndexFilled.{map_all, passed}
use Rattle.desk_world.proofs.KeptAgree.{SameAt, SameMaps, present_same}
use Rattle.desk_world.proofs.KeptFollowed.{AreKeptItems, as_kept}
use Rattle.desk_world.proofs.LiveEntries.{stands_in}
use Rattle.desk_world.proofs.Putting.{elsewhere_put, seen_put, twice}
use Rattle.desk_world.proofs.Written.{IsElsewhere, no_sort}

-- ---- items

-- those below the id are placed, and the others are as they were
abbrev pub placed_below : (ℕ → Marks) → ℕ → List Marked → List Marked
placed_below m n items =
    map (λ (x : Marked). cond (nat_lt x.fact.id n) (with_marks (m x.fact.id) x.fact) x) items

abbrev fact_in : Marked → Fact
fact_in x = x.fact

module _ (m : ℕ → Marks) where
  none_below : (items : List Marked) → items ≡ placed_below m 0 items
  none_below [] = refl
  none_below (x ∷ xs) =
      let rest = none_below xs in
      let none = le-ltb x.fact.id 0 (omega arith) in
      λ i. cond (sym none i) (with_marks (m x.fact.id) x.fact) x ∷ rest i

  one_passes : (n : ℕ) (items : List Marked) → AllOf (λ (x : Marked). x.fact.id ≡ n → ⊥) items
      → placed_below m n items ≡ placed_below m (n + 1) items
  one_passes n [] all = refl
  one_passes n (x ∷ xs) all =
      let rest = one_passes n xs all.1 in
      let own = passed n x.fact.id all.0 in
      λ i. cond (sym own i) (with_marks (m x.fact.id) x.fact) x ∷ rest i

  one_placed : (n : ℕ) (items : List Marked)
      → marked_set n (m n) (placed_below m n items) ≡ placed_below m (n + 1) items
  one_placed n [] = refl
  one_placed n (x ∷ xs) =
      let rest = one_placed n xs in
      let new : Marked = with_marks (m x.fact.id) x.fact in
      let y : Marked = cond (nat_lt x.fact.id n) new x in
      let fact : y.fact ≡ x.fact = elim (nat_lt x.fact.id n) as (λ b.
      fact_in (cond b new x) ≡ x.fact) [
        | true ↦ refl
        | false ↦ refl
      ] in
      let id : y.fact.id ≡ x.fact.id = ap (λ (f : Fact). f.id) fact in
      elim (cases_eq x.fact.id n) [
        | inl same ↦
            ap (λ b. cond b (with_marks (m n) y.fact) y
            ∷ marked_set n (m n) (placed_below m n xs)) (eq-eqb y.fact.id n (id ∙ same))
            ∙ (λ i. with_marks (m (sym same i)) (fact i) ∷ rest i)
            ∙ ap (λ b. cond b new x ∷ placed_below m (n + 1) xs)
            (sym (lt-ltb x.fact.id (n + 1) (omega (arith, same))))
        | inr other ↦
            ap (λ b. cond b (with_marks (m n) y.fact) y
            ∷ marked_set n (m n) (placed_below m n xs))
            (ne_eqb y.fact.id n (λ is. other (sym id ∙ is)))
            ∙ (λ i. cond (sym (passed n x.fact.id other) i) new x ∷ rest i)
      ]

  all_below : (n : ℕ) (items : List Marked) → AllOf (λ (x : Marked). x.fact.id < n) items
      → placed_below m n items ≡ map (λ (x : Marked). with_marks (m x.fact.id) x.fact) items
  all_below n [] all = refl
  all_below n (x ∷ xs) all =
      let rest = all_below n xs all.1 in
      λ i. cond (lt-ltb x.fact.id n all.0 i) (with_marks (m x.fact.id) x.fact) x ∷ rest i

-- ---- a seat that is written to once more

record HasSeat (key : ℕ) (s : Seen) (ss : List SeatSeen) : Type 0 where
  seat : SeatSeen
  name : seat.key ≡ key
  seen : seat.seen ≡ s
  put : put_seat seat ss ≡ ss

has_seat : (key : ℕ) (s : Seen) (ss : List SeatSeen) → seen_at key ss ≡ Some s → HasSeat key s ss
has_seat key s [] at = absurd (none-some s at)
has_seat key s (u ∷ us) at = elim (cases_eq u.key key) [
  | inl same ↦ record {
    seat = u;
    name = same;
    seen = same_Some u.seen s
        (sym (ap (λ b. cond b (Some u.seen) (seen_at key us)) (eq-eqb u.key key same)) ∙ at);
    put = ap (λ b. cond b (u ∷ us) (u ∷ put_seat u us)) (eq-eqb u.key u.key refl);
  }
  | inr other ↦
      let rest = has_seat key s us
      (sym (ap (λ b. cond b (Some u.seen) (seen_at key us)) (ne_eqb u.key key other)) ∙ at) in
      record {
        seat = rest.seat;
        name = rest.name;
        seen = rest.seen;
        put = ap (λ b. cond b (rest.seat ∷ us) (u ∷ put_seat rest.seat us))
            (ne_eqb u.key rest.seat.key (λ is. other (is ∙ rest.name)))
            ∙ ap (λ more. u ∷ more) rest.put;
      }
]

put_twice : (t u : SeatSeen) (ss : List SeatSeen) → t.key ≡ u.key
    → put_seat u (put_seat t ss) ≡ put_seat u ss
put_twice t u [] is = refl
put_twice t u (s ∷ ss) is =
    let rest = put_twice t u ss is in
    elim (cases_eq s.key t.key) [
      | inl same ↦
          ap (λ b. put_seat u (cond b (t ∷ ss) (s ∷ put_seat t ss))) (eq-eqb s.key t.key same)
          ∙ ap (λ b. cond b (u ∷ ss) (t ∷ put_seat u ss)) (eq-eqb t.key u.key is)
          ∙ sym (ap (λ b. cond b (u ∷ ss) (s ∷ put_seat u ss))
          (eq-eqb s.key u.key (same ∙ is)))
      | inr other ↦
          let apart = ne_eqb s.key u.key (λ e. other (e ∙ sym is)) in
          ap (λ b. put_seat u (cond b (t ∷ ss) (s ∷ put_seat t ss)))
          (ne_eqb s.key t.key other)
          ∙ ap (λ b. cond b (u ∷ put_seat t ss) (s ∷ put_seat u (put_seat t ss))) apart
          ∙ ap (λ more. s ∷ more) rest
          ∙ sym (ap (λ b. cond b (u ∷ ss) (s ∷ put_seat u ss)) apart)
    ]

stays : (sort : ItemSort) (c : ChainsSeen) → c ≡ in_chain sort (with_seats (seats_in sort c)) c
stays sorts.Node c = refl
stays sorts.Arc c = refl

module _ (sort : ItemSort) (key : ℕ) (c : ChainsSeen) where
  -- nothing is written
  puts_itself : (s : Seen) → look_in c sort key ≡ Some s → Puts sort key (λ s. s.held) c c
  puts_itself s found =
      let h = has_seat key s (seats_in sort c) found in
      record {
        was = s;
        found = found;
        seat = h.seat;
        name = h.name;
        seen = h.seen;
        is = stays sort c ∙ ap (λ ss. in_chain sort (with_seats ss) c) (sym h.put);
      }

  -- by another word
  puts_as : (change other : Seen → Held) (d : ChainsSeen) (puts : Puts sort key change c d)
      → change puts.was ≡ other puts.was → Puts sort key other c d
  puts_as change other d puts same = record {
    was = puts.was;
    found = puts.found;
    seat = puts.seat;
    name = puts.name;
    seen = puts.seen ∙ ap (λ h. holding h puts.was) same;
    is = puts.is;
  }

  puts_again : (change next : Seen → Held) (d e : ChainsSeen) → Puts sort key change c d
      → Puts sort key next d e → Puts sort key (λ s. next (holding (change s) s)) c e
  puts_again change next d e puts more =
      let ss = seats_in sort c in
      let first = put_seat puts.seat ss in
      let last = ap (seats_in sort) puts.is ∙ chain_here sort (with_seats first) c in
      let was : more.was ≡ holding (change puts.was) puts.was =
      same_Some more.was (holding (change puts.was) puts.was)
      (sym more.found ∙ seen_put sort key change c d puts) in
      record {
        was = puts.was;
        found = puts.found;
        seat = more.seat;
        name = more.name;
        seen = more.seen ∙ ap (λ s. holding (next s) s) was;
        is = more.is
            ∙ (λ i. in_chain sort (with_seats (put_seat more.seat (last i))) (puts.is i))
            ∙ twice sort first (put_seat more.seat first) c
            ∙ ap (λ ss. in_chain sort (with_seats ss) c)
            (put_twice puts.seat more.seat ss (puts.name ∙ sym more.name));
      }

-- ---- the seats of maps are others

abbrev is_view : Making → Bool
is_view held.OfGuard = false
is_view (held.OfValues t) = false
is_view (held.OfDegree out) = false
is_view held.OfHalf = false
is_view (held.OfKept role all) = true
is_view held.OfTies = false

views_made : (sort : ItemSort) (m : KeptMaps) → is_view (made_for (own_role sort m)) ≡ true
views_made sorts.Node m = refl
views_made sorts.Arc m = refl

no_pair : (a : Bool) → (a && false) ≡ false
no_pair true = refl
no_pair false = refl

elsewhere : (sort other : ItemSort) (key at : ℕ) (m : KeptMaps) (role : Role) (c : ChainsSeen)
    → is_view (made_for role) ≡ false → Sits (own_role sort m) (look_in c sort key)
    → Sits role (look_in c other at) → IsElsewhere sort key (claim other at role)
elsewhere sort other key at m role c map own sits = elim (same_sort sort other) [
  | inl same ↦ elim (cases_eq at key) [
    | inl is ↦
        let seat = seat_of (own_role sort m) (look_in c sort key) own in
        let here : look_in c other at ≡ look_in c sort key =
        λ i. look_in c (sym same i) (is i) in
        let plays : Plays role seat.0 = subst (Sits role) (here ∙ seat.1) sits in
        absurd (true≢false (sym (views_made sort m) ∙ ap is_view (sym seat.2.making)
        ∙ ap is_view plays.making ∙ map))
    | inr apart ↦
        ap (λ b. is_sort other sort && b) (ne_eqb at key apart) ∙ no_pair (is_sort other sort)
  ]
  | inr apart ↦
      ap (λ b. b && at == key) (no_sort other sort (λ e. apart (sym e)))
]

-- ---- what a view's observer holds

pub record HoldsMarked (s : Seen) : Type 0 where
  role : KeptRole
  all : Bool
  kept : AreKeptItems role all s.held

pub holds_marked : (sort : ItemSort) (m : KeptMaps) (s : Seen) → Plays (own_role sort m) s
    → HoldsMarked s
holds_marked sorts.Node m s plays = record {
  role = held.KeptNodes;
  all = not (is_some m.node_filter);
  kept = as_kept held.KeptNodes (not (is_some m.node_filter)) s.held plays.making;
}
holds_marked sorts.Arc m s plays = record {
  role = held.KeptArcs m.shape;
  all = not (is_some m.arc_filter);
  kept = as_kept (held.KeptArcs m.shape) (not (is_some m.arc_filter)) s.held plays.making;
}

-- with the items below the id placed
abbrev pub placed_to : (ℕ → Marks) → ℕ → Seen → Held
placed_to m n s = held.Kept (role_in s) (shows_all s) (placed_below m n (marked_in s))

module _ (m : ℕ → Marks) (n : ℕ) (s : Seen) (h : HoldsMarked s) where
  placed_items : placed_to m n s ≡ held.Kept h.role h.all (placed_below m n h.kept.items)
  placed_items = λ i. held.Kept (role_held (h.kept.is i)) (all_held (h.kept.is i))
      (placed_below m n (marked_held (h.kept.is i)))

  pub placed_made : making_of (placed_to m n s) ≡ making_of s.held
  placed_made = ap making_of placed_items ∙ sym (ap making_of h.kept.is)

-- ---- the maps of a view whose seat is written to

-- maps that show what they showed sit still
given_sits : (c d : ChainsSeen) (other : ItemSort) (r : Role) (at : Option SeatKey)
    → SitsGiven r (look_in c other) at → SameAt (look_in c) (look_in d) other at
    → SitsGiven r (look_in d other) at
given_sits c d other r None there same = tt
given_sits c d other r (Some at) there same = subst (Sits r) (sym same) there

pub sit_still : (c d : ChainsSeen) (m : KeptMaps) → SitMaps (look_in c) m
    → SameMaps (look_in c) (look_in d) m → SitMaps (look_in d) m
sit_still c d m maps same = record {
  node_filter = given_sits c d sorts.Node claims.Bools m.node_filter maps.node_filter
      same.node_filter;
  arc_filter = given_sits c d sorts.Arc claims.Bools m.arc_filter maps.arc_filter
      same.arc_filter;
  cap = given_sits c d sorts.Arc claims.Ints m.cap maps.cap same.cap;
  flow = given_sits c d sorts.Arc claims.Ints m.flow maps.flow same.flow;
}

module _ (sort : ItemSort) (key : ℕ) (m : KeptMaps) (change : Seen → Held) (c d : ChainsSeen)
    (puts : Puts sort key change c d) (maps : SitMaps (look_in c) m)
    (sits : Sits (own_role sort m) (look_in c sort key)) where
  given_same : (other : ItemSort) (r : Role) → is_view (made_for r) ≡ false
      → (at : Option SeatKey) → SitsGiven r (look_in c other) at
      → SameAt (look_in c) (look_in d) other at
  given_same other r map None there = tt
  given_same other r map (Some at) there =
      elsewhere_put sort key change c d puts (claim other at.0 r)
      (elsewhere sort other key at.0 m r c map sits there)

  pub maps_same : SameMaps (look_in c) (look_in d) m
  maps_same = record {
    node_filter = given_same sorts.Node claims.Bools refl m.node_filter maps.node_filter;
    arc_filter = given_same sorts.Arc claims.Bools refl m.arc_filter maps.arc_filter;
    cap = given_same sorts.Arc claims.Ints refl m.cap maps.cap;
    flow = given_same sorts.Arc claims.Ints refl m.flow maps.flow;
  }

  pub maps_sit : SitMaps (look_in d) m
  maps_sit = sit_still c d m maps maps_same

-- ---- the walk

module _ {O : Type 0} (watch : O → Watched) (sort : ItemSort) (keys : KeptKeys) (old : AlterOf O)
  where
    abbrev pub marks_then : ℕ → Marks
    marks_then =
        marks_by (present_in (look_in (chains_seen watch old.chains)) keys.maps) sort

    -- the items below the id are placed
    pub record IsPlacingAll (n : ℕ) (a : AlterOf O) : Type 0 where
      pub graph : a.graph ≡ old.graph
      pub then : states.IsInStep (state_of watch a)
      pub puts : Puts sort (own_key sort keys).0 (placed_to marks_then n)
          (chains_seen watch old.chains) (chains_seen watch a.chains)

module _ {O : Type 0} (watch : O → Watched) (sort : ItemSort) (keys : KeptKeys) (old : AlterOf O)
    (in_step : states.IsInStep (state_of watch old))
    (maps : SitMaps (look_in (chains_seen watch old.chains)) keys.maps)
    (sits : Sits (own_role sort keys.maps)
    (look_in (chains_seen watch old.chains) sort (own_key sort keys).0)) where
  abbrev c : ChainsSeen
  c = chains_seen watch old.chains

  abbrev key : ℕ
  key = (own_key sort keys).0

  abbrev m : ℕ → Marks
  m = marks_then watch sort keys old

  abbrev role : Role
  role = own_role sort keys.maps

  pub all_begins : IsPlacingAll watch sort keys old 0 old
  unfolding puts_itself
  all_begins =
      let seat = seat_of role (look_in c sort key) sits in
      let h = holds_marked sort keys.maps seat.0 seat.2 in
      record {
        graph = refl;
        then = in_step;
        puts = puts_as sort key c (λ s. s.held) (placed_to m 0) c
            (puts_itself sort key c seat.0 seat.1)
            (h.kept.is ∙ ap (λ items. held.Kept h.role h.all items) (none_below m h.kept.items)
            ∙ sym (placed_items m 0 seat.0 h));
      }

  module _ (n : ℕ) (a : AlterOf O) (was : IsPlacingAll watch sort keys old n a) where
    abbrev d : ChainsSeen
    d = chains_seen watch a.chains

    abbrev s : Seen
    s = was.puts.was

    plays : Plays role s
    plays = subst (Sits role) was.puts.found sits

    h : HoldsMarked s
    h = holds_marked sort keys.maps s plays

    -- the view's own seat, and those of its maps
    pub own_sits : Sits role (look_in d sort key)
    own_sits =
        subst (Sits role) (sym (seen_put sort key (placed_to m n) c d was.puts))
        (record {
          form = plays.form;
          making = placed_made m n s h ∙ plays.making;
          kind = plays.kind;
        })

    same : SameMaps (look_in c) (look_in d) keys.maps
    same = maps_same sort key keys.maps (placed_to m n) c d was.puts maps sits

    pub maps_there : SitMaps (look_in d) keys.maps
    maps_there = maps_sit sort key keys.maps (placed_to m n) c d was.puts maps sits

    -- what holds of all live items holds of those in the seat
    over_items : (P : ℕ → Type 0)
        → ((fact : Fact) → fact_of old.graph.graph sort fact.id ≡ Some fact → P fact.id)
        → AllOf (λ (x : Marked). P x.fact.id) h.kept.items
    over_items P so =
        let g = old.graph.graph in
        let fits = subst (λ x. HeldFits x (facts g sort)) h.kept.is
        (stands_in watch old in_step sort key s was.puts.found).held in
        map_all (λ (f : Fact). P f.id) fact_in h.kept.items
        (subst (AllOf (λ (f : Fact). P f.id)) (sym fits)
        (all_in (λ (f : Fact). P f.id) (facts g sort)
        (λ f at. so f ((facts_are_whole g sort f in_step.valid).0 at))))

    -- nothing is told of the item
    pub all_passes : fact_of a.graph.graph sort n ≡ None
        → IsPlacingAll watch sort keys old (n + 1) a
    all_passes none =
        let apart = over_items (λ id. id ≡ n → ⊥) (λ f told same.
        none-some f (sym none ∙ ap (λ r. fact_of r.graph sort n) was.graph
        ∙ ap (fact_of old.graph.graph sort) (sym same) ∙ told)) in
        record {
          graph = was.graph;
          then = was.then;
          puts = puts_as sort key c (placed_to m n) (placed_to m (n + 1)) d was.puts
              (placed_items m n s h
              ∙ ap (λ items. held.Kept h.role h.all items) (one_passes m n h.kept.items apart)
              ∙ sym (placed_items m (n + 1) s h));
        }

    -- it was placed
    pub all_steps : (b : AlterOf O)
        → Puts sort key (marked_with n (marks_by (present_in (look_in d) keys.maps) sort n)) d
        (chains_seen watch b.chains)
        → b.graph ≡ a.graph → states.IsInStep (state_of watch b)
        → IsPlacingAll watch sort keys old (n + 1) b
    unfolding puts_again
    all_steps b puts like then =
        let next = marked_with n (marks_by (present_in (look_in d) keys.maps) sort n) in
        let e = chains_seen watch b.chains in
        record {
          graph = like ∙ was.graph;
          then = then;
          puts = puts_as sort key c (λ s. next (holding (placed_to m n s) s))
              (placed_to m (n + 1)) e
              (puts_again sort key c (placed_to m n) next d e was.puts puts)
              (ap (λ v. held.Kept (role_in s) (shows_all s)
              (marked_set n (marks_by v sort n) (placed_below m n (marked_in s))))
              (present_same (look_in c) (look_in d) keys.maps same)
              ∙ ap (λ items. held.Kept (role_in s) (shows_all s) items)
              (one_placed m n (marked_in s)));
        }

    -- all items were met
    pub all_ends : used_of a.graph.graph sort ≤ n → Puts sort key (all_marked m) c d
    all_ends all =
        let used = ap (λ r. used_of r.graph sort) was.graph in
        let below = over_items (λ id. id < n) (λ f told.
        let low = listed_below old.graph.graph sort f.id in_step.valid
        (sym (fact_of-has old.graph.graph sort f.id in_step.valid) ∙ ap is_some told) in
        omega (arith, low, used, all)) in
        puts_as sort key c (placed_to m n) (all_marked m) d was.puts
        (placed_items m n s h
        ∙ ap (λ items. held.Kept h.role h.all items) (all_below m n h.kept.items below)
        ∙ sym (λ i. held.Kept (role_held (h.kept.is i)) (all_held (h.kept.is i))
        (map (λ (x : Marked). with_marks (m x.fact.id) x.fact) (marked_held (h.kept.is i)))))
