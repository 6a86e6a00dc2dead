-- Seats for the labels and the ties of both sorts, and no others.
use Rattle.std.proofs.Common.{◌≡◌, ℕ, Bool, true, false, cond, List, [], ◌∷◌, ◌++◌, Option, Some}
use Rattle.std.proofs.Common.{None, not}
use Rattle.std.proofs.Common.{refl, sym, ap, ◌∙◌, subst}
use Rattle.std.specs.Prelude.{◌==◌, ◌||◌}
use Rattle.std.proofs.lemmas.Bool.{eq-eqb, eqb-true, or_left, or_right, true≢false}
use Rattle.base_items.specs.declared.items.ItemSort.{ItemSort}
use Rattle.base_items.specs.declared.items.ItemSort.TheVariants.{Node, Arc}
use Rattle.plain_digraph.specs.Lists.{AllOf}
use Rattle.plain_digraph.specs.Items.{facts}
use Rattle.observe_core.specs.Seen.{Seen, Watched}
use Rattle.observe_core.specs.Told.{built}
use Rattle.observe_core.specs.Untold.{TracksNothing}
use Rattle.notify_chain.specs.Seats.{SeatSeen, find_seat}
use Rattle.alter_graph.specs.Chains.{ChainsSeen, no_chains, chain_in, seats_in, in_chain}
use Rattle.alter_graph.specs.State.{State}
use Rattle.alter_graph.specs.Attaching.{Attaches, HasNoCounts, with_seats}
use Rattle.desk_world.specs.Claims.{Claim, claim, Role, Labels, Ties, Plays, Sits}
use Rattle.desk_world.specs.Claims.{is_claimed, is_map}
use Rattle.desk_world.specs.Founding.{new_labels, new_ties}
use Rattle.desk_world.specs.InStep.{AreSeated, Differ, keys_in, guards_seated, guards_claimed}
use Rattle.desk_world.specs.Looks.{look_in, seen_at}
use Rattle.desk_world.proofs.GuardOrder.{guards_among, seat_first}

-- ---- seats that were told nothing

pub labels_untold : (s : Seen) → s ≡ new_labels → TracksNothing s × HasNoCounts s
labels_untold s is =
    subst (λ t. TracksNothing t × HasNoCounts t) (sym is)
    (refl, record { added = refl; erased = refl; moved = refl })

pub ties_untold : (s : Seen) → s ≡ new_ties → TracksNothing s × HasNoCounts s
ties_untold s is =
    subst (λ t. TracksNothing t × HasNoCounts t) (sym is)
    (refl, record { added = refl; erased = refl; moved = refl })

-- ---- chains that seats were put to

abbrev seated_more : ItemSort → SeatSeen → ChainsSeen → ChainsSeen
seated_more sort t c = in_chain sort (with_seats (seats_in sort c ++ t ∷ [])) c

came : (sort : ItemSort) (key : ℕ) (o : Watched) (old new : State) (c : ChainsSeen)
    (a : Attaches sort key o old new) → old.chains ≡ c
    → new.chains ≡ seated_more sort a.seat.seat c
came sort key o old new c a is =
    a.rest ∙ ap (λ ss. in_chain sort (with_seats ss) old.chains) a.seat.last
    ∙ ap (seated_more sort a.seat.seat) is

-- a key under which nothing is found isn't that of the one seat
not_found : (t : SeatSeen) (key : ℕ) → find_seat key (t ∷ []) ≡ None → (t.key == key) ≡ false
not_found t key none = by_test (t.key == key) none
  where
    by_test : (b : Bool) → cond b (Some t) None ≡ None → b ≡ false
    by_test true e = absurd (cc)
    by_test false e = refl

-- ---- two seats of each sort

abbrev four_seats : (a b c d : SeatSeen) → ChainsSeen
four_seats a b c d = record {
  nodes = record { seats = a ∷ b ∷ []; left = [] };
  arcs = record { seats = c ∷ d ∷ []; left = [] };
  snaps = [];
}

abbrev pub four_claims : (a b c d : ℕ) → List Claim
four_claims a b c d =
    claim Node a Labels ∷ claim Node b Ties ∷ claim Arc c Labels ∷ claim Arc d Ties ∷ []

-- the seats were put one after the other, and play their roles
pub record AreFounded (a b c d : ℕ) (x y z u : Seen) (chains : ChainsSeen) : Type 0 where
  pub node_labels : SeatSeen
  pub node_ties : SeatSeen
  pub arc_labels : SeatSeen
  pub arc_ties : SeatSeen
  pub chains_are : chains ≡ four_seats node_labels node_ties arc_labels arc_ties
  pub node_labels_are : node_labels.seen ≡ x
  pub node_ties_are : node_ties.seen ≡ y
  pub arc_labels_are : arc_labels.seen ≡ z
  pub arc_ties_are : arc_ties.seen ≡ u
  pub first : node_labels.key ≡ a
  pub second : node_ties.key ≡ b
  pub third : arc_labels.key ≡ c
  pub fourth : arc_ties.key ≡ d
  pub nodes_differ : (a == b) ≡ false
  pub arcs_differ : (c == d) ≡ false

pub founded : (a b c d : ℕ) (o p q r : Watched) (s0 s1 s2 s3 s4 : State) → s0.chains ≡ no_chains
    → Attaches Node a o s0 s1 → Attaches Node b p s1 s2 → Attaches Arc c q s2 s3
    → Attaches Arc d r s3 s4
    → AreFounded a b c d (built (facts s0.graph Node) o.seen) (built (facts s1.graph Node) p.seen)
    (built (facts s2.graph Arc) q.seen) (built (facts s3.graph Arc) r.seen) s4.chains
founded a b c d o p q r s0 s1 s2 s3 s4 none one two three four =
    let first = came Node a o s0 s1 no_chains one none in
    let second = came Node b p s1 s2 (seated_more Node one.seat.seat no_chains) two first in
    let third = came Arc c q s2 s3
    (seated_more Node two.seat.seat (seated_more Node one.seat.seat no_chains)) three second in
    let fourth = came Arc d r s3 s4 (seated_more Arc three.seat.seat
    (seated_more Node two.seat.seat (seated_more Node one.seat.seat no_chains))) four third in
    let free : find_seat b (one.seat.seat ∷ []) ≡ None =
    ap (λ x. find_seat b (seats_in Node x)) (sym first) ∙ two.seat.is_new in
    let free_arc : find_seat d (three.seat.seat ∷ []) ≡ None =
    ap (λ x. find_seat d (seats_in Arc x)) (sym third) ∙ four.seat.is_new in
    record {
      node_labels = one.seat.seat;
      node_ties = two.seat.seat;
      arc_labels = three.seat.seat;
      arc_ties = four.seat.seat;
      chains_are = fourth;
      node_labels_are = one.seat.seen;
      node_ties_are = two.seat.seen;
      arc_labels_are = three.seat.seen;
      arc_ties_are = four.seat.seen;
      first = one.seat.name;
      second = two.seat.name;
      third = three.seat.name;
      fourth = four.seat.name;
      nodes_differ = ap (λ key. key == b) (sym one.seat.name)
          ∙ not_found one.seat.seat b free;
      arcs_differ = ap (λ key. key == d) (sym three.seat.name)
          ∙ not_found three.seat.seat d free_arc;
    }

-- ---- what is seen there

module _ (a b c d : ℕ) (x y z u : Seen) (chains : ChainsSeen)
    (are : AreFounded a b c d x y z u chains) where
  abbrev Here : ChainsSeen
  Here = four_seats are.node_labels are.node_ties are.arc_labels are.arc_ties

  in_first : (x y : SeatSeen) (key : ℕ) → x.key ≡ key
      → seen_at key (x ∷ y ∷ []) ≡ Some x.seen
  in_first x y key is =
      ap (λ t. cond t (Some x.seen) (seen_at key (y ∷ []))) (eq-eqb x.key key is)

  in_second : (x y : SeatSeen) (other key : ℕ) → x.key ≡ other → y.key ≡ key
      → (other == key) ≡ false → seen_at key (x ∷ y ∷ []) ≡ Some y.seen
  in_second x y other key was is apart =
      ap (λ t. cond t (Some x.seen) (seen_at key (y ∷ [])))
      (ap (λ k. k == key) was ∙ apart)
      ∙ ap (λ t. cond t (Some y.seen) None) (eq-eqb y.key key is)

  pub node_labels_seen : look_in chains Node a ≡ Some are.node_labels.seen
  node_labels_seen =
      ap (λ x. look_in x Node a) are.chains_are
      ∙ in_first are.node_labels are.node_ties a are.first

  pub node_ties_seen : look_in chains Node b ≡ Some are.node_ties.seen
  node_ties_seen =
      ap (λ x. look_in x Node b) are.chains_are
      ∙ in_second are.node_labels are.node_ties a b are.first are.second are.nodes_differ

  pub arc_labels_seen : look_in chains Arc c ≡ Some are.arc_labels.seen
  arc_labels_seen =
      ap (λ x. look_in x Arc c) are.chains_are
      ∙ in_first are.arc_labels are.arc_ties c are.third

  pub arc_ties_seen : look_in chains Arc d ≡ Some are.arc_ties.seen
  arc_ties_seen =
      ap (λ x. look_in x Arc d) are.chains_are
      ∙ in_second are.arc_labels are.arc_ties c d are.third are.fourth are.arcs_differ

  other_way : (m n : ℕ) → (m == n) ≡ false → (n == m) ≡ false
  other_way m n apart = by_test (n == m) refl
    where
      by_test : (t : Bool) → (n == m) ≡ t → t ≡ false
      by_test false e = refl
      by_test true e =
          absurd (true≢false (sym (eq-eqb m n (sym (eqb-true n m e))) ∙ apart))

  plays : (role : Role) (o : Option Seen) (s : Seen) → o ≡ Some s → Plays role s → Sits role o
  plays role o s is p = subst (Sits role) (sym is) p

  claimed : (m n : ℕ) (t : Bool) → m ≡ n → ((m == n) || t) ≡ true
  claimed m n t is = or_left (m == n) t (eq-eqb m n is)

  pub four_seated : Plays Labels are.node_labels.seen → Plays Ties are.node_ties.seen
      → Plays Labels are.arc_labels.seen → Plays Ties are.arc_ties.seen
      → AreSeated (four_claims a b c d) chains
  four_seated one two three four = record {
    there = (
      plays Labels (look_in chains Node a) are.node_labels.seen node_labels_seen one,
      (
        plays Ties (look_in chains Node b) are.node_ties.seen node_ties_seen two,
        (
          plays Labels (look_in chains Arc c) are.arc_labels.seen arc_labels_seen three,
          (plays Ties (look_in chains Arc d) are.arc_ties.seen arc_ties_seen four, tt),
        ),
      ),
    );
    no_other = none_other;
    claims_differ = (
      ap (λ t. t || false) (other_way a b are.nodes_differ),
      (refl, (ap (λ t. t || false) (other_way c d are.arcs_differ), (refl, tt))),
    );
    keys_differ = differ;
    in_order = order;
    none_left = left;
  }
    where
      left : (sort : ItemSort) → (chain_in sort chains).left ≡ []
      left Node = ap (λ x. x.nodes.left) are.chains_are
      left Arc = ap (λ x. x.arcs.left) are.chains_are

      two_maps : (x y : SeatSeen) → is_map x.seen.kind ≡ true → is_map y.seen.kind ≡ true
          → guards_among (x ∷ y ∷ []) ≡ []
      two_maps x y first second =
          seat_first x (y ∷ [])
          ∙ ap (λ b. cond (not b) (x.key ∷ guards_among (y ∷ [])) (guards_among (y ∷ []))) first
          ∙ seat_first y [] ∙ ap (λ b. cond (not b) (y.key ∷ []) []) second

      order : (sort : ItemSort)
          → guards_seated sort chains ≡ guards_claimed sort (four_claims a b c d)
      order Node =
          ap (guards_seated Node) are.chains_are
          ∙ two_maps are.node_labels are.node_ties one.kind two.kind
      order Arc =
          ap (guards_seated Arc) are.chains_are
          ∙ two_maps are.arc_labels are.arc_ties three.kind four.kind

      none_other : (sort : ItemSort)
          → AllOf (λ key. is_claimed (four_claims a b c d) sort key ≡ true) (keys_in sort chains)
      none_other Node = subst
          (λ x. AllOf (λ key. is_claimed (four_claims a b c d) Node key ≡ true) (keys_in Node x))
          (sym are.chains_are) (
            claimed a are.node_labels.key _ (sym are.first),
            (
              or_right (a == are.node_ties.key) _
                  (claimed b are.node_ties.key _ (sym are.second)),
              tt,
            ),
          )
      none_other Arc = subst
          (λ x. AllOf (λ key. is_claimed (four_claims a b c d) Arc key ≡ true) (keys_in Arc x))
          (sym are.chains_are) (
            claimed c are.arc_labels.key _ (sym are.third),
            (
              or_right (c == are.arc_ties.key) _
                  (claimed d are.arc_ties.key _ (sym are.fourth)),
              tt,
            ),
          )

      two_differ : (x y : SeatSeen) (m n : ℕ) → x.key ≡ m → y.key ≡ n → (m == n) ≡ false
          → Differ (x.key ∷ y.key ∷ [])
      two_differ x y m n first second apart = (
        ap (λ t. t || false)
            ((λ i. second i == first i) ∙ other_way m n apart),
        (refl, tt),
      )

      differ : (sort : ItemSort) → Differ (keys_in sort chains)
      differ Node = subst (λ x. Differ (keys_in Node x)) (sym are.chains_are)
          (two_differ are.node_labels are.node_ties a b are.first are.second are.nodes_differ)
      differ Arc = subst (λ x. Differ (keys_in Arc x)) (sym are.chains_are)
          (two_differ are.arc_labels are.arc_ties c d are.third are.fourth are.arcs_differ)
