-- The seats of a view that is kept came, and all their items were placed.
use Rattle.std.proofs.Common.{◌≡◌, ℕ, [], ◌∷◌, ◌++◌, refl, sym, ap, subst, Option, Some, None}
use Rattle.std.proofs.Common.{◌∙◌}
use Rattle.std.proofs.lemmas.Option.{same_Some}
use Rattle.base_items.specs.declared.items.ItemSort.{ItemSort}
use Rattle.base_items.specs.declared.items.ItemSort.TheVariants as sorts
use Rattle.notify_chain.specs.declared.key.SeatKey.{SeatKey}
use Rattle.observe_core.specs.Seen.{Seen, Watched}
use Rattle.notify_chain.specs.Seats.{find_seat, put_seat}
use Rattle.alter_graph.specs.Attaching.{with_seats}
use Rattle.alter_graph.specs.Chains.{ChainsSeen, chains_seen, seats_in, in_chain}
use Rattle.alter_graph.specs.State.{AlterOf, State, state_of}
use Rattle.kept_views.specs.declared.items.Marks.{Marks}
use Rattle.kept_walks.specs.Present.{Present, can_grow, can_fall}
use Rattle.desk_seats.specs.Contents.{holding, marked_in}
use Rattle.desk_world.specs.declared.tables.KeptKeys.{KeptKeys}
use Rattle.desk_world.specs.declared.tables.KeptMaps.{KeptMaps}
use Rattle.desk_world.specs.Claims as claims
use Rattle.desk_world.specs.Claims.{Role, Plays, Sits, claim}
use Rattle.desk_world.specs.KeptMaps.{present_in}
use Rattle.desk_world.specs.Looks.{look_in}
use Rattle.desk_world.specs.Placing.{SitsGiven, SitMaps, SeatsCome, Keeps, own_role, marks_by}
use Rattle.desk_world.specs.Placing.{all_marked}
use Rattle.desk_world.specs.Seating.{Comes, Puts}
use Rattle.desk_world.proofs.ClaimsCame.{look_comes, look_stays}
use Rattle.desk_world.proofs.FollowedStep.{seat_of}
use Rattle.desk_world.proofs.KeptAgree.{SameAt, SameMaps, present_same}
use Rattle.desk_world.proofs.PlacedAll.{holds_marked, maps_same, maps_sit, placed_made, sit_still}
use Rattle.desk_world.proofs.PlacedItems.{each_marked}
use Rattle.desk_world.proofs.Putting.{elsewhere_put, put_last}

-- a seat comes: all maps show what they showed
module _ (sort : ItemSort) (key : ℕ) (role : Role) (next : Seen) (c d : ChainsSeen)
    (comes : Comes sort key next c d) (plays : Plays role next) where
  given_stays : (other : ItemSort) (r : Role) (at : Option SeatKey)
      → SitsGiven r (look_in c other) at → SameAt (look_in c) (look_in d) other at
  given_stays other r None there = tt
  given_stays other r (Some at) there =
      let seat = seat_of r (look_in c other at.0) there in
      look_stays sort key role [] [] next c d comes plays other at.0 seat.0 seat.1 ∙ sym seat.1

  maps_stay : (m : KeptMaps) → SitMaps (look_in c) m → SameMaps (look_in c) (look_in d) m
  maps_stay m maps = record {
    node_filter = given_stays sorts.Node claims.Bools m.node_filter maps.node_filter;
    arc_filter = given_stays sorts.Arc claims.Bools m.arc_filter maps.arc_filter;
    cap = given_stays sorts.Arc claims.Ints m.cap maps.cap;
    flow = given_stays sorts.Arc claims.Ints m.flow maps.flow;
  }

-- marks are all that is written
still_plays : (sort : ItemSort) (m : KeptMaps) (marks : ℕ → Marks) (s : Seen)
    → Plays (own_role sort m) s → Plays (own_role sort m) (holding (all_marked marks s) s)
still_plays sort m marks s plays = record {
  form = plays.form;
  making = placed_made marks 0 s (holds_marked sort m s plays) ∙ plays.making;
  kind = plays.kind;
}

module _ {O : Type 0} (watch : O → Watched) (m : KeptMaps) (keys : KeptKeys) (nodes arcs : Seen)
    (old : State) (b : AlterOf O) (came : SeatsCome m keys nodes arcs old (state_of watch b))
    (maps : SitMaps (look_in old.chains) m) where
  abbrev c : ChainsSeen
  c = old.chains

  abbrev d : ChainsSeen
  d = chains_seen watch b.chains

  same_mid : SameMaps (look_in c) (look_in came.mid) m
  same_mid =
      maps_stay sorts.Node keys.nodes.0 (own_role sorts.Node m) nodes c came.mid came.first
      came.nodes_play m maps

  maps_mid : SitMaps (look_in came.mid) m
  maps_mid = sit_still c came.mid m maps same_mid

  same_new : SameMaps (look_in came.mid) (look_in d) m
  same_new =
      maps_stay sorts.Arc keys.arcs.0 (own_role sorts.Arc m) arcs came.mid d came.second
      came.arcs_play m maps_mid

  pub maps_come : SitMaps (look_in d) keys.maps
  maps_come =
      subst (SitMaps (look_in d)) (sym came.maps) (sit_still came.mid d m maps_mid same_new)

  nodes_found : look_in d sorts.Node keys.nodes.0 ≡ Some nodes
  nodes_found =
      look_stays sorts.Arc keys.arcs.0 (own_role sorts.Arc m) [] [] arcs came.mid d came.second
      came.arcs_play sorts.Node keys.nodes.0 nodes
      (look_comes sorts.Node keys.nodes.0 (own_role sorts.Node m) [] [] nodes c came.mid
      came.first came.nodes_play)

  arcs_found : look_in d sorts.Arc keys.arcs.0 ≡ Some arcs
  arcs_found =
      look_comes sorts.Arc keys.arcs.0 (own_role sorts.Arc m) [] [] arcs came.mid d came.second
      came.arcs_play

  pub nodes_sit : Sits (own_role sorts.Node keys.maps) (look_in d sorts.Node keys.nodes.0)
  nodes_sit =
      subst (λ k. Sits (own_role sorts.Node k) (look_in d sorts.Node keys.nodes.0))
      (sym came.maps) (subst (Sits (own_role sorts.Node m)) (sym nodes_found) came.nodes_play)

  -- the nodes were placed
  module _ (e : AlterOf O)
      (first : Puts sorts.Node keys.nodes.0
      (all_marked (marks_by (present_in (look_in d) keys.maps) sorts.Node)) d
      (chains_seen watch e.chains)) where
    abbrev f : ChainsSeen
    f = chains_seen watch e.chains

    abbrev nodes_change : ℕ → Marks
    nodes_change = marks_by (present_in (look_in d) keys.maps) sorts.Node

    pub maps_next : SitMaps (look_in f) keys.maps
    maps_next =
        maps_sit sorts.Node keys.nodes.0 keys.maps (all_marked nodes_change) d f first maps_come
        nodes_sit

    arcs_stay : look_in f sorts.Arc keys.arcs.0 ≡ look_in d sorts.Arc keys.arcs.0
    arcs_stay =
        elsewhere_put sorts.Node keys.nodes.0 (all_marked nodes_change) d f first
        (claim sorts.Arc keys.arcs.0 (own_role sorts.Arc m)) refl

    pub arcs_sit : Sits (own_role sorts.Arc keys.maps) (look_in f sorts.Arc keys.arcs.0)
    arcs_sit =
        subst (λ k. Sits (own_role sorts.Arc k) (look_in f sorts.Arc keys.arcs.0))
        (sym came.maps)
        (subst (Sits (own_role sorts.Arc m)) (sym (arcs_stay ∙ arcs_found)) came.arcs_play)

    -- and then the arcs
    module _ (h : AlterOf O)
        (second : Puts sorts.Arc keys.arcs.0
        (all_marked (marks_by (present_in (look_in f) keys.maps) sorts.Arc)) f
        (chains_seen watch h.chains))
        (then_graph : h.graph ≡ e.graph) (first_graph : e.graph ≡ b.graph) where
      abbrev v : Present
      v = present_in (look_in c) m

      present_come : present_in (look_in d) keys.maps ≡ v
      present_come =
          ap (present_in (look_in d)) came.maps
          ∙ present_same (look_in came.mid) (look_in d) m same_new
          ∙ present_same (look_in c) (look_in came.mid) m same_mid

      present_next : present_in (look_in f) keys.maps ≡ v
      present_next =
          present_same (look_in d) (look_in f) keys.maps
          (maps_same sorts.Node keys.nodes.0 keys.maps (all_marked nodes_change) d f first
          maps_come nodes_sit)
          ∙ present_come

      nodes_were : first.was ≡ nodes
      nodes_were = same_Some first.was nodes (sym first.found ∙ nodes_found)

      arcs_were : second.was ≡ arcs
      arcs_were = same_Some second.was arcs (sym second.found ∙ arcs_stay ∙ arcs_found)

      arcs_new : find_seat keys.arcs.0 c.arcs.seats ≡ None
      arcs_new =
          subst (λ (x : ChainsSeen). find_seat keys.arcs.0 x.arcs.seats ≡ None) came.first.is
          came.second.is_new

      nodes_last : put_seat first.seat (c.nodes.seats ++ came.first.seat ∷ [])
          ≡ c.nodes.seats ++ first.seat ∷ []
      nodes_last =
          put_last came.first.seat first.seat c.nodes.seats
          (ap (λ k. find_seat k c.nodes.seats) first.name ∙ came.first.is_new)
          (came.first.name ∙ sym first.name)

      arcs_last : put_seat second.seat (c.arcs.seats ++ came.second.seat ∷ [])
          ≡ c.arcs.seats ++ second.seat ∷ []
      arcs_last =
          put_last came.second.seat second.seat c.arcs.seats
          (ap (λ k. find_seat k c.arcs.seats) second.name ∙ arcs_new)
          (came.second.name ∙ sym second.name)

      abbrev mid : ChainsSeen
      mid = in_chain sorts.Node (with_seats (c.nodes.seats ++ first.seat ∷ [])) c

      all_come : chains_seen watch h.chains
          ≡ in_chain sorts.Arc (with_seats (seats_in sorts.Arc mid ++ second.seat ∷ [])) mid
      all_come =
          second.is
          ∙ ap (λ (x : ChainsSeen).
          in_chain sorts.Arc (with_seats (put_seat second.seat x.arcs.seats)) x)
          (first.is
          ∙ ap (λ (x : ChainsSeen).
          in_chain sorts.Node (with_seats (put_seat first.seat x.nodes.seats)) x)
          (came.second.is
          ∙ ap (λ (x : ChainsSeen).
          in_chain sorts.Arc (with_seats (x.arcs.seats ++ came.second.seat ∷ [])) x)
          came.first.is))
          ∙ (λ i. record {
            nodes = with_seats (nodes_last i) c.nodes;
            arcs = with_seats (arcs_last i) c.arcs;
            snaps = c.snaps;
          })

      pub all_kept : Keeps m keys old (state_of watch h)
      all_kept = record {
        nodes = holding (all_marked (marks_by v sorts.Node) nodes) nodes;
        arcs = holding (all_marked (marks_by v sorts.Arc) arcs) arcs;
        came = record {
          maps = came.maps;
          mid = mid;
          graph = ap (λ r. r.graph) (then_graph ∙ first_graph) ∙ came.graph;
          first = record {
            seat = first.seat;
            name = first.name;
            seen = first.seen
                ∙ (λ i. holding (all_marked (marks_by (present_come i) sorts.Node) (nodes_were i))
                (nodes_were i));
            is_new = came.first.is_new;
            is = refl;
          };
          second = record {
            seat = second.seat;
            name = second.name;
            seen = second.seen
                ∙ (λ i. holding (all_marked (marks_by (present_next i) sorts.Arc) (arcs_were i))
                (arcs_were i));
            is_new = arcs_new;
            is = all_come;
          };
          nodes_play = still_plays sorts.Node m (marks_by v sorts.Node) nodes came.nodes_play;
          arcs_play = still_plays sorts.Arc m (marks_by v sorts.Arc) arcs came.arcs_play;
        };
        placed = record {
          filtered = record {
            nodes = each_marked (λ x. x.shown) v.keeps_node (marks_by v sorts.Node) (λ id. refl)
                (marked_in nodes);
            arcs = each_marked (λ x. x.shown) v.keeps_arc (marks_by v sorts.Arc) (λ id. refl)
                (marked_in arcs);
          };
          roomy = record {
            forward = each_marked (λ x. x.forward) (can_grow v.cap v.flow)
                (marks_by v sorts.Arc) (λ id. refl) (marked_in arcs);
            backward = each_marked (λ x. x.backward) (can_fall v.flow) (marks_by v sorts.Arc)
                (λ id. refl) (marked_in arcs);
          };
        };
      }
