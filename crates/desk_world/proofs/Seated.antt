-- What the seats of a world are known to be.
use Rattle.std.proofs.Common.{◌≡◌, ℕ, List, [], ◌∷◌, ◌++◌, map, sym, ap}
use Rattle.std.proofs.Common.{subst}
use Rattle.std.proofs.Common.{Option, Some, None, ◌∙◌}
use Rattle.std.specs.Prelude.{option_map}
use Rattle.std.specs.List.{flat_map}
use Rattle.base_items.specs.declared.items.ItemSort.{ItemSort}
use Rattle.base_items.specs.declared.items.ItemSort.TheVariants as sorts
use Rattle.plain_digraph.specs.Lists.{AllOf}
use Rattle.observe_core.specs.Seen.{Seen, Watched}
use Rattle.notify_chain.specs.Seats.{find_seat, seat_seen}
use Rattle.alter_graph.specs.Chains.{ChainsSeen, seats_in}
use Rattle.plain_world.specs.Tables.{Named}
use Rattle.desk_world.specs.declared.tables.MapRow.{MapRow}
use Rattle.desk_world.specs.declared.world.World.{World}
use Rattle.desk_world.specs.Claims as claims
use Rattle.desk_world.specs.Claims.{Claim, Plays, Sits, claims_of, map_claim, role_of}
use Rattle.desk_world.specs.Claims.{guard_claim, snap_claims, view_claims}
use Rattle.desk_world.specs.InStep.{AreSeated}
use Rattle.desk_world.specs.Looks.{look_in}
use Rattle.desk_world.specs.Plain.{seat_sort, tables_of}
use Rattle.desk_world.proofs.Looks.{seen_found}

-- ---- facts of all items of a list

pub all_left : {X : Type 0} (P : X → Type 0) (xs ys : List X) → AllOf P (xs ++ ys) → AllOf P xs
all_left P [] ys h = tt
all_left P (x ∷ xs) ys h = (h.0, all_left P xs ys h.1)

pub all_right : {X : Type 0} (P : X → Type 0) (xs ys : List X) → AllOf P (xs ++ ys) → AllOf P ys
all_right P [] ys h = h
all_right P (x ∷ xs) ys h = all_right P xs ys h.1

pub all_both : {X : Type 0} (P : X → Type 0) (xs ys : List X) → AllOf P xs → AllOf P ys
    → AllOf P (xs ++ ys)
all_both P [] ys a b = b
all_both P (x ∷ xs) ys a b = (a.0, all_both P xs ys a.1 b)

pub all_so : {X : Type 0} (P Q : X → Type 0) → ((x : X) → P x → Q x) → (xs : List X) → AllOf P xs
    → AllOf Q xs
all_so P Q so [] all = tt
all_so P Q so (x ∷ xs) all = (so x all.0, all_so P Q so xs all.1)

pub all_and : {X : Type 0} (P Q : X → Type 0) (xs : List X) → AllOf P xs → AllOf Q xs
    → AllOf (λ x. P x × Q x) xs
all_and P Q [] p q = tt
all_and P Q (x ∷ xs) p q = ((p.0, q.0), all_and P Q xs p.1 q.1)

-- ---- the claims of a world

-- those of guards and snapshots
abbrev pub last_of : {O : Type 0} → World O → List Claim
last_of w = map guard_claim w.guards.rows ++ flat_map snap_claims w.snapshots.rows

-- all but those of labels, ties and maps
abbrev pub behind_maps : {O : Type 0} → World O → List Claim
behind_maps w = flat_map view_claims w.views.rows ++ last_of w

abbrev pub SitsIn : ChainsSeen → Claim → Type 0
SitsIn c x = Sits x.role (look_in c x.sort x.key)

rows_of_claims : (c : ChainsSeen) (sort : ItemSort) (table : List (Named MapRow))
    → AllOf (SitsIn c) (map (map_claim sort) table)
    → AllOf (λ e. Sits (role_of e.value.kind)
    (look_in c (seat_sort sort e.value.kind) e.value.key.0))
    table
rows_of_claims c sort [] all = tt
rows_of_claims c sort (e ∷ es) all = (all.0, rows_of_claims c sort es all.1)

module _ {O : Type 0} (w : World O) (c : ChainsSeen) (seated : AreSeated (claims_of w) c) where
  pub labels_sit : (sort : ItemSort) → Sits claims.Labels
      (look_in c sort (tables_of w sort).labels.0)
  labels_sit sorts.Node = seated.there.0
  labels_sit sorts.Arc = seated.there.1.1.0

  pub ties_sit : (sort : ItemSort) → Sits claims.Ties (look_in c sort (tables_of w sort).ties.0)
  ties_sit sorts.Node = seated.there.1.0
  ties_sit sorts.Arc = seated.there.1.1.1.0

  abbrev node_claims : List Claim
  node_claims = map (map_claim sorts.Node) w.nodes.maps.rows

  abbrev arc_claims : List Claim
  arc_claims = map (map_claim sorts.Arc) w.arcs.maps.rows

  abbrev rest_claims : List Claim
  rest_claims = behind_maps w

  abbrev SitRows : ItemSort → Type 0
  SitRows sort = AllOf
      (λ e. Sits (role_of e.value.kind) (look_in c (seat_sort sort e.value.kind) e.value.key.0))
      (tables_of w sort).maps.rows

  pub maps_sit : (sort : ItemSort) → SitRows sort
  maps_sit sorts.Node =
      rows_of_claims c sorts.Node w.nodes.maps.rows
      (all_left (SitsIn c) node_claims (arc_claims ++ rest_claims) seated.there.1.1.1.1)
  maps_sit sorts.Arc =
      rows_of_claims c sorts.Arc w.arcs.maps.rows
      (all_left (SitsIn c) arc_claims rest_claims
      (all_right (SitsIn c) node_claims (arc_claims ++ rest_claims) seated.there.1.1.1.1))

behind_claims : {O : Type 0} (P : Claim → Type 0) (w : World O) → AllOf P (claims_of w)
    → AllOf P (behind_maps w)
behind_claims P w all =
    all_right P (map (map_claim sorts.Arc) w.arcs.maps.rows) (behind_maps w)
    (all_right P (map (map_claim sorts.Node) w.nodes.maps.rows)
    (map (map_claim sorts.Arc) w.arcs.maps.rows ++ behind_maps w) all.1.1.1.1)

-- the seats of kept views
pub view_seats : {O : Type 0} (P : Claim → Type 0) (w : World O) → AllOf P (claims_of w)
    → AllOf P (flat_map view_claims w.views.rows)
view_seats P w all =
    all_left P (flat_map view_claims w.views.rows) (last_of w) (behind_claims P w all)

-- the halves of snapshots are claimed last
pub last_claims : {O : Type 0} (P : Claim → Type 0) (w : World O) → AllOf P (claims_of w)
    → AllOf P (flat_map snap_claims w.snapshots.rows)
last_claims P w all =
    all_right P (map guard_claim w.guards.rows) (flat_map snap_claims w.snapshots.rows)
    (all_right P (flat_map view_claims w.views.rows) (last_of w) (behind_claims P w all))

-- a role that is there is played by what is seen
pub plays_seen : (role : claims.Role) (o : Option Seen) (s : Seen) → o ≡ Some s → Sits role o
    → Plays role s
plays_seen role o s is sits = subst (Sits role) is sits

-- a role that is there is no empty seat
pub no_empty_seat : (role : claims.Role) (o : Option Seen) → o ≡ None → Sits role o → ⊥
no_empty_seat role o is sits = subst (Sits role) is sits

module _ {O : Type 0} (watch : O → Watched) where
  -- what a look-up of a seat gave is what is seen there
  pub seen_there : (c : ChainsSeen) (sort : ItemSort) (key : ℕ) (o : O)
      → seat_seen watch key (Some o) ≡ find_seat key (seats_in sort c)
      → look_in c sort key ≡ Some (watch o).seen
  seen_there c sort key o found =
      sym (seen_found key (seats_in sort c)) ∙ sym (ap (option_map (λ s. s.seen)) found)

  pub none_there : (c : ChainsSeen) (sort : ItemSort) (key : ℕ)
      → None ≡ find_seat key (seats_in sort c) → look_in c sort key ≡ None
  none_there c sort key found =
      sym (seen_found key (seats_in sort c)) ∙ sym (ap (option_map (λ s. s.seen)) found)
