-- What a kept view shows is what its layers show of the present base and maps.
use Rattle.std.proofs.Common.{◌≡◌, ℕ, Bool, true, false, cond, List, [], ◌∷◌, ◌++◌, refl, sym}
use Rattle.std.proofs.Common.{ap, ◌∙◌, subst, Option, Some, None, is_some}
use Rattle.std.specs.Prelude.{option_map, find, IfSome, pos}
use Rattle.std.specs.List.{flat_map}
use Rattle.std.specs.Option.{option_map_or}
use Rattle.std.specs.Str.{bytes_eq}
use Rattle.std.proofs.lemmas.Option.{none-some, same_Some}
use Rattle.std.proofs.lemmas.Slice.Eq.{bytes_eq-Decides}
use Rattle.base_items.specs.declared.items.Fact.{Fact}
use Rattle.base_items.specs.declared.items.ItemSort.{ItemSort}
use Rattle.base_items.specs.declared.items.ItemSort.TheVariants.{Node, Arc}
use Rattle.plain_digraph.specs.Digraph.{Digraph}
use Rattle.plain_digraph.specs.Items.{facts}
use Rattle.plain_digraph.specs.Lists.{AllOf}
use Rattle.observe_core.specs.declared.kinds.KeptShape.{KeptShape}
use Rattle.observe_core.specs.declared.kinds.KeptShape.TheVariants as shapes
use Rattle.observe_core.specs.Fits.{HeldFits}
use Rattle.observe_core.specs.Held as held
use Rattle.observe_core.specs.Held.{Held, Nothing, Values, Degree, Half, Kept, Ties, Marked}
use Rattle.observe_core.specs.Held.{KeptRole, KeptNodes, KeptArcs, making_of}
use Rattle.notify_chain.specs.declared.key.SeatKey.{SeatKey}
use Rattle.notify_chain.specs.Seats.{find_seat, seat_seen}
use Rattle.observe_core.specs.Seen.{Seen, Watched, facts_of_marked}
use Rattle.alter_graph.specs.Chains.{ChainsSeen, chains_seen, seats_in}
use Rattle.plain_views.specs.Adaptors.{sub, residual}
use Rattle.plain_views.specs.Shown.{base_shown}
use Rattle.plain_views.specs.Towers as towers
use Rattle.plain_world.specs.Demands as demands
use Rattle.plain_world.specs.Demands.{is_there}
use Rattle.plain_world.specs.Tables.{Name, Named, is_named, entry}
use Rattle.plain_world.specs.Values.{int_at, bool_at}
use Rattle.plain_world.specs.Views.{map_of, values_of, shown_by}
use Rattle.plain_world.specs.World as plain
use Rattle.kept_walks.specs.Laws.{AreOf}
use Rattle.kept_walks.specs.Present.{Present, layered, ArePlaced, items_in}
use Rattle.kept_walks.specs.Stored.{kept, HasEnds}
use Rattle.kept_walks.proofs.Ends.{ends_held}
use Rattle.kept_walks.proofs.Layered.{follows}
use Rattle.desk_seats.specs.Contents.{marked_held, role_held}
use Rattle.desk_world.specs.declared.tables.KeptKeys.{KeptKeys}
use Rattle.desk_world.specs.declared.tables.KeptMaps.{KeptMaps}
use Rattle.desk_world.specs.declared.tables.MapKind.TheVariants as maps
use Rattle.desk_world.specs.declared.tables.ViewRow.{ViewRow}
use Rattle.desk_world.specs.declared.world.World.{World}
use Rattle.desk_world.specs.Claims.{Plays, Sits, Role, made_for, kept_claims, view_claims}
use Rattle.desk_world.specs.Columns.{ints_of, bools_of}
use Rattle.desk_world.specs.InStep.{AreInStep}
use Rattle.desk_world.specs.KeptMaps.{KeptLayers, OneSub, OneResidual, Both, layers_in, shape_in}
use Rattle.desk_world.specs.KeptMaps.{AreSeatsOf, IsSeatOf, AreMapsOf, ReadsMaps}
use Rattle.desk_world.specs.KeptMaps.{bool_seen, int_seen, passes, amount, present_in}
use Rattle.desk_world.specs.KeptViews.{items_at, AreMarkedBy, IsPlaced, views_of}
use Rattle.desk_world.specs.Looks.{Look, look_in}
use Rattle.desk_world.specs.Placing.{own_role}
use Rattle.desk_world.specs.Plain.{plain_of, look_of, tables_of, seat_sort, held_by, view_of}
use Rattle.desk_world.proofs.GuardsFound.{seat_fits}
use Rattle.desk_world.proofs.MapsFound.{map_found}
use Rattle.desk_world.proofs.Seated.{SitsIn, view_seats, plays_seen, no_empty_seat}
use Rattle.desk_world.proofs.Seated.{seen_there, none_there}
use Rattle.desk_world.proofs.ViewRows.{entry_as}

-- ---- tables

-- what holds of all names and values holds of what stands under a name
pub of_named : {X : Type 0} (P : Name → X → Type 0) (table : List (Named X)) (name : Name) (x : X)
    → AllOf (λ (e : Named X). P e.name e.value) table → entry table name ≡ Some x → P name x
of_named P [] name x all found = absurd (none-some x found)
of_named {X} P (e ∷ es) name x all found =
    elim (bytes_eq e.name name) as (λ b. bytes_eq e.name name ≡ b
    → option_map (λ (f : Named X). f.value) (cond b (Some e) (find (is_named name) es)) ≡ Some x
    → P name x) [
      | true ↦ λ so is.
          let same = (bytes_eq-Decides e.name name).0 so in
          let value = same_Some e.value x is in
          subst (λ n. P n x) same (subst (P e.name) value all.0)
      | false ↦ λ so is. of_named P es name x all.1 is
    ] refl found

-- ---- the seats of kept views

-- both sit in their seats
pub record SeatsSit (look : Look) (keys : KeptKeys) : Type 0 where
  pub nodes : Sits (own_role Node keys.maps) (look Node keys.nodes.0)
  pub arcs : Sits (own_role Arc keys.maps) (look Arc keys.arcs.0)

pub kept_sit : (c : ChainsSeen) (rows : List (Named ViewRow))
    → AllOf (SitsIn c) (flat_map view_claims rows)
    → AllOf (λ (e : Named ViewRow). IfSome e.value.kept (SeatsSit (look_in c))) rows
kept_sit c [] all = tt
kept_sit c (e ∷ es) all =
    let parts = by e.value.kept all in
    (parts.0, kept_sit c es parts.1)
  where
    by : (o : Option KeptKeys)
        → AllOf (SitsIn c) (option_map_or kept_claims o [] ++ flat_map view_claims es)
        → IfSome o (SeatsSit (look_in c)) × AllOf (SitsIn c) (flat_map view_claims es)
    by None rest = (tt, rest)
    by (Some keys) rest = (record { nodes = rest.0; arcs = rest.1.0 }, rest.1.1)

-- ---- what they hold

pub items_are : (h : Held) → marked_held h ≡ items_in h
items_are Nothing = refl
items_are (Values t es) = refl
items_are (Degree out ends) = refl
items_are (Half added others kept valid) = refl
items_are (Kept role all items) = refl
items_are (Ties ties) = refl

facts_held : (h : Held) (role : KeptRole) (all : Bool) (live : List Fact)
    → making_of h ≡ held.OfKept role all → HeldFits h live
    → facts_of_marked (items_in h) ≡ live
facts_held Nothing role all live is fits = absurd cc
facts_held (Values t es) role all live is fits = absurd cc
facts_held (Degree out ends) role all live is fits = absurd cc
facts_held (Half added others kept valid) role all live is fits = absurd cc
facts_held (Kept r a items) role all live is fits = fits
facts_held (Ties ties) role all live is fits = absurd cc

-- the arcs were made for the shape
abbrev role_of_making : held.Making → KeptRole
role_of_making (held.OfKept role all) = role
role_of_making _ = KeptNodes

role_made : (h : Held) → role_of_making (making_of h) ≡ role_held h
role_made Nothing = refl
role_made (Values t es) = refl
role_made (Degree out ends) = refl
role_made (Half added others kept valid) = refl
role_made (Kept role all items) = refl
role_made (Ties ties) = refl

abbrev shape_of : KeptRole → KeptShape
shape_of KeptNodes = shapes.Sub
shape_of (KeptArcs shape) = shape

pub shape_is : (m : KeptMaps) (s : Seen) (shape : KeptShape) → Plays (own_role Arc m) s
    → KeptArcs shape ≡ role_held s.held → shape ≡ m.shape
shape_is m s shape plays role =
    ap shape_of role ∙ ap shape_of (sym (role_made s.held))
    ∙ ap (λ made. shape_of (role_of_making made)) plays.making

-- each item is placed, in the view's shape
placed_by : (shape : KeptShape) (v : Present) (nodes arcs : List Marked)
    → AreMarkedBy v nodes arcs → ArePlaced shape v nodes arcs
placed_by shapes.Sub v nodes arcs marked = marked.filtered
placed_by shapes.Residual v nodes arcs marked = marked.roomy
placed_by shapes.ResidualOverSub v nodes arcs marked = (marked.filtered, marked.roomy)

-- ---- who was found in a seat

module _ {O : Type 0} (watch : O → Watched) (c : ChainsSeen) (sort : ItemSort) (key : ℕ)
    (role : Role) (sits : Sits role (look_in c sort key)) where
  pub none_sits : None ≡ find_seat key (seats_in sort c) → ⊥
  none_sits found =
      no_empty_seat role (look_in c sort key) (none_there watch c sort key found) sits

  module _ (o : O) (found : seat_seen watch key (Some o) ≡ find_seat key (seats_in sort c)) where
    pub plays_there : Plays role (watch o).seen
    plays_there =
        plays_seen role (look_in c sort key) (watch o).seen (seen_there watch c sort key o found)
        sits

    pub items_there : (items : List Marked) → items ≡ marked_held (watch o).seen.held
        → items ≡ items_at (look_in c sort key)
    items_there items are =
        are ∙ items_are (watch o).seen.held
        ∙ sym (ap items_at (seen_there watch c sort key o found))

-- a view is kept where its row has seats
pub kept_there : {O : Type 0} (watch : O → Watched) (w : World O) (name : Name)
    (o : Option ViewRow) → entry w.views.rows name ≡ o
    → is_there (plain_of watch w) demands.KeptViews name
    ≡ option_map_or (λ (r : ViewRow). is_some r.kept) o false
kept_there watch w name o found =
    ap (λ v. option_map_or (λ (view : plain.View). view.kept) v false)
    (entry_as view_of w.views.rows name ∙ ap (option_map view_of) found)
    ∙ by o
  where
    by : (o : Option ViewRow)
        → option_map_or (λ (view : plain.View). view.kept) (option_map view_of o) false
        ≡ option_map_or (λ (r : ViewRow). is_some r.kept) o false
    by None = refl
    by (Some r) = refl

-- ---- a world

module _ {O : Type 0} (watch : O → Watched) (w : World O) (in_step : AreInStep watch w) where
  abbrev look : Look
  look = look_of watch w

  abbrev world : plain.World
  world = plain_of watch w

  abbrev g : Digraph
  g = w.graph.graph.graph

  -- ---- values by seats are values by names

  module _ (sort : ItemSort) where
    filter_alike : (name : Option Name) (key : Option SeatKey)
        → AreSeatsOf (tables_of w sort).maps.rows maps.Bools name key
        → passes (look sort) key ≡ towers.passes (values_of world) ((values_of world).bool sort)
        name
    filter_alike None None seat = refl
    filter_alike None (Some key) seat = absurd seat
    filter_alike (Some name) None seat = absurd seat
    filter_alike (Some name) (Some key) seat =
        let has = map_found watch w in_step sort name seat.row seat.found in
        let there : look sort key.0 ≡ Some has.leads.seen =
        sym (λ i. look (seat_sort sort (seat.typed i)) (seat.same i).0) ∙ has.leads.there in
        let held : map_of world sort name ≡ Some (plain.Bools (bools_of has.leads.seen.held)) =
        has.held ∙ (λ i. Some (held_by (seat.typed i) has.leads.seen.held)) in
        (λ i id. bool_seen (there i) id)
        ∙ sym (λ i id. option_map_or (λ (h : plain.Held). bool_at h id) (held i) false)

    amount_alike : (name : Name) (key : SeatKey)
        → IsSeatOf (tables_of w sort).maps.rows maps.Ints name key
        → (λ id. int_seen (look sort key.0) id) ≡ (values_of world).int sort name
    amount_alike name key seat =
        let has = map_found watch w in_step sort name seat.row seat.found in
        let there : look sort key.0 ≡ Some has.leads.seen =
        sym (λ i. look (seat_sort sort (seat.typed i)) (seat.same i).0) ∙ has.leads.there in
        let held : map_of world sort name ≡ Some (plain.Ints (ints_of has.leads.seen.held)) =
        has.held ∙ (λ i. Some (held_by (seat.typed i) has.leads.seen.held)) in
        (λ i id. int_seen (there i) id)
        ∙ sym (λ i id. option_map_or (λ (h : plain.Held). int_at h id) (held i) (pos 0))

  room_alike : (name : Name) (key : Option SeatKey)
      → AreSeatsOf w.arcs.maps.rows maps.Ints (Some name) key
      → amount (look Arc) key ≡ (values_of world).int Arc name
  room_alike name None seat = absurd seat
  room_alike name (Some key) seat = amount_alike Arc name key seat

  -- ---- layers over the base

  layers_alike : (layers : KeptLayers) (m : KeptMaps)
      → AreMapsOf layers w.nodes.maps.rows w.arcs.maps.rows m
      → layered (shape_in layers) (present_in look m) (base_shown g)
      ≡ towers.shown (values_of world) g (layers_in layers)
  layers_alike (OneSub nodes arcs) m are =
      let n = filter_alike Node nodes m.node_filter are.node_filter in
      let a = filter_alike Arc arcs m.arc_filter are.arc_filter in
      λ i. sub (n i) (a i) (base_shown g)
  layers_alike (OneResidual cap flow) m are =
      let c = room_alike cap m.cap are.cap in
      let f = room_alike flow m.flow are.flow in
      λ i. residual (c i) (f i) (base_shown g)
  layers_alike (Both cap flow nodes arcs) m are =
      let n = filter_alike Node nodes m.node_filter are.node_filter in
      let a = filter_alike Arc arcs m.arc_filter are.arc_filter in
      let c = room_alike cap m.cap are.cap in
      let f = room_alike flow m.flow are.flow in
      λ i. residual (c i) (f i) (sub (n i) (a i) (base_shown g))

  -- ---- a kept view

  abbrev items : ItemSort → ℕ → List Marked
  items sort key = items_at (look sort key)

  items_fit : (sort : ItemSort) (key : ℕ) (role : KeptRole) (all : Bool) (mine : Role)
      → made_for mine ≡ held.OfKept role all → (o : Option Seen) → look sort key ≡ o → Sits mine o
      → facts_of_marked (items_at o) ≡ facts g sort
  items_fit sort key role all mine made None is sits = absurd sits
  items_fit sort key role all mine made (Some s) is sits =
      facts_held s.held role all (facts g sort) (sits.making ∙ made)
      (seat_fits watch w.graph in_step.graph sort key s is).held

  module _ (name : Name) (row : ViewRow) (keys : KeptKeys)
      (found : entry w.views.rows name ≡ Some row) (is : row.kept ≡ Some keys) where
    pub sit : SeatsSit look keys
    sit =
        subst (λ o. IfSome o (SeatsSit look)) is
        (of_named (λ n (r : ViewRow). IfSome r.kept (SeatsSit look)) w.views.rows name row
        (kept_sit (chains_seen watch w.graph.chains) w.views.rows
        (view_seats (SitsIn (chains_seen watch w.graph.chains)) w in_step.seated.there)) found)

    reads : ReadsMaps w.nodes w.arcs (views_of w.views.rows) name keys.maps
    reads =
        subst (λ o. IfSome o (λ (k : KeptKeys).
        ReadsMaps w.nodes w.arcs (views_of w.views.rows) name k.maps)) is
        (of_named (λ n (r : ViewRow). IfSome r.kept (λ (k : KeptKeys).
        ReadsMaps w.nodes w.arcs (views_of w.views.rows) n k.maps)) w.views.rows name row
        in_step.kept.reading found)

    placed : IsPlaced look keys
    placed =
        subst (λ o. IfSome o (IsPlaced look)) is
        (of_named (λ n (r : ViewRow). IfSome r.kept (IsPlaced look)) w.views.rows name row
        in_step.kept.placed found)

    abbrev nodes : List Marked
    nodes = items Node keys.nodes.0

    abbrev arcs : List Marked
    arcs = items Arc keys.arcs.0

    are_of : AreOf g nodes arcs
    are_of = record {
      nodes = items_fit Node keys.nodes.0 KeptNodes _ (own_role Node keys.maps) refl
          (look Node keys.nodes.0) refl sit.nodes;
      arcs = items_fit Arc keys.arcs.0 (KeptArcs keys.maps.shape) _ (own_role Arc keys.maps) refl
          (look Arc keys.arcs.0) refl sit.arcs;
    }

    -- both ends of each arc are held
    pub ends : HasEnds nodes arcs
    ends = ends_held g nodes arcs in_step.graph.valid are_of

    -- what is shown of the items in the seats is what the view's layers show
    pub shows : kept keys.maps.shape nodes arcs ≡ shown_by world name
    shows =
        follows g nodes arcs keys.maps.shape (present_in look keys.maps) in_step.graph.valid are_of
        (placed_by keys.maps.shape (present_in look keys.maps) nodes arcs placed)
        ∙ ap (λ s. layered s (present_in look keys.maps) (base_shown g)) reads.maps.shape
        ∙ layers_alike reads.layers keys.maps reads.maps
        ∙ ap (towers.shown (values_of world) g) (sym reads.are)
