-- A world to which a map came, and one from which a map went.
use Rattle.std.proofs.Common.{◌≡◌, true, List, [], ◌∷◌, ◌++◌, map, refl, sym, ap}
use Rattle.std.proofs.Common.{subst, Some}
use Rattle.std.proofs.Common.{◌∙◌}
use Rattle.std.specs.Prelude.{option_map}
use Rattle.std.proofs.lemmas.List.{append-nil}
use Rattle.base_items.specs.declared.items.ItemSort.{ItemSort}
use Rattle.base_items.specs.declared.items.ItemSort.TheVariants as sorts
use Rattle.base_items.specs.declared.items.Fact.{Fact}
use Rattle.script_words.specs.declared.commands.MapType.{MapType}
use Rattle.script_words.specs.declared.commands.MapType.TheVariants as types
use Rattle.plain_digraph.specs.Digraph.{Digraph}
use Rattle.plain_digraph.specs.Items.{facts}
use Rattle.plain_digraph.specs.Lists.{AllOf}
use Rattle.plain_digraph.specs.Valid as digraph
use Rattle.observe_core.specs.Held as held
use Rattle.observe_core.specs.Held.{Held, making_of}
use Rattle.observe_core.specs.Seen.{Seen, Watched}
use Rattle.observe_core.specs.Told.{built, held_built}
use Rattle.alter_graph.specs.Chains.{ChainsSeen, chains_seen}
use Rattle.alter_graph.specs.State as graph
use Rattle.alter_graph.specs.State.{AlterOf, state_of}
use Rattle.plain_world.specs.Tables.{Name, Named, under, with_entry}
use Rattle.plain_world.specs.World as plain
use Rattle.plain_world.specs.Effects.{with_maps, with_map, new_map}
use Rattle.desk_names.specs.Rows.{Rows}
use Rattle.desk_world.specs.declared.tables.MapRow.{MapRow}
use Rattle.desk_world.specs.declared.world.World.{World}
use Rattle.desk_world.specs.Claims.{Claim, Role, Plays, role_of, claim, claims_of, map_claim}
use Rattle.desk_world.specs.Derived.{AreDerived, AreIndexed, IsIndexed}
use Rattle.desk_world.specs.InStep.{AreInStep, AreSeated, has_values}
use Rattle.desk_world.specs.Looks.{Look, look_in, looked}
use Rattle.desk_world.specs.Plain.{plain_of, look_of, kinds_of, tables_of, map_seen, held_by}
use Rattle.desk_world.specs.Plain.{world_seen, seat_sort}
use Rattle.desk_world.specs.Seating.{Comes}
use Rattle.desk_world.specs.Values.{kind_for}
use Rattle.desk_world.proofs.AsMade.{as_values}
use Rattle.desk_world.proofs.BuiltMaps.{built_map, values_type}
use Rattle.desk_world.proofs.Changing.{looked_more}
use Rattle.desk_world.proofs.ClaimsCame.{look_comes, agree_comes, seats_comes}
use Rattle.desk_world.proofs.Derived.{indexes_agree}
use Rattle.desk_world.proofs.GuardOrder.{map_comes, map_role}
use Rattle.desk_world.proofs.KeptTables.{kept_more}
use Rattle.desk_world.proofs.MapTables.{with_rows, before, behind, claims_with, claims_are}
use Rattle.desk_world.proofs.MapTables.{claims_midst, claims_apart, maps_seen, rows_in_step}
use Rattle.desk_world.proofs.MapTables.{plain_later, maps_plain}
use Rattle.desk_world.proofs.Indexed.{indexed_more, derived_with}
use Rattle.desk_world.proofs.Relabelled.{Agrees, rows_agree}
use Rattle.desk_world.proofs.Seated.{all_left, all_right, all_both}
use Rattle.desk_world.proofs.SnapTables.{snaps_stay}
use Rattle.alter_graph.specs.Attaching.{with_seats}
use Rattle.alter_graph.specs.Chains.{seats_in}

-- ---- maps of values

pub for_values : (type : MapType) → has_values (kind_for type) ≡ true
for_values types.Ints = refl
for_values types.Bools = refl
for_values types.Texts = refl

making_stays : (all : List Fact) (h : Held) → making_of (held_built all h) ≡ making_of h
making_stays all held.Nothing = refl
making_stays all (held.Values t es) = refl
making_stays all (held.Degree out ends) = refl
making_stays all (held.Half added others kept valid) = refl
making_stays all (held.Kept role shows items) = refl
making_stays all (held.Ties ties) = refl

-- a build keeps the role
pub built_plays : (role : Role) (all : List Fact) (s : Seen) → Plays role s
    → Plays role (built all s)
built_plays role all s plays = record {
  form = plays.form;
  making = making_stays all s.held ∙ plays.making;
  kind = plays.kind;
}

pub held_new : (type : MapType) (w : plain.World) (sort : ItemSort) (s : Seen)
    → digraph.IsValid w.graph → Plays (role_of (kind_for type)) s
    → held_by (kind_for type) (built (facts w.graph sort) s).held ≡ new_map w sort type
held_new type w sort s valid plays = by type plays
  where
    with_type : (t : MapType) → making_of s.held ≡ held.OfValues (values_type t)
        → held_by (kind_for t) (held_built (facts w.graph sort) s.held) ≡ new_map w sort t
    with_type t made =
        let v = as_values (values_type t) s.held made in
        ap (λ h. held_by (kind_for t) (held_built (facts w.graph sort) h)) v.is
        ∙ built_map t w sort valid

    by : (t : MapType) → Plays (role_of (kind_for t)) s
        → held_by (kind_for t) (held_built (facts w.graph sort) s.held) ≡ new_map w sort t
    by types.Ints p = with_type types.Ints p.making
    by types.Bools p = with_type types.Bools p.making
    by types.Texts p = with_type types.Texts p.making

all_but_midst : (P : Claim → Type 0) (xs ys zs : List Claim) → AllOf P ((xs ++ ys) ++ zs)
    → AllOf P (xs ++ zs)
all_but_midst P xs ys zs all =
    all_both P xs zs (all_left P xs ys (all_left P (xs ++ ys) zs all))
    (all_right P (xs ++ ys) zs all)

-- the indexes among the maps of the sort
pub own_indexes : {O : Type 0} (w : World O) (sort : ItemSort) (look : Look)
    → AreDerived look w.nodes w.arcs w.attributes.rows
    → AreIndexed (look sort) (tables_of w sort).maps.rows
own_indexes w sorts.Node look derived = derived.node_indexes
own_indexes w sorts.Arc look derived = derived.arc_indexes

-- ---- a map came

module _ {O : Type 0} (watch : O → Watched) (w : World O) (sort : ItemSort) (rows : Rows MapRow)
    (a : AlterOf O) (name : Name) (row : MapRow) (next : Seen) (in_step : AreInStep watch w)
    (put : rows.rows ≡ with_entry (tables_of w sort).maps.rows name row)
    (comes : Comes (seat_sort sort row.kind) row.key.0 next (chains_seen watch w.graph.chains)
    (chains_seen watch a.chains))
    (same_graph : a.graph.graph ≡ w.graph.graph.graph) (then : graph.IsInStep (state_of watch a))
    (plays : Plays (role_of row.kind) next)
    (indexed : IsIndexed (look_in (chains_seen watch a.chains) sort)
    (tables_of w sort).maps.rows row.kind row.key.0) where
  abbrev earlier : ChainsSeen
  earlier = chains_seen watch w.graph.chains

  abbrev since : ChainsSeen
  since = chains_seen watch a.chains

  abbrev g : Digraph
  g = w.graph.graph.graph

  abbrev table : List (Named MapRow)
  table = (tables_of w sort).maps.rows

  abbrev chain : ItemSort
  chain = seat_sort sort row.kind

  abbrev role : Role
  role = role_of row.kind

  abbrev pub front : List Claim
  front = before w sort ++ map (map_claim sort) table

  abbrev pub back : List Claim
  back = behind w sort

  were : claims_of w ≡ front ++ back
  were =
      claims_are w sort ∙ ap (claims_with w sort) (sym (append-nil table))
      ∙ claims_apart w sort table []

  pub seated : AreSeated (front ++ back) earlier
  seated = subst (λ list. AreSeated list earlier) were in_step.seated

  abbrev later : World O
  later = with_rows w sort rows a

  abbrev look : Look
  look = look_of watch w

  abbrev now : Look
  now = look_in since

  agree : AllOf (Agrees look now) (front ++ back)
  agree = agree_comes chain row.key.0 role front back next earlier since comes plays seated

  others_show : AllOf (Agrees look now) (claims_with w sort [])
  others_show =
      all_but_midst (Agrees look now) (before w sort) (map (map_claim sort) table) back agree

  table_agrees : AllOf (Agrees look now) (map (map_claim sort) table)
  table_agrees = all_right (Agrees look now) (before w sort) (map (map_claim sort) table)
      (all_left (Agrees look now) front back agree)

  indexes_are : AreIndexed (look sort) table
  indexes_are = own_indexes w sort look in_step.derived

  pub more_in_step : AreInStep watch later
  more_in_step =
      rows_in_step watch w rows a in_step then sort
      (derived_with look now w sort rows others_show
      (subst (AreIndexed (now sort)) (sym put)
      (indexed_more (now sort) table name row
      (indexes_agree look now sort table table_agrees indexes_are) indexed))
      in_step.derived)
      (kept_more look now w sort rows name row put others_show table_agrees in_step.kept)
      (ap (λ x. x.snaps) comes.is
      ∙ snaps_stay chain (with_seats (seats_in chain earlier ++ comes.seat ∷ [])) earlier)
      (subst (λ list. AreSeated list since)
      (sym (ap (claims_with w sort) put ∙ claims_midst w sort table (under name row) []))
      (seats_comes chain row.key.0 role front back next earlier since comes plays seated
      (map_comes front (claim chain row.key.0 role) back (map_role row.kind))))

  row_seen : map_seen now sort row ≡ Some (held_by row.kind next.held)
  row_seen =
      ap (option_map (λ (x : Seen). held_by row.kind x.held))
      (look_comes chain row.key.0 role front back next earlier since comes plays)

  pub map_came : plain_of watch later
      ≡ with_map (plain_of watch w) sort name (held_by row.kind next.held)
  map_came =
      let new = held_by row.kind next.held in
      let pool = kinds_of watch w.pool.items in
      plain_later watch w sort rows a
      ∙ (λ i. world_seen (same_graph i) now pool later)
      ∙ maps_seen w g look now pool a sort rows others_show
      ∙ ap (with_maps (plain_of watch w) sort)
      (ap (looked (map_seen now sort)) put
      ∙ looked_more (map_seen now sort) table name row new row_seen
      ∙ ap (λ list. with_entry list name new)
      (rows_agree look now sort table table_agrees ∙ sym (maps_plain watch w sort)))
