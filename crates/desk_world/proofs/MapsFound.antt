-- The maps of a world by their names.
use Rattle.std.proofs.Common.{◌≡◌, Bool, true, false, cond, List, [], ◌∷◌, map, refl, sym, ap}
use Rattle.std.proofs.Common.{subst, Option, Some, None, ◌∙◌, is_some}
use Rattle.std.specs.Prelude.{option_map, option_and_then, find, ◌||◌}
use Rattle.std.specs.List.{cons_option}
use Rattle.std.specs.Str.{bytes_eq}
use Rattle.std.proofs.lemmas.Bool.{true≢false}
use Rattle.std.proofs.lemmas.Option.{none-some, same_Some}
use Rattle.base_items.specs.declared.items.ItemSort.{ItemSort}
use Rattle.base_items.specs.declared.items.ItemSort.TheVariants as sorts
use Rattle.lgf_file.specs.Documents.{label as label_column}
use Rattle.plain_digraph.specs.Lists.{AllOf}
use Rattle.observe_core.specs.Held as held
use Rattle.observe_core.specs.Seen.{Seen, Watched}
use Rattle.alter_graph.specs.Chains.{ChainsSeen, chains_seen}
use Rattle.plain_world.specs.Tables.{Name, Named, under, is_named, entry, has_entry}
use Rattle.plain_world.specs.Demands as demands
use Rattle.plain_world.specs.Demands.{is_there}
use Rattle.plain_world.specs.Values.{type_of}
use Rattle.plain_world.specs.Views.{map_of}
use Rattle.plain_world.specs.World.{attached}
use Rattle.desk_world.specs.declared.tables.MapKind.{MapKind}
use Rattle.desk_world.specs.declared.tables.MapKind.TheVariants as maps
use Rattle.desk_world.specs.declared.tables.MapRow.{MapRow}
use Rattle.desk_world.specs.declared.world.World.{World}
use Rattle.desk_world.specs.Claims.{Plays, Sits, role_of}
use Rattle.desk_world.specs.InStep.{AreInStep, has_values}
use Rattle.desk_world.specs.Looks.{Look, looked, look_in}
use Rattle.desk_world.specs.Plain.{plain_of, look_of, tables_of, map_seen, seat_sort, held_by}
pub use Rattle.desk_world.specs.Values.{type_by}
use Rattle.desk_world.proofs.Seated.{maps_sit, all_so}

-- ---- tables

-- where all rows lead to something, what stands under a name is what its row leads to
pub looked_entry : {X Y : Type 0} (look : X → Option Y) (table : List (Named X)) (name : Name)
    → AllOf (λ (e : Named X). is_some (look e.value) ≡ true) table
    → entry (looked look table) name ≡ option_and_then look (entry table name)
looked_entry look [] name all = refl
looked_entry {X} {Y} look (e ∷ es) name all =
    let rest = looked_entry look es name all.1 in
    by (look e.value) refl all.0 rest
  where
    by : (o : Option Y) → look e.value ≡ o → is_some o ≡ true
        → entry (looked look es) name ≡ option_and_then look (entry es name)
        → entry (cons_option (option_map (under e.name) o) (looked look es)) name
        ≡ option_and_then look (entry (e ∷ es) name)
    by None is some rest = absurd (true≢false (sym some))
    by (Some y) is some rest =
        elim (bytes_eq e.name name) as (λ b. option_map (λ (f : Named Y). f.value)
        (cond b (Some (under e.name y)) (find (is_named name) (looked look es)))
        ≡ option_and_then look (option_map (λ (f : Named X). f.value)
        (cond b (Some e) (find (is_named name) es)))) [
          | true ↦ sym is
          | false ↦ rest
        ]

-- and the names stay
looked_names : {X Y : Type 0} (look : X → Option Y) (table : List (Named X))
    → AllOf (λ (e : Named X). is_some (look e.value) ≡ true) table
    → map (λ (f : Named Y). f.name) (looked look table) ≡ map (λ (e : Named X). e.name) table
looked_names look [] all = refl
looked_names {X} {Y} look (e ∷ es) all = by (look e.value) all.0 (looked_names look es all.1)
  where
    by : (o : Option Y) → is_some o ≡ true
        → map (λ (f : Named Y). f.name) (looked look es) ≡ map (λ (x : Named X). x.name) es
        → map (λ (f : Named Y). f.name) (cons_option (option_map (under e.name) o) (looked look es))
        ≡ e.name ∷ map (λ (x : Named X). x.name) es
    by None is rest = absurd (true≢false (sym is))
    by (Some y) is rest = ap (λ more. e.name ∷ more) rest

-- what holds of all values holds of what stands under a name
pub of_entry : {X : Type 0} (P : X → Type 0) (table : List (Named X)) (name : Name) (x : X)
    → AllOf (λ (e : Named X). P e.value) table → entry table name ≡ Some x → P x
of_entry P [] name x all found = absurd (none-some x found)
of_entry {X} P (e ∷ es) name x all found =
    let rest = of_entry P es name x all.1 in
    elim (bytes_eq e.name name) as (λ b. option_map (λ (f : Named X). f.value)
    (cond b (Some e) (find (is_named name) es)) ≡ Some x → P x) [
      | true ↦ λ is. subst P (same_Some e.value x is) all.0
      | false ↦ λ is. rest is
    ] found

-- ---- what the row of a map leads to

-- the observer in the seat of its key, which has its role
pub record Leads (look : Look) (sort : ItemSort) (row : MapRow) : Type 0 where
  pub seen : Seen
  pub there : look (seat_sort sort row.kind) row.key.0 ≡ Some seen
  pub plays : Plays (role_of row.kind) seen

leads_by : (look : Look) (sort : ItemSort) (row : MapRow) (o : Option Seen)
    → look (seat_sort sort row.kind) row.key.0 ≡ o → Sits (role_of row.kind) o
    → Leads look sort row
leads_by look sort row None is sits = absurd sits
leads_by look sort row (Some s) is sits = record { seen = s; there = is; plays = sits }

-- and what the map has
pub leads_held : (look : Look) (sort : ItemSort) (row : MapRow) (leads : Leads look sort row)
    → map_seen look sort row ≡ Some (held_by row.kind leads.seen.held)
leads_held look sort row leads =
    ap (option_map (λ (s : Seen). held_by row.kind s.held)) leads.there

-- ---- the types of maps

pub type_held : (kind : MapKind) (h : held.Held) → type_of (held_by kind h) ≡ type_by kind
type_held maps.Ints h = refl
type_held maps.Bools h = refl
type_held maps.Texts h = refl
type_held (maps.Degrees way) h = refl
type_held (maps.Trues map) h = refl

pub typed : (kind : MapKind) → is_some (type_by kind) ≡ has_values kind
typed maps.Ints = refl
typed maps.Bools = refl
typed maps.Texts = refl
typed (maps.Degrees way) = refl
typed (maps.Trues map) = refl

-- maps of values sit in the chain of their items
pub own_sort : (sort : ItemSort) (kind : MapKind) → has_values kind ≡ true
    → seat_sort sort kind ≡ sort
own_sort sort maps.Ints has = refl
own_sort sort maps.Bools has = refl
own_sort sort maps.Texts has = refl
own_sort sort (maps.Degrees way) has = absurd (true≢false (sym has))
own_sort sort (maps.Trues map) has = refl

-- ---- maps by name

module _ {O : Type 0} (watch : O → Watched) (w : World O) (in_step : AreInStep watch w) where
  abbrev c : ChainsSeen
  c = chains_seen watch w.graph.chains

  -- each row leads to an observer
  pub rows_lead : (sort : ItemSort)
      → AllOf (λ (e : Named MapRow). Leads (look_of watch w) sort e.value)
      (tables_of w sort).maps.rows
  rows_lead sort =
      all_so (λ (e : Named MapRow). Sits (role_of e.value.kind)
      (look_in c (seat_sort sort e.value.kind) e.value.key.0))
      (λ (e : Named MapRow). Leads (look_of watch w) sort e.value)
      (λ e sits. leads_by (look_of watch w) sort e.value
      (look_in c (seat_sort sort e.value.kind) e.value.key.0) refl sits)
      (tables_of w sort).maps.rows (maps_sit w c in_step.seated sort)

  pub rows_seen : (sort : ItemSort)
      → AllOf (λ (e : Named MapRow). is_some (map_seen (look_of watch w) sort e.value) ≡ true)
      (tables_of w sort).maps.rows
  rows_seen sort =
      all_so (λ (e : Named MapRow). Leads (look_of watch w) sort e.value)
      (λ (e : Named MapRow). is_some (map_seen (look_of watch w) sort e.value) ≡ true)
      (λ e leads. ap is_some (leads_held (look_of watch w) sort e.value leads))
      (tables_of w sort).maps.rows (rows_lead sort)

  -- the maps have the names of the rows, in their order
  pub rows_named : (sort : ItemSort) → map (λ e. e.name) (attached (plain_of watch w) sort).maps
      ≡ map (λ e. e.name) (tables_of w sort).maps.rows
  rows_named sorts.Node =
      looked_names (map_seen (look_of watch w) sorts.Node) w.nodes.maps.rows (rows_seen sorts.Node)
  rows_named sorts.Arc =
      looked_names (map_seen (look_of watch w) sorts.Arc) w.arcs.maps.rows (rows_seen sorts.Arc)

  -- the map of a name is what its row leads to
  pub map_entry : (sort : ItemSort) (name : Name)
      → map_of (plain_of watch w) sort name
      ≡ option_and_then (map_seen (look_of watch w) sort) (entry (tables_of w sort).maps.rows name)
  map_entry sorts.Node name =
      looked_entry (map_seen (look_of watch w) sorts.Node) w.nodes.maps.rows name
      (rows_seen sorts.Node)
  map_entry sorts.Arc name =
      looked_entry (map_seen (look_of watch w) sorts.Arc) w.arcs.maps.rows name
      (rows_seen sorts.Arc)

  -- what is known of the row that stands under a name
  pub record HasRow (sort : ItemSort) (name : Name) (row : MapRow) : Type 0 where
    pub leads : Leads (look_of watch w) sort row
    pub held : map_of (plain_of watch w) sort name ≡ Some (held_by row.kind leads.seen.held)

  pub map_found : (sort : ItemSort) (name : Name) (row : MapRow)
      → entry (tables_of w sort).maps.rows name ≡ Some row → HasRow sort name row
  map_found sort name row found =
      let leads = of_entry (λ row. Leads (look_of watch w) sort row) (tables_of w sort).maps.rows
      name row (rows_lead sort) found in
      record {
        leads = leads;
        held =
            map_entry sort name
            ∙ ap (option_and_then (map_seen (look_of watch w) sort)) found
            ∙ leads_held (look_of watch w) sort row leads;
      }

  -- a name without a row is that of no map
  pub map_missing : (sort : ItemSort) (name : Name)
      → entry (tables_of w sort).maps.rows name ≡ None → map_of (plain_of watch w) sort name ≡ None
  map_missing sort name found =
      map_entry sort name ∙ ap (option_and_then (map_seen (look_of watch w) sort)) found

  by_entry : (sort : ItemSort) (name : Name) (o : Option MapRow)
      → entry (tables_of w sort).maps.rows name ≡ o
      → (is_some (map_of (plain_of watch w) sort name) ≡ is_some o)
      × (option_and_then type_of (map_of (plain_of watch w) sort name)
      ≡ option_and_then (λ (row : MapRow). type_by row.kind) o)
  by_entry sort name None found =
      let missing = map_missing sort name found in
      (ap is_some missing, ap (option_and_then type_of) missing)
  by_entry sort name (Some row) found =
      let has = map_found sort name row found in (
        ap is_some has.held,
        ap (option_and_then type_of) has.held ∙ type_held row.kind has.leads.seen.held,
      )

  -- a map is there exactly where its row is
  pub map_there : (sort : ItemSort) (name : Name)
      → is_some (map_of (plain_of watch w) sort name)
      ≡ has_entry (tables_of w sort).maps.rows name
  map_there sort name = (by_entry sort name (entry (tables_of w sort).maps.rows name) refl).0

  -- its type is that of its row
  pub map_type : (sort : ItemSort) (name : Name)
      → option_and_then type_of (map_of (plain_of watch w) sort name)
      ≡ option_and_then (λ (row : MapRow). type_by row.kind)
      (entry (tables_of w sort).maps.rows name)
  map_type sort name = (by_entry sort name (entry (tables_of w sort).maps.rows name) refl).1

  -- a map can be asked for under `label`, and under the name of a row
  pub asked_there : (sort : ItemSort) (name : Name)
      → is_there (plain_of watch w) (demands.Maps sort) name
      ≡ (bytes_eq name label_column || has_entry (tables_of w sort).maps.rows name)
  asked_there sort name = ap (λ b. bytes_eq name label_column || b) (map_there sort name)

  pub asked_label : (sort : ItemSort) (name : Name) → bytes_eq name label_column ≡ true
      → is_there (plain_of watch w) (demands.Maps sort) name ≡ true
  asked_label sort name is =
      asked_there sort name ∙ ap (λ b. b || has_entry (tables_of w sort).maps.rows name) is

  pub asked_row : (sort : ItemSort) (name : Name)
      → has_entry (tables_of w sort).maps.rows name ≡ true
      → is_there (plain_of watch w) (demands.Maps sort) name ≡ true
  asked_row sort name has =
      asked_there sort name ∙ ap (λ b. bytes_eq name label_column || b) has
      ∙ either (bytes_eq name label_column)
    where
      either : (b : Bool) → (b || true) ≡ true
      either true = refl
      either false = refl

  pub asked_none : (sort : ItemSort) (name : Name) → bytes_eq name label_column ≡ false
      → has_entry (tables_of w sort).maps.rows name ≡ false
      → is_there (plain_of watch w) (demands.Maps sort) name ≡ false
  asked_none sort name is has =
      asked_there sort name
      ∙ (λ i. is i || has i)
