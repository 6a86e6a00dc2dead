-- Who reads a map, by the rows of the tables.
use Rattle.std.proofs.Common.{◌≡◌, true, false, cond, List, [], ◌∷◌, refl, sym, ap, Option}
use Rattle.std.proofs.Common.{Some, None, ◌∙◌}
use Rattle.std.specs.Prelude.{option_map, find}
use Rattle.std.specs.List.{cons_option}
use Rattle.std.specs.Option.{option_or}
use Rattle.base_items.specs.declared.items.ItemSort.{ItemSort}
use Rattle.report_text.specs.declared.faults.Fault.TheVariants as faults
use Rattle.plain_digraph.specs.Lists.{AllOf}
use Rattle.observe_core.specs.Seen.{Watched}
use Rattle.plain_world.specs.Demands as demand
use Rattle.plain_world.specs.Refusals as refusals
use Rattle.plain_world.specs.Refusals.{breach, reader_of}
use Rattle.plain_world.specs.Tables.{Name, Named, under, oldest}
use Rattle.plain_world.specs.Views.{reads}
use Rattle.plain_world.specs.World as plain
use Rattle.desk_world.specs.declared.tables.MapRow.{MapRow}
use Rattle.desk_world.specs.declared.tables.ViewRow.{ViewRow}
use Rattle.desk_world.specs.declared.world.World.{World}
use Rattle.desk_world.specs.InStep.{AreInStep}
use Rattle.desk_world.specs.Looks.{Look, looked}
use Rattle.desk_world.specs.Plain.{plain_of, look_of, tables_of, map_seen, held_by, view_of}
use Rattle.desk_world.specs.Indexes.{is_index_kind}
use Rattle.desk_world.proofs.MapTables.{maps_plain}
use Rattle.desk_world.proofs.Indexed.{index_told}
use Rattle.desk_world.proofs.MapsFound.{Leads, leads_held, rows_lead}
use Rattle.desk_world.proofs.ViewRows.{oldest_as}

-- ---- tables

oldest_index : (look : Look) (sort : ItemSort) (name : Name) (rows : List (Named MapRow))
    → AllOf (λ (e : Named MapRow). Leads look sort e.value) rows
    → oldest (refusals.is_index_of name) (looked (map_seen look sort) rows)
    ≡ oldest (λ (row : MapRow). is_index_kind name row.kind) rows
oldest_index look sort name [] all = refl
oldest_index look sort name (e ∷ es) all =
    let rest = oldest_index look sort name es all.1 in
    let h = all.0.seen.held in
    let more : List (Named plain.Held) = looked (map_seen look sort) es in
    let first = ap (λ o. oldest (refusals.is_index_of name)
    (cons_option (option_map (under e.name) o) more)) (leads_held look sort e.value all.0) in
    first
    ∙ ap (λ b. option_map (λ (f : Named plain.Held). f.name)
    (cond b (Some (under e.name (held_by e.value.kind h)))
    (find (λ (f : Named plain.Held). refusals.is_index_of name f.value) more)))
    (index_told name e.value.kind h)
    ∙ elim (is_index_kind name e.value.kind) as (λ b. option_map (λ (f : Named plain.Held). f.name)
    (cond b (Some (under e.name (held_by e.value.kind h)))
    (find (λ (f : Named plain.Held). refusals.is_index_of name f.value) more))
    ≡ option_map (λ (f : Named MapRow). f.name)
    (cond b (Some e) (find (λ (f : Named MapRow). is_index_kind name f.value.kind) es))) [
      | true ↦ refl
      | false ↦ rest
    ]

-- ---- the world

module _ {O : Type 0} (watch : O → Watched) (w : World O) (in_step : AreInStep watch w)
    (sort : ItemSort) (name : Name) where
  abbrev world : plain.World
  world = plain_of watch w

  abbrev pub view_found : Option Name
  view_found = oldest (λ (row : ViewRow). reads sort name row.layer) w.views.rows

  abbrev pub index_found : Option Name
  index_found =
      oldest (λ (row : MapRow). is_index_kind name row.kind) (tables_of w sort).maps.rows

  reader_is : reader_of world sort name ≡ option_or view_found index_found
  reader_is =
      λ i. option_or (oldest_as view_of (λ view. reads sort name view.layer) w.views.rows i)
      ((ap (oldest (refusals.is_index_of name)) (maps_plain watch w sort)
      ∙ oldest_index (look_of watch w) sort name (tables_of w sort).maps.rows
      (rows_lead watch w in_step sort)) i)

  pub read_by_view : (view : Name) → Some view ≡ view_found
      → breach world (demand.NoneReads sort name) ≡ Some (faults.InUse view)
  read_by_view view found =
      ap (option_map faults.InUse)
      (reader_is ∙ ap (λ o. option_or o index_found) (sym found))

  pub read_by : (index : Option Name) → None ≡ view_found → index ≡ index_found
      → breach world (demand.NoneReads sort name) ≡ option_map faults.InUse index
  read_by index none found =
      ap (option_map faults.InUse)
      (reader_is ∙ (λ i. option_or (sym none i) (sym found i)))
