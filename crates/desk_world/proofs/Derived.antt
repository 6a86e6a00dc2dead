-- Indexes and ties where the same is seen.
use Rattle.std.proofs.Common.{◌≡◌, ℕ, List, [], ◌∷◌, map, Some, sym, ap, subst, ◌∙◌}
use Rattle.base_items.specs.declared.items.ItemSort.{ItemSort}
use Rattle.base_items.specs.declared.items.ItemSort.TheVariants as sorts
use Rattle.plain_digraph.specs.Lists.{AllOf}
use Rattle.plain_world.specs.Tables.{Name, Named, entry}
use Rattle.desk_names.specs.Rows.{Rows}
use Rattle.desk_world.specs.declared.tables.MapKind.{MapKind}
use Rattle.desk_world.specs.declared.tables.MapKind.TheVariants as maps
use Rattle.desk_world.specs.declared.tables.MapRow.{MapRow}
use Rattle.desk_world.specs.declared.tables.ItemTables.{ItemTables}
use Rattle.desk_world.specs.declared.tables.AttributeRow.{AttributeRow}
use Rattle.desk_world.specs.declared.world.World.{World}
use Rattle.desk_world.specs.Claims.{map_claim}
use Rattle.desk_world.specs.Derived.{AreDerived, AreIndexed, IsIndexed, AreOfRows, bools_seen}
use Rattle.desk_world.specs.Derived.{trues_seen, ties_at}
use Rattle.desk_world.specs.Looks.{Look}
use Rattle.desk_world.specs.MapTables.{with_table}
use Rattle.desk_world.specs.Plain.{seat_sort, tables_of}
use Rattle.desk_world.proofs.MapsFound.{of_entry}
use Rattle.desk_world.proofs.Relabelled.{Agrees}

module _ (look later : Look) where
  -- the rows of maps, each of which shows what it showed
  abbrev pub RowAgrees : ItemSort → MapRow → Type 0
  RowAgrees sort row =
      later (seat_sort sort row.kind) row.key.0 ≡ look (seat_sort sort row.kind) row.key.0

  pub rows_show : (sort : ItemSort) (table : List (Named MapRow))
      → AllOf (Agrees look later) (map (map_claim sort) table)
      → AllOf (λ e. RowAgrees sort e.value) table
  rows_show sort [] all = tt
  rows_show sort (e ∷ es) all = (all.0, rows_show sort es all.1)

  pub indexes_agree : (sort : ItemSort) (table : List (Named MapRow))
      → AllOf (Agrees look later) (map (map_claim sort) table) → AreIndexed (look sort) table
      → AreIndexed (later sort) table
  indexes_agree sort table all = each table all
    where
      source_shows : (name : Name) (source : MapRow) → entry table name ≡ Some source
          → source.kind ≡ maps.Bools → later sort source.key.0 ≡ look sort source.key.0
      source_shows name source found bools =
          subst (λ k. later (seat_sort sort k) source.key.0 ≡ look (seat_sort sort k) source.key.0)
          bools
          (of_entry (RowAgrees sort) table name source (rows_show sort table all) found)

      one : (kind : MapKind) (key : ℕ)
          → later (seat_sort sort kind) key ≡ look (seat_sort sort kind) key
          → IsIndexed (look sort) table kind key → IsIndexed (later sort) table kind key
      one maps.Ints key shows is = tt
      one maps.Bools key shows is = tt
      one maps.Texts key shows is = tt
      one (maps.Degrees way) key shows is = tt
      one (maps.Trues name) key shows is = record {
        source = is.source;
        found = is.found;
        bools = is.bools;
        same = ap trues_seen shows ∙ is.same
            ∙ sym (ap bools_seen (source_shows name is.source is.found is.bools));
      }

      each : (es : List (Named MapRow)) → AllOf (Agrees look later) (map (map_claim sort) es)
          → AllOf (λ e. IsIndexed (look sort) table e.value.kind e.value.key.0) es
          → AllOf (λ e. IsIndexed (later sort) table e.value.kind e.value.key.0) es
      each [] agree are = tt
      each (e ∷ es) agree are =
          (one e.value.kind e.value.key.0 agree.0 are.0, each es agree.1 are.1)

  -- where the same is seen of the maps and the ties
  pub derived_agrees : (nodes arcs : ItemTables) (attributes : List (Named AttributeRow))
      → later sorts.Node nodes.ties.0 ≡ look sorts.Node nodes.ties.0
      → later sorts.Arc arcs.ties.0 ≡ look sorts.Arc arcs.ties.0
      → AllOf (Agrees look later) (map (map_claim sorts.Node) nodes.maps.rows)
      → AllOf (Agrees look later) (map (map_claim sorts.Arc) arcs.maps.rows)
      → AreDerived look nodes arcs attributes → AreDerived later nodes arcs attributes
  derived_agrees nodes arcs attributes node_ties arc_ties node_maps arc_maps derived = record {
    node_indexes = indexes_agree sorts.Node nodes.maps.rows node_maps derived.node_indexes;
    arc_indexes = indexes_agree sorts.Arc arcs.maps.rows arc_maps derived.arc_indexes;
    numbered = derived.numbered;
    node_ties = subst (λ o. AreOfRows sorts.Node attributes (ties_at o)) (sym node_ties)
        derived.node_ties;
    arc_ties = subst (λ o. AreOfRows sorts.Arc attributes (ties_at o)) (sym arc_ties)
        derived.arc_ties;
  }

-- with a table of maps that has the same rows
pub derived_rows : {O : Type 0} (look : Look) (w : World O) (sort : ItemSort) (rows : Rows MapRow)
    → rows.rows ≡ (tables_of w sort).maps.rows
    → AreDerived look w.nodes w.arcs w.attributes.rows
    → AreDerived look (with_table w sort rows).nodes (with_table w sort rows).arcs
    w.attributes.rows
derived_rows look w sorts.Node rows same derived = record {
  node_indexes = subst (AreIndexed (look sorts.Node)) (sym same) derived.node_indexes;
  arc_indexes = derived.arc_indexes;
  numbered = derived.numbered;
  node_ties = derived.node_ties;
  arc_ties = derived.arc_ties;
}
derived_rows look w sorts.Arc rows same derived = record {
  node_indexes = derived.node_indexes;
  arc_indexes = subst (AreIndexed (look sorts.Arc)) (sym same) derived.arc_indexes;
  numbered = derived.numbered;
  node_ties = derived.node_ties;
  arc_ties = derived.arc_ties;
}
