-- Indexes and ties after a step of the digraph: still those of the maps and the attributes.
use Rattle.std.proofs.Common.{◌≡◌, ℕ, false, List, [], ◌∷◌, Some, refl, sym, ap, subst, ◌∙◌}
use Rattle.base_items.specs.declared.items.ItemSort.{ItemSort}
use Rattle.base_items.specs.declared.items.ItemSort.TheVariants as sorts
use Rattle.plain_digraph.specs.Items.{facts, count_of}
use Rattle.plain_digraph.specs.Lists.{AllOf}
use Rattle.plain_digraph.specs.PlainSteps.{PlainStep, sort_of, after_step, change_of}
use Rattle.plain_digraph.specs.Valid.{IsValid}
use Rattle.alter_graph.specs.Chains.{ChainsSeen}
use Rattle.alter_graph.specs.State.{State}
use Rattle.alter_graph.specs.Steps.{notice_of, took, CanTake}
use Rattle.alter_graph.proofs.Telling.{CanHear, can_hear}
use Rattle.plain_world.specs.Tables.{Name, Named, entry}
use Rattle.desk_seats.specs.Contents.{among, bools_among, trues_among}
use Rattle.desk_world.specs.declared.tables.MapKind.{MapKind}
use Rattle.desk_world.specs.declared.tables.MapKind.TheVariants as maps
use Rattle.desk_world.specs.declared.tables.MapRow.{MapRow}
use Rattle.desk_world.specs.declared.tables.ItemTables.{ItemTables}
use Rattle.desk_world.specs.declared.tables.AttributeRow.{AttributeRow}
use Rattle.desk_world.specs.Claims as claims
use Rattle.desk_world.specs.Claims.{Sits, role_of}
use Rattle.desk_world.specs.Derived.{AreDerived, AreIndexed, IsIndexed, AreOfRows, bools_seen}
use Rattle.desk_world.specs.Derived.{trues_seen, ties_at}
use Rattle.desk_world.specs.InStep.{Differ, keys_in}
use Rattle.desk_world.specs.Looks.{look_in}
use Rattle.desk_world.specs.Plain.{seat_sort}
use Rattle.desk_world.proofs.FollowedStep.{AreStood, reads_follow, ties_follow}
use Rattle.desk_world.proofs.MapsFound.{of_entry}
use Rattle.desk_world.proofs.Noticed.{entries_after, bools_follow, trues_follow}
use Rattle.desk_world.proofs.TiesAfter.{all_after}

module _ (step : PlainStep) (s : State) (valid : IsValid s.graph) (can : CanTake step s.graph)
    (then_valid : IsValid (after_step s.graph step)) (stood : AreStood s)
    (differ : (sort : ItemSort) → Differ (keys_in sort s.chains)) where
  abbrev d : ChainsSeen
  d = (took step s).chains

  hears : CanHear (notice_of step s.graph) (facts s.graph (sort_of step))
  hears = can_hear step s.graph valid can then_valid

  -- ---- indexes

  bools_then : (sort : ItemSort) (key : ℕ) → Sits claims.Bools (look_in s.chains sort key)
      → bools_seen (look_in d sort key)
      ≡ entries_after false (change_of s.graph step sort) (bools_seen (look_in s.chains sort key))
  bools_then =
      reads_follow step s valid can then_valid stood differ (among bools_among)
      (entries_after false) claims.Bools refl (λ es. refl)
      (bools_follow (notice_of step s.graph) (facts s.graph (sort_of step))
      (count_of s.graph (sort_of step)) hears) []

  trues_then : (sort : ItemSort) (key : ℕ) → Sits claims.Trues (look_in s.chains sort key)
      → trues_seen (look_in d sort key)
      ≡ entries_after false (change_of s.graph step sort) (trues_seen (look_in s.chains sort key))
  trues_then =
      reads_follow step s valid can then_valid stood differ (among trues_among)
      (entries_after false) claims.Trues refl (λ es. refl)
      (trues_follow (notice_of step s.graph) (facts s.graph (sort_of step))
      (count_of s.graph (sort_of step)) hears) []

  -- the row's map sits in its seat
  abbrev SitsRow : ItemSort → MapRow → Type 0
  SitsRow sort row =
      Sits (role_of row.kind) (look_in s.chains (seat_sort sort row.kind) row.key.0)

  indexes_then : (sort : ItemSort) (table : List (Named MapRow))
      → AllOf (λ e. SitsRow sort e.value) table → AreIndexed (look_in s.chains sort) table
      → AreIndexed (look_in d sort) table
  indexes_then sort table sit = each table sit
    where
      source_sits : (name : Name) (source : MapRow) → entry table name ≡ Some source
          → source.kind ≡ maps.Bools → Sits claims.Bools (look_in s.chains sort source.key.0)
      source_sits name source found bools =
          subst (λ k. Sits (role_of k) (look_in s.chains (seat_sort sort k) source.key.0)) bools
          (of_entry (SitsRow sort) table name source sit found)

      one : (kind : MapKind) (key : ℕ)
          → Sits (role_of kind) (look_in s.chains (seat_sort sort kind) key)
          → IsIndexed (look_in s.chains sort) table kind key
          → IsIndexed (look_in d sort) table kind key
      one maps.Ints key sits is = tt
      one maps.Bools key sits is = tt
      one maps.Texts key sits is = tt
      one (maps.Degrees way) key sits is = tt
      one (maps.Trues name) key sits is = record {
        source = is.source;
        found = is.found;
        bools = is.bools;
        same = trues_then sort key sits
            ∙ ap (entries_after false (change_of s.graph step sort)) is.same
            ∙ sym (bools_then sort is.source.key.0
            (source_sits name is.source is.found is.bools));
      }

      each : (es : List (Named MapRow)) → AllOf (λ e. SitsRow sort e.value) es
          → AllOf (λ e. IsIndexed (look_in s.chains sort) table e.value.kind e.value.key.0) es
          → AllOf (λ e. IsIndexed (look_in d sort) table e.value.kind e.value.key.0) es
      each [] sits are = tt
      each (e ∷ es) sits are =
          (one e.value.kind e.value.key.0 sits.0 are.0, each es sits.1 are.1)

  -- ---- ties

  ties_then : (sort : ItemSort) (key : ℕ) (table : List (Named AttributeRow))
      → Sits claims.Ties (look_in s.chains sort key)
      → AreOfRows sort table (ties_at (look_in s.chains sort key))
      → AreOfRows sort table (ties_at (look_in d sort key))
  ties_then sort key table sits are =
      subst (AreOfRows sort table)
      (sym (ties_follow step s valid can then_valid stood differ sort key sits))
      (all_after _ (change_of s.graph step sort) (ties_at (look_in s.chains sort key)) are)

  -- ---- the world

  pub derived_then : (nodes arcs : ItemTables) (attributes : List (Named AttributeRow))
      → Sits claims.Ties (look_in s.chains sorts.Node nodes.ties.0)
      → Sits claims.Ties (look_in s.chains sorts.Arc arcs.ties.0)
      → AllOf (λ e. SitsRow sorts.Node e.value) nodes.maps.rows
      → AllOf (λ e. SitsRow sorts.Arc e.value) arcs.maps.rows
      → AreDerived (look_in s.chains) nodes arcs attributes
      → AreDerived (look_in d) nodes arcs attributes
  derived_then nodes arcs attributes node_ties arc_ties node_maps arc_maps derived = record {
    node_indexes = indexes_then sorts.Node nodes.maps.rows node_maps derived.node_indexes;
    arc_indexes = indexes_then sorts.Arc arcs.maps.rows arc_maps derived.arc_indexes;
    numbered = derived.numbered;
    node_ties = ties_then sorts.Node nodes.ties.0 attributes node_ties derived.node_ties;
    arc_ties = ties_then sorts.Arc arcs.ties.0 attributes arc_ties derived.arc_ties;
  }
