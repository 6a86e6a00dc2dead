-- The calls that start and end ties.
use Rattle.std.proofs.Common.{◌≡◌, ℕ, List, refl, sym, ap, subst, Some, None, ◌∙◌, position, length}
use Rattle.std.specs.Prelude.{IsTrue}
use Rattle.base_items.specs.declared.items.Fact.{Fact}
use Rattle.base_items.specs.declared.items.ItemSort.{ItemSort}
use Rattle.base_items.specs.declared.items.ItemSort.TheVariants as sorts
use Rattle.plain_digraph.specs.Facts.{fact_id}
use Rattle.plain_digraph.specs.Items.{facts}
use Rattle.plain_digraph.specs.Rising.{with_item, without_item}
use Rattle.observe_core.specs.Fits.{HeldFits}
use Rattle.observe_core.specs.Held.{Ties, tie_id}
use Rattle.observe_core.specs.Items.{has_id, Lacks}
use Rattle.observe_core.specs.Seen.{Watched}
use Rattle.notify_chain.specs.Seats.{find_seat, seat_seen}
use Rattle.alter_graph.specs.Chains.{chains_seen, seats_in}
use Rattle.alter_graph.specs.Lending.{MayWrite, graph_with}
use Rattle.index_maps.specs.TieEntries.{tie_to}
use Rattle.plain_world.specs.Tables.{Name, is_named, entry, with_change}
use Rattle.plain_world.specs.Valid.{NamesDiffer, IsWorld}
use Rattle.plain_world.specs.World as plain
use Rattle.plain_world.specs.Effects.{tied, attribute_text}
use Rattle.desk_names.specs.Rows.{Rows}
use Rattle.desk_seats.specs.Contents.{holding, ties_in, ties_held, StillFits}
use Rattle.desk_world.specs.declared.tables.AttributeRow.{AttributeRow}
use Rattle.desk_world.specs.declared.tables.AttributeRow.TheVariants as rows
use Rattle.desk_world.specs.declared.tables.ItemTables.{ItemTables}
use Rattle.desk_world.specs.declared.world.World.{World}
use Rattle.desk_world.specs.Attributes.{TellsItem}
use Rattle.desk_world.specs.Derived.{AreOfRows, ties_at}
use Rattle.desk_world.specs.InStep.{AreInStep}
use Rattle.desk_world.specs.Plain.{plain_of, look_of, tables_of, attribute_seen, ties_seen}
use Rattle.desk_world.proofs.AsMade.{as_ties}
use Rattle.desk_world.proofs.NamedRows.{stands}
use Rattle.desk_world.proofs.Replaced.{place_of, none_place}
use Rattle.desk_world.proofs.TieRows.{none_numbered}
use Rattle.desk_world.proofs.TieSteps.{Alters, no_plain_tie, tie_made, tie_ended}
use Rattle.desk_world.proofs.TiesFound.{HasTies, ties_found}
use Rattle.desk_world.proofs.TiesWritten.{ties_in_step, plain_kept}

-- the tables of the items stay where the attributes are others
pub same_tables : {O : Type 0} (w : World O) (attributes : Rows AttributeRow) (sort : ItemSort)
    → tables_of (record w { attributes = attributes }) sort ≡ tables_of w sort
same_tables w attributes sorts.Node = refl
same_tables w attributes sorts.Arc = refl

-- the plain world is as before
pub record IsKept {O : Type 0} (watch : O → Watched) (w after : World O) : Type 0 where
  pub in_step : AreInStep watch after
  pub plain : plain_of watch after ≡ plain_of watch w

-- ---- before the tie comes

module _ {O : Type 0} (watch : O → Watched) (w : World O) (sort : ItemSort) (id : ℕ) (name : Name)
    (told : TellsItem watch w name sort id) (differ : NamesDiffer w.attributes.rows) where
  -- the name has a place
  pub has_place : position (is_named name) w.attributes.rows ≡ None → ⊥
  has_place none =
      none_place w.attributes.rows name (rows.Plain told.text)
      (stands w.attributes.rows name (rows.Plain told.text) differ told.row) none

  -- and no tie has its number
  pub place_free : (k : ℕ) → position (is_named name) w.attributes.rows ≡ Some k
      → (seat : O) → HasTies watch w sort seat → AreInStep watch w
      → Lacks tie_id k (ties_in (watch seat).seen)
  place_free k found seat has in_step =
      let at = stands w.attributes.rows name (rows.Plain told.text) differ told.row in
      none_numbered at.front name (rows.Plain told.text) (rows.Plain told.text) at.back sort k
      (ties_in (watch seat).seen) (place_of w.attributes.rows name (rows.Plain told.text) k found at)
      (no_plain_tie told.text sort (length at.front))
      (subst (λ r. AreOfRows sort r (ties_in (watch seat).seen)) at.is
      (subst (λ o. AreOfRows sort w.attributes.rows (ties_at o)) has.seen (before sort)))
    where
      before : (x : ItemSort) → AreOfRows x w.attributes.rows
          (ties_at (look_of watch w x (tables_of w x).ties.0))
      before sorts.Node = in_step.derived.node_ties
      before sorts.Arc = in_step.derived.arc_ties

-- ---- with the seat that was found

module _ {O : Type 0} (watch : O → Watched) (w : World O) (sort : ItemSort) (items : ItemTables)
    (old now : O) (in_step : AreInStep watch w) (is : items ≡ tables_of w sort)
    (found : seat_seen watch items.ties.0 (Some old)
    ≡ find_seat items.ties.0 (seats_in sort (chains_seen watch w.graph.chains)))
    (may : MayWrite watch sort items.ties.0 w.graph old) where
  has : HasTies watch w sort old
  has = ties_found watch w sort items old in_step is found

  may_here : MayWrite watch sort (tables_of w sort).ties.0 w.graph old
  may_here = subst (λ (x : ItemTables). MayWrite watch sort x.ties.0 w.graph old) is may

  abbrev pub after : ItemTables → Rows AttributeRow → World O
  after x attributes =
      record w { graph = graph_with sort x.ties.0 now w.graph; attributes = attributes }

  -- no tie came
  pub not_started : (watch now).seen ≡ (watch old).seen
      → IsKept watch w (after items w.attributes)
  not_started same =
      let held = as_ties (watch old).seen.held has.plays.making in
      let ties = ties_in (watch old).seen in
      let own : (watch old).seen.held ≡ Ties ties =
      held.is ∙ ap Ties (sym (ap ties_held held.is)) in
      let wrote = same ∙ ap (λ h. holding h (watch old).seen) own in
      let live = facts w.graph.graph.graph sort in
      let keeps : HeldFits (watch old).seen.held live → HeldFits (watch now).seen.held live =
      λ fit. subst (λ s. HeldFits s.held live) (sym same) fit in
      subst (λ x. IsKept watch w (after x w.attributes)) (sym is) (record {
        in_step = ties_in_step watch w sort old now in_step has.seen has.plays may_here ties wrote
            keeps w.attributes in_step.derived.numbered
            (subst (λ o. AreOfRows sort w.attributes.rows (ties_at o)) has.seen (before sort))
            (λ other apart. before other);
        plain = plain_kept watch w sort old now in_step has.seen has.plays may_here ties wrote
            keeps w.attributes same refl;
      })
    where
      before : (x : ItemSort) → AreOfRows x w.attributes.rows
          (ties_at (look_of watch w x (tables_of w x).ties.0))
      before sorts.Node = in_step.derived.node_ties
      before sorts.Arc = in_step.derived.arc_ties

  -- the tie came
  pub started : (ok : IsWorld (plain_of watch w)) → (id k : ℕ)
      → (watch now).seen
      ≡ holding (Ties (with_item tie_id (tie_to k id) (ties_in (watch old).seen)))
      (watch old).seen
      → ((live : List Fact) → IsTrue (has_id fact_id id live)
      → HeldFits (watch old).seen.held live → HeldFits (watch now).seen.held live)
      → (attributes : Rows AttributeRow) (name : Name) → TellsItem watch w name sort id
      → NamesDiffer w.attributes.rows
      → position (is_named name) w.attributes.rows ≡ Some k
      → attributes.rows ≡ with_change w.attributes.rows name (λ _. rows.Tied sort k)
      → Alters watch w (after items attributes) name (tied (plain_of watch w) sort)
  started ok id k wrote fits attributes name told differ at are =
      subst (λ x. Alters watch w (after x attributes) name (tied (plain_of watch w) sort)) (sym is)
      (tie_made watch w sort old now (record { seats = in_step; valid = ok }) has may_here id k
      wrote fits attributes name told differ at are)

  -- the tie ended
  pub ended : (k : ℕ)
      → (watch now).seen
      ≡ holding (Ties (without_item tie_id k (ties_in (watch old).seen))) (watch old).seen
      → StillFits (watch old).seen (watch now).seen
      → (attributes : Rows AttributeRow) (name : Name) (text : List ℕ) (id : ℕ)
      → NamesDiffer w.attributes.rows
      → entry w.attributes.rows name ≡ Some (rows.Tied sort k)
      → attributes.rows ≡ with_change w.attributes.rows name (λ _. rows.Plain text)
      → attribute_seen (ties_seen (look_of watch w) w) (rows.Tied sort k)
      ≡ Some (plain.Tied sort id)
      → text ≡ plain.label_of (plain_of watch w) sort id
      → Alters watch w (after items attributes) name
      (λ value. plain.Plain (attribute_text (plain_of watch w) value))
  ended k wrote fits attributes name text id differ at are leads label =
      subst (λ x. Alters watch w (after x attributes) name
      (λ value. plain.Plain (attribute_text (plain_of watch w) value))) (sym is)
      (tie_ended watch w sort old now in_step has may_here k wrote fits attributes name text id
      differ at are leads label)
