-- An attribute is tied to an item, or its tie ends.
use Rattle.std.proofs.Common.{◌≡◌, ◌≢◌, ℕ, ◌+◌, Bool, true, false, List, ◌∷◌, ◌++◌, length, refl}
use Rattle.std.proofs.Common.{sym, ap, subst, Option, Some, ◌∙◌, inl, inr, arith, position}
use Rattle.std.specs.Prelude.{IsTrue, option_map, option_and_then}
use Rattle.std.proofs.lemmas.Bool.{true≢false}
use Rattle.base_items.specs.declared.items.Fact.{Fact}
use Rattle.base_items.specs.declared.items.ItemSort.{ItemSort}
use Rattle.base_items.specs.declared.items.ItemSort.TheVariants as sorts
use Rattle.plain_digraph.specs.Facts.{fact_id}
use Rattle.plain_digraph.specs.Items.{facts}
use Rattle.plain_digraph.specs.Rising.{with_item, without_item}
use Rattle.observe_core.specs.Fits.{HeldFits}
use Rattle.observe_core.specs.Held.{Tie, Ties, tie_id}
use Rattle.observe_core.specs.Items.{has_id}
use Rattle.observe_core.specs.Seen.{Seen, Watched}
use Rattle.alter_graph.specs.Lending.{MayWrite}
use Rattle.alter_graph.proofs.Listing.{live_has}
use Rattle.index_maps.specs.TieEntries.{tie_to}
use Rattle.plain_world.specs.Tables.{Name, Named, under, is_named, entry, with_change}
use Rattle.plain_world.specs.Valid.{NamesDiffer}
use Rattle.plain_world.specs.World as plain
use Rattle.plain_world.specs.Effects.{tied, attribute_text}
use Rattle.desk_names.specs.Rows.{Rows}
use Rattle.desk_seats.specs.Contents.{holding, ties_in, StillFits}
use Rattle.desk_world.specs.declared.tables.AttributeRow.{AttributeRow}
use Rattle.desk_world.specs.declared.tables.AttributeRow.TheVariants as rows
use Rattle.desk_world.specs.declared.world.World.{World}
use Rattle.desk_world.specs.Attributes.{with_attribute, TellsItem}
use Rattle.desk_world.specs.Columns.{tied_item}
use Rattle.desk_world.specs.Derived.{AreNumbered, AreOfRows, IsNumbered, ties_at}
use Rattle.desk_world.specs.InStep.{AreInStep, IsInStep}
use Rattle.desk_world.specs.Looks.{Look, looked}
use Rattle.desk_world.specs.Plain.{plain_of, look_of, tables_of, attribute_seen, ties_seen}
use Rattle.desk_world.proofs.Answered.{item_found}
use Rattle.desk_world.proofs.Following.{same_sort}
use Rattle.desk_world.proofs.NamedRows.{Stands, stands}
use Rattle.desk_world.proofs.Replaced.{place_of, rows_replaced, row_changed}
use Rattle.desk_world.proofs.TieLists.{tie_of, put_found, put_others, drop_others}
use Rattle.desk_world.proofs.TieRows.{numbered_here, numbered_anew, others_apart, apart_alike}
use Rattle.desk_world.proofs.TieRows.{ties_stay, tie_comes, tie_goes}
use Rattle.desk_world.proofs.TiesFound.{HasTies}
use Rattle.desk_world.proofs.TiesWritten.{later, then, ties_in_step, ties_plain, then_here}
use Rattle.desk_world.proofs.TiesWritten.{ties_there}

abbrev is_tie : AttributeRow → Bool
is_tie (rows.Plain text) = false
is_tie (rows.Tied sort number) = true

abbrev row_sort : AttributeRow → ItemSort
row_sort (rows.Plain text) = sorts.Node
row_sort (rows.Tied sort number) = sort

pub no_plain_tie : (text : List ℕ) (sort : ItemSort) (n : ℕ)
    → rows.Plain text ≡ rows.Tied sort n → ⊥
no_plain_tie text sort n same = true≢false (sym (ap is_tie same))

-- the world with the change of the attribute
pub record Alters {O : Type 0} (watch : O → Watched) (w after : World O) (name : Name)
    (change : plain.Attribute → plain.Attribute) : Type 0 where
  pub in_step : AreInStep watch after
  pub plain : plain_of watch after ≡ with_attribute (plain_of watch w) name change

module _ {O : Type 0} (watch : O → Watched) (w : World O) (sort : ItemSort) (old now : O)
    (in_step : AreInStep watch w) (has : HasTies watch w sort old)
    (may : MayWrite watch sort (tables_of w sort).ties.0 w.graph old) (held : List Tie)
    (wrote : (watch now).seen ≡ holding (Ties held) (watch old).seen)
    (keeps : HeldFits (watch old).seen.held (facts w.graph.graph.graph sort)
    → HeldFits (watch now).seen.held (facts w.graph.graph.graph sort))
    (attributes : Rows AttributeRow) (name : Name) where
  abbrev table : List (Named AttributeRow)
  table = w.attributes.rows

  abbrev told : AttributeRow → Option plain.Attribute
  told = attribute_seen (ties_seen (look_of watch w) w)

  abbrev pub after : World O
  after = later watch w sort old now in_step has.seen has.plays may held wrote keeps attributes

  abbrev look : Look
  look = then watch w sort old now in_step has.seen has.plays may held wrote keeps attributes

  -- the ties of each sort before
  ties_before : (x : ItemSort)
      → AreOfRows x table (ties_at (look_of watch w x (tables_of w x).ties.0))
  ties_before sorts.Node = in_step.derived.node_ties
  ties_before sorts.Arc = in_step.derived.arc_ties

  own_before : AreOfRows sort table (ties_in (watch old).seen)
  own_before = subst (λ o. AreOfRows sort table (ties_at o)) has.seen (ties_before sort)

  -- the row of the name is another one, and ties of other numbers are as before
  module _ (was row : AttributeRow) (at : Stands table name was) (k : ℕ)
      (place : k ≡ length at.front) (numbered : IsNumbered k row)
      (are : attributes.rows ≡ with_change table name (λ _. row))
      (alike : (n : ℕ) → n ≢ k → tie_of n held ≡ tie_of n (ties_in (watch old).seen))
      (own : AreOfRows sort (at.front ++ under name row ∷ at.back) held)
      (no_other : (other : ItemSort) → (sort ≡ other → ⊥)
      → was ≡ rows.Tied other (length at.front) → ⊥)
      (y : plain.Attribute) (change : plain.Attribute → plain.Attribute)
      (leads : told was ≡ Some y)
      (leads_then : attribute_seen (ties_seen look w) row ≡ Some (change y)) where
    rows_now : attributes.rows ≡ at.front ++ under name row ∷ at.back
    rows_now = rows_replaced table attributes.rows name was row at are

    behind_start : k ≡ 0 + length at.front
    behind_start = omega (arith, place)

    numbers : AreNumbered 0 (at.front ++ under name was ∷ at.back)
    numbers = subst (AreNumbered 0) at.is in_step.derived.numbered

    in_step_now : AreInStep watch after
    in_step_now =
        ties_in_step watch w sort old now in_step has.seen has.plays may held wrote keeps attributes
        (subst (AreNumbered 0) (sym rows_now)
        (numbered_anew name was at.back k row numbered 0 at.front behind_start numbers))
        (subst (λ r. AreOfRows sort r held) (sym rows_now) own)
        (λ other differ. subst (λ r. AreOfRows other r
        (ties_at (look_of watch w other (tables_of w other).ties.0))) (sym rows_now)
        (ties_stay at.front name was row at.back other
        (ties_at (look_of watch w other (tables_of w other).ties.0)) (no_other other differ)
        (subst (λ r. AreOfRows other r
        (ties_at (look_of watch w other (tables_of w other).ties.0))) at.is (ties_before other))))

    same : (x : ItemSort) (n : ℕ) → n ≢ k
        → option_and_then (λ (s : Seen). tied_item n s.held) (ties_seen look w x)
        ≡ option_and_then (λ (s : Seen). tied_item n s.held) (ties_seen (look_of watch w) w x)
    same x n apart = elim (same_sort sort x) [
      | inl is ↦
          subst (λ x. option_and_then (λ (s : Seen). tied_item n s.held) (ties_seen look w x)
          ≡ option_and_then (λ (s : Seen). tied_item n s.held) (ties_seen (look_of watch w) w x)) is
          (ap (option_and_then (λ (s : Seen). tied_item n s.held))
          (then_here watch w sort old now in_step has.seen has.plays may held wrote keeps
          attributes)
          ∙ ap (λ (s : Seen). tied_item n s.held) wrote
          ∙ ap (option_map (λ (t : Tie). t.item)) (alike n apart)
          ∙ sym (ap (option_and_then (λ (s : Seen). tied_item n s.held)) has.seen))
      | inr differ ↦
          ap (option_and_then (λ (s : Seen). tied_item n s.held))
          (ties_there watch w sort old now in_step has.seen has.plays may held wrote keeps
          attributes x differ)
    ]

    plain_now : plain_of watch after ≡ with_attribute (plain_of watch w) name change
    plain_now =
        let apart = others_apart name was at.back k 0 at.front behind_start numbers in
        let alike_rows = apart_alike (ties_seen (look_of watch w) w) (ties_seen look w) k same in
        let led = row_changed told (attribute_seen (ties_seen look w)) name at.front at.back was row
        y change leads leads_then at.before at.behind (alike_rows at.front apart.0)
        (alike_rows at.back apart.1) in
        ties_plain watch w sort old now in_step has.seen has.plays may held wrote keeps attributes
        ∙ ap (λ list. record (plain_of watch w) { attributes = list })
        (ap (looked (attribute_seen (ties_seen look w))) rows_now ∙ led
        ∙ sym (ap (λ t. with_change (looked told t) name change) at.is))

    pub alters : Alters watch w after name change
    alters = record { in_step = in_step_now; plain = plain_now }

-- ---- a tie comes

module _ {O : Type 0} (watch : O → Watched) (w : World O) (sort : ItemSort) (old now : O)
    (ok : IsInStep watch w) (has : HasTies watch w sort old)
    (may : MayWrite watch sort (tables_of w sort).ties.0 w.graph old) (id k : ℕ)
    (wrote : (watch now).seen
    ≡ holding (Ties (with_item tie_id (tie_to k id) (ties_in (watch old).seen))) (watch old).seen)
    (fits : (live : List Fact) → IsTrue (has_id fact_id id live)
    → HeldFits (watch old).seen.held live → HeldFits (watch now).seen.held live)
    (attributes : Rows AttributeRow) (name : Name) (told : TellsItem watch w name sort id) where
  abbrev new_ties : List Tie
  new_ties = with_item tie_id (tie_to k id) (ties_in (watch old).seen)

  pub keeps : HeldFits (watch old).seen.held (facts w.graph.graph.graph sort)
      → HeldFits (watch now).seen.held (facts w.graph.graph.graph sort)
  keeps =
      let world = plain_of watch w in
      fits (facts w.graph.graph.graph sort)
      (live_has w.graph.graph.graph sort ok.seats.graph.valid id
      (item_found world sort told.text id ok.seats.graph.valid told.item).0)

  pub tie_made : NamesDiffer w.attributes.rows
      → position (is_named name) w.attributes.rows ≡ Some k
      → attributes.rows ≡ with_change w.attributes.rows name (λ _. rows.Tied sort k)
      → Alters watch w (after watch w sort old now ok.seats has may new_ties wrote keeps
      attributes name) name (tied (plain_of watch w) sort)
  tie_made differ found are =
      let world = plain_of watch w in
      let at = stands w.attributes.rows name (rows.Plain told.text) differ told.row in
      let place = place_of w.attributes.rows name (rows.Plain told.text) k found at in
      let is = (item_found world sort told.text id ok.seats.graph.valid told.item).1 in
      alters watch w sort old now ok.seats has may new_ties wrote keeps attributes name
      (rows.Plain told.text) (rows.Tied sort k) at k place refl are
      (λ n apart. put_others k id n apart (ties_in (watch old).seen))
      (tie_comes at.front name (rows.Plain told.text) (rows.Tied sort k) at.back sort id k
      (ties_in (watch old).seen) place refl (no_plain_tie told.text sort (length at.front))
      (subst (λ r. AreOfRows sort r (ties_in (watch old).seen)) at.is
      (own_before watch w sort old now ok.seats has may new_ties wrote keeps attributes name)))
      (λ other apart. no_plain_tie told.text other (length at.front))
      (plain.Plain told.text) (tied world sort) refl
      (ap (λ o. option_map (plain.Tied sort)
      (option_and_then (λ (s : Seen). tied_item k s.held) o))
      (then_here watch w sort old now ok.seats has.seen has.plays may new_ties wrote keeps
      attributes)
      ∙ ap (λ (s : Seen). option_map (plain.Tied sort) (tied_item k s.held)) wrote
      ∙ ap (λ o. option_map (plain.Tied sort) (option_map (λ (t : Tie). t.item) o))
      (put_found k id (ties_in (watch old).seen))
      ∙ ap (λ n. Some (plain.Tied sort n)) is)

-- ---- a tie ends

module _ {O : Type 0} (watch : O → Watched) (w : World O) (sort : ItemSort) (old now : O)
    (in_step : AreInStep watch w) (has : HasTies watch w sort old)
    (may : MayWrite watch sort (tables_of w sort).ties.0 w.graph old) (k : ℕ)
    (wrote : (watch now).seen
    ≡ holding (Ties (without_item tie_id k (ties_in (watch old).seen))) (watch old).seen)
    (fits : StillFits (watch old).seen (watch now).seen) (attributes : Rows AttributeRow)
    (name : Name) where
  abbrev left_ties : List Tie
  left_ties = without_item tie_id k (ties_in (watch old).seen)

  pub tie_ended : (text : List ℕ) (id : ℕ) → NamesDiffer w.attributes.rows
      → entry w.attributes.rows name ≡ Some (rows.Tied sort k)
      → attributes.rows ≡ with_change w.attributes.rows name (λ _. rows.Plain text)
      → attribute_seen (ties_seen (look_of watch w) w) (rows.Tied sort k)
      ≡ Some (plain.Tied sort id)
      → text ≡ plain.label_of (plain_of watch w) sort id
      → Alters watch w (after watch w sort old now in_step has may left_ties wrote
      (fits (facts w.graph.graph.graph sort)) attributes name) name
      (λ value. plain.Plain (attribute_text (plain_of watch w) value))
  tie_ended text id differ found are leads is =
      let keeps = fits (facts w.graph.graph.graph sort) in
      let at = stands w.attributes.rows name (rows.Tied sort k) differ found in
      let place : k ≡ length at.front =
      numbered_here name (rows.Tied sort k) at.back (length at.front) 0 at.front
      (omega arith) (subst (AreNumbered 0) at.is in_step.derived.numbered) in
      alters watch w sort old now in_step has may left_ties wrote keeps attributes name
      (rows.Tied sort k) (rows.Plain text) at k place tt are
      (λ n apart. drop_others k n apart (ties_in (watch old).seen))
      (tie_goes at.front name (rows.Tied sort k) (rows.Plain text) at.back sort k
      (ties_in (watch old).seen) place
      (subst (λ r. AreOfRows sort r (ties_in (watch old).seen)) at.is
      (own_before watch w sort old now in_step has may left_ties wrote keeps attributes name)))
      (λ other apart same. apart (ap row_sort same))
      (plain.Tied sort id) (λ value. plain.Plain (attribute_text (plain_of watch w) value)) leads
      (ap (λ t. Some (plain.Plain t)) is)
