-- The attributes of a world by their names.
use Rattle.std.proofs.Common.{◌≡◌, ℕ, List, [], ◌∷◌, map, sym, ap, Option, Some, None, ◌∙◌}
use Rattle.std.proofs.Common.{is_some, not, false, refl}
use Rattle.std.specs.Prelude.{option_map, option_and_then}
use Rattle.std.specs.Option.{option_map_or}
use Rattle.std.proofs.lemmas.Bool.{true≢false}
use Rattle.std.proofs.lemmas.Option.{none-some, same_Some}
use Rattle.base_items.specs.declared.items.ItemSort.{ItemSort}
use Rattle.base_items.specs.declared.items.ItemSort.TheVariants.{Node}
use Rattle.report_text.specs.declared.faults.Fault.{Fault}
use Rattle.report_text.specs.declared.faults.Fault.TheVariants as faults
use Rattle.observe_core.specs.Seen.{Seen, Watched}
use Rattle.plain_world.specs.Tables.{Name, entry}
use Rattle.plain_world.specs.Valid.{NamesDiffer}
use Rattle.plain_world.specs.World as plain
use Rattle.plain_world.specs.Demands as demands
use Rattle.plain_world.specs.Demands.{Demand, item_named, is_tied}
use Rattle.plain_world.specs.Effects.{attribute_text}
use Rattle.plain_world.specs.Refusals.{breach, first_of, unless, unlabelled}
use Rattle.desk_world.specs.declared.tables.AttributeRow.{AttributeRow}
use Rattle.desk_world.specs.declared.tables.AttributeRow.TheVariants as rows
use Rattle.desk_world.specs.declared.world.World.{World}
use Rattle.desk_world.specs.Attributes.{IsTiedTo}
use Rattle.desk_world.specs.Columns.{tied_item}
use Rattle.desk_world.specs.Plain.{plain_of, look_of, attribute_seen, ties_seen}
use Rattle.desk_world.proofs.Replaced.{entry_looked}

abbrev sort_of : plain.Attribute → ItemSort
sort_of (plain.Plain text) = Node
sort_of (plain.Tied sort id) = sort

abbrev id_of : plain.Attribute → ℕ
id_of (plain.Plain text) = 0
id_of (plain.Tied sort id) = id

-- ---- the demands of a tie, by what stands under the name

module _ (world : plain.World) (name : Name) (sort : ItemSort) where
  abbrev pub asked : List Demand
  asked =
      demands.There demands.Attributes name ∷ demands.New demands.TiedAttributes name
      ∷ demands.TellsLabel sort name ∷ []

  abbrev by : Option plain.Attribute → Option Fault
  by o = first_of (unless (is_some o) (faults.Unknown name)
      ∷ unless (not (option_map_or is_tied o false)) (faults.Taken name)
      ∷ option_and_then (unlabelled world sort name) o ∷ [])

  pub none_told : entry world.attributes name ≡ None
      → first_of (map (breach world) asked) ≡ Some (faults.Unknown name)
  none_told is = ap by is

  pub tied_told : (other : ItemSort) (id : ℕ)
      → entry world.attributes name ≡ Some (plain.Tied other id)
      → first_of (map (breach world) asked) ≡ Some (faults.Taken name)
  tied_told other id is = ap by is

  pub no_label_told : (text : List ℕ) → entry world.attributes name ≡ Some (plain.Plain text)
      → item_named world sort text ≡ None
      → first_of (map (breach world) asked) ≡ Some (faults.BadValue name text)
  no_label_told text is none =
      ap by is
      ∙ ap (λ o. first_of (unless (is_some o) (faults.BadValue name text) ∷ [])) none

  pub label_told : (text : List ℕ) (id : ℕ)
      → entry world.attributes name ≡ Some (plain.Plain text)
      → item_named world sort text ≡ Some id → first_of (map (breach world) asked) ≡ None
  label_told text id is found =
      ap by is
      ∙ ap (λ o. first_of (unless (is_some o) (faults.BadValue name text) ∷ [])) found

-- ---- attributes by their rows

module _ {O : Type 0} (watch : O → Watched) (w : World O) (name : Name)
    (differ : NamesDiffer w.attributes.rows) where
  abbrev pub told : AttributeRow → Option plain.Attribute
  told = attribute_seen (ties_seen (look_of watch w) w)

  -- what the row of the name leads to
  pub attribute_entry : (o : Option AttributeRow) → entry w.attributes.rows name ≡ o
      → entry (plain_of watch w).attributes name ≡ option_and_then told o
  attribute_entry o found =
      entry_looked told w.attributes.rows name differ ∙ ap (option_and_then told) found

  pub plain_entry : (text : List ℕ) → entry w.attributes.rows name ≡ Some (rows.Plain text)
      → entry (plain_of watch w).attributes name ≡ Some (plain.Plain text)
  plain_entry text found = attribute_entry (Some (rows.Plain text)) found

  pub tied_entry : (sort : ItemSort) (number : ℕ) (id : Option ℕ)
      → entry w.attributes.rows name ≡ Some (rows.Tied sort number)
      → told (rows.Tied sort number) ≡ option_map (plain.Tied sort) id
      → entry (plain_of watch w).attributes name ≡ option_map (plain.Tied sort) id
  tied_entry sort number id found is = attribute_entry (Some (rows.Tied sort number)) found ∙ is

  -- the text of the attribute is that of the row
  pub text_told : (o : Option AttributeRow) → entry w.attributes.rows name ≡ o
      → (text : Option (List ℕ))
      → text ≡ option_map (attribute_text (plain_of watch w)) (option_and_then told o)
      → text ≡ option_map (attribute_text (plain_of watch w))
      (entry (plain_of watch w).attributes name)
  text_told o found text is =
      is ∙ ap (option_map (attribute_text (plain_of watch w))) (sym (attribute_entry o found))

  -- a tied attribute has a row of a tie, which leads to its item
  pub record HasTie (text : List ℕ) (sort : ItemSort) (number : ℕ) : Type 0 where
    pub id : ℕ
    pub leads : told (rows.Tied sort number) ≡ Some (plain.Tied sort id)
    pub label_is : text ≡ plain.label_of (plain_of watch w) sort id

  pub tie_leads : (text : List ℕ) (sort : ItemSort) (number : ℕ)
      → entry w.attributes.rows name ≡ Some (rows.Tied sort number)
      → IsTiedTo (plain_of watch w) name text → HasTie text sort number
  tie_leads text sort number found is =
      by (told (rows.Tied sort number)) refl
      (sym (attribute_entry (Some (rows.Tied sort number)) found) ∙ is.tied)
      (ties_of sort number)
    where
      by : (o : Option plain.Attribute) → told (rows.Tied sort number) ≡ o
          → o ≡ Some (plain.Tied is.sort is.id)
          → (id : Option ℕ) × (told (rows.Tied sort number) ≡ option_map (plain.Tied sort) id)
          → HasTie text sort number
      by o leads same (None, none) =
          absurd (none-some (plain.Tied is.sort is.id) (sym none ∙ leads ∙ same))
      by o leads same (Some id, some) =
          let attribute = same_Some (plain.Tied sort id) (plain.Tied is.sort is.id)
          (sym some ∙ leads ∙ same) in
          let sorts_agree = ap sort_of attribute in
          let ids_agree = ap id_of attribute in
          record {
            id = id;
            leads = some;
            label_is = is.label_is
                ∙ sym (λ i. plain.label_of (plain_of watch w) (sorts_agree i) (ids_agree i));
          }

      ties_of : (x : ItemSort) (n : ℕ)
          → (id : Option ℕ) × (told (rows.Tied x n) ≡ option_map (plain.Tied x) id)
      ties_of x n = (
        option_and_then (λ (s : Seen). tied_item n s.held)
            (ties_seen (look_of watch w) w x),
        refl,
      )

  -- so neither is the row that of a plain text, nor is there none
  pub plain_untied : (text : List ℕ) → IsTiedTo (plain_of watch w) name text → (own : List ℕ)
      → entry w.attributes.rows name ≡ Some (rows.Plain own) → ⊥
  plain_untied text is own found =
      true≢false (sym (ap is_tied (same_Some (plain.Plain own) (plain.Tied is.sort is.id)
      (sym (plain_entry own found) ∙ is.tied))))

  pub none_untied : (text : List ℕ) → IsTiedTo (plain_of watch w) name text
      → entry w.attributes.rows name ≡ None → ⊥
  none_untied text is found =
      none-some (plain.Tied is.sort is.id) (sym (attribute_entry None found) ∙ is.tied)
