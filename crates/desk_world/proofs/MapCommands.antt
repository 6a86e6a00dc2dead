-- What the commands on maps answer.
use Rattle.std.proofs.Common.{◌≡◌, ℕ, ◌+◌, ◌≤◌, ◌^◌, true, false, cond, not, List, []}
use Rattle.std.proofs.Common.{◌∷◌}
use Rattle.std.proofs.Common.{map, refl, sym, ap, subst, Option, Some, None, ◌∙◌, All, arith}
use Rattle.std.specs.Prelude.{option_and_then, unwrap_or, pos}
use Rattle.std.specs.FinMap as fin
use Rattle.std.specs.Option.{option_or}
use Rattle.std.specs.Str.{bytes_eq}
use Rattle.std.proofs.lemmas.List.Elements.{All-head, All-tail}
use Rattle.std.proofs.lemmas.Option.{none-some, same_Some}
use Rattle.base_items.specs.declared.items.ItemSort.{ItemSort}
use Rattle.base_items.specs.declared.items.ItemSort.TheVariants as sorts
use Rattle.base_items.specs.declared.limits.TheConstants.{MAX_STAMP}
use Rattle.lgf_file.specs.Documents.{label as label_column}
use Rattle.script_words.specs.declared.commands.Command.TheVariants as command
use Rattle.script_words.specs.declared.commands.MapType.{MapType}
use Rattle.script_words.specs.Slots.{is_dash}
use Rattle.report_text.specs.declared.faults.Fault.TheVariants as faults
use Rattle.report_text.specs.declared.replies.Reply.TheVariants.{Quiet}
use Rattle.plain_world.specs.Tables.{Name, Named, under, is_named, entry, with_change}
use Rattle.plain_world.specs.Tables.{without_entry}
use Rattle.plain_world.specs.World as plain
use Rattle.plain_world.specs.World.{attached, Held}
use Rattle.plain_world.specs.Altering.{item_at}
use Rattle.plain_world.specs.Demands as demand
use Rattle.plain_world.specs.Demands.{item_named}
use Rattle.plain_world.specs.Effects.{with_map, with_maps, with_map_changed, new_map}
use Rattle.plain_world.specs.Refusals.{breach, unless}
use Rattle.plain_world.specs.Steps.{Step}
use Rattle.plain_world.specs.Valid.{IsWorld}
use Rattle.plain_world.specs.Values.{type_of, spells, written_at}
use Rattle.plain_world.specs.Views.{map_of}
use Rattle.plain_world.specs.declared.answers.Answer.TheVariants.{Answered}
use Rattle.plain_world.proofs.CommandsKept.{commands_kept}
use Rattle.plain_world.proofs.Named.{attached_ok}
use Rattle.plain_world.proofs.TableChanges.{own_entry}
use Rattle.desk_world.specs.declared.values.Value.{Value}
use Rattle.desk_world.specs.declared.values.Value.TheVariants as values
use Rattle.desk_world.specs.Values.{HasType, Spells, type_for, put_at, new_map_command}

-- the stamps that are left are enough for a command that takes none
pub left : (world : plain.World) → world.graph.stamps + 2 ^ 24 ≤ MAX_STAMP
    → world.graph.stamps + 0 ≤ MAX_STAMP
left world enough = omega (arith, enough)

-- ---- a new map

module _ (world later : plain.World) (name : Name) (type : MapType) where
  pub new_map_step : (sort : ItemSort) → breach world (demand.New (demand.Maps sort) name) ≡ None
      → later ≡ with_map world sort name (new_map world sort type)
      → Step world (new_map_command sort name type) (Answered Quiet) later
  new_map_step sorts.Node new made = (ap (λ o. option_or (option_or o None) None) new, (refl, made))
  new_map_step sorts.Arc new made = (ap (λ o. option_or (option_or o None) None) new, (refl, made))

  -- it leaves a valid world
  pub new_map_valid : (sort : ItemSort) → IsWorld world → is_dash name ≡ false
      → world.graph.stamps + 2 ^ 24 ≤ MAX_STAMP
      → Step world (new_map_command sort name type) (Answered Quiet) later → IsWorld later
  new_map_valid sorts.Node ok valid enough step =
      commands_kept world later (command.NodeMap name type) (Answered Quiet) ok valid
      (left world enough) step
  new_map_valid sorts.Arc ok valid enough step =
      commands_kept world later (command.ArcMap name type) (Answered Quiet) ok valid
      (left world enough) step

-- ---- a value that is written

-- changes that are alike where the name stands
pub change_alike : {X : Type 0} (table : List (Named X)) (name : Name) (f g : X → X) (x : X)
    → All (λ e. is_named name e ≡ true → entry table name ≡ Some e.value) table
    → entry table name ≡ Some x → f x ≡ g x
    → with_change table name f ≡ with_change table name g
change_alike {X} table name f g x own found same = each table own
  where
    Own : Named X → Type 0
    Own e = is_named name e ≡ true → entry table name ≡ Some e.value

    each : (rows : List (Named X)) → All Own rows
        → with_change rows name f ≡ with_change rows name g
    each [] all = refl
    each (e ∷ rows) all =
        let rest = each rows (All-tail Own e rows all) in
        elim (is_named name e) as (λ b. is_named name e ≡ b
        → cond b (under e.name (f e.value)) e ∷ with_change rows name f
        ≡ cond b (under e.name (g e.value)) e ∷ with_change rows name g) [
          | true ↦ λ is.
              let here : x ≡ e.value =
              same_Some x e.value (sym found ∙ All-head Own e rows all is) in
              λ i. under e.name (subst (λ y. f y ≡ g y) here same i) ∷ rest i
          | false ↦ λ is. ap (λ more. e ∷ more) rest
        ] refl

-- the text of a value is written as the value
pub same_written : (value : Value) (text : List ℕ) (id : ℕ) (held : Held)
    → type_of held ≡ Some (type_for value) → Spells text value
    → put_at value id held ≡ written_at held id text
same_written (values.Int v) text id (plain.Ints m) is spelled =
    ap (λ o. plain.Ints (fin.insert m id (unwrap_or o (pos 0)))) (sym spelled)
same_written (values.Bool v) text id (plain.Bools m) is spelled =
    ap (λ o. plain.Bools (fin.insert m id (unwrap_or o false))) (sym spelled)
same_written (values.Text v) text id (plain.Texts m) is spelled =
    ap (λ t. plain.Texts (fin.insert m id t)) spelled
same_written (values.Int v) text id (plain.Bools m) is spelled = absurd (cc)
same_written (values.Int v) text id (plain.Texts m) is spelled = absurd (cc)
same_written (values.Bool v) text id (plain.Ints m) is spelled = absurd (cc)
same_written (values.Bool v) text id (plain.Texts m) is spelled = absurd (cc)
same_written (values.Text v) text id (plain.Ints m) is spelled = absurd (cc)
same_written (values.Text v) text id (plain.Bools m) is spelled = absurd (cc)
same_written value text id (plain.Degrees way) is spelled = absurd (none-some (type_for value) is)
same_written value text id (plain.Trues map) is spelled = absurd (none-some (type_for value) is)

module _ (world : plain.World) (sort : ItemSort) (map item text : Name) (type : MapType)
    (typed : HasType world sort map type) where
  -- whether the text spells a value is asked of the map's own type
  pub asked_type : breach world (demand.Spells sort map item text)
      ≡ unless (spells type text) (faults.BadValue item text)
  asked_type =
      ap (option_and_then (λ type. unless (spells type text) (faults.BadValue item text))) typed

  typed_held : (o : Option Held) → option_and_then type_of o ≡ Some type
      → (held : Held) × (o ≡ Some held) × (type_of held ≡ Some type)
  typed_held None is = absurd (none-some type is)
  typed_held (Some held) is = (held, refl, is)

  module _ (later : plain.World) (value : Value) (id : ℕ) (ok : IsWorld world)
      (there : breach world (demand.There (demand.Maps sort) map) ≡ None)
      (listed : breach world (demand.There (demand.Labels sort) item) ≡ None)
      (values_there : breach world (demand.HasValues sort map) ≡ None)
      (named : item_named world sort item ≡ Some id) (spelled : spells type text ≡ true)
      (is : Spells text value) (own : type_for value ≡ type)
      (written : later ≡ with_map_changed world sort map (put_at value id)) where
    at_item : item_at world sort item ≡ id
    at_item = ap (λ o. unwrap_or o 0) named

    same_change : with_map_changed world sort map (put_at value id)
        ≡ with_map_changed world sort map (λ held. written_at held (item_at world sort item) text)
    same_change =
        let found = typed_held (map_of world sort map) typed in
        let held = found.0 in
        ap (with_maps world sort)
        (change_alike (attached world sort).maps map (put_at value id)
        (λ held. written_at held (item_at world sort item) text) held
        (own_entry (attached world sort).maps map (attached_ok world sort ok).names_differ)
        found.1
        (same_written value text id held (found.2 ∙ ap Some (sym own)) is
        ∙ ap (λ n. written_at held n text) (sym at_item)))

    pub set_step : Step world (command.Set sort map item text) (Answered Quiet) later
    set_step = (
      (λ i. option_or (option_or (there i) (option_or (listed i) (option_or (values_there i)
          (option_or ((asked_type ∙ ap (λ b. unless b (faults.BadValue item text)) spelled) i)
          None)))) None),
      (refl, written ∙ same_change),
    )

-- ---- a map that is dropped

module _ (world later : plain.World) (sort : ItemSort) (name : Name) where
  pub drop_step : breach world (demand.There (demand.Maps sort) name) ≡ None
      → bytes_eq name label_column ≡ false
      → breach world (demand.NoneReads sort name) ≡ None
      → later ≡ with_maps world sort (without_entry (attached world sort).maps name)
      → Step world (command.DropMap sort name) (Answered Quiet) later
  drop_step there apart unread gone = (
    (λ i. option_or (option_or (there i)
        (option_or (unless (not (apart i)) (faults.WrongType name))
        (option_or (unread i) None))) None),
    (refl, gone),
  )
