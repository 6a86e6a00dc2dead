-- What is told of a map's value.
use Rattle.std.proofs.Common.{◌≡◌, ℕ, true, false, cond, List, [], map, refl, sym, ap}
use Rattle.std.proofs.Common.{Option, Some, None, ◌∙◌}
use Rattle.std.specs.Prelude.{option_map, unwrap_or, Ok}
use Rattle.std.specs.Str.{bytes_eq}
use Rattle.std.specs.Option.{option_map_or, option_or}
use Rattle.std.proofs.lemmas.Bool.{true≢false}
use Rattle.std.proofs.lemmas.Option.{same_Some}
use Rattle.base_items.specs.declared.items.ItemSort.{ItemSort}
use Rattle.lgf_file.specs.Documents.{label as label_column}
use Rattle.script_words.specs.declared.commands.Command.TheVariants as commands
use Rattle.report_text.specs.declared.replies.Reply.TheVariants as replies
use Rattle.observe_core.specs.Held as held
use Rattle.observe_core.specs.Seen.{Watched}
use Rattle.plain_world.specs.Tables.{Name, entry}
use Rattle.plain_world.specs.World as plain
use Rattle.plain_world.specs.World.{label_of}
use Rattle.plain_world.specs.Demands as demands
use Rattle.plain_world.specs.Demands.{item_named}
use Rattle.plain_world.specs.Refusals.{breach}
use Rattle.plain_world.specs.Replies.{value_reply, told_at}
use Rattle.plain_world.specs.Values.{text_at}
use Rattle.plain_world.specs.Views.{map_of}
use Rattle.desk_world.specs.declared.tables.MapKind.{MapKind}
use Rattle.desk_world.specs.declared.tables.MapKind.TheVariants as maps
use Rattle.desk_world.specs.declared.tables.MapRow.{MapRow}
use Rattle.desk_world.specs.declared.world.World.{World}
use Rattle.desk_world.specs.Faults.{Answers}
use Rattle.desk_world.specs.InStep.{AreInStep, has_values}
use Rattle.desk_world.specs.Plain.{plain_of, look_of, tables_of, map_seen, held_by}
use Rattle.desk_world.proofs.MapsFound.{map_found, map_missing, leads_held}

-- of a map of values its text is told
told_text : (world : plain.World) (sort : ItemSort) (kind : MapKind) (h : held.Held) (id : ℕ)
    → has_values kind ≡ true → told_at world sort (held_by kind h) id ≡ text_at (held_by kind h) id
told_text world sort maps.Ints h id has = refl
told_text world sort maps.Bools h id has = refl
told_text world sort maps.Texts h id has = refl
told_text world sort (maps.Degrees way) h id has = absurd (true≢false (sym has))
told_text world sort (maps.Trues map) h id has = absurd (true≢false (sym has))

module _ {O : Type 0} (watch : O → Watched) (w : World O) (sort : ItemSort) (name : Name) (id : ℕ)
  where
    abbrev world : plain.World
    world = plain_of watch w

    abbrev value_of : Option plain.Held → List ℕ
    value_of found = option_map_or (λ h. told_at world sort h id) found []

    -- of the map `label` it is the item's own label
    pub reply_label : bytes_eq name label_column ≡ true
        → value_reply world sort name id ≡ label_of world sort id
    reply_label is =
        ap (λ b. cond b (label_of world sort id) (value_of (map_of world sort name))) is

    -- where there is no map of the name, it is empty
    pub reply_missing : AreInStep watch w → bytes_eq name label_column ≡ false
        → entry (tables_of w sort).maps.rows name ≡ None → value_reply world sort name id ≡ []
    reply_missing in_step is found =
        ap (λ b. cond b (label_of world sort id) (value_of (map_of world sort name))) is
        ∙ ap value_of (map_missing watch w in_step sort name found)

    -- else it is what is told of the map of the row
    pub reply_told : AreInStep watch w → bytes_eq name label_column ≡ false → (row : MapRow)
        → entry (tables_of w sort).maps.rows name ≡ Some row → (text : List ℕ)
        → option_map (λ h. told_at world sort h id) (map_seen (look_of watch w) sort row)
        ≡ Some text
        → text ≡ value_reply world sort name id
    reply_told in_step is row found text told =
        let has = map_found watch w in_step sort name row found in
        let held : plain.Held = held_by row.kind has.leads.seen.held in
        let same : told_at world sort held id ≡ text =
        same_Some (told_at world sort held id) text
        (sym (ap (option_map (λ h. told_at world sort h id))
        (leads_held (look_of watch w) sort row has.leads)) ∙ told) in
        sym (ap (λ b. cond b (label_of world sort id) (value_of (map_of world sort name))) is
        ∙ ap value_of has.held
        ∙ same)

    -- which is its text, if it is a map of values
    pub reply_row : AreInStep watch w → bytes_eq name label_column ≡ false → (row : MapRow)
        → entry (tables_of w sort).maps.rows name ≡ Some row → has_values row.kind ≡ true
        → (text : List ℕ)
        → option_map (λ (h : plain.Held). text_at h id) (map_seen (look_of watch w) sort row)
        ≡ Some text
        → text ≡ value_reply world sort name id
    reply_row in_step is row found values text told =
        let has = map_found watch w in_step sort name row found in
        let held = leads_held (look_of watch w) sort row has.leads in
        reply_told in_step is row found text
        (ap (option_map (λ h. told_at world sort h id)) held
        ∙ ap Some (told_text world sort row.kind has.leads.seen.held id values)
        ∙ sym (ap (option_map (λ (h : plain.Held). text_at h id)) held)
        ∙ told)

-- the answer of `get`
pub told_value : (world : plain.World) (sort : ItemSort) (name item : Name) (id : ℕ)
    (text : List ℕ)
    → breach world (demands.There (demands.Maps sort) name) ≡ None
    → breach world (demands.There (demands.Labels sort) item) ≡ None
    → item_named world sort item ≡ Some id → text ≡ value_reply world sort name id
    → Answers world (commands.Get sort name item) world (Ok (replies.Value text))
told_value world sort name item id text there found named is = (
  λ i. option_or (option_or (there i) (option_or (found i) None)) None,
  (
    ap replies.Value
        (is ∙ ap (λ o. value_reply world sort name (unwrap_or o 0)) (sym named)),
    refl,
  ),
)
