-- The values of a map as ones of another type, item by item.
use Rattle.std.proofs.Common.{◌≡◌, ℕ, Bool, true, false, cond, List, [], ◌∷◌, ◌++◌, map, not, refl}
use Rattle.std.proofs.Common.{sym, ap, subst, Some, None, ◌∙◌, inl, inr}
use Rattle.std.specs.Prelude.{◌||◌, IsTrue, find, fold, unwrap_or, pos}
use Rattle.std.specs.Cmp.{nat_cmp_total}
use Rattle.std.specs.FinMap as fin
use Rattle.std.specs.Option.{option_or}
use Rattle.std.proofs.lemmas.Bool.{cases_eq, eq-eqb, ne_eqb}
use Rattle.std.proofs.lemmas.List.Folds.{find-append}
use Rattle.std.proofs.lemmas.List.Sums.{fold-append}
use Rattle.base_items.specs.declared.items.Fact.{Fact}
use Rattle.base_items.specs.declared.items.ItemSort.{ItemSort}
use Rattle.script_words.specs.declared.commands.MapType.{MapType}
use Rattle.script_words.specs.declared.commands.MapType.TheVariants as types
use Rattle.plain_digraph.specs.Facts.{fact_id}
use Rattle.plain_digraph.specs.Lists.{has}
use Rattle.plain_digraph.proofs.Keys.{ties_same, ties_other}
use Rattle.observe_core.specs.Fits.{HeldFits}
use Rattle.observe_core.specs.Held as held
use Rattle.observe_core.specs.Held.{entry_id, making_of}
use Rattle.observe_core.specs.Items.{has_id, number_id}
use Rattle.observe_core.specs.Seen.{Seen}
use Rattle.plain_world.specs.Effects.{new_map}
use Rattle.plain_world.specs.Values.{column_of, spelled, spells, written_at, default_text, type_of}
use Rattle.plain_world.specs.Values.{int_of, bool_of}
use Rattle.plain_world.specs.World as plain
use Rattle.plain_world.specs.World.{World, Column, live}
use Rattle.desk_seats.specs.Contents.{holding, StillFits, among, ints_among, bools_among}
use Rattle.desk_seats.specs.Contents.{texts_among}
use Rattle.desk_world.specs.declared.values.Value.{Value}
use Rattle.desk_world.specs.declared.values.Value.TheVariants as values
use Rattle.desk_world.specs.Claims as claims
use Rattle.desk_world.specs.Claims.{Plays, role_of}
use Rattle.desk_world.specs.Plain.{held_by}
use Rattle.desk_world.specs.Retyping.{IsMapOf}
use Rattle.desk_world.specs.Values.{HasItem, Spells, kind_for, type_for, held_with}
use Rattle.desk_world.proofs.AsMade.{as_values}
use Rattle.desk_world.proofs.ColumnValues.{at_values}
use Rattle.desk_world.proofs.Columns.{same_column}
use Rattle.desk_world.proofs.LiveEntries.{by_ids}
use Rattle.desk_world.proofs.MapCommands.{same_written}
use Rattle.desk_world.proofs.MapsWritten.{held_put, made_with, made_values, own_role}

-- ---- columns

module _ {X : Type 0} (value : ℕ → X) where
  -- the column with values for these items
  abbrev with_values : Column X → List ℕ → Column X
  with_values m items = fold (λ n id. fin.insert n id (value id)) m items

  at_with : (items : List ℕ) (m : Column X) (q : ℕ)
      → fin.get (with_values m items) q ≡ cond (has items q) (Some (value q)) (fin.get m q)
  at_with [] m q = refl
  at_with (id ∷ items) m q =
      at_with items (fin.insert m id (value id)) q
      ∙ ap (cond (has items q) (Some (value q))) (fin.get-insert nat_cmp_total m id (value id) q)
      ∙ elim (cases_eq q id) [
        | inl same ↦
            ap (λ t. cond (has items q) (Some (value q)) (cond t (Some (value id)) (fin.get m q)))
            (ties_same q id same)
            ∙ ap (λ n. cond (has items q) (Some (value q)) (Some (value n))) (sym same)
            ∙ either (has items q)
            ∙ sym (ap (λ b. cond (b || has items q) (Some (value q)) (fin.get m q))
            (eq-eqb id q (sym same)))
        | inr other ↦
            ap (λ t. cond (has items q) (Some (value q)) (cond t (Some (value id)) (fin.get m q)))
            (ties_other q id other)
            ∙ sym (ap (λ b. cond (b || has items q) (Some (value q)) (fin.get m q))
            (ne_eqb id q (λ e. other (sym e))))
      ]
    where
      either : (b : Bool) → cond b (Some (value q)) (Some (value q)) ≡ Some (value q)
      either true = refl
      either false = refl

-- where each of the items gets its value, it doesn't matter what they had
all_values : {X : Type 0} (value before : ℕ → X) (items : List ℕ)
    → with_values value (column_of items before) items ≡ column_of items value
all_values value before items =
    same_column (with_values value (column_of items before) items) (column_of items value)
    (λ q. at_with value items (column_of items before) q
    ∙ ap (cond (has items q) (Some (value q))) (at_values before items q)
    ∙ elim (has items q) as (λ b. cond b (Some (value q)) (cond b (Some (before q)) None)
    ≡ cond b (Some (value q)) None) [
      | true ↦ refl
      | false ↦ refl
    ]
    ∙ sym (at_values value items q))

-- ---- maps

-- what the map has where the texts are written to these items
abbrev pub write_all : (ℕ → List ℕ) → plain.Held → List ℕ → plain.Held
write_all text map items = fold (λ h id. written_at h id (text id)) map items

module _ (text : ℕ → List ℕ) where
  write_ints : (items : List ℕ) (m : Column _) → write_all text (plain.Ints m) items
      ≡ plain.Ints (with_values (λ id. unwrap_or (int_of (text id)) (pos 0)) m items)
  write_ints [] m = refl
  write_ints (id ∷ items) m =
      write_ints items (fin.insert m id (unwrap_or (int_of (text id)) (pos 0)))

  write_bools : (items : List ℕ) (m : Column _) → write_all text (plain.Bools m) items
      ≡ plain.Bools (with_values (λ id. unwrap_or (bool_of (text id)) false) m items)
  write_bools [] m = refl
  write_bools (id ∷ items) m =
      write_bools items (fin.insert m id (unwrap_or (bool_of (text id)) false))

  write_texts : (items : List ℕ) (m : Column _) → write_all text (plain.Texts m) items
      ≡ plain.Texts (with_values text m items)
  write_texts [] m = refl
  write_texts (id ∷ items) m = write_texts items (fin.insert m id (text id))

  -- a new map to whose items all texts were written
  pub all_written : (type : MapType) (items : List ℕ)
      → write_all text (spelled type items (λ id. default_text type)) items
      ≡ spelled type items text
  all_written types.Ints items =
      write_ints items
      (column_of items (λ id. unwrap_or (int_of (default_text types.Ints)) (pos 0)))
      ∙ ap plain.Ints (all_values (λ id. unwrap_or (int_of (text id)) (pos 0))
      (λ id. unwrap_or (int_of (default_text types.Ints)) (pos 0)) items)
  all_written types.Bools items =
      write_bools items
      (column_of items (λ id. unwrap_or (bool_of (default_text types.Bools)) false))
      ∙ ap plain.Bools (all_values (λ id. unwrap_or (bool_of (text id)) false)
      (λ id. unwrap_or (bool_of (default_text types.Bools)) false) items)
  all_written types.Texts items =
      write_texts items (column_of items (λ id. default_text types.Texts))
      ∙ ap plain.Texts (all_values text (λ id. default_text types.Texts) items)

-- ---- observers of maps

-- a map has a value for each item that it stands for
module _ (live : List Fact) (id : ℕ) (there : IsTrue (has_id fact_id id live)) where
  has_id_there : {V : Type 0} (es : List (held.Entry V)) → map entry_id es ≡ map fact_id live
      → IsTrue (has_id entry_id id es)
  has_id_there es ids =
      subst IsTrue (sym (by_ids entry_id id es ∙ ap (has_id number_id id) ids
      ∙ sym (by_ids fact_id id live))) there

  pub map_has : (value : Value) (s : Seen) → Plays (own_role value) s → HeldFits s.held live
      → HasItem value id s
  map_has (values.Int v) s plays fits =
      let h = as_values held.Ints s.held plays.making in
      subst (λ x. IsTrue (has_id entry_id id (among ints_among x))) (sym h.is)
      (has_id_there h.entries (subst (λ x. HeldFits x live) h.is fits))
  map_has (values.Bool v) s plays fits =
      let h = as_values held.Bools s.held plays.making in
      subst (λ x. IsTrue (has_id entry_id id (among bools_among x))) (sym h.is)
      (has_id_there h.entries (subst (λ x. HeldFits x live) h.is fits))
  map_has (values.Text v) s plays fits =
      let h = as_values held.Texts s.held plays.making in
      subst (λ x. IsTrue (has_id entry_id id (among texts_among x))) (sym h.is)
      (has_id_there h.entries (subst (λ x. HeldFits x live) h.is fits))

type_held : (type : MapType) (h : held.Held) → type_of (held_by (kind_for type) h) ≡ Some type
type_held types.Ints h = refl
type_held types.Bools h = refl
type_held types.Texts h = refl

module _ (world : World) (sort : ItemSort) (type : MapType) (facts : List Fact)
    (text : ℕ → List ℕ) where
  -- the map has the values that the texts of these items spell, and the default at the others
  pub record Respells (items : List ℕ) (s : Seen) : Type 0 where
    pub is_map : IsMapOf type facts s
    pub spelled : find (λ id. not (spells type (text id))) items ≡ None
    pub holds : held_by (kind_for type) s.held ≡ write_all text (new_map world sort type) items

  module _ (items : List ℕ) (id : ℕ) (s now : Seen) (value : Value) (own : type_for value ≡ type)
      (done : Respells items s) (has : HasItem value id s) (ok : spells type (text id) ≡ true)
      (is : Spells (text id) value) (wrote : now ≡ holding (held_with value id s) s)
      (fits : StillFits s now) where
    role : Plays (own_role value) s
    role = subst (λ t. Plays (role_of (kind_for t)) s) (sym own) done.is_map.role

    put : held_by (kind_for type) (held_with value id s)
        ≡ written_at (held_by (kind_for type) s.held) id (text id)
    put =
        subst (λ t. held_by (kind_for t) (held_with value id s)
        ≡ written_at (held_by (kind_for t) s.held) id (text id)) own
        (held_put value id s has
        ∙ same_written value (text id) id (held_by (kind_for (type_for value)) s.held)
        (type_held (type_for value) s.held) is)

    -- the value of one item more
    pub respells_more : Respells (items ++ id ∷ []) now
    respells_more = record {
      is_map = record {
        role = record {
          form = ap (λ (x : Seen). x.form) wrote ∙ done.is_map.role.form;
          making = ap (λ (x : Seen). making_of x.held) wrote ∙ made_with value id s
              ∙ sym (made_values value s role) ∙ done.is_map.role.making;
          kind = ap (λ (x : Seen). claims.is_map x.kind) wrote ∙ done.is_map.role.kind;
        };
        fits = fits facts done.is_map.fits;
      };
      spelled = find-append (λ id. not (spells type (text id))) items (id ∷ [])
          ∙ (λ i. option_or (done.spelled i) (cond (not (ok i)) (Some id) None));
      holds = ap (λ (x : Seen). held_by (kind_for type) x.held) wrote
          ∙ put
          ∙ ap (λ h. written_at h id (text id)) done.holds
          ∙ sym (fold-append (λ h id. written_at h id (text id)) (new_map world sort type) items
          (id ∷ []));
    }

  -- those of all items
  pub respells_all : (s : Seen) → Respells (live world sort) s
      → held_by (kind_for type) s.held ≡ spelled type (live world sort) text
  respells_all s done = done.holds ∙ all_written text type (live world sort)
