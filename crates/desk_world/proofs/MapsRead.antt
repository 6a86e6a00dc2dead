-- What the map of a row has at a live item, as text.
use Rattle.std.proofs.Common.{◌≡◌, ℕ, ℤ, Bool, true, false, List, [], ◌∷◌, map, sym, ap, subst}
use Rattle.std.proofs.Common.{Some, None, ◌∙◌, Contains, zero, suc, arith}
use Rattle.std.specs.Prelude.{IsTrue, option_map, unwrap_or, pos}
use Rattle.std.specs.Fmt.{signed_decimal}
use Rattle.std.proofs.lemmas.Option.{none-some, same_Some}
use Rattle.base_items.specs.declared.items.ItemSort.{ItemSort}
use Rattle.plain_digraph.specs.Lists.{AllOf}
use Rattle.plain_digraph.specs.Items.{IsLive}
use Rattle.observe_core.specs.Held as held
use Rattle.observe_core.specs.Held.{Entry, ValueOf, entry_id, IsHeldSound, making_of}
use Rattle.observe_core.specs.Items.{has_id, rises_from}
use Rattle.observe_core.specs.Seen.{Seen, Watched}
use Rattle.notify_chain.specs.Seats.{find_seat, seat_seen}
use Rattle.alter_graph.specs.Chains.{ChainsSeen, chains_seen, seats_in}
use Rattle.value_maps.specs.Entries.{HasValue}
use Rattle.plain_world.specs.Tables.{Named}
use Rattle.plain_world.specs.Values.{text_at, bool_text, int_at, bool_at}
use Rattle.plain_world.specs.World as plain
use Rattle.desk_seats.specs.Contents.{among, ints_among, bools_among, texts_among}
use Rattle.desk_seats.specs.Contents.{ints_in, bools_in, texts_in}
use Rattle.desk_seats.specs.Forms as forms
use Rattle.desk_seats.specs.Forms.{HasForm}
use Rattle.desk_world.specs.declared.tables.MapKind.{MapKind}
use Rattle.desk_world.specs.declared.tables.MapKind.TheVariants as maps
use Rattle.desk_world.specs.declared.tables.MapRow.{MapRow}
use Rattle.desk_world.specs.declared.world.World.{World}
use Rattle.desk_world.specs.Claims.{Plays, role_of, form_of, made_for}
use Rattle.desk_world.specs.InStep.{AreInStep, has_values}
use Rattle.desk_world.specs.Plain.{look_of, tables_of, map_seen, held_by}
use Rattle.desk_world.proofs.AsMade.{as_values}
use Rattle.desk_world.proofs.Found.{has_value}
use Rattle.desk_world.proofs.LiveEntries.{live_entry}
use Rattle.desk_world.proofs.MapsFound.{Leads, own_sort, leads_held, rows_lead}
use Rattle.desk_world.proofs.Seated.{seen_there, none_there}

-- what holds of all values of a table holds of each
pub of_value : {X : Type 0} (P : X → Type 0) (table : List (Named X)) (x : X)
    → AllOf (λ (e : Named X). P e.value) table → Contains (map (λ (e : Named X). e.value) table) x
    → P x
of_value P [] x all (k, within, is) = absurd (omega (arith, within))
of_value P (e ∷ es) x all (zero, within, is) = subst P is all.0
of_value P (e ∷ es) x all (suc k, within, is) =
    of_value P es x all.1 (k, omega (arith, within), is)

module _ {O : Type 0} (watch : O → Watched) (w : World O) (sort : ItemSort) (row : MapRow) where
  abbrev c : ChainsSeen
  c = chains_seen watch w.graph.chains

  -- the observer is that to which the row of a map of values leads
  pub record HasMap (seat : O) : Type 0 where
    pub plays : Plays (role_of row.kind) (watch seat).seen
    pub seen : look_of watch w sort row.key.0 ≡ Some (watch seat).seen
    pub held : map_seen (look_of watch w) sort row ≡ Some (held_by row.kind (watch seat).seen.held)

  abbrev pub IsRow : Type 0
  IsRow = Contains (map (λ (e : Named MapRow). e.value) (tables_of w sort).maps.rows) row

  pub row_leads : AreInStep watch w → IsRow → Leads (look_of watch w) sort row
  row_leads in_step listed =
      of_value (λ row. Leads (look_of watch w) sort row) (tables_of w sort).maps.rows row
      (rows_lead watch w in_step sort) listed

  there : (in_step : AreInStep watch w) (listed : IsRow) → has_values row.kind ≡ true
      → look_of watch w sort row.key.0 ≡ Some (row_leads in_step listed).seen
  there in_step listed values =
      subst (λ s. look_of watch w s row.key.0 ≡ Some (row_leads in_step listed).seen)
      (own_sort sort row.kind values) (row_leads in_step listed).there

  pub map_seat : (seat : O) → AreInStep watch w → IsRow → has_values row.kind ≡ true
      → seat_seen watch row.key.0 (Some seat) ≡ find_seat row.key.0 (seats_in sort c)
      → HasMap seat
  map_seat seat in_step listed values found =
      let leads = row_leads in_step listed in
      let seen = seen_there watch c sort row.key.0 seat found in
      let same = same_Some leads.seen (watch seat).seen
      (sym (there in_step listed values) ∙ seen) in
      record {
        plays = subst (Plays (role_of row.kind)) same leads.plays;
        seen = seen;
        held = leads_held (look_of watch w) sort row leads
            ∙ ap (λ s. Some (held_by row.kind s.held)) same;
      }

  pub map_seated : AreInStep watch w → IsRow → has_values row.kind ≡ true
      → None ≡ find_seat row.key.0 (seats_in sort c) → ⊥
  map_seated in_step listed values found =
      none-some (row_leads in_step listed).seen
      (sym (none_there watch c sort row.key.0 found) ∙ there in_step listed values)

  module _ (seat : O) (in_step : AreInStep watch w) (has : HasMap seat) (id : ℕ)
      (live : IsLive w.graph.graph.graph sort id) where
    abbrev s : Seen
    s = (watch seat).seen

    form : (kind : MapKind) → row.kind ≡ kind → s.form ≡ form_of (role_of kind)
    form kind is = has.plays.form ∙ ap (λ k. form_of (role_of k)) is

    making : (kind : MapKind) → row.kind ≡ kind → making_of s.held ≡ made_for (role_of kind)
    making kind is = has.plays.making ∙ ap (λ k. made_for (role_of k)) is

    -- values rise by id, and each live item has one
    pub record HasEntries (t : held.MapType) : Type 0 where
      pub entries : List (Entry (ValueOf t))
      pub is : s.held ≡ held.Values t entries
      pub rise : IsTrue (rises_from entry_id 0 entries)
      pub there : IsTrue (has_id entry_id id entries)

    entries_of : (t : held.MapType) → making_of s.held ≡ held.OfValues t → HasEntries t
    entries_of t made =
        let values = as_values t s.held made in
        let sound : IsHeldSound (held.Values t values.entries) =
        subst IsHeldSound values.is (watch seat).sound.held in
        record {
          entries = values.entries;
          is = values.is;
          rise = sound.0;
          there = live_entry watch w in_step sort row.key.0 s has.seen t values.entries values.is id
              live;
        }

    -- what is made of what the map has
    seen_as : {X : Type 0} (f : plain.Held → X) (kind : MapKind) → row.kind ≡ kind → (x : X)
        → f (held_by kind s.held) ≡ x
        → option_map f (map_seen (look_of watch w) sort row) ≡ Some x
    seen_as f kind is x at =
        ap (option_map f) has.held ∙ ap (λ k. Some (f (held_by k s.held))) is ∙ ap Some at

    told : (kind : MapKind) → row.kind ≡ kind → (text : List ℕ)
        → text_at (held_by kind s.held) id ≡ text
        → option_map (λ held. text_at held id) (map_seen (look_of watch w) sort row) ≡ Some text
    told = seen_as (λ held. text_at held id)

    -- ---- ints

    module _ (is : row.kind ≡ maps.Ints) where
      ints : HasEntries held.Ints
      ints = entries_of held.Ints (making maps.Ints is)

      ints_are : ints_in s ≡ ints.entries
      ints_are = ap (among ints_among) ints.is

      pub ints_form : HasForm forms.ints_form (watch seat)
      ints_form = form maps.Ints is

      pub int_live : IsTrue (has_id entry_id id (ints_in s))
      int_live = subst (λ es. IsTrue (has_id entry_id id es)) (sym ints_are) ints.there

      pub int_told : (value : ℤ) → HasValue id value (ints_in s)
          → option_map (λ held. text_at held id) (map_seen (look_of watch w) sort row)
          ≡ Some (signed_decimal value)
      int_told value at =
          told maps.Ints is (signed_decimal value)
          (ap (λ o. signed_decimal (unwrap_or o (pos 0)))
          (has_value id value (ints_in s)
          (subst (λ es. IsTrue (rises_from entry_id 0 es)) (sym ints_are) ints.rise) at))

      pub int_held : (value : ℤ) → HasValue id value (ints_in s)
          → option_map (λ held. int_at held id) (map_seen (look_of watch w) sort row) ≡ Some value
      int_held value at =
          seen_as (λ held. int_at held id) maps.Ints is value
          (ap (λ o. unwrap_or o (pos 0))
          (has_value id value (ints_in s)
          (subst (λ es. IsTrue (rises_from entry_id 0 es)) (sym ints_are) ints.rise) at))

    -- ---- bools

    module _ (is : row.kind ≡ maps.Bools) where
      bools : HasEntries held.Bools
      bools = entries_of held.Bools (making maps.Bools is)

      bools_are : bools_in s ≡ bools.entries
      bools_are = ap (among bools_among) bools.is

      pub bools_form : HasForm forms.bools_form (watch seat)
      bools_form = form maps.Bools is

      pub bool_live : IsTrue (has_id entry_id id (bools_in s))
      bool_live = subst (λ es. IsTrue (has_id entry_id id es)) (sym bools_are) bools.there

      pub bool_told : (value : Bool) → HasValue id value (bools_in s)
          → option_map (λ held. text_at held id) (map_seen (look_of watch w) sort row)
          ≡ Some (bool_text value)
      bool_told value at =
          told maps.Bools is (bool_text value)
          (ap (λ o. bool_text (unwrap_or o false))
          (has_value id value (bools_in s)
          (subst (λ es. IsTrue (rises_from entry_id 0 es)) (sym bools_are) bools.rise) at))

      pub bool_held : (value : Bool) → HasValue id value (bools_in s)
          → option_map (λ held. bool_at held id) (map_seen (look_of watch w) sort row) ≡ Some value
      bool_held value at =
          seen_as (λ held. bool_at held id) maps.Bools is value
          (ap (λ o. unwrap_or o false)
          (has_value id value (bools_in s)
          (subst (λ es. IsTrue (rises_from entry_id 0 es)) (sym bools_are) bools.rise) at))

    -- ---- texts

    module _ (is : row.kind ≡ maps.Texts) where
      texts : HasEntries held.Texts
      texts = entries_of held.Texts (making maps.Texts is)

      texts_are : texts_in s ≡ texts.entries
      texts_are = ap (among texts_among) texts.is

      pub texts_form : HasForm forms.texts_form (watch seat)
      texts_form = form maps.Texts is

      pub text_live : IsTrue (has_id entry_id id (texts_in s))
      text_live = subst (λ es. IsTrue (has_id entry_id id es)) (sym texts_are) texts.there

      pub text_told : (value : List ℕ) → HasValue id value (texts_in s)
          → option_map (λ held. text_at held id) (map_seen (look_of watch w) sort row)
          ≡ Some value
      text_told value at =
          told maps.Texts is value
          (ap (λ o. unwrap_or o [])
          (has_value id value (texts_in s)
          (subst (λ es. IsTrue (rises_from entry_id 0 es)) (sym texts_are) texts.rise) at))
