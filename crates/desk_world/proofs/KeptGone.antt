-- A world from which a view goes, with its seats where it is kept.
use Rattle.std.proofs.Common.{◌≡◌, Bool, true, false, cond, not, List, [], ◌∷◌, ◌++◌, refl}
use Rattle.std.proofs.Common.{sym, ap, ◌∙◌, subst, Option, Some, None, IfSome}
use Rattle.std.specs.Prelude.{option_map, option_and_then, find}
use Rattle.std.specs.List.{flat_map}
use Rattle.std.specs.Option.{option_map_or}
use Rattle.std.specs.Str.{bytes_eq}
use Rattle.std.proofs.lemmas.Bool.{true≢false}
use Rattle.std.proofs.lemmas.Option.{none-some}
use Rattle.std.proofs.lemmas.Slice.Eq.{bytes_eq-Decides}
use Rattle.base_items.specs.declared.limits.TheConstants.{MAX_LAYERS}
use Rattle.plain_digraph.specs.Lists.{AllOf}
use Rattle.observe_core.specs.Seen.{Watched}
use Rattle.alter_graph.specs.Chains.{chains_seen}
use Rattle.plain_world.specs.Demands as demands
use Rattle.plain_world.specs.Refusals.{breach}
use Rattle.plain_world.specs.Tables.{Name, Named, under, is_named, entry, without_entry}
use Rattle.plain_world.specs.Valid.{NamesDiffer}
use Rattle.plain_world.specs.World.{View}
use Rattle.plain_world.proofs.DemandsMet.{no_view_on}
use Rattle.desk_names.specs.Rows.{Rows}
use Rattle.desk_world.specs.declared.tables.ItemTables.{ItemTables}
use Rattle.desk_world.specs.declared.tables.KeptKeys.{KeptKeys}
use Rattle.desk_world.specs.declared.tables.ViewRow.{ViewRow}
use Rattle.desk_world.specs.declared.world.World.{World}
use Rattle.desk_world.specs.Claims.{Claim, view_claims, kept_claims}
use Rattle.desk_world.specs.InStep.{AreInStep, AreSeated}
use Rattle.desk_world.specs.KeptMaps.{ReadsMaps}
use Rattle.desk_world.specs.KeptViews.{AreKept, AreReading, IsPlaced, views_of}
use Rattle.desk_world.specs.Looks.{Look}
use Rattle.desk_world.specs.Plain.{plain_of, look_of, view_of}
use Rattle.desk_world.proofs.KeptRows.{before, behind, claims_around, with_rows, seats_apart}
use Rattle.desk_world.proofs.KeptRows.{rows_plain, rows_in_step}
use Rattle.desk_world.proofs.KeptTowers.{tower_same, reads_on}
use Rattle.desk_world.proofs.NamedRows.{Stands, IsOther, stands, none_stands, all_stay}
use Rattle.desk_world.proofs.Relabelled.{Agrees}
use Rattle.desk_world.proofs.Seated.{all_so}
use Rattle.desk_world.proofs.ViewRows.{without_as}

-- ---- tables

-- what is left has other names, and what held of all holds of it
all_without : {X : Type 0} (P : Named X → Type 0) (table : List (Named X)) (name : Name)
    → AllOf P table → AllOf (λ e. P e × IsOther name e) (without_entry table name)
all_without P [] name all = tt
all_without P (e ∷ es) name all =
    let rest = all_without P es name all.1 in
    let own = all.0 in
    elim (bytes_eq e.name name) as (λ b. bytes_eq e.name name ≡ b
    → AllOf (λ f. P f × IsOther name f)
    (cond (not b) (e ∷ without_entry es name) (without_entry es name))) [
      | true ↦ λ is. rest
      | false ↦ λ is. ((own, is), rest)
    ] refl

not_other : (mine name other : Name) → bytes_eq mine name ≡ true → bytes_eq other name ≡ false
    → bytes_eq mine other ≡ false
not_other mine name other named apart = by (bytes_eq mine other) refl
  where
    by : (b : Bool) → bytes_eq mine other ≡ b → b ≡ false
    by false is = refl
    by true is =
        absurd (true≢false (sym named
        ∙ ap (λ n. bytes_eq n name) ((bytes_eq-Decides mine other).0 is) ∙ apart))

-- the same stands under other names
other_without : {X : Type 0} (table : List (Named X)) (name other : Name)
    → bytes_eq other name ≡ false → entry (without_entry table name) other ≡ entry table other
other_without [] name other apart = refl
other_without {X} (e ∷ es) name other apart =
    let rest = other_without es name other apart in
    elim (bytes_eq e.name name) as (λ b. bytes_eq e.name name ≡ b
    → entry (cond (not b) (e ∷ without_entry es name) (without_entry es name)) other
    ≡ entry (e ∷ es) other) [
      | true ↦ λ is.
          rest ∙ sym (ap (λ b. option_map (λ (f : Named X). f.value)
          (cond b (Some e) (find (is_named other) es))) (not_other e.name name other is apart))
      | false ↦ λ is.
          elim (bytes_eq e.name other) as (λ b. option_map (λ (f : Named X). f.value)
          (cond b (Some e) (find (is_named other) (without_entry es name)))
          ≡ option_map (λ (f : Named X). f.value) (cond b (Some e) (find (is_named other) es))) [
            | true ↦ refl
            | false ↦ rest
          ]
    ] refl

pub none_below : (views : List (Named View)) (name : Name)
    → find (λ (e : Named View). bytes_eq e.value.below name) views ≡ None
    → AllOf (λ (e : Named View). bytes_eq e.value.below name ≡ false) views
none_below [] name none = tt
none_below (e ∷ es) name none =
    elim (bytes_eq e.value.below name) as (λ b. bytes_eq e.value.below name ≡ b
    → cond b (Some e) (find (λ (f : Named View). bytes_eq f.value.below name) es) ≡ None
    → AllOf (λ (f : Named View). bytes_eq f.value.below name ≡ false) (e ∷ es)) [
      | true ↦ λ is some. absurd (none-some e (sym some))
      | false ↦ λ is rest. (is, none_below es name rest)
    ] refl none

-- ---- the rows that are left

module _ (look : Look) (nodes arcs : ItemTables) (rows : List (Named ViewRow)) (name : Name)
    (alone : AllOf (λ (e : Named View). bytes_eq e.value.below name ≡ false) (views_of rows)) where
  abbrev left : List (Named ViewRow)
  left = without_entry rows name

  pub kept_less : AreKept look nodes arcs rows → AreKept look nodes arcs left
  kept_less kept =
      let reads = all_without (λ (e : Named ViewRow). IfSome e.value.kept
      (λ keys. ReadsMaps nodes arcs (views_of rows) e.name keys.maps)) rows name kept.reading in
      let places = all_without (λ (e : Named ViewRow). IfSome e.value.kept (IsPlaced look)) rows
      name
      kept.placed in
      record {
        reading = subst (λ views. AreReading nodes arcs views left)
            (sym (without_as view_of rows name))
            (reads_on nodes arcs (views_of rows) (without_entry (views_of rows) name) name
            (tower_same (views_of rows) (without_entry (views_of rows) name) name
            (other_without (views_of rows) name) alone MAX_LAYERS) left
            (all_so (λ e. IfSome e.value.kept
            (λ keys. ReadsMaps nodes arcs (views_of rows) e.name keys.maps) × IsOther name e)
            (IsOther name) (λ e both. both.1) left reads)
            (all_so (λ e. IfSome e.value.kept
            (λ keys. ReadsMaps nodes arcs (views_of rows) e.name keys.maps) × IsOther name e)
            (λ e. IfSome e.value.kept
            (λ keys. ReadsMaps nodes arcs (views_of rows) e.name keys.maps))
            (λ e both. both.0) left reads));
        placed = all_so (λ e. IfSome e.value.kept (IsPlaced look) × IsOther name e)
            (λ e. IfSome e.value.kept (IsPlaced look)) (λ e both. both.0) left places;
      }

-- ---- a view that isn't kept goes

all_of : {X : Type 0} (P : X → Type 0) → ((x : X) → P x) → (xs : List X) → AllOf P xs
all_of P so [] = tt
all_of P so (x ∷ xs) = (so x, all_of P so xs)

module _ {O : Type 0} (watch : O → Watched) (w : World O) (rows : Rows ViewRow) (name : Name)
    (in_step : AreInStep watch w) (less : rows.rows ≡ without_entry w.views.rows name)
    (stay : flat_map view_claims rows.rows ≡ flat_map view_claims w.views.rows) where
  abbrev same_look : Look
  same_look = look_of watch w

  same_agree : (list : List Claim) → AllOf (Agrees same_look same_look) list
  same_agree list = all_of (Agrees same_look same_look) (λ x. refl) list

  pub unkept_in_step : breach (plain_of watch w) (demands.NoneStandsOn name) ≡ None
      → AreInStep watch (with_rows w rows w.graph)
  unkept_in_step alone =
      rows_in_step watch w rows w.graph in_step in_step.graph (same_agree (before w ++ behind w))
      (subst (λ list. AreSeated list (chains_seen watch w.graph.chains))
      (claims_around w ∙ sym (ap (λ seats. before w ++ (seats ++ behind w)) stay)) in_step.seated)
      refl
      (subst (AreKept same_look w.nodes w.arcs) (sym less)
      (kept_less same_look w.nodes w.arcs w.views.rows name
      (none_below (views_of w.views.rows) name (no_view_on (plain_of watch w) name alone))
      in_step.kept))

  pub unkept_plain : plain_of watch (with_rows w rows w.graph)
      ≡ record (plain_of watch w) { views = without_entry (plain_of watch w).views name }
  unkept_plain =
      rows_plain watch w rows w.graph in_step in_step.graph (same_agree (before w ++ behind w)) refl
      ∙ (λ i. record (plain_of watch w) {
        views = (ap views_of less ∙ without_as view_of w.views.rows name) i;
      })

-- the seats that stay where the row isn't kept
module _ (table : List (Named ViewRow)) (name : Name) (row : ViewRow) (at : Stands table name row)
  where
    abbrev pub front_seats : List Claim
    front_seats = flat_map view_claims at.front

    abbrev pub back_seats : List Claim
    back_seats = flat_map view_claims at.back

    pub seats_with : (kept : Option KeptKeys) → row.kept ≡ kept → flat_map view_claims table
        ≡ front_seats ++ (option_map_or kept_claims kept [] ++ back_seats)
    seats_with kept is =
        ap (flat_map view_claims) at.is ∙ seats_apart at.front (under name row ∷ at.back)
        ∙ ap (λ o. front_seats ++ (option_map_or kept_claims o [] ++ back_seats)) is

    pub seats_without : flat_map view_claims (without_entry table name) ≡ front_seats ++ back_seats
    seats_without = ap (flat_map view_claims) at.less ∙ seats_apart at.front at.back

-- the keys of what stood under the name
abbrev pub keys_of : Option ViewRow → Option KeptKeys
keys_of o = option_and_then (λ (r : ViewRow). r.kept) o

-- no seat was that of the view
pub seats_stay : (table : List (Named ViewRow)) (name : Name) → NamesDiffer table
    → keys_of (entry table name) ≡ None
    → flat_map view_claims (without_entry table name) ≡ flat_map view_claims table
seats_stay table name differ = by (entry table name) refl
  where
    by : (o : Option ViewRow) → entry table name ≡ o → keys_of o ≡ None
        → flat_map view_claims (without_entry table name) ≡ flat_map view_claims table
    by None found none =
        ap (flat_map view_claims) (all_stay name table (none_stands name table found))
    by (Some row) found none =
        let at = stands table name row differ found in
        seats_without table name row at ∙ sym (seats_with table name row at None none)

-- the row that had these seats
pub record HasKeys (table : List (Named ViewRow)) (name : Name) (keys : KeptKeys) : Type 0 where
  pub row : ViewRow
  pub found : entry table name ≡ Some row
  pub kept : row.kept ≡ Some keys

pub has_keys : (table : List (Named ViewRow)) (name : Name) (keys : KeptKeys)
    → keys_of (entry table name) ≡ Some keys → HasKeys table name keys
has_keys table name keys = by (entry table name) refl
  where
    by : (o : Option ViewRow) → entry table name ≡ o → keys_of o ≡ Some keys
        → HasKeys table name keys
    by None found some = absurd (none-some keys some)
    by (Some row) found some = record { row = row; found = found; kept = some }
