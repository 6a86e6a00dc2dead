-- Entries that rise by id, as each item with its value.
use Rattle.std.proofs.Common.{◌≡◌, ℕ, ◌+◌, ◌<◌, ◌≤◌, List, [], ◌∷◌, map, refl, sym}
use Rattle.std.proofs.Common.{Some, ap, subst, ◌∙◌, Contains, arith}
use Rattle.std.specs.Prelude.{IsTrue, nat_le, ◌&&◌, unwrap_or}
use Rattle.std.specs.FinMap as fin
use Rattle.std.proofs.lemmas.Grind.{common_steps}
use Rattle.base_items.specs.declared.items.ItemSort.{ItemSort}
use Rattle.plain_digraph.specs.Digraph.{Digraph}
use Rattle.plain_digraph.specs.Facts.{fact_id}
use Rattle.plain_digraph.specs.Items.{facts, rising, IsLive}
use Rattle.plain_digraph.specs.Lists.{AllOf}
use Rattle.plain_digraph.specs.Valid.{IsValid}
use Rattle.observe_core.specs.Held.{Held, Nothing, Values, Degree, Half, Kept, Ties, Entry}
use Rattle.observe_core.specs.Held.{entry_id}
use Rattle.observe_core.specs.Held.{MapType, Ints, Bools, Texts, Labels, Trues, IsHeldSound}
use Rattle.observe_core.specs.Held.{ValueOf}
use Rattle.observe_core.specs.Items.{rises_from, number_id, has_id}
use Rattle.observe_core.proofs.ItemLemmas.{and_left, and_right, contains-has}
use Rattle.alter_graph.proofs.Listing.{all_in, facts_live, has_live}
use Rattle.columns.specs.Views.{entry}
use Rattle.desk_seats.specs.Contents.{among, trues_among}
use Rattle.desk_world.specs.Columns.{column}
use Rattle.desk_world.proofs.Found.{has_value}
use Rattle.desk_world.proofs.LiveEntries.{by_ids}
use Rattle.desk_world.proofs.Seated.{all_so}

module _ {X : Type 0} where
  -- each entry is found in the column
  pub all_found : (es : List (Entry X)) → IsTrue (rises_from entry_id 0 es)
      → AllOf (λ (e : Entry X). fin.get (column es) e.id ≡ Some e.value) es
  all_found es rises =
      all_in (λ (e : Entry X). fin.get (column es) e.id ≡ Some e.value) es
      (λ e had. has_value e.id e.value es rises had)

  -- where each has the value that its id is told, they are the ids with these values
  pub as_items : (value : ℕ → X) (es : List (Entry X))
      → AllOf (λ (e : Entry X). value e.id ≡ e.value) es
      → es ≡ map (λ id. entry id (value id)) (map entry_id es)
  as_items value [] all = refl
  as_items value (e ∷ es) all =
      let rest = as_items value es all.1 in
      λ i. record { id = e.id; value = sym all.0 i } ∷ rest i

-- ---- ids that rise

abbrev pub Rise : List ℕ → Type 0
Rise [] = Unit {0}
Rise (x ∷ xs) = AllOf (λ y. x < y) xs × Rise xs

-- whether ids rise is told by the ids alone
pub rises_alike : {X : Type 0} (id_of : X → ℕ) (low : ℕ) (xs : List X)
    → rises_from id_of low xs ≡ rises_from number_id low (map id_of xs)
rises_alike id_of low [] = refl
rises_alike id_of low (x ∷ xs) =
    ap (λ b. nat_le low (id_of x) && b) (rises_alike id_of (id_of x + 1) xs)

all_above : (low : ℕ) (xs : List ℕ) → IsTrue (rises_from number_id low xs)
    → AllOf (λ y. low ≤ y) xs
all_above low [] rises = tt
all_above low (x ∷ xs) rises =
    let first = and_left (nat_le low x) (rises_from number_id (x + 1) xs) rises in
    let more = and_right (nat_le low x) (rises_from number_id (x + 1) xs) rises in
    let l : low ≤ x = grind (arith, common_steps, first) in (
      l,
      all_so (λ y. x + 1 ≤ y) (λ y. low ≤ y) (λ y above. omega (arith, above, l)) xs
          (all_above (x + 1) xs more),
    )

pub rise_is : (low : ℕ) (xs : List ℕ) → IsTrue (rises_from number_id low xs) → Rise xs
rise_is low [] rises = tt
rise_is low (x ∷ xs) rises =
    let more = and_right (nat_le low x) (rises_from number_id (x + 1) xs) rises in (
      all_so (λ y. x + 1 ≤ y) (λ y. x < y) (λ y above. omega (arith, above)) xs
          (all_above (x + 1) xs more),
      rise_is (x + 1) xs more,
    )

-- the live items of a sort rise
module _ (g : Digraph) (sort : ItemSort) (valid : IsValid g) where
  live_rising : IsTrue (rises_from number_id 0 (rising g sort))
  live_rising =
      subst IsTrue (rises_alike fact_id 0 (facts g sort)) (facts_live g sort valid).rising

  pub live_rise : Rise (rising g sort)
  live_rise = rise_is 0 (rising g sort) live_rising

  -- and so do entries that have their ids
  pub entries_rise : {X : Type 0} (es : List (Entry X)) → map entry_id es ≡ rising g sort
      → IsTrue (rises_from entry_id 0 es)
  entries_rise es ids =
      subst IsTrue (sym (rises_alike entry_id 0 es ∙ ap (rises_from number_id 0) ids)) live_rising

  -- entries with the ids of the live items, each of which has the value that the column has
  pub entries_are : {X : Type 0} (es : List (Entry X)) (value : ℕ → X) (other : X)
      → map entry_id es ≡ rising g sort
      → ((id : ℕ) → value id ≡ unwrap_or (fin.get (column es) id) other)
      → es ≡ map (λ id. entry id (value id)) (rising g sort)
  entries_are {X} es value other ids told =
      as_items value es
      (all_so (λ (e : Entry X). fin.get (column es) e.id ≡ Some e.value)
      (λ (e : Entry X). value e.id ≡ e.value)
      (λ e found. told e.id ∙ ap (λ o. unwrap_or o other) found) es
      (all_found es (entries_rise es ids)))
      ∙ ap (map (λ id. entry id (value id))) ids

  -- an item of such an entry is live
  pub entry_live : {X : Type 0} (es : List (Entry X)) → map entry_id es ≡ rising g sort
      → (e : Entry X) → Contains es e → IsLive g sort e.id
  entry_live es ids e had =
      let there : has_id entry_id e.id es ≡ has_id fact_id e.id (facts g sort) =
      by_ids entry_id e.id es ∙ ap (has_id number_id e.id) ids
      ∙ sym (by_ids fact_id e.id (facts g sort)) in
      has_live g sort valid e.id (subst IsTrue there (contains-has entry_id e es had))

  pub all_live : {X : Type 0} (es : List (Entry X)) → map entry_id es ≡ rising g sort
      → AllOf (λ (e : Entry X). IsLive g sort e.id) es
  all_live {X} es ids = all_in (λ (e : Entry X). IsLive g sort e.id) es (entry_live es ids)

-- the ids of items with their values
pub ids_of_items : {X : Type 0} (value : ℕ → X) (ids : List ℕ)
    → map entry_id (map (λ id. entry id (value id)) ids) ≡ ids
ids_of_items value [] = refl
ids_of_items value (id ∷ ids) = ap (λ more. id ∷ more) (ids_of_items value ids)

-- ---- what is held rises

trues_typed : (t : MapType) (es : List (Entry (ValueOf t))) → IsTrue (rises_from entry_id 0 es)
    → IsTrue (rises_from entry_id 0 (trues_among t es))
trues_typed Ints es rises = refl
trues_typed Bools es rises = refl
trues_typed Texts es rises = refl
trues_typed Labels es rises = refl
trues_typed Trues es rises = rises

pub trues_rise : (h : Held) → IsHeldSound h → IsTrue (rises_from entry_id 0 (among trues_among h))
trues_rise Nothing sound = refl
trues_rise (Values t es) sound = trues_typed t es sound.0
trues_rise (Degree out ends) sound = refl
trues_rise (Half added others kept valid) sound = refl
trues_rise (Kept role all items) sound = refl
trues_rise (Ties ties) sound = refl
