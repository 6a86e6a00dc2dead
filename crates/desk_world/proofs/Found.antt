-- Labels and values that are found in what a seat holds.
use Rattle.std.proofs.Common.{◌≡◌, ◌≢◌, ℕ, zero, suc, ◌+◌, ◌≤◌, cond, List, []}
use Rattle.std.proofs.Common.{◌∷◌}
use Rattle.std.proofs.Common.{Option, Some, None, Contains, refl, sym, ap, ◌∙◌, inl, inr}
use Rattle.std.proofs.Common.{arith}
use Rattle.std.specs.Prelude.{IsTrue, nat_le}
use Rattle.std.specs.FinMap as fin
use Rattle.std.proofs.lemmas.Bool.{cases_eq}
use Rattle.std.proofs.lemmas.Option.{none-some}
use Rattle.std.proofs.lemmas.Grind.{common_steps}
use Rattle.plain_digraph.specs.Lists.{AllOf}
use Rattle.plain_digraph.proofs.Keys.{ties_same, ties_other}
use Rattle.observe_core.specs.Held.{Entry, entry_id}
use Rattle.observe_core.specs.Items.{rises_from, Lacks}
use Rattle.observe_core.proofs.ItemLemmas.{and_left, and_right, rises-lacks}
use Rattle.index_maps.specs.RefViews.{HasNoLabel}
use Rattle.plain_world.specs.Tables.{Name}
use Rattle.desk_world.specs.Columns.{column, labelled}
use Rattle.desk_world.proofs.Columns.{value_at, get_column}
use Rattle.desk_world.proofs.LabelColumns.{name_at, get_labelled, past}

-- ---- values

module _ {X : Type 0} where
  none_at : (id : ℕ) (es : List (Entry X)) → Lacks entry_id id es → value_at id es ≡ None
  none_at id [] lacks = refl
  none_at id (e ∷ es) lacks =
      ap (λ t. cond t (Some e.value) (value_at id es))
      (ties_other id e.id (λ is. lacks.0 (sym is)))
      ∙ none_at id es lacks.1

  some_at : (low : ℕ) (id : ℕ) (value : X) (es : List (Entry X))
      → IsTrue (rises_from entry_id low es)
      → Contains es (record { id = id; value = value }) → value_at id es ≡ Some value
  some_at low id value [] rises (k, within, is) = absurd (omega (arith, within))
  some_at low id value (e ∷ es) rises (zero, within, is) =
      ap (λ t. cond t (Some e.value) (value_at id es))
      (ties_same id e.id (sym (ap (λ (x : Entry X). x.id) is)))
      ∙ ap (λ (x : Entry X). Some x.value) is
  some_at low id value (e ∷ es) rises (suc k, within, is) =
      let more = and_right (nat_le low e.id) (rises_from entry_id (e.id + 1) es) rises in
      let rest = some_at (e.id + 1) id value es more (k, omega (arith, within), is) in
      elim (cases_eq id e.id) [
        | inl same ↦
            absurd (none-some value (sym (none_at id es
            (rises-lacks entry_id (e.id + 1) id es more (omega (arith, same)))) ∙ rest))
        | inr other ↦
            ap (λ t. cond t (Some e.value) (value_at id es)) (ties_other id e.id other) ∙ rest
      ]

  -- the column has the value of the item
  pub has_value : (id : ℕ) (value : X) (es : List (Entry X)) → IsTrue (rises_from entry_id 0 es)
      → Contains es (record { id = id; value = value }) → fin.get (column es) id ≡ Some value
  has_value id value es rises has = get_column es id ∙ some_at 0 id value es rises has

-- ---- labels

abbrev Named : Type 0
Named = Entry (Option Name)

no_name : (id : ℕ) (es : List Named) → Lacks entry_id id es → name_at id es ≡ None
no_name id [] lacks = refl
no_name id (e ∷ es) lacks =
    past id e.id e.value _ (λ is. lacks.0 (sym is)) ∙ no_name id es lacks.1

named_at : (low : ℕ) (id : ℕ) (name : Name) (es : List Named)
    → IsTrue (rises_from entry_id low es)
    → Contains es (record { id = id; value = Some name }) → name_at id es ≡ Some name
named_at low id name [] rises (k, within, is) = absurd (omega (arith, within))
named_at low id name (e ∷ es) rises (zero, within, is) =
    ap (λ (x : Named). name_at id (x ∷ es)) is
    ∙ ap (λ t. cond t (Some name) (name_at id es)) (ties_same id id refl)
named_at low id name (e ∷ es) rises (suc k, within, is) =
    let more = and_right (nat_le low e.id) (rises_from entry_id (e.id + 1) es) rises in
    let rest = named_at (e.id + 1) id name es more (k, omega (arith, within), is) in
    elim (cases_eq id e.id) [
      | inl same ↦
          absurd (none-some name (sym (no_name id es
          (rises-lacks entry_id (e.id + 1) id es more (omega (arith, same)))) ∙ rest))
      | inr other ↦ past id e.id e.value _ other ∙ rest
    ]

-- the column has the label of the item
pub has_label : (id : ℕ) (name : Name) (es : List Named) → IsTrue (rises_from entry_id 0 es)
    → Contains es (record { id = id; value = Some name }) → fin.get (labelled es) id ≡ Some name
has_label id name es rises has = get_labelled es id ∙ named_at 0 id name es rises has

free_at : (id : ℕ) (name : Name) (es : List Named) → AllOf (λ (e : Named). e.value ≢ Some name) es
    → name_at id es ≡ Some name → ⊥
free_at id name [] free at = none-some name at
free_at id name (e ∷ es) free at = by e.value free.0 (free_at id name es free.1) at
  where
    by : (v : Option Name) → (v ≢ Some name) → (name_at id es ≡ Some name → ⊥)
        → name_at id (record { id = e.id; value = v } ∷ es) ≡ Some name → ⊥
    by None apart rest at = rest at
    by (Some other) apart rest at = elim (cases_eq id e.id) [
      | inl same ↦
          apart (sym (ap (λ t. cond t (Some other) (name_at id es)) (ties_same id e.id same)) ∙ at)
      | inr differ ↦
          rest
          (sym (ap (λ t. cond t (Some other) (name_at id es)) (ties_other id e.id differ)) ∙ at)
    ]

-- a label that no entry has is in the column of no item
pub label_free : (name : Name) (es : List Named) → AllOf (λ (e : Named). e.value ≢ Some name) es
    → (id : ℕ) → fin.get (labelled es) id ≡ Some name → ⊥
label_free name es free id at = free_at id name es free (sym (get_labelled es id) ∙ at)

-- an entry that rises past the bound has an id that is no lower
no_lower : {X : Type 0} (low : ℕ) (x : Entry X) (es : List (Entry X))
    → IsTrue (rises_from entry_id low es) → Contains es x → low ≤ x.id
no_lower low x [] rises (k, within, is) = absurd (omega (arith, within))
no_lower low x (e ∷ es) rises (zero, within, is) =
    let first = and_left (nat_le low e.id) (rises_from entry_id (e.id + 1) es) rises in
    let l : low ≤ e.id = grind (arith, common_steps, first) in
    let same : e.id ≡ x.id = ap (λ y. y.id) is in
    omega (arith, l, same)
no_lower low x (e ∷ es) rises (suc k, within, is) =
    let first = and_left (nat_le low e.id) (rises_from entry_id (e.id + 1) es) rises in
    let more = and_right (nat_le low e.id) (rises_from entry_id (e.id + 1) es) rises in
    let l : low ≤ e.id = grind (arith, common_steps, first) in
    let rest = no_lower (e.id + 1) x es more (k, omega (arith, within), is) in
    omega (arith, l, rest)

unnamed_at : (low : ℕ) (id : ℕ) (es : List Named) → IsTrue (rises_from entry_id low es)
    → Contains es (record { id = id; value = None }) → name_at id es ≡ None
unnamed_at low id [] rises (k, within, is) = absurd (omega (arith, within))
unnamed_at low id (e ∷ es) rises (zero, within, is) =
    let more = and_right (nat_le low e.id) (rises_from entry_id (e.id + 1) es) rises in
    let same : e.id ≡ id = ap (λ (x : Named). x.id) is in
    ap (λ (x : Named). name_at id (x ∷ es)) is
    ∙ no_name id es (rises-lacks entry_id (e.id + 1) id es more (omega (arith, same)))
unnamed_at low id (e ∷ es) rises (suc k, within, is) =
    let more = and_right (nat_le low e.id) (rises_from entry_id (e.id + 1) es) rises in
    let rest = unnamed_at (e.id + 1) id es more (k, omega (arith, within), is) in
    let above = no_lower (e.id + 1) (record { id = id; value = None }) es more
    (k, omega (arith, within), is) in
    past id e.id e.value _ (λ same. absurd (omega (arith, above, same))) ∙ rest

-- an item without label has none in the column
pub no_label : (id : ℕ) (es : List Named) → IsTrue (rises_from entry_id 0 es)
    → HasNoLabel id es → fin.get (labelled es) id ≡ None
no_label id es rises none = get_labelled es id ∙ elim none [
  | inl lacks ↦ no_name id es lacks
  | inr has ↦ unnamed_at 0 id es rises has
]
