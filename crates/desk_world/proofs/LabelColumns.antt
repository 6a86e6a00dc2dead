-- Columns of labels.
use Rattle.std.proofs.Common.{◌≡◌, ℕ, true, false, cond, List, [], ◌∷◌, Option, Some}
use Rattle.std.proofs.Common.{None}
use Rattle.std.proofs.Common.{refl, sym, ap, ◌∙◌, subst, inl, inr}
use Rattle.std.specs.Prelude.{IsTrue, nat_le, option_map}
use Rattle.std.specs.List.{filter_map, cons_option}
use Rattle.std.specs.Ordering.{nat_cmp}
use Rattle.std.specs.Cmp.{nat_cmp_total}
use Rattle.std.specs.FinMap as fin
use Rattle.std.proofs.lemmas.Bool.{cases_eq, eq-eqb, ne_eqb, true≢false}
use Rattle.plain_digraph.specs.Rising.{with_item, without_item, swapped}
use Rattle.plain_digraph.proofs.Keys.{ties_same, ties_other}
use Rattle.observe_core.specs.Held.{Entry, entry_id}
use Rattle.observe_core.specs.Items.{has_id}
use Rattle.plain_world.specs.Tables.{Name}
use Rattle.desk_world.specs.Columns.{labelled}
use Rattle.desk_world.proofs.Columns.{ties, none_either, same_column}

-- ---- labels

abbrev pub Named : Type 0
Named = Entry (Option Name)

abbrev pub pairs_named : List Named → List (ℕ × Name)
pairs_named es =
    filter_map (λ (e : Named). option_map (λ (name : Name). (e.id, name)) e.value) es

-- the label of the first entry of the id that has one
abbrev pub name_at : ℕ → List Named → Option Name
name_at q es = fin.find nat_cmp q (pairs_named es)

pub get_labelled : (es : List Named) (q : ℕ) → fin.get (labelled es) q ≡ name_at q es
get_labelled es q = fin.get-from_entries nat_cmp_total (pairs_named es) q

abbrev pub put_pair : ℕ → Option Name → List (ℕ × Name) → List (ℕ × Name)
put_pair id v rest = cons_option (option_map (λ (name : Name). (id, name)) v) rest

-- what is found behind an entry of another id
pub past : (q id : ℕ) (v : Option Name) (rest : List (ℕ × Name)) → (q ≡ id → ⊥)
    → fin.find nat_cmp q (put_pair id v rest) ≡ fin.find nat_cmp q rest
past q id None rest other = refl
past q id (Some name) rest other =
    ap (λ t. cond t (Some name) (fin.find nat_cmp q rest)) (ties_other q id other)

both : (q id : ℕ) (v : Option Name) (xs ys : List (ℕ × Name))
    → fin.find nat_cmp q xs ≡ fin.find nat_cmp q ys
    → fin.find nat_cmp q (put_pair id v xs) ≡ fin.find nat_cmp q (put_pair id v ys)
both q id None xs ys same = same
both q id (Some name) xs ys same = ap (cond (ties q id) (Some name)) same

-- an item without label changes no label
pub labels_with : (id : ℕ) (es : List Named)
    → labelled (with_item entry_id (record { id = id; value = None }) es) ≡ labelled es
labels_with id es = ap fin.from_entries (same es)
  where
    same : (es : List Named)
        → pairs_named (with_item entry_id (record { id = id; value = None }) es) ≡ pairs_named es
    same [] = refl
    same (y ∷ ys) =
        let rest = same ys in
        elim (nat_le id y.id) as
        (λ b. pairs_named (cond b ((record { id = id; value = None }) ∷ y ∷ ys)
        (y ∷ with_item entry_id (record { id = id; value = None }) ys)) ≡ pairs_named (y ∷ ys)) [
          | true ↦ refl
          | false ↦ ap (put_pair y.id y.value) rest
        ]

name_without : (id : ℕ) (es : List Named) (q : ℕ)
    → name_at q (without_item entry_id id es) ≡ cond (ties q id) None (name_at q es)
name_without id [] q = none_either None (ties q id) refl
name_without id (y ∷ ys) q =
    let rest = name_without id ys q in
    let less = without_item entry_id id ys in
    elim (cases_eq q id) [
      | inl here ↦
          let hidden : (e : Option Name) → cond (ties q id) None e ≡ None = λ e.
          ap (λ t. cond t None e) (ties_same q id here) in
          let none : name_at q less ≡ None = rest ∙ hidden (name_at q ys) in
          elim (cases_eq y.id id) [
            | inl same ↦
                ap (λ b. name_at q (cond b less (y ∷ less))) (eq-eqb y.id id same) ∙ none
                ∙ sym (hidden (name_at q (y ∷ ys)))
            | inr other ↦
                ap (λ b. name_at q (cond b less (y ∷ less))) (ne_eqb y.id id other)
                ∙ past q y.id y.value (pairs_named less) (λ e. other (sym e ∙ here)) ∙ none
                ∙ sym (hidden (name_at q (y ∷ ys)))
          ]
      | inr apart ↦
          let shown : (e : Option Name) → cond (ties q id) None e ≡ e = λ e.
          ap (λ t. cond t None e) (ties_other q id apart) in
          let kept : name_at q less ≡ name_at q ys = rest ∙ shown (name_at q ys) in
          elim (cases_eq y.id id) [
            | inl same ↦
                ap (λ b. name_at q (cond b less (y ∷ less))) (eq-eqb y.id id same) ∙ kept
                ∙ sym (past q y.id y.value (pairs_named ys) (λ e. apart (e ∙ same)))
                ∙ sym (shown (name_at q (y ∷ ys)))
            | inr other ↦
                ap (λ b. name_at q (cond b less (y ∷ less))) (ne_eqb y.id id other)
                ∙ both q y.id y.value (pairs_named less) (pairs_named ys) kept
                ∙ sym (shown (name_at q (y ∷ ys)))
          ]
    ]

pub labels_without : (id : ℕ) (es : List Named)
    → labelled (without_item entry_id id es) ≡ fin.remove (labelled es) id
labels_without id es =
    same_column (labelled (without_item entry_id id es)) (fin.remove (labelled es) id)
    (λ q. get_labelled (without_item entry_id id es) q ∙ name_without id es q
    ∙ ap (cond (ties q id) None) (sym (get_labelled es q))
    ∙ sym (fin.get-remove nat_cmp_total (labelled es) id q))

abbrev with_name : ℕ → Name → Named
with_name id name = record { id = id; value = Some name }

name_swapped : (id : ℕ) (name : Name) (es : List Named) (q : ℕ) → IsTrue (has_id entry_id id es)
    → name_at q (swapped entry_id (with_name id name) es)
    ≡ cond (ties q id) (Some name) (name_at q es)
name_swapped id name [] q has = absurd (true≢false (sym has))
name_swapped id name (y ∷ ys) q has =
    let more = swapped entry_id (with_name id name) ys in
    elim (cases_eq y.id id) [
      | inl same ↦
          ap (λ b. name_at q (cond b (with_name id name) y ∷ more)) (eq-eqb y.id id same)
          ∙ elim (cases_eq q id) [
            | inl here ↦
                ap (λ t. cond t (Some name) (name_at q more)) (ties_same q id here)
                ∙ sym (ap (λ t. cond t (Some name) (name_at q (y ∷ ys))) (ties_same q id here))
            | inr apart ↦
                ap (λ t. cond t (Some name) (name_at q more)) (ties_other q id apart)
                ∙ elsewhere ys q apart
                ∙ sym (past q y.id y.value (pairs_named ys) (λ e. apart (e ∙ same)))
                ∙ sym (ap (λ t. cond t (Some name) (name_at q (y ∷ ys))) (ties_other q id apart))
          ]
      | inr other ↦
          let has_more : IsTrue (has_id entry_id id ys) =
          subst (λ b. IsTrue (cond b true (has_id entry_id id ys))) (ne_eqb y.id id other) has in
          let rest = name_swapped id name ys q has_more in
          ap (λ b. name_at q (cond b (with_name id name) y ∷ more)) (ne_eqb y.id id other)
          ∙ elim (cases_eq q id) [
            | inl here ↦
                past q y.id y.value (pairs_named more) (λ e. other (sym e ∙ here))
                ∙ rest
                ∙ ap (λ t. cond t (Some name) (name_at q ys)) (ties_same q id here)
                ∙ sym (ap (λ t. cond t (Some name) (name_at q (y ∷ ys))) (ties_same q id here))
            | inr apart ↦
                both q y.id y.value (pairs_named more) (pairs_named ys)
                (rest ∙ ap (λ t. cond t (Some name) (name_at q ys)) (ties_other q id apart))
                ∙ sym (ap (λ t. cond t (Some name) (name_at q (y ∷ ys))) (ties_other q id apart))
          ]
    ]
  where
    elsewhere : (es : List Named) (q : ℕ) → (q ≡ id → ⊥)
        → name_at q (swapped entry_id (with_name id name) es) ≡ name_at q es
    elsewhere [] q apart = refl
    elsewhere (z ∷ zs) q apart =
        let rest = elsewhere zs q apart in
        let more = swapped entry_id (with_name id name) zs in
        elim (cases_eq z.id id) [
          | inl same ↦
              ap (λ b. name_at q (cond b (with_name id name) z ∷ more)) (eq-eqb z.id id same)
              ∙ ap (λ t. cond t (Some name) (name_at q more)) (ties_other q id apart)
              ∙ rest
              ∙ sym (past q z.id z.value (pairs_named zs) (λ e. apart (e ∙ same)))
          | inr other ↦
              ap (λ b. name_at q (cond b (with_name id name) z ∷ more)) (ne_eqb z.id id other)
              ∙ both q z.id z.value (pairs_named more) (pairs_named zs) rest
        ]

pub labels_swapped : (id : ℕ) (name : Name) (es : List Named) → IsTrue (has_id entry_id id es)
    → labelled (swapped entry_id (with_name id name) es) ≡ fin.insert (labelled es) id name
labels_swapped id name es has =
    same_column (labelled (swapped entry_id (with_name id name) es))
    (fin.insert (labelled es) id name)
    (λ q. get_labelled (swapped entry_id (with_name id name) es) q ∙ name_swapped id name es q has
    ∙ ap (cond (ties q id) (Some name)) (sym (get_labelled es q))
    ∙ sym (fin.get-insert nat_cmp_total (labelled es) id name q))
