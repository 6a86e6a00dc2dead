-- Entries that come, go and change, as columns.
use Rattle.std.proofs.Common.{◌≡◌, ℕ, Bool, true, false, cond, List, [], ◌∷◌, map, Option, Some}
use Rattle.std.proofs.Common.{None}
use Rattle.std.proofs.Common.{refl, sym, ap, ◌∙◌, subst, inl, inr}
use Rattle.std.specs.Prelude.{IsTrue, nat_le}
use Rattle.std.specs.Ordering.{nat_cmp, eq_by_cmp}
use Rattle.std.specs.Cmp.{nat_cmp_total}
use Rattle.std.specs.FinMap as fin
use Rattle.std.proofs.lemmas.Bool.{cases_eq, eq-eqb, ne_eqb, true≢false}
use Rattle.plain_digraph.specs.Rising.{with_item, without_item, swapped}
use Rattle.plain_digraph.proofs.Keys.{ties_same, ties_other}
use Rattle.observe_core.specs.Held.{Entry, entry_id}
use Rattle.observe_core.specs.Items.{Lacks, has_id}
use Rattle.plain_world.specs.World.{Column}
use Rattle.desk_world.specs.Columns.{column}

abbrev pub ties : ℕ → ℕ → Bool
ties m n = eq_by_cmp nat_cmp m n

pub none_either : {X : Type 0} (o : Option X) (t : Bool) → o ≡ None → o ≡ cond t None o
none_either o true none = none
none_either o false none = refl

-- of two different keys one may be asked first
pub either_first : {X : Type 0} (q a b : ℕ) (x y z : X) → (a ≡ b → ⊥)
    → cond (ties q a) x (cond (ties q b) y z) ≡ cond (ties q b) y (cond (ties q a) x z)
either_first q a b x y z apart = elim (cases_eq q a) [
  | inl same ↦
      ap (λ t. cond t x (cond (ties q b) y z)) (ties_same q a same)
      ∙ sym (ap (λ t. cond t y (cond (ties q a) x z)) (ties_other q b (λ e. apart (sym same ∙ e)))
      ∙ ap (λ t. cond t x z) (ties_same q a same))
  | inr other ↦
      ap (λ t. cond t x (cond (ties q b) y z)) (ties_other q a other)
      ∙ sym (ap (λ t. cond (ties q b) y (cond t x z)) (ties_other q a other))
]

module _ {X : Type 0} where
  abbrev pub pairs : List (Entry X) → List (ℕ × X)
  pairs es = map (λ (e : Entry X). (e.id, e.value)) es

  -- the value of the first entry of the id
  abbrev pub value_at : ℕ → List (Entry X) → Option X
  value_at q es = fin.find nat_cmp q (pairs es)

  pub get_column : (es : List (Entry X)) (q : ℕ) → fin.get (column es) q ≡ value_at q es
  get_column es q = fin.get-from_entries nat_cmp_total (pairs es) q

  at_with : (e : Entry X) (es : List (Entry X)) (q : ℕ) → Lacks entry_id e.id es
      → value_at q (with_item entry_id e es) ≡ cond (ties q e.id) (Some e.value) (value_at q es)
  at_with e [] q lacks = refl
  at_with e (y ∷ ys) q lacks =
      let rest = at_with e ys q lacks.1 in
      elim (nat_le e.id y.id) as (λ b.
      value_at q (cond b (e ∷ y ∷ ys) (y ∷ with_item entry_id e ys))
      ≡ cond (ties q e.id) (Some e.value) (value_at q (y ∷ ys))) [
        | true ↦ refl
        | false ↦
            ap (cond (ties q y.id) (Some y.value)) rest
            ∙ either_first q y.id e.id (Some y.value) (Some e.value) (value_at q ys) lacks.0
      ]

  at_without : (id : ℕ) (es : List (Entry X)) (q : ℕ)
      → value_at q (without_item entry_id id es) ≡ cond (ties q id) None (value_at q es)
  at_without id [] q = none_either None (ties q id) refl
  at_without id (y ∷ ys) q =
      let rest = at_without id ys q in
      elim (cases_eq y.id id) [
        | inl same ↦
            ap (λ b. value_at q (cond b (without_item entry_id id ys)
            (y ∷ without_item entry_id id ys))) (eq-eqb y.id id same)
            ∙ rest
            ∙ sym (ap (λ i. cond (ties q id) None (cond (ties q i) (Some y.value) (value_at q ys)))
            same
            ∙ elim (ties q id) as (λ t. cond t None (cond t (Some y.value) (value_at q ys))
            ≡ cond t None (value_at q ys)) [
              | true ↦ refl
              | false ↦ refl
            ])
        | inr other ↦
            ap (λ b. value_at q (cond b (without_item entry_id id ys)
            (y ∷ without_item entry_id id ys))) (ne_eqb y.id id other)
            ∙ ap (cond (ties q y.id) (Some y.value)) rest
            ∙ either_first q y.id id (Some y.value) None (value_at q ys) other
      ]

  at_swapped : (e : Entry X) (es : List (Entry X)) (q : ℕ) → IsTrue (has_id entry_id e.id es)
      → value_at q (swapped entry_id e es) ≡ cond (ties q e.id) (Some e.value) (value_at q es)
  at_swapped e es q has = elim (cases_eq q e.id) [
    | inl same ↦
        ap (λ n. value_at n (swapped entry_id e es)) same ∙ here es has
        ∙ sym (ap (λ t. cond t (Some e.value) (value_at q es)) (ties_same q e.id same))
    | inr other ↦
        there q es other
        ∙ sym (ap (λ t. cond t (Some e.value) (value_at q es)) (ties_other q e.id other))
  ]
    where
      there : (q : ℕ) (es : List (Entry X)) → (q ≡ e.id → ⊥)
          → value_at q (swapped entry_id e es) ≡ value_at q es
      there q [] other = refl
      there q (y ∷ ys) other =
          let rest = there q ys other in
          elim (cases_eq y.id e.id) [
            | inl same ↦
                ap (λ b. value_at q (cond b e y ∷ swapped entry_id e ys)) (eq-eqb y.id e.id same)
                ∙ ap (λ t. cond t (Some e.value) (value_at q (swapped entry_id e ys)))
                (ties_other q e.id other)
                ∙ rest
                ∙ sym (ap (λ t. cond t (Some y.value) (value_at q ys))
                (ties_other q y.id (λ is. other (is ∙ same))))
            | inr apart ↦
                ap (λ b. value_at q (cond b e y ∷ swapped entry_id e ys)) (ne_eqb y.id e.id apart)
                ∙ ap (cond (ties q y.id) (Some y.value)) rest
          ]

      here : (es : List (Entry X)) → IsTrue (has_id entry_id e.id es)
          → value_at e.id (swapped entry_id e es) ≡ Some e.value
      here [] has = absurd (true≢false (sym has))
      here (y ∷ ys) has = elim (cases_eq y.id e.id) [
        | inl same ↦
            ap (λ b. value_at e.id (cond b e y ∷ swapped entry_id e ys)) (eq-eqb y.id e.id same)
            ∙ ap (λ t. cond t (Some e.value) (value_at e.id (swapped entry_id e ys)))
            (ties_same e.id e.id refl)
        | inr apart ↦
            let more : IsTrue (has_id entry_id e.id ys) =
            subst (λ b. IsTrue (cond b true (has_id entry_id e.id ys))) (ne_eqb y.id e.id apart) has
            in
            ap (λ b. value_at e.id (cond b e y ∷ swapped entry_id e ys)) (ne_eqb y.id e.id apart)
            ∙ ap (λ t. cond t (Some y.value) (value_at e.id (swapped entry_id e ys)))
            (ties_other e.id y.id (λ is. apart (sym is)))
            ∙ here ys more
      ]

  pub same_column : (m n : Column X) → ((q : ℕ) → fin.get m q ≡ fin.get n q) → m ≡ n
  same_column m n is = fin.same_map nat_cmp_total fin.nat_cmp-IsAntisymmetric m n is

  pub column_with : (e : Entry X) (es : List (Entry X)) → Lacks entry_id e.id es
      → column (with_item entry_id e es) ≡ fin.insert (column es) e.id e.value
  column_with e es lacks =
      same_column (column (with_item entry_id e es)) (fin.insert (column es) e.id e.value)
      (λ q. get_column (with_item entry_id e es) q ∙ at_with e es q lacks
      ∙ ap (cond (ties q e.id) (Some e.value)) (sym (get_column es q))
      ∙ sym (fin.get-insert nat_cmp_total (column es) e.id e.value q))

  pub column_without : (id : ℕ) (es : List (Entry X))
      → column (without_item entry_id id es) ≡ fin.remove (column es) id
  column_without id es =
      same_column (column (without_item entry_id id es)) (fin.remove (column es) id)
      (λ q. get_column (without_item entry_id id es) q ∙ at_without id es q
      ∙ ap (cond (ties q id) None) (sym (get_column es q))
      ∙ sym (fin.get-remove nat_cmp_total (column es) id q))

  pub column_swapped : (e : Entry X) (es : List (Entry X)) → IsTrue (has_id entry_id e.id es)
      → column (swapped entry_id e es) ≡ fin.insert (column es) e.id e.value
  column_swapped e es has =
      same_column (column (swapped entry_id e es)) (fin.insert (column es) e.id e.value)
      (λ q. get_column (swapped entry_id e es) q ∙ at_swapped e es q has
      ∙ ap (cond (ties q e.id) (Some e.value)) (sym (get_column es q))
      ∙ sym (fin.get-insert nat_cmp_total (column es) e.id e.value q))
