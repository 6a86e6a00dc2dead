-- The items with their labels through each change of the table.
use Rattle.std.proofs.Common.{◌≡◌, ◌≢◌, ℕ, ◌+◌, ◌-◌, ◌<◌, ◌≤◌, IsTrue, List, [], ◌∷◌, ◌++◌, length}
use Rattle.std.proofs.Common.{get_or, set, Some, refl, sym, ap, ◌∙◌, arith, ⊎_elim}
use Rattle.std.proofs.lemmas.Bool.{cases_eq}
use Rattle.std.proofs.lemmas.Grind.{common_steps}
use Rattle.std.specs.List.{swap_remove}
use Rattle.observe_core.specs.Held.{Entry, entry_id}
use Rattle.plain_digraph.specs.Rising.{without_item, swapped}
use Rattle.observe_core.specs.Items.{has_id}
use Rattle.index_maps.specs.Labels.{Owned, no_label, label_at, item_at, place_of, labelled, IsTied}
use Rattle.index_maps.specs.LabelFacts.{AreOwn}
use Rattle.index_maps.specs.RefViews.{with_label}
use Rattle.index_maps.proofs.ValueLemmas.{value_of-gone, value_of-without, value_of-set}
use Rattle.columns.specs.Views.{entry as at}
use Rattle.index_maps.proofs.ValueLemmas.{value_of-other, value_of-has}
use Rattle.index_maps.proofs.LabelLemmas.{relabelled, unmoved, removed}
use Rattle.index_maps.proofs.TieLemmas.{put-old, put-new, tied-put, replace-old, replace-new}
use Rattle.index_maps.proofs.TieLemmas.{removed-old, removed-moved, tied-removed, last-place}
use Rattle.index_maps.proofs.TieLemmas.{last-other, last-own, stays}

pub label_there : (table : List Owned) (n : ℕ) → n ≢ 0
    → label_at table n ≡ Some (get_or table (n - 1) no_label).0
label_there table n z = grind (arith, common_steps, z)

-- the same label by the same row
label_by : (now table : List Owned) (n : ℕ)
    → (n ≢ 0 → get_or now (n - 1) no_label ≡ get_or table (n - 1) no_label)
    → label_at now n ≡ label_at table n
label_by now table n h = ⊎_elim
    (λ (z : n ≡ 0). ap (label_at now) z ∙ ap (label_at table) (sym z))
    (λ (z : n ≢ 0). label_there now n z ∙ ap (λ (r : Owned). Some r.0) (h z)
    ∙ sym (label_there table n z))
    (cases_eq n 0)

module _ (table : List Owned) (es : List (Entry ℕ)) (tied : IsTied table (place_of es))
    (own : AreOwn (place_of es) es) where
  pub put-labelled : (x : Owned)
      → labelled (table ++ x ∷ []) (swapped entry_id (at x.1 (length table + 1)) es)
      ≡ swapped entry_id (with_label x.1 (Some x.0)) (labelled table es)
  put-labelled x =
      relabelled table (table ++ x ∷ []) x.1 (length table + 1) (Some x.0) (place_of es) es
      (label_there (table ++ x ∷ []) (length table + 1) (λ y. absurd (omega (arith, y)))
      ∙ ap (λ (r : Owned). Some r.0) (put-new table x))
      (λ j n. label_by (table ++ x ∷ []) table (place_of es j)
      (λ z. put-old table x (place_of es j) z (tied.within j)))
      own

  pub put-tied : (x : Owned) → IsTrue (has_id entry_id x.1 es) → place_of es x.1 ≡ 0
      → IsTied (table ++ x ∷ []) (place_of (swapped entry_id (at x.1 (length table + 1)) es))
  put-tied x has none =
      tied-put table x (place_of es) (place_of (swapped entry_id (at x.1 (length table + 1)) es))
      tied none (value_of-set 0 x.1 (length table + 1) es has)
      (λ j n. value_of-other 0 x.1 (length table + 1) j es n)

  pub replace-labelled : (x : Owned) (p : ℕ) → p < length table → place_of es x.1 ≡ p + 1
      → labelled (set table p x) es
      ≡ swapped entry_id (with_label x.1 (Some x.0)) (labelled table es)
  replace-labelled x p l e =
      let same : swapped entry_id (at x.1 (p + 1)) es ≡ es =
      ap (λ v. swapped entry_id (at x.1 v) es) (sym e) ∙ unmoved x.1 (place_of es) es own in
      ap (labelled (set table p x)) (sym same)
      ∙ relabelled table (set table p x) x.1 (p + 1) (Some x.0) (place_of es) es
      (label_there (set table p x) (p + 1) (λ y. absurd (omega (arith, y)))
      ∙ ap (λ (r : Owned). Some r.0) (replace-new table x p l))
      (λ j n. label_by (set table p x) table (place_of es j)
      (λ z. replace-old table x p l (place_of es j) z
      (λ y. n (sym (tied.names j z) ∙ ap (item_at table) (y ∙ sym e)
      ∙ tied.names x.1 (λ u. absurd (omega (arith, u, e)))))))
      own

  module _ (x : Owned) (p : ℕ) (l : p < length table) (i : ℕ) (e : place_of es i ≡ p + 1) where
    others_same : (j : ℕ) → j ≢ i → j ≢ item_at table (length table)
        → label_at (swap_remove table p x) (place_of es j) ≡ label_at table (place_of es j)
    others_same j a b =
        label_by (swap_remove table p x) table (place_of es j)
        (λ z. let w =
        stays table x p l i (place_of es) tied e j a b z in removed-old table x p l (place_of es j)
        z w.0 w.1)

    without-set : (v : ℕ) (xs : List (Entry ℕ))
        → without_item entry_id i (swapped entry_id (at i v) xs) ≡ without_item entry_id i xs
    without-set v [] = refl
    without-set v (y ∷ ys) = let r = without-set v ys in grind (arith, common_steps, r)

    -- its label was the last
    module _ (k : length table ≤ p + 1) where
      m_is : item_at table (length table) ≡ i
      m_is = last-own table x p l i (place_of es) tied e (omega (arith, k, l))

      pub last-labelled : labelled (swap_remove table p x) (without_item entry_id i es)
          ≡ without_item entry_id i (labelled table es)
      last-labelled =
          ap (labelled (swap_remove table p x)) (sym (without-set 0 es))
          ∙ removed table (swap_remove table p x) i i 0 (place_of es) es
          (λ j a b. others_same j a (λ y. a (y ∙ m_is))) (λ y. absurd (y refl)) own

      pub last-tied : IsTied (swap_remove table p x) (place_of (without_item entry_id i es))
      last-tied = tied-removed table x p l i (place_of es) (place_of (without_item entry_id i es))
          tied e (value_of-gone 0 i es) (λ y. absurd (omega (arith, y, k)))
          (λ j a b. value_of-without 0 i j es a)

    -- the last label moved
    module _ (k : p + 1 < length table) where
      pub moved-has : IsTrue (has_id entry_id (item_at table (length table)) es)
      moved-has = let q =
          last-place table x p l i (place_of es) tied e in value_of-has 0
          (item_at table (length table)) es (λ z. absurd (omega (arith, q, z, k)))

      pub moved-labelled : labelled (swap_remove table p x) (without_item entry_id i
          (swapped entry_id (at (item_at table (length table)) (p + 1)) es))
          ≡ without_item entry_id i (labelled table es)
      moved-labelled =
          removed table (swap_remove table p x) i (item_at table (length table)) (p + 1)
          (place_of es) es others_same
          (λ y.
          label_there (swap_remove table p x) (p + 1) (λ z. absurd (omega (arith, z)))
          ∙ ap (λ (r : Owned). Some r.0) (removed-moved table x p l k)
          ∙ sym (label_there table (length table) (λ z. absurd (omega (arith, z, k))))
          ∙ ap (label_at table) (sym (last-place table x p l i (place_of es) tied e)))
          own

      pub moved-tied : IsTied (swap_remove table p x) (place_of
          (without_item entry_id i
          (swapped entry_id (at (item_at table (length table)) (p + 1)) es)))
      moved-tied =
          let m = item_at table (length table) in
          let now = swapped entry_id (at m (p + 1)) es in
          tied-removed table x p l i (place_of es) (place_of (without_item entry_id i now)) tied e
          (value_of-gone 0 i now)
          (λ y. value_of-without 0 i m now (last-other table x p l i (place_of es) tied e k)
          ∙ value_of-set 0 m (p + 1) es moved-has)
          (λ j a b. value_of-without 0 i j now a ∙ value_of-other 0 m (p + 1) j es b)
