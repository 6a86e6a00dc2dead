-- What a column has whose values are given by the items.
use Rattle.std.proofs.Common.{◌≡◌, ℕ, cond, List, [], ◌∷◌, map, Some, None}
use Rattle.std.proofs.Common.{refl, sym, ap, ◌∙◌, inl, inr}
use Rattle.std.specs.Prelude.{◌||◌}
use Rattle.std.specs.Cmp.{nat_cmp_total}
use Rattle.std.specs.FinMap as fin
use Rattle.std.specs.Ordering.{nat_cmp}
use Rattle.std.proofs.lemmas.Bool.{cases_eq, eq-eqb, ne_eqb}
use Rattle.plain_digraph.specs.Lists.{has}
use Rattle.plain_digraph.proofs.Keys.{ties_same, ties_other}
use Rattle.plain_world.specs.Values.{column_of}

-- at one of the items its value, elsewhere nothing
pub at_values : {X : Type 0} (value : ℕ → X) (items : List ℕ) (q : ℕ)
    → fin.get (column_of items value) q ≡ cond (has items q) (Some (value q)) None
at_values value items q =
    fin.get-from_entries nat_cmp_total (map (λ id. (id, value id)) items) q ∙ found items
  where
    found : (list : List ℕ) → fin.find nat_cmp q (map (λ id. (id, value id)) list)
        ≡ cond (has list q) (Some (value q)) None
    found [] = refl
    found (id ∷ list) =
        let rest = found list in
        elim (cases_eq q id) [
          | inl same ↦
              ap (λ t. cond t (Some (value id))
              (fin.find nat_cmp q (map (λ id. (id, value id)) list))) (ties_same q id same)
              ∙ ap (λ n. Some (value n)) (sym same)
              ∙ sym (ap (λ b. cond (b || has list q) (Some (value q)) None)
              (eq-eqb id q (sym same)))
          | inr other ↦
              ap (λ t. cond t (Some (value id))
              (fin.find nat_cmp q (map (λ id. (id, value id)) list))) (ties_other q id other)
              ∙ rest
              ∙ sym (ap (λ b. cond (b || has list q) (Some (value q)) None)
              (ne_eqb id q (λ is. other (sym is))))
        ]
