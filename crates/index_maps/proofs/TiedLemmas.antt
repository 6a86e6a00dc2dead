-- Ties through the end of those to an item.
use Rattle.std.proofs.Common.{◌≡◌, ◌≢◌, ℕ, zero, suc, ◌+◌, ◌<◌, ◌≤◌, ◌==◌, Bool, true, false}
use Rattle.std.proofs.Common.{if◌then◌else◌}
use Rattle.std.proofs.Common.{List, [], ◌∷◌, length, Option, None, Some, Contains, refl, ap, arith}
use Rattle.std.specs.Prelude.{MatchOption}
use Rattle.std.proofs.lemmas.Grind.{common_steps}
use Rattle.plain_digraph.specs.Lists.{AllOf}
use Rattle.plain_digraph.specs.Rising.{without_item}
use Rattle.observe_core.specs.Held.{Entry, entry_id, tie_id, tied_id}
use Rattle.observe_core.specs.Items.{Lacks, HoldsOnly}
use Rattle.observe_core.specs.Slots.{present}
use Rattle.columns.specs.Slots.{slots_of}
use Rattle.columns.specs.Views.{entry}
use Rattle.index_maps.specs.TieEntries.{tie_to, tie_of, ties_in, HasNoneBelow}

module _ (n i : ℕ) where
  -- one number more, of no tie, or of a tie to another item
  pub none-lacks : (es : List (Entry ℕ)) → Lacks entry_id n es → HasNoneBelow n i (ties_in es)
      → HasNoneBelow (n + 1) i (ties_in es)
  none-lacks [] l h = tt
  none-lacks (e ∷ es) l h = (
    (λ b. let d = l.0 in h.0 (omega (arith, b, d))),
    none-lacks es l.1 h.1,
  )

  pub none-other : (v : ℕ) (es : List (Entry ℕ)) → v ≢ i → HoldsOnly entry_id (entry n v) es
      → HasNoneBelow n i (ties_in es) → HasNoneBelow (n + 1) i (ties_in es)
  none-other v [] d o h = tt
  none-other v (e ∷ es) d o h = (
    (λ b q. elim (e.id == n) as (λ t. (e.id == n) ≡ t → ⊥) [
      | true ↦ λ t.
          let same : e.id ≡ n = grind (arith, common_steps, t) in
          let u : e.value ≡ v = ap (λ (x : Entry ℕ). x.value) (o.0 same) in
          d (omega (arith, u, q))
      | false ↦ λ t.
          let other : e.id ≢ n = λ s. grind (arith, common_steps, t, s) in
          h.0 (omega (arith, b, other)) q
    ] refl),
    none-other v es d o.1 h.1,
  )

  -- a tie to the item ends
  pub none-ended : (es : List (Entry ℕ)) → HasNoneBelow n i (ties_in es)
      → HasNoneBelow (n + 1) i (ties_in (without_item entry_id n es))
  none-ended [] h = tt
  none-ended (e ∷ es) h =
      elim (e.id == n) as (λ b. (e.id == n) ≡ b
      → HasNoneBelow (n + 1) i
      (ties_in (if b then without_item entry_id n es else e ∷ without_item entry_id n es))) [
        | true ↦ λ t. none-ended es h.1
        | false ↦ λ t. (
          (λ b. let other : e.id ≢ n = λ s. grind (arith, common_steps, t, s) in
              h.0 (omega (arith, b, other))),
          none-ended es h.1,
        )
      ] refl

  pub rest-ended : (es : List (Entry ℕ)) → HoldsOnly entry_id (entry n i) es
      → without_item tied_id i (ties_in (without_item entry_id n es))
      ≡ without_item tied_id i (ties_in es)
  rest-ended [] o = refl
  rest-ended (e ∷ es) o =
      let r = rest-ended es o.1 in
      elim (e.id == n) as (λ b. (e.id == n) ≡ b
      → without_item tied_id i
      (ties_in (if b then without_item entry_id n es else e ∷ without_item entry_id n es))
      ≡ without_item tied_id i (ties_in (e ∷ es))) [
        | true ↦ λ t.
            let same : e.id ≡ n = grind (arith, common_steps, t) in
            let u : e.value ≡ i = ap (λ (x : Entry ℕ). x.value) (o.0 same) in
            let q : (e.value == i) ≡ true = grind (arith, common_steps, u) in
            grind (arith, common_steps, r, q)
        | false ↦ λ t.
            ap (λ l. if e.value == i then l else tie_of e ∷ l) r
      ] refl

-- where no tie is to the item, none ends
pub none-left : (n i : ℕ) (es : List (Entry ℕ)) → AllOf (λ e. e.id < n) es
    → HasNoneBelow n i (ties_in es) → without_item tied_id i (ties_in es) ≡ ties_in es
none-left n i [] b h = refl
none-left n i (e ∷ es) b h =
    let r = none-left n i es b.1 h.1 in
    let d : e.value ≢ i = h.0 b.0 in
    let q : (e.value == i) ≡ false = grind (arith, common_steps, d) in
    grind (arith, common_steps, r, q)

-- the ids of a column's entries are those of its slots
pub ids-within : {V : Type 0} (i n : ℕ) (ls : List Bool) (vs : List V) → i + length ls ≤ n
    → AllOf (λ e. e.id < n) (present (slots_of i ls vs))
ids-within i n [] vs l = tt
ids-within i n (b ∷ ls) [] l = tt
ids-within i n (true ∷ ls) (v ∷ vs) l =
    (omega (arith, l), ids-within (i + 1) n ls vs (omega (arith, l)))
ids-within i n (false ∷ ls) (v ∷ vs) l = ids-within (i + 1) n ls vs (omega (arith, l))

-- what is found by number
module _ (n : ℕ) where
  lacks-tie : (es : List (Entry ℕ)) → Lacks entry_id n es → Lacks tie_id n (ties_in es)
  lacks-tie [] h = tt
  lacks-tie (e ∷ es) h = (h.0, lacks-tie es h.1)

  has-tie : (v : ℕ) (es : List (Entry ℕ)) → Contains es (entry n v)
      → Contains (ties_in es) (tie_to n v)
  has-tie v [] h = absurd (omega (arith, h.1))
  has-tie v (e ∷ es) (zero, l, q) =
      let same : e ≡ entry n v = q in
      (0, omega arith, ap tie_of same)
  has-tie v (e ∷ es) (suc k, l, q) =
      let r = has-tie v es (k, omega (arith, l), q) in
      (suc r.0, omega (arith, r.1), r.2)

  pub found-tie : (o : Option ℕ) (es : List (Entry ℕ))
      → MatchOption o (Lacks entry_id n es) (λ v. Contains es (entry n v))
      → MatchOption o (Lacks tie_id n (ties_in es)) (λ v. Contains (ties_in es) (tie_to n v))
  found-tie None es h = lacks-tie es h
  found-tie (Some v) es h = has-tie v es h
