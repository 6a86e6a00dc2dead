-- The first true item, by the values of ids.
use Rattle.std.proofs.Common.{◌≡◌, ◌≢◌, ℕ, ◌+◌, ◌<◌, ◌≤◌, ◌==◌, ◌&&◌, nat_le, Bool, true, false}
use Rattle.std.proofs.Common.{if◌then◌else◌, IsTrue}
use Rattle.std.proofs.Common.{List, [], ◌∷◌, Some, None, refl, sym, ap, subst, ◌∙◌, arith, ⊎_elim}
use Rattle.std.specs.Prelude.{Result, Ok, Err, OnOk, OnErr}
use Rattle.std.proofs.lemmas.Bool.{cases_eq, cases_lt}
use Rattle.std.proofs.lemmas.Grind.{common_steps}
use Rattle.observe_core.specs.Held.{Entry, entry_id}
use Rattle.observe_core.specs.Items.{Lacks, rises_from, has_id}
use Rattle.plain_digraph.specs.Rising.{with_item, without_item, swapped}
use Rattle.columns.specs.Views.{entry}
use Rattle.observe_core.proofs.ItemLemmas.{rises-lacks}
use Rattle.index_maps.specs.Bits.{IsFirst}
use Rattle.index_maps.specs.Lookup.{value_of}
use Rattle.index_maps.specs.Trues.{first_true}
use Rattle.index_maps.proofs.ValueLemmas.{value_of-lacks, value_of-more, value_of-gone}
use Rattle.index_maps.proofs.ValueLemmas.{value_of-without}
use Rattle.index_maps.proofs.ValueLemmas.{value_of-set, value_of-other}

-- the value of an id behind the first entry
behind : (e : Entry Bool) (es : List (Entry Bool)) (k : ℕ)
    → IsTrue (rises_from entry_id (e.id + 1) es)
    → k ≤ e.id → value_of false es k ≡ false
behind e es k h l =
    value_of-lacks false k es (rises-lacks entry_id (e.id + 1) k es h (omega (arith, l)))

pub none_true : (r low : ℕ) (es : List (Entry Bool)) → IsTrue (rises_from entry_id r es)
    → ((k : ℕ) → low ≤ k → value_of false es k ≡ false) → first_true low es ≡ None
none_true r low [] h none = refl
none_true r low (e ∷ es) h none =
    let t : IsTrue (rises_from entry_id (e.id + 1) es) = grind (arith, common_steps, h) in
    let rest = none_true (e.id + 1) low es t (λ k l. ⊎_elim
    (λ (q : e.id < k).
    let d : (e.id == k) ≡ false = grind (arith, common_steps, q) in
    let n = none k l in
    grind (arith, common_steps, d, n))
    (λ (q : k ≤ e.id). behind e es k t q)
    (cases_lt e.id k)) in
    let here : low ≤ e.id → e.value ≡ false = λ l.
    let n = none e.id l in
    let s : (e.id == e.id) ≡ true = grind (arith, common_steps) in
    grind (arith, common_steps, n, s) in
    elim (nat_le low e.id) as (λ b. nat_le low e.id ≡ b
    → (if b && e.value then Some e.id else first_true low es) ≡ None) [
      | true ↦ λ q.
          let l : low ≤ e.id = grind (arith, common_steps, q) in
          let v = here l in
          grind (arith, common_steps, rest, v)
      | false ↦ λ q. rest
    ] refl

pub first_is_true : (r low n : ℕ) (es : List (Entry Bool)) → IsTrue (rises_from entry_id r es)
    → IsFirst (value_of false es) low n → first_true low es ≡ Some n
first_is_true r low n [] h f = let q = f.found in cc
first_is_true r low n (e ∷ es) h f =
    let t : IsTrue (rises_from entry_id (e.id + 1) es) = grind (arith, common_steps, h) in
    let own : value_of false (e ∷ es) e.id ≡ e.value =
    let s : (e.id == e.id) ≡ true = grind (arith, common_steps) in grind (arith, common_steps, s) in
    ⊎_elim
    (λ (q : e.id ≡ n).
    let l : low ≤ e.id = let a = f.above in omega (arith, a, q) in
    let v : e.value ≡ true = sym own ∙ ap (value_of false (e ∷ es)) q ∙ f.found in
    let p : nat_le low e.id ≡ true = grind (arith, common_steps, l) in
    grind (arith, common_steps, p, v, q))
    (λ (q : e.id ≢ n).
    let other : (e.id == n) ≡ false = grind (arith, common_steps, q) in
    let there : value_of false es n ≡ true =
    let a = f.found in grind (arith, common_steps, a, other) in
    let later : e.id < n = ⊎_elim
    (λ (m : e.id < n). m)
    (λ (m : n ≤ e.id). absurd (let z = behind e es n t m in cc))
    (cases_lt e.id n) in
    let rest = first_is_true (e.id + 1) low n es t (record {
      above = f.above;
      found = there;
      first = λ j l m. ⊎_elim
          (λ (a : e.id < j).
          let d : (e.id == j) ≡ false = grind (arith, common_steps, a) in
          let u = f.first j l m in
          grind (arith, common_steps, d, u))
          (λ (a : j ≤ e.id). behind e es j t a)
          (cases_lt e.id j);
    }) in
    let here : low ≤ e.id → e.value ≡ false = λ l. sym own ∙ f.first e.id l later in
    elim (nat_le low e.id) as (λ b. nat_le low e.id ≡ b
    → (if b && e.value then Some e.id else first_true low es) ≡ Some n) [
      | true ↦ λ p.
          let l : low ≤ e.id = grind (arith, common_steps, p) in
          let v = here l in
          grind (arith, common_steps, rest, v)
      | false ↦ λ p. rest
    ] refl)
    (cases_eq e.id n)

-- a set of marks beside the entries through their changes
module _ (was now : ℕ → Bool) (es : List (Entry Bool))
    (marked : (k : ℕ) → was k ≡ value_of false es k)
    (id : ℕ) where
  pub marked_more : ((k : ℕ) → now k ≡ was k) → Lacks entry_id id es
      → (k : ℕ) → now k ≡ value_of false (with_item entry_id (entry id false) es) k
  marked_more same free k = same k ∙ marked k ∙ sym (value_of-more false id k es free)

  -- an addition that may fail
  pub marked_put : {X E : Type 0} (r : Result X E) (new : List (Entry Bool))
      → OnOk r (new ≡ with_item entry_id (entry id false) es) → OnErr r (new ≡ es)
      → ((k : ℕ) → now k ≡ was k) → Lacks entry_id id es
      → (k : ℕ) → now k ≡ value_of false new k
  marked_put (Ok x) new ok err same free k =
      marked_more same free k ∙ ap (λ xs. value_of false xs k) (sym ok)
  marked_put (Err e) new ok err same free k =
      same k ∙ marked k ∙ ap (λ xs. value_of false xs k) (sym err)

  pub marked_set : (v : Bool) → now id ≡ v → ((k : ℕ) → k ≢ id → now k ≡ was k)
      → IsTrue (has_id entry_id id es)
      → (k : ℕ) → now k ≡ value_of false (swapped entry_id (entry id v) es) k
  marked_set v same others has k = ⊎_elim
      (λ (q : k ≡ id).
      subst (λ i. now i ≡ value_of false (swapped entry_id (entry id v) es) i) (sym q)
      (same ∙ sym (value_of-set false id v es has)))
      (λ (q : k ≢ id). others k q ∙ marked k ∙ sym (value_of-other false id v k es q))
      (cases_eq k id)

  pub marked_taken : now id ≡ false → ((k : ℕ) → k ≢ id → now k ≡ was k)
      → (k : ℕ) → now k ≡ value_of false (without_item entry_id id es) k
  marked_taken same others k = ⊎_elim
      (λ (q : k ≡ id).
      subst (λ i. now i ≡ value_of false (without_item entry_id id es) i) (sym q)
      (same ∙ sym (value_of-gone false id es)))
      (λ (q : k ≢ id). others k q ∙ marked k ∙ sym (value_of-without false id k es q))
      (cases_eq k id)
