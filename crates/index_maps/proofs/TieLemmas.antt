-- A table of labels and the places of its items through each change.
use Rattle.std.proofs.Common.{◌≡◌, ◌≢◌, ℕ, ◌+◌, ◌-◌, ◌<◌, ◌≤◌, List, [], ◌∷◌, ◌++◌, length, get_or}
use Rattle.std.proofs.Common.{set, take, sym, ap, subst, ◌∙◌, arith, ⊎_elim}
use Rattle.std.proofs.lemmas.Bool.{cases_eq, cases_lt}
use Rattle.std.proofs.lemmas.Grind.{common_steps}
use Rattle.std.proofs.lemmas.List.{set-append_left}
use Rattle.std.specs.List.{swap_remove}
use Rattle.index_maps.specs.Labels.{Owned, no_label, item_at, IsTied}

abbrev row : List Owned → ℕ → Owned
row table p = get_or table p no_label

-- the places stay
pub tied-same : (table : List Owned) (c d : ℕ → ℕ) → ((j : ℕ) → d j ≡ c j) → IsTied table c
    → IsTied table d
tied-same table c d same t = subst (IsTied table) (λ k j. sym (same j) k) t

-- a label more
module _ (table : List Owned) (x : Owned) where
  pub put-old : (q : ℕ) → q ≢ 0 → q ≤ length table
      → row (table ++ x ∷ []) (q - 1) ≡ row table (q - 1)
  put-old q n l = let k : q - 1 < length table =
      omega (arith, n, l) in grind (arith, common_steps, k)

  pub put-new : row (table ++ x ∷ []) (length table + 1 - 1) ≡ x
  put-new = grind (arith, common_steps)

  pub tied-put : (c d : ℕ → ℕ) → IsTied table c → c x.1 ≡ 0 → d x.1 ≡ length table + 1
      → ((j : ℕ) → j ≢ x.1 → d j ≡ c j) → IsTied (table ++ x ∷ []) d
  tied-put c d t none new same =
      let longer : length (table ++ x ∷ []) ≡ length table + 1 = grind (arith, common_steps) in
      record {
        within = λ j. ⊎_elim
            (λ (e : j ≡ x.1). let q = ap d e ∙ new in omega (arith, q, longer))
            (λ (n : j ≢ x.1). let q = same j n in let w = t.within j in omega (arith, q, w, longer))
            (cases_eq j x.1);
        names = λ j z. ⊎_elim
            (λ (e : j ≡ x.1). ap (item_at (table ++ x ∷ [])) (ap d e ∙ new)
            ∙ ap (λ (r : Owned). r.1) put-new ∙ sym e)
            (λ (n : j ≢ x.1).
            let q = same j n in
            let cz : c j ≢ 0 = λ y. z (q ∙ y) in
            ap (item_at (table ++ x ∷ [])) q
            ∙ ap (λ (r : Owned). r.1) (put-old (c j) cz (t.within j)) ∙ t.names j cz)
            (cases_eq j x.1);
        found = λ p l. ⊎_elim
            (λ (e : p ≡ length table).
            let k : item_at (table ++ x ∷ []) (p + 1) ≡ x.1 =
            ap (λ n. item_at (table ++ x ∷ []) (n + 1)) e ∙ ap (λ (r : Owned). r.1) put-new in
            ap d k ∙ new ∙ ap (λ n. n + 1) (sym e))
            (λ (n : p ≢ length table).
            let w : p < length table = omega (arith, l, n, longer) in
            let nz : p + 1 ≢ 0 = λ y. absurd (omega (arith, y)) in
            let k : item_at (table ++ x ∷ []) (p + 1) ≡ item_at table (p + 1) =
            ap (λ (r : Owned). r.1) (put-old (p + 1) nz (omega (arith, w))) in
            let f = t.found p w in
            let other : item_at table (p + 1) ≢ x.1 = λ y.
            absurd (let u = sym f ∙ ap c y ∙ none in omega (arith, u)) in
            ap d k ∙ same (item_at table (p + 1)) other ∙ f)
            (cases_eq p (length table));
      }

-- another label in the place of an item's
module _ (table : List Owned) (x : Owned) (p : ℕ) (l : p < length table) where
  pub replace-old : (q : ℕ) → q ≢ 0 → q ≢ p + 1 → row (set table p x) (q - 1) ≡ row table (q - 1)
  replace-old q n m = let k : q - 1 ≢ p = λ y.
      m (omega (arith, y, n)) in grind (arith, common_steps, k)

  pub replace-new : row (set table p x) (p + 1 - 1) ≡ x
  replace-new = grind (arith, common_steps, l)

  pub tied-replace : (c : ℕ → ℕ) → IsTied table c → c x.1 ≡ p + 1 → IsTied (set table p x) c
  tied-replace c t e =
      let as_long : length (set table p x) ≡ length table = grind (arith, common_steps) in
      let pz : c x.1 ≢ 0 = λ y. absurd (omega (arith, y, e)) in
      let own : item_at table (p + 1) ≡ x.1 = ap (item_at table) (sym e) ∙ t.names x.1 pz in
      let item : (q : ℕ) → q ≢ 0 → item_at (set table p x) q ≡ item_at table q =
      λ q n. ⊎_elim
      (λ (m : q ≡ p + 1). ap (item_at (set table p x)) m ∙ ap (λ (r : Owned). r.1) replace-new
      ∙ sym own ∙ ap (item_at table) (sym m))
      (λ (m : q ≢ p + 1). ap (λ (r : Owned). r.1) (replace-old q n m))
      (cases_eq q (p + 1)) in
      record {
        within = λ j. let w = t.within j in omega (arith, w, as_long);
        names = λ j z. item (c j) z ∙ t.names j z;
        found = λ q k. ap c (item (q + 1) (λ y. absurd (omega (arith, y))))
            ∙ t.found q (omega (arith, k, as_long));
      }

-- a label less: the last one in its place
module _ (table : List Owned) (x : Owned) (p : ℕ) (l : p < length table) where
  pub shorter : length (swap_remove table p x) + 1 ≡ length table
  shorter = grind (arith, common_steps, l)

  pub removed-old : (q : ℕ) → q ≢ 0 → q ≢ p + 1 → q < length table
      → row (swap_remove table p x) (q - 1) ≡ row table (q - 1)
  removed-old q n m k =
      let a : q - 1 ≢ p = λ y. m (omega (arith, y, n)) in
      let b : q - 1 < length table - 1 = omega (arith, n, k) in
      grind (arith, common_steps, a, b)

  pub removed-moved : p + 1 < length table
      → row (swap_remove table p x) (p + 1 - 1) ≡ row table (length table - 1)
  removed-moved k = let b : p < length table - 1 =
      omega (arith, k) in grind (arith, common_steps, b, l)

  module _ (i : ℕ) (c : ℕ → ℕ) (t : IsTied table c) (e : c i ≡ p + 1) where
    -- the item of the last label
    pub last-place : c (item_at table (length table)) ≡ length table
    last-place =
        let n = length table in
        let y : n ≡ n - 1 + 1 = omega (arith, l) in
        ap (λ q. c (item_at table q)) y ∙ t.found (n - 1) (omega (arith, l)) ∙ sym y

    pub last-other : p + 1 < length table → item_at table (length table) ≢ i
    last-other k y = absurd (let u = sym last-place ∙ ap c y ∙ e in omega (arith, u, k))

    pub last-own : p + 1 ≡ length table → item_at table (length table) ≡ i
    last-own k = ap (item_at table) (sym k ∙ sym e) ∙ t.names i (λ y. absurd (omega (arith, y, e)))

    -- the labels of other items stay at their places
    pub stays : (j : ℕ) → j ≢ i → j ≢ item_at table (length table) → c j ≢ 0 → (c j ≢ p + 1)
        × (c j < length table)
    stays j a b z = (
      (λ y. a (sym (t.names j z) ∙ ap (item_at table) (y ∙ sym e)
          ∙ t.names i (λ u. absurd (omega (arith, u, e))))),
      (let w = t.within j in let v : c j ≢ length table = λ y.
          b (sym (t.names j z) ∙ ap (item_at table) y) in omega (arith, w, v)),
    )

  pub tied-removed : (i : ℕ) (c d : ℕ → ℕ) → IsTied table c → c i ≡ p + 1 → d i ≡ 0
      → (p + 1 < length table → d (item_at table (length table)) ≡ p + 1)
      → ((j : ℕ) → j ≢ i → j ≢ item_at table (length table) → d j ≡ c j)
      → IsTied (swap_remove table p x) d
  tied-removed i c d t e gone moved same =
      let n = length table in
      let m = item_at table n in
      let s = shorter in
      let fm = last-place i c t e in
      let ends = last-own i c t e in
      record {
        within = λ j. ⊎_elim
            (λ (a : j ≡ i). let q = ap d a ∙ gone in omega (arith, q))
            (λ (a : j ≢ i). ⊎_elim
            (λ (b : j ≡ m). ⊎_elim
            (λ (k : p + 1 < n). let q = ap d b ∙ moved k in omega (arith, q, k, s))
            (λ (k : n ≤ p + 1). absurd (a (b ∙ ends (omega (arith, k, l)))))
            (cases_lt (p + 1) n))
            (λ (b : j ≢ m). let q = same j a b in ⊎_elim
            (λ (z : c j ≡ 0). omega (arith, q, z))
            (λ (z : c j ≢ 0). let w = (stays i c t e j a b z).1 in omega (arith, q, w, s))
            (cases_eq (c j) 0))
            (cases_eq j m))
            (cases_eq j i);
        names = λ j z. ⊎_elim
            (λ (a : j ≡ i). absurd (z (ap d a ∙ gone)))
            (λ (a : j ≢ i). ⊎_elim
            (λ (b : j ≡ m). ⊎_elim
            (λ (k : p + 1 < n). ap (item_at (swap_remove table p x)) (ap d b ∙ moved k)
            ∙ ap (λ (r : Owned). r.1) (removed-moved k) ∙ sym b)
            (λ (k : n ≤ p + 1). absurd (a (b ∙ ends (omega (arith, k, l)))))
            (cases_lt (p + 1) n))
            (λ (b : j ≢ m).
            let q = same j a b in
            let cz : c j ≢ 0 = λ y. z (q ∙ y) in
            let w = stays i c t e j a b cz in
            ap (item_at (swap_remove table p x)) q
            ∙ ap (λ (r : Owned). r.1) (removed-old (c j) cz w.0 w.1) ∙ t.names j cz)
            (cases_eq j m))
            (cases_eq j i);
        found = λ q k. ⊎_elim
            (λ (a : q ≡ p).
            let w : p + 1 < n = omega (arith, k, a, s) in
            let r : item_at (swap_remove table p x) (q + 1) ≡ m =
            ap (λ o. item_at (swap_remove table p x) (o + 1)) a
            ∙ ap (λ (r : Owned). r.1) (removed-moved w) in
            ap d r ∙ moved w ∙ ap (λ o. o + 1) (sym a))
            (λ (a : q ≢ p).
            let w : q + 1 < n = omega (arith, k, s) in
            let r : item_at (swap_remove table p x) (q + 1) ≡ item_at table (q + 1) =
            ap (λ (r : Owned). r.1)
            (removed-old (q + 1) (λ y. absurd (omega (arith, y)))
            (λ y. a (omega (arith, y))) w) in
            let f = t.found q (omega (arith, w)) in
            let j = item_at table (q + 1) in
            let ji : j ≢ i = λ y. a (let u = sym f ∙ ap c y ∙ e in omega (arith, u)) in
            let jm : j ≢ m = λ y. absurd (let u = sym f ∙ ap c y ∙ fm in omega (arith, u, w)) in
            ap d r ∙ same j ji jm ∙ f)
            (cases_eq q p);
      }

-- a label put last and then in the place of another
pub put-removed : (table : List Owned) (x d : Owned) (p : ℕ) → p < length table
    → swap_remove (table ++ x ∷ []) p d ≡ set table p x
put-removed table x d p l =
    let n : length (table ++ x ∷ []) - 1 ≡ length table = grind (arith, common_steps) in
    let y : get_or (table ++ x ∷ []) (length (table ++ x ∷ []) - 1) d ≡ x =
    ap (λ k. get_or (table ++ x ∷ []) k d) n
    ∙ (let z : get_or (table ++ x ∷ []) (length table) d ≡ x =
    grind (arith, common_steps) in z) in
    let k : length (set table p x) ≡ length table = grind (arith, common_steps) in
    ap (λ m. take m
    (set (table ++ x ∷ []) p (get_or (table ++ x ∷ []) (length (table ++ x ∷ []) - 1) d))) n
    ∙ ap (λ v. take (length table) (set (table ++ x ∷ []) p v)) y
    ∙ ap (take (length table)) (set-append_left table (x ∷ []) p x l)
    ∙ grind (arith, common_steps, k)
