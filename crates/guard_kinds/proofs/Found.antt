-- What a search in counts by key found, and what a write there does.
use Rattle.std.proofs.Common.{◌≡◌, ℕ, ◌+◌, ◌-◌, ◌<◌, ◌≤◌, false, ◌==◌, if◌then◌else◌, IsTrue, List}
use Rattle.std.proofs.Common.{map, length, get_or, set, vec_len, refl, sym, ap, subst, ◌∙◌, arith}
use Rattle.std.proofs.Common.{zero, suc, [], ◌∷◌}
use Rattle.std.proofs.Math.Seq.{map-set_same}
use Rattle.std.proofs.lemmas.Grind.{common_steps}
use Rattle.std.proofs.lemmas.List.Sums.{sum_by-set}
use Rattle.observe_core.specs.Items.{number_id, has_id}
use Rattle.guard_kinds.specs.declared.counts.KeyCount.{KeyCount}
use Rattle.guard_kinds.specs.declared.counts.KeyCounts.{KeyCounts}
use Rattle.guard_kinds.specs.Counting.{keys_of, count_at, total_of, own_keys, last_where, bucket}
use Rattle.guard_kinds.specs.Counting.{in_bucket, no_count, IsLinked, IsHeaded}
use Rattle.guard_kinds.proofs.CountingLemmas.{key-at, last-passes, last-none, none_has, count-none}
use Rattle.guard_kinds.proofs.CountingLemmas.{count-found, count-set, split}

abbrev place_of : KeyCounts → ℕ → ℕ
place_of c key = last_where (λ k. k == key) (keys_of c.entries.items) (vec_len c.entries)

keys-length : (es : List KeyCount) → length (keys_of es) ≡ length es
keys-length [] = refl
keys-length (e ∷ es) = let r = keys-length es in omega (arith, r)

module _ (c : KeyCounts) (key at : ℕ) (is : at ≡ place_of c key) where
  pub missing : at ≡ 0 → has_id number_id key (keys_of c.entries.items) ≡ false
  missing z =
      let l = keys-length c.entries.items in
      let n : length c.entries.items ≡ vec_len c.entries = omega arith in
      none_has (keys_of c.entries.items) key
      (λ i m. last-none (λ k. k == key) (keys_of c.entries.items) (vec_len c.entries)
      (sym is ∙ z) i (omega (arith, m, l, n)))

  pub none-there : at ≡ 0 → count_at c.entries.items key ≡ 0
  none-there z = count-none c.entries.items key (missing z)

  module _ (some : 0 < at) (within : at ≤ vec_len c.entries) where
    pub inside : at - 1 < length c.entries.items
    inside = omega (arith, some, within)

    pub found-key : (get_or c.entries.items (at - 1) no_count).key ≡ key
    found-key =
        let p = last-passes (λ k. k == key) (keys_of c.entries.items) (vec_len c.entries)
        (omega (arith, is, some)) in
        let q : IsTrue (get_or (keys_of c.entries.items) (at - 1) 0 == key) =
        subst (λ i. IsTrue (get_or (keys_of c.entries.items) (i - 1) 0 == key)) (sym is) p in
        let k : get_or (keys_of c.entries.items) (at - 1) 0 ≡ key =
        grind (arith, common_steps, q) in
        sym (key-at c.entries.items (at - 1)) ∙ k

    pub found-count : count_at c.entries.items key
        ≡ (get_or c.entries.items (at - 1) no_count).count
    found-count = count-found c.entries.items (at - 1) key inside c.own found-key

abbrev nexts_of : List KeyCount → List ℕ
nexts_of = map (λ e. e.next)

next-at : (es : List KeyCount) (i : ℕ) → get_or (nexts_of es) i 0 ≡ (get_or es i no_count).next
next-at [] i = refl
next-at (e ∷ es) zero = refl
next-at (e ∷ es) (suc i) = next-at es i

linked-same : (size n : ℕ) (es ds : List KeyCount) → keys_of ds ≡ keys_of es
    → nexts_of ds ≡ nexts_of es → IsLinked size es n → IsLinked size ds n
linked-same size n es ds k x h = λ i l.
    sym (next-at ds i) ∙ ap (λ ns. get_or ns i 0) x ∙ next-at es i ∙ h i l
    ∙ ap (λ ks. last_where (in_bucket size (bucket size (get_or ks i 0))) ks i) (sym k)

-- an entry whose count alone is written
module _ (es : List KeyCount) (i n : ℕ) (r : KeyCount) (l : i < length es)
    (e : get_or es i no_count ≡ r) where
  abbrev recounted : List KeyCount
  recounted = set es i (record r { count = n })

  pub recounted-keys : keys_of recounted ≡ keys_of es
  recounted-keys =
      map-set_same (λ (e : KeyCount). e.key) es i (record r { count = n }) no_count
      (ap (λ (e : KeyCount). e.key) (sym e))

  pub recounted-linked : (size m : ℕ) → IsLinked size es m → IsLinked size recounted m
  recounted-linked size m h =
      linked-same size m es recounted recounted-keys
      (map-set_same (λ (e : KeyCount). e.next) es i (record r { count = n }) no_count
      (ap (λ (e : KeyCount). e.next) (sym e))) h

  pub recounted-headed : (size m : ℕ) (hs : List ℕ) → IsHeaded size hs es m
      → IsHeaded size hs recounted m
  recounted-headed size m hs h =
      subst (λ ks. (b : ℕ) → b < size → get_or hs b 0 ≡ last_where (in_bucket size b) ks m)
      (sym recounted-keys) h

  pub recounted-own : IsTrue (own_keys (keys_of es)) → IsTrue (own_keys (keys_of recounted))
  recounted-own h = subst (λ ks. IsTrue (own_keys ks)) (sym recounted-keys) h

  pub raised-count : (key : ℕ) → r.key ≡ key → n ≡ r.count + 1 → (m : ℕ)
      → count_at recounted m ≡ (if key == m then 1 else 0) + count_at es m
  raised-count key k a m =
      let s = count-set es i key l (ap (λ (e : KeyCount). e.key) e ∙ k) (record r { count = n }) k
      m in
      let x : (if key == m then (get_or es i no_count).count else 0)
      ≡ (if key == m then r.count else 0) =
      ap (λ (d : KeyCount). if key == m then d.count else 0) e in
      let y : (if key == m then n else 0) ≡ (if key == m then r.count + 1 else 0) =
      ap (λ c. if key == m then c else 0) a in
      let z = split key m r.count in
      omega (arith, s, x, y, z)

  pub lowered-count : (key : ℕ) → r.key ≡ key → r.count ≡ n + 1 → (m : ℕ)
      → count_at es m ≡ (if key == m then 1 else 0) + count_at recounted m
  lowered-count key k a m =
      let s = count-set es i key l (ap (λ (e : KeyCount). e.key) e ∙ k) (record r { count = n }) k
      m in
      let x : (if key == m then (get_or es i no_count).count else 0)
      ≡ (if key == m then r.count else 0) =
      ap (λ (d : KeyCount). if key == m then d.count else 0) e in
      let y : (if key == m then r.count else 0) ≡ (if key == m then n + 1 else 0) =
      ap (λ c. if key == m then c else 0) a in
      let z = split key m n in
      omega (arith, s, x, y, z)

  pub recounted-total : total_of recounted + r.count ≡ total_of es + n
  recounted-total =
      let s = sum_by-set (λ (e : KeyCount). e.count) es i (record r { count = n }) no_count l in
      let x = ap (λ (d : KeyCount). d.count) e in
      omega (arith, s, x)
