-- Counts by key: links, and what a write does to the counts.
use Rattle.std.proofs.Common.{◌≡◌, ◌≢◌, ℕ, zero, suc, ◌+◌, ◌-◌, ◌<◌, ◌≤◌, Bool, true, false, not}
use Rattle.std.proofs.Common.{◌&&◌, nat_lt, ◌==◌, if◌then◌else◌, IsTrue, List, [], ◌∷◌, ◌++◌}
use Rattle.std.proofs.Common.{length, get_or, set, filter, refl, sym, ap, subst, ◌∙◌, arith}
use Rattle.std.proofs.lemmas.Grind.{common_steps}
use Rattle.std.proofs.lemmas.List.{get_or-set_other, get_or-set_same}
use Rattle.std.proofs.lemmas.List.Sums.{sum_by-cons, sum_by-set, sum_by-append}
use Rattle.observe_core.specs.Items.{number_id, has_id}
use Rattle.guard_kinds.specs.declared.counts.KeyCount.{KeyCount}
use Rattle.guard_kinds.specs.Counting.{keys_of, count_at, total_of, own_keys, last_where, bucket}
use Rattle.guard_kinds.specs.Counting.{in_bucket, no_count, IsLinked, IsHeaded, unlink, unlinked}

pub key-at : (es : List KeyCount) (i : ℕ) → get_or (keys_of es) i 0 ≡ (get_or es i no_count).key
key-at [] i = refl
key-at (e ∷ es) zero = refl
key-at (e ∷ es) (suc i) = key-at es i

----------------------------------------------------------------------------------------------------
-- the last that passes
----------------------------------------------------------------------------------------------------
module _ (t : ℕ → Bool) where
  pub last-le : (ks : List ℕ) (n : ℕ) → last_where t ks n ≤ n
  last-le ks zero = omega arith
  last-le ks (suc i) =
      let r = last-le ks i in
      elim (t (get_or ks i 0)) as (λ b. (if b then suc i else last_where t ks i) ≤ suc i)
      [ true ↦ omega arith | false ↦ omega (arith, r) ]

  pub last-agree : (ks ms : List ℕ) (n : ℕ) → ((i : ℕ) → i < n → get_or ks i 0 ≡ get_or ms i 0)
      → last_where t ks n ≡ last_where t ms n
  last-agree ks ms zero h = refl
  last-agree ks ms (suc i) h =
      ap (λ k. if t k then suc i else last_where t ks i) (h i (omega arith))
      ∙ ap (λ r. if t (get_or ms i 0) then suc i else r)
      (last-agree ks ms i (λ j l. h j (omega (arith, l))))

  pub last-next : (ks : List ℕ) (i : ℕ)
      → last_where t ks (i + 1) ≡ (if t (get_or ks i 0) then i + 1 else last_where t ks i)
  last-next ks i =
      subst (λ n. last_where t ks n ≡ (if t (get_or ks i 0) then n else last_where t ks i))
      (omega arith) (start i)
    where
      start : (i : ℕ)
          → last_where t ks (suc i) ≡ (if t (get_or ks i 0) then suc i else last_where t ks i)
      start i = refl

  pub last-down : (ks : List ℕ) (n : ℕ) → 0 < n
      → last_where t ks n ≡ (if t (get_or ks (n - 1) 0) then n else last_where t ks (n - 1))
  last-down ks zero l = absurd (omega (arith, l))
  last-down ks (suc i) l =
      subst (λ j. last_where t ks (suc i)
      ≡ (if t (get_or ks j 0) then suc i else last_where t ks j)) (omega arith) refl

  pub last-passes : (ks : List ℕ) (n : ℕ) → 0 < last_where t ks n
      → IsTrue (t (get_or ks (last_where t ks n - 1) 0))
  last-passes ks zero l = absurd (omega (arith, l))
  last-passes ks (suc i) l =
      let e : suc i - 1 ≡ i = omega arith in
      elim (t (get_or ks i 0)) as (λ b. t (get_or ks i 0) ≡ b
      → 0 < (if b then suc i else last_where t ks i)
      → IsTrue (t (get_or ks ((if b then suc i else last_where t ks i) - 1) 0))) [
        | true ↦ λ p g. subst (λ j. IsTrue (t (get_or ks j 0))) (sym e) p
        | false ↦ λ p g. last-passes ks i g
      ] refl l

  pub last-none : (ks : List ℕ) (n : ℕ) → last_where t ks n ≡ 0 → (i : ℕ) → i < n
      → t (get_or ks i 0) ≡ false
  last-none ks zero h i l = absurd (omega (arith, l))
  last-none ks (suc m) h i l =
      elim (t (get_or ks m 0)) as (λ b. t (get_or ks m 0) ≡ b
      → (if b then suc m else last_where t ks m) ≡ 0 → t (get_or ks i 0) ≡ false) [
        | true ↦ λ p g. absurd (omega (arith, g))
        | false ↦ λ p g.
            elim (i == m) as (λ c. (i == m) ≡ c → t (get_or ks i 0) ≡ false) [
              | true ↦ λ q. let e : i ≡ m =
                  grind (arith, common_steps, q) in ap (λ j. t (get_or ks j 0)) e ∙ p
              | false ↦ λ q. last-none ks m g i (grind (arith, common_steps, q, l))
            ] refl
      ] refl h

-- what passes the narrow test stands behind the last that passes the wide one
pub walk : (t u : ℕ → Bool) → ((k : ℕ) → IsTrue (t k) → IsTrue (u k)) → (ks : List ℕ) (n : ℕ)
    → last_where t ks n ≡ last_where t ks (last_where u ks n)
walk t u w ks zero = refl
walk t u w ks (suc i) =
    let r = walk t u w ks i in
    elim (u (get_or ks i 0)) as (λ b. u (get_or ks i 0) ≡ b
    → last_where t ks (suc i) ≡ last_where t ks (if b then suc i else last_where u ks i)) [
      | true ↦ λ p. refl
      | false ↦ λ p.
          elim (t (get_or ks i 0)) as (λ c. t (get_or ks i 0) ≡ c
          → (if c then suc i else last_where t ks i) ≡ last_where t ks (last_where u ks i)) [
            | true ↦ λ q. let x = w (get_or ks i 0) q in cc
            | false ↦ λ q. r
          ] refl
    ] refl

pub same_bucket : (size b key : ℕ) → bucket size key ≡ b → (k : ℕ) → IsTrue (k == key)
    → IsTrue (in_bucket size b k)
same_bucket size b key e k h =
    let m : k ≡ key = grind (arith, common_steps, h) in
    let x = ap (bucket size) m ∙ e in
    grind (arith, common_steps, x)

pub bucket_is : (size b k : ℕ) → IsTrue (in_bucket size b k) → bucket size k ≡ b
bucket_is size b k h = grind (arith, common_steps, h)

----------------------------------------------------------------------------------------------------
-- one entry more is linked
----------------------------------------------------------------------------------------------------
module _ (es ds : List KeyCount) (i : ℕ)
    (agree : (j : ℕ) → j < i → get_or ds j no_count ≡ get_or es j no_count) where
  keys_agree : (j : ℕ) → j < i → get_or (keys_of es) j 0 ≡ get_or (keys_of ds) j 0
  keys_agree j l = key-at es j ∙ ap (λ e. e.key) (sym (agree j l)) ∙ sym (key-at ds j)

  pub linked-on : (size : ℕ) → IsLinked size es i
      → (get_or ds i no_count).next
      ≡ last_where (in_bucket size (bucket size (get_or (keys_of ds) i 0))) (keys_of es) i
      → IsLinked size ds (i + 1)
  linked-on size h n = λ j l.
      elim (j == i) as (λ c. (j == i) ≡ c
      → (get_or ds j no_count).next
      ≡ last_where (in_bucket size (bucket size (get_or (keys_of ds) j 0))) (keys_of ds) j) [
        | true ↦ λ q.
            let e : i ≡ j = grind (arith, common_steps, q) in
            let w = n ∙ last-agree (in_bucket size (bucket size (get_or (keys_of ds) i 0)))
            (keys_of es) (keys_of ds) i keys_agree in
            subst (λ j. (get_or ds j no_count).next
            ≡ last_where (in_bucket size (bucket size (get_or (keys_of ds) j 0))) (keys_of ds)
            j) e w
        | false ↦ λ q.
            let m : j < i = grind (arith, common_steps, q, l) in
            ap (λ e. e.next) (agree j m) ∙ h j m
            ∙ ap (λ k. last_where (in_bucket size (bucket size k)) (keys_of es) j)
            (keys_agree j m)
            ∙ last-agree (in_bucket size (bucket size (get_or (keys_of ds) j 0))) (keys_of es)
            (keys_of ds) j (λ k z. keys_agree k (omega (arith, z, m)))
      ] refl

  pub headed-on : (size : ℕ) (heads : List ℕ) (at : ℕ) → IsHeaded size heads es i
      → at ≡ bucket size (get_or (keys_of ds) i 0) → at < length heads
      → IsHeaded size (set heads at (i + 1)) ds (i + 1)
  headed-on size heads at h a l = λ b m.
      let k = get_or (keys_of ds) i 0 in
      elim (bucket size k == b) as (λ c. in_bucket size b k ≡ c
      → get_or (set heads at (i + 1)) b 0 ≡ last_where (in_bucket size b) (keys_of ds) (i + 1)) [
        | true ↦ λ q.
            let e : at ≡ b = a ∙ bucket_is size b k q in
            let x : get_or (set heads at (i + 1)) b 0 ≡ i + 1 =
            subst (λ j. get_or (set heads at (i + 1)) j 0 ≡ i + 1) e
            (get_or-set_same heads at (i + 1) 0 l) in
            x ∙ sym (last-next (in_bucket size b) (keys_of ds) i
            ∙ ap (λ c. if c then i + 1 else last_where (in_bucket size b) (keys_of ds) i) q)
        | false ↦ λ q.
            let n : b ≢ at =
            (λ e. let x = sym a
            ∙ sym e in let y : (bucket size k == b) ≡ true =
            grind (arith, common_steps, x) in cc) in
            get_or-set_other heads at b (i + 1) 0 n ∙ h b m
            ∙ last-agree (in_bucket size b) (keys_of es) (keys_of ds) i keys_agree
            ∙ sym (last-next (in_bucket size b) (keys_of ds) i
            ∙ ap (λ c. if c then i + 1 else last_where (in_bucket size b) (keys_of ds) i) q)
      ] refl

----------------------------------------------------------------------------------------------------
-- links say nothing of counts
----------------------------------------------------------------------------------------------------
count-unlinked : (es : List KeyCount) (n : ℕ) → count_at (unlinked es) n ≡ count_at es n
count-unlinked [] n = refl
count-unlinked (e ∷ es) n =
    let a = sum_by-cons (λ e. if e.key == n then e.count else 0) (unlink e) (unlinked es) in
    let b = sum_by-cons (λ e. if e.key == n then e.count else 0) e es in
    let r = count-unlinked es n in
    omega (arith, a, b, r)

total-unlinked : (es : List KeyCount) → total_of (unlinked es) ≡ total_of es
total-unlinked [] = refl
total-unlinked (e ∷ es) =
    let a = sum_by-cons (λ (e : KeyCount). e.count) (unlink e) (unlinked es) in
    let b = sum_by-cons (λ (e : KeyCount). e.count) e es in
    let r = total-unlinked es in
    omega (arith, a, b, r)

keys-unlinked : (es : List KeyCount) → keys_of (unlinked es) ≡ keys_of es
keys-unlinked [] = refl
keys-unlinked (e ∷ es) = ap (λ l. e.key ∷ l) (keys-unlinked es)

module _ (es ds : List KeyCount) (h : unlinked es ≡ unlinked ds) where
  pub same-count : (n : ℕ) → count_at es n ≡ count_at ds n
  same-count n = sym (count-unlinked es n) ∙ ap (λ l. count_at l n) h ∙ count-unlinked ds n

  pub same-total : total_of es ≡ total_of ds
  same-total = sym (total-unlinked es) ∙ ap total_of h ∙ total-unlinked ds

  pub same-keys : keys_of es ≡ keys_of ds
  same-keys = sym (keys-unlinked es) ∙ ap keys_of h ∙ keys-unlinked ds

----------------------------------------------------------------------------------------------------
-- counts
----------------------------------------------------------------------------------------------------
one_of : (m n c : ℕ) → ℕ
one_of m n c = if m == n then c else 0

pub count-none : (es : List KeyCount) (n : ℕ) → has_id number_id n (keys_of es) ≡ false
    → count_at es n ≡ 0
count-none [] n h = refl
count-none (e ∷ es) n h =
    let a = sum_by-cons (λ e. if e.key == n then e.count else 0) e es in
    elim (e.key == n) as (λ b. (e.key == n) ≡ b
    → (if b then true else has_id number_id n (keys_of es)) ≡ false → count_at (e ∷ es) n ≡ 0) [
      | true ↦ λ q g. cc
      | false ↦ λ q g.
          let r = count-none es n g in
          let z : (if e.key == n then e.count else 0) ≡ 0 = ap (λ b. if b then e.count else 0) q in
          omega (arith, a, r, z)
    ] refl h

both : (a b : Bool) → IsTrue (not a && b) → (a ≡ false) × IsTrue b
both true b h = cc
both false b h = (refl, h)

pub count-found : (es : List KeyCount) (i n : ℕ) → i < length es → IsTrue (own_keys (keys_of es))
    → (get_or es i no_count).key ≡ n → count_at es n ≡ (get_or es i no_count).count
count-found [] i n l o e = absurd (omega (arith, l))
count-found (x ∷ es) zero n l o e =
    let w = both (has_id number_id x.key (keys_of es)) (own_keys (keys_of es)) o in
    let a = sum_by-cons (λ e. if e.key == n then e.count else 0) x es in
    let r = count-none es n (ap (λ k. has_id number_id k (keys_of es)) (sym e) ∙ w.0) in
    let q : (x.key == n) ≡ true = grind (arith, common_steps, e) in
    let z : (if x.key == n then x.count else 0) ≡ x.count = ap (λ b. if b then x.count else 0) q in
    omega (arith, a, r, z)
count-found (x ∷ es) (suc i) n l o e =
    let w = both (has_id number_id x.key (keys_of es)) (own_keys (keys_of es)) o in
    let a = sum_by-cons (λ e. if e.key == n then e.count else 0) x es in
    let m : i < length es = omega (arith, l) in
    let r = count-found es i n m w.1 e in
    elim (x.key == n) as (λ b. (x.key == n) ≡ b
    → count_at (x ∷ es) n ≡ (get_or es i no_count).count) [
      | true ↦ λ q.
          let t : has_id number_id x.key (keys_of es) ≡ true =
          there es i m (e ∙ sym (grind (arith, common_steps, q))) in
          cc
      | false ↦ λ q. let z : (if x.key == n then x.count else 0) ≡ 0 =
          ap (λ b. if b then x.count else 0) q in omega (arith, a, r, z)
    ] refl
  where
    there : (ds : List KeyCount) (i : ℕ) → i < length ds → (get_or ds i no_count).key ≡ x.key
        → has_id number_id x.key (keys_of ds) ≡ true
    there [] i l e = absurd (omega (arith, l))
    there (d ∷ ds) zero l e = grind (arith, common_steps, e)
    there (d ∷ ds) (suc i) l e = let r =
        there ds i (omega (arith, l)) e in grind (arith, common_steps, r)

-- no place has the key, so it isn't among the keys
pub none_has : (ks : List ℕ) (n : ℕ) → ((i : ℕ) → i < length ks → (get_or ks i 0 == n) ≡ false)
    → has_id number_id n ks ≡ false
none_has [] n h = refl
none_has (k ∷ ks) n h =
    let a = h 0 (omega arith) in
    let r = none_has ks n (λ i l. h (suc i) (omega (arith, l))) in
    grind (arith, common_steps, a, r)

module _ (es : List KeyCount) (i key : ℕ) (l : i < length es) (k : (get_or es i no_count).key ≡ key)
  where
    -- an entry's count is written
    pub count-set : (d : KeyCount) → d.key ≡ key → (n : ℕ)
        → count_at (set es i d) n + (if key == n then (get_or es i no_count).count else 0)
        ≡ count_at es n + (if key == n then d.count else 0)
    count-set d e n =
        let s = sum_by-set (λ e. if e.key == n then e.count else 0) es i d no_count l in
        let a : (if (get_or es i no_count).key == n then (get_or es i no_count).count else 0)
        ≡ (if key == n then (get_or es i no_count).count else 0) =
        ap (λ m. if m == n then (get_or es i no_count).count else 0) k in
        let b : (if d.key == n then d.count else 0) ≡ (if key == n then d.count else 0) =
        ap (λ m. if m == n then d.count else 0) e in
        omega (arith, s, a, b)

pub split : (key n x : ℕ)
    → (if key == n then x + 1 else 0) ≡ (if key == n then 1 else 0) + (if key == n then x else 0)
split key n x =
    elim (key == n) as (λ b. (if b then x + 1 else 0) ≡ (if b then 1 else 0) + (if b then x else 0))
    [ true ↦ omega arith | false ↦ omega arith ]

-- an entry at the end
pub count-append : (es : List KeyCount) (d : KeyCount) (n : ℕ)
    → count_at (es ++ d ∷ []) n ≡ count_at es n + (if d.key == n then d.count else 0)
count-append es d n =
    let a = sum_by-append (λ e. if e.key == n then e.count else 0) es (d ∷ []) in
    let b = sum_by-cons (λ e. if e.key == n then e.count else 0) d [] in
    omega (arith, a, b)

pub total-append : (es : List KeyCount) (d : KeyCount)
    → total_of (es ++ d ∷ []) ≡ total_of es + d.count
total-append es d =
    let a = sum_by-append (λ (e : KeyCount). e.count) es (d ∷ []) in
    let b = sum_by-cons (λ (e : KeyCount). e.count) d [] in
    omega (arith, a, b)

pub own-append : (es : List KeyCount) (d : KeyCount) → IsTrue (own_keys (keys_of es))
    → has_id number_id d.key (keys_of es) ≡ false → IsTrue (own_keys (keys_of (es ++ d ∷ [])))
own-append [] d o h = refl
own-append (e ∷ es) d o h =
    let w = both (has_id number_id e.key (keys_of es)) (own_keys (keys_of es)) o in
    elim (e.key == d.key) as (λ b. (e.key == d.key) ≡ b
    → (if b then true else has_id number_id d.key (keys_of es)) ≡ false
    → IsTrue (own_keys (keys_of ((e ∷ es) ++ d ∷ [])))) [
      | true ↦ λ q g. cc
      | false ↦ λ q g.
          let r = own-append es d w.1 g in
          let x = still es w.0 (grind (arith, common_steps, q)) in
          grind (arith, common_steps, r, x)
    ] refl h
  where
    still : (ds : List KeyCount) → has_id number_id e.key (keys_of ds) ≡ false
        → (d.key == e.key) ≡ false → has_id number_id e.key (keys_of (ds ++ d ∷ [])) ≡ false
    still [] h q = grind (arith, common_steps, q)
    still (c ∷ cs) h q =
        elim (c.key == e.key) as (λ b. (if b then true else has_id number_id e.key (keys_of cs))
        ≡ false → (if b then true else has_id number_id e.key (keys_of (cs ++ d ∷ []))) ≡ false) [
          | true ↦ λ g. cc
          | false ↦ λ g. still cs g q
        ] h

----------------------------------------------------------------------------------------------------
-- entries with a count alone
----------------------------------------------------------------------------------------------------
abbrev pub live : KeyCount → Bool
live e = nat_lt 0 e.count

pub lacks-live : (es : List KeyCount) (n : ℕ) → has_id number_id n (keys_of es) ≡ false
    → has_id number_id n (keys_of (filter live es)) ≡ false
lacks-live [] n h = refl
lacks-live (e ∷ es) n h =
    elim (e.key == n) as (λ b. (e.key == n) ≡ b
    → (if b then true else has_id number_id n (keys_of es)) ≡ false
    → has_id number_id n (keys_of (filter live (e ∷ es))) ≡ false) [
      | true ↦ λ q g. cc
      | false ↦ λ q g.
          let r = lacks-live es n g in
          elim (live e) as (λ b.
          has_id number_id n (keys_of (if b then e ∷ filter live es else filter live es))
          ≡ false) [ true ↦ grind (arith, common_steps, q, r) | false ↦ r ]
    ] refl h

pub own-live : (es : List KeyCount) → IsTrue (own_keys (keys_of es))
    → IsTrue (own_keys (keys_of (filter live es)))
own-live [] o = refl
own-live (e ∷ es) o =
    let w = both (has_id number_id e.key (keys_of es)) (own_keys (keys_of es)) o in
    let r = own-live es w.1 in
    let x = lacks-live es e.key w.0 in
    elim (live e) as (λ b.
    IsTrue (own_keys (keys_of (if b then e ∷ filter live es else filter live es)))) [
      | true ↦
          grind (arith, common_steps, r, x)
      | false ↦ r
    ]

none : (b : Bool) → ◌≡◌ {A = ℕ} (if b then 0 else 0) 0
none true = refl
none false = refl

pub count-live : (es : List KeyCount) (n : ℕ) → count_at (filter live es) n ≡ count_at es n
count-live [] n = refl
count-live (e ∷ es) n =
    let r = count-live es n in
    let a = sum_by-cons (λ e. if e.key == n then e.count else 0) e es in
    let b = sum_by-cons (λ e. if e.key == n then e.count else 0) e (filter live es) in
    elim (live e) as (λ c. live e ≡ c
    → count_at (if c then e ∷ filter live es else filter live es) n ≡ count_at (e ∷ es) n) [
      | true ↦ λ q. omega (arith, a, b, r)
      | false ↦ λ q.
          let z : e.count ≡ 0 = grind (arith, common_steps, q) in
          let y : (if e.key == n then e.count else 0) ≡ 0 = ap (λ m. if e.key == n then m else 0) z
          ∙ none (e.key == n) in
          omega (arith, a, r, y)
    ] refl

pub total-live : (es : List KeyCount) → (total_of (filter live es) ≡ total_of es)
    × (length (filter live es) ≤ total_of es)
total-live [] = (refl, omega arith)
total-live (e ∷ es) =
    let r = total-live es in
    let r0 = r.0 in
    let r1 = r.1 in
    let a = sum_by-cons (λ (e : KeyCount). e.count) e es in
    let b = sum_by-cons (λ (e : KeyCount). e.count) e (filter live es) in
    elim (live e) as (λ c. live e ≡ c
    → (total_of (if c then e ∷ filter live es else filter live es) ≡ total_of (e ∷ es))
    × (length (if c then e ∷ filter live es else filter live es) ≤ total_of (e ∷ es))) [
      | true ↦ λ q. let z : 0 < e.count =
          grind (arith, common_steps, q) in (omega (arith, a, b, r0), omega (arith, a, r1, z))
      | false ↦ λ q. let z : e.count ≡ 0 =
          grind (arith, common_steps, q) in (omega (arith, a, r0, z), omega (arith, a, r1))
    ] refl

-- what a read by index gives is there with any default
pub read-at : {X : Type 0} (i : ℕ) (x d : X) (xs : List X) → i < length xs → x ≡ get_or xs i x
    → get_or xs i d ≡ x
read-at i x d [] l e = absurd (omega (arith, l))
read-at zero x d (y ∷ ys) l e = sym e
read-at (suc i) x d (y ∷ ys) l e = read-at i x d ys (omega (arith, l)) e
