-- Counts by node and the ends that they stand for.
use Rattle.std.proofs.Common.{◌≡◌, ℕ, zero, suc, ◌+◌, ◌-◌, ◌<◌, ◌≤◌, nat_le, Bool, true, false}
use Rattle.std.proofs.Common.{◌&&◌, ◌==◌, if◌then◌else◌, IsTrue, List, [], ◌∷◌, ◌++◌, replicate}
use Rattle.std.proofs.Common.{length, get_or, set, count_by, refl, sym, ap, ◌∙◌, arith}
use Rattle.std.proofs.lemmas.Grind.{common_steps}
use Rattle.std.proofs.lemmas.List.Sums.{sum_by-cons}
use Rattle.observe_core.specs.Items.{put_number, drop_number, never_falls, starts_at, above_all}
use Rattle.index_maps.specs.Counted.{repeated, expand}

-- no number is below low
abbrev pub from_low : ℕ → List ℕ → Bool
from_low low [] = true
from_low low (n ∷ ns) = nat_le low n && from_low low ns

both : (a b : Bool) → IsTrue (a && b) → IsTrue a × IsTrue b
both true b h = (refl, h)
both false b h = cc

lower_low : (low high : ℕ) (ns : List ℕ) → low ≤ high → IsTrue (from_low high ns)
    → IsTrue (from_low low ns)
lower_low low high [] l h = refl
lower_low low high (n ∷ ns) l h =
    let w = both (nat_le high n) (from_low high ns) h in
    let a = w.0 in
    let r = lower_low low high ns l w.1 in
    grind (arith, common_steps, a, r, l)

repeated-low : (c n : ℕ) (rest : List ℕ) → IsTrue (from_low n rest)
    → IsTrue (from_low n (repeated c n rest))
repeated-low zero n rest h = h
repeated-low (suc c) n rest h = let r = repeated-low c n rest h in grind (arith, common_steps, r)

expand-low : (low : ℕ) (cs : List ℕ) → IsTrue (from_low low (expand low cs))
expand-low low [] = refl
expand-low low (c ∷ cs) =
    repeated-low c low (expand (low + 1) cs)
    (lower_low low (low + 1) (expand (low + 1) cs) (omega arith) (expand-low (low + 1) cs))

starts-low : (n : ℕ) (ns : List ℕ) → IsTrue (from_low n ns) → IsTrue (starts_at n ns)
starts-low n [] h = refl
starts-low n (m ∷ ms) h = (both (nat_le n m) (from_low n ms) h).0

repeated-falls : (c n : ℕ) (rest : List ℕ) → IsTrue (from_low n rest) → IsTrue (never_falls rest)
    → IsTrue (never_falls (repeated c n rest))
repeated-falls zero n rest l h = h
repeated-falls (suc c) n rest l h =
    let r = repeated-falls c n rest l h in
    let s = starts-low n (repeated c n rest) (repeated-low c n rest l) in
    grind (arith, common_steps, r, s)

-- the ends don't fall
pub expand-falls : (low : ℕ) (cs : List ℕ) → IsTrue (never_falls (expand low cs))
expand-falls low [] = refl
expand-falls low (c ∷ cs) =
    repeated-falls c low (expand (low + 1) cs)
    (lower_low low (low + 1) (expand (low + 1) cs) (omega arith) (expand-low (low + 1) cs))
    (expand-falls (low + 1) cs)

-- a number that is no greater goes in front
put-front : (n : ℕ) (ns : List ℕ) → IsTrue (from_low n ns) → put_number n ns ≡ n ∷ ns
put-front n [] h = refl
put-front n (m ∷ ms) h = let a =
    (both (nat_le n m) (from_low n ms) h).0 in ap
    (λ b. if b then n ∷ m ∷ ms else m ∷ put_number n ms) a

put-past : (c low n : ℕ) (rest : List ℕ) → low < n
    → put_number n (repeated c low rest) ≡ repeated c low (put_number n rest)
put-past zero low n rest l = refl
put-past (suc c) low n rest l =
    let q : nat_le n low ≡ false = grind (arith, common_steps, l) in
    ap (λ b. if b then n ∷ low ∷ repeated c low rest else low ∷ put_number n (repeated c low rest))
    q ∙ ap (λ l. low ∷ l) (put-past c low n rest l)

pub expand-put : (low at n : ℕ) (cs : List ℕ) → at < length cs → n ≡ low + at
    → put_number n (expand low cs) ≡ expand low (set cs at (get_or cs at 0 + 1))
expand-put low at n [] l e = absurd (omega (arith, l))
expand-put low zero n (c ∷ cs) l e =
    let m : n ≡ low = omega (arith, e) in
    let s : c + 1 ≡ suc c = omega arith in
    let h = repeated-low c low (expand (low + 1) cs)
    (lower_low low (low + 1) (expand (low + 1) cs) (omega arith) (expand-low (low + 1) cs)) in
    ap (λ n. put_number n (repeated c low (expand (low + 1) cs))) m
    ∙ put-front low (repeated c low (expand (low + 1) cs)) h
    ∙ sym (ap (λ c. repeated c low (expand (low + 1) cs)) s)
expand-put low (suc at) n (c ∷ cs) l e =
    let r = expand-put (low + 1) at n cs (omega (arith, l)) (omega (arith, e)) in
    put-past c low n (expand (low + 1) cs) (omega (arith, e)) ∙ ap (repeated c low) r

drop-past : (c low n : ℕ) (rest : List ℕ) → low < n
    → drop_number n (repeated c low rest) ≡ repeated c low (drop_number n rest)
drop-past zero low n rest l = refl
drop-past (suc c) low n rest l =
    let q : (low == n) ≡ false = grind (arith, common_steps, l) in
    ap (λ b. if b then repeated c low rest else low ∷ drop_number n (repeated c low rest)) q
    ∙ ap (λ l. low ∷ l) (drop-past c low n rest l)

drop-none : (n low : ℕ) (ns : List ℕ) → n < low → IsTrue (from_low low ns) → drop_number n ns ≡ ns
drop-none n low [] l h = refl
drop-none n low (m ∷ ms) l h =
    let w = both (nat_le low m) (from_low low ms) h in
    let a = w.0 in
    let q : (m == n) ≡ false = grind (arith, common_steps, l, a) in
    ap (λ b. if b then ms else m ∷ drop_number n ms) q ∙ ap (λ l. m ∷ l) (drop-none n low ms l w.1)

pub expand-drop : (low at n : ℕ) (cs : List ℕ) → at < length cs → n ≡ low + at
    → drop_number n (expand low cs) ≡ expand low (set cs at (get_or cs at 0 - 1))
expand-drop low at n [] l e = absurd (omega (arith, l))
expand-drop low zero n (zero ∷ cs) l e =
    let z : 0 - 1 ≡ 0 = omega arith in
    drop-none n (low + 1) (expand (low + 1) cs) (omega (arith, e)) (expand-low (low + 1) cs)
    ∙ sym (ap (λ c. repeated c low (expand (low + 1) cs)) z)
expand-drop low zero n (suc c ∷ cs) l e =
    let m : n ≡ low = omega (arith, e) in
    let s : suc c - 1 ≡ c = omega arith in
    let q : (low == n) ≡ true = grind (arith, common_steps, m) in
    ap (λ b. if b then repeated c low (expand (low + 1) cs) else low ∷ drop_number n
    (repeated c low (expand (low + 1) cs))) q
    ∙ sym (ap (λ c. repeated c low (expand (low + 1) cs)) s)
expand-drop low (suc at) n (c ∷ cs) l e =
    let r = expand-drop (low + 1) at n cs (omega (arith, l)) (omega (arith, e)) in
    drop-past c low n (expand (low + 1) cs) (omega (arith, e)) ∙ ap (repeated c low) r

-- past the counts no number stands
past-none : (low n : ℕ) (cs : List ℕ) → low + length cs ≤ n
    → drop_number n (expand low cs) ≡ expand low cs
past-none low n [] l = refl
past-none low n (c ∷ cs) l = drop-past c low n (expand (low + 1) cs) (omega (arith, l))
    ∙ ap (repeated c low) (past-none (low + 1) n cs (omega (arith, l)))

pub expand-past : (n : ℕ) (cs : List ℕ) → length cs ≤ n → drop_number n (expand 0 cs) ≡ expand 0 cs
expand-past n cs l = past-none 0 n cs (omega (arith, l))

-- new counts of 0 stand for nothing
zeros : (low m : ℕ) → expand low (replicate m 0) ≡ []
zeros low zero = refl
zeros low (suc m) = zeros (low + 1) m

pub expand-grown : (low m : ℕ) (cs : List ℕ) → expand low (cs ++ replicate m 0) ≡ expand low cs
expand-grown low m [] = zeros low m
expand-grown low m (c ∷ cs) = ap (repeated c low) (expand-grown (low + 1) m cs)

count-repeated : (v c n : ℕ) (rest : List ℕ)
    → count_by (λ m. m == v) (repeated c n rest)
    ≡ (if n == v then c else 0) + count_by (λ m. m == v) rest
count-repeated v zero n rest =
    elim (n == v) as (λ b. count_by (λ m. m == v) rest
    ≡ (if b then 0 else 0) + count_by (λ m. m == v) rest) [
      | true ↦ omega arith
      | false ↦
          omega arith
    ]
count-repeated v (suc c) n rest =
    let a = sum_by-cons (λ z. if z == v then 1 else 0) n (repeated c n rest) in
    let r = count-repeated v c n rest in
    elim (n == v) as (λ b. (n == v) ≡ b
    → count_by (λ m. m == v) (n ∷ repeated c n rest)
    ≡ (if b then suc c else 0) + count_by (λ m. m == v) rest) [
      | true ↦ λ q. grind (arith, common_steps, a, r, q)
      | false ↦ λ q. grind (arith, common_steps, a, r, q)
    ] refl

count-low : (v low : ℕ) (cs : List ℕ) → v < low → count_by (λ m. m == v) (expand low cs) ≡ 0
count-low v low [] l = refl
count-low v low (c ∷ cs) l =
    let a = count-repeated v c low (expand (low + 1) cs) in
    let r = count-low v (low + 1) cs (omega (arith, l)) in
    let q : (low == v) ≡ false = grind (arith, common_steps, l) in
    let z : (if low == v then c else 0) ≡ 0 = ap (λ b. if b then c else 0) q in
    omega (arith, a, r, z)

-- a node's count is how often its number stands
pub count-expand : (low at v : ℕ) (cs : List ℕ) → at < length cs → v ≡ low + at
    → count_by (λ m. m == v) (expand low cs) ≡ get_or cs at 0
count-expand low at v [] l e = absurd (omega (arith, l))
count-expand low zero v (c ∷ cs) l e =
    let a = count-repeated v c low (expand (low + 1) cs) in
    let r = count-low v (low + 1) cs (omega (arith, e)) in
    let q : (low == v) ≡ true = grind (arith, common_steps, e) in
    let z : (if low == v then c else 0) ≡ c = ap (λ b. if b then c else 0) q in
    omega (arith, a, r, z)
count-expand low (suc at) v (c ∷ cs) l e =
    let a = count-repeated v c low (expand (low + 1) cs) in
    let r = count-expand (low + 1) at v cs (omega (arith, l)) (omega (arith, e)) in
    let q : (low == v) ≡ false = grind (arith, common_steps, e) in
    let z : (if low == v then c else 0) ≡ 0 = ap (λ b. if b then c else 0) q in
    omega (arith, a, r, z)

pub count-past : (low v : ℕ) (cs : List ℕ) → low + length cs ≤ v
    → count_by (λ m. m == v) (expand low cs) ≡ 0
count-past low v [] l = refl
count-past low v (c ∷ cs) l =
    let a = count-repeated v c low (expand (low + 1) cs) in
    let r = count-past (low + 1) v cs (omega (arith, l)) in
    let q : (low == v) ≡ false = grind (arith, common_steps, l) in
    let z : (if low == v then c else 0) ≡ 0 = ap (λ b. if b then c else 0) q in
    omega (arith, a, r, z)

above-repeated : (c n b : ℕ) (rest : List ℕ) → n < b → above_all rest ≤ b
    → above_all (repeated c n rest) ≤ b
above-repeated zero n b rest l h = h
above-repeated (suc c) n b rest l h = let r =
    above-repeated c n b rest l h in grind (arith, common_steps, r, l)

-- no end is past the counts
pub expand-above : (low b : ℕ) (cs : List ℕ) → low + length cs ≤ b → above_all (expand low cs) ≤ b
expand-above low b [] l = omega arith
expand-above low b (c ∷ cs) l =
    above-repeated c low b (expand (low + 1) cs) (omega (arith, l))
    (expand-above (low + 1) b cs (omega (arith, l)))
