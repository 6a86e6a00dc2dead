use Rattle.std.proofs.Common.{◌≡◌, ◌≢◌, ℕ, zero, suc, ◌+◌, ◌<◌, ◌≤◌, Bool, true, false, ◌&&◌}
use Rattle.std.proofs.Common.{nat_le, ◌==◌, if◌then◌else◌, IsTrue, List, [], ◌∷◌, ◌++◌, length}
use Rattle.std.proofs.Common.{replicate, Option, Some, None, get_or, set, refl, sym, ap, subst, ◌∙◌}
use Rattle.std.proofs.Common.{arith, Contains}
use Rattle.std.proofs.lemmas.Grind.{common_steps}
use Rattle.plain_digraph.specs.Rising.{with_item, without_item, swapped}
use Rattle.observe_core.specs.Items.{place_all, Lacks, rises_from}
use Rattle.observe_core.specs.Slots.{present, well_placed}
use Rattle.observe_core.proofs.ItemLemmas.{rises_higher, rises-lacks, without-lacks}

pub and_parts : (a b c : Bool) → IsTrue (a && b && c) → IsTrue a × (IsTrue b × IsTrue c)
and_parts true true c h = (refl, (refl, h))
and_parts true false c h = cc
and_parts false b c h = cc

and_join : (a b c : Bool) → IsTrue a → IsTrue b → IsTrue c → IsTrue (a && b && c)
and_join a b c p q r = grind (arith, common_steps, p, q, r)

is_id : (m n : ℕ) → IsTrue (m == n) → m ≡ n
is_id m n h = grind (arith, common_steps, h)

id_is : (m n : ℕ) → m ≡ n → IsTrue (m == n)
id_is m n h = grind (arith, common_steps, h)

module _ {X : Type 0} (id_of : X → ℕ) (ok : X → Bool) where
  pub parts : (i : ℕ) (x : X) (ss : List (Option X)) → IsTrue (well_placed id_of ok i (Some x ∷ ss))
      → (id_of x ≡ i) × (IsTrue (ok x) × IsTrue (well_placed id_of ok (i + 1) ss))
  parts i x ss h =
      let w = and_parts (id_of x == i) (ok x) (well_placed id_of ok (i + 1) ss) h in
      (is_id (id_of x) i w.0, (w.1.0, w.1.1))

  join : (i : ℕ) (x : X) (ss : List (Option X)) → id_of x ≡ i → IsTrue (ok x)
      → IsTrue (well_placed id_of ok (i + 1) ss) → IsTrue (well_placed id_of ok i (Some x ∷ ss))
  join i x ss e o w =
      and_join (id_of x == i) (ok x) (well_placed id_of ok (i + 1) ss) (id_is (id_of x) i e) o w

  place_first : (x : X) (ys : List X) → IsTrue (rises_from id_of (id_of x + 1) ys)
      → with_item id_of x ys ≡ x ∷ ys
  place_first x [] h = refl
  place_first x (y ∷ ys) h = grind (arith, common_steps, h)

  swapped-lacks : (x : X) (ys : List X) → Lacks id_of (id_of x) ys → swapped id_of x ys ≡ ys
  swapped-lacks x [] h = refl
  swapped-lacks x (y ∷ ys) h = let r = swapped-lacks x ys h.1 in let p =
      h.0 in grind (arith, common_steps, r, p)

  pub present-rises : (i : ℕ) (ss : List (Option X)) → IsTrue (well_placed id_of ok i ss)
      → IsTrue (rises_from id_of i (present ss))
  present-rises i [] h = refl
  present-rises i (None ∷ ss) h =
      rises_higher id_of i (i + 1) (present ss) (present-rises (i + 1) ss h) (omega arith)
  present-rises i (Some x ∷ ss) h =
      let w = parts i x ss h in
      let e = w.0 in
      let r = present-rises (i + 1) ss w.1.1 in
      let q : IsTrue (rises_from id_of (id_of x + 1) (present ss)) = rw e r in
      grind (arith, common_steps, e, q)

  -- an item put into an empty slot
  pub present-put : (i at n : ℕ) (x : X) (ss : List (Option X)) → IsTrue (well_placed id_of ok i ss)
      → at < length ss → get_or ss at None ≡ None → n ≡ i + at → id_of x ≡ n
      → present (set ss at (Some x)) ≡ with_item id_of x (present ss)
  present-put i at n x [] h l e m d = absurd (omega arith)
  present-put i zero n x (None ∷ ss) h l e m d =
      let r = present-rises (i + 1) ss h in
      let q : id_of x + 1 ≡ i + 1 = omega (arith, m, d) in
      sym (place_first x (present ss) (rw q r))
  present-put i zero n x (Some y ∷ ss) h l e m d = cc
  present-put i (suc at) n x (None ∷ ss) h l e m d =
      present-put (i + 1) at n x ss h (omega arith) e (omega arith) d
  present-put i (suc at) n x (Some y ∷ ss) h l e m d =
      let w = parts i y ss h in
      let g = w.0 in
      let r = present-put (i + 1) at n x ss w.1.1 (omega arith) e (omega arith) d in
      let c : id_of y < id_of x = omega (arith, g, m, d) in
      grind (arith, common_steps, r, c)

  -- a slot made empty
  pub present-taken : (i at n : ℕ) (ss : List (Option X)) → IsTrue (well_placed id_of ok i ss)
      → at < length ss → n ≡ i + at → present (set ss at None) ≡ without_item id_of n (present ss)
  present-taken i at n [] h l m = absurd (omega arith)
  present-taken i zero n (None ∷ ss) h l m =
      sym (without-lacks id_of n (present ss)
      (rises-lacks id_of (i + 1) n (present ss) (present-rises (i + 1) ss h) (omega arith)))
  present-taken i zero n (Some y ∷ ss) h l m =
      let w = parts i y ss h in
      let g = w.0 in
      let r = without-lacks id_of n (present ss)
      (rises-lacks id_of (i + 1) n (present ss) (present-rises (i + 1) ss w.1.1)
      (omega arith)) in
      let t : id_of y ≡ n = omega (arith, g, m) in
      grind (arith, common_steps, r, t)
  present-taken i (suc at) n (None ∷ ss) h l m =
      present-taken (i + 1) at n ss h (omega arith) (omega arith)
  present-taken i (suc at) n (Some y ∷ ss) h l m =
      let w = parts i y ss h in
      let g = w.0 in
      let r = present-taken (i + 1) at n ss w.1.1 (omega arith) (omega arith) in
      let t : id_of y < n = omega (arith, g, m) in
      grind (arith, common_steps, r, t)

  -- an item put into the slot of another
  pub present-swapped : (i at n : ℕ) (x y : X) (ss : List (Option X))
      → IsTrue (well_placed id_of ok i ss) → at < length ss → get_or ss at None ≡ Some y
      → n ≡ i + at → id_of x ≡ n
      → present (set ss at (Some x)) ≡ swapped id_of x (present ss)
  present-swapped i at n x y [] h l e m d = absurd (omega arith)
  present-swapped i zero n x y (None ∷ ss) h l e m d = cc
  present-swapped i zero n x y (Some z ∷ ss) h l e m d =
      let w = parts i z ss h in
      let g = w.0 in
      let r = swapped-lacks x (present ss)
      (rises-lacks id_of (i + 1) (id_of x) (present ss) (present-rises (i + 1) ss w.1.1)
      (omega (arith, m, d))) in
      let t : id_of z ≡ id_of x = omega (arith, g, m, d) in
      grind (arith, common_steps, r, t)
  present-swapped i (suc at) n x y (None ∷ ss) h l e m d =
      present-swapped (i + 1) at n x y ss h (omega arith) e (omega arith) d
  present-swapped i (suc at) n x y (Some z ∷ ss) h l e m d =
      let w = parts i z ss h in
      let g = w.0 in
      let r = present-swapped (i + 1) at n x y ss w.1.1 (omega arith) e (omega arith) d in
      let t : id_of z < id_of x = omega (arith, g, m, d) in
      grind (arith, common_steps, r, t)

  -- empty slots at the end
  pub present-grown : (n : ℕ) (ss : List (Option X)) → present (ss ++ replicate n None) ≡ present ss
  present-grown zero [] = refl
  present-grown (suc n) [] = present-grown n []
  present-grown n (None ∷ ss) = present-grown n ss
  present-grown n (Some x ∷ ss) = ap (λ l. x ∷ l) (present-grown n ss)

  pub well_placed-grown : (i n : ℕ) (ss : List (Option X)) → IsTrue (well_placed id_of ok i ss)
      → IsTrue (well_placed id_of ok i (ss ++ replicate n None))
  well_placed-grown i zero [] h = refl
  well_placed-grown i (suc n) [] h = well_placed-grown (i + 1) n [] refl
  well_placed-grown i n (None ∷ ss) h = well_placed-grown (i + 1) n ss h
  well_placed-grown i n (Some x ∷ ss) h = let w =
      parts i x ss h in join i x (ss ++ replicate n None) w.0 w.1.0
      (well_placed-grown (i + 1) n ss w.1.1)

  pub well_placed-taken : (i at : ℕ) (ss : List (Option X)) → IsTrue (well_placed id_of ok i ss)
      → IsTrue (well_placed id_of ok i (set ss at None))
  well_placed-taken i at [] h = h
  well_placed-taken i zero (None ∷ ss) h = h
  well_placed-taken i zero (Some x ∷ ss) h = (parts i x ss h).1.1
  well_placed-taken i (suc at) (None ∷ ss) h = well_placed-taken (i + 1) at ss h
  well_placed-taken i (suc at) (Some x ∷ ss) h = let w =
      parts i x ss h in join i x (set ss at None) w.0 w.1.0 (well_placed-taken (i + 1) at ss w.1.1)

  pub well_placed-put : (i at n : ℕ) (x : X) (ss : List (Option X))
      → IsTrue (well_placed id_of ok i ss) → n ≡ i + at → id_of x ≡ n → IsTrue (ok x)
      → IsTrue (well_placed id_of ok i (set ss at (Some x)))
  well_placed-put i at n x [] h m d o = h
  well_placed-put i zero n x (None ∷ ss) h m d o = join i x ss (omega (arith, m, d)) o h
  well_placed-put i zero n x (Some y ∷ ss) h m d o =
      join i x ss (omega (arith, m, d)) o (parts i y ss h).1.1
  well_placed-put i (suc at) n x (None ∷ ss) h m d o =
      well_placed-put (i + 1) at n x ss h (omega arith) d o
  well_placed-put i (suc at) n x (Some y ∷ ss) h m d o = let w =
      parts i y ss h in join i y (set ss at (Some x)) w.0 w.1.0
      (well_placed-put (i + 1) at n x ss w.1.1 (omega arith) d o)

  -- the slot of an id that no item has is empty
  pub lacks-slot : (i at n : ℕ) (ss : List (Option X)) → IsTrue (well_placed id_of ok i ss)
      → n ≡ i + at → Lacks id_of n (present ss) → get_or ss at None ≡ None
  lacks-slot i at n [] h m k = refl
  lacks-slot i zero n (None ∷ ss) h m k = refl
  lacks-slot i zero n (Some y ∷ ss) h m k = absurd (k.0 ((parts i y ss h).0 ∙ omega (arith, m)))
  lacks-slot i (suc at) n (None ∷ ss) h m k = lacks-slot (i + 1) at n ss h (omega arith) k
  lacks-slot i (suc at) n (Some y ∷ ss) h m k =
      lacks-slot (i + 1) at n ss (parts i y ss h).1.1 (omega arith) k.1

  -- past the slots there is no item
  pub past-lacks : (i n : ℕ) (ss : List (Option X)) → IsTrue (well_placed id_of ok i ss)
      → i + length ss ≤ n → Lacks id_of n (present ss)
  past-lacks i n [] h l = tt
  past-lacks i n (None ∷ ss) h l = past-lacks (i + 1) n ss h (omega arith)
  past-lacks i n (Some y ∷ ss) h l =
      let w = parts i y ss h in let g = w.0 in
      ((λ e. absurd (omega (arith, g, e))), past-lacks (i + 1) n ss w.1.1 (omega arith))

  pub swapped-same : (x : X) (ys : List X) → Lacks id_of (id_of x) ys → swapped id_of x ys ≡ ys
  swapped-same x ys h = swapped-lacks x ys h

  pub length-place : (x : X) (ys : List X) → length (with_item id_of x ys) ≡ length ys + 1
  length-place x [] = omega arith
  length-place x (y ∷ ys) = let r = length-place x ys in grind (arith, common_steps, r)

  pub length-swapped : (x : X) (ys : List X) → length (swapped id_of x ys) ≡ length ys
  length-swapped x [] = refl
  length-swapped x (y ∷ ys) = let r = length-swapped x ys in grind (arith, common_steps, r)

  pub length-present : (ss : List (Option X)) → length (present ss) ≤ length ss
  length-present [] = omega arith
  length-present (None ∷ ss) = let r = length-present ss in omega (arith, r)
  length-present (Some x ∷ ss) = let r = length-present ss in omega (arith, r)

  -- all ends are below a bound where each item's are
  pub present-reach : (ends : X → ℕ) (bound : ℕ) (i : ℕ) (ss : List (Option X))
      → ((x : X) → IsTrue (ok x) → ends x ≤ bound) → IsTrue (well_placed id_of ok i ss) → (y : X)
      → Contains (present ss) y → ends y ≤ bound
  present-reach ends bound i [] fit h y c = absurd (omega (arith, c.1))
  present-reach ends bound i (None ∷ ss) fit h y c = present-reach ends bound (i + 1) ss fit h y c
  present-reach ends bound i (Some x ∷ ss) fit h y (zero, l, c) = let e : x ≡ y =
      c in subst (λ z. ends z ≤ bound) e (fit x (parts i x ss h).1.0)
  present-reach ends bound i (Some x ∷ ss) fit h y (suc k, l, c) =
      present-reach ends bound (i + 1) ss fit (parts i x ss h).1.1 y (k, omega (arith, l), c)

  -- a test of each item holds of all that are present
  pub present-passes : (i : ℕ) (ss : List (Option X)) → IsTrue (well_placed id_of ok i ss) → (y : X)
      → Contains (present ss) y → IsTrue (ok y)
  present-passes i [] h y c = absurd (omega (arith, c.1))
  present-passes i (None ∷ ss) h y c = present-passes (i + 1) ss h y c
  present-passes i (Some x ∷ ss) h y (zero, l, c) = let e : x ≡ y =
      c in subst (λ z. IsTrue (ok z)) e (parts i x ss h).1.0
  present-passes i (Some x ∷ ss) h y (suc k, l, c) =
      present-passes (i + 1) ss (parts i x ss h).1.1 y (k, omega (arith, l), c)

  -- the slot of no item
  pub empty-lacks : (i at n : ℕ) (ss : List (Option X)) → IsTrue (well_placed id_of ok i ss)
      → n ≡ i + at → get_or ss at None ≡ None → Lacks id_of n (present ss)
  empty-lacks i at n [] h m e = tt
  empty-lacks i zero n (None ∷ ss) h m e =
      rises-lacks id_of (i + 1) n (present ss) (present-rises (i + 1) ss h) (omega arith)
  empty-lacks i zero n (Some y ∷ ss) h m e = cc
  empty-lacks i (suc at) n (None ∷ ss) h m e = empty-lacks (i + 1) at n ss h (omega arith) e
  empty-lacks i (suc at) n (Some y ∷ ss) h m e =
      let w = parts i y ss h in
      let g = w.0 in
      ((λ t. absurd (omega (arith, g, t, m))), empty-lacks (i + 1) at n ss w.1.1 (omega arith) e)

module _ {X : Type 0} where
  pub length-taken : (at : ℕ) (y : X) (ss : List (Option X)) → get_or ss at None ≡ Some y
      → length (present (set ss at None)) + 1 ≡ length (present ss)
  length-taken at y [] e = cc
  length-taken zero y (None ∷ ss) e = cc
  length-taken zero y (Some z ∷ ss) e = omega arith
  length-taken (suc at) y (None ∷ ss) e = length-taken at y ss e
  length-taken (suc at) y (Some z ∷ ss) e = let r = length-taken at y ss e in omega (arith, r)

  -- what a read by index gives is there with any default
  pub slot-read : (at : ℕ) (s : Option X) (ss : List (Option X)) → at < length ss
      → s ≡ get_or ss at s → get_or ss at None ≡ s
  slot-read at s [] l e = absurd (omega arith)
  slot-read zero s (t ∷ ss) l e = sym e
  slot-read (suc at) s (t ∷ ss) l e = slot-read at s ss (omega arith) e

module _ {X : Type 0} (id_of : X → ℕ) where
  pub lacks-place : (i : ℕ) (x : X) (ys : List X) → id_of x ≢ i → Lacks id_of i ys
      → Lacks id_of i (with_item id_of x ys)
  lacks-place i x [] n h = (n, tt)
  lacks-place i x (y ∷ ys) n h =
      elim (nat_le (id_of x) (id_of y)) as (λ b.
      Lacks id_of i (if b then x ∷ y ∷ ys else y ∷ with_item id_of x ys)) [
        | true ↦ (n, h)
        | false ↦ (h.0, lacks-place i x ys n h.1)
      ]

  pub length-without : (i : ℕ) (ys : List X) → length (without_item id_of i ys) ≤ length ys
  length-without i [] = omega arith
  length-without i (y ∷ ys) = let r = length-without i ys in grind (arith, common_steps, r)

  pub placed-length : (x : X) (ys : List X) → length (with_item id_of x ys) ≡ length ys + 1
  placed-length x [] = omega arith
  placed-length x (y ∷ ys) = let r = placed-length x ys in grind (arith, common_steps, r)

  pub length-place_all : (xs ys : List X) → length (place_all id_of xs ys) ≡ length xs + length ys
  length-place_all [] ys = omega arith
  length-place_all (x ∷ xs) ys = let r = length-place_all xs (with_item id_of x ys) in let q =
      placed-length x ys in omega (arith, r, q)

  pub length-swap : (x : X) (ys : List X) → length (swapped id_of x ys) ≡ length ys
  length-swap x [] = refl
  length-swap x (y ∷ ys) = let r = length-swap x ys in grind (arith, common_steps, r)
