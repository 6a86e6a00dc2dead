-- What a search has found, read as paths.
use Rattle.std.proofs.Common.{◌≡◌, ◌≢◌, ◌⊎◌, inl, inr, ℕ, zero, suc, ◌+◌, ◌<◌, ◌≤◌, ◌^◌, Bool}
use Rattle.std.proofs.Common.{true, false, ◌&&◌, not, cond, eqb, ℤ, pos, ◌≤ℤ◌, List}
use Rattle.std.proofs.Common.{map, All, length, get_or, Option, Some, None, refl, sym, ◌∙◌, ap}
use Rattle.std.proofs.Common.{subst, arith}
use Rattle.std.proofs.Common.{Result, Ok, Err, IfOk}
use Rattle.std.specs.Prelude.{nat_lt}
use Rattle.std.proofs.Math.ListN.{get_or-map}
use Rattle.std.proofs.lemmas.Int.{ints}
use Rattle.std.proofs.lemmas.Bool.Decides.{nat_tests, eqb_tells}
use Rattle.std.proofs.lemmas.List.{length-map}
use Rattle.std.proofs.lemmas.List.FromFn.{get_or-map-range_with_len, length-map-range_with_len}
use Rattle.plain_certificates.specs.Numbered.{Numbered, EndsAreNodes}
use Rattle.plain_certificates.specs.Tables.{at}
use Rattle.plain_certificates.specs.Paths.{IsNoFurther, leads_back, IsPaths}
use Rattle.path_search.specs.Search.{IsFound}
use Rattle.pace_search.specs.Tree.{far}
use Rattle.path_search.specs.Answers.{dist_in, via_in, Tells, IsAnswer}
use Rattle.path_search.specs.Lengths.{AreLengths}

-- ---- one entry

near_is : (d : ℕ) → d < far → dist_in d ≡ Some (pos d)
near_is d l = let e : nat_lt d far ≡ true = grind (arith, nat_tests) in rw e

some_near : (d : ℕ) (z : ℤ) → dist_in d ≡ Some z → (d < far) × (z ≡ pos d)
some_near d z h = either (nat_lt d far) refl h
  where
    either : (b : Bool) → nat_lt d far ≡ b → cond b (Some (pos d)) None ≡ Some z
        → (d < far) × (z ≡ pos d)
    either true is h = (grind (arith, nat_tests, is), cc)
    either false is h = absurd cc

pub via_is : (d arc v s : ℕ) → d < far → v ≢ s → via_in d arc v s ≡ Some arc
via_is d arc v s l ne =
    let e : nat_lt d far ≡ true = grind (arith, nat_tests) in
    let f : eqb v s ≡ false = grind (arith, nat_tests, ne) in
    rw (e, f)

pub via_none : (d arc v s : ℕ) → (v ≡ s) ⊎ (dist_in d ≡ None) → via_in d arc v s ≡ None
via_none d arc v s (inl e) = let f : eqb v s ≡ true = grind (arith, nat_tests, e) in
    either (nat_lt d far) f
  where
    either : (b : Bool) → eqb v s ≡ true → cond (b && not (eqb v s)) (Some arc) None ≡ None
    either true f = rw f
    either false f = refl
via_none d arc v s (inr h) = either (nat_lt d far) h
  where
    either : (b : Bool) → cond b (Some (pos d)) None ≡ None
        → cond (b && not (eqb v s)) (Some arc) None ≡ None
    either true h = absurd cc
    either false h = refl

-- ---- all of them

module _ (g : Numbered) (lens : List ℕ) (len : List ℤ) (s : ℕ) (dist via turn : List ℕ)
    (dists : List (Option ℤ)) (vias : List (Option ℕ)) (ends : EndsAreNodes g) (ls : s < g.nodes)
    (sizes : length dist ≡ g.nodes) (few : g.nodes ≤ 1048576) (many : length len ≡ g.arcs)
    (same : AreLengths len lens) (high : All (λ l. l ≤ 2 ^ 36) lens)
    (fd : IsFound g (at 0 lens) s (at 0 dist) (at 0 via) (at 0 turn))
    (tells : Tells dist via s dists vias) where
  D : ℕ → ℕ
  D = at 0 dist

  V : ℕ → ℕ
  V = at 0 via

  T : ℕ → ℕ
  T = at 0 turn

  dist_at : (v : ℕ) → v < g.nodes → at None dists v ≡ dist_in (at 0 dist v)
  dist_at v l =
      ap (λ xs. get_or xs v None) tells.dists_are
      ∙ get_or-map-range_with_len (λ u. dist_in (at 0 dist u)) 0 (length dist) v v None
      (omega (arith, sizes, l)) (omega arith)

  via_at : (v : ℕ) → v < g.nodes → at None vias v ≡ via_in (at 0 dist v) (at 0 via v) v s
  via_at v l =
      ap (λ xs. get_or xs v None) tells.vias_are
      ∙ get_or-map-range_with_len (λ u. via_in (at 0 dist u) (at 0 via u) u s) 0 (length dist) v v
      None
      (omega (arith, sizes, l)) (omega arith)

  len_count : length lens ≡ g.arcs
  len_count = sym (length-map lens pos) ∙ (ap length same ∙ many)

  len_at : (k : ℕ) → k < g.arcs → at (pos 0) len k ≡ pos (at 0 lens k)
  len_at k l = ap (λ xs. get_or xs k (pos 0)) (sym same) ∙ get_or-map pos lens k 0

  -- an arc leads no further
  further : (a b c : ℕ) → (a < far → (b ≤ a + c) × (b < far))
      → IsNoFurther (dist_in a) (dist_in b) (pos c)
  further a b c h = either (nat_lt a far) (nat_lt b far) refl refl
    where
      either : (p q : Bool) → nat_lt a far ≡ p → nat_lt b far ≡ q
          → IsNoFurther (cond p (Some (pos a)) None) (cond q (Some (pos b)) None) (pos c)
      either false q is at_b = tt
      either true true is at_b =
          (let near = h (grind (arith, nat_tests, is)) in
          let le = near.0 in
          omega (arith, ints, le))
      either true false is at_b =
          absurd (let near = h (grind (arith, nat_tests, is)) in
          let lt = near.1 in
          grind (arith, nat_tests, at_b, lt))

  -- going back from a node that was settled by some turn
  lead : (n v : ℕ) → at 0 turn v ≤ n → v < g.nodes → at 0 dist v < far
      → leads_back g (at None vias) s n v ≡ true
  lead zero v few_turns l near =
      let some = fd.settled v l near in absurd (omega (arith, some, few_turns))
  lead (suc n) v few_turns l near =
      elim (eqb_tells v s) [
        | inl e ↦ rw e.0
        | inr e ↦
            (let w = fd.via v l e.1 near in
            let u = g.from (at 0 via v) in
            let some = fd.settled v l near in
            let earlier = w.before some in
            let tight = w.tight in
            let inside = (ends (at 0 via v) w.within).0 in
            let on = lead n u (omega (arith, earlier, few_turns)) inside
            (omega (arith, tight, near)) in
            let last = via_at v l ∙ via_is (at 0 dist v) (at 0 via v) v s near e.1 in
            rw (e.0, last) on)
      ]

  pub paths : IsPaths g (at (pos 0) len) s (at None dists) (at None vias)
  paths = record {
    at_start = dist_at s ls ∙ (ap dist_in fd.start ∙ near_is 0 (omega arith));
    no_further = λ k l.
        (let from = (ends k l).0 in
        let to = (ends k l).1 in
        let short = high k 0 (let n = len_count in omega (arith, n, l)) in
        rw (dist_at (g.from k) from, dist_at (g.to k) to, len_at k l)
        (further (at 0 dist (g.from k)) (at 0 dist (g.to k)) (at 0 lens k)
        (λ near.
        (let le = fd.each k l from near in
        let low = fd.short (g.from k) near in
        (le, omega (arith, le, low, short, few))))));
    last = λ v d l ne h.
        (let near = some_near (at 0 dist v) d (sym (dist_at v l) ∙ h) in
        let close = near.0 in
        let w = fd.via v l ne close in
        let arc = at 0 via v in
        let tight = w.tight in
        let inside = (ends arc w.within).0 in
        let is = near.1 in
        let long = len_at arc w.within in (
          arc,
          via_at v l ∙ via_is (at 0 dist v) arc v s close ne,
          record {
            within = w.within;
            ends = w.ends;
            source = pos (at 0 dist (g.from arc));
            source_is = dist_at (g.from arc) inside
                ∙ near_is (at 0 dist (g.from arc)) (omega (arith, tight, close));
            adds_up = omega (arith, ints, is, long, tight);
          },
        ));
    others = λ v l off. via_at v l ∙ via_none (at 0 dist v) (at 0 via v) v s (elim off [
      | inl e ↦ inl e
      | inr e ↦ inr (sym (dist_at v l) ∙ e)
    ]);
    back = λ v d l h.
        (let near = some_near (at 0 dist v) d (sym (dist_at v l) ∙ h) in
        lead g.nodes v (fd.turns v) l near.0);
  }

  pub answer : IsAnswer g len s dists vias
  answer = record {
    dists_all = ap length tells.dists_are
        ∙ (length-map-range_with_len (λ v. dist_in (at 0 dist v)) 0 (length dist) ∙ sizes);
    vias_all = ap length tells.vias_are
        ∙ (length-map-range_with_len (λ v. via_in (at 0 dist v) (at 0 via v) v s) 0 (length dist)
        ∙ sizes);
    paths = paths;
  }

-- ---- lengths

pub lens_short : (len : List ℤ) (lens : List ℕ) → AreLengths len lens
    → All (λ l. l ≤ℤ pos (2 ^ 36)) len → All (λ l. l ≤ 2 ^ 36) lens
lens_short len lens same high k d l =
    let size = length-map lens pos in
    let here : (get_or (map pos lens) k (pos d)) ≤ℤ pos (2 ^ 36) =
    subst (All (λ x. x ≤ℤ pos (2 ^ 36))) (sym same) high k (pos d) (omega (arith, l, size)) in
    let is = get_or-map pos lens k d in
    omega (arith, ints, here, is)

-- what follows from an answer follows where there is one
pub if_ok : {T E : Type 0} {P Q : T → Type 0} (r : Result T E) → ((x : T) → P x → Q x)
    → IfOk r P → IfOk r Q
if_ok (Ok x) f h = f x h
if_ok (Err e) f h = tt
