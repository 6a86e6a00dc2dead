-- A tree of last arcs where no arc leads nearer, read as paths.
use Rattle.std.proofs.Common.{◌≡◌, ◌≢◌, ◌⊎◌, inl, inr, ℕ, ◌<◌, ◌≤◌, ◌^◌, Bool, true, false}
use Rattle.std.proofs.Common.{cond, ℤ, pos, ◌+ℤ◌, ◌-ℤ◌, ◌≤ℤ◌, Option, Some, None, refl}
use Rattle.std.proofs.Common.{sym, ◌∙◌, ap, arith}
use Rattle.std.specs.Prelude.{nat_lt}
use Rattle.std.proofs.lemmas.Int.{ints}
use Rattle.std.proofs.lemmas.Bool.Decides.{nat_tests}
use Rattle.plain_certificates.specs.Numbered.{Numbered, EndsAreNodes}
use Rattle.plain_certificates.specs.Paths.{IsNoFurther, IsPaths}
use Rattle.pace_search.specs.Tree.{far, origin, shift, AreRelaxed, IsTree}
use Rattle.path_search.specs.Answers.{via_in}
use Rattle.path_search.proofs.Answered.{via_is, via_none}
use Rattle.path_search.specs.Tree.{BeginsAt, signed_in}
use Rattle.path_search.proofs.TreeFound.{tight, start_at_origin, has_arc}
use Rattle.path_search.proofs.TreeFound.{leads_to_start, distance_is_high}

signed_is : (d : ℕ) → d < far → signed_in d ≡ Some (pos d -ℤ pos origin)
signed_is d l = let e : nat_lt d far ≡ true = grind (arith, nat_tests) in rw e

some_signed : (d : ℕ) (z : ℤ) → signed_in d ≡ Some z → (d < far) × (z ≡ pos d -ℤ pos origin)
some_signed d z h = either (nat_lt d far) refl h
  where
    either : (b : Bool) → nat_lt d far ≡ b → cond b (Some (pos d -ℤ pos origin)) None ≡ Some z
        → (d < far) × (z ≡ pos d -ℤ pos origin)
    either true is h = (grind (arith, nat_tests, is), cc)
    either false is h = absurd cc

signed_none : (d : ℕ) → signed_in d ≡ None → nat_lt d far ≡ false
signed_none d h = either (nat_lt d far) refl h
  where
    either : (b : Bool) → nat_lt d far ≡ b → cond b (Some (pos d -ℤ pos origin)) None ≡ None
        → nat_lt d far ≡ false
    either true is h = absurd cc
    either false is h = is

unreached : (d arc v s : ℕ) → (v ≡ s) ⊎ (signed_in d ≡ None) → via_in d arc v s ≡ None
unreached d arc v s (inl e) = via_none d arc v s (inl e)
unreached d arc v s (inr h) = via_none d arc v s (inr (rw (signed_none d h) refl))

-- an arc leads no further
further : (a b : ℕ) (z : ℤ)
    → (a < far → ((pos b -ℤ pos origin) ≤ℤ ((pos a -ℤ pos origin) +ℤ z)) × (b < far))
    → IsNoFurther (signed_in a) (signed_in b) z
further a b z h = either (nat_lt a far) (nat_lt b far) refl refl
  where
    either : (p q : Bool) → nat_lt a far ≡ p → nat_lt b far ≡ q
        → IsNoFurther (cond p (Some (pos a -ℤ pos origin)) None)
        (cond q (Some (pos b -ℤ pos origin)) None) z
    either false q is at_b = tt
    either true true is at_b = (h (grind (arith, nat_tests, is))).0
    either true false is at_b =
        absurd (let near = h (grind (arith, nat_tests, is)) in
        let lt = near.1 in
        grind (arith, nat_tests, at_b, lt))

module _ (g : Numbered) (L : ℕ → ℤ) (len : ℕ → ℕ) (s : ℕ) (first D V T : ℕ → ℕ) (clock : ℕ)
    (ends : EndsAreNodes g) (ls : s < g.nodes) (few : g.nodes ≤ 1048576)
    (begins : BeginsAt g s first) (tree : IsTree g len first D V T clock)
    (relaxed : AreRelaxed g len D)
    (short : (k : ℕ) → k < g.arcs → len k ≤ 2 ^ 37)
    (same : (k : ℕ) → k < g.arcs → L k +ℤ pos shift ≡ pos (len k))
    (dists : ℕ → Option ℤ) (vias : ℕ → Option ℕ)
    (dist_at : (v : ℕ) → v < g.nodes → dists v ≡ signed_in (D v))
    (via_at : (v : ℕ) → v < g.nodes → vias v ≡ via_in (D v) (V v) v s) where
  arc_at : (v : ℕ) → v < g.nodes → v ≢ s → D v < far → vias v ≡ Some (V v)
  arc_at v l ne near = via_at v l ∙ via_is (D v) (V v) v s near ne

  pub tree_paths : IsPaths g L s dists vias
  tree_paths = record {
    at_start =
        (let is = start_at_origin g len s first D V T clock ends ls begins tree relaxed in
        dist_at s ls ∙ (ap signed_in is ∙ refl));
    no_further = λ k l.
        (let from = (ends k l).0 in
        let to = (ends k l).1 in
        rw (dist_at (g.from k) from, dist_at (g.to k) to)
        (further (D (g.from k)) (D (g.to k)) (L k) (λ near.
        (let le = relaxed k l near in
        let low = distance_is_high g len s first D V T clock ends ls begins tree relaxed short
        (g.from k) from near in
        let is = same k l in
        let least = short k l in
        (omega (arith, ints, le, is), omega (arith, le, low, least, few))))));
    last = λ v d l ne h.
        (let reached = some_signed (D v) d (sym (dist_at v l) ∙ h) in
        let near = reached.0 in
        let is = reached.1 in
        let q = has_arc g len s first D V T clock ends ls begins tree relaxed v l ne near in
        let a = tree.via v l near q in
        let t = (tight g len s first D V T clock ends ls begins tree relaxed v l near q).0 in
        let long = same (V v) q in
        let u = g.from (V v) in (
          V v,
          arc_at v l ne near,
          record {
            within = q;
            ends = a.ends;
            source = pos (D u) -ℤ pos origin;
            source_is = dist_at u (ends (V v) q).0 ∙ signed_is (D u) a.near;
            adds_up = omega (arith, ints, is, long, t);
          },
        ));
    others = λ v l off. via_at v l ∙ unreached (D v) (V v) v s (elim off [
      | inl e ↦ inl e
      | inr e ↦ inr (sym (dist_at v l) ∙ e)
    ]);
    back = λ v d l h.
        (let near = (some_signed (D v) d (sym (dist_at v l) ∙ h)).0 in
        leads_to_start g len s first D V T clock ends ls begins tree relaxed vias arc_at v l near);
  }
