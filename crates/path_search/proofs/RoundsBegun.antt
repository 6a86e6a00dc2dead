-- The distances before the first round.
use Rattle.std.proofs.Common.{◌≡◌, ◌≢◌, ◌⊎◌, inl, inr, ℕ, ◌<◌, List, length, get_or}
use Rattle.std.proofs.Common.{◌∙◌, ap, arith}
use Rattle.std.proofs.Math.ListN.{set, length-set, replicate}
use Rattle.std.proofs.lemmas.Bool.Decides.{eqb_tells}
use Rattle.std.proofs.lemmas.List.{get_or-set_same, get_or-set_other, get_or-replicate}
use Rattle.std.proofs.lemmas.Simd.{length-replicate}
use Rattle.plain_certificates.specs.Numbered.{Numbered}
use Rattle.plain_certificates.specs.Tables.{at}
use Rattle.pace_search.specs.Runs.{IsFresh}
use Rattle.pace_search.specs.Tree.{far, origin}
use Rattle.path_search.specs.Tree.{BeginsAt}

module _ (g : Numbered) (s : ℕ) (ls : s < g.nodes) where
  abbrev begun : List ℕ
  begun = set (replicate g.nodes far) s origin

  inside : s < length (replicate g.nodes far)
  inside = let n = length-replicate g.nodes far in omega (arith, n, ls)

  off_start : (v d : ℕ) → v < g.nodes → v ≢ s → get_or begun v d ≡ far
  off_start v d l ne =
      get_or-set_other (replicate g.nodes far) s v origin d ne ∙ get_or-replicate g.nodes v far d l

  pub begins_at : BeginsAt g s (at 0 begun)
  begins_at = record {
    start = get_or-set_same (replicate g.nodes far) s origin 0 inside;
    others = λ v l near. elim (eqb_tells v s) [
      | inl e ↦ e.1
      | inr e ↦ absurd (let a = off_start v 0 l e.1 in omega (arith, a, near))
    ];
  }

  either_of : (v d : ℕ) → v < length begun → (get_or begun v d ≡ origin) ⊎ (get_or begun v d ≡ far)
  either_of v d l = elim (eqb_tells v s) [
    | inl e ↦
        inl (ap (λ x. get_or begun x d) e.1
        ∙ get_or-set_same (replicate g.nodes far) s origin d inside)
    | inr e ↦
        (let n = length-replicate g.nodes far in
        let all = length-set (replicate g.nodes far) s origin in
        inr (off_start v d (omega (arith, l, n, all)) e.1))
  ]

  pub begun_fresh : IsFresh g.arcs begun (replicate g.nodes g.arcs)
  begun_fresh = record {
    low = λ v d l. elim (either_of v d l) [
      | inl e ↦ omega (arith, e)
      | inr e ↦ omega (arith, e)
    ];
    high = λ v d l. elim (either_of v d l) [
      | inl e ↦ omega (arith, e)
      | inr e ↦ omega (arith, e)
    ];
    none = λ v d l.
        (let n = length-replicate g.nodes g.arcs in
        let is = get_or-replicate g.nodes v g.arcs d (omega (arith, n, l)) in
        omega (arith, is));
  }
