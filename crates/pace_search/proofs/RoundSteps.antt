-- One arc of a round.
use Rattle.std.proofs.Common.{◌≡◌, inl, inr, ℕ, ◌+◌, ◌*◌, ◌<◌, ◌≤◌, Bool}
use Rattle.std.proofs.Common.{true, false, List, length, ap, subst, arith}
use Rattle.std.proofs.Math.ListN.{set, length-set}
use Rattle.std.proofs.lemmas.Bool.Decides.{eqb_tells}
use Rattle.std.proofs.lemmas.List.{get_or-set_same, get_or-set_other}
use Rattle.std.proofs.lemmas.List.Sums.{sum_by-set}
use Rattle.plain_certificates.specs.Numbered.{Numbered, EndsAreNodes}
use Rattle.plain_certificates.specs.Tables.{at, set_at}
use Rattle.plain_certificates.proofs.Tables.{at-set}
use Rattle.pace_search.specs.Tree.{far, origin, shift}
use Rattle.pace_search.specs.Rounds.{IsState, weight, AreWithin, IsRound}
use Rattle.pace_search.proofs.TreeSteps.{written}

pub within_more : (n m : ℕ) (dist : List ℕ) → n ≤ m → AreWithin n dist → AreWithin m dist
within_more n m dist le w = record {
  low = λ k d l. (let a = w.low k d l in omega (arith, a, le));
  high = w.high;
}

pub within_set : (n : ℕ) (dist : List ℕ) (v next : ℕ) → v < length dist
    → origin ≤ next + shift * (n + 1) → next ≤ far → AreWithin n dist
    → AreWithin (n + 1) (set dist v next)
within_set n dist v next l low high w = record {
  low = λ k d lk. elim (eqb_tells k v) [
    | inl e ↦ rw (e.1, get_or-set_same dist v next d l) low
    | inr e ↦
        (let size = length-set dist v next in
        let a = w.low k d (omega (arith, lk, size)) in
        rw (get_or-set_other dist v k next d e.1) (omega (arith, a)))
  ];
  high = λ k d lk. elim (eqb_tells k v) [
    | inl e ↦ rw (e.1, get_or-set_same dist v next d l) high
    | inr e ↦
        (let size = length-set dist v next in
        rw (get_or-set_other dist v k next d e.1) (w.high k d (omega (arith, lk, size))))
  ];
}

pub weight_less : (dist : List ℕ) (v next : ℕ) → v < length dist → next < at 0 dist v
    → weight (set dist v next) < weight dist
weight_less dist v next l less =
    let a = sum_by-set (λ d. d) dist v next 0 l in omega (arith, a, less)

pub state_set : (g : Numbered) (len first : ℕ → ℕ) (dist via : List ℕ) (k next : ℕ)
    → EndsAreNodes g → length dist ≡ g.nodes → length via ≡ g.nodes → k < g.arcs
    → at 0 dist (g.from k) < far → next + shift ≡ at 0 dist (g.from k) + len k
    → next < at 0 dist (g.to k) → next < far → IsState g len first dist via
    → IsState g len first (set dist (g.to k) next) (set via (g.to k) k)
state_set g len first dist via k next ends sizes vias l near sum less low was =
    let to = (ends k l).1 in
    record {
      turns = set_at was.turns (g.to k) (was.clock + 1);
      clock = was.clock + 1;
      tree = rw (
        at-set 0 dist (g.to k) next (omega (arith, to, sizes)),
        at-set 0 via (g.to k) k (omega (arith, to, vias)),
      )
          (written g len first (at 0 dist) (at 0 via) was.turns was.clock ends was.tree k next l
          near sum less low);
    }

-- a round that changed something goes on so
pub round_less : (g : Numbered) (len : ℕ → ℕ) (n : ℕ) (dist via dist' via' dist'' : List ℕ)
    (changed : Bool) → weight dist'' < weight dist'
    → IsRound g len n dist via dist' via' changed → weight dist'' < weight dist
round_less g len n dist via dist' via' dist'' true less h = omega (arith, less, h)
round_less g len n dist via dist' via' dist'' false less h =
    let same = ap weight h.0 in omega (arith, less, same)

-- an arc that leads no nearer
pub round_kept : (g : Numbered) (len : ℕ → ℕ) (n : ℕ) (dist via dist' via' : List ℕ)
    (changed : Bool)
    → (at 0 dist' (g.from n) < far → at 0 dist' (g.to n) + shift ≤ at 0 dist' (g.from n) + len n)
    → IsRound g len n dist via dist' via' changed
    → IsRound g len (n + 1) dist via dist' via' changed
round_kept g len n dist via dist' via' true kept h = h
round_kept g len n dist via dist' via' false kept h = (
  h.0,
  h.1,
  λ k l near. elim (eqb_tells k n) [
    | inl e ↦
        (let from = ap (λ x. at 0 dist (g.from x)) e.1 in
        let to = ap (λ x. at 0 dist (g.to x)) e.1 in
        let long = ap len e.1 in
        let here = subst (λ xs. at 0 xs (g.from n) < far
        → at 0 xs (g.to n) + shift ≤ at 0 xs (g.from n) + len n) h.0 kept in
        let le = here (omega (arith, from, near)) in
        omega (arith, from, to, long, le))
    | inr e ↦ (let ne = e.1 in h.2 k (omega (arith, ne, l)) near)
  ],
)
