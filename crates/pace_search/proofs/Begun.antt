-- The state before the first round.
use Rattle.std.proofs.Common.{◌≡◌, ℕ, List, length, [], refl, arith}
use Rattle.plain_certificates.specs.Numbered.{Numbered}
use Rattle.plain_certificates.specs.Tables.{at}
use Rattle.pace_search.specs.Rounds.{IsState, AreWithin}
use Rattle.pace_search.specs.Runs.{IsFresh}

-- each node is reached from itself
pub first_state : (g : Numbered) (len : ℕ → ℕ) (dist via : List ℕ) → length via ≡ g.nodes
    → IsFresh g.arcs dist via → IsState g len (at 0 dist) dist via
first_state g len dist via vias fresh = record {
  turns = λ v. 0;
  clock = 0;
  tree = record {
    below = λ v. omega arith;
    root = λ v l near out. refl;
    via = λ v l near in_arcs.
        absurd (let none = fresh.none v 0 (omega (arith, l, vias)) in
        omega (arith, none, in_arcs));
    turns = λ v. omega arith;
    reached = λ v l near.
        record { start = v; inside = l; begins = near; arcs = []; walk = refl };
  };
}

pub first_within : (count n : ℕ) (dist via : List ℕ) → IsFresh count dist via → AreWithin n dist
first_within count n dist via fresh = record {
  low = λ k d l. (let a = fresh.low k d l in omega (arith, a));
  high = fresh.high;
}
