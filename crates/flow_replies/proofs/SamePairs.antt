-- The same of pairings; and that arcs of which none is one-sided join the two sides.
use Rattle.std.proofs.Common.{◌≡◌, ℕ, ◌<◌, ◌&&◌, Bool, true, false, not, cond, pos, ◌+ℤ◌, sym}
use Rattle.std.proofs.Common.{ap, ◌∙◌, refl, List}
use Rattle.plain_certificates.specs.Numbered.{Numbered, count_where}
use Rattle.plain_certificates.specs.Pairings.{IsBipartite, IsPairing, is_neighbour}
use Rattle.plain_certificates.specs.Tables.{at}
use Rattle.plain_certificates.proofs.Sums.{sum_to-same}
use Rattle.view_numbers.specs.Breaches.{NoneBefore}
use Rattle.view_numbers.specs.Turned.{is_one_sided}

-- sides that agree on the nodes
pub pairing_alike : (g : Numbered) (left other chosen hall : ℕ → Bool)
    → ((node : ℕ) → node < g.nodes → left node ≡ other node) → IsPairing g left chosen hall
    → IsPairing g other chosen hall
pairing_alike g left other chosen hall same is = record {
  apart = is.apart;
  hall_left = λ node below among. sym (same node below) ∙ is.hall_left node below among;
  tight = is.tight
      ∙ ap (λ n. n +ℤ count_where g.nodes (is_neighbour g hall))
      (sum_to-same g.nodes (λ node. cond (left node && not (hall node)) (pos 1) (pos 0))
      (λ node. cond (other node && not (hall node)) (pos 1) (pos 0))
      (λ node below. ap (λ b. cond (b && not (hall node)) (pos 1) (pos 0)) (same node below)));
}

-- where no arc has both ends on one side, each joins the two
pub two_sided : (g : Numbered) (left : List Bool) → NoneBefore g.arcs (is_one_sided g left)
    → IsBipartite g (at false left)
two_sided g left none arc below =
    by (at false left (g.from arc)) (at false left (g.to arc)) (none arc below)
  where
    by : (from to : Bool) → cond from to (not to) ≡ false → to ≡ not from
    by true true is = is
    by true false is = refl
    by false true is = refl
    by false false is = sym is
