-- Lowering the flow round a cycle of arcs without an upper bound that all carry something.
use Rattle.std.proofs.Common.{◌≡◌, ℕ, ◌<◌, false, ℤ, pos, ◌≤ℤ◌, List, All, ap, subst}
use Rattle.std.proofs.Common.{sym, ◌∙◌, inl, inr}
use Rattle.plain_certificates.specs.Cheapest.{reduced_cost}
use Rattle.plain_certificates.specs.Numbered.{Numbered}
use Rattle.plain_certificates.specs.Rooms.{as_flow}
use Rattle.plain_certificates.specs.Tables.{at}
use Rattle.plain_certificates.specs.Walks.{IsTrail, along}
use Rattle.pace_search.proofs.PaceWalks.{pace_ahead}
use Rattle.pace_search.specs.Paces.{pace_at, paces_at}
use Rattle.flow_mincost.proofs.DropLengths.{Carries}
use Rattle.flow_mincost.proofs.Evened.{even_round, no_gain_kept, pushed_or}
use Rattle.flow_mincost.specs.Prices.{HasNoGain}
use Rattle.flow_mincost.specs.Pushing.{IsPushed}
use Rattle.flow_mincost.specs.Rooms.{signed}

-- prices stay right
pub prices_kept : (g : Numbered) (cap : List ℕ) (cost pi : ℕ → ℤ) (round old new : List ℕ)
    → All (Carries g (at 0 cap) (at 0 old)) round → (node : ℕ)
    → IsTrail g node (paces_at g round) node → pos 0 ≤ℤ along cost round
    → IsPushed g cap false round old new
    → HasNoGain g (at 0 cap) cost (at 0 old) pi → HasNoGain g (at 0 cap) cost (at 0 new) pi
prices_kept g cap cost pi round old new carry node closed high sent was =
    let arcs : All (λ k. k < g.arcs) round = λ k d l. (carry k d l).arc in
    let low : All (λ k. reduced_cost g cost pi k ≤ℤ pos 0) round =
    λ k d l. was.down _ (arcs k d l) (carry k d l).some in
    let even = even_round g cost round arcs node closed pi low high in
    let even_arc : All (λ k. reduced_cost g cost pi (pace_at g k).arc ≡ pos 0) round =
    λ k d l. subst (λ p. reduced_cost g cost pi p.arc ≡ pos 0)
    (sym (pace_ahead g _ (arcs k d l))) (even k d l) in
    no_gain_kept g (at 0 cap) cost pi old new
    (λ k l. elim (pushed_or g (λ j. reduced_cost g cost pi j ≡ pos 0) (signed false sent.step)
    round (as_flow (at 0 old)) even_arc k) [
      | inl e ↦ inl (ap (λ (f : ℕ → ℤ). f k) sent.flow ∙ e)
      | inr e ↦ inr e
    ])
    was
