-- What a round leaves.
use Rattle.std.proofs.Common.{◌≡◌, inl, inr, ℕ, List, length, get_or}
use Rattle.std.proofs.Common.{Option, None, subst, arith}
use Rattle.std.proofs.lemmas.List.{get_or_default}
use Rattle.plain_certificates.specs.Numbered.{Numbered}
use Rattle.plain_certificates.specs.Tables.{at}
use Rattle.pace_search.specs.Tree.{far}
use Rattle.pace_search.specs.Rounds.{AreWithin}
use Rattle.pace_search.specs.Climbs.{FindsRound}
use Rattle.pace_search.proofs.Marks.{leq_or}

-- where no last arcs close up, distances are bounded
pub within_again : (g : Numbered) (steps : ℕ) (dist : List ℕ) (V : ℕ → ℕ)
    (found : Option (List ℕ)) → found ≡ None → length dist ≡ g.nodes
    → FindsRound g (at 0 dist) V found → AreWithin steps dist → AreWithin g.nodes dist
within_again g steps dist V found is sizes finds within =
    let low = subst (FindsRound g (at 0 dist) V) is finds in
    record {
      low = λ k d l.
          (let here = get_or_default dist k d 0 l in
          elim (leq_or far (get_or dist k d)) [
            | inl le ↦ omega (arith, le)
            | inr near ↦
                (let high = low k (omega (arith, l, sizes)) (omega (arith, near, here)) in
                omega (arith, high, here))
          ]);
      high = within.high;
    }
