-- What lengths of -1 along arcs without an upper bound that carry something say.
use Rattle.std.proofs.Common.{◌≡◌, inl, inr, ℕ, ◌+◌, ◌*◌, ◌<◌, ◌^◌, ◌&&◌, ◌==◌, Bool}
use Rattle.std.proofs.Common.{true, false, cond, ℤ, pos, neg_ℤ, ◌≤ℤ◌, List, All}
use Rattle.std.proofs.Common.{refl, sym, subst, arith}
use Rattle.std.proofs.lemmas.Int.{ints}
use Rattle.std.proofs.lemmas.Bool.Decides.{nat_tests}
use Rattle.plain_certificates.specs.Numbered.{Numbered}
use Rattle.plain_certificates.specs.Tables.{at}
use Rattle.pace_search.proofs.Marks.{leq_or}
use Rattle.pace_search.proofs.PaceWalks.{pace_ahead, pace_back}
use Rattle.pace_search.specs.Answers.{HasNoTurn, IsNegativeRound, IsPotential, none}
use Rattle.pace_search.specs.Paces.{pace_at}
use Rattle.task_bounds.specs.Given.{IsValue}
use Rattle.flow_mincost.proofs.LengthCases.{either, is_there}
use Rattle.flow_mincost.specs.Lengths.{AreDrops}
use Rattle.flow_mincost.specs.Prices.{HasLevels}
use Rattle.flow_mincost.specs.Pushing.{IsRoomy}
use Rattle.flow_mincost.specs.Rooms.{open_load, room}

pub one_small : IsValue (neg_ℤ (pos 1))
one_small = (omega (arith, ints), omega (arith, ints))

-- an arc without an upper bound that carries something
pub record Carries (g : Numbered) (cap sent : ℕ → ℕ) (k : ℕ) : Type 0 where
  pub arc : k < g.arcs
  pub open_cap : cap k ≡ 2 ^ 62
  pub some : 0 < sent k

module _ (g : Numbered) (cap sent : ℕ → ℕ) where
  load_ahead : (c s : ℕ) → 0 < cond (true && (c == 2 ^ 62)) s 0 → (c ≡ 2 ^ 62) × (0 < s)
  load_ahead c s more = by (c == 2 ^ 62) refl more
    where
      by : (b : Bool) → b ≡ (c == 2 ^ 62) → 0 < cond b s 0 → (c ≡ 2 ^ 62) × (0 < s)
      by true e m = (grind (arith, nat_tests, e), m)
      by false e m = absurd (omega (arith, m))

  pub load_carries : (k : ℕ) → 0 < open_load cap sent (pace_at g k) → Carries g cap sent k
  load_carries k more = elim (leq_or g.arcs k) [
    | inl high ↦ absurd (let m = subst (λ p. 0 < open_load cap sent p) (pace_back g k high) more
        in omega (arith, m))
    | inr low ↦
        (let m = load_ahead (cap k) (sent k)
        (subst (λ p. 0 < open_load cap sent p) (pace_ahead g k low) more) in
        record { arc = low; open_cap = m.0; some = m.1 })
  ]

  carries_load : (k : ℕ) → Carries g cap sent k → 0 < open_load cap sent (pace_at g k)
  carries_load k is =
      let same : (cap k == 2 ^ 62) ≡ true =
      (let e = is.open_cap in grind (arith, nat_tests, e)) in
      subst (λ p. 0 < open_load cap sent p) (sym (pace_ahead g k is.arc))
      (subst (λ b. 0 < cond b (sent k) 0) (sym same) is.some)

  module _ (lens : List ℤ) (are : AreDrops g cap sent lens) where
    abbrev len : ℕ → ℤ
    len = at (pos 0) lens

    low_at : (k : ℕ) → k < 2 * g.arcs → neg_ℤ (pos 1) ≤ℤ len k
    low_at k l = elim (either (open_load cap sent (pace_at g k)) (neg_ℤ (pos 1)) (len k)
        (are.each k l)) [
          | inl e ↦ (let is = e.1 in omega (arith, ints, is))
          | inr e ↦ (let is = e.1 in omega (arith, ints, is))
        ]

    -- no pace leads back
    back_none : (k : ℕ) → k < g.arcs → len (g.arcs + k) ≡ none
    back_none k l =
        let off = subst (λ p. open_load cap sent p ≡ 0)
        (sym (pace_back g (g.arcs + k) (omega arith))) refl in
        (are.each (g.arcs + k) (omega (arith, l))).none_there off

    pub no_turn : HasNoTurn g len
    no_turn k l =
        let low = low_at k (omega (arith, l)) in
        let is = back_none k l in
        omega (arith, ints, low, is)

    -- where there is no cycle, a potential falls along each such arc
    pub levels : (pi : ℕ → ℤ) → IsPotential g len pi → HasLevels g cap sent
    levels pi potential = record {
      level = pi;
      falls = λ k l open_cap some.
          (let is = (are.each k (omega (arith, l))).there
          (carries_load k (record { arc = l; open_cap = open_cap; some = some })) in
          let rise = potential.ahead k l in
          omega (arith, ints, is, rise));
    }

    -- and a cycle has such arcs alone
    module _ (round : List ℕ) (is : IsNegativeRound g len round) where
      pub all_carry : All (Carries g cap sent) round
      all_carry k d l =
          load_carries _ (is_there _ (neg_ℤ (pos 1)) _ (are.each _ (is.known k d l))
          (is.short k d l)).0

      room_back : (k : ℕ) → Carries g cap sent k → 0 < room cap sent false (pace_at g k)
      room_back k c =
          subst (λ p. 0 < room cap sent false p) (sym (pace_ahead g k c.arc)) c.some

      pub roomy_round : IsRoomy g cap sent false round
      roomy_round = record {
        some = is.nonempty;
        known = is.known;
        differ = is.arcs_differ no_turn;
        roomy = λ k d l. room_back _ (all_carry k d l);
      }
