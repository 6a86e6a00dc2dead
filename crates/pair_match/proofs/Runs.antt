-- The two runs one after the other, as the call makes them.
use Rattle.std.proofs.Common.{◌≡◌, ℕ, ◌≤◌, ◌^◌, ◌&&◌, Bool, not, cond, eqb, List, length, map}
use Rattle.std.proofs.Common.{filter, replicate, sym, ◌∙◌, ap, subst}
use Rattle.std.specs.List.{range_with_len}
use Rattle.std.proofs.lemmas.List.{length-map}
use Rattle.plain_certificates.specs.Numbered.{Numbered, EndsAreNodes}
use Rattle.plain_certificates.specs.Pairings.{IsBipartite}
use Rattle.plain_certificates.specs.Tables.{at}
use Rattle.push_flow.specs.declared.push.Ends.{Ends}
use Rattle.push_flow.specs.declared.push.Spoke.{Spoke}
use Rattle.push_flow.specs.Slices.{task_of}
use Rattle.flow_loads.proofs.Loading.{settled_in}
use Rattle.flow_loads.specs.declared.loads.Load.{Load}
use Rattle.flow_loads.specs.Loads.{HasSettled, IsLoaded, task_in}
use Rattle.flow_rows.specs.Network.{IsNetwork}
use Rattle.pair_match.proofs.Paired.{answered, first_loaded, second_loaded, twos}
use Rattle.pair_match.specs.Answers.{IsAnswer}
use Rattle.pair_match.specs.Facing.{facing, flags}
use Rattle.pair_match.specs.Loads.{IsFirst, IsSecond}

module _ (g : Numbered) (left : List Bool) (all : length left ≡ g.nodes) (few : g.nodes ≤ 2 ^ 20)
    (shape : EndsAreNodes g) (two : IsBipartite g (flags left)) (ends : List Ends)
    (start : List ℕ) (row : List Spoke)
    (net' : IsNetwork (facing g (flags left)) ends start row) (caps : List ℕ) (n : ℕ)
    (n_is : n ≡ g.arcs) (caps_are : caps ≡ replicate n 2) (begun : Load)
    (begins : IsFirst n left begun) where
  b : IsFirst g.arcs left begun
  b = subst (λ m. IsFirst m left begun) n_is begins

  pub first_run : (list : List ℕ) → list ≡ caps → IsLoaded ends start row list begun
  first_run list same =
      subst (λ xs. IsLoaded ends start row xs begun) (sym same)
      (first_loaded g left all few caps (twos n g.arcs caps caps_are n_is).0 ends start row net'
      begun b)

  module _ (list : List ℕ) (same : list ≡ caps) (sent : Load)
      (ran : HasSettled (task_of (length begun.height.items) ends list) begun sent) where
    s : HasSettled (task_in (facing g (flags left)) (at 0 caps)) begun sent
    s = settled_in (facing g (flags left)) ends start row net' caps (length begun.height.items)
        (b.height_all ∙ all) begun sent
        (subst (λ xs. HasSettled (task_of (length begun.height.items) ends xs) begun sent) same
        ran)

    pub sent_excess : length sent.excess.items ≡ length left
    sent_excess =
        s.excess_all ∙ (ap length b.excess_is ∙ length-map left (λ l. cond l 1 0))

    pub sent_height : length sent.height.items ≡ length left
    sent_height = s.height_all ∙ b.height_all

    module _ (again : Load) (a : IsSecond left sent again) where
      pub second_run : (other : List ℕ) → other ≡ caps → IsLoaded ends start row other again
      second_run other same' =
          subst (λ xs. IsLoaded ends start row xs again) (sym same')
          (second_loaded g left all few caps (twos n g.arcs caps caps_are n_is).0 ends start row
          net' begun b sent again s a)

      module _ (other : List ℕ) (same' : other ≡ caps) (ended : Load)
          (ran' : HasSettled (task_of (length again.height.items) ends other) again ended) where
        d : HasSettled (task_in (facing g (flags left)) (at 0 caps)) again ended
        d = settled_in (facing g (flags left)) ends start row net' caps
            (length again.height.items) (a.height_all ∙ all) again ended
            (subst (λ xs. HasSettled (task_of (length again.height.items) ends xs) again ended)
            same' ran')

        pub flow_long : length ended.flow.items ≡ g.arcs
        flow_long = d.flow_all ∙ (ap length a.flow_same ∙ (s.flow_all ∙ b.flow_all))

        pub told : IsAnswer g (flags left)
            (filter (λ k. not (eqb (at 0 ended.flow.items k) 0))
            (range_with_len 0 (length ended.flow.items)))
            (map (λ v. flags left v && eqb (at 0 sent.height.items v) (length left))
            (range_with_len 0 (length left)))
        told = answered g left all shape two caps (twos n g.arcs caps caps_are n_is).1 begun sent
            again ended b s a d
