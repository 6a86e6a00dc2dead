-- A run that met an endless cycle.
use Rattle.std.proofs.Common.{◌≡◌, ℕ, ◌<◌, ◌≤◌, ◌^◌, ℤ, Option, Some, subst, arith}
use Rattle.std.specs.Prelude.{MatchOption}
use Rattle.std.proofs.lemmas.Int.{ints}
use Rattle.pivot_flow.proofs.Opening.{flows_small}
use Rattle.pivot_flow.proofs.Parting.{depth_small}
use Rattle.pivot_flow.specs.Enter.{NoneEnters}
use Rattle.pivot_flow.specs.Tree.{ComesTo, Task, Tree}
use Rattle.pivot_flow.specs.declared.pivots.Endless.{Endless}
use Rattle.plain_certificates.specs.Numbered.{Numbered}
use Rattle.net_simplex.proofs.Rounds.{IsEndlessRound, endless_round, over_from, over_to}
use Rattle.net_simplex.specs.Cycles.{round_of}
use Rattle.net_simplex.specs.Solved.{IsEndless, IsLast}

module _ (g : Numbered) (excess : ℕ → ℤ) (t : Task) (c : ℕ → ℤ) (h : Tree) (f : ℕ → ℕ) (y : ℕ → ℤ)
    (endless : Option Endless) (last : IsLast g excess t c h f y endless) where
  small : (k : ℕ) → k < t.net.arcs → f k < 2 ^ 61
  small k l =
      let run = last.running in
      let most = flows_small t run.sends h f run.size (2 ^ 37) run.state.hung run.state.held
      last.ends
      run.sized run.free k l in
      let light = run.light in
      omega (arith, ints, most, light)

  deep : (v : ℕ) → v < t.net.nodes → h.depth v ≤ g.nodes
  deep v l =
      let below = depth_small t h v last.running.state.hung l in
      let all = last.rooted.nodes in
      omega (arith, below, all)

  module _ (x : Endless) (is : endless ≡ Some x) where
    met : IsEndless t c h f y x
    met = subst (λ e. MatchOption e (NoneEnters t c f y) (λ z. IsEndless t c h f y z)) is last.stops

    pub met_arc : x.entering.arc < t.net.arcs
    met_arc = met.0.arc

    pub met_from : ComesTo h (t.net.from x.entering.arc) x.found.apex
    met_from = over_from t c h f y x.entering.arc x.entering.forward x.found.apex x.found.step
        (2 ^ 61)
        g.nodes x.found.leaves last.ends last.running.state.hung last.running.state.priced met.0
        small
        met.1.1 met.1.0 deep

    pub met_to : ComesTo h (t.net.to x.entering.arc) x.found.apex
    met_to = over_to t c h f y x.entering.arc x.entering.forward x.found.apex x.found.step (2 ^ 61)
        g.nodes x.found.leaves last.ends last.running.state.hung last.running.state.priced met.0
        small
        met.1.1 met.1.0 deep

    pub met_round : IsEndlessRound t c x.found.apex g.nodes (2 ^ 61)
        (round_of h x.found.apex (t.net.from x.entering.arc) x.entering.arc
        (t.net.to x.entering.arc))
    met_round = endless_round t c h f y x.entering.arc x.entering.forward x.found.apex x.found.step
        (2 ^ 61) g.nodes x.found.leaves last.ends last.running.state.hung last.running.state.priced
        met.0 small met.1.1 met.1.0 deep
