-- How a set of nodes is told as a barrier.
use Rattle.std.specs.Prelude.{◌≡◌, ℕ, Bool, cond, false, ℤ, ◌-ℤ◌}
use Rattle.static_digraph.specs.declared.answers.Barrier.{Barrier}
use Rattle.plain_certificates.specs.Cuts.{enters, leaves}
use Rattle.plain_certificates.specs.Numbered.{Numbered, sum_where}
use Rattle.plain_certificates.specs.Tables.{at}

-- its nodes are told with what they supply, and with what can leave them, or must
pub record IsToldOf (g : Numbered) (lower upper supply : ℕ → ℤ) (over : Bool) (barrier : Barrier)
    : Type 0 where
  pub over_is : barrier.over ≡ over
  pub supply_is : barrier.supply ≡ sum_where g.nodes (at false barrier.nodes) supply
  pub limit_is : barrier.limit
      ≡ sum_where g.arcs (leaves g (at false barrier.nodes)) (cond over upper lower)
      -ℤ sum_where g.arcs (enters g (at false barrier.nodes)) (cond over lower upper)
