-- The two loads with which the engine begins.
use Rattle.std.specs.Prelude.{◌≡◌, ℕ, Bool, cond, List, length, map}
use Rattle.std.specs.List.{range_with_len}
use Rattle.plain_certificates.specs.Tables.{at}
use Rattle.flow_loads.specs.declared.loads.Load.{Load}
use Rattle.pair_match.specs.Facing.{flags}

-- no flow yet, and one to send at each left node, and one to take at each other node
pub record IsFirst (arcs : ℕ) (left : List Bool) (load : Load) : Type 0 where
  pub flow_all : length load.flow.items ≡ arcs
  pub height_all : length load.height.items ≡ length left
  pub still : (k : ℕ) → at 0 load.flow.items k ≡ 0
  pub low : (v : ℕ) → at 0 load.height.items v ≡ 0
  pub excess_is : load.excess.items ≡ map (λ l. cond l 1 0) left
  pub want_is : load.want.items ≡ map (λ l. cond l 0 1) left

-- the flow of the first load, what is left over at nodes that aren't left, and one to take at each
-- left node
pub record IsSecond (left : List Bool) (first second : Load) : Type 0 where
  pub flow_same : second.flow.items ≡ first.flow.items
  pub height_all : length second.height.items ≡ length left
  pub low : (v : ℕ) → at 0 second.height.items v ≡ 0
  pub excess_is : second.excess.items
      ≡ map (λ v. cond (flags left v) 0 (at 0 first.excess.items v))
      (range_with_len 0 (length left))
  pub want_is : second.want.items ≡ map (λ l. cond l 1 0) left
