-- What each node is to send, or to take, as the engine begins with it.
use Rattle.std.specs.Prelude.{◌≡◌, ℕ, ◌<◌, Bool, cond, false, true, ℤ, pos, neg_ℤ, ◌≤ℤ◌, ◌<ℤ◌}
use Rattle.std.specs.Prelude.{List, length}
use Rattle.plain_certificates.specs.Tables.{at}
use Rattle.flow_loads.specs.declared.loads.Load.{Load}

-- the number is the value where that is above 0, and else 0
abbrev pub IsPart : ℤ → ℕ → Type 0
IsPart value part = (pos 0 <ℤ value → pos part ≡ value) × (value ≤ℤ pos 0 → part ≡ 0)

-- what is above 0 of so many values, or of their opposites
pub record AreParts (count : ℕ) (turned : Bool) (value : ℕ → ℤ) (parts : List ℕ) : Type 0 where
  pub all : length parts ≡ count
  pub each : (v : ℕ) → v < count → IsPart (cond turned (neg_ℤ (value v)) (value v)) (at 0 parts v)

-- no flow yet: what a node is to send is its excess, and what it is to take is its want
pub record IsFirst (nodes arcs : ℕ) (value : ℕ → ℤ) (load : Load) : Type 0 where
  pub flow_all : length load.flow.items ≡ arcs
  pub height_all : length load.height.items ≡ nodes
  pub still : (k : ℕ) → at 0 load.flow.items k ≡ 0
  pub low : (v : ℕ) → at 0 load.height.items v ≡ 0
  pub sends : AreParts nodes false value load.excess.items
  pub takes : AreParts nodes true value load.want.items
