-- How much can be sent along paces, where flows are from 0 to a capacity.
use Rattle.std.specs.Prelude.{◌≡◌, ℕ, ◌-◌, ◌<◌, ◌≤◌, ◌^◌, ◌==◌, ◌&&◌, Bool, not, cond, ℤ, pos}
use Rattle.std.specs.Prelude.{neg_ℤ, List, length}
use Rattle.plain_certificates.specs.Numbered.{Numbered}
use Rattle.plain_certificates.specs.Tables.{at}
use Rattle.plain_certificates.specs.Walks.{Pace}

-- whether what is sent along a pace, or else taken back along it, raises the flow of its arc
abbrev pub raises : Bool → Pace → Bool
raises ahead pace = cond ahead pace.onward (not pace.onward)

-- how much can be sent along a pace, or else taken back along it
abbrev pub room : (ℕ → ℕ) → (ℕ → ℕ) → Bool → Pace → ℕ
room cap sent ahead pace =
    cond (raises ahead pace) (cap pace.arc - sent pace.arc) (sent pace.arc)

-- so much that is sent, or else taken back
abbrev pub signed : Bool → ℕ → ℤ
signed ahead step = cond ahead (pos step) (neg_ℤ (pos step))

-- whether a pace leads along an arc without an upper bound, for which a capacity of 2^62 stands
abbrev pub is_open : (ℕ → ℕ) → Pace → Bool
is_open cap pace = pace.onward && (cap pace.arc == 2 ^ 62)

-- what an arc without an upper bound carries, seen from the pace along it, and 0 from any other
abbrev pub open_load : (ℕ → ℕ) → (ℕ → ℕ) → Pace → ℕ
open_load cap sent pace = cond (is_open cap pace) (sent pace.arc) 0

-- a flow and a capacity for each arc, where the flow is within the capacity
pub record IsWithin (g : Numbered) (cap sent : List ℕ) : Type 0 where
  pub caps_all : length cap ≡ g.arcs
  pub all : length sent ≡ g.arcs
  pub few : (k : ℕ) → k < g.arcs → at 0 cap k ≤ 2 ^ 62
  pub within : (k : ℕ) → k < g.arcs → at 0 sent k ≤ at 0 cap k
