-- Rounds of paces with room, and what is sent along them.
use Rattle.std.specs.Prelude.{◌≡◌, ℕ, ◌*◌, ◌<◌, ◌≤◌, Bool, List, length, All}
use Rattle.plain_certificates.specs.Numbered.{Numbered, net}
use Rattle.plain_certificates.specs.Pushes.{pushed}
use Rattle.plain_certificates.specs.Rooms.{as_flow}
use Rattle.plain_certificates.specs.Tables.{at}
use Rattle.plain_certificates.specs.Walks.{Differ, arcs_of}
use Rattle.pace_search.specs.Paces.{pace_at, paces_at}
use Rattle.flow_mincost.specs.Rooms.{IsWithin, room, signed}

-- numbers of paces over different arcs, at least one, along each of which something can be sent, or
-- else taken back
pub record IsRoomy (g : Numbered) (cap sent : ℕ → ℕ) (ahead : Bool) (round : List ℕ) : Type 0
  where
    pub some : 0 < length round
    pub known : All (λ k. k < 2 * g.arcs) round
    pub differ : Differ (arcs_of (paces_at g round))
    pub roomy : All (λ k. 0 < room cap sent ahead (pace_at g k)) round

-- how much can be sent along the pace at a place of a list, or else taken back
abbrev pub room_at : Numbered → (ℕ → ℕ) → (ℕ → ℕ) → Bool → List ℕ → ℕ → ℕ
room_at g cap sent ahead round i = room cap sent ahead (pace_at g (at 0 round i))

-- the number is the room at a place of so many, and at most the room at each of the first ones
pub record IsLeastRoom (rooms : ℕ → ℕ) (all count step : ℕ) : Type 0 where
  pub place : ℕ
  pub within : place < all
  pub is : step ≡ rooms place
  pub least : (i : ℕ) → i < count → step ≤ rooms i

-- as much as all paces have room for was sent along them, or else taken back
pub record IsPushed (g : Numbered) (cap : List ℕ) (ahead : Bool) (round old new : List ℕ) : Type 0
  where
    pub step : ℕ
    pub least : IsLeastRoom (room_at g (at 0 cap) (at 0 old) ahead round) (length round)
        (length round) step
    pub flow : as_flow (at 0 new)
        ≡ pushed (signed ahead step) (paces_at g round) (as_flow (at 0 old))
    pub within : IsWithin g cap new

-- a flow within the capacities of which each node sends as much as before
pub record Keeps (g : Numbered) (cap old new : List ℕ) : Type 0 where
  pub within : IsWithin g cap new
  pub same_net : (v : ℕ) → net g (as_flow (at 0 new)) v ≡ net g (as_flow (at 0 old)) v

-- so much was sent along some paces of a round, or else taken back, and along the rest it can be
pub record IsMoving (g : Numbered) (cap : List ℕ) (ahead : Bool) (step : ℕ)
    (round rest old now : List ℕ) : Type 0 where
  pub within : IsWithin g cap now
  pub known : All (λ k. k < 2 * g.arcs) rest
  pub differ : Differ (arcs_of (paces_at g rest))
  pub roomy : All (λ k. step ≤ room (at 0 cap) (at 0 now) ahead (pace_at g k)) rest
  pub flow : pushed (signed ahead step) (paces_at g rest) (as_flow (at 0 now))
      ≡ pushed (signed ahead step) (paces_at g round) (as_flow (at 0 old))
