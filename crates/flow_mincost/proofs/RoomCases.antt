-- Rooms of paces.
use Rattle.std.proofs.Common.{◌≡◌, ℕ, ◌-◌, Bool, true, false, sym, ◌∙◌}
use Rattle.plain_certificates.specs.Walks.{Pace}
use Rattle.flow_mincost.specs.Rooms.{raises, room}

-- where the flow is raised, the room is up to the capacity
pub raised_room : (cap sent : ℕ → ℕ) (ahead : Bool) (pace : Pace) (arc : ℕ) (b : Bool)
    → b ≡ raises ahead pace → b ≡ true → arc ≡ pace.arc
    → cap arc - sent arc ≡ room cap sent ahead pace
raised_room cap sent ahead pace arc b is on e = rw (e, sym is ∙ on)

-- where it isn't, the room is down to 0
pub lowered_room : (cap sent : ℕ → ℕ) (ahead : Bool) (pace : Pace) (arc : ℕ) (b : Bool)
    → b ≡ raises ahead pace → b ≡ false → arc ≡ pace.arc
    → sent arc ≡ room cap sent ahead pace
lowered_room cap sent ahead pace arc b is off e = rw (e, sym is ∙ off)
