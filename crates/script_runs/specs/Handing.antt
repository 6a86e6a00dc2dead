-- The world that a run hands back.
use Rattle.std.specs.Prelude.{Option, None, Some}
use Rattle.plain_world.specs.World.{World}
use Rattle.plain_machine.specs.declared.statuses.Status.{Status}
use Rattle.plain_machine.specs.declared.statuses.Status.TheVariants as statuses
use Rattle.plain_machine.specs.Outcome.{Handed}
use Rattle.plain_machine.specs.Outcome as outcome

-- All lines of a script were answered.
abbrev pub EndsWhole : Status → Type 0
EndsWhole statuses.Done = Unit {0}
EndsWhole statuses.SomeRefused = Unit {0}
EndsWhole _ = ⊥

-- What is handed back of a world with this status.
abbrev pub handed_at : Status → World → Handed
handed_at statuses.Done world = outcome.Desk world
handed_at statuses.SomeRefused world = outcome.Desk world
handed_at _ world = outcome.Nothing

-- The world, where all lines were answered.
abbrev pub kept_at : {W : Type 0} → Status → W → Option W
kept_at statuses.Done world = Some world
kept_at statuses.SomeRefused world = Some world
kept_at _ world = None

-- The plain world that is handed back, where one is.
abbrev pub handed_by : {W : Type 0} → (W → World) → Option W → Handed
handed_by plain None = outcome.Nothing
handed_by plain (Some world) = outcome.Desk (plain world)
