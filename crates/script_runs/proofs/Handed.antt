-- What is handed back at the end of a run.
use Rattle.std.proofs.Common.{◌≡◌, ℕ, List, Option, Some, None, refl, sym}
use Rattle.std.specs.Prelude.{IsSome, IfSome}
use Rattle.std.proofs.lemmas.Bool.{true≢false}
use Rattle.plain_world.specs.World.{World}
use Rattle.plain_machine.specs.declared.statuses.Status.{Status}
use Rattle.plain_machine.specs.declared.statuses.Status.TheVariants as statuses
use Rattle.plain_machine.specs.Outcome.{Handed, Nothing, HandsBackAtEnd, EndsUsage}
use Rattle.script_runs.specs.Handing.{EndsWhole, handed_at, handed_by, kept_at}
use Rattle.script_runs.specs.Opening.{EndsUnopened}

-- Nothing may be handed back at any end.
pub nothing_back : (status : Status) → HandsBackAtEnd status Nothing
nothing_back statuses.Done = tt
nothing_back statuses.SomeRefused = tt
nothing_back _ = refl

-- A world only where all lines were answered.
whole_back : (status : Status) (handed : Handed) → EndsWhole status → HandsBackAtEnd status handed
whole_back statuses.Done handed whole = tt
whole_back statuses.SomeRefused handed whole = tt
whole_back _ handed whole = absurd whole

pub hands_back : {W : Type 0} (plain : W → World) (status : Status) (found : Option W)
    → (IsSome found → EndsWhole status) → HandsBackAtEnd status (handed_by plain found)
hands_back plain status None whole = nothing_back status
hands_back plain status (Some world) whole =
    whole_back status (handed_by plain (Some world)) (whole refl)

-- What is kept of a world is what is handed back of its plain one.
pub kept_handed : {W : Type 0} (plain : W → World) (status : Status) (world : W)
    → handed_by plain (kept_at status world) ≡ handed_at status (plain world)
kept_handed plain statuses.Done world = refl
kept_handed plain statuses.SomeRefused world = refl
kept_handed plain _ world = refl

-- It is there exactly where all lines were answered.
pub kept_whole : {W : Type 0} (status : Status) (world : W) → IsSome (kept_at status world)
    → EndsWhole status
kept_whole statuses.Done world there = tt
kept_whole statuses.SomeRefused world there = tt
kept_whole _ world there = absurd (true≢false (sym there))

pub whole_kept : {W : Type 0} (status : Status) (world : W) → EndsWhole status
    → IsSome (kept_at status world)
whole_kept statuses.Done world whole = refl
whole_kept statuses.SomeRefused world whole = refl
whole_kept _ world whole = absurd whole

-- What holds of the world holds of it.
pub kept_holds : {W : Type 0} (P : W → Type 0) (status : Status) (world : W) → P world
    → IfSome (kept_at status world) P
kept_holds P statuses.Done world holds = holds
kept_holds P statuses.SomeRefused world holds = holds
kept_holds P _ world holds = tt

-- A run that ends before its first line doesn't answer all lines.
pub unopened_not_whole : (status : Status) → EndsUnopened status → EndsWhole status → ⊥
unopened_not_whole statuses.Done unopened whole = unopened
unopened_not_whole statuses.SomeRefused unopened whole = unopened
unopened_not_whole _ unopened whole = whole

-- Nor does one whose words have no shape.
pub usage_not_whole : (out : List ℕ) (before now : ℕ) (status : Status)
    → EndsUsage out before now status → EndsWhole status → ⊥
usage_not_whole out before now statuses.Done ends whole = ends
usage_not_whole out before now statuses.SomeRefused ends whole = ends
usage_not_whole out before now _ ends whole = whole
