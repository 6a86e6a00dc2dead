-- The exit status of each way to end.
use Rattle.std.specs.Prelude.{ℕ}
use Rattle.plain_machine.specs.declared.statuses.Status.{Status}
use Rattle.plain_machine.specs.declared.statuses.Status.TheVariants as statuses

-- The number that the program hands to whoever started it.
abbrev pub number_of : Status → ℕ
number_of statuses.Done = 0
number_of statuses.SomeRefused = 1
number_of statuses.Usage = 2
number_of statuses.BadGraph = 3
number_of statuses.ReadFault = 4
number_of statuses.WriteFault = 5
number_of statuses.Memory = 6
number_of statuses.TooLong = 7

-- A call of the outside failed, and the run ended there.
abbrev pub EndsByFault : Status → Type 0
EndsByFault statuses.ReadFault = Unit {0}
EndsByFault statuses.WriteFault = Unit {0}
EndsByFault _ = ⊥
