-- Values of items by number, and the first that isn't taken.
use Rattle.std.specs.Prelude.{◌≡◌, ℤ, pos, List, length, Some}
use Rattle.plain_certificates.specs.Tables.{at}
use Rattle.view_numbers.specs.Breaches.{IsFirst, is_outside}
use Rattle.tower_numbers.specs.declared.fault.ValueFault.{ValueFault}
use Rattle.tower_numbers.specs.declared.fault.ValueFault.TheVariants as faults

-- a fault that names an item names the first whose value is out of range, with the value
abbrev pub IsFirstOutside : List ℤ → ValueFault → Type 0
IsFirstOutside values (faults.OutOfRange k value) =
    IsFirst (length values) (is_outside values) (Some k) × (value ≡ at (pos 0) values k)
IsFirstOutside values faults.Memory = Unit {0}
