use Rattle.std.proofs.Common.{◌≡◌, None, take}
use Rattle.std.specs.Prelude.{find}
use Rattle.desk_world.specs.Vetoes.{is_row_of}
use Rattle.desk_world.proofs.vetoes.World+Seat+B.guard_name.Given as goal

abbrev pub invariant-loop-place : goal.invariant-loop-place
invariant-loop-place g l =
    find (is_row_of l.sort l.key.0) (take l.place l.self.guards.rows) ≡ None
