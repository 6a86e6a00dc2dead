use Rattle.std.proofs.Common.{◌≡◌, None, take}
use Rattle.std.specs.Prelude.{find}
use Rattle.std.specs.Str.{bytes_eq}
use Rattle.desk_world.proofs.view_demands.World+Seat+B.standing_on.Given as goal

abbrev pub invariant-loop-place : goal.invariant-loop-place
invariant-loop-place g l =
    find (λ e. bytes_eq e.value.below l.view) (take l.place l.self.views.rows) ≡ None
