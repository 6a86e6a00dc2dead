use Rattle.std.proofs.Common.{◌≡◌, None, take}
use Rattle.std.specs.Prelude.{find}
use Rattle.plain_world.specs.Views.{reads}
use Rattle.desk_world.proofs.readers.World+Seat+B.reading_view.Given as goal

abbrev pub invariant-loop-place : goal.invariant-loop-place
invariant-loop-place g l =
    find (λ e. reads l.sort l.map e.value.layer) (take l.place l.self.views.rows) ≡ None
