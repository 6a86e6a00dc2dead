use Rattle.std.proofs.Common.{◌≡◌, None, take}
use Rattle.std.specs.Prelude.{find}
use Rattle.desk_world.specs.Plain.{tables_of}
use Rattle.desk_world.specs.Indexes.{is_index_kind}
use Rattle.desk_world.proofs.readers.World+Seat+B.index_of.Given as goal

abbrev pub invariant-loop-place : goal.invariant-loop-place
invariant-loop-place g l =
    find (λ e. is_index_kind l.map e.value.kind)
    (take l.place (tables_of l.self l.fn.sort).maps.rows)
    ≡ None
