use Rattle.std.proofs.Common.{◌≡◌, map}
use Rattle.desk_world.proofs.Halfway.{Halfway}
use Rattle.desk_world.proofs.Opened.{plain_row}
use Rattle.desk_world.proofs.opening.plain_rows.Given as goal

abbrev pub invariant-loop-name : goal.invariant-loop-name
invariant-loop-name l = record {
  can_next : (goal.iterator-loop-name).can_next l.name-iterator;
  finite : (goal.iterator-loop-name).is_finite l.name-iterator;
  put : Halfway l.fn.attributes l.name-iterator.rest.items
      (λ done. l.rows.rows ≡ map plain_row done);
}
