use Rattle.std.proofs.Common.{◌≡◌, map}
use Rattle.std.specs.List.{range_with_len}
use Rattle.plain_digraph.specs.Lists.{AllOf}
use Rattle.desk_world.specs.Plain.{kinds_of}
use Rattle.lemon_desk.specs.Pool.{IsUntoldGuard, kind_at}
use Rattle.lemon_desk.proofs.pool.serve_with_boxes.OwnLists.{own-1}
use Rattle.lemon_desk.proofs.pool.serve_with_boxes.Given as goal

abbrev pub invariant-loop-place : goal.invariant-loop-place
invariant-loop-place g l = record {
  untold : AllOf (λ it. IsUntoldGuard ((own-1.entry it.vtable).1.watch it.value).seen)
      l.pool.items;
  kinds : kinds_of (λ it. (own-1.entry it.vtable).1.watch it.value) l.pool.items
      ≡ map kind_at (range_with_len 0 l.place);
}
