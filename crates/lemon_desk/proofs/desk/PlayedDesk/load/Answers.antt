use Rattle.std.proofs.Common.{◌≡◌, refl, ap, ◌∙◌}
use Rattle.plain_world.specs.Documents.{load}
use Rattle.lemon_desk.specs.Found.{in_seat}
use Rattle.lemon_desk.proofs.Seated.{all_seated, each_seated, untold_in_seat}
use Rattle.lemon_desk.proofs.desk.PlayedDesk.load.Goals as goal

pub load-requires-clause-boxes : goal.load-requires-clause-boxes
load-requires-clause-boxes g c =
    all_seated in_seat _ _ c.args.pool.items c.in_ok-seats.seats.items c.in_ok-seats.ensures
    c.requires.untold (λ b. untold_in_seat (g.B.Observer.watch b))

pub returns-clause-loaded : goal.returns-clause-loaded
returns-clause-loaded g c =
    c.in_ok-world.ensures.loaded
    ∙ ap (load c.args.doc) (each_seated in_seat _ _ (λ b. refl) c.args.pool.items
    c.in_ok-seats.seats.items c.in_ok-seats.ensures)
