use Rattle.std.proofs.Common.{refl}
use Rattle.alter_graph.proofs.Lent.{may_write_lent}
use Rattle.alter_graph.proofs.graph.Alterable.seat_mut.Goals as goal

pub returns : goal.returns
returns g c =
    rw (← c.self.view_is) (
      refl,
      record {
        writes_back = tt;
        value = c.seat_mut.ensures.value;
        writes = may_write_lent g.O.Observer.watch c.args.sort c.args.key.0
            (record { graph = c.self.inside.graph; chains = c.self.inside.chains })
            c.seat_mut.result c.seat_mut.ensures.seats c.seat_mut.ensures.value;
      },
    )
