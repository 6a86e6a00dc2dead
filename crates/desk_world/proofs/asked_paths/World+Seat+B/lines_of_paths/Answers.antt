use Rattle.std.proofs.Common.{◌∙◌, None, arith}
use Rattle.plain_certificates.specs.Tables.{at}
use Rattle.plain_world.specs.Queries.{path_line}
use Rattle.desk_seats.specs.contracts.seat.SeatObserver.TheImpl.{watch-value}
use Rattle.desk_world.specs.Plain.{plain_of}
use Rattle.desk_world.proofs.PathsTold.{line_more}
use Rattle.desk_world.proofs.asked_paths.World+Seat+B.lines_of_paths.Goals as goal

pub loop-node-preserved : goal.loop-node-preserved
loop-node-preserved g c =
    let w = (watch-value g.row.B g.B.Observer g.B.Observer-dict g.B.Destruct-dict).it in
    let world = plain_of w c.args.self.now in
    let view = c.args.asked.now.view.now in
    let node = c.loop-node.node in
    record {
      inside = omega (arith, c.loop-node-test.true);
      lines = line_more world view (at None c.args.paths.now.dist) (at None c.args.paths.now.via)
          node c.in_ok-line_of_path.field-0 c.loop-node.lines.items c.push.new.self.items
          c.loop-node.invariant.lines c.in_ok-push.ensures.items
          (c.in_ok-line_of_path.ensures
          ∙ (λ i. path_line world view (λ _. at None (c.as_slice-dist.ensures i) node)
          (λ _. at None (c.as_slice-via.ensures i) node) node));
    }
