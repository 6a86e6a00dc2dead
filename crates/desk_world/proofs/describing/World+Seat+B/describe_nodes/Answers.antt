use Rattle.std.proofs.Common.{◌+◌, length, refl, sym, ap, ◌∙◌, subst, arith}
use Rattle.base_items.specs.declared.items.ItemSort.TheVariants.{Node}
use Rattle.desk_seats.specs.contracts.seat.SeatObserver.TheImpl.{watch-value}
use Rattle.desk_world.specs.Describing.{AreReady}
use Rattle.desk_world.specs.Loading.{all_described}
use Rattle.desk_world.specs.Plain.{plain_of}
use Rattle.desk_world.proofs.Halfway.{none_left}
use Rattle.desk_world.proofs.describing.World+Seat+B.describe_nodes.Goals as goal

pub loop-cells-init : goal.loop-cells-init
loop-cells-init g c =
    let w = (watch-value g.row.B g.B.Observer g.B.Observer-dict g.B.Destruct-dict).it in
    let old = plain_of w c.args.self.now in
    let rest = c.into_iter-cells-iterator.ensures.into_iter_gives.0
    ∙ c.into_vec-cells-items.ensures in
    let size = ap length rest in
    let few = c.requires.few in
    record {
      can_next = tt;
      finite = tt;
      in_step = c.requires.in_step;
      few = omega (arith, size, few);
      ready = subst (λ own. AreReady Node c.args.place c.args.columns.now old 0 own)
          (sym rest) c.requires.ready;
      told = ap (λ own. all_described Node c.args.place old 0 own) rest;
      pool = refl;
    }

pub describe-requires : goal.describe-requires
describe-requires g c =
    let w = (watch-value g.row.B g.B.Observer g.B.Observer-dict g.B.Destruct-dict).it in
    let now = plain_of w c.loop-cells.self in
    let id = c.loop-cells.id in
    let ready = subst (λ own. AreReady Node c.args.place c.args.columns.now now id own)
    c.in-Some.ensures.steps.0 c.loop-cells.invariant.ready in
    record { in_step = c.loop-cells.invariant.in_step; ready = ready.0 }

pub loop-cells-preserved : goal.loop-cells-preserved
loop-cells-preserved g c =
    let w = (watch-value g.row.B g.B.Observer g.B.Observer-dict g.B.Destruct-dict).it in
    let now = plain_of w c.loop-cells.self in
    let id = c.loop-cells.id in
    let place = c.args.place in
    let columns = c.args.columns.now in
    let left = c.next.new.self.rest.items in
    let was = c.loop-cells.invariant in
    let split = c.in-Some.ensures.steps.0 in
    let size = ap length split in
    let few = was.few in
    let ready = subst (λ own. AreReady Node place columns now id own) split was.ready in
    let told = c.in_ok-describe.ensures.told in
    record {
      can_next = tt;
      finite = tt;
      in_step = c.in_ok-describe.ensures.in_step;
      few = omega (arith, size, few);
      ready = subst (λ x. AreReady Node place columns x (id + 1) left) (sym told) ready.1;
      told = ap (λ x. all_described Node place x (id + 1) left) told
          ∙ ap (λ own. all_described Node place now id own) (sym split)
          ∙ was.told;
      pool = c.in_ok-describe.ensures.pool ∙ was.pool;
    }

pub returns : goal.returns
returns g c =
    let w = (watch-value g.row.B g.B.Observer g.B.Observer-dict g.B.Destruct-dict).it in
    let was = c.loop-cells.invariant in
    let rest = c.loop-cells.cells-iterator.rest in
    let size = rest.ok.0 in
    let gone = c.in-None.ensures.steps.0 in
    record {
      told = ap (λ own. all_described Node c.args.place (plain_of w c.loop-cells.self)
          c.loop-cells.id own) (sym (none_left rest.items (omega (arith, size, gone))))
          ∙ was.told;
      in_step = was.in_step;
      pool = was.pool;
    }
