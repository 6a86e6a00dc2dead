use Rattle.std.proofs.Common.{◌+◌, length, refl, sym, ap, ◌∙◌, subst, arith}
use Rattle.base_items.specs.declared.items.ItemSort.TheVariants.{Arc}
use Rattle.desk_seats.specs.contracts.seat.SeatObserver.TheImpl.{watch-value}
use Rattle.desk_world.specs.Describing.{AreReady}
use Rattle.desk_world.specs.Loading.{all_described, values_of}
use Rattle.desk_world.specs.Plain.{plain_of}
use Rattle.desk_world.proofs.Halfway.{none_left}
use Rattle.desk_world.proofs.describing.World+Seat+B.describe_arcs.Goals as goal

pub loop-arc-init : goal.loop-arc-init
loop-arc-init g c =
    let w = (watch-value g.row.B g.B.Observer g.B.Observer-dict g.B.Destruct-dict).it in
    let old = plain_of w c.args.self.now in
    let rest = c.into_iter-arc-iterator.ensures.into_iter_gives.0 ∙ c.into_vec-arc-items.ensures in
    let size = ap length rest in
    let few = c.requires.few in
    record {
      can_next = tt;
      finite = tt;
      in_step = c.requires.in_step;
      few = omega (arith, size, few);
      ready = subst (λ own. AreReady Arc c.args.place c.args.columns.now old 0 (values_of own))
          (sym rest) c.requires.ready;
      told = ap (λ own. all_described Arc c.args.place old 0 (values_of own)) rest;
      pool = refl;
    }

pub describe-requires : goal.describe-requires
describe-requires g c =
    let w = (watch-value g.row.B g.B.Observer g.B.Observer-dict g.B.Destruct-dict).it in
    let now = plain_of w c.loop-arc.self in
    let id = c.loop-arc.id in
    let ready = subst (λ own. AreReady Arc c.args.place c.args.columns.now now id (values_of own))
    c.in-Some.ensures.steps.0 c.loop-arc.invariant.ready in
    record { in_step = c.loop-arc.invariant.in_step; ready = ready.0 }

pub loop-arc-preserved : goal.loop-arc-preserved
loop-arc-preserved g c =
    let w = (watch-value g.row.B g.B.Observer g.B.Observer-dict g.B.Destruct-dict).it in
    let now = plain_of w c.loop-arc.self in
    let id = c.loop-arc.id in
    let place = c.args.place in
    let columns = c.args.columns.now in
    let left = c.next.new.self.rest.items in
    let was = c.loop-arc.invariant in
    let split = c.in-Some.ensures.steps.0 in
    let size = ap length split in
    let few = was.few in
    let ready = subst (λ own. AreReady Arc place columns now id (values_of own)) split was.ready in
    let told = c.in_ok-describe.ensures.told in
    record {
      can_next = tt;
      finite = tt;
      in_step = c.in_ok-describe.ensures.in_step;
      few = omega (arith, size, few);
      ready = subst (λ x. AreReady Arc place columns x (id + 1) (values_of left)) (sym told)
          ready.1;
      told = ap (λ x. all_described Arc place x (id + 1) (values_of left)) told
          ∙ ap (λ own. all_described Arc place now id (values_of own)) (sym split)
          ∙ was.told;
      pool = c.in_ok-describe.ensures.pool ∙ was.pool;
    }

pub returns : goal.returns
returns g c =
    let w = (watch-value g.row.B g.B.Observer g.B.Observer-dict g.B.Destruct-dict).it in
    let was = c.loop-arc.invariant in
    let rest = c.loop-arc.arc-iterator.rest in
    let size = rest.ok.0 in
    let gone = c.in-None.ensures.steps.0 in
    record {
      told = ap (λ own. all_described Arc c.args.place (plain_of w c.loop-arc.self)
          c.loop-arc.id (values_of own)) (sym (none_left rest.items (omega (arith, size, gone))))
          ∙ was.told;
      in_step = was.in_step;
      pool = was.pool;
    }
