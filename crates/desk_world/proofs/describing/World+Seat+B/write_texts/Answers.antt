use Rattle.std.proofs.Common.{◌+◌, refl, sym, ◌∙◌, subst, arith}
use Rattle.lgf_file.specs.Rows.{Cells}
use Rattle.plain_digraph.specs.Items.{IsLive}
use Rattle.desk_seats.specs.contracts.seat.SeatObserver.TheImpl.{watch-value}
use Rattle.desk_world.specs.Plain.{plain_of}
use Rattle.desk_world.proofs.Halfway.{Halfway, none_taken, one_taken, all_taken, none_left}
use Rattle.desk_world.proofs.RowTold.{HasFirst, none_written, row_below, may_write_next}
use Rattle.desk_world.proofs.MapsFound.{rows_named}
use Rattle.desk_world.proofs.RowTold.{next_written, row_named, names_differ}
use Rattle.desk_world.proofs.describing.World+Seat+B.write_texts.Goals as goal

pub loop-text-init : goal.loop-text-init
loop-text-init g c =
    let w = (watch-value g.row.B g.B.Observer g.B.Observer-dict g.B.Destruct-dict).it in
    let old = plain_of w c.args.self.now in
    let sort = c.args.sort in
    let columns = c.args.columns.now in
    let has = c.requires.columns in
    let id = c.args.id in
    let first : Cells → Type 0 = HasFirst old sort id columns has old 0 in
    let rest = c.into_iter-text-iterator.ensures.into_iter_gives.0 ∙ c.into_vec-text-items.ensures
    in
    record {
      can_next = tt;
      finite = tt;
      in_step = c.requires.in_step;
      written = subst (λ own. Halfway c.args.texts own first) (sym rest)
          (none_taken c.args.texts first (none_written old sort id columns has));
      graph = refl;
      pool = refl;
    }

pub bounds-columns-place : goal.bounds-columns-place
bounds-columns-place g c =
    let w = (watch-value g.row.B g.B.Observer g.B.Observer-dict g.B.Destruct-dict).it in
    let old = plain_of w c.args.self.now in
    let columns = c.args.columns.now in
    let has = c.requires.columns in
    let now = plain_of w c.loop-text.self in
    let place = c.loop-text.place in
    let id = c.args.id in
    let first : Cells → Type 0 = HasFirst old c.args.sort id columns has now place in
    row_below old c.args.sort id columns has c.args.texts c.in-Some.text
    c.next.new.self.rest.items now place
    (subst (λ own. Halfway c.args.texts own first) c.in-Some.ensures.steps.0
    c.loop-text.invariant.written)
    c.requires.wide

pub write_at-requires : goal.write_at-requires
write_at-requires g c =
    let w = (watch-value g.row.B g.B.Observer g.B.Observer-dict g.B.Destruct-dict).it in
    let old = plain_of w c.args.self.now in
    let sort = c.args.sort in
    let columns = c.args.columns.now in
    let has = c.requires.columns in
    let now = plain_of w c.loop-text.self in
    let place = c.loop-text.place in
    let id = c.args.id in
    let first : Cells → Type 0 = HasFirst old sort id columns has now place in
    let was = subst (λ own. Halfway c.args.texts own first) c.in-Some.ensures.steps.0
    c.loop-text.invariant.written in
    let below = row_below old sort id columns has c.args.texts c.in-Some.text
    c.next.new.self.rest.items now place was c.requires.wide in
    let names = rows_named w c.loop-text.self c.loop-text.invariant.in_step sort in
    record {
      in_step = c.loop-text.invariant.in_step;
      live = subst (λ d. IsLive d.graph sort id) (sym c.loop-text.invariant.graph)
          c.requires.live;
      of_type = may_write_next old sort id columns has place c.index-columns-place.result below
          c.index-columns-place.is now was.done was.holds;
      named = row_named old sort id columns has place c.index-columns-place.result below
          c.index-columns-place.is now was.done was.holds _ names;
      differ = names_differ old sort id columns has place c.index-columns-place.result below
          c.index-columns-place.is now was.done was.holds _ names;
    }

pub loop-text-preserved : goal.loop-text-preserved
loop-text-preserved g c =
    let w = (watch-value g.row.B g.B.Observer g.B.Observer-dict g.B.Destruct-dict).it in
    let old = plain_of w c.args.self.now in
    let sort = c.args.sort in
    let columns = c.args.columns.now in
    let has = c.requires.columns in
    let now = plain_of w c.loop-text.self in
    let later = plain_of w c.write_at.new.self in
    let place = c.loop-text.place in
    let id = c.args.id in
    let left = c.next.new.self.rest.items in
    let first : Cells → Type 0 = HasFirst old sort id columns has now place in
    let was = subst (λ own. Halfway c.args.texts own first) c.in-Some.ensures.steps.0
    c.loop-text.invariant.written in
    let below = row_below old sort id columns has c.args.texts c.in-Some.text left now place was
    c.requires.wide in
    record {
      can_next = tt;
      finite = tt;
      in_step = c.write_at.ensures.in_step;
      written = one_taken c.args.texts c.in-Some.text left first
          (HasFirst old sort id columns has later (place + 1)) was
          (λ done whole holds. next_written old sort id columns has place
          c.index-columns-place.result below c.index-columns-place.is now done holds later
          c.in-Some.text c.write_at.ensures.written);
      graph = c.write_at.ensures.graph ∙ c.loop-text.invariant.graph;
      pool = c.write_at.ensures.pool ∙ c.loop-text.invariant.pool;
    }

pub returns : goal.returns
returns g c =
    let w = (watch-value g.row.B g.B.Observer g.B.Observer-dict g.B.Destruct-dict).it in
    let old = plain_of w c.args.self.now in
    let has = c.requires.columns in
    let now = plain_of w c.loop-text.self in
    let rest = c.loop-text.text-iterator.rest in
    let size = rest.ok.0 in
    let gone = c.in-None.ensures.steps.0 in
    let first : Cells → Type 0 =
    HasFirst old c.args.sort c.args.id c.args.columns.now has now c.loop-text.place in
    let was = subst (λ own. Halfway c.args.texts own first)
    (none_left rest.items (omega (arith, size, gone))) c.loop-text.invariant.written in
    record {
      written = (all_taken c.args.texts first was).1;
      in_step = c.loop-text.invariant.in_step;
      graph = c.loop-text.invariant.graph;
      pool = c.loop-text.invariant.pool;
    }
