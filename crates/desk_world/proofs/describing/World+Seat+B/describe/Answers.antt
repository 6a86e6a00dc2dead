use Rattle.std.proofs.Common.{length, ap, sym, ◌∙◌, subst, None, Some}
use Rattle.std.specs.FinMap as fin
use Rattle.index_maps.specs.RefViews.{HasLabel, IsFreeLabel}
use Rattle.plain_digraph.specs.Items.{IsLive}
use Rattle.plain_world.specs.World.{attached}
use Rattle.plain_world.specs.Documents.{item_texts, with_texts}
use Rattle.plain_world.specs.Effects.{with_maps}
use Rattle.plain_world.specs.Following.{labelled}
use Rattle.desk_seats.specs.contracts.seat.SeatObserver.TheImpl.{watch-value}
use Rattle.desk_world.specs.Plain.{plain_of}
use Rattle.desk_world.proofs.Entered.{unlabelled_there, free_there}
use Rattle.desk_world.proofs.RowTold.{labels_stay}
use Rattle.desk_world.proofs.describing.World+Seat+B.describe.Goals as goal

pub write_texts-requires : goal.write_texts-requires
write_texts-requires g c = record {
  in_step = c.requires.in_step;
  live = c.requires.ready.live;
  columns = c.requires.ready.columns_are;
  wide = ap length c.in_ok-label.ensures.texts ∙ c.requires.ready.wide;
}

pub reserve_label-requires : goal.reserve_label-requires
reserve_label-requires g c =
    let w = (watch-value g.row.B g.B.Observer g.B.Observer-dict g.B.Destruct-dict).it in
    let old = plain_of w c.args.self.now in
    let sort = c.args.sort in
    let self = c.write_texts.new.self in
    let maps = with_texts (attached old sort).maps c.args.id c.in_ok-label.field-0.texts in
    let labels = labels_stay old (plain_of w self) sort maps c.write_texts.ensures.written in
    record {
      in_step = c.write_texts.ensures.in_step;
      free = free_there w self sort c.write_texts.ensures.in_step c.in_ok-label.field-0.label
          (λ other at. c.requires.ready.unused other (ap (λ m. fin.get m other) (sym labels) ∙ at
          ∙ ap Some c.in_ok-label.ensures.label));
    }

pub put_label-requires : goal.put_label-requires
put_label-requires g c =
    let w = (watch-value g.row.B g.B.Observer g.B.Observer-dict g.B.Destruct-dict).it in
    let old = plain_of w c.args.self.now in
    let sort = c.args.sort in
    let self = c.write_texts.new.self in
    let maps = with_texts (attached old sort).maps c.args.id c.in_ok-label.field-0.texts in
    let labels = labels_stay old (plain_of w self) sort maps c.write_texts.ensures.written in
    let stay = sym c.in_ok-reserve_label.ensures.labels in
    let live : IsLive self.graph.graph.graph sort c.args.id =
    subst (λ d. IsLive d.graph sort c.args.id) (sym c.write_texts.ensures.graph)
    c.requires.ready.live in
    record {
      in_step = c.in_ok-reserve_label.ensures.in_step;
      live = subst (HasLabel c.args.id None) stay
          (unlabelled_there w self sort c.write_texts.ensures.in_step c.args.id live
          (ap (λ m. fin.get m c.args.id) labels ∙ c.requires.ready.unlabelled));
      free = subst (IsFreeLabel c.in_ok-label.field-0.label) stay
          (free_there w self sort c.write_texts.ensures.in_step c.in_ok-label.field-0.label
          (λ other at. c.requires.ready.unused other (ap (λ m. fin.get m other) (sym labels) ∙ at
          ∙ ap Some c.in_ok-label.ensures.label)));
      room = c.in_ok-reserve_label.ensures.room;
    }

pub returns : goal.returns
returns g c =
    let w = (watch-value g.row.B g.B.Observer g.B.Observer-dict g.B.Destruct-dict).it in
    let old = plain_of w c.args.self.now in
    let sort = c.args.sort in
    let id = c.args.id in
    let maps = (attached old sort).maps in
    record {
      told = c.put_label.ensures.labelled
          ∙ ap (λ x. labelled x sort id c.in_ok-label.field-0.label)
          (c.in_ok-reserve_label.ensures.same ∙ c.write_texts.ensures.written
          ∙ ap (λ texts. with_maps old sort (with_texts maps id texts)) c.in_ok-label.ensures.texts)
          ∙ ap (labelled (with_maps old sort
          (with_texts maps id (item_texts c.args.place c.args.cells))) sort id)
          c.in_ok-label.ensures.label;
      in_step = c.put_label.ensures.in_step;
      pool = c.put_label.ensures.pool ∙ c.in_ok-reserve_label.ensures.pool
          ∙ c.write_texts.ensures.pool;
    }
