use Rattle.std.proofs.Common.{◌≡◌, ap}
use Rattle.observe_core.specs.Seen.{Seen}
use Rattle.alter_graph.specs.State.{state_of}
use Rattle.desk_seats.specs.Forms.{labels_form, ties_form}
use Rattle.desk_seats.specs.declared.seat.Seat.TheVariants.{Refs, Ties}
use Rattle.desk_seats.specs.contracts.seat.SeatObserver.TheImpl.{watch-value}
use Rattle.desk_world.specs.Founding.{new_labels, new_ties}
use Rattle.desk_world.proofs.Founded.{labels_untold, ties_untold}
use Rattle.desk_world.proofs.opening.attach_tables.Goals as goal

pub attach-requires : goal.attach-requires
attach-requires g c =
    let w = (watch-value g.row.B g.B.Observer g.B.Observer-dict g.B.Destruct-dict).it in
    let came = (w (Refs c.new.result)).seen in
    let is : came ≡ new_labels = ap (λ (s : Seen). record s { form = labels_form }) c.new.ensures in
    let fine = labels_untold came is in
    record { in_step = c.requires.in_step; empty = fine.0; counts = fine.1 }

pub attach-requires-2 : goal.attach-requires-2
attach-requires-2 g c =
    let w = (watch-value g.row.B g.B.Observer g.B.Observer-dict g.B.Destruct-dict).it in
    let came = (w (Ties c.new-2.result)).seen in
    let is : came ≡ new_ties = ap (λ (s : Seen). record s { form = ties_form }) c.new-2.ensures in
    let fine = ties_untold came is in
    record { in_step = c.attach.ensures.in_step; empty = fine.0; counts = fine.1 }

pub returns : goal.returns
returns g c =
    let w = (watch-value g.row.B g.B.Observer g.B.Observer-dict g.B.Destruct-dict).it in
    record {
      founds = record {
        mid = state_of w c.attach.new.graph;
        labels = w (Refs c.new.result);
        ties = w (Ties c.new-2.result);
        labels_are = ap (λ (s : Seen). record s { form = labels_form }) c.new.ensures;
        ties_are = ap (λ (s : Seen). record s { form = ties_form }) c.new-2.ensures;
        first = c.in_ok-labels.ensures.attaches;
        second = c.in_ok-ties.ensures.attaches;
        no_maps = c.new-3.ensures;
      };
      in_step = c.attach-2.ensures.in_step;
    }
