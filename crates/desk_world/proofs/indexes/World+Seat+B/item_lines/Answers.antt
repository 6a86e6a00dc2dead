use Rattle.std.proofs.Common.{◌∙◌, arith}
use Rattle.plain_digraph.specs.Items.{IsLive}
use Rattle.plain_world.specs.Replies.{item_line}
use Rattle.desk_seats.specs.Contents.{trues_in}
use Rattle.desk_seats.specs.contracts.seat.SeatObserver.TheImpl.{watch-value}
use Rattle.desk_world.specs.Plain.{plain_of}
use Rattle.desk_world.proofs.ByItem.{trues_rise}
use Rattle.desk_world.proofs.TrueItems.{list_start, list_on, list_end, list_so, fewer_left}
use Rattle.desk_world.proofs.indexes.World+Seat+B.item_lines.Goals as goal

pub items-init : goal.items-init
items-init g c =
    let w = (watch-value g.row.B g.B.Observer g.B.Observer-dict g.B.Destruct-dict).it in
    let world = plain_of w c.args.self.now in
    let es = trues_in (w c.args.seat.now).seen in
    list_start (item_line world c.args.sort) es c.next_true-next.result _ c.next_true-next.ensures
    c.new-lines.ensures.items

pub label_in-requires-clause-live : goal.label_in-requires-clause-live
label_in-requires-clause-live g c =
    let w = (watch-value g.row.B g.B.Observer g.B.Observer-dict g.B.Destruct-dict).it in
    let world = plain_of w c.args.self.now in
    let es = trues_in (w c.args.seat.now).seen in
    list_so (item_line world c.args.sort) es (IsLive world.graph c.args.sort) c.in-Some.id
    _ c.requires.live (rw c.in-Some.is at c.items.invariant)

pub items-preserved : goal.items-preserved
items-preserved g c =
    let w = (watch-value g.row.B g.B.Observer g.B.Observer-dict g.B.Destruct-dict).it in
    let world = plain_of w c.args.self.now in
    let seat = w c.args.seat.now in
    let es = trues_in seat.seen in
    let was = rw c.in-Some.is at c.items.invariant in
    let named = c.in_ok-name.ensures ∙ c.as_bytes.ensures ∙ c.label_in.ensures in
    rw c.in_ok-push.ensures.items
    (list_on (item_line world c.args.sort) es c.in-Some.id _ _ _
    (trues_rise seat.seen.held seat.sound.held) was
    (λ i. record { id = c.in-Some.id; name = named i }) c.next_true-next-in-Some.ensures)

pub items-smaller : goal.items-smaller
items-smaller g c =
    let w = (watch-value g.row.B g.B.Observer g.B.Observer-dict g.B.Destruct-dict).it in
    let world = plain_of w c.args.self.now in
    let es = trues_in (w c.args.seat.now).seen in
    rw c.in-Some.is (fewer_left es c.in-Some.id _ (omega arith) c.next_true-next-in-Some.ensures)

pub returns : goal.returns
returns g c =
    let w = (watch-value g.row.B g.B.Observer g.B.Observer-dict g.B.Destruct-dict).it in
    let world = plain_of w c.args.self.now in
    let es = trues_in (w c.args.seat.now).seen in
    let was = rw c.in_default.is at c.items.invariant in
    c.from_vec.ensures ∙ list_end (item_line world c.args.sort) es _ was
