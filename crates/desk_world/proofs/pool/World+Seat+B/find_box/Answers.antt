use Rattle.std.proofs.Common.{true, sym, ap, ◌∙◌, arith}
use Rattle.std.specs.Str.{bytes_eq}
use Rattle.std.proofs.lemmas.Option.{slice_get_read}
use Rattle.report_text.specs.declared.faults.Fault.TheVariants as faults
use Rattle.plain_world.specs.Refusals.{kind_word, unless}
use Rattle.desk_seats.specs.contracts.seat.SeatObserver.TheImpl.{watch-value}
use Rattle.desk_world.specs.Plain.{word_of}
use Rattle.desk_world.proofs.Boxes.{first_any, first_found, none_next}
use Rattle.desk_world.proofs.pool.World+Seat+B.find_box.Goals as goal

pub returns-then-eq-clause-meets : goal.returns-then-eq-clause-meets
returns-then-eq-clause-meets g c =
    let w = (watch-value g.row.B g.B.Observer g.B.Observer-dict g.B.Destruct-dict).it in
    let boxes = c.args.self.now.pool.items in
    let box = c.index.result.now in
    let below = c.loop-place-test.true in
    let at = slice_get_read boxes c.args.self.now.pool.len c.loop-place.place box
    c.args.self.now.pool.ok.0 (omega (arith, below)) c.index.ensures in
    let is = (λ i. bytes_eq (sym c.kind_name.ensures i)
    (sym (c.kind_name-in-loop-place.ensures ∙ ap kind_word (c.word_of.ensures
    ∙ ap word_of c.kind.ensures)) i)) ∙ sym c.eq.ensures ∙ c.if-eq.true in
    ap (λ b. unless b (faults.NoGuard (kind_word c.args.kind)))
    (first_any (λ o. word_of (w o).seen.kind) c.args.kind boxes c.loop-place.place box at is)

pub returns-then-eq-clause-first : goal.returns-then-eq-clause-first
returns-then-eq-clause-first g c =
    let w = (watch-value g.row.B g.B.Observer g.B.Observer-dict g.B.Destruct-dict).it in
    let boxes = c.args.self.now.pool.items in
    let box = c.index.result.now in
    let below = c.loop-place-test.true in
    let at = slice_get_read boxes c.args.self.now.pool.len c.loop-place.place box
    c.args.self.now.pool.ok.0 (omega (arith, below)) c.index.ensures in
    let is = (λ i. bytes_eq (sym c.kind_name.ensures i)
    (sym (c.kind_name-in-loop-place.ensures ∙ ap kind_word (c.word_of.ensures
    ∙ ap word_of c.kind.ensures)) i)) ∙ sym c.eq.ensures ∙ c.if-eq.true in
    first_found (λ o. word_of (w o).seen.kind) c.args.kind boxes c.loop-place.place box at
    c.loop-place.invariant.0 is

pub loop-place-preserved : goal.loop-place-preserved
loop-place-preserved g c =
    let w = (watch-value g.row.B g.B.Observer g.B.Observer-dict g.B.Destruct-dict).it in
    let boxes = c.args.self.now.pool.items in
    let box = c.index.result.now in
    let below = c.loop-place-test.true in
    let at = slice_get_read boxes c.args.self.now.pool.len c.loop-place.place box
    c.args.self.now.pool.ok.0 (omega (arith, below)) c.index.ensures in
    let is = (λ i. bytes_eq (sym c.kind_name.ensures i)
    (sym (c.kind_name-in-loop-place.ensures ∙ ap kind_word (c.word_of.ensures
    ∙ ap word_of c.kind.ensures)) i)) ∙ sym c.eq.ensures ∙ c.if-eq.false in (
      none_next (λ o. word_of (w o).seen.kind) c.args.kind boxes c.loop-place.place box at
          c.loop-place.invariant.0 is,
      omega (arith, below),
    )
