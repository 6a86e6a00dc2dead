use Rattle.std.proofs.Common.{sym, ◌∙◌}
use Rattle.std.proofs.lemmas.Slice.Eq.{bytes_eq-Decides}
use Rattle.graph_maker.proofs.Asked.{not_false}
use Rattle.drill_runs.proofs.Asked.{asked, three}
use Rattle.drill_runs.proofs.words.drill_words.Goals as goal

pub returns-clause-some : goal.returns-clause-some
returns-clause-some c =
    let first = c.first-item.result in
    let one = c.seed-item.result in
    let two = c.lines-item.result in
    let words = c.args.words.now in
    let are = three words first one two c.in-len3.len_at_least c.in-len3.len_below
    c.first-item.is c.seed-item.is c.lines-item.is in
    let drill = sym c.as_slice.ensures.value
    ∙ (bytes_eq-Decides _ _).0 (not_false _ (sym c.ne.ensures ∙ c.if-ne.false))
    ∙ c.as_slice-2.ensures in
    asked words first one two are drill c.in_ok-read_bounded.field-0
    c.in_ok-read_bounded-2.field-0 c.as_slice-3.result.now c.as_slice-4.result.now
    c.as_slice-3.ensures.value c.as_slice-4.ensures.value c.in_ok-read_bounded.ensures.some
    c.in_ok-read_bounded-2.ensures.some
