use Rattle.std.proofs.Common.{sym, ◌∙◌}
use Rattle.std.proofs.lemmas.Slice.Eq.{bytes_eq-Decides}
use Rattle.graph_maker.proofs.Asked.{asked, four, no_seed, no_nodes, no_arcs, not_false}
use Rattle.graph_maker.proofs.words.make_words.Goals as goal

pub returns-in_err-read_bounded-clause-none : goal.returns-in_err-read_bounded-clause-none
returns-in_err-read_bounded-clause-none c =
    let first = c.first-item.result in
    let one = c.seed-item.result in
    let two = c.nodes-item.result in
    let three = c.arcs-item.result in
    let words = c.args.words.now in
    let are = four words first one two three c.in-len4.len_at_least c.in-len4.len_below
    c.first-item.is c.seed-item.is c.nodes-item.is c.arcs-item.is in
    rw c.from_residual.ensures
    (no_seed words first one two three are c.as_slice-3.result.now c.as_slice-3.ensures.value
    c.in_err-read_bounded.ensures.none)

pub returns-in_err-read_bounded-2-clause-none : goal.returns-in_err-read_bounded-2-clause-none
returns-in_err-read_bounded-2-clause-none c =
    let first = c.first-item.result in
    let one = c.seed-item.result in
    let two = c.nodes-item.result in
    let three = c.arcs-item.result in
    let words = c.args.words.now in
    let are = four words first one two three c.in-len4.len_at_least c.in-len4.len_below
    c.first-item.is c.seed-item.is c.nodes-item.is c.arcs-item.is in
    rw c.from_residual-in_err-read_bounded-2.ensures
    (no_nodes words first one two three are c.as_slice-4.result.now c.as_slice-4.ensures.value
    c.in_err-read_bounded-2.ensures.none)

pub returns-in_err-read_bounded-3-clause-none : goal.returns-in_err-read_bounded-3-clause-none
returns-in_err-read_bounded-3-clause-none c =
    let first = c.first-item.result in
    let one = c.seed-item.result in
    let two = c.nodes-item.result in
    let three = c.arcs-item.result in
    let words = c.args.words.now in
    let are = four words first one two three c.in-len4.len_at_least c.in-len4.len_below
    c.first-item.is c.seed-item.is c.nodes-item.is c.arcs-item.is in
    rw c.from_residual-in_err-read_bounded-3.ensures
    (no_arcs words first one two three are c.as_slice-5.result.now c.as_slice-5.ensures.value
    c.in_err-read_bounded-3.ensures.none)

pub returns-clause-some : goal.returns-clause-some
returns-clause-some c =
    let first = c.first-item.result in
    let one = c.seed-item.result in
    let two = c.nodes-item.result in
    let three = c.arcs-item.result in
    let words = c.args.words.now in
    let are = four words first one two three c.in-len4.len_at_least c.in-len4.len_below
    c.first-item.is c.seed-item.is c.nodes-item.is c.arcs-item.is in
    let make = sym c.as_slice.ensures.value
    ∙ (bytes_eq-Decides _ _).0 (not_false _ (sym c.ne.ensures ∙ c.if-ne.false))
    ∙ c.as_slice-2.ensures in
    asked words first one two three are make c.in_ok-read_bounded.field-0
    c.in_ok-read_bounded-2.field-0 c.in_ok-read_bounded-3.field-0 c.as_slice-3.result.now
    c.as_slice-4.result.now c.as_slice-5.result.now c.as_slice-3.ensures.value
    c.as_slice-4.ensures.value c.as_slice-5.ensures.value c.in_ok-read_bounded.ensures.some
    c.in_ok-read_bounded-2.ensures.some c.in_ok-read_bounded-3.ensures.some
