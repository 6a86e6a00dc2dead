use Rattle.std.proofs.Common.{◌/◌, ◌%◌, ◌^◌, arith}
use Rattle.std.proofs.Math.Nat.{div-le_self}
use Rattle.index_maps.specs.Bits.{word_at}
use Rattle.index_maps.proofs.BitLemmas.{none_rest, first_rest, shifted}
use Rattle.index_maps.proofs.words.in_word.Goals as goal

pub returns-then-rest-eq0 : goal.returns-then-rest-eq0
returns-then-rest-eq0 c =
    let ws = c.args.words.now in
    let from = c.args.from in
    let w = from / 64 in
    let s = from % 64 in
    none_rest ws w s (word_at ws w / 2 ^ s) from (omega arith) (omega arith)
    (shifted s (word_at ws w))
    c.if-rest-eq0.true

pub returns : goal.returns
returns c =
    let ws = c.args.words.now in
    let from = c.args.from in
    let w = from / 64 in
    let s = from % 64 in
    first_rest ws w s (word_at ws w / 2 ^ s) from (omega arith) (omega arith)
    (shifted s (word_at ws w))
    (c.type_inv.words w).fits (div-le_self (word_at ws w) (2 ^ s))
    (omega (arith, c.if-rest-eq0.false))
