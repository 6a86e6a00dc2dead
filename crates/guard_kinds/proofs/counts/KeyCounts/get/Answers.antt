use Rattle.std.proofs.Common.{◌∙◌, ◌<◌, ◌-◌, arith, ap, sym}
use Rattle.guard_kinds.specs.declared.counts.KeyCount.{KeyCount}
use Rattle.guard_kinds.specs.Counting.{no_count}
use Rattle.guard_kinds.proofs.CountingLemmas.{read-at}
use Rattle.guard_kinds.proofs.Found.{none-there, inside, found-count}
use Rattle.guard_kinds.proofs.counts.KeyCounts.get.Goals as goal

pub returns-then-at-eq0 : goal.returns-then-at-eq0
returns-then-at-eq0 c =
    sym (none-there c.args.self.now c.args.key c.place-at.result c.place-at.ensures.is
    c.if-at-eq0.true)

pub returns : goal.returns
returns c =
    let self = c.args.self.now in
    let at = c.place-at.result in
    let f = c.if-at-eq0.false in
    let some : 0 < at = omega (arith, f) in
    let l = inside self c.args.key at c.place-at.ensures.is some c.place-at.ensures.within in
    let r = read-at (at - 1) c.index.result.now no_count self.entries.items l c.index.ensures in
    sym (found-count self c.args.key at c.place-at.ensures.is some c.place-at.ensures.within
    ∙ ap (λ (e : KeyCount). e.count) r)
