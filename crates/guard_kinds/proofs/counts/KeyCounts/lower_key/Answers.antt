use Rattle.std.proofs.Common.{◌∙◌, ◌-◌, vec_len, arith, ap, sym}
use Rattle.guard_kinds.specs.declared.counts.KeyCount.{KeyCount}
use Rattle.guard_kinds.specs.Counting.{no_count}
use Rattle.guard_kinds.proofs.CountingLemmas.{read-at}
use Rattle.guard_kinds.proofs.Found.{none-there, inside, found-key, found-count, recounted-own}
use Rattle.guard_kinds.proofs.Found.{recounted-linked, recounted-headed, recounted-total}
use Rattle.guard_kinds.proofs.Found.{lowered-count}
use Rattle.guard_kinds.proofs.counts.KeyCounts.lower_key.Goals as goal

pub overflow_sub-index_mut : goal.overflow_sub-index_mut
overflow_sub-index_mut c =
    let self = c.args.self.now in
    let at = c.place-at.result in
    let r = c.index_mut.result.now in
    let l = inside self c.args.key at c.place-at.ensures.is c.if-at-gt0.true
    c.place-at.ensures.within in
    let e = ap (λ (e : KeyCount). e.count)
    (read-at (at - 1) r no_count self.entries.items l c.index_mut.ensures.value) in
    let n = found-count self c.args.key at c.place-at.ensures.is c.if-at-gt0.true
    c.place-at.ensures.within in
    omega (arith, e, n, c.requires)

pub invariant_of-self : goal.invariant_of-self
invariant_of-self c =
    let self = c.args.self.now in
    let at = c.place-at.result in
    let es = self.entries.items in
    let r = c.index_mut.result.now in
    let l = inside self c.args.key at c.place-at.ensures.is c.if-at-gt0.true
    c.place-at.ensures.within in
    let e = read-at (at - 1) r no_count es l c.index_mut.ensures.value in
    record {
      own = recounted-own es (at - 1) (r.count - 1) r l e self.own;
      linked = recounted-linked es (at - 1) (r.count - 1) r l e (vec_len self.heads)
          (vec_len self.entries) self.linked;
      headed = recounted-headed es (at - 1) (r.count - 1) r l e (vec_len self.heads)
          (vec_len self.entries) self.heads.items self.headed;
      within = self.within;
      room = self.room;
      small = self.small;
    }

pub returns-then-at-gt0-clause-counted : goal.returns-then-at-gt0-clause-counted
returns-then-at-gt0-clause-counted c =
    let self = c.args.self.now in
    let at = c.place-at.result in
    let es = self.entries.items in
    let r = c.index_mut.result.now in
    let l = inside self c.args.key at c.place-at.ensures.is c.if-at-gt0.true
    c.place-at.ensures.within in
    let e = read-at (at - 1) r no_count es l c.index_mut.ensures.value in
    let k = found-key self c.args.key at c.place-at.ensures.is c.if-at-gt0.true
    c.place-at.ensures.within in
    let x = ap (λ (e : KeyCount). e.count) e in
    let n = found-count self c.args.key at c.place-at.ensures.is c.if-at-gt0.true
    c.place-at.ensures.within in
    lowered-count es (at - 1) (r.count - 1) r l e c.args.key
    (sym (ap (λ (e : KeyCount). e.key) e) ∙ k) (omega (arith, x, n, c.requires))

pub returns-then-at-gt0-clause-total : goal.returns-then-at-gt0-clause-total
returns-then-at-gt0-clause-total c =
    let self = c.args.self.now in
    let at = c.place-at.result in
    let es = self.entries.items in
    let r = c.index_mut.result.now in
    let l = inside self c.args.key at c.place-at.ensures.is c.if-at-gt0.true
    c.place-at.ensures.within in
    let e = read-at (at - 1) r no_count es l c.index_mut.ensures.value in
    let x = ap (λ (e : KeyCount). e.count) e in
    let n = found-count self c.args.key at c.place-at.ensures.is c.if-at-gt0.true
    c.place-at.ensures.within in
    let t = recounted-total es (at - 1) (r.count - 1) r l e in
    omega (arith, t, x, n, c.requires)

pub returns-else-at-gt0-clause-counted : goal.returns-else-at-gt0-clause-counted
returns-else-at-gt0-clause-counted c =
    let f = c.if-at-gt0.false in
    let z = none-there c.args.self.now c.args.key c.place-at.result c.place-at.ensures.is
    (omega (arith, f)) in
    absurd (omega (arith, z, c.requires))

pub returns-else-at-gt0-clause-total : goal.returns-else-at-gt0-clause-total
returns-else-at-gt0-clause-total c =
    let f = c.if-at-gt0.false in
    let z = none-there c.args.self.now c.args.key c.place-at.result c.place-at.ensures.is
    (omega (arith, f)) in
    absurd (omega (arith, z, c.requires))
