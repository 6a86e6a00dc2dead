use Rattle.std.proofs.Common.{◌∙◌, ◌+◌, ◌-◌, vec_len, arith, ap, sym, refl}
use Rattle.guard_kinds.specs.declared.counts.KeyCount.{KeyCount}
use Rattle.guard_kinds.specs.Counting.{no_count}
use Rattle.guard_kinds.proofs.CountingLemmas.{read-at}
use Rattle.guard_kinds.proofs.Found.{missing, none-there, inside, found-count, found-key}
use Rattle.guard_kinds.proofs.Found.{recounted-own, recounted-linked, recounted-headed}
use Rattle.guard_kinds.proofs.Found.{raised-count}
use Rattle.guard_kinds.proofs.counts.KeyCounts.raise_key.Goals as goal

pub invariant_of-self : goal.invariant_of-self
invariant_of-self c =
    let self = c.args.self.now in
    let at = c.place-at.result in
    let es = self.entries.items in
    let r = c.index_mut.result.now in
    let l = inside self c.args.key at c.place-at.ensures.is c.if-at-gt0.true
    c.place-at.ensures.within in
    let e = read-at (at - 1) r no_count es l c.index_mut.ensures.value in
    record {
      own = recounted-own es (at - 1) (r.count + 1) r l e self.own;
      linked = recounted-linked es (at - 1) (r.count + 1) r l e (vec_len self.heads)
          (vec_len self.entries) self.linked;
      headed = recounted-headed es (at - 1) (r.count + 1) r l e (vec_len self.heads)
          (vec_len self.entries) self.heads.items self.headed;
      within = self.within;
      room = self.room;
      small = self.small;
    }

pub returns-then-at-gt0-clause-counted : goal.returns-then-at-gt0-clause-counted
returns-then-at-gt0-clause-counted c =
    let self = c.args.self.now in
    let at = c.place-at.result in
    let es = self.entries.items in
    let r = c.index_mut.result.now in
    let l = inside self c.args.key at c.place-at.ensures.is c.if-at-gt0.true
    c.place-at.ensures.within in
    let e = read-at (at - 1) r no_count es l c.index_mut.ensures.value in
    let k = found-key self c.args.key at c.place-at.ensures.is c.if-at-gt0.true
    c.place-at.ensures.within in
    raised-count es (at - 1) (r.count + 1) r l e c.args.key
    (sym (ap (λ (e : KeyCount). e.key) e) ∙ k) refl

pub append-requires-clause-free : goal.append-requires-clause-free
append-requires-clause-free c =
    c.make_place.ensures.lacks c.args.key
    (missing c.args.self.now c.args.key c.place-at.result c.place-at.ensures.is
    (let f = c.if-at-gt0.false in omega (arith, f)))

pub overflow_add-index_mut : goal.overflow_add-index_mut
overflow_add-index_mut c =
    let self = c.args.self.now in
    let at = c.place-at.result in
    let r = c.index_mut.result.now in
    let l = inside self c.args.key at c.place-at.ensures.is c.if-at-gt0.true
    c.place-at.ensures.within in
    let e = ap (λ (e : KeyCount). e.count)
    (read-at (at - 1) r no_count self.entries.items l c.index_mut.ensures.value) in
    let n = found-count self c.args.key at c.place-at.ensures.is c.if-at-gt0.true
    c.place-at.ensures.within in
    omega (arith, e, n, c.requires.small)

pub make_place-requires : goal.make_place-requires
make_place-requires c =
    let f = c.if-at-gt0.false in
    c.requires.room
    (none-there c.args.self.now c.args.key c.place-at.result c.place-at.ensures.is
    (omega (arith, f)))
