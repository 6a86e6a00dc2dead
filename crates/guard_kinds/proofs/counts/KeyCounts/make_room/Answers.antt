use Rattle.std.proofs.Common.{◌∙◌, IsTrue, arith, ap, sym, subst}
use Rattle.guard_kinds.specs.Counting.{own_keys, unlinked}
use Rattle.guard_kinds.proofs.CountingLemmas.{same-keys, same-count, same-total}
use Rattle.guard_kinds.proofs.counts.KeyCounts.make_room.Goals as goal

pub invariant_of-self-2 : goal.invariant_of-self-2
invariant_of-self-2 c =
    let self = c.args.self.now in
    let same = c.relink.ensures.same ∙ ap unlinked c.reserve.ensures.items in
    record {
      own = subst (λ ks. IsTrue (own_keys ks))
          (sym (same-keys c.relink.new.entries.items self.entries.items same)) self.own;
      linked = c.relink.ensures.linked;
      headed = c.relink.ensures.headed;
      within = omega (
        arith,
        c.relink.ensures.len,
        c.relink.ensures.size,
        c.in_ok-resize.ensures.len,
        c.reserve.ensures.len,
        self.within,
        c.if-n-len.false,
        c.len.ensures,
      );
      room = omega (
        arith,
        c.relink.ensures.capacity,
        c.relink.ensures.size,
        c.in_ok-resize.ensures.len,
        c.in_ok-reserve.ensures.ok,
        c.len-2.ensures,
      );
      small = omega (arith, c.relink.ensures.size, c.in_ok-resize.ensures.len, c.requires);
    }

pub returns-clause-counted : goal.returns-clause-counted
returns-clause-counted c =
    same-count c.relink.new.entries.items c.args.self.now.entries.items
    (c.relink.ensures.same ∙ ap unlinked c.reserve.ensures.items)

pub returns-clause-total : goal.returns-clause-total
returns-clause-total c =
    same-total c.relink.new.entries.items c.args.self.now.entries.items
    (c.relink.ensures.same ∙ ap unlinked c.reserve.ensures.items)
