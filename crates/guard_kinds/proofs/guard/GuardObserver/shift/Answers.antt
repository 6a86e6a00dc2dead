use Rattle.std.proofs.Common.{IsTrue, refl, sym, ap, subst, arith}
use Rattle.plain_digraph.specs.Facts.{fact_id}
use Rattle.observe_core.specs.Facts.{IsInBounds}
use Rattle.plain_digraph.specs.Rising.{swapped}
use Rattle.guard_kinds.specs.Keys.{is_key, one}
use Rattle.fact_table.specs.Table.{facts_of}
use Rattle.fact_table.specs.TableFacts.{table-rises, table-bounded}
use Rattle.guard_kinds.proofs.GuardLemmas.{tracked, all-swapped, swapped-within, swapped-passes}
use Rattle.guard_kinds.proofs.GuardLemmas.{passes-breaks}
use Rattle.guard_kinds.proofs.guard.GuardObserver.shift.Goals as goal

pub returns-then-is_full-clause-told : goal.returns-then-is_full-clause-told
returns-then-is_full-clause-told c =
    let self = c.args.self.now in
    let facts = facts_of self.table in
    let there = tracked self.kind facts c.requires.live c.args.old self.guards c.requires.fits.guard
    c.requires.tracked in
    let full = c.is_full.ensures.full c.if-is_full.true in
    let n = full.0 in
    let t = subst (λ k. IsTrue (is_key n k)) c.key-now.ensures full.1 in
    let l = full.2 in
    let q = ap (λ k. one (is_key n k)) c.key-was.ensures in
    let w = self.counted n in
    let p = swapped-passes self.kind self.k facts c.args.old c.args.new (table-rises self.table)
    there c.requires.same_id n t (omega (arith, l, q, w, c.limit.ensures)) in (
      refl,
      passes-breaks self.kind self.k (swapped fact_id c.args.new facts)
          (all-swapped IsInBounds c.args.new facts c.requires.bounded (table-bounded self.table))
          n p,
    )

pub exchange-requires-clause-within : goal.exchange-requires-clause-within
exchange-requires-clause-within c =
    let self = c.args.self.now in
    let facts = facts_of self.table in
    let there = tracked self.kind facts c.requires.live c.args.old self.guards c.requires.fits.guard
    c.requires.tracked in
    swapped-within self.kind self.k facts c.args.old c.args.new (table-rises self.table) there
    c.requires.same_id self.within (λ n t.
    let o = c.is_full.ensures.open c.if-is_full.false n
    (subst (λ k. IsTrue (is_key n k)) (sym c.key-now.ensures) t) in
    let p = ap (λ k. one (is_key n k)) c.key-was.ensures in
    let w = self.counted n in
    omega (arith, o, w, p, c.limit.ensures))
