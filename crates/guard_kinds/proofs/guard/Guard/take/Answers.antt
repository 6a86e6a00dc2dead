use Rattle.std.proofs.Common.{◌≡◌, ◌≤◌, length, ap, arith}
use Rattle.plain_digraph.specs.Facts.{fact_id}
use Rattle.plain_digraph.specs.Rising.{without_item}
use Rattle.guard_kinds.specs.Keys.{is_key, is_keyed, one, with_key, keyed}
use Rattle.fact_table.specs.Table.{facts_of}
use Rattle.fact_table.specs.TableFacts.{table-rises}
use Rattle.guard_kinds.proofs.GuardLemmas.{room-rises, taken-key, taken-keyed}
use Rattle.guard_kinds.proofs.guard.Guard.take.Goals as goal

pub invariant_of-self : goal.invariant_of-self
invariant_of-self c =
    let self = c.args.self.now in
    let kind = self.kind in
    let f = c.args.f in
    let facts = facts_of self.table in
    let rest = without_item fact_id f.id facts in
    let rising = table-rises self.table in
    let e : facts_of c.remove.new.self ≡ rest = c.remove.ensures.taken in
    let t = taken-keyed kind facts f rising c.requires in
    let k = ap (λ k. one (is_keyed k)) c.key.ensures in
    let w = c.lower.ensures.total in
    let s = self.total in
    record {
      guards = self.guards;
      numbers = self.numbers;
      counted = λ n.
          let a = taken-key kind facts f rising c.requires n in
          let b = c.lower.ensures.counted n in
          let d = self.counted n in
          let k = ap (λ k. one (is_key n k)) c.key.ensures in
          let x = ap (with_key kind n) e in
          omega (arith, a, b, d, k, x);
      total = let x = ap (keyed kind) e in omega (arith, t, k, w, s, x);
      room =
          let less : length (facts_of c.remove.new.self) ≤ length facts =
          omega (arith, c.remove.ensures.len) in
          let q = room-rises kind (length (facts_of c.remove.new.self)) (length facts) less in
          omega (arith, q, c.lower.ensures.room, self.room);
      within = λ n.
          let a = taken-key kind facts f rising c.requires n in
          let b = self.within n in
          let x = ap (with_key kind n) e in
          omega (arith, a, b, x);
    }
