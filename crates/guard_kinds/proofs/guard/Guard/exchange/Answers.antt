use Rattle.std.proofs.Common.{◌≡◌, ◌∙◌, ◌+◌, ◌<◌, IsTrue, length, ap, sym, subst, arith}
use Rattle.plain_digraph.specs.Facts.{fact_id}
use Rattle.plain_digraph.specs.Rising.{without_item, swapped}
use Rattle.observe_core.proofs.CountLemmas.{length-without}
use Rattle.guard_kinds.specs.Keys.{key_of, limit_of, room_of, is_key, is_keyed, one, with_key}
use Rattle.guard_kinds.specs.Keys.{keyed, IsWithin}
use Rattle.fact_table.specs.Table.{facts_of}
use Rattle.fact_table.specs.TableFacts.{table-rises, table-small}
use Rattle.guard_kinds.proofs.GuardLemmas.{taken-key, taken-keyed, swapped-key, swapped-keyed}
use Rattle.guard_kinds.proofs.GuardLemmas.{key-fits, few-keyed, length-swapped}
use Rattle.guard_kinds.proofs.guard.Guard.exchange.Goals as goal

pub raise-requires-clause-room : goal.raise-requires-clause-room
raise-requires-clause-room c = λ n t none.
    let self = c.args.self.now in
    let kind = self.kind in
    let facts = facts_of self.table in
    let rest = without_item fact_id c.args.old.id facts in
    let rising = table-rises self.table in
    let there = c.requires.there in
    let k = subst (λ k. IsTrue (is_key n k)) c.key-2.ensures t in
    let taken = taken-key kind facts c.args.old rising there n in
    let left = c.lower.ensures.counted n in
    let was = ap (λ k. one (is_key n k)) c.key.ensures in
    let here = self.counted n in
    let now = swapped-key kind facts c.args.old rising there c.args.new c.requires.same n in
    let o : one (is_key n (key_of kind c.args.new)) ≡ 1 = ap one k in
    let below : with_key kind n rest < limit_of kind self.k =
    omega (arith, now, o, c.requires.within n) in
    let z = key-fits kind self.k rest c.args.new n k (omega (arith, none, taken, left, was, here))
    below in
    let len = length-without fact_id c.args.old facts rising there in
    let q = ap (room_of kind) (let e : length rest + 1 ≡ length facts = omega (arith, len) in e) in
    let total = taken-keyed kind facts c.args.old rising there in
    let gone = ap (λ k. one (is_keyed k)) c.key.ensures in
    omega (
      arith,
      z,
      q,
      total,
      gone,
      self.room,
      self.total,
      c.lower.ensures.total,
      c.lower.ensures.room,
    )

pub raise-requires-clause-small : goal.raise-requires-clause-small
raise-requires-clause-small c = λ n.
    let self = c.args.self.now in
    let s = table-small self.table in
    let a = few-keyed self.kind n (facts_of self.table) in
    let w = self.counted n in
    let left = c.lower.ensures.counted n in
    omega (arith, s, a, w, left)

pub invariant_of-self : goal.invariant_of-self
invariant_of-self c =
    let self = c.args.self.now in
    let kind = self.kind in
    let facts = facts_of self.table in
    let rising = table-rises self.table in
    let e : facts_of c.replace.new.self ≡ swapped fact_id c.args.new facts =
    c.replace.ensures.swapped in
    record {
      guards = self.guards;
      numbers = self.numbers;
      counted = λ n.
          let a = taken-key kind facts c.args.old rising c.requires.there n in
          let b = swapped-key kind facts c.args.old rising c.requires.there c.args.new
          c.requires.same n in
          let u = c.lower.ensures.counted n in
          let v = c.raise.ensures.counted n in
          let d = self.counted n in
          let k = ap (λ k. one (is_key n k)) c.key.ensures in
          let l = ap (λ k. one (is_key n k)) c.key-2.ensures in
          let x = ap (with_key kind n) e in
          omega (arith, a, b, u, v, d, k, l, x);
      total =
          let a = taken-keyed kind facts c.args.old rising c.requires.there in
          let b = swapped-keyed kind facts c.args.old rising c.requires.there c.args.new
          c.requires.same in
          let u = c.lower.ensures.total in
          let v = c.raise.ensures.total in
          let d = self.total in
          let k = ap (λ k. one (is_keyed k)) c.key.ensures in
          let l = ap (λ k. one (is_keyed k)) c.key-2.ensures in
          let x = ap (keyed kind) e in
          omega (arith, a, b, u, v, d, k, l, x);
      room =
          let q = ap (room_of kind) (ap length e ∙ length-swapped c.args.new facts) in
          omega (arith, q, c.lower.ensures.room, c.raise.ensures.room, self.room);
      within = subst (IsWithin kind self.k) (sym e) c.requires.within;
    }
