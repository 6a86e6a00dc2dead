use Rattle.std.proofs.Common.{rules, ◌≡◌, ◌+◌, ◌≤◌, ◌∙◌, IsTrue, length, ap, sym, subst, refl}
use Rattle.std.proofs.Common.{arith, true}
use Rattle.plain_digraph.specs.Facts.{fact_id}
use Rattle.plain_digraph.specs.Rising.{with_item}
use Rattle.guard_kinds.specs.CountViews.{counted, total}
use Rattle.guard_kinds.specs.Keys.{key_of, is_key, is_keyed, one, with_key, keyed, room_of}
use Rattle.guard_kinds.specs.Keys.{IsWithin}
use Rattle.fact_table.specs.Table.{facts_of}
use Rattle.fact_table.specs.TableFacts.{table-small}
use Rattle.guard_kinds.proofs.GuardLemmas.{key-fits, few-keyed, placed-key, placed-keyed}
use Rattle.guard_kinds.proofs.GuardLemmas.{placed-within}
use Rattle.guard_kinds.proofs.guard.Guard.put.Goals as goal

pub returns-then-is_full : goal.returns-then-is_full
returns-then-is_full c =
    let self = c.args.self.now in
    let facts = facts_of self.table in
    let full = c.is_full.ensures.full c.if-is_full.true in
    let n = full.0 in
    let t : is_key n (key_of self.kind c.args.f) ≡ true =
    subst (λ k. IsTrue (is_key n k)) c.key-key.ensures full.1 in
    let a = placed-key self.kind facts c.args.f n in
    let e = ap one t in
    let w = self.counted n in
    let l = full.2 in
    (refl, (n, omega (arith, a, e, w, l, c.limit.ensures)))

pub make_room-requires : goal.make_room-requires
make_room-requires c =
    let s = table-small c.args.self.now.table in
    omega (arith, s, c.len.ensures, c.room_for.ensures.within)

pub invariant_of-self-then-is_err-2 : goal.invariant_of-self-then-is_err-2
invariant_of-self-then-is_err-2 c =
    let self = c.args.self.now in
    let kind = self.kind in
    let e : facts_of c.insert.new.self ≡ facts_of self.table = search rules in
    let l = ap (λ fs. room_of kind (length fs)) e in
    record {
      guards = self.guards;
      numbers = self.numbers;
      counted = λ n. c.make_room.ensures.counted n ∙ self.counted n ∙ ap (with_key kind n) (sym e);
      total = c.make_room.ensures.total ∙ self.total ∙ ap (keyed kind) (sym e);
      room = omega (arith, l, self.room, c.make_room.ensures.room);
      within = subst (IsWithin kind self.k) (sym e) self.within;
    }

pub invariant_of-self-2 : goal.invariant_of-self-2
invariant_of-self-2 c =
    let self = c.args.self.now in
    let kind = self.kind in
    let f = c.args.f in
    let facts = facts_of self.table in
    let e : facts_of c.insert.new.self ≡ with_item fact_id f facts = search rules in
    let l : length (facts_of c.insert.new.self) ≡ length facts + 1 = search rules in
    let r : room_of kind (c.len.result + 1) ≤ c.make_room.new.self.heads.len = search rules in
    record {
      guards = self.guards;
      numbers = self.numbers;
      counted = λ n.
          c.raise.ensures.counted n
          ∙ ap (λ k. one (is_key n k) + counted c.make_room.new.self n) c.key-key.ensures
          ∙ ap (λ m. one (is_key n (key_of kind f)) + m)
          (c.make_room.ensures.counted n ∙ self.counted n) ∙ sym (placed-key kind facts f n)
          ∙ ap (with_key kind n) (sym e);
      total =
          c.raise.ensures.total
          ∙ ap (λ k. one (is_keyed k) + total c.make_room.new.self) c.key-key.ensures
          ∙ ap (λ m. one (is_keyed (key_of kind f)) + m) (c.make_room.ensures.total ∙ self.total)
          ∙ sym (placed-keyed kind facts f) ∙ ap (keyed kind) (sym e);
      room =
          let q : length (facts_of c.insert.new.self) ≡ c.len.result + 1 =
          omega (arith, l, c.len.ensures) in
          let z = ap (room_of kind) q in
          omega (arith, z, r, c.raise.ensures.room);
      within = subst (IsWithin kind self.k) (sym e)
          (placed-within kind facts f self.k self.within (λ n t.
          let o = c.is_full.ensures.open c.if-is_full.false n
          (subst (λ k. IsTrue (is_key n k)) (sym c.key-key.ensures) t) in
          let w = self.counted n in
          omega (arith, o, w, c.limit.ensures)));
    }

pub raise-requires-clause-small : goal.raise-requires-clause-small
raise-requires-clause-small c = λ n.
    let self = c.args.self.now in
    let s = table-small self.table in
    let a = few-keyed self.kind n (facts_of self.table) in
    let b = c.make_room.ensures.counted n in
    let w = self.counted n in
    omega (arith, s, a, b, w)

pub raise-requires-clause-room : goal.raise-requires-clause-room
raise-requires-clause-room c = λ n t none.
    let self = c.args.self.now in
    let facts = facts_of self.table in
    let b = c.make_room.ensures.counted n in
    let w = self.counted n in
    let o = c.is_full.ensures.open c.if-is_full.false n t in
    let k = subst (λ k. IsTrue (is_key n k)) c.key-key.ensures t in
    let z = key-fits self.kind self.k facts c.args.f n k (omega (arith, none, b, w))
    (omega (arith, o, w, c.limit.ensures)) in
    let q = ap (room_of self.kind)
    (let l = c.len.ensures in let m : c.len.result + 1 ≡ length facts + 1 =
    omega (arith, l) in m) in
    let r : room_of self.kind (c.len.result + 1) ≤ c.make_room.new.self.heads.len = search rules in
    omega (arith, z, q, r, c.make_room.ensures.total, self.total)

pub overflow_add-len : goal.overflow_add-len
overflow_add-len c =
    let s = table-small c.args.self.now.table in
    omega (arith, s, c.len.ensures)
