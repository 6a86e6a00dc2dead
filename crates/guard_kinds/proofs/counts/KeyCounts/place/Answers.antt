use Rattle.std.proofs.Common.{◌≡◌, ◌-◌, ◌==◌, ◌<◌, ◌∙◌, IsTrue, vec_len, get_or, length, arith, ap}
use Rattle.std.proofs.Common.{sym, refl, subst, true, false, if◌then◌else◌}
use Rattle.std.proofs.lemmas.Grind.{common_steps}
use Rattle.guard_kinds.specs.declared.counts.KeyCount.{KeyCount}
use Rattle.guard_kinds.specs.Counting.{keys_of, last_where, bucket, in_bucket, no_count}
use Rattle.guard_kinds.proofs.CountingLemmas.{key-at, read-at, walk, same_bucket, bucket_is}
use Rattle.guard_kinds.proofs.CountingLemmas.{last-le, last-passes, last-down}
use Rattle.guard_kinds.proofs.counts.KeyCounts.place.Goals as goal

pub loop-at-init : goal.loop-at-init
loop-at-init c =
    let self = c.args.self.now in
    let ks = keys_of self.entries.items in
    let n = vec_len self.entries in
    let size = vec_len self.heads in
    let b = bucket size c.args.key in
    let e : c.bucket.result ≡ b = c.bucket.ensures.is
    ∙ ap (λ s. bucket s c.args.key) c.len.ensures in
    let l : c.bucket.result < vec_len self.heads =
    omega (arith, c.bucket.ensures.within, c.len.ensures) in
    let m : b < size = omega (arith, e, l) in
    let at : c.index.result.now ≡ last_where (in_bucket size b) ks n =
    sym (read-at c.bucket.result c.index.result.now 0 self.heads.items (omega (arith, l))
    c.index.ensures) ∙ ap (λ i. get_or self.heads.items i 0) e ∙ self.headed b m in
    record {
      left = walk (λ k. k == c.args.key) (in_bucket size b) (same_bucket size b c.args.key refl) ks
          n ∙ ap (last_where (λ k. k == c.args.key) ks) (sym at);
      within = let r = last-le (in_bucket size b) ks n in omega (arith, at, r);
      same = λ z. bucket_is size b (get_or ks (c.index.result.now - 1) 0)
          (subst (λ i. IsTrue (in_bucket size b (get_or ks (i - 1) 0))) (sym at)
          (last-passes (in_bucket size b) ks n (omega (arith, at, z))));
    }

pub returns-then-entry-key-clause-is : goal.returns-then-entry-key-clause-is
returns-then-entry-key-clause-is c =
    let self = c.args.self.now in
    let es = self.entries.items in
    let at = c.loop-at.at in
    let was = c.loop-at.invariant in
    let r = read-at (at - 1) c.index-entry.result.now no_count es
    (omega (arith, was.within, c.loop-at-test.true)) c.index-entry.ensures in
    let k : get_or (keys_of es) (at - 1) 0 ≡ c.args.key = key-at es (at - 1)
    ∙ ap (λ (e : KeyCount). e.key) r ∙ c.if-entry-key.true in
    let t : (get_or (keys_of es) (at - 1) 0 == c.args.key) ≡ true =
    grind (arith, common_steps, k) in
    sym (was.left ∙ last-down (λ k. k == c.args.key) (keys_of es) at c.loop-at-test.true
    ∙ ap (λ b. if b then at else last_where (λ k. k == c.args.key) (keys_of es) (at - 1)) t)

pub loop-at-smaller : goal.loop-at-smaller
loop-at-smaller c =
    let self = c.args.self.now in
    let es = self.entries.items in
    let at = c.loop-at.at in
    let was = c.loop-at.invariant in
    let l : at - 1 < length es = omega (arith, was.within, c.loop-at-test.true) in
    let r = ap (λ (e : KeyCount). e.next)
    (read-at (at - 1) c.index-entry.result.now no_count es l c.index-entry.ensures) in
    let n = self.linked (at - 1) (omega (arith, was.within, c.loop-at-test.true)) in
    let m = last-le
    (in_bucket (vec_len self.heads)
    (bucket (vec_len self.heads) (get_or (keys_of es) (at - 1) 0))) (keys_of es) (at - 1) in
    omega (arith, r, n, m, c.loop-at-test.true)

pub loop-at-preserved : goal.loop-at-preserved
loop-at-preserved c =
    let self = c.args.self.now in
    let es = self.entries.items in
    let ks = keys_of es in
    let at = c.loop-at.at in
    let was = c.loop-at.invariant in
    let size = vec_len self.heads in
    let l : at - 1 < length es = omega (arith, was.within, c.loop-at-test.true) in
    let x = read-at (at - 1) c.index-entry.result.now no_count es l c.index-entry.ensures in
    let r = ap (λ (e : KeyCount). e.next) x in
    let b = bucket size (get_or ks (at - 1) 0) in
    let n : c.index-entry.result.now.next ≡ last_where (in_bucket size b) ks (at - 1) = sym r
    ∙ self.linked (at - 1) (omega (arith, was.within, c.loop-at-test.true)) in
    let m = last-le (in_bucket size b) ks (at - 1) in
    let s : b ≡ bucket size c.args.key = was.same c.loop-at-test.true in
    let k : get_or ks (at - 1) 0 ≡ c.index-entry.result.now.key = key-at es (at - 1)
    ∙ ap (λ (e : KeyCount). e.key) x in
    let f = c.if-entry-key.false in
    let t : (get_or ks (at - 1) 0 == c.args.key) ≡ false = grind (arith, common_steps, k, f) in
    record {
      left =
          was.left ∙ last-down (λ k. k == c.args.key) ks at c.loop-at-test.true
          ∙ ap (λ b. if b then at else last_where (λ k. k == c.args.key) ks (at - 1)) t
          ∙ walk (λ k. k == c.args.key) (in_bucket size b) (same_bucket size b c.args.key (sym s))
          ks (at - 1) ∙ ap (last_where (λ k. k == c.args.key) ks) (sym n);
      within = omega (arith, n, m, was.within);
      same = λ z. bucket_is size b (get_or ks (c.index-entry.result.now.next - 1) 0)
          (subst (λ i. IsTrue (in_bucket size b (get_or ks (i - 1) 0))) (sym n)
          (last-passes (in_bucket size b) ks (at - 1) (omega (arith, n, z)))) ∙ s;
    }
