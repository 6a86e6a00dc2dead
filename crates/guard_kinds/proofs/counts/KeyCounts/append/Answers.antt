use Rattle.std.proofs.Common.{◌≡◌, ℕ, ◌+◌, ◌<◌, ◌∙◌, true, not, is_ok, if◌then◌else◌, IsTrue, ◌++◌}
use Rattle.std.proofs.Common.{[], ◌∷◌, vec_len, get_or, set, length, arith, ap, sym, subst}
use Rattle.std.proofs.lemmas.List.{get_or_append_left}
use Rattle.std.proofs.Math.Seq.{get_or-append_seam}
use Rattle.guard_kinds.specs.declared.counts.KeyCount.{KeyCount}
use Rattle.guard_kinds.specs.Counting.{keys_of, own_keys, last_where, bucket, in_bucket, no_count}
use Rattle.guard_kinds.specs.Counting.{IsLinked, IsHeaded}
use Rattle.guard_kinds.proofs.CountingLemmas.{key-at, read-at, linked-on, headed-on, own-append}
use Rattle.guard_kinds.proofs.counts.KeyCounts.append.Goals as goal

pub invariant_of-self : goal.invariant_of-self
invariant_of-self c =
    let self = c.args.self.now in
    let es = self.entries.items in
    let hs = self.heads.items in
    let n = vec_len self.entries in
    let size = vec_len self.heads in
    let at = c.bucket-at.result in
    let d : KeyCount = record { key = c.args.key; count = 1; next = c.index-next.result.now } in
    let ok : is_ok c.push.result ≡ true = c.is_err.ensures.negation ∙ ap not c.if-is_err.false in
    let items : c.push.new.self.items ≡ es ++ d ∷ [] = c.push.ensures.items
    ∙ ap (λ b. if b then es ++ d ∷ [] else es) ok in
    let len : vec_len c.push.new.self ≡ n + 1 = c.push.ensures.len
    ∙ ap (λ b. if b then n + 1 else n) ok in
    let q : length es ≡ n = omega arith in
    let m : at < length hs = omega arith in
    let head : get_or hs at 0 ≡ c.index-next.result.now =
    read-at at c.index-next.result.now 0 hs m c.index-next.ensures in
    let here : get_or (es ++ d ∷ []) n no_count ≡ d =
    subst (λ m. get_or (es ++ d ∷ []) m no_count ≡ d) q (get_or-append_seam es d [] no_count) in
    let k : get_or (keys_of (es ++ d ∷ [])) n 0 ≡ c.args.key = key-at (es ++ d ∷ []) n
    ∙ ap (λ (e : KeyCount). e.key) here in
    let b : at ≡ bucket size (get_or (keys_of (es ++ d ∷ [])) n 0) = c.bucket-at.ensures.is
    ∙ ap (λ s. bucket s c.args.key) c.len.ensures ∙ ap (bucket size) (sym k) in
    let apart : (j : ℕ) → j < n → get_or (es ++ d ∷ []) j no_count ≡ get_or es j no_count = λ j z.
    get_or_append_left es (d ∷ []) no_count j (omega (arith, z, q)) in
    let link = linked-on es (es ++ d ∷ []) n apart size self.linked
    (ap (λ (e : KeyCount). e.next) here ∙ sym head ∙ self.headed at (omega arith)
    ∙ ap (λ b. last_where (in_bucket size b) (keys_of es) n) b) in
    let heads : IsHeaded size (set hs at (n + 1)) (es ++ d ∷ []) (n + 1) =
    headed-on es (es ++ d ∷ []) n apart size hs at self.headed b m in
    record {
      own = subst (λ l. IsTrue (own_keys (keys_of l))) (sym items)
          (own-append es d self.own c.requires.free);
      linked = subst (λ l. IsLinked size l (vec_len c.push.new.self)) (sym items)
          (subst (IsLinked size (es ++ d ∷ [])) (sym len) link);
      headed = subst (λ l. IsHeaded size (set hs at c.len-2.result) l (vec_len c.push.new.self))
          (sym items) (subst
          (λ m. IsHeaded size (set hs at m) (es ++ d ∷ []) (vec_len c.push.new.self))
          (sym (c.len-2.ensures ∙ len))
          (subst (IsHeaded size (set hs at (n + 1)) (es ++ d ∷ [])) (sym len) heads));
      within = omega (arith, len, c.requires.place);
      room = omega (arith, c.push.ensures.capacity, self.room);
      small = self.small;
    }
