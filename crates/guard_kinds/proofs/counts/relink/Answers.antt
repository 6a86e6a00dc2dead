use Rattle.std.proofs.Common.{◌≡◌, ℕ, ◌<◌, ◌∙◌, vec_len, get_or, set, length, arith, ap, sym}
use Rattle.std.proofs.lemmas.List.{get_or-set_other, get_or-set_same}
use Rattle.std.proofs.Math.Seq.{map-set_same}
use Rattle.guard_kinds.specs.declared.counts.KeyCount.{KeyCount}
use Rattle.guard_kinds.specs.Counting.{keys_of, last_where, bucket, in_bucket, no_count, unlink}
use Rattle.guard_kinds.proofs.CountingLemmas.{key-at, read-at, linked-on, headed-on}
use Rattle.guard_kinds.proofs.counts.relink.Goals as goal

pub loop-i-preserved : goal.loop-i-preserved
loop-i-preserved c =
    let was = c.loop-i.invariant in
    let es = c.loop-i.entries.items in
    let hs = c.loop-i.heads.items in
    let i = c.loop-i.i in
    let at = c.bucket-at.result in
    let size = vec_len c.loop-i.heads in
    let d : KeyCount = record c.index_mut.result.now { next = c.index-in-loop-i.result.now } in
    let l : i < length es = omega arith in
    let m : at < length hs = omega arith in
    let old : get_or es i no_count ≡ c.index_mut.result.now =
    read-at i c.index_mut.result.now no_count es l c.index_mut.ensures.value in
    let read : get_or es i no_count ≡ c.index.result.now =
    read-at i c.index.result.now no_count es l c.index.ensures in
    let head : get_or hs at 0 ≡ c.index-in-loop-i.result.now =
    read-at at c.index-in-loop-i.result.now 0 hs m c.index-in-loop-i.ensures in
    let here : get_or (set es i d) i no_count ≡ d = get_or-set_same es i d no_count l in
    let k : get_or (keys_of (set es i d)) i 0 ≡ c.index.result.now.key = key-at (set es i d) i
    ∙ ap (λ (e : KeyCount). e.key) here ∙ ap (λ (e : KeyCount). e.key) (sym old ∙ read) in
    let b : at ≡ bucket size (get_or (keys_of (set es i d)) i 0) = c.bucket-at.ensures.is
    ∙ ap (λ s. bucket s c.index.result.now.key) c.len.ensures ∙ ap (bucket size) (sym k) in
    let apart : (j : ℕ) → j < i → get_or (set es i d) j no_count ≡ get_or es j no_count = λ j z.
    get_or-set_other es i j d no_count (omega (arith, z)) in
    record {
      same = map-set_same unlink es i d no_count (ap unlink (sym old)) ∙ was.same;
      len = was.len;
      capacity = was.capacity;
      size = was.size;
      linked = linked-on es (set es i d) i apart size was.linked
          (ap (λ (e : KeyCount). e.next) here ∙ sym head ∙ was.headed at (omega arith)
          ∙ ap (λ b. last_where (in_bucket size b) (keys_of es) i) b);
      headed = headed-on es (set es i d) i apart size hs at was.headed b m;
    }
