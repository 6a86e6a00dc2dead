use Rattle.std.proofs.Common.{◌≡◌, ◌+◌, ◌<◌, ◌∙◌, set, length, ap, sym, arith}
use Rattle.observe_core.specs.Held.{Degree}
use Rattle.observe_core.specs.Items.{put_number}
use Rattle.index_maps.specs.Counted.{expand, how_often}
use Rattle.index_maps.specs.DegreeViews.{ends_of_degree}
use Rattle.observe_core.specs.Seen.{map_seen}
use Rattle.index_maps.specs.Expanding.{expand-put, count-expand}
use Rattle.index_maps.proofs.DegreeLemmas.{read-at, ends-seen, out-seen}
use Rattle.index_maps.proofs.degree.Degree.raise.Goals as goal

pub overflow_add-index_mut : goal.overflow_add-index_mut
overflow_add-index_mut c =
    let made = c.make_room.new.self in
    let cs = made.counts.items in
    let n = c.args.node in
    let l : n < length cs = omega (arith, c.in_ok-make_room.ensures.room) in
    let r = read-at n c.index_mut.result.now 0 cs l c.index_mut.ensures.value in
    let a = count-expand 0 n n cs l (omega arith) in
    let e = ap (how_often n) (ap ends-seen c.make_room.ensures.same) in
    let s = c.requires.small in
    grind (arith, r, a, e, s)

pub returns-clause-ok : goal.returns-clause-ok
returns-clause-ok c =
    let self = c.args.self.now in
    let made = c.make_room.new.self in
    let cs = made.counts.items in
    let n = c.args.node in
    let l : n < length cs = omega (arith, c.in_ok-make_room.ensures.room) in
    let r = read-at n c.index_mut.result.now 0 cs l c.index_mut.ensures.value in
    let e = ap ends-seen c.make_room.ensures.same in
    let x : expand 0 (set cs n (c.index_mut.result.now + 1)) ≡ put_number n (ends_of_degree self) =
    ap (λ m. expand 0 (set cs n (m + 1))) (sym r) ∙ sym (expand-put 0 n n cs l (omega arith))
    ∙ ap (put_number n) e in
    let o = ap out-seen c.make_room.ensures.same in
    λ i. map_seen (Degree (o i) (x i))
