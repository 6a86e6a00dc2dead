use Rattle.std.proofs.Common.{◌<◌, ◌≤◌, ◌∙◌, map, length, vec_len, ap, sym, subst, arith}
use Rattle.plain_digraph.specs.Facts.{fact_id}
use Rattle.plain_digraph.specs.Rising.{with_item, without_item}
use Rattle.observe_core.specs.Held.{marked_id}
use Rattle.observe_core.specs.Items.{above_all, Lacks}
use Rattle.observe_core.specs.Told.{new_marked}
use Rattle.fact_table.specs.Table.{facts_of}
use Rattle.kept_views.specs.ItemViews.{items_of, marked}
use Rattle.kept_views.proofs.ItemsLemmas.{put-items, above-place}
use Rattle.observe_core.proofs.ItemLemmas.{without-place}
use Rattle.kept_views.specs.Ordered.{IsOrdered, HaveRows}
use Rattle.kept_views.proofs.Rows.{rows_more}
use Rattle.kept_views.proofs.items.KeptItems.put.Goals as goal

pub invariant_of-self-in-Ok : goal.invariant_of-self-in-Ok
invariant_of-self-in-Ok c =
    let made = c.make_room.new.self in
    record {
      ordered = c.enter.ensures.ordered;
      covered =
          subst (λ l. above_all (map fact_id l) ≤ vec_len made.marks) (sym c.in-Ok.ensures.ok)
          (above-place c.args.f (facts_of made.table) (vec_len made.marks)
          c.in_ok-make_room.ensures.room made.covered);
    }

pub returns-in-Ok-clause-ok : goal.returns-in-Ok-clause-ok
returns-in-Ok-clause-ok c =
    let f = c.args.f in
    let self = c.args.self.now in
    let made = c.make_room.new.self in
    let l : f.id < length made.marks.items = omega (arith, c.in_ok-make_room.ensures.room) in
    let free = subst (λ t. Lacks fact_id f.id (facts_of t)) (sym c.make_room.ensures.table)
    c.requires.free in
    ap (map (marked _)) c.in-Ok.ensures.ok
    ∙ put-items made.marks.items made.all f (facts_of made.table) l free
    ∙ ap (λ a. with_item marked_id (new_marked a f) (items_of made)) c.make_room.ensures.all
    ∙ ap (with_item marked_id (new_marked self.all f)) c.make_room.ensures.same

pub enter-requires-clause-ordered : goal.enter-requires-clause-ordered
enter-requires-clause-ordered c =
    let f = c.args.f in
    let made = c.make_room.new.self in
    let facts = facts_of made.table in
    let free = subst (λ t. Lacks fact_id f.id (facts_of t)) (sym c.make_room.ensures.table)
    c.requires.free in
    subst (IsOrdered c.make_room-2.new.self)
    (sym (ap (without_item fact_id f.id) c.in-Ok.ensures.ok ∙ without-place fact_id f facts free))
    (c.make_room-2.ensures.keeps facts made.ordered)

pub enter-requires-clause-rows : goal.enter-requires-clause-rows
enter-requires-clause-rows c =
    let made = c.make_room.new.self in
    let facts = facts_of made.table in
    subst (HaveRows c.make_room-2.new.self) (sym c.in-Ok.ensures.ok)
    (rows_more c.args.f facts c.make_room-2.new.self
    (c.make_room-2.ensures.keeps facts made.ordered) c.in_ok-make_room-2.ensures.room)
