use denote.Param.Object.{read_made}
use Rattle.std.proofs.Common.{◌≡◌, rules, map, refl, sym, ap, subst, inl, ◌∙◌}
use Rattle.std.specs.List.{range_with_len}
use Rattle.plain_digraph.specs.Lists.{AllOf}
use Rattle.plain_machine.specs.Words.{contents}
use Rattle.guard_kinds.specs.GuardViews.{guard_seen, unarmed}
use Rattle.observe_core.specs.Seen.{Seen, Watched}
use Rattle.desk_world.specs.Plain.{kinds_of, word_of}
use Rattle.lemon_desk.specs.Pool.{IsUntoldGuard, kind_at}
use Rattle.lemon_desk.proofs.Boxes.{by_kinds, more_kinds, more_untold, untold_unarmed}
use Rattle.lemon_desk.proofs.pool.serve_with_boxes.OwnLists.{own-1}
use Rattle.lemon_desk.proofs.pool.serve_with_boxes.Goals as goal

pub loop-place-preserved : goal.loop-place-preserved
loop-place-preserved g c =
    let kind = c.kind_at.result in
    let it = c.into_dyn_box.result in
    let box = c.in_ok-new.field-0 in
    let seen : ((own-1.entry it.vtable).1.watch it.value).seen ≡ unarmed kind =
    ap (λ (w : Watched). w.seen)
    (read_made own-1 (own-1.entry (inl tt)) (inl tt) refl Watched (λ j y. j.1.watch y) it.vtable
    it.value box.value c.into_dyn_box.ensures.1)
    ∙ ap guard_seen c.in_ok-new.ensures.ok
    ∙ c.new.ensures in
    let pool = c.loop-place.pool.items in
    let items = c.in_ok-push.ensures.items in
    record {
      untold = subst (AllOf (λ b. IsUntoldGuard ((own-1.entry b.vtable).1.watch b.value).seen))
          (sym items)
          (more_untold (λ b. (own-1.entry b.vtable).1.watch b.value) pool it
          c.loop-place.invariant.untold
          (subst IsUntoldGuard (sym seen) (untold_unarmed kind c.kind_at.ensures.guard)));
      kinds = ap (kinds_of (λ b. (own-1.entry b.vtable).1.watch b.value)) items
          ∙ more_kinds (λ b. (own-1.entry b.vtable).1.watch b.value) pool it c.loop-place.place
          c.loop-place.invariant.kinds
          (ap (λ (s : Seen). word_of s.kind) seen ∙ c.kind_at.ensures.kind);
    }

pub returns : goal.returns
returns g c = record {
  outcome = λ files told.
      let run = c.serve-status.ensures.outcome files told in
      let ended : c.loop-place.place ≡ 96 = search rules in
      let kinds = c.loop-place.invariant.kinds
      ∙ ap (λ n. map kind_at (range_with_len 0 n)) ended in (
        run.0,
        run.1,
        _,
        run.2,
        run.3,
        by_kinds (contents c.args.words.now) _ _ files _ c.serve-status.result.0 kinds run.4,
      );
  nothing = tt;
}
