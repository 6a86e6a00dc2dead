use Rattle.std.proofs.Common.{◌≡◌, rules, sym, subst}
use Rattle.plain_digraph.specs.Facts.{fact_id}
use Rattle.plain_digraph.specs.Rising.{with_item}
use Rattle.observe_core.specs.declared.changes.Change.TheVariants.{Add}
use Rattle.observe_core.specs.Fits.{Fits}
use Rattle.observe_core.proofs.FitLaws.{fits-added}
use Rattle.fact_table.specs.Table.{facts_of}
use Rattle.graph_tests.proofs.Following.{may_go_back, gone_back}
use Rattle.graph_tests.proofs.followed.add.Goals as goal

pub undo_add-requires : goal.undo_add-requires
undo_add-requires g c =
    let watch = g.O.Observer.watch in
    may_go_back (watch c.args.observer.now) (watch c.add.new.self) (Add c.args.f)
    (c.can_add.ensures.can c.if-not-can_add.false) c.in_default.ensures.told c.add.ensures.reach

pub returns-then-is_err : goal.returns-then-is_err
returns-then-is_err g c =
    let watch = g.O.Observer.watch in
    let back = gone_back (watch c.args.observer.now) (watch c.add.new.self) (Add c.args.f)
    (c.can_add.ensures.can c.if-not-can_add.false) c.in_default.ensures.told c.add.ensures.reach
    (watch c.undo_add.new.self).seen c.undo_add.ensures.untold in
    let same : facts_of c.insert.new.self ≡ facts_of c.args.facts.now = search rules in
    subst (Fits (watch c.undo_add.new.self).seen) (sym same)
    (subst (λ s. Fits s (facts_of c.args.facts.now)) (sym back) c.requires)

pub returns : goal.returns
returns g c =
    let watch = g.O.Observer.watch in
    let s = (watch c.args.observer.now).seen in
    let live = facts_of c.args.facts.now in
    let lacks = c.can_add.ensures.lacks c.if-not-can_add.false in
    let put : facts_of c.insert.new.self ≡ with_item fact_id c.args.f live = search rules in
    subst (Fits (watch c.add.new.self).seen) (sym put)
    (subst (λ s. Fits s (with_item fact_id c.args.f live)) (sym c.in_default.ensures.told)
    (fits-added c.args.f s live c.requires lacks))
