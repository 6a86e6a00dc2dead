use Rattle.std.proofs.Common.{sym, subst}
use Rattle.plain_digraph.specs.Facts.{fact_id}
use Rattle.plain_digraph.specs.Rising.{swapped}
use Rattle.observe_core.specs.Fits.{Fits}
use Rattle.observe_core.proofs.FitLaws.{fits-shifted}
use Rattle.fact_table.specs.Table.{facts_of}
use Rattle.graph_tests.proofs.Guarding.{live_table}
use Rattle.graph_tests.proofs.followed.shift.Goals as goal

pub returns : goal.returns
returns g c =
    let watch = g.O.Observer.watch in
    let s = (watch c.args.observer.now).seen in
    let t = c.args.facts.now in
    let live = facts_of t in
    let old = c.in-Some.old in
    let new = c.args.new in
    subst (Fits (watch c.shift.new.self).seen) (sym c.replace.ensures.swapped)
    (subst (λ s. Fits s (swapped fact_id new live)) (sym c.in_default-shift.ensures.told)
    (fits-shifted old new s live c.requires (live_table t) c.in-Some.ensures.there
    (sym c.in-Some.ensures.same)
    c.in-Some.ensures.differs))
