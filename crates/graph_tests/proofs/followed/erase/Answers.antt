use Rattle.std.proofs.Common.{◌≡◌, rules, sym, subst}
use Rattle.plain_digraph.specs.Facts.{fact_id}
use Rattle.plain_digraph.specs.Rising.{without_item}
use Rattle.observe_core.specs.Conditions.{HasSmallCounts}
use Rattle.observe_core.specs.Fits.{Fits}
use Rattle.observe_core.proofs.FitLaws.{fits-erased}
use Rattle.fact_table.specs.Table.{facts_of}
use Rattle.graph_tests.proofs.Guarding.{live_table}
use Rattle.graph_tests.proofs.Following.{may_erase}
use Rattle.graph_tests.proofs.followed.erase.Goals as goal

pub erase-requires : goal.erase-requires
erase-requires g c =
    let s = (g.O.Observer.watch c.args.observer.now).seen in
    let small : HasSmallCounts s = search rules in
    may_erase s c.args.facts.now c.requires small c.in-Some.fact c.in-Some.ensures.there.0

pub returns : goal.returns
returns g c =
    let was = g.O.Observer.watch c.args.observer.now in
    let s = was.seen in
    let t = c.args.facts.now in
    let f = c.in-Some.fact in
    let there = c.in-Some.ensures.there in
    let fits = fits-erased f s (facts_of t) c.requires (live_table t) was.sound there.0 in
    let taken = subst (λ i. facts_of c.remove.new.self ≡ without_item fact_id i (facts_of t))
    (sym there.1)
    c.remove.ensures.taken in
    subst (Fits (g.O.Observer.watch c.erase.new.self).seen) (sym taken)
    (subst (λ s. Fits s (without_item fact_id f.id (facts_of t))) (sym c.erase.ensures.told) fits)
