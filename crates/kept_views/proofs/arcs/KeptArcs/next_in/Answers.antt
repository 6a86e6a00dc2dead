use Rattle.std.proofs.Common.{◌≡◌, true, ◌∙◌, IsTrue, subst, sym, ap}
use Rattle.plain_digraph.specs.Lists.{after, has}
use Rattle.fact_table.specs.Table.{facts_of}
use Rattle.kept_views.proofs.ItemsLemmas.{has-marked}
use Rattle.kept_views.proofs.WalkLemmas.{in_lists, second_there, second_listed, second_knows}
use Rattle.kept_views.proofs.arcs.KeptArcs.next_in.Goals as goal

pub next-requires : goal.next-requires
next-requires c =
    let k = c.args.self.now in
    second_knows k c.in-Some.order c.in-Some.is c.args.id
    (subst IsTrue (has-marked k.items.marks.items c.args.id (facts_of k.items.table)) c.requires)

pub returns : goal.returns
returns c v at =
    let k = c.args.self.now in
    let o = c.in-Some.order in
    let e = in_lists k o c.in-Some.is v in
    c.next.ensures (facts_of k.items.table) v (second_listed k o c.in-Some.is)
    (subst (λ l. has l c.args.id ≡ true) (sym e) at)
    ∙ ap (λ l. after l c.args.id) e

pub unreachable-requires : goal.unreachable-requires
unreachable-requires c = second_there c.args.self.now c.in-None.is
