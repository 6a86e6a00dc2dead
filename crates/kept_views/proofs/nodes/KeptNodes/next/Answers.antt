use Rattle.std.proofs.Common.{◌∙◌, IsTrue, subst, ap}
use Rattle.plain_digraph.specs.Lists.{after}
use Rattle.fact_table.specs.Table.{facts_of}
use Rattle.kept_views.proofs.ItemsLemmas.{has-marked}
use Rattle.kept_views.proofs.Undoing.{id_there}
use Rattle.kept_views.proofs.WalkLemmas.{node_lists, in_all_nodes}
use Rattle.kept_views.proofs.nodes.KeptNodes.next.Goals as goal

pub next-requires : goal.next-requires
next-requires c =
    let k = c.args.self.now in
    let fs = facts_of k.items.table in
    (id_there k.items.orders fs c.args.id k.items.ordered
    (subst IsTrue (has-marked k.items.marks.items c.args.id fs) c.requires)).first

pub returns : goal.returns
returns c =
    let k = c.args.self.now in
    let fs = facts_of k.items.table in
    let there = subst IsTrue (has-marked k.items.marks.items c.args.id fs) c.requires in
    c.next.ensures fs 0 k.items.ordered.first (in_all_nodes k c.args.id there)
    ∙ ap (λ l. after l c.args.id) (node_lists k 0)
