use Rattle.std.proofs.Common.{◌∙◌, IsTrue, subst, sym, ap}
use Rattle.plain_digraph.specs.Lists.{after, has}
use Rattle.fact_table.specs.Table.{facts_of}
use Rattle.std.proofs.Common.{◌≡◌, true}
use Rattle.kept_views.proofs.ItemsLemmas.{has-marked}
use Rattle.kept_views.proofs.Undoing.{id_there}
use Rattle.kept_views.proofs.WalkLemmas.{out_lists}
use Rattle.kept_views.proofs.arcs.KeptArcs.next_out.Goals as goal

pub next-requires : goal.next-requires
next-requires c =
    let k = c.args.self.now in
    let fs = facts_of k.items.table in
    (id_there k.items.orders fs c.args.id k.items.ordered
    (subst IsTrue (has-marked k.items.marks.items c.args.id fs) c.requires)).first

pub returns : goal.returns
returns c v at =
    let k = c.args.self.now in
    let e = out_lists k v in
    c.next.ensures (facts_of k.items.table) v k.items.ordered.first
    (subst (λ l. has l c.args.id ≡ true) (sym e) at)
    ∙ ap (λ l. after l c.args.id) e
