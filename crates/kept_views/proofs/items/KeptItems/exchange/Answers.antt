use Rattle.std.proofs.Common.{rules, IsTrue, subst}
use Rattle.fact_table.specs.Table.{facts_of}
use Rattle.kept_views.proofs.ItemsLemmas.{has-marked}
use Rattle.kept_views.proofs.Undoing.{id_there}
use Rattle.kept_views.proofs.items.KeptItems.exchange.Goals as goal

pub returns-in_err-make_room-clause-succeeds : goal.returns-in_err-make_room-clause-succeeds
returns-in_err-make_room-clause-succeeds c there reach =
    let self = c.args.self.now in
    let fs = facts_of self.table in
    let has = subst IsTrue (has-marked self.marks.items c.args.new.id fs) there in
    let o = c.in_err-make_room.ensures.succeeds reach
    (id_there self.orders fs c.args.new.id self.ordered has) in
    search (rules, o)
