use Rattle.std.proofs.Common.{◌<◌, length, None, sym, subst, ◌∙◌}
use Rattle.std.proofs.lemmas.List.{get_or_default}
use Rattle.linked_lists.specs.Links.{HasPlaces, link_at}
use Rattle.plain_digraph.specs.Facts.{fact_id}
use Rattle.observe_core.proofs.ItemLemmas.{without-lacks}
use Rattle.fact_table.specs.Table.{facts_of}
use Rattle.fact_table.specs.TableFacts.{table-rises, table-bounded}
use Rattle.kept_views.specs.Listed.{IsListed}
use Rattle.kept_views.proofs.Linked.{row, leaver_has_places, left_as}
use Rattle.kept_views.proofs.order.Order.leave.Goals as goal

pub returns-in-None-clause-listed : goal.returns-in-None-clause-listed
returns-in-None-clause-listed c =
    let facts = facts_of c.args.table.now in
    subst (IsListed c.args.self.now)
    (sym (without-lacks fact_id c.args.id facts c.in-None.ensures.absent)) c.requires

pub remove-requires-clause-neighbours : goal.remove-requires-clause-neighbours
remove-requires-clause-neighbours c =
    let self = c.args.self.now in
    let table = c.args.table.now in
    let at = c.in-Some.ensures.there in
    subst (λ i. HasPlaces (length self.links.items) (link_at self.links.items i)) at.1
    (leaver_has_places self.listing (facts_of table) c.in-Some.f (table-rises table)
    (table-bounded table) at.0 self.heads.items self.links.items c.requires.rows
    c.requires.linked)

pub returns-clause-listed : goal.returns-clause-listed
returns-clause-listed c =
    let self = c.args.self.now in
    let table = c.args.table.now in
    let f = c.in-Some.f in
    let at = c.in-Some.ensures.there in
    let here = row self.listing (facts_of table) f (table-rises table) (table-bounded table) at.0
    self.heads.items self.links.items c.requires.rows in
    let o = c.owner-owner.ensures in
    let below : c.owner-owner.result < length self.heads.items =
    subst (λ n. n < length self.heads.items) (sym o) here.0 in
    left_as self.listing (facts_of table) f (table-rises table) (table-bounded table) at.0
    self.heads.items self.links.items c.requires.rows c.requires.linked c.requires.few
    c.owner-owner.result
    c.args.id c.remove.new.head c.index.result.now c.remove.new.links.items at.1 o
    (c.index.ensures
    ∙ get_or_default self.heads.items c.owner-owner.result c.index.result.now None below)
    c.remove.ensures.head c.remove.ensures.links
