use Rattle.std.proofs.Common.{◌<◌, ◌≡◌, length, get_or, None, sym, subst, ◌∙◌, arith}
use Rattle.std.proofs.lemmas.List.{get_or_default}
use Rattle.linked_lists.specs.Links.{IsPlace, next_from}
use Rattle.list_digraph.specs.Tables.{AreLinked}
use Rattle.plain_digraph.specs.Facts.{fact_id}
use Rattle.plain_digraph.specs.Rising.{without_item}
use Rattle.observe_core.proofs.ItemLemmas.{without-lacks}
use Rattle.fact_table.specs.Table.{facts_of}
use Rattle.fact_table.specs.TableFacts.{table-rises, table-bounded}
use Rattle.kept_views.specs.Order.{owner_of, ids_at}
use Rattle.kept_views.specs.Listed.{IsListed}
use Rattle.kept_views.proofs.Linked.{row, behind_placed, next_placed, entered_as}
use Rattle.kept_views.proofs.order.Order.enter.Goals as goal

pub returns-in-None-clause-listed : goal.returns-in-None-clause-listed
returns-in-None-clause-listed c =
    let facts = facts_of c.args.table.now in
    subst (IsListed c.args.self.now)
    (without-lacks fact_id c.args.id facts c.in-None.ensures.absent)
    c.requires.listed

pub insert-requires-clause-few : goal.insert-requires-clause-few
insert-requires-clause-few c = omega (arith, c.requires.listed.few)

pub insert-requires-clause-behind : goal.insert-requires-clause-behind
insert-requires-clause-behind c =
    let self = c.args.self.now in
    let table = c.args.table.now in
    let facts = facts_of table in
    let at = c.in-Some.ensures.there in
    let linked = subst (λ i. AreLinked self.heads.items self.links.items
    (ids_at self.listing (without_item fact_id i facts))) (sym at.1) c.requires.listed.linked in
    behind_placed self.listing facts c.in-Some.f (table-rises table) (table-bounded table) at.0
    self.heads.items self.links.items c.requires.rows linked c.behind-behind.result
    c.behind-behind.ensures

pub insert-requires-clause-next : goal.insert-requires-clause-next
insert-requires-clause-next c =
    let self = c.args.self.now in
    let table = c.args.table.now in
    let facts = facts_of table in
    let f = c.in-Some.f in
    let at = c.in-Some.ensures.there in
    let linked = subst (λ i. AreLinked self.heads.items self.links.items
    (ids_at self.listing (without_item fact_id i facts))) (sym at.1) c.requires.listed.linked in
    let here = row self.listing facts f (table-rises table) (table-bounded table) at.0
    self.heads.items self.links.items c.requires.rows in
    let o = c.owner-owner.ensures in
    let below : c.owner-owner.result < length self.heads.items =
    subst (λ n. n < length self.heads.items) (sym o) here.0 in
    let head = c.index.result.now in
    let read : head ≡ get_or self.heads.items (owner_of self.listing f) None =
    c.index.ensures ∙ get_or_default self.heads.items c.owner-owner.result head None below
    ∙ (λ i. get_or self.heads.items (o i) None) in
    subst (λ h. IsPlace (length self.links.items)
    (next_from h self.links.items c.behind-behind.result)) (sym read)
    (next_placed self.listing facts f (table-rises table) (table-bounded table) at.0
    self.heads.items self.links.items c.requires.rows linked c.behind-behind.result
    c.behind-behind.ensures)

pub returns-clause-listed : goal.returns-clause-listed
returns-clause-listed c =
    let self = c.args.self.now in
    let table = c.args.table.now in
    let facts = facts_of table in
    let f = c.in-Some.f in
    let at = c.in-Some.ensures.there in
    let linked = subst (λ i. AreLinked self.heads.items self.links.items
    (ids_at self.listing (without_item fact_id i facts))) (sym at.1) c.requires.listed.linked in
    let here = row self.listing facts f (table-rises table) (table-bounded table) at.0
    self.heads.items self.links.items c.requires.rows in
    let o = c.owner-owner.ensures in
    let below : c.owner-owner.result < length self.heads.items =
    subst (λ n. n < length self.heads.items) (sym o) here.0 in
    entered_as self.listing facts f (table-rises table) (table-bounded table) at.0
    self.heads.items self.links.items c.requires.rows linked c.behind-behind.result
    c.behind-behind.ensures c.requires.listed.few c.owner-owner.result c.args.id
    c.insert.new.head c.index.result.now c.insert.new.links.items at.1 o
    (c.index.ensures
    ∙ get_or_default self.heads.items c.owner-owner.result c.index.result.now None below)
    c.insert.ensures.head c.insert.ensures.links
