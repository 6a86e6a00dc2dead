use Rattle.std.proofs.Common.{◌≡◌, ◌<◌, ◌≤◌, ◌-◌, length, get_or, Some, None, sym, subst, ◌∙◌}
use Rattle.std.proofs.Common.{arith, Option, ℕ}
use Rattle.std.proofs.lemmas.List.{get_or_default}
use Rattle.linked_lists.specs.declared.lists.Link.{Link}
use Rattle.linked_lists.specs.Links.{loose, link_at}
use Rattle.plain_digraph.specs.Facts.{fact_id}
use Rattle.plain_digraph.specs.Rising.{without_item}
use Rattle.fact_table.specs.Table.{facts_of}
use Rattle.fact_table.specs.TableFacts.{table-rises}
use Rattle.kept_views.specs.Order.{owner_of, rank, items_at}
use Rattle.kept_views.proofs.Walk.{Walking}
use Rattle.kept_views.proofs.Behind.{starts, never_missing, stops, id_below, goes}
use Rattle.kept_views.proofs.order.Order.behind.Goals as goal

pub walk-init : goal.walk-init
walk-init c =
    let self = c.args.self.now in
    let table = c.args.table.now in
    let f = c.args.f.now in
    let whole = items_at self.listing (owner_of self.listing f)
    (without_item fact_id f.id (facts_of table)) in
    let o = c.owner-owner.ensures in
    let room = c.requires.room in
    let below : c.owner-owner.result < length self.heads.items = omega (arith, o, room) in
    let head = c.index-next.result.now in
    let read : head ≡ get_or self.heads.items (owner_of self.listing f) None =
    c.index-next.ensures
    ∙ get_or_default self.heads.items c.owner-owner.result head None below
    ∙ (λ i. get_or self.heads.items (o i) None) in
    let size : length self.links.items ≡ c.len-left.result =
    omega (arith, c.len-left.ensures, self.links.ok.0) in
    subst (λ n. Walking self.listing f whole None head n) size
    (starts self.listing (facts_of table) f (table-rises table) self.heads.items self.links.items
    c.requires.listed room head read)

pub returns-in-None-get : goal.returns-in-None-get
returns-in-None-get c =
    let self = c.args.self.now in
    let table = c.args.table.now in
    absurd (never_missing self.listing (facts_of table) c.args.f.now (table-rises table)
    self.heads.items self.links.items c.requires.listed c.requires.room c.walk.behind c.walk.next
    c.walk.left c.in-Some.id c.walk.invariant c.in-Some.is c.in-None-get.ensures.absent)

pub returns-then-rank : goal.returns-then-rank
returns-then-rank c =
    let self = c.args.self.now in
    let table = c.args.table.now in
    let at = c.in-Some-get.ensures.there in
    let low : rank self.listing c.in-Some-get.item ≤ rank self.listing c.args.f.now =
    omega (arith, c.rank.ensures, c.rank-rank.ensures, c.if-rank.true) in
    stops self.listing (facts_of table) c.args.f.now (table-rises table) self.heads.items
    self.links.items c.requires.listed c.requires.room c.walk.behind c.walk.next c.walk.left
    c.in-Some.id c.walk.invariant c.in-Some.is c.in-Some-get.item at.0 at.1 low

pub index-requires : goal.index-requires
index-requires c =
    let self = c.args.self.now in
    let table = c.args.table.now in
    let at = c.in-Some-get.ensures.there in
    let b = id_below self.listing (facts_of table) c.args.f.now (table-rises table)
    self.heads.items self.links.items c.requires.listed c.requires.room c.walk.behind c.walk.next
    c.walk.left c.in-Some.id c.walk.invariant c.in-Some.is c.in-Some-get.item at.0 at.1 in
    omega (arith, b, self.links.ok.0)

pub walk-preserved : goal.walk-preserved
walk-preserved c =
    let self = c.args.self.now in
    let table = c.args.table.now in
    let f = c.args.f.now in
    let whole = items_at self.listing (owner_of self.listing f)
    (without_item fact_id f.id (facts_of table)) in
    let at = c.in-Some-get.ensures.there in
    let b = id_below self.listing (facts_of table) f (table-rises table)
    self.heads.items self.links.items c.requires.listed c.requires.room c.walk.behind c.walk.next
    c.walk.left c.in-Some.id c.walk.invariant c.in-Some.is c.in-Some-get.item at.0 at.1 in
    let high : rank self.listing f < rank self.listing c.in-Some-get.item =
    omega (arith, c.rank.ensures, c.rank-rank.ensures, c.if-rank.false) in
    let some : 0 < c.walk.left = omega (arith, c.walk-test.true) in
    let link : Link = c.index.result.now in
    let read : link ≡ link_at self.links.items c.in-Some.id =
    c.index.ensures ∙ get_or_default self.links.items c.in-Some.id link loose b in
    subst (λ (o : Option ℕ). Walking self.listing f whole (Some c.in-Some.id) o (c.walk.left - 1))
    (sym c.id-next.ensures)
    (subst (λ (k : Link). Walking self.listing f whole (Some c.in-Some.id) k.next (c.walk.left - 1))
    (sym read)
    (goes self.listing (facts_of table) f (table-rises table) self.heads.items self.links.items
    c.requires.listed c.requires.room c.walk.behind c.walk.next c.walk.left c.in-Some.id
    c.walk.invariant c.in-Some.is c.in-Some-get.item at.0 at.1 high some))
