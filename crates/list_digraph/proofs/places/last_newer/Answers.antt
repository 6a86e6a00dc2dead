use Rattle.std.proofs.Common.{◌≡◌, ◌-◌, ◌<◌, length, get_or, Some, sym, ap, subst, ◌∙◌, arith}
use Rattle.std.proofs.Common.{Option, ℕ}
use Rattle.std.proofs.lemmas.List.{get_or_default}
use Rattle.linked_lists.specs.declared.lists.Link.{Link}
use Rattle.linked_lists.specs.Links.{loose}
use Rattle.list_digraph.specs.declared.rows.ArcRow.{ArcRow}
use Rattle.list_digraph.specs.Tables.{chain}
use Rattle.list_digraph.specs.Places.{no_arc, stamp_on, stamp_in}
use Rattle.list_digraph.proofs.Newer.{Walking, walk_within, walk_stops, walk_goes}
use Rattle.list_digraph.proofs.places.last_newer.Goals as goal

pub index-requires : goal.index-requires
index-requires c =
    let table = c.args.table.now.items in
    let below = walk_within table (stamp_in c.args.side c.args.arcs.now.items) c.args.at
    c.walk.behind c.walk.next c.walk.left c.in-Some.arc
    (chain table (length table) c.args.head) c.walk.invariant c.in-Some.is
    (omega (arith, c.walk-test.true)) in
    omega (arith, below, c.requires.rows, c.args.arcs.now.ok.0)

pub index-requires-in-walk : goal.index-requires-in-walk
index-requires-in-walk c =
    let table = c.args.table.now.items in
    let below = walk_within table (stamp_in c.args.side c.args.arcs.now.items) c.args.at
    c.walk.behind c.walk.next c.walk.left c.in-Some.arc
    (chain table (length table) c.args.head) c.walk.invariant c.in-Some.is
    (omega (arith, c.walk-test.true)) in
    omega (arith, below, c.args.table.now.ok.0)

pub returns-then-stamp-at : goal.returns-then-stamp-at
returns-then-stamp-at c =
    let table = c.args.table.now.items in
    let arcs = c.args.arcs.now.items in
    let whole = chain table (length table) c.args.head in
    let some : 0 < c.walk.left = omega (arith, c.walk-test.true) in
    let below = walk_within table (stamp_in c.args.side arcs) c.args.at c.walk.behind c.walk.next
    c.walk.left c.in-Some.arc whole c.walk.invariant c.in-Some.is some in
    let row : ArcRow = c.index.result.now in
    let is : c.stamp.result ≡ stamp_in c.args.side arcs c.in-Some.arc =
    c.stamp.ensures
    ∙ ap (stamp_on c.args.side)
    (c.index.ensures
    ∙ get_or_default arcs c.in-Some.arc row no_arc (omega (arith, below, c.requires.rows))) in
    walk_stops table (stamp_in c.args.side arcs) c.args.at c.walk.behind c.walk.next c.walk.left
    c.in-Some.arc whole c.walk.invariant c.in-Some.is some
    (omega (arith, is, c.if-stamp-at.true))

pub walk-preserved : goal.walk-preserved
walk-preserved c =
    let table = c.args.table.now.items in
    let arcs = c.args.arcs.now.items in
    let whole = chain table (length table) c.args.head in
    let some : 0 < c.walk.left = omega (arith, c.walk-test.true) in
    let below = walk_within table (stamp_in c.args.side arcs) c.args.at c.walk.behind c.walk.next
    c.walk.left c.in-Some.arc whole c.walk.invariant c.in-Some.is some in
    let row : ArcRow = c.index.result.now in
    let is : c.stamp.result ≡ stamp_in c.args.side arcs c.in-Some.arc =
    c.stamp.ensures
    ∙ ap (stamp_on c.args.side)
    (c.index.ensures
    ∙ get_or_default arcs c.in-Some.arc row no_arc (omega (arith, below, c.requires.rows))) in
    let link : Link = c.index-in-walk.result.now in
    let read : link ≡ get_or table c.in-Some.arc loose = c.index-in-walk.ensures
    ∙ get_or_default table c.in-Some.arc link loose below in
    subst (λ (o : Option ℕ).
    Walking table (stamp_in c.args.side arcs) c.args.at (Some c.in-Some.arc)
    (chain table (c.walk.left - 1) o) whole) (sym c.id-next.ensures)
    (subst (λ (l : Link).
    Walking table (stamp_in c.args.side arcs) c.args.at (Some c.in-Some.arc)
    (chain table (c.walk.left - 1) l.next) whole) (sym read)
    (walk_goes table (stamp_in c.args.side arcs) c.args.at c.walk.behind c.walk.next c.walk.left
    c.in-Some.arc whole c.walk.invariant c.in-Some.is some
    (omega (arith, is, c.if-stamp-at.false))))
