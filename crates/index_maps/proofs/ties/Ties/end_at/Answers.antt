use Rattle.std.proofs.Common.{◌≡◌, ◌≢◌, ◌+◌, ◌∙◌, ap, sym, subst}
use Rattle.plain_digraph.specs.Rising.{without_item}
use Rattle.observe_core.specs.Held.{entry_id, tied_id}
use Rattle.observe_core.specs.Items.{HoldsOnly}
use Rattle.observe_core.proofs.ItemLemmas.{holds_only}
use Rattle.columns.specs.Sound.{column-rises}
use Rattle.columns.specs.Views.{entries_of, entry}
use Rattle.index_maps.specs.TieEntries.{ties_in, HasNoneBelow}
use Rattle.index_maps.proofs.TiedLemmas.{none-lacks, none-other, none-ended, rest-ended}
use Rattle.index_maps.proofs.ties.Ties.end_at.Goals as goal

pub returns-in-None-clause-ended : goal.returns-in-None-clause-ended
returns-in-None-clause-ended c =
    none-lacks c.args.tie c.args.id (entries_of c.args.self.now.column) c.in-None.ensures

pub returns-then-item-id-clause-rest : goal.returns-then-item-id-clause-rest
returns-then-item-id-clause-rest c =
    let column = c.args.self.now.column in
    let es = entries_of column in
    let n = c.args.tie in
    let only = holds_only entry_id 0 (entry n c.in-Some.item) es
    (column-rises column.live.items column.values.items) c.in-Some.ensures in
    let same : c.in-Some.item ≡ c.args.id = c.if-item-id.true in
    ap (λ xs. without_item tied_id c.args.id (ties_in xs)) c.take.ensures.entries
    ∙ rest-ended n c.args.id es (subst (λ v. HoldsOnly entry_id (entry n v) es) same only)

pub returns-then-item-id-clause-ended : goal.returns-then-item-id-clause-ended
returns-then-item-id-clause-ended c h =
    let n = c.args.tie in
    subst (λ xs. HasNoneBelow (n + 1) c.args.id (ties_in xs)) (sym c.take.ensures.entries)
    (none-ended n c.args.id (entries_of c.args.self.now.column) h)

pub returns-else-item-id-clause-ended : goal.returns-else-item-id-clause-ended
returns-else-item-id-clause-ended c =
    let column = c.args.self.now.column in
    let es = entries_of column in
    let n = c.args.tie in
    let only = holds_only entry_id 0 (entry n c.in-Some.item) es
    (column-rises column.live.items column.values.items) c.in-Some.ensures in
    let other : c.in-Some.item ≢ c.args.id = c.if-item-id.false in
    none-other n c.args.id c.in-Some.item es other only
