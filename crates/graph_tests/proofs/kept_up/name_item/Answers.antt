use Rattle.std.proofs.Common.{⊎_elim, Some, None}
use Rattle.observe_core.specs.Held.{Labels, entry_id}
use Rattle.observe_core.specs.Items.{Lacks}
use Rattle.observe_core.proofs.ItemLemmas.{lacks-not_has}
use Rattle.fact_table.specs.Table.{facts_of}
use Rattle.index_maps.specs.RefViews.{labels_of, with_label, HasLabel}
use Rattle.graph_tests.proofs.Following.{has_entry, fits_written}
use Rattle.graph_tests.proofs.kept_up.name_item.Goals as goal

pub put-requires-clause-live : goal.put-requires-clause-live
put-requires-clause-live c =
    let es = labels_of c.reserve_label.new.refs in
    let id = c.args.id in
    let has = has_entry id es (facts_of c.args.facts.now) c.in-Some.fact
    c.reserve_label.ensures.fits.held
    c.in-Some.ensures.there in
    ⊎_elim
    (λ (l : Lacks entry_id id es). absurd (let n = lacks-not_has entry_id id es l in cc))
    (λ (h : HasLabel id None es). h)
    c.in-None-label.ensures

pub returns : goal.returns
returns c =
    fits_written Labels (with_label c.args.id (Some c.args.label))
    (labels_of c.reserve_label.new.refs)
    (facts_of c.args.facts.now) _ c.put.ensures.seen c.reserve_label.ensures.fits
