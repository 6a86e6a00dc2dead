use Rattle.std.proofs.Common.{◌∙◌, ap}
use Rattle.columns.specs.Views.{entries_of}
use Rattle.index_maps.specs.Labels.{place_of, labelled}
use Rattle.index_maps.specs.RefViews.{holding_labels}
use Rattle.index_maps.proofs.ValueLemmas.{value_of-more}
use Rattle.index_maps.proofs.TieLemmas.{tied-same}
use Rattle.index_maps.proofs.RefLemmas.{on_ok, either}
use Rattle.index_maps.proofs.LabelLemmas.{labelled-lacks, labelled-place}
use Rattle.index_maps.proofs.cross_ref.CrossRef.add_item.Goals as goal

pub put-requires : goal.put-requires
put-requires c = labelled-lacks c.args.self.now.labels.entries c.args.id _ c.requires.free

pub invariant_of-self : goal.invariant_of-self
invariant_of-self c =
    let self = c.args.self.now in
    let table = self.labels.entries in
    let es = entries_of self.places in
    let now = entries_of c.put.new.self in
    let lacks = labelled-lacks table c.args.id es c.requires.free in
    record {
      tied = tied-same table (place_of es) (place_of now)
          (λ j. either c.put.result c.put.ensures.ok c.put.ensures.err
          (λ q. ap (λ xs. place_of xs j) q ∙ value_of-more 0 c.args.id j es lacks)
          (λ q. ap (λ xs. place_of xs j) q))
          self.tied;
      unique = self.unique;
    }

pub returns-clause-ok : goal.returns-clause-ok
returns-clause-ok c =
    let self = c.args.self.now in
    let table = self.labels.entries in
    on_ok c.put.result
    (λ q. ap holding_labels
    (ap (labelled table) q ∙ labelled-place table c.args.id (entries_of self.places)))
    c.put.ensures.ok
