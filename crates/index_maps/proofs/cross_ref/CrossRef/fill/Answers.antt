use Rattle.std.proofs.Common.{◌≡◌, ◌∙◌, [], ap, sym}
use Rattle.columns.specs.Views.{entries_of}
use Rattle.index_maps.specs.Labels.{place_of, labelled}
use Rattle.index_maps.specs.RefViews.{holding_labels}
use Rattle.index_maps.proofs.TieLemmas.{tied-same}
use Rattle.index_maps.proofs.BuildLemmas.{none_labelled, told_places, told_labelled}
use Rattle.index_maps.proofs.RefLemmas.{on_ok, either}
use Rattle.index_maps.proofs.cross_ref.CrossRef.fill.Goals as goal

pub fill-requires-clause-empty : goal.fill-requires-clause-empty
fill-requires-clause-empty c =
    none_labelled c.args.self.now.labels.entries (entries_of c.args.self.now.places)
    c.requires.empty

pub invariant_of-self : goal.invariant_of-self
invariant_of-self c =
    let self = c.args.self.now in
    let es = entries_of self.places in
    let none : es ≡ [] = none_labelled self.labels.entries es c.requires.empty in
    record {
      tied = tied-same self.labels.entries (place_of es) (place_of (entries_of c.fill.new.self))
          (λ j. either c.fill.result c.fill.ensures.ok c.fill.ensures.err
          (λ q. ap (λ xs. place_of xs j) q ∙ told_places j c.args.all.now
          ∙ sym (ap (λ xs. place_of xs j) none))
          (λ q. ap (λ xs. place_of xs j) (q ∙ sym none)))
          self.tied;
      unique = self.unique;
    }

pub returns-clause-ok : goal.returns-clause-ok
returns-clause-ok c =
    let table = c.args.self.now.labels.entries in
    on_ok c.fill.result
    (λ q. ap holding_labels (ap (labelled table) q ∙ told_labelled table c.args.all.now []))
    c.fill.ensures.ok
