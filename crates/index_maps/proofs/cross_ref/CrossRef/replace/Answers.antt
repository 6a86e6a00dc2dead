use Rattle.std.proofs.Common.{◌≢◌, ◌-◌, ◌∙◌, Some, ap, sym, arith}
use Rattle.std.proofs.lemmas.Option.{slice_get-get_or}
use Rattle.columns.specs.Views.{entries_of}
use Rattle.index_maps.specs.Labels.{Owned, no_label}
use Rattle.index_maps.specs.RefViews.{holding_labels}
use Rattle.index_maps.proofs.LabelLemmas.{held_has}
use Rattle.index_maps.proofs.RefLemmas.{read_place, has_place, put_last}
use Rattle.index_maps.proofs.RefSteps.{long, replaced, old_row, replaced-tied, replaced-labelled}
use Rattle.index_maps.proofs.RefSteps.{place_holds}
use Rattle.index_maps.proofs.cross_ref.CrossRef.replace.Goals as goal

pub get-place-requires : goal.get-place-requires
get-place-requires c =
    held_has c.args.self.now.labels.entries c.args.id (Some c.requires.labelled.0)
    (entries_of c.args.self.now.places) c.requires.labelled.1

pub overflow_sub-place : goal.overflow_sub-place
overflow_sub-place c =
    let self = c.args.self.now in
    let e = read_place self c.args.id c.get-place.result c.get-place.ensures in
    let z = has_place self c.args.id c.requires.labelled.0 c.requires.labelled.1 in
    omega (arith, e, z)

pub invariant_of-self : goal.invariant_of-self
invariant_of-self c =
    let self = c.args.self.now in
    let label = c.args.label in
    let id = c.args.id in
    let place = c.get-place.result in
    let nz : place ≢ 0 = λ z.
    has_place self id c.requires.labelled.0 c.requires.labelled.1
    (read_place self id place c.get-place.ensures ∙ z) in
    let rows = c.insert.new.self.entries in
    let put = c.in-Ok.ensures.entries ∙ put_last self label id c.requires.free in
    let now = c.swap_remove_index.new.self.entries in
    let e = replaced self id place c.get-place.ensures nz label rows put now
    c.swap_remove_index.result c.swap_remove_index.ensures.entry
    c.swap_remove_index.ensures.entries in
    record {
      tied =
          replaced-tied self id place c.get-place.ensures nz label rows put now e;
      unique =
          c.swap_remove_index.ensures.unique;
    }

pub unreachable-requires-in-None : goal.unreachable-requires-in-None
unreachable-requires-in-None c =
    let self = c.args.self.now in
    let label = c.args.label in
    let id = c.args.id in
    let place = c.get-place.result in
    let nz : place ≢ 0 = λ z.
    has_place self id c.requires.labelled.0 c.requires.labelled.1
    (read_place self id place c.get-place.ensures ∙ z) in
    let rows = c.insert.new.self.entries in
    let put = c.in-Ok.ensures.entries ∙ put_last self label id c.requires.free in
    let there = slice_get-get_or rows (place - 1) no_label
    (long self id place c.get-place.ensures nz label rows put) in
    let none = sym c.in-None.is ∙ c.swap_remove_index.ensures.entry ∙ there in
    absurd cc

pub returns-clause-seen : goal.returns-clause-seen
returns-clause-seen c =
    let self = c.args.self.now in
    let label = c.args.label in
    let id = c.args.id in
    let place = c.get-place.result in
    let nz : place ≢ 0 = λ z.
    has_place self id c.requires.labelled.0 c.requires.labelled.1
    (read_place self id place c.get-place.ensures ∙ z) in
    let rows = c.insert.new.self.entries in
    let put = c.in-Ok.ensures.entries ∙ put_last self label id c.requires.free in
    let now = c.swap_remove_index.new.self.entries in
    let e = replaced self id place c.get-place.ensures nz label rows put now
    c.swap_remove_index.result c.swap_remove_index.ensures.entry
    c.swap_remove_index.ensures.entries in
    ap holding_labels (replaced-labelled self id place c.get-place.ensures nz label rows put now e)

pub returns-clause-old : goal.returns-clause-old
returns-clause-old c =
    let self = c.args.self.now in
    let label = c.args.label in
    let id = c.args.id in
    let place = c.get-place.result in
    let nz : place ≢ 0 = λ z.
    has_place self id c.requires.labelled.0 c.requires.labelled.1
    (read_place self id place c.get-place.ensures ∙ z) in
    let rows = c.insert.new.self.entries in
    let put = c.in-Ok.ensures.entries ∙ put_last self label id c.requires.free in
    let q : Owned = (c.in-Some.old, c.in-Some.field-0-1) in
    place_holds self id place c.get-place.ensures nz q
    (old_row self id place c.get-place.ensures nz label rows put q
    (sym c.swap_remove_index.ensures.entry ∙ c.in-Some.is))
