use Rattle.std.proofs.Common.{◌≡◌, ◌≢◌, ◌<◌, ◌-◌, ◌∙◌, true, false, length, Some, Contains, ap, sym}
use Rattle.std.proofs.Common.{subst, inl, arith}
use Rattle.std.specs.Prelude.{IsSome}
use Rattle.std.specs.Option.{option_map}
use Rattle.std.specs.Map.Iter.{deref_pair}
use Rattle.std.proofs.lemmas.Option.{get_or_from_slice_get}
use Rattle.columns.specs.Views.{entries_of}
use Rattle.index_maps.specs.Labels.{Owned, no_label, label_at, labelled, place_of}
use Rattle.index_maps.specs.RefViews.{with_label}
use Rattle.index_maps.proofs.LabelLemmas.{lacks-labelled, holds}
use Rattle.index_maps.proofs.ValueLemmas.{value_of-has}
use Rattle.index_maps.proofs.StepLemmas.{label_there}
use Rattle.index_maps.proofs.RefLemmas.{read_place}
use Rattle.index_maps.proofs.cross_ref.CrossRef.label.Goals as goal

pub returns-in-None : goal.returns-in-None
returns-in-None c =
    inl (lacks-labelled c.args.self.now.labels.entries c.args.id (entries_of c.args.self.now.places)
    c.in-None.ensures)

pub unreachable-requires : goal.unreachable-requires
unreachable-requires c =
    let self = c.args.self.now in
    let e = read_place self c.args.id c.in-Some.place c.in-Some.ensures in
    let w = self.tied.within c.args.id in
    let l : c.in-Some.place - 1 < length self.labels.entries =
    omega (arith, e, w, c.if-place-eq0.false) in
    absurd (let u : false ≡ true =
    subst IsSome c.in-None-get_index.is (c.get_index.ensures.found.1 l) in cc)

pub returns : goal.returns
returns c =
    let self = c.args.self.now in
    let table = self.labels.entries in
    let es = entries_of self.places in
    let id = c.args.id in
    let place = c.in-Some.place in
    let e = read_place self id place c.in-Some.ensures in
    let nz : place_of es id ≢ 0 = λ z. c.if-place-eq0.false (sym e ∙ z) in
    let r = get_or_from_slice_get table (place - 1)
    (c.in-Some-get_index.label.now, c.in-Some-get_index.field-0-1.now) no_label
    (sym c.get_index.ensures.entry ∙ ap (option_map deref_pair) c.in-Some-get_index.is) in
    let l : label_at table (place_of es id) ≡ Some c.in-Some-get_index.label.now =
    ap (label_at table) e ∙ label_there table place c.if-place-eq0.false
    ∙ ap (λ (x : Owned). Some x.0) r in
    subst (λ x. Contains (labelled table es) (with_label id x)) l
    (holds table id es (value_of-has 0 id es nz))
