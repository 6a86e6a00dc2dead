use Rattle.std.proofs.Common.{◌≡◌, ◌≢◌, ◌-◌, ◌<◌, ◌∙◌, ⊎_elim, true, false, Some, ap, sym, subst}
use Rattle.std.proofs.Common.{length, slice_get, refl}
use Rattle.std.specs.Prelude.{IsSome}
use Rattle.std.specs.Option.{option_map}
use Rattle.std.specs.Map.Iter.{deref_pair}
use Rattle.std.proofs.lemmas.Bool.{cases_eq}
use Rattle.observe_core.specs.Held.{entry_id}
use Rattle.plain_digraph.specs.Rising.{without_item}
use Rattle.observe_core.proofs.ItemLemmas.{without-lacks}
use Rattle.columns.specs.Views.{entries_of}
use Rattle.index_maps.specs.Labels.{Owned, place_of, labelled}
use Rattle.index_maps.specs.RefViews.{labels_of, holding_labels}
use Rattle.index_maps.proofs.ValueLemmas.{value_of-gone, value_of-without}
use Rattle.index_maps.proofs.TieLemmas.{tied-same}
use Rattle.index_maps.proofs.LabelLemmas.{lacks-labelled, labelled-without}
use Rattle.index_maps.proofs.RefLemmas.{read_place}
use Rattle.index_maps.proofs.RefSteps.{ended-tied, ended-labelled, last_there, shifted-tied}
use Rattle.index_maps.proofs.RefSteps.{shifted-labelled}
use Rattle.index_maps.proofs.cross_ref.CrossRef.take.Goals as goal

pub returns-in-None-clause-seen : goal.returns-in-None-clause-seen
returns-in-None-clause-seen c =
    let self = c.args.self.now in
    ap holding_labels
    (sym (without-lacks entry_id c.args.id (labels_of self)
    (lacks-labelled self.labels.entries c.args.id (entries_of self.places) c.in-None.ensures)))

-- without label
pub invariant_of-self : goal.invariant_of-self
invariant_of-self c =
    let self = c.args.self.now in
    let id = c.args.id in
    let es = entries_of self.places in
    let e = read_place self id c.in-Some.place c.in-Some.ensures in
    record {
      tied = tied-same self.labels.entries (place_of es) (place_of (entries_of c.take.new.self))
          (λ j. ap (λ xs. place_of xs j) c.take.ensures.entries ∙ ⊎_elim
          (λ (q : j ≡ id). ap (place_of (without_item entry_id id es)) q ∙ value_of-gone 0 id es
          ∙ sym (ap (place_of es) q ∙ e ∙ c.if-place-eq0.true))
          (λ (d : j ≢ id). value_of-without 0 id j es d)
          (cases_eq j id))
          self.tied;
      unique = self.unique;
    }

pub returns-then-place-eq0-clause-seen : goal.returns-then-place-eq0-clause-seen
returns-then-place-eq0-clause-seen c =
    let self = c.args.self.now in
    ap holding_labels
    (ap (labelled self.labels.entries) c.take.ensures.entries
    ∙ labelled-without self.labels.entries c.args.id (entries_of self.places))

-- with the last label
pub invariant_of-self-in-None-get_index : goal.invariant_of-self-in-None-get_index
invariant_of-self-in-None-get_index c =
    let self = c.args.self.now in
    let place = c.in-Some.place in
    let now = c.swap_remove_index.new.self.entries in
    let k : place - 1 < length now → ⊥ = λ l.
    absurd (let u : false ≡ true =
    subst IsSome c.in-None-get_index.is (c.get_index.ensures.found.1 l) in cc) in
    record {
      tied = ended-tied self c.args.id place c.in-Some.ensures c.if-place-eq0.false now
          c.swap_remove_index.result c.swap_remove_index.ensures.entry
          c.swap_remove_index.ensures.entries k
          (entries_of c.take-in-None-get_index.new.self) c.take-in-None-get_index.ensures.entries;
      unique = c.swap_remove_index.ensures.unique;
    }

pub returns-in-None-get_index-clause-seen : goal.returns-in-None-get_index-clause-seen
returns-in-None-get_index-clause-seen c =
    let self = c.args.self.now in
    let place = c.in-Some.place in
    let now = c.swap_remove_index.new.self.entries in
    let k : place - 1 < length now → ⊥ = λ l.
    absurd (let u : false ≡ true =
    subst IsSome c.in-None-get_index.is (c.get_index.ensures.found.1 l) in cc) in
    ap holding_labels
    (ended-labelled self c.args.id place c.in-Some.ensures c.if-place-eq0.false now
    c.swap_remove_index.result c.swap_remove_index.ensures.entry
    c.swap_remove_index.ensures.entries k
    (entries_of c.take-in-None-get_index.new.self) c.take-in-None-get_index.ensures.entries)

-- with another than the last
pub set-requires : goal.set-requires
set-requires c =
    let self = c.args.self.now in
    let place = c.in-Some.place in
    let now = c.swap_remove_index.new.self.entries in
    let q : Owned = (c.in-Some-get_index.field-0-0.now, c.in-Some-get_index.moved.now) in
    let k : place - 1 < length now =
    c.get_index.ensures.found.0 (subst IsSome (sym c.in-Some-get_index.is) refl) in
    let s : slice_get now (place - 1) ≡ Some q = sym c.get_index.ensures.entry
    ∙ ap (option_map deref_pair) c.in-Some-get_index.is in
    last_there self c.args.id place c.in-Some.ensures c.if-place-eq0.false now
    c.swap_remove_index.result c.swap_remove_index.ensures.entry
    c.swap_remove_index.ensures.entries k q s

pub invariant_of-self-in-Some-get_index : goal.invariant_of-self-in-Some-get_index
invariant_of-self-in-Some-get_index c =
    let self = c.args.self.now in
    let place = c.in-Some.place in
    let now = c.swap_remove_index.new.self.entries in
    let q : Owned = (c.in-Some-get_index.field-0-0.now, c.in-Some-get_index.moved.now) in
    let k : place - 1 < length now =
    c.get_index.ensures.found.0 (subst IsSome (sym c.in-Some-get_index.is) refl) in
    let s : slice_get now (place - 1) ≡ Some q = sym c.get_index.ensures.entry
    ∙ ap (option_map deref_pair) c.in-Some-get_index.is in
    record {
      tied = shifted-tied self c.args.id place c.in-Some.ensures c.if-place-eq0.false now
          c.swap_remove_index.result c.swap_remove_index.ensures.entry
          c.swap_remove_index.ensures.entries k q s
          (entries_of c.take-in-Some-get_index.new.self)
          (c.take-in-Some-get_index.ensures.entries
          ∙ ap (without_item entry_id c.args.id) c.set.ensures.entries);
      unique = c.swap_remove_index.ensures.unique;
    }

pub returns-in-Some-get_index-clause-seen : goal.returns-in-Some-get_index-clause-seen
returns-in-Some-get_index-clause-seen c =
    let self = c.args.self.now in
    let place = c.in-Some.place in
    let now = c.swap_remove_index.new.self.entries in
    let q : Owned = (c.in-Some-get_index.field-0-0.now, c.in-Some-get_index.moved.now) in
    let k : place - 1 < length now =
    c.get_index.ensures.found.0 (subst IsSome (sym c.in-Some-get_index.is) refl) in
    let s : slice_get now (place - 1) ≡ Some q = sym c.get_index.ensures.entry
    ∙ ap (option_map deref_pair) c.in-Some-get_index.is in
    ap holding_labels
    (shifted-labelled self c.args.id place c.in-Some.ensures c.if-place-eq0.false now
    c.swap_remove_index.result c.swap_remove_index.ensures.entry
    c.swap_remove_index.ensures.entries k q s
    (entries_of c.take-in-Some-get_index.new.self)
    (c.take-in-Some-get_index.ensures.entries
    ∙ ap (without_item entry_id c.args.id) c.set.ensures.entries))
