-- What is so of every table of labels.
use Rattle.std.proofs.Common.{◌≤◌, ℕ, List, Option, get_or, arith}
use Rattle.std.proofs.lemmas.Cmp.{nat_list_eq_equiv}
use Rattle.std.proofs.lemmas.Map.Entries.{hash_map_get_place}
use Rattle.std.proofs.lemmas.Map.Views.{hash_map_get_iff}
use Rattle.std.proofs.lemmas.Option.{slice_get-get_or}
use Rattle.std.proofs.lemmas.Slice.Eq.{bytes_eq-Decides}
use Rattle.std.specs.Str.{bytes_eq}
use Rattle.indexmap.specs.IndexMap.{get}
use Rattle.observe_core.specs.Seen.{IsSound, need}
use Rattle.observe_core.specs.Held.{Values, Labels}
use Rattle.observe_core.proofs.SoundLemmas.{map_sound}
use Rattle.columns.specs.Sound.{column-rises}
use Rattle.columns.specs.Views.{entries_of}
use Rattle.index_maps.specs.declared.cross_ref.CrossRef.{CrossRef}
use Rattle.index_maps.specs.Labels.{no_label, place_of}
use Rattle.index_maps.specs.LabelFacts.{IsRead, AreOwn, are-own, labelled-rises, own_labels}
use Rattle.index_maps.specs.RefViews.{labels_of, refs_seen}

-- what a label is found by
abbrev pub finds : CrossRef → List ℕ → Option ℕ
finds r text = get bytes_eq r.labels text

pub is_read : (r : CrossRef) → IsRead r.labels.entries (finds r)
is_read r =
    let table = r.labels.entries in
    record {
      there = λ p l.
          hash_map_get_place nat_list_eq_equiv r.labels p (get_or table p no_label).0
          (get_or table p no_label).1 r.unique (slice_get-get_or table p no_label l);
      from = λ text i h.
          (hash_map_get_iff nat_list_eq_equiv (λ x y. (bytes_eq-Decides x y).0) r.labels r.unique
          text i).0 h;
    }

pub is_own : (r : CrossRef) → AreOwn (place_of (entries_of r.places)) (entries_of r.places)
is_own r = are-own (entries_of r.places) (column-rises r.places.live.items r.places.values.items)

pub refs-sound : (r : CrossRef) → IsSound (refs_seen r)
refs-sound r =
    let table = r.labels.entries in
    let es = entries_of r.places in
    let rises = column-rises r.places.live.items r.places.values.items in
    map_sound (Values Labels (labels_of r)) (
      labelled-rises table 0 es rises,
      own_labels table es (finds r) r.tied (is_read r) 0 es rises (is_own r),
    )

pub refs-reach : (r : CrossRef) → need (refs_seen r) ≤ 0
refs-reach r = omega arith
