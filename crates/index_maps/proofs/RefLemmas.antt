-- What is so of a table of labels.
use Rattle.std.proofs.Common.{◌≡◌, ◌≢◌, ℕ, List, [], ◌∷◌, ◌++◌, Some, None, Result, Ok, Err, OnOk}
use Rattle.std.proofs.Common.{OnErr, Contains, ap, ◌∙◌}
use Rattle.std.specs.Str.{bytes_eq}
use Rattle.indexmap.proofs.CallerLemmas.{insert_entry-new}
use Rattle.indexmap.specs.IndexMap.{insert_entry}
use Rattle.observe_core.specs.Held.{Entry}
use Rattle.observe_core.proofs.ItemLemmas.{all_at}
use Rattle.columns.specs.Views.{entries_of, entry}
use Rattle.index_maps.specs.declared.cross_ref.CrossRef.{CrossRef}
use Rattle.index_maps.specs.Labels.{place_of, label_at}
use Rattle.index_maps.specs.RefSound.{finds, is_read, is_own}
use Rattle.index_maps.specs.RefViews.{labels_of, HasLabel, IsFreeLabel}
use Rattle.index_maps.proofs.LabelLemmas.{held_is, bare, free_absent}

-- from the call of a column over to a table
pub on_ok : {A E : Type 0} {P Q : Type 0} → (r : Result A E) → (P → Q) → OnOk r P → OnOk r Q
on_ok (Ok x) to h = to h
on_ok (Err x) to h = tt

pub either : {A E : Type 0} {P Q R : Type 0} → (r : Result A E) → OnOk r P → OnErr r Q → (P → R)
    → (Q → R) → R
either (Ok x) p q f g = f p
either (Err x) p q f g = g q

module _ (r : CrossRef) (id : ℕ) where
  pub read_place : (place : ℕ) → Contains (entries_of r.places) (entry id place)
      → place_of (entries_of r.places) id ≡ place
  read_place place h =
      all_at (λ (e : Entry ℕ). place_of (entries_of r.places) e.id ≡ e.value) (entry id place)
      (entries_of r.places) (is_own r) h

  -- an item that has a label has a place
  pub has_place : (text : List ℕ) → HasLabel id (Some text) (labels_of r)
      → place_of (entries_of r.places) id ≢ 0
  has_place text h z = let q =
      held_is r.labels.entries id (Some text) (entries_of r.places) (is_own r) h
      ∙ ap (label_at r.labels.entries) z in let u : Some text ≡ None = q in cc

  pub has_none : HasLabel id None (labels_of r) → place_of (entries_of r.places) id ≡ 0
  has_none h =
      bare r.labels.entries (place_of (entries_of r.places) id)
      (held_is r.labels.entries id None (entries_of r.places) (is_own r) h)

-- a new label goes last
pub put_last : (r : CrossRef) (label : List ℕ) (id : ℕ) → IsFreeLabel label (labels_of r)
    → insert_entry bytes_eq r.labels.entries label id ≡ r.labels.entries ++ (label, id) ∷ []
put_last r label id free =
    insert_entry-new bytes_eq r.labels label id
    (free_absent r.labels.entries (entries_of r.places) (finds r) r.tied (is_read r) (is_own r)
    label free)
