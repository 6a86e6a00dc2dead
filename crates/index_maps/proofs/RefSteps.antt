-- What taking a label out of the table leaves.
use Rattle.std.proofs.Common.{◌≡◌, ◌≢◌, ℕ, ◌+◌, ◌-◌, ◌<◌, ◌≤◌, IsTrue, List, [], ◌∷◌, ◌++◌, length}
use Rattle.std.proofs.Common.{get_or, set, slice_get, Option, Some, Contains, sym, ap, subst, ◌∙◌}
use Rattle.std.proofs.Common.{arith, ⊎_elim}
use Rattle.std.specs.Prelude.{IfSome}
use Rattle.std.specs.List.{swap_remove}
use Rattle.std.proofs.lemmas.Bool.{cases_lt}
use Rattle.std.proofs.lemmas.Grind.{common_steps}
use Rattle.std.proofs.lemmas.Option.{slice_get-get_or, get_or_from_slice_get}
use Rattle.observe_core.specs.Held.{Entry, entry_id}
use Rattle.plain_digraph.specs.Rising.{without_item, swapped}
use Rattle.observe_core.specs.Items.{has_id}
use Rattle.columns.specs.Views.{entries_of, entry}
use Rattle.index_maps.specs.declared.cross_ref.CrossRef.{CrossRef}
use Rattle.index_maps.specs.Labels.{Owned, no_label, item_at, label_at, place_of, labelled, IsTied}
use Rattle.index_maps.specs.RefViews.{labels_of, with_label, HasLabel}
use Rattle.index_maps.proofs.LabelLemmas.{holds}
use Rattle.index_maps.proofs.ValueLemmas.{value_of-has}
use Rattle.columns.specs.Views.{entry as at}
use Rattle.index_maps.proofs.TieLemmas.{shorter, removed-moved, put-removed, put-old, tied-replace}
use Rattle.index_maps.proofs.StepLemmas.{label_there, replace-labelled, last-tied, last-labelled}
use Rattle.index_maps.proofs.StepLemmas.{moved-has, moved-tied, moved-labelled}
use Rattle.index_maps.specs.RefSound.{is_own}
use Rattle.index_maps.proofs.RefLemmas.{read_place}

-- the table without the row of a place
taken : (rows now : List Owned) (p : ℕ) (r : Option Owned) → r ≡ slice_get rows p → p < length rows
    → IfSome r (λ q. now ≡ swap_remove rows p q) → now ≡ swap_remove rows p (get_or rows p no_label)
taken rows now p r e l h =
    subst (λ o. IfSome o (λ q. now ≡ swap_remove rows p q)) (e ∙ slice_get-get_or rows p no_label l)
    h

module _ (r : CrossRef) (id place : ℕ) (held : Contains (entries_of r.places) (entry id place))
    (nz : place ≢ 0) where
  pub within : place - 1 < length r.labels.entries
  within = let e = read_place r id place held in let w = r.tied.within id in omega (arith, e, w, nz)

  pub place_is : place_of (entries_of r.places) id ≡ place - 1 + 1
  place_is = let e = read_place r id place held in omega (arith, e, nz)

  back : place - 1 + 1 ≡ place
  back = omega (arith, nz)

  -- the label of its place is its label
  pub place_holds : (q : Owned) → get_or r.labels.entries (place - 1) no_label ≡ q
      → HasLabel id (Some q.0) (labels_of r)
  place_holds q e =
      let table = r.labels.entries in
      let es = entries_of r.places in
      let f = read_place r id place held in
      let l : label_at table (place_of es id) ≡ Some q.0 = ap (label_at table) f
      ∙ label_there table place nz ∙ ap (λ (x : Owned). Some x.0) e in
      subst (λ x. Contains (labelled table es) (with_label id x)) l
      (holds table id es (value_of-has 0 id es (λ z. nz (sym f ∙ z))))

  -- another label put last, and then in its place
  module _ (label : List ℕ) (rows : List Owned) (put : rows ≡ r.labels.entries ++ (label, id) ∷ [])
    where
      pub long : place - 1 < length rows
      long = let x : Owned = (label, id) in let w =
          within in let n : place - 1 < length (r.labels.entries ++ x ∷ []) =
          grind (arith, common_steps, w) in subst (λ rs. place - 1 < length rs) (sym put) n

      pub replaced : (now : List Owned) (res : Option Owned) → res ≡ slice_get rows (place - 1)
          → IfSome res (λ q. now ≡ swap_remove rows (place - 1) q)
          → now ≡ set r.labels.entries (place - 1) (label, id)
      replaced now res e h =
          let p = place - 1 in
          taken rows now p res e long h ∙ ap (λ rs. swap_remove rs p (get_or rows p no_label)) put
          ∙ put-removed r.labels.entries (label, id) (get_or rows p no_label) p within

      pub old_row : (q : Owned) → slice_get rows (place - 1) ≡ Some q
          → get_or r.labels.entries (place - 1) no_label ≡ q
      old_row q e =
          let p = place - 1 in
          let w = within in
          sym (put-old r.labels.entries (label, id) place nz (omega (arith, w, nz)))
          ∙ ap (λ rs. get_or rs p no_label) (sym put)
          ∙ get_or_from_slice_get rows p q no_label e

      pub replaced-tied : (now : List Owned) → now ≡ set r.labels.entries (place - 1) (label, id)
          → IsTied now (place_of (entries_of r.places))
      replaced-tied now e =
          subst (λ rs. IsTied rs (place_of (entries_of r.places))) (sym e)
          (tied-replace r.labels.entries (label, id) (place - 1) within
          (place_of (entries_of r.places)) r.tied place_is)

      pub replaced-labelled : (now : List Owned)
          → now ≡ set r.labels.entries (place - 1) (label, id)
          → labelled now (entries_of r.places)
          ≡ swapped entry_id (with_label id (Some label)) (labels_of r)
      replaced-labelled now e = ap (λ rs. labelled rs (entries_of r.places)) e
          ∙ replace-labelled r.labels.entries (entries_of r.places) r.tied (is_own r) (label, id)
          (place - 1) within place_is

  -- its label taken out
  module _ (now : List Owned) (res : Option Owned)
      (e : res ≡ slice_get r.labels.entries (place - 1))
      (h : IfSome res (λ q. now ≡ swap_remove r.labels.entries (place - 1) q)) where
    abbrev row : Owned
    row = get_or r.labels.entries (place - 1) no_label

    now_is : now ≡ swap_remove r.labels.entries (place - 1) row
    now_is = taken r.labels.entries now (place - 1) res e within h

    fewer : length now + 1 ≡ length r.labels.entries
    fewer = ap (λ rs. length rs + 1) now_is ∙ shorter r.labels.entries row (place - 1) within

    at_end : (place - 1 < length now → ⊥) → length r.labels.entries ≤ place - 1 + 1
    at_end k = ⊎_elim (λ (y : place - 1 < length now). absurd (k y))
        (λ (y : length now ≤ place - 1). let f = fewer in omega (arith, y, f))
        (cases_lt (place - 1) (length now))

    pub ended-tied : (place - 1 < length now → ⊥) → (ps : List (Entry ℕ))
        → ps ≡ without_item entry_id id (entries_of r.places) → IsTied now (place_of ps)
    ended-tied k ps q =
        subst (λ rs. IsTied rs (place_of ps)) (sym now_is)
        (subst (λ xs. IsTied (swap_remove r.labels.entries (place - 1) row) (place_of xs))
        (sym q)
        (last-tied r.labels.entries (entries_of r.places) r.tied (is_own r) row (place - 1) within
        id place_is (at_end k)))

    pub ended-labelled : (place - 1 < length now → ⊥) → (ps : List (Entry ℕ))
        → ps ≡ without_item entry_id id (entries_of r.places)
        → labelled now ps ≡ without_item entry_id id (labels_of r)
    ended-labelled k ps q =
        ap (λ rs. labelled rs ps) now_is
        ∙ ap (labelled (swap_remove r.labels.entries (place - 1) row)) q
        ∙ last-labelled r.labels.entries (entries_of r.places) r.tied (is_own r) row (place - 1)
        within id place_is (at_end k)

    -- and the last label in its place
    module _ (k : place - 1 < length now) (q : Owned) (s : slice_get now (place - 1) ≡ Some q) where
      inner : place - 1 + 1 < length r.labels.entries
      inner = let f = fewer in omega (arith, k, f)

      last_item : item_at r.labels.entries (length r.labels.entries) ≡ q.1
      last_item =
          let p = place - 1 in
          let y : p + 1 - 1 ≡ p = omega arith in
          ap (λ (x : Owned). x.1) (sym (removed-moved r.labels.entries row p within inner)
          ∙ ap (λ n. get_or (swap_remove r.labels.entries p row) n no_label) y
          ∙ ap (λ rs. get_or rs p no_label) (sym now_is)
          ∙ get_or_from_slice_get now p q no_label s)

      pub last_there : IsTrue (has_id entry_id q.1 (entries_of r.places))
      last_there =
          subst (λ i. IsTrue (has_id entry_id i (entries_of r.places))) last_item
          (moved-has r.labels.entries (entries_of r.places) r.tied (is_own r) row (place - 1) within
          id place_is inner)

      same_places : without_item entry_id id (swapped entry_id (entry q.1 place)
          (entries_of r.places))
          ≡ without_item entry_id id
          (swapped entry_id
          (at (item_at r.labels.entries (length r.labels.entries)) (place - 1 + 1))
          (entries_of r.places))
      same_places =
          ap (λ i. without_item entry_id id
          (swapped entry_id (entry i place) (entries_of r.places))) (sym last_item)
          ∙ ap (λ n. without_item entry_id id
          (swapped entry_id (entry (item_at r.labels.entries (length r.labels.entries)) n)
          (entries_of r.places))) (sym back)

      pub shifted-tied : (ps : List (Entry ℕ))
          → ps ≡ without_item entry_id id (swapped entry_id (entry q.1 place) (entries_of r.places))
          → IsTied now (place_of ps)
      shifted-tied ps w =
          subst (λ rs. IsTied rs (place_of ps)) (sym now_is)
          (subst (λ xs. IsTied (swap_remove r.labels.entries (place - 1) row) (place_of xs))
          (sym (w ∙ same_places))
          (moved-tied r.labels.entries (entries_of r.places) r.tied (is_own r) row (place - 1)
          within id place_is inner))

      pub shifted-labelled : (ps : List (Entry ℕ))
          → ps ≡ without_item entry_id id (swapped entry_id (entry q.1 place) (entries_of r.places))
          → labelled now ps ≡ without_item entry_id id (labels_of r)
      shifted-labelled ps w =
          ap (λ rs. labelled rs ps) now_is
          ∙ ap (labelled (swap_remove r.labels.entries (place - 1) row)) (w ∙ same_places)
          ∙ moved-labelled r.labels.entries (entries_of r.places) r.tied (is_own r) row (place - 1)
          within id place_is inner
