-- Items with their labels.
use Rattle.std.proofs.Common.{◌≡◌, ◌≢◌, ℕ, suc, ◌+◌, ◌-◌, true, ◌==◌, if◌then◌else◌, IsTrue, List}
use Rattle.std.proofs.Common.{[], ◌∷◌, get_or, Option, Some, None, Contains, refl, sym, ap, subst}
use Rattle.std.proofs.Common.{◌∙◌, arith, ⊎_elim}
use Rattle.std.specs.Prelude.{MatchOption}
use Rattle.std.proofs.lemmas.Bool.{cases_eq}
use Rattle.std.proofs.lemmas.Grind.{common_steps}
use Rattle.observe_core.specs.Held.{Entry, entry_id, LacksLabel}
use Rattle.plain_digraph.specs.Rising.{with_item, without_item, swapped}
use Rattle.plain_digraph.specs.Lists.{AllOf}
use Rattle.observe_core.specs.Items.{Lacks, has_id}
use Rattle.observe_core.proofs.ItemLemmas.{all_at, contains-has}
use Rattle.index_maps.specs.Labels.{Owned, no_label, label_at, place_of, named, labelled, IsTied}
use Rattle.index_maps.specs.RefViews.{with_label}
use Rattle.index_maps.specs.LabelFacts.{Named, AreOwn, IsRead, leads}
use Rattle.columns.proofs.ColumnLemmas.{read-value}
use Rattle.index_maps.proofs.ValueLemmas.{value_of-has}
use Rattle.columns.specs.Views.{entry as at}

pub lacks-labelled : (table : List Owned) (i : ℕ) (es : List (Entry ℕ)) → Lacks entry_id i es
    → Lacks entry_id i (labelled table es)
lacks-labelled table i [] h = tt
lacks-labelled table i (e ∷ es) h = (h.0, lacks-labelled table i es h.1)

pub labelled-lacks : (table : List Owned) (i : ℕ) (es : List (Entry ℕ))
    → Lacks entry_id i (labelled table es) → Lacks entry_id i es
labelled-lacks table i [] h = tt
labelled-lacks table i (e ∷ es) h = (h.0, labelled-lacks table i es h.1)

has-labelled : (table : List Owned) (i : ℕ) (es : List (Entry ℕ))
    → has_id entry_id i (labelled table es) ≡ has_id entry_id i es
has-labelled table i [] = refl
has-labelled table i (e ∷ es) = ap (λ b. if e.id == i then true else b) (has-labelled table i es)

-- what an item has
pub holds : (table : List Owned) (i : ℕ) (es : List (Entry ℕ)) → IsTrue (has_id entry_id i es)
    → Contains (labelled table es) (with_label i (label_at table (place_of es i)))
holds table i [] h = cc
holds table i (e ∷ es) h = ⊎_elim
    (λ (q : e.id ≡ i).
    let v : place_of (e ∷ es) e.id ≡ e.value = grind (arith, common_steps) in
    subst (λ n. Contains (labelled table (e ∷ es))
    (with_label n (label_at table (place_of (e ∷ es) n)))) q
    (0, omega arith, ap (λ n. with_label e.id (label_at table n)) (sym v)))
    (λ (d : e.id ≢ i).
    let t : IsTrue (has_id entry_id i es) = grind (arith, common_steps, h, d) in
    let v : place_of (e ∷ es) i ≡ place_of es i = grind (arith, common_steps, d) in
    let r = subst (λ n. Contains (labelled table es) (with_label i (label_at table n))) (sym v)
    (holds table i es t) in
    (suc r.0, omega (arith, r.1), r.2))
    (cases_eq e.id i)

labels_are : (table : List Owned) (c : ℕ → ℕ) (es : List (Entry ℕ)) → AreOwn c es
    → AllOf (λ (x : Named). x.value ≡ label_at table (c x.id)) (labelled table es)
labels_are table c [] h = tt
labels_are table c (e ∷ es) h = (ap (label_at table) (sym h.0), labels_are table c es h.1)

-- an item that has this is there, with the label of its place
pub held_has : (table : List Owned) (i : ℕ) (label : Option (List ℕ)) (es : List (Entry ℕ))
    → Contains (labelled table es) (with_label i label) → IsTrue (has_id entry_id i es)
held_has table i label es h = sym (has-labelled table i es)
    ∙ contains-has entry_id (with_label i label) (labelled table es) h

pub held_is : (table : List Owned) (i : ℕ) (label : Option (List ℕ)) (es : List (Entry ℕ))
    → AreOwn (place_of es) es → Contains (labelled table es) (with_label i label)
    → label ≡ label_at table (place_of es i)
held_is table i label es own h =
    all_at (λ (x : Named). x.value ≡ label_at table (place_of es x.id)) (with_label i label)
    (labelled table es) (labels_are table (place_of es) es own) h

-- a place without label is 0
pub bare : (table : List Owned) (n : ℕ) → None ≡ label_at table n → n ≡ 0
bare table n h = ⊎_elim
    (λ (z : n ≡ 0). z)
    (λ (z : n ≢ 0). let y : label_at table n ≡ Some (get_or table (n - 1) no_label).0 =
    grind (arith, common_steps, z) in absurd
    (let u : None ≡ Some (get_or table (n - 1) no_label).0 = h ∙ y in cc))
    (cases_eq n 0)

-- one item has another label
pub relabelled : (table now : List Owned) (i v : ℕ) (label : Option (List ℕ)) (c : ℕ
    → ℕ) (es : List (Entry ℕ)) → label_at now v ≡ label
    → ((j : ℕ) → j ≢ i → label_at now (c j) ≡ label_at table (c j)) → AreOwn c es
    → labelled now (swapped entry_id (at i v) es)
    ≡ swapped entry_id (with_label i label) (labelled table es)
relabelled table now i v label c [] new same own = refl
relabelled table now i v label c (e ∷ es) new same own =
    let r = relabelled table now i v label c es new same own.1 in
    ⊎_elim
    (λ (q : e.id ≡ i). grind (arith, common_steps, q, r, new))
    (λ (d : e.id ≢ i).
    let k : label_at now e.value ≡ label_at table e.value = ap (label_at now) (sym own.0)
    ∙ same e.id d ∙ ap (label_at table) own.0 in
    let f : named now e ≡ named table e = ap (with_label e.id) k in
    grind (arith, common_steps, d, r, f))
    (cases_eq e.id i)

pub unmoved : (i : ℕ) (c : ℕ → ℕ) (es : List (Entry ℕ)) → AreOwn c es
    → swapped entry_id (at i (c i)) es ≡ es
unmoved i c [] own = refl
unmoved i c (e ∷ es) own =
    let r = unmoved i c es own.1 in
    ⊎_elim
    (λ (q : e.id ≡ i). let f : at i (c i) ≡ e =
    subst (λ n. at n (c n) ≡ e) q (ap (at e.id) own.0) in grind (arith, common_steps, q, r, f))
    (λ (d : e.id ≢ i). grind (arith, common_steps, d, r))
    (cases_eq e.id i)

-- an item less, and another place of the moved label
pub removed : (table now : List Owned) (i m v : ℕ) (c : ℕ → ℕ) (es : List (Entry ℕ))
    → ((j : ℕ) → j ≢ i → j ≢ m → label_at now (c j) ≡ label_at table (c j))
    → (m ≢ i → label_at now v ≡ label_at table (c m)) → AreOwn c es
    → labelled now (without_item entry_id i (swapped entry_id (at m v) es))
    ≡ without_item entry_id i (labelled table es)
removed table now i m v c [] same moved own = refl
removed table now i m v c (e ∷ es) same moved own =
    let r = removed table now i m v c es same moved own.1 in
    ⊎_elim
    (λ (q : e.id ≡ i). ⊎_elim
    (λ (p : e.id ≡ m). let z : m ≡ i = sym p ∙ q in grind (arith, common_steps, q, p, z, r))
    (λ (p : e.id ≢ m). grind (arith, common_steps, q, p, r))
    (cases_eq e.id m))
    (λ (d : e.id ≢ i). ⊎_elim
    (λ (p : e.id ≡ m).
    let z : m ≢ i = λ y. d (p ∙ y) in
    let k : label_at now v ≡ label_at table e.value = moved z
    ∙ ap (λ n. label_at table (c n)) (sym p) ∙ ap (label_at table) own.0 in
    let f : named now (at m v) ≡ named table e =
    subst (λ n. with_label n (label_at now v) ≡ named table e) p (ap (with_label e.id) k) in
    grind (arith, common_steps, d, p, z, r, f))
    (λ (p : e.id ≢ m).
    let k : label_at now e.value ≡ label_at table e.value = ap (label_at now) (sym own.0)
    ∙ same e.id d p ∙ ap (label_at table) own.0 in
    let f : named now e ≡ named table e = ap (with_label e.id) k in
    grind (arith, common_steps, d, p, r, f))
    (cases_eq e.id m))
    (cases_eq e.id i)

pub labelled-without : (table : List Owned) (i : ℕ) (es : List (Entry ℕ))
    → labelled table (without_item entry_id i es) ≡ without_item entry_id i (labelled table es)
labelled-without table i [] = refl
labelled-without table i (e ∷ es) = let r =
    labelled-without table i es in grind (arith, common_steps, r)

pub labelled-place : (table : List Owned) (i : ℕ) (es : List (Entry ℕ))
    → labelled table (with_item entry_id (at i 0) es)
    ≡ with_item entry_id (with_label i None) (labelled table es)
labelled-place table i [] = refl
labelled-place table i (e ∷ es) = let r =
    labelled-place table i es in grind (arith, common_steps, r)

module _ (table : List Owned) (es : List (Entry ℕ)) (find : List ℕ → Option ℕ)
    (tied : IsTied table (place_of es)) (read : IsRead table find) (own : AreOwn (place_of es) es)
  where
    -- a label that is found is its item's
    pub found_holds : (text : List ℕ) (i : ℕ) → find text ≡ Some i
        → Contains (labelled table es) (with_label i (Some text))
    found_holds text i h =
        let at_row = read.from text i h in
        let p = at_row.0 in
        let row : get_or table p no_label ≡ (text, i) =
        read-value p (text, i) no_label table at_row.1 (sym at_row.2) in
        let back : p + 1 - 1 ≡ p = omega arith in
        let same : get_or table (p + 1 - 1) no_label ≡ (text, i) =
        ap (λ q. get_or table q no_label) back ∙ row in
        let n : place_of es i ≡ p + 1 = ap (place_of es) (sym (ap (λ (r : Owned). r.1) same))
        ∙ tied.found p at_row.1 in
        let there = value_of-has 0 i es (λ z. absurd (omega (arith, z, n))) in
        let nz : p + 1 ≢ 0 = λ z. absurd (omega (arith, z)) in
        let y : label_at table (p + 1) ≡ Some (get_or table (p + 1 - 1) no_label).0 =
        grind (arith, common_steps, nz) in
        let l : label_at table (place_of es i) ≡ Some text = ap (label_at table) n ∙ y
        ∙ ap (λ (r : Owned). Some r.0) same in
        subst (λ x. Contains (labelled table es) (with_label i x)) l (holds table i es there)

    pub none_free : (text : List ℕ) → find text ≡ None → LacksLabel (Some text) (labelled table es)
    none_free text h = go (labelled table es) (labels_are table (place_of es) es own)
      where
        go : (xs : List Named)
            → AllOf (λ (x : Named). x.value ≡ label_at table (place_of es x.id)) xs
            → AllOf (λ (x : Named). x.value ≢ Some text) xs
        go [] a = tt
        go (x ∷ xs) a = (
          (λ e. let u : None ≡ Some x.id = sym h
              ∙ leads table es find tied read x.id text (sym a.0 ∙ e) in cc),
          go xs a.1,
        )

    pub finder : (text : List ℕ) (o : Option ℕ) → find text ≡ o
        → MatchOption o (LacksLabel (Some text) (labelled table es))
        (λ i. Contains (labelled table es) (with_label i (Some text)))
    finder text None h = none_free text h
    finder text (Some i) h = found_holds text i h

    pub free_absent : (text : List ℕ) → LacksLabel (Some text) (labelled table es)
        → find text ≡ None
    free_absent text free = go (find text) refl
      where
        go : (o : Option ℕ) → find text ≡ o → find text ≡ None
        go None e = e
        go (Some i) e =
            absurd (all_at (λ (x : Named). x.value ≢ Some text) (with_label i (Some text))
            (labelled table es) free (found_holds text i e) refl)
