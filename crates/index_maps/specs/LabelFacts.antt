-- What is so of a table of labels and the places of its items.
use Rattle.std.proofs.Common.{◌≡◌, ◌≢◌, ℕ, ◌+◌, ◌-◌, ◌<◌, ◌≤◌, IsTrue, List, [], ◌∷◌, length}
use Rattle.std.proofs.Common.{get_or, Option, Some, None, Contains, refl, sym, ap, ◌∙◌, arith}
use Rattle.std.proofs.Common.{⊎_elim}
use Rattle.std.proofs.lemmas.Bool.{cases_eq}
use Rattle.std.proofs.lemmas.Grind.{common_steps}
use Rattle.observe_core.specs.Held.{Entry, entry_id, LacksLabel, HasOwnLabels}
use Rattle.plain_digraph.specs.Lists.{AllOf}
use Rattle.observe_core.specs.Items.{Lacks, rises_from}
use Rattle.observe_core.proofs.ItemLemmas.{rises-lacks}
use Rattle.index_maps.specs.Labels.{Owned, no_label, label_at, place_of, labelled, IsTied}

-- each entry's value is the place of its id
pub own-places : (low : ℕ) (es : List (Entry ℕ)) (c : ℕ → ℕ) → IsTrue (rises_from entry_id low es)
    → ((j : ℕ) → low ≤ j → c j ≡ place_of es j) → AllOf (λ e. c e.id ≡ e.value) es
own-places low [] c h same = tt
own-places low (e ∷ es) c h same =
    let l : low ≤ e.id = grind (arith, common_steps, h) in
    let t : IsTrue (rises_from entry_id (e.id + 1) es) = grind (arith, common_steps, h) in
    let own : place_of (e ∷ es) e.id ≡ e.value = grind (arith, common_steps) in (
      same e.id l ∙ own,
      own-places (e.id + 1) es c t
          (λ j m. same j (omega (arith, l, m))
          ∙ (let d : e.id ≢ j = λ q. absurd (omega (arith, q, m)) in let y : place_of (e ∷ es) j
          ≡ place_of es j = grind (arith, common_steps, d) in y)),
    )

abbrev pub Named : Type 0
Named = Entry (Option (List ℕ))

-- each entry's value is the place of its id
abbrev pub AreOwn : (ℕ → ℕ) → List (Entry ℕ) → Type 0
AreOwn c es = AllOf (λ e. c e.id ≡ e.value) es

pub are-own : (es : List (Entry ℕ)) → IsTrue (rises_from entry_id 0 es) → AreOwn (place_of es) es
are-own es h = own-places 0 es (place_of es) h (λ j l. refl)

-- what a label is found by
pub record IsRead (table : List Owned) (find : List ℕ → Option ℕ) : Type 0 where
  pub there : (p : ℕ) → p < length table
      → find (get_or table p no_label).0 ≡ Some (get_or table p no_label).1
  pub from : (text : List ℕ) (i : ℕ) → find text ≡ Some i → Contains table (text, i)

-- the ids stay
pub labelled-rises : (table : List Owned) (low : ℕ) (es : List (Entry ℕ))
    → IsTrue (rises_from entry_id low es) → IsTrue (rises_from entry_id low (labelled table es))
labelled-rises table low [] h = refl
labelled-rises table low (e ∷ es) h =
    let t : IsTrue (rises_from entry_id (e.id + 1) es) = grind (arith, common_steps, h) in
    let r = labelled-rises table (e.id + 1) es t in
    grind (arith, common_steps, h, r)

module _ (table : List Owned) (es : List (Entry ℕ)) (find : List ℕ → Option ℕ)
    (tied : IsTied table (place_of es)) (read : IsRead table find) where
  -- a label leads to its item
  pub leads : (j : ℕ) (text : List ℕ) → label_at table (place_of es j) ≡ Some text
      → find text ≡ Some j
  leads j text h = ⊎_elim
      (λ (z : place_of es j ≡ 0).
      absurd (let u : None ≡ Some text = ap (label_at table) (sym z) ∙ h in cc))
      (λ (z : place_of es j ≢ 0).
      let n = place_of es j in
      let k : n - 1 < length table = let w = tied.within j in omega (arith, w, z) in
      let y : label_at table n ≡ Some (get_or table (n - 1) no_label).0 =
      grind (arith, common_steps, z) in
      let t : text ≡ (get_or table (n - 1) no_label).0 = let u : Some text
      ≡ Some (get_or table (n - 1) no_label).0 = sym h ∙ y in cc in
      ap find t ∙ read.there (n - 1) k ∙ ap Some (tied.names j z))
      (cases_eq (place_of es j) 0)

  lacks_label : (e : Entry ℕ) (xs : List (Entry ℕ)) (o : Option (List ℕ))
      → place_of es e.id ≡ e.value → Lacks entry_id e.id xs → AreOwn (place_of es) xs
      → label_at table e.value ≡ o → LacksLabel o (labelled table xs)
  lacks_label e xs None p l own q = tt
  lacks_label e xs (Some text) p l own q = go xs l own
    where
      go : (xs : List (Entry ℕ)) → Lacks entry_id e.id xs → AreOwn (place_of es) xs
          → AllOf (λ (x : Named). x.value ≢ Some text) (labelled table xs)
      go [] l own = tt
      go (x ∷ xs) l own = (
        (λ y.
            let a = leads e.id text (ap (label_at table) p ∙ q) in
            let b = leads x.id text (ap (label_at table) own.0 ∙ y) in
            let u : Some x.id ≡ Some e.id = sym b ∙ a in
            l.0 (let v : x.id ≡ e.id = cc in v)),
        go xs l.1 own.1,
      )

  -- labels are one-to-one
  pub own_labels : (low : ℕ) (xs : List (Entry ℕ)) → IsTrue (rises_from entry_id low xs)
      → AreOwn (place_of es) xs → HasOwnLabels (labelled table xs)
  own_labels low [] h own = tt
  own_labels low (e ∷ xs) h own =
      let t : IsTrue (rises_from entry_id (e.id + 1) xs) = grind (arith, common_steps, h) in (
        lacks_label e xs (label_at table e.value) own.0
            (rises-lacks entry_id (e.id + 1) e.id xs t (omega arith)) own.1 refl,
        own_labels (e.id + 1) xs t own.1,
      )
