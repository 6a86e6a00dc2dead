-- An index that is filled from a map of bools, item by item.
use Rattle.std.proofs.Common.{◌≡◌, ℕ, ◌+◌, ◌<◌, ◌≤◌, Bool, true, false, cond, List, ◌∷◌, map, refl}
use Rattle.std.proofs.Common.{[]}
use Rattle.std.proofs.Common.{sym, ap, subst, ◌∙◌, Some, None, inl, inr, arith, is_some}
use Rattle.std.specs.Prelude.{IsTrue, ◌&&◌, nat_lt, nat_le}
use Rattle.std.proofs.lemmas.Bool.{cases_eq, eq-eqb, ne_eqb, cases_lt, lt-ltb, le-ltb}
use Rattle.std.proofs.lemmas.Option.{none-some}
use Rattle.base_items.specs.declared.items.Fact.{Fact}
use Rattle.base_items.specs.declared.items.ItemSort.{ItemSort}
use Rattle.plain_digraph.specs.Digraph.{Digraph}
use Rattle.plain_digraph.specs.Facts.{fact_id}
use Rattle.plain_digraph.specs.Items.{fact_of, facts, used_of}
use Rattle.plain_digraph.specs.Lists.{AllOf}
use Rattle.plain_digraph.specs.Rising.{swapped}
use Rattle.plain_digraph.specs.Valid.{IsValid}
use Rattle.plain_digraph.proofs.Live.{fact_of-has, listed_below}
use Rattle.plain_digraph.proofs.Rows.{fact_of-id}
use Rattle.plain_digraph.proofs.SameLists.{facts_are_whole}
use Rattle.observe_core.specs.Held.{Entry, entry_id}
use Rattle.observe_core.specs.Items.{HoldsOnly, number_id, rises_from}
use Rattle.observe_core.proofs.ItemLemmas.{holds_only}
use Rattle.columns.specs.Views.{entry as with_value}
use Rattle.value_maps.specs.Entries.{HasValue}
use Rattle.alter_graph.proofs.Listing.{all_in, range_rises}

-- each item below the id has its bool, and no other is true yet
abbrev pub filled : ℕ → List (Entry Bool) → List (Entry Bool)
filled n es = map (λ e. cond (nat_lt e.id n) e (with_value e.id false)) es

-- ---- the entries

abbrev first : List ℕ → ℕ
first [] = 0
first (n ∷ ns) = n

abbrev others : List ℕ → List ℕ
others [] = []
others (n ∷ ns) = ns

abbrev IsEmpty : List ℕ → Type 0
IsEmpty [] = Unit {0}
IsEmpty (n ∷ ns) = ⊥

no_more : (n : ℕ) (ns : List ℕ) → [] ≡ n ∷ ns → ⊥
no_more n ns e = subst IsEmpty e tt

pub fill_starts : (ts es : List (Entry Bool)) → map entry_id ts ≡ map entry_id es
    → AllOf (λ (e : Entry Bool). e.value ≡ false) ts → ts ≡ filled 0 es
fill_starts [] [] same all = refl
fill_starts [] (e ∷ es) same all = absurd (no_more e.id (map entry_id es) same)
fill_starts (t ∷ ts) [] same all = absurd (no_more t.id (map entry_id ts) (sym same))
fill_starts (t ∷ ts) (e ∷ es) same all =
    let rest = fill_starts ts es (ap others same) all.1 in
    let id : t.id ≡ e.id = ap first same in
    (λ i. with_value (id i) (all.0 i) ∷ rest i)
    ∙ ap (λ b. cond b e (with_value e.id false) ∷ filled 0 es) (sym (le-ltb e.id 0 (omega arith)))

-- an item of another id is as it was
pub passed : (n id : ℕ) → (id ≡ n → ⊥) → nat_lt id (n + 1) ≡ nat_lt id n
passed n id apart = elim (cases_lt id n) [
  | inl below ↦
      lt-ltb id (n + 1) (omega (arith, below)) ∙ sym (lt-ltb id n below)
  | inr above ↦
      let over : n + 1 ≤ id = elim (cases_eq id n) [
        | inl same ↦ absurd (apart same)
        | inr other ↦ omega (arith, above, other)
      ] in
      le-ltb id (n + 1) over ∙ sym (le-ltb id n above)
]

pub fill_passes : (n : ℕ) (es : List (Entry Bool)) → AllOf (λ (e : Entry Bool). e.id ≡ n → ⊥) es
    → filled n es ≡ filled (n + 1) es
fill_passes n [] all = refl
fill_passes n (e ∷ es) all =
    let rest = fill_passes n es all.1 in
    λ i. cond (sym (passed n e.id all.0) i) e (with_value e.id false) ∷ rest i

pub fill_steps : (n : ℕ) (value : Bool) (es : List (Entry Bool))
    → HoldsOnly entry_id (with_value n value) es
    → swapped entry_id (with_value n value) (filled n es) ≡ filled (n + 1) es
fill_steps n value [] only = refl
fill_steps n value (e ∷ es) only =
    let rest = fill_steps n value es only.1 in
    let x : Entry Bool = cond (nat_lt e.id n) e (with_value e.id false) in
    let id : x.id ≡ e.id = elim (nat_lt e.id n) as (λ b.
    entry_id (cond b e (with_value e.id false)) ≡ e.id) [
      | true ↦ refl
      | false ↦ refl
    ] in
    elim (cases_eq e.id n) [
      | inl same ↦
          ap (λ b. cond b (with_value n value) x ∷ swapped entry_id (with_value n value)
          (filled n es)) (eq-eqb x.id n (id ∙ same))
          ∙ (λ i. sym (only.0 same) i ∷ rest i)
          ∙ ap (λ b. cond b e (with_value e.id false) ∷ filled (n + 1) es)
          (sym (lt-ltb e.id (n + 1) (omega (arith, same))))
      | inr other ↦
          ap (λ b. cond b (with_value n value) x ∷ swapped entry_id (with_value n value)
          (filled n es)) (ne_eqb x.id n (λ is. other (sym id ∙ is)))
          ∙ (λ i. cond (sym (passed n e.id other) i) e (with_value e.id false) ∷ rest i)
    ]

pub fill_ends : (n : ℕ) (es : List (Entry Bool)) → AllOf (λ (e : Entry Bool). e.id < n) es
    → filled n es ≡ es
fill_ends n [] all = refl
fill_ends n (e ∷ es) all =
    let rest = fill_ends n es all.1 in
    λ i. cond (lt-ltb e.id n all.0 i) e (with_value e.id false) ∷ rest i

-- ---- the ids of live items

all_map : {X Y : Type 0} (P : Y → Type 0) (f : X → Y) (xs : List X) → AllOf (λ x. P (f x)) xs
    → AllOf P (map f xs)
all_map P f [] all = tt
all_map P f (x ∷ xs) all = (all.0, all_map P f xs all.1)

pub map_all : {X Y : Type 0} (P : Y → Type 0) (f : X → Y) (xs : List X) → AllOf P (map f xs)
    → AllOf (λ x. P (f x)) xs
map_all P f [] all = tt
map_all P f (x ∷ xs) all = (all.0, map_all P f xs all.1)

rise_by : {X : Type 0} (id_of : X → ℕ) (low : ℕ) (xs : List X)
    → rises_from id_of low xs ≡ rises_from number_id low (map id_of xs)
rise_by id_of low [] = refl
rise_by id_of low (x ∷ xs) =
    ap (λ b. nat_le low (id_of x) && b) (rise_by id_of (id_of x + 1) xs)

module _ (g : Digraph) (sort : ItemSort) (valid : IsValid g) (es : List (Entry Bool))
    (ids : map entry_id es ≡ map fact_id (facts g sort)) where
  over_facts : (P : ℕ → Type 0)
      → ((fact : Fact) → fact_of g sort fact.id ≡ Some fact → P fact.id)
      → AllOf (λ (e : Entry Bool). P e.id) es
  over_facts P so =
      map_all P entry_id es
      (subst (AllOf P) (sym ids)
      (all_map P fact_id (facts g sort)
      (all_in (λ fact. P fact.id) (facts g sort)
      (λ fact at. so fact ((facts_are_whole g sort fact valid).0 at)))))

  -- each is below the bound
  pub ids_below : AllOf (λ (e : Entry Bool). e.id < used_of g sort) es
  ids_below =
      over_facts (λ id. id < used_of g sort)
      (λ fact told. listed_below g sort fact.id valid
      (sym (fact_of-has g sort fact.id valid) ∙ ap is_some told))

  -- an id of which nothing is told is that of none
  pub ids_apart : (n : ℕ) → fact_of g sort n ≡ None → AllOf (λ (e : Entry Bool). e.id ≡ n → ⊥) es
  ids_apart n none =
      over_facts (λ id. id ≡ n → ⊥)
      (λ fact told same. none-some fact (sym none ∙ ap (fact_of g sort) (sym same) ∙ told))

  ids_rise : IsTrue (rises_from entry_id 0 es)
  ids_rise =
      subst (λ b. IsTrue b)
      (rise_by fact_id 0 (facts g sort) ∙ ap (rises_from number_id 0) (sym ids)
      ∙ sym (rise_by entry_id 0 es))
      (range_rises (fact_of g sort) (fact_of-id g sort) 0 (used_of g sort))

  -- an item has one value
  pub one_value : (id : ℕ) (value : Bool) → HasValue id value es
      → HoldsOnly entry_id (with_value id value) es
  one_value id value at = holds_only entry_id 0 (with_value id value) es ids_rise at
