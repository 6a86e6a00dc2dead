-- The rows of attributes, by the numbers of their ties.
use Rattle.std.proofs.Common.{◌≡◌, ◌≢◌, ℕ, suc, ◌+◌, ◌<◌, List, [], ◌∷◌, ◌++◌, map, length, refl}
use Rattle.std.proofs.Common.{sym, ap, subst, Option, Some, ◌∙◌, arith, slice_get}
use Rattle.std.specs.Prelude.{option_map, option_and_then}
use Rattle.std.proofs.lemmas.Option.{same_Some}
use Rattle.base_items.specs.declared.items.ItemSort.{ItemSort}
use Rattle.plain_digraph.specs.Lists.{AllOf}
use Rattle.plain_digraph.specs.Rising.{with_item, without_item}
use Rattle.observe_core.specs.Held.{Tie, tie_id}
use Rattle.observe_core.specs.Items.{Lacks}
use Rattle.observe_core.specs.Seen.{Seen}
use Rattle.observe_core.proofs.ItemLemmas.{all-place}
use Rattle.index_maps.specs.TieEntries.{tie_to}
use Rattle.plain_world.specs.Tables.{Name, Named, under}
use Rattle.plain_world.specs.World as plain
use Rattle.desk_world.specs.declared.tables.AttributeRow.{AttributeRow}
use Rattle.desk_world.specs.declared.tables.AttributeRow.TheVariants as rows
use Rattle.desk_world.specs.Columns.{tied_item}
use Rattle.desk_world.specs.Derived.{AreNumbered, IsNumbered, AreOfRows}
use Rattle.desk_world.specs.Plain.{attribute_seen}
use Rattle.desk_world.proofs.Replaced.{value_here, value_there}
use Rattle.desk_world.proofs.Seated.{all_so}
use Rattle.desk_world.proofs.TieLists.{all_dropped}

-- ---- numbers

-- the row is that of no tie of the number
abbrev pub IsApart : ℕ → AttributeRow → Type 0
IsApart k (rows.Plain text) = Unit {0}
IsApart k (rows.Tied sort number) = number ≢ k

abbrev AreApart : ℕ → List (Named AttributeRow) → Type 0
AreApart k table = AllOf (λ (e : Named AttributeRow). IsApart k e.value) table

apart_row : (row : AttributeRow) (place k : ℕ) → IsNumbered place row → place ≢ k → IsApart k row
apart_row (rows.Plain text) place k is apart = tt
apart_row (rows.Tied sort number) place k is apart = λ same. apart (sym is ∙ same)

apart_behind : (place k : ℕ) (table : List (Named AttributeRow)) → AreNumbered place table
    → k < place → AreApart k table
apart_behind place k [] are below = tt
apart_behind place k (e ∷ es) are below = (
  apart_row e.value place k are.0 (λ is. absurd (omega (arith, is, below))),
  apart_behind (suc place) k es are.1 (omega (arith, below)),
)

module _ (name : Name) (was : AttributeRow) (back : List (Named AttributeRow)) (k : ℕ) where
  abbrev Rows : List (Named AttributeRow) → List (Named AttributeRow)
  Rows front = front ++ under name was ∷ back

  -- the number of the row at the place
  pub numbered_here : (place : ℕ) (front : List (Named AttributeRow)) → k ≡ place + length front
      → AreNumbered place (Rows front) → IsNumbered k was
  numbered_here place [] is are =
      let same : place ≡ k = omega (arith, is) in
      subst (λ n. IsNumbered n was) same are.0
  numbered_here place (e ∷ es) is are =
      numbered_here (suc place) es (omega (arith, is)) are.1

  -- the others have other numbers
  pub others_apart : (place : ℕ) (front : List (Named AttributeRow)) → k ≡ place + length front
      → AreNumbered place (Rows front) → AreApart k front × AreApart k back
  others_apart place [] is are = (tt, apart_behind (suc place) k back are.1 (omega (arith, is)))
  others_apart place (e ∷ es) is are =
      let rest = others_apart (suc place) es (omega (arith, is)) are.1 in (
        (
          apart_row e.value place k are.0 (λ same. absurd (omega (arith, is, same))),
          rest.0,
        ),
        rest.1,
      )

  -- with another row at the place
  pub numbered_anew : (row : AttributeRow) → IsNumbered k row
      → (place : ℕ) (front : List (Named AttributeRow)) → k ≡ place + length front
      → AreNumbered place (Rows front) → AreNumbered place (front ++ under name row ∷ back)
  numbered_anew row own place [] is are =
      let same : k ≡ place = omega (arith, is) in
      (subst (λ n. IsNumbered n row) same own, are.1)
  numbered_anew row own place (e ∷ es) is are =
      (are.0, numbered_anew row own (suc place) es (omega (arith, is)) are.1)

-- ---- ties of rows

module _ (front : List (Named AttributeRow)) (name : Name) (was row : AttributeRow)
    (back : List (Named AttributeRow)) where
  abbrev values : AttributeRow → List AttributeRow
  values x = map (λ (e : Named AttributeRow). e.value) (front ++ under name x ∷ back)

  abbrev IsOf : ItemSort → AttributeRow → Tie → Type 0
  IsOf sort x t = slice_get (values x) t.tie ≡ Some (rows.Tied sort t.tie)

  -- a tie of another row
  stays : (sort : ItemSort) (t : Tie) → t.tie ≢ length front → IsOf sort was t → IsOf sort row t
  stays sort t apart is = value_there front name row was back t.tie apart ∙ is

  -- no tie is of a row that leads elsewhere
  none_of : (sort : ItemSort) → (was ≡ rows.Tied sort (length front) → ⊥) → (t : Tie)
      → IsOf sort was t → t.tie ≢ length front
  none_of sort other t is same =
      other (same_Some was (rows.Tied sort (length front))
      (sym (value_here front name was back)
      ∙ subst (λ n. slice_get (values was) n ≡ Some (rows.Tied sort n)) same is))

  -- where the row was that of no tie of the sort, no tie has its number
  pub none_numbered : (sort : ItemSort) (k : ℕ) (ties : List Tie) → k ≡ length front
      → (was ≡ rows.Tied sort (length front) → ⊥)
      → AreOfRows sort (front ++ under name was ∷ back) ties → Lacks tie_id k ties
  none_numbered sort k [] at other are = tt
  none_numbered sort k (t ∷ ts) at other are = (
    λ same. none_of sort other t are.0 (same ∙ at),
    none_numbered sort k ts at other are.1,
  )

  -- and all ties are as before
  pub ties_stay : (sort : ItemSort) (ties : List Tie)
      → (was ≡ rows.Tied sort (length front) → ⊥)
      → AreOfRows sort (front ++ under name was ∷ back) ties
      → AreOfRows sort (front ++ under name row ∷ back) ties
  ties_stay sort ties other are =
      all_so (IsOf sort was) (IsOf sort row)
      (λ t is. stays sort t (none_of sort other t is) is) ties are

  -- a tie of the new row comes
  pub tie_comes : (sort : ItemSort) (id k : ℕ) (ties : List Tie) → k ≡ length front
      → row ≡ rows.Tied sort k
      → (was ≡ rows.Tied sort (length front) → ⊥)
      → AreOfRows sort (front ++ under name was ∷ back) ties
      → AreOfRows sort (front ++ under name row ∷ back) (with_item tie_id (tie_to k id) ties)
  tie_comes sort id k ties at is other are =
      all-place (IsOf sort row) tie_id (tie_to k id) ties
      (ap (slice_get (values row)) at ∙ value_here front name row back ∙ ap Some is)
      (ties_stay sort ties other are)

  -- the tie of the row ends
  pub tie_goes : (sort : ItemSort) (k : ℕ) (ties : List Tie) → k ≡ length front
      → AreOfRows sort (front ++ under name was ∷ back) ties
      → AreOfRows sort (front ++ under name row ∷ back) (without_item tie_id k ties)
  tie_goes sort k ties at are =
      all_so (λ t. IsOf sort was t × (t.tie ≢ k)) (IsOf sort row)
      (λ t left. stays sort t (λ same. left.1 (same ∙ sym at)) left.0)
      (without_item tie_id k ties) (all_dropped k (IsOf sort was) ties are)

-- ---- what the rows lead to

-- where ties of other numbers are as before, so is what other rows lead to
pub apart_alike : (ties later : ItemSort → Option Seen) (k : ℕ)
    → ((sort : ItemSort) (n : ℕ) → n ≢ k
    → option_and_then (λ (s : Seen). tied_item n s.held) (later sort)
    ≡ option_and_then (λ (s : Seen). tied_item n s.held) (ties sort))
    → (table : List (Named AttributeRow)) → AreApart k table
    → AllOf (λ (e : Named AttributeRow). attribute_seen later e.value
    ≡ attribute_seen ties e.value) table
apart_alike ties later k same table all =
    all_so (λ (e : Named AttributeRow). IsApart k e.value)
    (λ (e : Named AttributeRow). attribute_seen later e.value ≡ attribute_seen ties e.value)
    (λ e apart. one e.value apart) table all
  where
    one : (row : AttributeRow) → IsApart k row
        → attribute_seen later row ≡ attribute_seen ties row
    one (rows.Plain text) apart = refl
    one (rows.Tied sort number) apart = ap (option_map (plain.Tied sort)) (same sort number apart)
