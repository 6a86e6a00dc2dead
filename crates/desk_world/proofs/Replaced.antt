-- A table in which what stands under one name was replaced.
use Rattle.std.proofs.Common.{◌≡◌, ℕ, zero, suc, ◌+◌, Bool, true, false, cond, not, List, [], ◌∷◌}
use Rattle.std.proofs.Common.{◌++◌, map, length, refl, sym, ap, Option, Some, None, ◌∙◌}
use Rattle.std.proofs.Common.{arith, slice_get, position}
use Rattle.std.specs.Prelude.{option_map, option_and_then, find, nat_lt}
use Rattle.std.specs.List.{cons_option, position_or_len}
use Rattle.std.specs.Str.{bytes_eq}
use Rattle.std.proofs.lemmas.Grind.{common_steps}
use Rattle.std.proofs.lemmas.List.{length-append}
use Rattle.std.proofs.lemmas.List.Elements.{filter_map-append}
use Rattle.std.proofs.lemmas.Option.{none-some, same_Some}
use Rattle.std.proofs.lemmas.Slice.Eq.{bytes_eq-Decides}
use Rattle.plain_digraph.specs.Lists.{AllOf}
use Rattle.plain_world.specs.Tables.{Name, Named, under, is_named, entry, with_change}
use Rattle.plain_world.specs.Valid.{NamesDiffer}
use Rattle.desk_world.specs.Looks.{looked}
use Rattle.desk_world.proofs.Changing.{same_rows}
use Rattle.desk_world.proofs.NamedRows.{Stands, IsOther, stands, none_stands}

same_name : (name : Name) → bytes_eq name name ≡ true
same_name name = (bytes_eq-Decides name name).1 refl

pub some_place : (b : Bool) (n k : ℕ) → cond b (Some n) None ≡ Some k → n ≡ k
some_place true n k is = same_Some n k is
some_place false n k is = absurd (none-some k is)

pub no_place : (b : Bool) (n : ℕ) → cond b (Some n) None ≡ None → b ≡ false
no_place true n none = absurd (none-some n (sym none))
no_place false n none = refl

module _ {X : Type 0} where
  -- ---- the place of a name

  place_stands : (name : Name) (x : X) (front back : List (Named X)) → AllOf (IsOther name) front
      → position_or_len (is_named name) (front ++ under name x ∷ back) ≡ length front
  place_stands name x [] back before =
      ap (λ b. cond (not b) (1 + position_or_len (is_named name) back) 0) (same_name name)
  place_stands name x (e ∷ es) back before =
      let rest = place_stands name x es back before.1 in
      let one : 1 + length es ≡ suc (length es) = omega arith in
      (λ i. cond (not (before.0 i)) (1 + rest i) 0) ∙ one

  pub place_of : (table : List (Named X)) (name : Name) (x : X) (k : ℕ)
      → position (is_named name) table ≡ Some k → (at : Stands table name x)
      → k ≡ length at.front
  place_of table name x k found at =
      sym (some_place (nat_lt (position_or_len (is_named name) table) (length table))
      (position_or_len (is_named name) table) k found)
      ∙ ap (position_or_len (is_named name)) at.is
      ∙ place_stands name x at.front at.back at.before

  -- a name that is there has a place
  pub none_place : (table : List (Named X)) (name : Name) (x : X) → Stands table name x
      → position (is_named name) table ≡ None → ⊥
  none_place table name x at none =
      let here = ap (position_or_len (is_named name)) at.is
      ∙ place_stands name x at.front at.back at.before in
      let size = ap length at.is ∙ length-append at.front (under name x ∷ at.back) in
      let one : length (under name x ∷ at.back) ≡ suc (length at.back) = refl in
      let past = no_place (nat_lt (position_or_len (is_named name) table) (length table))
      (position_or_len (is_named name) table) none in
      grind (arith, common_steps, here, size, one, past)

  -- ---- the rows with a change

  others_same : (name : Name) (change : X → X) (table : List (Named X))
      → AllOf (IsOther name) table → with_change table name change ≡ table
  others_same name change [] all = refl
  others_same name change (e ∷ es) all =
      let rest = others_same name change es all.1 in
      λ i. cond (all.0 i) (under e.name (change e.value)) e ∷ rest i

  pub changed_stands : (name : Name) (x : X) (change : X → X) (front back : List (Named X))
      → AllOf (IsOther name) front → AllOf (IsOther name) back
      → with_change (front ++ under name x ∷ back) name change
      ≡ front ++ under name (change x) ∷ back
  changed_stands name x change [] back before behind =
      let others = others_same name change back behind in
      λ i. cond (same_name name i) (under name (change x)) (under name x) ∷ others i
  changed_stands name x change (e ∷ es) back before behind =
      let rest = changed_stands name x change es back before.1 behind in
      λ i. cond (before.0 i) (under e.name (change e.value)) e ∷ rest i

  -- the rows of a table in which the value was replaced
  pub rows_replaced : (table rows : List (Named X)) (name : Name) (was x : X)
      → (at : Stands table name was) → rows ≡ with_change table name (λ _. x)
      → rows ≡ at.front ++ under name x ∷ at.back
  rows_replaced table rows name was x at is =
      is ∙ ap (λ t. with_change t name (λ _. x)) at.is
      ∙ changed_stands name was (λ _. x) at.front at.back at.before at.behind

  -- ---- its values by their places

  pub value_here : (front : List (Named X)) (name : Name) (x : X) (back : List (Named X))
      → slice_get (map (λ (e : Named X). e.value) (front ++ under name x ∷ back)) (length front)
      ≡ Some x
  value_here [] name x back = refl
  value_here (e ∷ es) name x back = value_here es name x back

  pub value_there : (front : List (Named X)) (name : Name) (x y : X) (back : List (Named X)) (k : ℕ)
      → (k ≡ length front → ⊥)
      → slice_get (map (λ (e : Named X). e.value) (front ++ under name x ∷ back)) k
      ≡ slice_get (map (λ (e : Named X). e.value) (front ++ under name y ∷ back)) k
  value_there [] name x y back zero apart = absurd (apart refl)
  value_there [] name x y back (suc k) apart = refl
  value_there (e ∷ es) name x y back zero apart = refl
  value_there (e ∷ es) name x y back (suc k) apart =
      value_there es name x y back k (λ is. apart (ap suc is))

  -- ---- what stands under a name

  pub others_entry : (name : Name) (table : List (Named X)) → AllOf (IsOther name) table
      → entry table name ≡ None
  others_entry name [] all = refl
  others_entry name (e ∷ es) all =
      ap (λ b. option_map (λ (f : Named X). f.value) (cond b (Some e) (find (is_named name) es)))
      all.0
      ∙ others_entry name es all.1

  pub entry_stands : (name : Name) (x : X) (front back : List (Named X))
      → AllOf (IsOther name) front → entry (front ++ under name x ∷ back) name ≡ Some x
  entry_stands name x [] back before =
      ap (λ b. option_map (λ (f : Named X). f.value)
      (cond b (Some (under name x)) (find (is_named name) back))) (same_name name)
  entry_stands name x (e ∷ es) back before =
      ap (λ b. option_map (λ (f : Named X). f.value)
      (cond b (Some e) (find (is_named name) (es ++ under name x ∷ back)))) before.0
      ∙ entry_stands name x es back before.1

-- ---- what the rows lead to

module _ {X Y : Type 0} where
  looked_others : (look : X → Option Y) (name : Name) (table : List (Named X))
      → AllOf (IsOther name) table → AllOf (IsOther name) (looked look table)
  looked_others look name [] all = tt
  looked_others look name (e ∷ es) all = by (look e.value) (looked_others look name es all.1)
    where
      by : (o : Option Y) → AllOf (IsOther name) (looked look es)
          → AllOf (IsOther name) (cons_option (option_map (under e.name) o) (looked look es))
      by None rest = rest
      by (Some y) rest = (all.0, rest)

  -- rows in two parts, and one between them
  looked_parts : (look : X → Option Y) (front : List (Named X)) (e : Named X)
      (back : List (Named X))
      → looked look (front ++ e ∷ back)
      ≡ looked look front ++ cons_option (option_map (under e.name) (look e.value))
      (looked look back)
  looked_parts look front e back =
      filter_map-append (λ (row : Named X). option_map (under row.name) (look row.value)) front
      (e ∷ back)

  -- what stands under a name is what its row leads to, where no name stands twice
  pub entry_looked : (look : X → Option Y) (table : List (Named X)) (name : Name)
      → NamesDiffer table
      → entry (looked look table) name ≡ option_and_then look (entry table name)
  entry_looked look table name differ = by (entry table name) refl
    where
      led : (x : X) (at : Stands table name x) (o : Option Y) → look x ≡ o
          → entry (looked look at.front ++ cons_option (option_map (under name) o)
          (looked look at.back)) name ≡ o
      led x at None is =
          others_both (looked look at.front) (looked look at.back)
          (looked_others look name at.front at.before) (looked_others look name at.back at.behind)
        where
          others_both : (xs ys : List (Named Y)) → AllOf (IsOther name) xs
              → AllOf (IsOther name) ys → entry (xs ++ ys) name ≡ None
          others_both [] ys a b = others_entry name ys b
          others_both (x ∷ xs) ys a b =
              ap (λ t. option_map (λ (f : Named Y). f.value)
              (cond t (Some x) (find (is_named name) (xs ++ ys)))) a.0
              ∙ others_both xs ys a.1 b
      led x at (Some y) is =
          entry_stands name y (looked look at.front) (looked look at.back)
          (looked_others look name at.front at.before)

      by : (o : Option X) → entry table name ≡ o
          → entry (looked look table) name ≡ option_and_then look o
      by None found =
          others_entry name (looked look table)
          (looked_others look name table (none_stands name table found))
      by (Some x) found =
          let at = stands table name x differ found in
          ap (λ t. entry (looked look t) name) at.is
          ∙ ap (λ t. entry t name) (looked_parts look at.front (under name x) at.back)
          ∙ led x at (look x) refl

  -- the row of the name leads to what the change makes of what it led to, and the others lead to
  -- what they led to
  pub row_changed : (look later : X → Option Y) (name : Name) (front back : List (Named X))
      (was row : X) (y : Y) (change : Y → Y) → look was ≡ Some y → later row ≡ Some (change y)
      → AllOf (IsOther name) front → AllOf (IsOther name) back
      → AllOf (λ (e : Named X). later e.value ≡ look e.value) front
      → AllOf (λ (e : Named X). later e.value ≡ look e.value) back
      → looked later (front ++ under name row ∷ back)
      ≡ with_change (looked look (front ++ under name was ∷ back)) name change
  row_changed look later name front back was row y change leads then before behind fore hind =
      let fronts = same_rows look later front fore in
      let backs = same_rows look later back hind in
      looked_parts later front (under name row) back
      ∙ (λ i. fronts i ++ cons_option (option_map (under name) (then i)) (backs i))
      ∙ sym (changed_stands name y change (looked look front) (looked look back)
      (looked_others look name front before) (looked_others look name back behind))
      ∙ sym (ap (λ t. with_change t name change) (looked_parts look front (under name was) back
      ∙ ap (λ o. looked look front ++ cons_option (option_map (under name) o) (looked look back))
      leads))
