-- Rows under their names, from the entries of a map.
use Rattle.std.proofs.Common.{◌≡◌, Bool, true, false, cond, List, [], ◌∷◌, ◌++◌, map, filter}
use Rattle.std.proofs.Common.{Option}
use Rattle.std.proofs.Common.{Some, None, refl, sym, ap, subst, ◌∙◌, is_some}
use Rattle.std.specs.Prelude.{ℕ, suc, ◌+◌, length, nat_lt, not, option_map, find, position}
use Rattle.std.specs.Str.{bytes_eq}
use Rattle.std.specs.Cmp.{both_ways}
use Rattle.std.specs.List.{AllByRecursion, IsDistinct, position_or_len}
use Rattle.std.specs.Map.{lookup, remove_entry, set_value, keys_of}
use Rattle.std.proofs.lemmas.Bool.{true≢false, or_from}
use Rattle.std.proofs.lemmas.Slice.Eq.{bytes_eq-Decides}
use Rattle.token_text.specs.Names.{is_among, has_twice}
use Rattle.plain_world.specs.Tables.{Name, Named, under, is_named, entry, has_entry}
use Rattle.plain_world.specs.Tables.{with_change, without_entry}
use Rattle.plain_world.specs.Valid.{NamesDiffer}
use Rattle.desk_names.specs.Rows.{rows_of}

-- names are compared either way round
pub same_back : (a b : Name) → bytes_eq a b ≡ bytes_eq b a
same_back a b =
    both_ways (bytes_eq a b) (bytes_eq b a)
    (λ e. (bytes_eq-Decides b a).1 (sym ((bytes_eq-Decides a b).0 e)))
    (λ e. (bytes_eq-Decides a b).1 (sym ((bytes_eq-Decides b a).0 e)))

module _ {V : Type 0} where
  pub entry_found : (name : Name) (es : List (Name × V))
      → lookup (bytes_eq name) es ≡ entry (rows_of es) name
  entry_found name [] = refl
  entry_found name (e ∷ es) =
      let rest = entry_found name es in
      ap (λ b. cond b (Some e.1) (lookup (bytes_eq name) es)) (same_back name e.0)
      ∙ elim (bytes_eq e.0 name) as (λ b. cond b (Some e.1) (lookup (bytes_eq name) es)
      ≡ option_map (λ (n : Named V). n.value)
      (cond b (Some (under e.0 e.1)) (find (is_named name) (rows_of es)))) [
        | true ↦ refl
        | false ↦ rest
      ]

  -- the place of a key is that of the name
  same_place : (name : Name) (es : List (Name × V))
      → position_or_len (bytes_eq name) (keys_of es) ≡ position_or_len (is_named name) (rows_of es)
  same_place name [] = refl
  same_place name (e ∷ es) =
      let rest = same_place name es in
      λ i. cond (not (same_back name e.0 i)) (1 + rest i) 0

  same_length : (es : List (Name × V)) → length (keys_of es) ≡ length (rows_of es)
  same_length [] = refl
  same_length (e ∷ es) =
      let rest = same_length es in
      ap suc rest

  pub place_found : (name : Name) (es : List (Name × V))
      → position (bytes_eq name) (keys_of es) ≡ position (is_named name) (rows_of es)
  place_found name es =
      let at = same_place name es in
      let size = same_length es in
      λ i. cond (nat_lt (at i) (size i)) (Some (at i)) None

  pub rows_pushed : (es : List (Name × V)) (name : Name) (value : V)
      → rows_of (es ++ (name, value) ∷ []) ≡ rows_of es ++ under name value ∷ []
  rows_pushed [] name value = refl
  rows_pushed (e ∷ es) name value =
      let rest = rows_pushed es name value in
      λ i. under e.0 e.1 ∷ rest i

  -- a name that isn't among them takes none out
  stays : (name first : Name) (es : List (Name × V)) → bytes_eq name first ≡ true
      → AllByRecursion (λ y. bytes_eq first y ≡ false) (keys_of es)
      → without_entry (rows_of es) name ≡ rows_of es
  stays name first [] same apart = refl
  stays name first (e ∷ es) same apart =
      let rest = stays name first es same apart.1 in
      let is : name ≡ first = (bytes_eq-Decides name first).0 same in
      let other : bytes_eq e.0 name ≡ false =
      same_back e.0 name ∙ ap (λ n. bytes_eq n e.0) is ∙ apart.0 in
      ap (λ b. cond (not b) (under e.0 e.1 ∷ without_entry (rows_of es) name)
      (without_entry (rows_of es) name)) other
      ∙ ap (λ more. under e.0 e.1 ∷ more) rest

  pub rows_removed : (name : Name) (es : List (Name × V)) → IsDistinct bytes_eq (keys_of es)
      → rows_of (remove_entry (bytes_eq name) es) ≡ without_entry (rows_of es) name
  unfolding IsDistinct
  rows_removed name [] distinct = refl
  rows_removed name (e ∷ es) distinct =
      let rest = rows_removed name es distinct.1 in
      elim (bytes_eq name e.0) as (λ b. bytes_eq name e.0 ≡ b
      → rows_of (cond b es (e ∷ remove_entry (bytes_eq name) es))
      ≡ without_entry (rows_of (e ∷ es)) name) [
        | true ↦ λ same.
            sym (ap (λ b. cond (not b) (under e.0 e.1 ∷ without_entry (rows_of es) name)
            (without_entry (rows_of es) name)) (same_back e.0 name ∙ same)
            ∙ stays name e.0 es same distinct.0)
        | false ↦ λ apart.
            ap (λ more. under e.0 e.1 ∷ more) rest
            ∙ sym (ap (λ b. cond (not b) (under e.0 e.1 ∷ without_entry (rows_of es) name)
            (without_entry (rows_of es) name)) (same_back e.0 name ∙ apart))
      ] refl

  -- a name that isn't among them changes none
  none_changed : (name : Name) (value : V) (es : List (Name × V))
      → AllByRecursion (λ y. bytes_eq name y ≡ false) (keys_of es)
      → with_change (rows_of es) name (λ _. value) ≡ rows_of es
  none_changed name value [] apart = refl
  none_changed name value (e ∷ es) apart =
      let rest = none_changed name value es apart.1 in
      λ i. cond ((same_back e.0 name ∙ apart.0) i) (under e.0 value) (under e.0 e.1) ∷ rest i

  pub rows_changed : (name : Name) (value : V) (es : List (Name × V))
      → IsDistinct bytes_eq (keys_of es)
      → rows_of (set_value (bytes_eq name) es value)
      ≡ with_change (rows_of es) name (λ _. value)
  unfolding IsDistinct
  rows_changed name value [] distinct = refl
  rows_changed name value (e ∷ es) distinct =
      let rest = rows_changed name value es distinct.1 in
      let changed = with_change (rows_of es) name (λ _. value) in
      elim (bytes_eq name e.0) as (λ b. bytes_eq name e.0 ≡ b
      → rows_of (cond b ((e.0, value) ∷ es) (e ∷ set_value (bytes_eq name) es value))
      ≡ with_change (rows_of (e ∷ es)) name (λ _. value)) [
        | true ↦ λ same.
            (let is : e.0 ≡ name = sym ((bytes_eq-Decides name e.0).0 same) in
            let others = none_changed name value es
            (subst (λ n. AllByRecursion (λ y. bytes_eq n y ≡ false) (keys_of es)) is distinct.0) in
            sym (λ i. cond ((same_back e.0 name ∙ same) i) (under e.0 value) (under e.0 e.1)
            ∷ others i))
        | false ↦ λ apart.
            sym (λ i. cond ((same_back e.0 name ∙ apart) i) (under e.0 value) (under e.0 e.1)
            ∷ sym rest i)
      ] refl

  -- where none has the name, none is changed
  pub none_to_change : (name : Name) (value : V) (es : List (Name × V))
      → lookup (bytes_eq name) es ≡ None
      → with_change (rows_of es) name (λ _. value) ≡ rows_of es
  none_to_change name value [] none = refl
  none_to_change name value (e ∷ es) none =
      let rest = none_to_change name value es in
      elim (bytes_eq name e.0) as (λ b. bytes_eq name e.0 ≡ b
      → with_change (rows_of (e ∷ es)) name (λ _. value) ≡ rows_of (e ∷ es)) [
        | true ↦ λ same.
            (let there = ap (λ b. cond b (Some e.1) (lookup (bytes_eq name) es)) same in
            absurd (true≢false (ap is_some (sym there ∙ none))))
        | false ↦ λ apart.
            (let gone = ap (λ b. cond b (Some e.1) (lookup (bytes_eq name) es)) apart in
            λ i. cond ((same_back e.0 name ∙ apart) i) (under e.0 value) (under e.0 e.1)
            ∷ rest (sym gone ∙ none) i)
      ] refl

  pub names_of : (es : List (Name × V))
      → map (λ (e : Named V). e.name) (rows_of es) ≡ keys_of es
  names_of [] = refl
  names_of (e ∷ es) =
      let rest = names_of es in
      λ i. e.0 ∷ rest i

  pub values_of : (es : List (Name × V))
      → map (λ (e : Named V). e.value) (rows_of es) ≡ map (λ e. e.1) es
  values_of [] = refl
  values_of (e ∷ es) =
      let rest = values_of es in
      λ i. e.1 ∷ rest i

  pub none_found : (name : Name) (es : List (Name × V)) → has_entry (rows_of es) name ≡ false
      → lookup (bytes_eq name) es ≡ None
  none_found name es none =
      no_some (lookup (bytes_eq name) es) (ap is_some (entry_found name es) ∙ none)
    where
      no_some : (o : Option V) → is_some o ≡ false → o ≡ None
      no_some None is = refl
      no_some (Some x) is = absurd (true≢false is)

  -- keys that differ are names that differ
  none_among : (name : Name) (es : List (Name × V))
      → AllByRecursion (λ y. bytes_eq name y ≡ false) (keys_of es)
      → is_among name (map (λ (e : Named V). e.name) (rows_of es)) ≡ false
  none_among name [] apart = refl
  none_among name (e ∷ es) apart =
      or_from (bytes_eq name e.0) (is_among name (map (λ (e : Named V). e.name) (rows_of es)))
      apart.0 (none_among name es apart.1)

  pub names_differ : (es : List (Name × V)) → IsDistinct bytes_eq (keys_of es)
      → NamesDiffer (rows_of es)
  unfolding IsDistinct
  names_differ [] distinct = refl
  names_differ (e ∷ es) distinct =
      let names = map (λ (e : Named V). e.name) (rows_of es) in
      or_from (is_among e.0 names) (has_twice names) (none_among e.0 es distinct.0)
      (names_differ es distinct.1)

  pub rows_filtered : (test : V → Bool) (es : List (Name × V))
      → rows_of (filter (λ e. test e.1) es) ≡ filter (λ (n : Named V). test n.value) (rows_of es)
  rows_filtered test [] = refl
  rows_filtered test (e ∷ es) =
      let rest = rows_filtered test es in
      elim (test e.1) as (λ b.
      rows_of (cond b (e ∷ filter (λ x. test x.1) es) (filter (λ x. test x.1) es))
      ≡ cond b (under e.0 e.1 ∷ filter (λ n. test n.value) (rows_of es))
      (filter (λ n. test n.value) (rows_of es))) [
        | true ↦ λ i. under e.0 e.1 ∷ rest i
        | false ↦ rest
      ]
