-- Where a name stands in a table of names that differ.
use Rattle.std.proofs.Common.{◌≡◌, true, false, cond, not, List, [], ◌∷◌, ◌++◌, map, refl}
use Rattle.std.proofs.Common.{sym, ap, subst}
use Rattle.std.proofs.Common.{Some, None, ◌∙◌}
use Rattle.std.specs.Prelude.{option_map, find}
use Rattle.std.specs.Str.{bytes_eq}
use Rattle.std.proofs.lemmas.Bool.{or_parts}
use Rattle.std.proofs.lemmas.Option.{none-some, same_Some}
use Rattle.std.proofs.lemmas.Slice.Eq.{bytes_eq-Decides}
use Rattle.token_text.specs.Names.{is_among, has_twice}
use Rattle.lgf_file.proofs.NameLists.{apart_back}
use Rattle.plain_digraph.specs.Lists.{AllOf}
use Rattle.plain_world.specs.Tables.{Name, Named, under, is_named, entry, without_entry}
use Rattle.plain_world.specs.Valid.{NamesDiffer}

abbrev names : {X : Type 0} → List (Named X) → List Name
names table = map (λ e. e.name) table

-- the row has another name
abbrev pub IsOther : {X : Type 0} → Name → Named X → Type 0
IsOther name e = bytes_eq e.name name ≡ false

-- the value stands under the name, and no other row has the name
pub record Stands {X : Type 0} (table : List (Named X)) (name : Name) (value : X) : Type 0 where
  pub front : List (Named X)
  pub back : List (Named X)
  pub is : table ≡ front ++ under name value ∷ back
  pub less : without_entry table name ≡ front ++ back
  pub before : AllOf (IsOther name) front
  pub behind : AllOf (IsOther name) back

module _ {X : Type 0} where
  -- a name that isn't among them
  others : (name : Name) (table : List (Named X)) → is_among name (names table) ≡ false
      → AllOf (IsOther name) table
  others name [] none = tt
  others name (e ∷ es) none =
      let parts = or_parts (bytes_eq name e.name) (is_among name (names es)) none in
      (apart_back name e.name parts.0, others name es parts.1)

  -- is taken out of none
  pub all_stay : (name : Name) (table : List (Named X)) → AllOf (IsOther name) table
      → without_entry table name ≡ table
  all_stay name [] all = refl
  all_stay name (e ∷ es) all =
      let rest = all_stay name es all.1 in
      ap (λ b. cond (not b) (e ∷ without_entry es name) (without_entry es name)) all.0
      ∙ ap (λ more. e ∷ more) rest

  pub none_stands : (name : Name) (table : List (Named X)) → entry table name ≡ None
      → AllOf (IsOther name) table
  none_stands name [] none = tt
  none_stands name (e ∷ es) none =
      elim (bytes_eq e.name name) as (λ b. bytes_eq e.name name ≡ b
      → option_map (λ (n : Named X). n.value) (cond b (Some e) (find (is_named name) es)) ≡ None
      → AllOf (IsOther name) (e ∷ es)) [
        | true ↦ λ is found. absurd (none-some e.value (sym found))
        | false ↦ λ is found. (is, none_stands name es found)
      ] refl none

  pub stands : (table : List (Named X)) (name : Name) (value : X) → NamesDiffer table
      → entry table name ≡ Some value → Stands table name value
  stands [] name value differ found = absurd (none-some value found)
  stands (e ∷ es) name value differ found =
      let parts = or_parts (is_among e.name (names es)) (has_twice (names es)) differ in
      elim (bytes_eq e.name name) as (λ b. bytes_eq e.name name ≡ b
      → option_map (λ (n : Named X). n.value) (cond b (Some e) (find (is_named name) es))
      ≡ Some value → Stands (e ∷ es) name value) [
        | true ↦ λ is here.
            let own : e.name ≡ name = (bytes_eq-Decides e.name name).0 is in
            let same : e.value ≡ value = same_Some e.value value here in
            let back = others name es (ap (λ n. is_among n (names es)) (sym own) ∙ parts.0) in
            record {
              front = [];
              back = es;
              is = λ i. under (own i) (same i) ∷ es;
              less = ap (λ b. cond (not b) (e ∷ without_entry es name) (without_entry es name)) is
                  ∙ all_stay name es back;
              before = tt;
              behind = back;
            }
        | false ↦ λ is there.
            let rest = stands es name value parts.1 there in
            record {
              front = e ∷ rest.front;
              back = rest.back;
              is = ap (λ more. e ∷ more) rest.is;
              less = ap (λ b. cond (not b) (e ∷ without_entry es name) (without_entry es name)) is
                  ∙ ap (λ more. e ∷ more) rest.less;
              before = (is, rest.before);
              behind = rest.behind;
            }
      ] refl found

-- what holds of all rows holds of what stands under a name
pub of_named : {X : Type 0} (P : Named X → Type 0) (table : List (Named X)) (name : Name) (x : X)
    → AllOf P table → entry table name ≡ Some x → P (under name x)
of_named P [] name x all found = absurd (none-some x found)
of_named {X} P (e ∷ es) name x all found =
    let rest = of_named P es name x all.1 in
    elim (bytes_eq e.name name) as (λ b. bytes_eq e.name name ≡ b
    → option_map (λ (f : Named X). f.value) (cond b (Some e) (find (is_named name) es)) ≡ Some x
    → P (under name x)) [
      | true ↦ λ same is.
          let own : e.name ≡ name = (bytes_eq-Decides e.name name).0 same in
          let value : e.value ≡ x = same_Some e.value x is in
          subst (λ (f : Named X). P f) (λ i. under (own i) (value i)) all.0
      | false ↦ λ other is. rest is
    ] refl found
