-- A world in which the values of a map became those of another type.
use Rattle.std.proofs.Common.{◌≡◌, ℕ, true, false, cond, List, [], ◌∷◌, ◌++◌, map, length}
use Rattle.std.proofs.Common.{refl, sym, ap, Option, Some, None, ◌∙◌}
use Rattle.std.specs.Prelude.{option_map, find}
use Rattle.std.specs.List.{cons_option}
use Rattle.std.specs.Str.{bytes_eq}
use Rattle.std.proofs.lemmas.Bool.{true≢false}
use Rattle.std.proofs.lemmas.Option.{none-some}
use Rattle.std.proofs.lemmas.Slice.Eq.{bytes_eq-Decides}
use Rattle.script_words.specs.declared.commands.MapType.{MapType}
use Rattle.script_words.specs.declared.commands.MapType.TheVariants as types
use Rattle.plain_digraph.specs.Lists.{AllOf}
use Rattle.observe_core.specs.declared.kinds.Kind.TheVariants as kinds
use Rattle.observe_core.specs.Guards.{by_kind, tally_part}
use Rattle.observe_core.specs.Seen.{Seen, Watched}
use Rattle.alter_graph.specs.Snaps.{IsHalf, half_of}
use Rattle.plain_world.specs.Tables.{Name, Named, under, is_named, entry, with_change}
use Rattle.desk_world.specs.declared.tables.MapKind.{MapKind}
use Rattle.desk_world.specs.declared.tables.MapKind.TheVariants as maps
use Rattle.desk_world.specs.declared.tables.MapRow.{MapRow}
use Rattle.desk_world.specs.Claims.{Plays, role_of}
use Rattle.desk_world.specs.Derived.{AreIndexed, IsIndexed}
use Rattle.desk_world.specs.InStep.{has_values}
use Rattle.desk_world.specs.Looks.{looked}
use Rattle.desk_world.specs.Values.{kind_for}
use Rattle.desk_world.proofs.GuardOrder.{map_role}
use Rattle.desk_world.proofs.Halfway.{none_left}
use Rattle.desk_world.proofs.MapTables.{behind}
use Rattle.desk_world.proofs.NamedRows.{IsOther}
use Rattle.desk_world.proofs.Noticed.{map_kind}
use Rattle.desk_world.proofs.Seated.{all_left, all_right, all_both, all_so}
use Rattle.desk_world.proofs.Written.{no_half}

-- ---- tables

module _ {X Y : Type 0} (look later : X → Option Y) (name : Name) (put : X → X)
    (change : Y → Y) where
  -- where the row of the name leads to what was changed, and the others to the same as before
  abbrev pub PutsAt : Named X → Type 0
  PutsAt e = later (cond (bytes_eq e.name name) (put e.value) e.value)
      ≡ cond (bytes_eq e.name name) (option_map change (look e.value)) (look e.value)

  pub looked_put : (table : List (Named X)) → AllOf PutsAt table
      → looked later (with_change table name put) ≡ with_change (looked look table) name change
  looked_put [] all = refl
  looked_put (e ∷ es) all =
      let rest = looked_put es all.1 in
      elim (bytes_eq e.name name) as (λ b. bytes_eq e.name name ≡ b
      → later (cond b (put e.value) e.value)
      ≡ cond b (option_map change (look e.value)) (look e.value)
      → looked later (cond b (under e.name (put e.value)) e ∷ with_change es name put)
      ≡ with_change (cons_option (option_map (under e.name) (look e.value)) (looked look es)) name
      change) [
        | true ↦ λ is leads.
            (λ i. cons_option (option_map (under e.name) (leads i)) (rest i))
            ∙ changed (look e.value) is
        | false ↦ λ is leads.
            (λ i. cons_option (option_map (under e.name) (leads i)) (rest i))
            ∙ kept (look e.value) is
      ] refl all.0
    where
      changed : (o : Option Y) → bytes_eq e.name name ≡ true
          → cons_option (option_map (under e.name) (option_map change o))
          (with_change (looked look es) name change)
          ≡ with_change (cons_option (option_map (under e.name) o) (looked look es)) name change
      changed None is = refl
      changed (Some y) is =
          ap (λ b. cond b (under e.name (change y)) (under e.name y)
          ∷ with_change (looked look es) name change) (sym is)

      kept : (o : Option Y) → bytes_eq e.name name ≡ false
          → cons_option (option_map (under e.name) o) (with_change (looked look es) name change)
          ≡ with_change (cons_option (option_map (under e.name) o) (looked look es)) name change
      kept None is = refl
      kept (Some y) is =
          ap (λ b. cond b (under e.name (change y)) (under e.name y)
          ∷ with_change (looked look es) name change) (sym is)

module _ {X : Type 0} (name : Name) (now : X) where
  others_kept : (es : List (Named X)) → AllOf (IsOther name) es
      → with_change es name (λ _. now) ≡ es
  others_kept [] other = refl
  others_kept (e ∷ es) other =
      let rest = others_kept es other.1 in
      λ i. cond (other.0 i) (under e.name now) e ∷ rest i

  -- the row of the name, in its place
  pub put_between : (front : List (Named X)) (value : X) (back : List (Named X))
      → AllOf (IsOther name) front → AllOf (IsOther name) back
      → with_change (front ++ under name value ∷ back) name (λ _. now)
      ≡ front ++ under name now ∷ back
  put_between [] value back ahead behind =
      let rest = others_kept back behind in
      λ i. cond ((bytes_eq-Decides name name).1 refl i) (under name now) (under name value) ∷ rest i
  put_between (e ∷ front) value back ahead behind =
      let rest = put_between front value back ahead.1 behind in
      λ i. cond (ahead.0 i) (under e.name now) e ∷ rest i

  none_named : (es : List (Named X)) → AllOf (IsOther name) es → entry es name ≡ None
  none_named [] other = refl
  none_named (e ∷ es) other =
      ap (λ b. option_map (λ (f : Named X). f.value) (cond b (Some e) (find (is_named name) es)))
      other.0
      ∙ none_named es other.1

  -- what stands under another name stands there with a row of this one
  found_between : (front back : List (Named X)) (other : Name) (x : X)
      → AllOf (IsOther name) back → entry (front ++ back) other ≡ Some x
      → entry (front ++ under name now ∷ back) other ≡ Some x
  found_between [] back other x behind found =
      elim (bytes_eq name other) as (λ b. bytes_eq name other ≡ b
      → option_map (λ (f : Named X). f.value)
      (cond b (Some (under name now)) (find (is_named other) back)) ≡ Some x) [
        | true ↦ λ is.
            absurd (none-some x (sym (none_named back behind)
            ∙ ap (entry back) ((bytes_eq-Decides name other).0 is) ∙ found))
        | false ↦ λ is. found
      ] refl
  found_between (e ∷ front) back other x behind found =
      let rest = found_between front back other x behind in
      elim (bytes_eq e.name other) as (λ b. option_map (λ (f : Named X). f.value)
      (cond b (Some e) (find (is_named other) (front ++ back))) ≡ Some x
      → option_map (λ (f : Named X). f.value)
      (cond b (Some e) (find (is_named other) (front ++ under name now ∷ back))) ≡ Some x) [
        | true ↦ λ is. is
        | false ↦ λ is. rest is
      ] found

-- ---- indexes

module _ (look : ℕ → Option Seen) (name : Name) (row : MapRow) (front back : List (Named MapRow))
    (behind : AllOf (IsOther name) back) where
  abbrev with_it : List (Named MapRow)
  with_it = front ++ under name row ∷ back

  index_between : (kind : MapKind) (key : ℕ) → IsIndexed look (front ++ back) kind key
      → IsIndexed look with_it kind key
  index_between maps.Ints key is = tt
  index_between maps.Bools key is = tt
  index_between maps.Texts key is = tt
  index_between (maps.Degrees way) key is = tt
  index_between (maps.Trues map) key is = record {
    source = is.source;
    found = found_between name row front back map is.source behind is.found;
    bools = is.bools;
    same = is.same;
  }

  -- indexes are those of their maps with a map of values besides
  pub indexed_between : IsIndexed look with_it row.kind row.key.0 → AreIndexed look (front ++ back)
      → AreIndexed look with_it
  indexed_between own all =
      let Now : Named MapRow → Type 0 = λ e. IsIndexed look with_it e.value.kind e.value.key.0 in
      let each = all_so (λ (e : Named MapRow).
      IsIndexed look (front ++ back) e.value.kind e.value.key.0) Now
      (λ e is. index_between e.value.kind e.value.key.0 is) (front ++ back) all in
      all_both Now front (under name row ∷ back) (all_left Now front back each)
      (own, all_right Now front back each)

pub no_index : (look : ℕ → Option Seen) (table : List (Named MapRow)) (type : MapType) (key : ℕ)
    → IsIndexed look table (kind_for type) key
no_index look table types.Ints key = tt
no_index look table types.Bools key = tt
no_index look table types.Texts key = tt

-- ---- observers of maps

-- what a map's observer tracks and counts is nothing
pub record IsNoGuard (s : Seen) : Type 0 where
  pub facts : s.facts ≡ []
  pub added : s.added ≡ 0
  pub erased : s.erased ≡ 0
  pub moved : s.moved ≡ 0

pub no_guard : (w : Watched) → w.seen.kind ≡ kinds.Map → IsNoGuard w.seen
no_guard w is =
    let numbers = w.sound.numbers in
    record {
      facts = none_left w.seen.facts
          (numbers.items ∙ ap (by_kind 0 (length w.seen.facts)) is);
      added = numbers.added ∙ ap (λ k. tally_part k w.seen.added) is;
      erased = numbers.erased ∙ ap (λ k. tally_part k w.seen.erased) is;
      moved = numbers.moved ∙ ap (λ k. tally_part k w.seen.moved) is;
    }

pub no_snapshot : (kind : MapKind) (s : Seen) → has_values kind ≡ true → Plays (role_of kind) s
    → IsHalf (half_of s) → ⊥
no_snapshot maps.Ints s own plays = no_half 0 s plays.form
no_snapshot maps.Bools s own plays = no_half 1 s plays.form
no_snapshot maps.Texts s own plays = no_half 2 s plays.form
no_snapshot (maps.Degrees way) s own plays = absurd (true≢false (sym own))
no_snapshot (maps.Trues map) s own plays = absurd (true≢false (sym own))

pub is_a_map : (kind : MapKind) (s : Seen) → Plays (role_of kind) s → s.kind ≡ kinds.Map
is_a_map kind s plays = map_kind s.kind (plays.kind ∙ map_role kind)
