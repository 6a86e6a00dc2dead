-- A map that was built over the live items has the default at each of them.
use Rattle.std.proofs.Common.{◌≡◌, ℕ, Bool, true, false, cond, List, [], ◌∷◌, map, Some}
use Rattle.std.proofs.Common.{None}
use Rattle.std.proofs.Common.{refl, sym, ap, ◌∙◌, inl, inr}
use Rattle.std.specs.Prelude.{◌==◌, nat_le}
use Rattle.std.specs.Cmp.{both_ways}
use Rattle.std.specs.FinMap as fin
use Rattle.std.proofs.lemmas.Bool.{cases_eq, eq-eqb, ne_eqb}
use Rattle.base_items.specs.declared.items.Fact.{Fact}
use Rattle.base_items.specs.declared.items.ItemSort.{ItemSort}
use Rattle.script_words.specs.declared.commands.MapType.{MapType}
use Rattle.script_words.specs.declared.commands.MapType.TheVariants as types
use Rattle.plain_digraph.specs.Facts.{fact_id}
use Rattle.plain_digraph.specs.Items.{facts}
use Rattle.plain_digraph.specs.Lists.{AllOf, has}
use Rattle.plain_digraph.specs.Rising.{with_item}
use Rattle.plain_digraph.specs.Valid.{IsValid}
use Rattle.plain_digraph.proofs.Keys.{ties_same, ties_other}
use Rattle.observe_core.specs.Held as held
use Rattle.observe_core.specs.Held.{Entry, ValueOf, default_of, entry_id}
use Rattle.observe_core.specs.Items.{has_id, place_all}
use Rattle.observe_core.specs.Told.{new_entry}
use Rattle.alter_graph.proofs.Listing.{live_has, has_live}
use Rattle.plain_world.specs.World as plain
use Rattle.plain_world.specs.World.{World, Column, live}
use Rattle.plain_world.specs.Values.{column_of}
use Rattle.plain_world.specs.Effects.{new_map}
use Rattle.plain_world.proofs.Named.{live_listed, listed_live}
use Rattle.desk_world.specs.Columns.{column}
use Rattle.desk_world.specs.Plain.{held_by}
use Rattle.desk_world.specs.Values.{kind_for}
use Rattle.desk_world.proofs.Blank.{has_place}
use Rattle.desk_world.proofs.ColumnValues.{at_values}
use Rattle.desk_world.proofs.Columns.{get_column, value_at, same_column}

-- ---- entries with one value

module _ {X : Type 0} (x : X) where
  abbrev AreSame : List (Entry X) → Type 0
  AreSame es = AllOf (λ e. e.value ≡ x) es

  same_with : (e : Entry X) (es : List (Entry X)) → e.value ≡ x → AreSame es
      → AreSame (with_item entry_id e es)
  same_with e [] is all = (is, tt)
  same_with e (y ∷ ys) is all =
      let rest = same_with e ys is all.1 in
      elim (nat_le e.id y.id) as (λ b.
      AreSame (cond b (e ∷ y ∷ ys) (y ∷ with_item entry_id e ys))) [
        | true ↦ (is, all)
        | false ↦ (all.0, rest)
      ]

  pub same_place : (es ys : List (Entry X)) → AreSame es → AreSame ys
      → AreSame (place_all entry_id es ys)
  same_place [] ys all more = more
  same_place (e ∷ es) ys all more =
      same_place es (with_item entry_id e ys) all.1 (same_with e ys all.0 more)

  same_value : (es : List (Entry X)) (q : ℕ) → AreSame es
      → value_at q es ≡ cond (has_id entry_id q es) (Some x) None
  same_value [] q all = refl
  same_value (e ∷ es) q all =
      let rest = same_value es q all.1 in
      elim (cases_eq q e.id) [
        | inl same ↦
            ap (λ t. cond t (Some e.value) (value_at q es)) (ties_same q e.id same)
            ∙ ap Some all.0
            ∙ sym (ap (λ b. cond (cond b true (has_id entry_id q es)) (Some x) None)
            (eq-eqb e.id q (sym same)))
        | inr other ↦
            ap (λ t. cond t (Some e.value) (value_at q es)) (ties_other q e.id other) ∙ rest
            ∙ sym (ap (λ b. cond (cond b true (has_id entry_id q es)) (Some x) None)
            (ne_eqb e.id q (λ is. other (sym is))))
      ]

-- ---- what a build gives

module _ (t : held.MapType) where
  abbrev news : List Fact → List (Entry (ValueOf t))
  news all = map (λ f. new_entry t f.id) all

  pub news_same : (all : List Fact)
      → AllOf (λ (e : Entry (ValueOf t)). e.value ≡ default_of t) (news all)
  news_same [] = tt
  news_same (f ∷ all) = (refl, news_same all)

  has_news : (all : List Fact) (q : ℕ) → has_id entry_id q (news all) ≡ has_id fact_id q all
  has_news [] q = refl
  has_news (f ∷ all) q = ap (cond (f.id == q) true) (has_news all q)

  -- each of the items has the default
  pub built_value : (all : List Fact) (q : ℕ)
      → fin.get (column (place_all entry_id (news all) [])) q
      ≡ cond (has_id fact_id q all) (Some (default_of t)) None
  built_value all q =
      let es = place_all entry_id (news all) [] in
      get_column es q
      ∙ same_value (default_of t) es q (same_place (default_of t) (news all) [] (news_same all) tt)
      ∙ ap (λ b. cond b (Some (default_of t)) None)
      (has_place entry_id (news all) [] q ∙ ap (λ b. cond b true false) (has_news all q)
      ∙ itself (has_id fact_id q all))
    where
      itself : (b : Bool) → cond b true false ≡ b
      itself true = refl
      itself false = refl

-- the live items are those that are told of
live_told : (w : World) (sort : ItemSort) (q : ℕ) → IsValid w.graph
    → has_id fact_id q (facts w.graph sort) ≡ has (live w sort) q
live_told w sort q valid =
    both_ways (has_id fact_id q (facts w.graph sort)) (has (live w sort) q)
    (λ at. live_listed w sort q valid (has_live w.graph sort valid q at))
    (λ at. live_has w.graph sort valid q (listed_live w sort q valid at))

built_column : (t : held.MapType) (w : World) (sort : ItemSort) → IsValid w.graph
    → column (place_all entry_id (news t (facts w.graph sort)) [])
    ≡ column_of (live w sort) (λ id. default_of t)
built_column t w sort valid =
    same_column (column (place_all entry_id (news t (facts w.graph sort)) []))
    (column_of (live w sort) (λ id. default_of t))
    (λ q. built_value t (facts w.graph sort) q
    ∙ ap (λ b. cond b (Some (default_of t)) None) (live_told w sort q valid)
    ∙ sym (at_values (λ id. default_of t) (live w sort) q))

-- the type of the values that a seat holds
abbrev pub values_type : MapType → held.MapType
values_type types.Ints = held.Ints
values_type types.Bools = held.Bools
values_type types.Texts = held.Texts

-- a map of values that was built over the live items is a new map
pub built_map : (type : MapType) (w : World) (sort : ItemSort) → IsValid w.graph
    → held_by (kind_for type)
    (held.Values (values_type type)
    (place_all entry_id (news (values_type type) (facts w.graph sort)) []))
    ≡ new_map w sort type
built_map types.Ints w sort valid = ap plain.Ints (built_column held.Ints w sort valid)
built_map types.Bools w sort valid = ap plain.Bools (built_column held.Bools w sort valid)
built_map types.Texts w sort valid = ap plain.Texts (built_column held.Texts w sort valid)
