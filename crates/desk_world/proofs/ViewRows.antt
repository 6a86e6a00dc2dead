-- The views of a world by the rows of their table.
use Rattle.std.proofs.Common.{◌≡◌, Bool, true, false, cond, not, List, [], ◌∷◌, ◌++◌, map}
use Rattle.std.proofs.Common.{refl, sym, ap, subst, ◌∙◌}
use Rattle.std.proofs.Common.{Option, Some, None, is_some}
use Rattle.std.specs.Prelude.{option_map, find}
use Rattle.std.specs.List.{flat_map}
use Rattle.std.specs.Option.{option_map_or}
use Rattle.base_items.specs.declared.items.ItemSort.TheVariants as sorts
use Rattle.observe_core.specs.Seen.{Watched}
use Rattle.alter_graph.specs.Chains.{chains_seen}
use Rattle.plain_world.specs.Tables.{Name, Named, under, is_named, entry, has_entry, with_entry}
use Rattle.plain_world.specs.Tables.{without_entry, oldest}
use Rattle.plain_world.specs.World as plain
use Rattle.desk_names.specs.Rows.{Rows}
use Rattle.desk_world.specs.declared.tables.ViewRow.{ViewRow}
use Rattle.desk_world.specs.declared.world.World.{World}
use Rattle.desk_world.specs.Claims.{Claim, own_claims, map_claim, guard_claim, snap_claims}
use Rattle.desk_world.specs.Claims.{view_claims, kept_claims}
use Rattle.desk_world.specs.InStep.{AreInStep, AreSeated}
use Rattle.desk_world.specs.KeptViews.{AreKept}
use Rattle.desk_world.specs.Plain.{plain_of, look_of, view_of}

-- ---- tables

module _ {X Y : Type 0} (f : X → Y) where
  -- a table with another value in each row
  abbrev pub each_as : List (Named X) → List (Named Y)
  each_as table = map (λ (e : Named X). under e.name (f e.value)) table

  pub entry_as : (table : List (Named X)) (name : Name)
      → entry (each_as table) name ≡ option_map f (entry table name)
  entry_as [] name = refl
  entry_as (e ∷ es) name =
      let rest = entry_as es name in
      elim (is_named name e) as (λ b. option_map (λ (y : Named Y). y.value)
      (cond b (Some (under e.name (f e.value))) (find (is_named name) (each_as es)))
      ≡ option_map f (option_map (λ (x : Named X). x.value)
      (cond b (Some e) (find (is_named name) es)))) [
        | true ↦ refl
        | false ↦ rest
      ]

  pub there_as : (table : List (Named X)) (name : Name)
      → has_entry (each_as table) name ≡ has_entry table name
  there_as table name = ap is_some (entry_as table name) ∙ by (entry table name)
    where
      by : (o : Option X) → is_some (option_map f o) ≡ is_some o
      by None = refl
      by (Some x) = refl

  -- the oldest that passes a test of what it is read as
  pub oldest_as : (test : Y → Bool) (table : List (Named X))
      → oldest test (each_as table) ≡ oldest (λ x. test (f x)) table
  oldest_as test [] = refl
  oldest_as test (e ∷ es) =
      let rest = oldest_as test es in
      elim (test (f e.value)) as (λ b. option_map (λ (y : Named Y). y.name)
      (cond b (Some (under e.name (f e.value)))
      (find (λ (y : Named Y). test y.value) (each_as es)))
      ≡ option_map (λ (x : Named X). x.name)
      (cond b (Some e) (find (λ (x : Named X). test (f x.value)) es))) [
        | true ↦ refl
        | false ↦ rest
      ]

  pub with_as : (table : List (Named X)) (name : Name) (value : X)
      → each_as (with_entry table name value) ≡ with_entry (each_as table) name (f value)
  with_as [] name value = refl
  with_as (e ∷ es) name value =
      ap (λ more. under e.name (f e.value) ∷ more) (with_as es name value)

  pub without_as : (table : List (Named X)) (name : Name)
      → each_as (without_entry table name) ≡ without_entry (each_as table) name
  without_as [] name = refl
  without_as (e ∷ es) name =
      let rest = without_as es name in
      elim (is_named name e) as (λ b.
      each_as (cond (not b) (e ∷ without_entry es name) (without_entry es name))
      ≡ cond (not b) (under e.name (f e.value) ∷ without_entry (each_as es) name)
      (without_entry (each_as es) name)) [
        | true ↦ rest
        | false ↦ ap (λ more. under e.name (f e.value) ∷ more) rest
      ]

-- ---- the world with other views

abbrev pub with_views : {O : Type 0} → World O → Rows ViewRow → World O
with_views w views = record w { views = views }

-- the claims of a world, those of its kept views being these
abbrev pub claims_by : {O : Type 0} → World O → List Claim → List Claim
claims_by w seats =
    own_claims sorts.Node w.nodes
    ++ (own_claims sorts.Arc w.arcs
    ++ (map (map_claim sorts.Node) w.nodes.maps.rows
    ++ (map (map_claim sorts.Arc) w.arcs.maps.rows
    ++ (seats ++ (map guard_claim w.guards.rows ++ flat_map snap_claims w.snapshots.rows)))))

-- a view that isn't kept claims no seat
pub seats_with : (table : List (Named ViewRow)) (name : Name) (row : ViewRow) → row.kept ≡ None
    → flat_map view_claims (with_entry table name row) ≡ flat_map view_claims table
seats_with [] name row unkept = ap (λ kept. option_map_or kept_claims kept [] ++ []) unkept
seats_with (e ∷ es) name row unkept =
    ap (λ list. view_claims e ++ list) (seats_with es name row unkept)

module _ {O : Type 0} (watch : O → Watched) (w : World O) where
  -- with other rows that claim the same seats
  pub views_in_step : AreInStep watch w → (views : Rows ViewRow)
      → flat_map view_claims views.rows ≡ flat_map view_claims w.views.rows
      → AreKept (look_of watch w) w.nodes w.arcs views.rows → AreInStep watch (with_views w views)
  views_in_step in_step views same kept = record {
    graph = in_step.graph;
    seated = subst (λ list. AreSeated (claims_by w list) (chains_seen watch w.graph.chains))
        (sym same) in_step.seated;
    boxes = in_step.boxes;
    snaps = in_step.snaps;
    derived = in_step.derived;
    kept = kept;
  }

  -- the plain world has the views of the rows
  pub views_plain : (views : Rows ViewRow) (others : List (Named plain.View))
      → each_as view_of views.rows ≡ others
      → plain_of watch (with_views w views) ≡ record (plain_of watch w) { views = others }
  views_plain views others are = λ i. record (plain_of watch w) { views = are i }
