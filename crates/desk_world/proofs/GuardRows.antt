-- The rows of guards among all that the tables of a world claim.
use Rattle.std.proofs.Common.{◌≡◌, ℕ, Bool, true, false, cond, not, List, [], ◌∷◌, ◌++◌, map, refl}
use Rattle.std.proofs.Common.{sym, ap, subst, Option, Some, None, is_some, ◌∙◌, append-nil}
use Rattle.std.specs.Prelude.{find, filter, ◌==◌, ◌&&◌, ◌||◌}
use Rattle.std.specs.List.{flat_map}
use Rattle.std.specs.Option.{option_map_or}
use Rattle.std.proofs.lemmas.Bool.{true≢false, and_from, and_parts, eq-eqb, eqb-true, or_from}
use Rattle.std.proofs.lemmas.Bool.{or_parts}
use Rattle.std.proofs.lemmas.Option.{none-some, same_Some}
use Rattle.std.proofs.lemmas.List.Elements.{filter-append}
use Rattle.base_items.specs.declared.items.ItemSort.{ItemSort}
use Rattle.base_items.specs.declared.items.ItemSort.TheVariants as sorts
use Rattle.alter_graph.specs.declared.snaps.SnapKeys.{SnapKeys}
use Rattle.alter_graph.specs.Verdict.{is_sort}
use Rattle.plain_world.specs.Tables.{Named}
use Rattle.desk_world.specs.declared.tables.GuardRow.{GuardRow}
use Rattle.desk_world.specs.declared.tables.ItemTables.{ItemTables}
use Rattle.desk_world.specs.declared.tables.KeptKeys.{KeptKeys}
use Rattle.desk_world.specs.declared.tables.ViewRow.{ViewRow}
use Rattle.desk_world.specs.declared.tables.MapRow.{MapRow}
use Rattle.desk_world.specs.declared.world.World.{World}
use Rattle.desk_world.specs.Claims.{Claim, ClaimsDiffer, claims_of, guard_claim, has_map_kind}
use Rattle.desk_world.specs.Claims.{is_claimed, map_claim, own_claims, snap_claims, view_claims}
use Rattle.desk_world.specs.Claims.{kept_claims, KeptNodes, KeptArcs}
use Rattle.desk_world.specs.Claims.{Half, Labels, Ties, claim}
use Rattle.desk_world.specs.InStep.{is_guard_of}
use Rattle.desk_world.specs.Vetoes.{is_row_of}
use Rattle.desk_world.proofs.GuardOrder.{map_role}
use Rattle.desk_world.proofs.Refusers.{own_sort, sorts_same}

-- ---- the guards among the claims

no_guard : (sort : ItemSort) (x : Claim) → has_map_kind x.role ≡ true → is_guard_of sort x ≡ false
no_guard sort x is = ap (λ b. is_sort x.sort sort && not b) is ∙ none (is_sort x.sort sort)
  where
    none : (b : Bool) → (b && false) ≡ false
    none true = refl
    none false = refl

module _ (sort : ItemSort) where
  abbrev guards_in : List Claim → List Claim
  guards_in claims = filter (is_guard_of sort) claims

  -- no guard comes first
  pass_first : (x : Claim) (xs : List Claim) → has_map_kind x.role ≡ true
      → guards_in (x ∷ xs) ≡ guards_in xs
  pass_first x xs is =
      ap (λ b. cond b (x ∷ guards_in xs) (guards_in xs)) (no_guard sort x is)

  pass_own : (own : ItemSort) (items : ItemTables) (xs : List Claim)
      → guards_in (own_claims own items ++ xs) ≡ guards_in xs
  pass_own own items xs =
      let ties = claim own items.ties.0 Ties in
      pass_first (claim own items.labels.0 Labels) (ties ∷ xs) refl ∙ pass_first ties xs refl

  pass_maps : (own : ItemSort) (table : List (Named MapRow)) (xs : List Claim)
      → guards_in (map (map_claim own) table ++ xs) ≡ guards_in xs
  pass_maps own [] xs = refl
  pass_maps own (e ∷ es) xs =
      pass_first (map_claim own e) (map (map_claim own) es ++ xs) (map_role e.value.kind)
      ∙ pass_maps own es xs

  pass_views : (table : List (Named ViewRow)) (xs : List Claim)
      → guards_in (flat_map view_claims table ++ xs) ≡ guards_in xs
  pass_views [] xs = refl
  pass_views (e ∷ es) xs = one e.value.kept (flat_map view_claims es) ∙ pass_views es xs
    where
      one : (kept : Option KeptKeys) (more : List Claim)
          → guards_in ((option_map_or kept_claims kept [] ++ more) ++ xs) ≡ guards_in (more ++ xs)
      one None more = refl
      one (Some keys) more =
          let all = not (is_some keys.maps.arc_filter) in
          let arcs = claim sorts.Arc keys.arcs.0 (KeptArcs keys.maps.shape all) in
          pass_first (claim sorts.Node keys.nodes.0
          (KeptNodes (not (is_some keys.maps.node_filter)))) (arcs ∷ (more ++ xs)) refl
          ∙ pass_first arcs (more ++ xs) refl

  pass_halves : (table : List (Named SnapKeys)) → guards_in (flat_map snap_claims table) ≡ []
  pass_halves [] = refl
  pass_halves (e ∷ es) =
      let later = flat_map snap_claims es in
      let arcs = claim sorts.Arc e.value.arcs.0 Half in
      pass_first (claim sorts.Node e.value.nodes.0 Half) (arcs ∷ later) refl
      ∙ pass_first arcs later refl
      ∙ pass_halves es

  -- the guards that are claimed are those of the table
  pub claimed_guards : {O : Type 0} (w : World O) → guards_in (claims_of w)
      ≡ guards_in (map guard_claim w.guards.rows)
  claimed_guards w =
      let guards = map guard_claim w.guards.rows in
      let halves = flat_map snap_claims w.snapshots.rows in
      let last = flat_map view_claims w.views.rows ++ (guards ++ halves) in
      let arc_maps = map (map_claim sorts.Arc) w.arcs.maps.rows ++ last in
      let maps = map (map_claim sorts.Node) w.nodes.maps.rows ++ arc_maps in
      pass_own sorts.Node w.nodes (own_claims sorts.Arc w.arcs ++ maps)
      ∙ pass_own sorts.Arc w.arcs maps
      ∙ pass_maps sorts.Node w.nodes.maps.rows arc_maps
      ∙ pass_maps sorts.Arc w.arcs.maps.rows last
      ∙ pass_views w.views.rows (guards ++ halves)
      ∙ filter-append (is_guard_of sort) guards halves
      ∙ ap (λ xs. guards_in guards ++ xs) (pass_halves w.snapshots.rows)
      ∙ append-nil (guards_in guards)

-- ---- each row has a seat of its own

differ_right : (xs ys : List Claim) → ClaimsDiffer (xs ++ ys) → ClaimsDiffer ys
differ_right [] ys differ = differ
differ_right (x ∷ xs) ys differ = differ_right xs ys differ.1

lacks_left : (xs ys : List Claim) (sort : ItemSort) (key : ℕ)
    → is_claimed (xs ++ ys) sort key ≡ false → is_claimed xs sort key ≡ false
lacks_left [] ys sort key lacks = refl
lacks_left (x ∷ xs) ys sort key lacks =
    let here = is_sort x.sort sort && x.key == key in
    let parts = or_parts here (is_claimed (xs ++ ys) sort key) lacks in
    or_from here (is_claimed xs sort key) parts.0 (lacks_left xs ys sort key parts.1)

differ_left : (xs ys : List Claim) → ClaimsDiffer (xs ++ ys) → ClaimsDiffer xs
differ_left [] ys differ = tt
differ_left (x ∷ xs) ys differ = (
  lacks_left xs ys x.sort x.key differ.0,
  differ_left xs ys differ.1,
)

-- the claims of the rows of guards
pub guards_differ : {O : Type 0} (w : World O) → ClaimsDiffer (claims_of w)
    → ClaimsDiffer (map guard_claim w.guards.rows)
guards_differ w differ =
    let guards = map guard_claim w.guards.rows in
    let halves = flat_map snap_claims w.snapshots.rows in
    let arc_maps = map (map_claim sorts.Arc) w.arcs.maps.rows in
    let node_maps = map (map_claim sorts.Node) w.nodes.maps.rows in
    let views = flat_map view_claims w.views.rows in
    differ_left guards halves
    (differ_right views (guards ++ halves)
    (differ_right arc_maps (views ++ (guards ++ halves))
    (differ_right node_maps (arc_maps ++ (views ++ (guards ++ halves))) differ.1.1.1.1)))

row_claimed : (rows : List (Named GuardRow)) (sort : ItemSort) (key : ℕ) (e : Named GuardRow)
    → find (is_row_of sort key) rows ≡ Some e → is_claimed (map guard_claim rows) sort key ≡ true
row_claimed [] sort key e is = absurd (none-some e is)
row_claimed (x ∷ xs) sort key e is =
    let rest = row_claimed xs sort key e in
    elim (is_row_of sort key x) as (λ b. cond b (Some x) (find (is_row_of sort key) xs) ≡ Some e
    → (b || is_claimed (map guard_claim xs) sort key) ≡ true) [
      | true ↦ λ h. refl
      | false ↦ λ h. rest h
    ] is

same_row : (a b : ItemSort) (j k : ℕ) → (is_sort a b && j == k) ≡ true → (a ≡ b) × (j ≡ k)
same_row a b j k is =
    let parts = and_parts (is_sort a b) (j == k) is in
    (sorts_same a b parts.0, eqb-true j k parts.1)

own_row : (e : Named GuardRow) → is_row_of e.value.sort e.value.key.0 e ≡ true
own_row e =
    and_from (is_sort e.value.sort e.value.sort) (e.value.key.0 == e.value.key.0)
    (own_sort e.value.sort) (eq-eqb e.value.key.0 e.value.key.0 refl)

-- a row is found by its seat
pub row_found : (test : Named GuardRow → Bool) (rows : List (Named GuardRow))
    → ClaimsDiffer (map guard_claim rows) → (e : Named GuardRow) → find test rows ≡ Some e
    → find (is_row_of e.value.sort e.value.key.0) rows ≡ Some e
row_found test [] differ e is = absurd (none-some e is)
row_found test (x ∷ xs) differ e is =
    let rest = row_found test xs differ.1 e in
    let by : Named GuardRow → Option (Named GuardRow) =
    λ y. find (is_row_of y.value.sort y.value.key.0) (x ∷ xs) in
    elim (test x) as (λ b. cond b (Some x) (find test xs) ≡ Some e → by e ≡ Some e) [
      | true ↦ λ h.
          subst (λ y. by y ≡ Some y) (same_Some x e h)
          (ap (λ b. cond b (Some x) (find (is_row_of x.value.sort x.value.key.0) xs)) (own_row x))
      | false ↦ λ h.
          let found = rest h in
          let sort = e.value.sort in
          let key = e.value.key.0 in
          elim (is_row_of sort key x) as (λ b. is_row_of sort key x ≡ b
          → cond b (Some x) (find (is_row_of sort key) xs) ≡ Some e) [
            | true ↦ λ here.
                let at = same_row x.value.sort sort x.value.key.0 key here in
                absurd (true≢false (sym (row_claimed xs sort key e found)
                ∙ (λ i. is_claimed (map guard_claim xs) (sym at.0 i) (sym at.1 i)) ∙ differ.0))
            | false ↦ λ apart. found
          ] refl
    ] is
