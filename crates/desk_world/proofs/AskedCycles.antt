-- A cycle that is turned to the arc of the least id, and its lines.
use Rattle.std.proofs.Common.{◌≡◌, ℕ, zero, suc, ◌<◌, ◌≤◌, ◌⊎◌, inl, inr, true, List, []}
use Rattle.std.proofs.Common.{◌∷◌, ◌++◌, length, map, take, drop, refl, sym, ap, subst, ◌∙◌, arith}
use Rattle.std.proofs.Common.{Some, All}
use Rattle.std.specs.Prelude.{◌==◌, min, position, unwrap_or}
use Rattle.std.proofs.Math.ListN.{get_or-map}
use Rattle.std.proofs.lemmas.Bool.{eq-eqb, eqb-true, false_from_ne_true}
use Rattle.std.proofs.lemmas.List.{get_or_default, length-map, map-append, drop-map, take-map}
use Rattle.std.proofs.lemmas.List.Elements.{All-append, All-drop, All-take}
use Rattle.base_items.specs.declared.items.Fact.{Fact}
use Rattle.plain_certificates.specs.Numbering.{arc_at}
use Rattle.plain_certificates.specs.Tables.{at}
use Rattle.plain_certificates.specs.Walks.{IsCycle}
use Rattle.plain_digraph.specs.Lists.{AllOf}
use Rattle.plain_views.specs.Shown.{Shown, ShownArc, IsShown, arcs_in_order, once}
use Rattle.plain_views.specs.Towers as towers
use Rattle.plain_views.specs.Towers.{Layer}
use Rattle.plain_views.proofs.Towered.{tower_is_shown}
use Rattle.plain_world.specs.Queries.{least_id, from_least, graph, cycle_lines}
use Rattle.plain_world.specs.Tables.{Name}
use Rattle.plain_world.specs.Valid.{IsWorld}
use Rattle.plain_world.specs.Views as views
use Rattle.plain_world.specs.Views.{shown_by}
use Rattle.plain_world.specs.World.{World}
use Rattle.static_digraph.specs.Fixed.{FixedOf}
use Rattle.view_numbers.specs.Listed.{Numbers, fact_shown}
use Rattle.view_numbers.specs.Turned.{IsTurned, item_at}
use Rattle.view_tower.specs.Layers.{tower_of}
use Rattle.tower_numbers.specs.Told.{fact_at}
use Rattle.tower_numbers.proofs.Along.{cycle_differs, cycle_members}
use Rattle.tower_numbers.proofs.Differing.{ids_differ, one_place}
use Rattle.tower_numbers.proofs.Firsts.{position_found}
use Rattle.tower_numbers.proofs.Telling.{id_told, fact_told}
use Rattle.desk_world.specs.AskedViews.{Asks}
use Rattle.desk_world.specs.MapNumbers.{numbered}
use Rattle.desk_world.specs.Naming.{called_arc, ComesFromLive}
use Rattle.desk_world.specs.declared.asked_views.AskedView.{AskedView}
use Rattle.desk_world.proofs.AskedViews.{layers_show}
use Rattle.desk_world.proofs.ShownLive.{facts_live, tower_lives}
use Rattle.desk_world.proofs.ViewListed.{called_arcs}

abbrev none : ShownArc
none = record { id = 0; from = 0; to = 0 }

-- ---- the least id of a list of arcs

-- it is the bound that one of them has
least_is : (least : ℕ) (arcs : List ShownArc) (x : ℕ) → x ≤ least
    → ((k : ℕ) → k < length arcs → x ≤ (at none arcs k).id)
    → (least ≡ x) ⊎ ((k : ℕ) × (k < length arcs) × ((at none arcs k).id ≡ x))
    → least_id least arcs ≡ x
least_is least [] x low all (inl is) = is
least_is least [] x low all (inr (k, below, is)) = absurd (omega (arith, below))
least_is least (arc ∷ arcs) x low all has =
    let here = all 0 (omega arith) in
    least_is (min least arc.id) arcs x (omega (arith, low, here))
    (λ k below. all (suc k) (omega (arith, below)))
    (by has)
  where
    by : (least ≡ x) ⊎ ((k : ℕ) × (k < length (arc ∷ arcs)) × ((at none (arc ∷ arcs) k).id ≡ x))
        → (min least arc.id ≡ x) ⊎ ((k : ℕ) × (k < length arcs) × ((at none arcs k).id ≡ x))
    by (inl is) = let here = all 0 (omega arith) in inl (omega (arith, is, here))
    by (inr (zero, below, is)) = inl (omega (arith, is, low))
    by (inr (suc k, below, is)) = inr (k, omega (arith, below), is)

-- from the place of the least id on, where no other arc has it
turned_from : (arcs : List ShownArc) (place : ℕ) → place < length arcs
    → ((k : ℕ) → k < length arcs → (at none arcs place).id ≤ (at none arcs k).id)
    → ((k : ℕ) → k < length arcs → (at none arcs k).id ≡ (at none arcs place).id → k ≡ place)
    → from_least arcs ≡ drop place arcs ++ take place arcs
turned_from [] place within least only = absurd (omega (arith, within))
turned_from (arc ∷ arcs) place within least only =
    let x = (at none (arc ∷ arcs) place).id in
    let is : least_id arc.id arcs ≡ x =
    least_is arc.id arcs x (least 0 (omega arith))
    (λ k below. least (suc k) (omega (arith, below))) (by place within refl) in
    let low = least_id arc.id arcs in
    let found : position (λ (other : ShownArc). other.id == low) (arc ∷ arcs) ≡ Some place =
    position_found none (λ (other : ShownArc). other.id == low) (arc ∷ arcs) place (
      within,
      eq-eqb x (least_id arc.id arcs) (sym is),
      λ k below. false_from_ne_true ((at none (arc ∷ arcs) k).id == least_id arc.id arcs) (λ same.
          (let other = only k (omega (arith, below, within))
          (eqb-true (at none (arc ∷ arcs) k).id (least_id arc.id arcs) same ∙ is) in
          absurd (omega (arith, below, other)))),
    ) in
    ap (λ o. drop (unwrap_or o 0) (arc ∷ arcs) ++ take (unwrap_or o 0) (arc ∷ arcs)) found
  where
    by : (k : ℕ) → k < length (arc ∷ arcs) → k ≡ place
        → (arc.id ≡ (at none (arc ∷ arcs) place).id)
        ⊎ ((j : ℕ) × (j < length arcs)
        × ((at none arcs j).id ≡ (at none (arc ∷ arcs) place).id))
    by zero below is = inl (ap (λ n. (at none (arc ∷ arcs) n).id) is)
    by (suc j) below is =
        inr (j, omega (arith, below), ap (λ n. (at none (arc ∷ arcs) n).id) is)

-- ---- a cycle by number

module _ (p : Shown) (shown : IsShown p) (f : FixedOf) (numbers : Numbers p f) (cycle : List ℕ)
    (differ : (j k : ℕ) → j < length cycle → k < length cycle → at 0 cycle j ≡ at 0 cycle k
    → j ≡ k)
    (inside : (k : ℕ) → k < length cycle → at 0 cycle k < length (arcs_in_order p)) where
  at_cycle : (k : ℕ) → k < length cycle
      → at none (map (arc_at p) cycle) k ≡ arc_at p (at 0 cycle k)
  at_cycle k below =
      let size = length-map cycle (arc_at p) in
      get_or_default (map (arc_at p) cycle) k none (arc_at p 0) (omega (arith, below, size))
      ∙ get_or-map (arc_at p) cycle k 0

  id_of : (k : ℕ) → k < length cycle
      → (at none (map (arc_at p) cycle) k).id ≡ item_at f cycle k
  id_of k below =
      ap (λ (arc : ShownArc). arc.id) (at_cycle k below)
      ∙ sym (id_told p f numbers (at 0 cycle k))

  pub turned_least : (turned : List ℕ) → IsTurned f cycle turned
      → map (arc_at p) turned ≡ from_least (map (arc_at p) cycle)
  turned_least turned is =
      let size = length-map cycle (arc_at p) in
      let place = is.place in
      let within = is.least.inside in
      let ids : length f.arcs ≡ length (arcs_in_order p) =
      ap length numbers.arcs ∙ length-map (arcs_in_order p) (λ (arc : ShownArc). arc.id) in
      let once_ids = subst (λ ids. once ids ≡ true) (sym numbers.arcs) (ids_differ p shown) in
      ap (map (arc_at p)) is.is
      ∙ map-append (arc_at p) (drop place cycle) (take place cycle)
      ∙ (λ i. sym (drop-map (arc_at p) place cycle) i ++ sym (take-map (arc_at p) place cycle) i)
      ∙ sym (turned_from (map (arc_at p) cycle) place (omega (arith, within, size))
      (λ k below. (let small : k < length cycle = omega (arith, below, size) in
      let one = id_of place within in
      let other = id_of k small in
      let least = is.least.least k small in
      omega (arith, one, other, least)))
      (λ k below same. (let small : k < length cycle = omega (arith, below, size) in
      let here = inside k small in
      let there = inside place within in
      differ k place small within
      (one_place f.arcs once_ids (at 0 cycle k) (at 0 cycle place)
      (omega (arith, here, ids)) (omega (arith, there, ids))
      (sym (id_of k small) ∙ same ∙ id_of place within)))))

  -- the arcs of a list, as they are shown
  pub facts_are : (arcs : List ℕ)
      → ((k : ℕ) → k < length arcs → at 0 arcs k < length (arcs_in_order p))
      → map (fact_at f) arcs ≡ map fact_shown (map (arc_at p) arcs)
  facts_are [] within = refl
  facts_are (arc ∷ arcs) within =
      let here = fact_told p f numbers shown arc (within 0 (omega arith)) in
      let rest = facts_are arcs (λ k below. within (suc k) (omega (arith, below))) in
      λ i. here i ∷ rest i

-- ---- the lines of a cycle

comes_at : (P : Fact → Type 0) (arcs : List ShownArc) → AllOf P (map fact_shown arcs) → (k : ℕ)
    → k < length arcs → P (fact_shown (at none arcs k))
comes_at P [] all k below = absurd (omega (arith, below))
comes_at P (arc ∷ arcs) all zero below = all.0
comes_at P (arc ∷ arcs) all (suc k) below = comes_at P arcs all.1 k (omega (arith, below))

all_of : (P : Fact → Type 0) (f : ℕ → Fact) (xs : List ℕ)
    → ((k : ℕ) → k < length xs → P (f (at 0 xs k))) → AllOf P (map f xs)
all_of P f [] so = tt
all_of P f (x ∷ xs) so =
    (so 0 (omega arith), all_of P f xs (λ k below. so (suc k) (omega (arith, below))))

module _ (world : World) (ok : IsWorld world) (asked : AskedView) (asks : Asks world asked)
    (cycle turned : List ℕ) (is : IsCycle (graph world asked.view.now) cycle)
    (turns : IsTurned asked.fixed cycle turned) where
  abbrev view : Name
  view = asked.view.now

  abbrev p : Shown
  p = shown_by world view

  shown : IsShown p
  shown =
      tower_is_shown Name (views.values_of world) world.graph ok.graph_ok
      (views.tower_of world view)

  inside : All (λ arc. arc < length (arcs_in_order p)) cycle
  inside k d below =
      subst (λ arc. arc < length (arcs_in_order p)) (get_or_default cycle k 0 d below)
      (cycle_members (graph world view) cycle is k below)

  -- the numbers of the turned cycle are those of arcs
  pub turned_inside : (k : ℕ) → k < length turned → at 0 turned k < length (arcs_in_order p)
  turned_inside k below =
      subst (λ xs. All (λ arc. arc < length (arcs_in_order p)) xs) (sym turns.is)
      (All-append (λ arc. arc < length (arcs_in_order p)) (drop turns.place cycle)
      (take turns.place cycle)
      (All-drop (λ arc. arc < length (arcs_in_order p)) turns.place cycle inside)
      (All-take (λ arc. arc < length (arcs_in_order p)) turns.place cycle inside)) k 0 below

  abbrev tower : List (Layer ℕ)
  tower = tower_of asked.layers.items

  -- its arcs come from live items
  pub turned_live : AllOf (ComesFromLive world.graph tower) (map (fact_at asked.fixed) turned)
  turned_live =
      all_of (ComesFromLive world.graph tower) (fact_at asked.fixed) turned
      (λ k below. subst (ComesFromLive world.graph tower)
      (sym (fact_told p asked.fixed asks.numbers shown (at 0 turned k) (turned_inside k below)))
      (comes_at (ComesFromLive world.graph tower) (arcs_in_order p)
      (facts_live p shown world.graph tower
      (tower_lives (numbered world) world.graph ok.graph_ok tower p
      (sym (layers_show world asked asks))))
      (at 0 turned k) (turned_inside k below)))

  pub cycle_told : map (called_arc world tower) (map (fact_at asked.fixed) turned)
      ≡ cycle_lines world view cycle
  cycle_told =
      ap (map (called_arc world tower))
      (facts_are p shown asked.fixed asks.numbers cycle (cycle_differs (graph world view) cycle is)
      (cycle_members (graph world view) cycle is) turned turned_inside)
      ∙ called_arcs world view tower asks.layers (towers.shown (numbered world) world.graph tower)
      refl (map (arc_at p) turned)
      ∙ ap (map (views.arc_line world view))
      (turned_least p shown asked.fixed asks.numbers cycle
      (cycle_differs (graph world view) cycle is) (cycle_members (graph world view) cycle is)
      turned turns)
