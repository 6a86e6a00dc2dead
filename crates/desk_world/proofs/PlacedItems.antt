-- An item is placed anew in a kept view: all its items are then placed.
use Rattle.std.proofs.Common.{◌≡◌, ℕ, ◌==◌, Bool, true, false, if◌then◌else◌, List, [], ◌∷◌, ◌++◌}
use Rattle.std.proofs.Common.{map}
use Rattle.std.specs.List.{flat_map}
use Rattle.std.proofs.Common.{Option, Some, None, IfSome, refl, sym, ap, ◌∙◌, subst}
use Rattle.std.specs.Option.{option_map_or}
use Rattle.std.proofs.lemmas.Bool.{eqb-true}
use Rattle.base_items.specs.declared.items.ItemSort.{ItemSort}
use Rattle.base_items.specs.declared.items.ItemSort.TheVariants as sorts
use Rattle.plain_digraph.specs.Lists.{AllOf}
use Rattle.observe_core.specs.Held as held
use Rattle.observe_core.specs.Held.{Held, Marked}
use Rattle.observe_core.specs.Seen.{Seen}
use Rattle.alter_graph.specs.Chains.{ChainsSeen}
use Rattle.kept_views.specs.declared.items.Marks.{Marks}
use Rattle.kept_views.specs.ItemViews.{with_marks, marked_set}
use Rattle.kept_walks.specs.Present.{Present, AreMarked, can_grow, can_fall, items_in, items_seen}
use Rattle.desk_seats.specs.Contents.{marked_held}
use Rattle.plain_world.specs.Tables.{Named}
use Rattle.desk_world.specs.declared.tables.KeptKeys.{KeptKeys}
use Rattle.desk_world.specs.declared.tables.ViewRow.{ViewRow}
use Rattle.desk_world.specs.Claims.{Claim, kept_claims, view_claims}
use Rattle.desk_world.specs.KeptMaps.{present_in}
use Rattle.desk_world.specs.KeptViews.{IsPlaced, AreMarkedBy, items_at}
use Rattle.desk_world.specs.Looks.{Look, look_in}
use Rattle.desk_world.specs.Placing.{is_due, AreMarkedBut, AreMarkedByBut, IsPlacedBut, own_key}
use Rattle.desk_world.specs.Placing.{marks_by, marked_with}
use Rattle.desk_world.specs.Seating.{Puts}
use Rattle.desk_world.proofs.KeptAgree.{SameMaps, present_same}
use Rattle.desk_world.proofs.Putting.{seen_put}
use Rattle.desk_world.proofs.Relabelled.{Agrees}
use Rattle.desk_world.proofs.Seated.{all_right}

-- ---- marks

-- the item that was due is marked, and all others were
pub set_marks : (mark : Marks → Bool) (says : ℕ → Bool) (id : ℕ) (m : Marks) → mark m ≡ says id
    → (items : List Marked) → AreMarkedBut (λ other. other == id) mark says items
    → AreMarked mark says (marked_set id m items)
set_marks mark says id m new [] all = tt
set_marks mark says id m new (x ∷ xs) all =
    let rest = set_marks mark says id m new xs all.1 in
    let own = all.0 in
    elim (x.fact.id == id) as (λ b. (x.fact.id == id) ≡ b
    → AreMarked mark says ((if b then with_marks m x.fact else x) ∷ marked_set id m xs)) [
      | true ↦ λ is. (new ∙ ap says (sym (eqb-true x.fact.id id is)), rest)
      | false ↦ λ is. (own is, rest)
    ] refl

-- where none was due
pub full_marks : (mark : Marks → Bool) (says : ℕ → Bool) (items : List Marked)
    → AreMarkedBut (λ other. false) mark says items → AreMarked mark says items
full_marks mark says [] all = tt
full_marks mark says (x ∷ xs) all = (all.0 refl, full_marks mark says xs all.1)

-- each item has marks of its own
pub each_marked : (mark : Marks → Bool) (says : ℕ → Bool) (m : ℕ → Marks)
    → ((id : ℕ) → mark (m id) ≡ says id) → (items : List Marked)
    → AreMarked mark says (map (λ (x : Marked). with_marks (m x.fact.id) x.fact) items)
each_marked mark says m new [] = tt
each_marked mark says m new (x ∷ xs) = (new x.fact.id, each_marked mark says m new xs)

-- ---- what a seat holds

pub same_items : (h : Held) → marked_held h ≡ items_in h
same_items held.Nothing = refl
same_items (held.Values t es) = refl
same_items (held.Degree out ends) = refl
same_items (held.Half added others kept valid) = refl
same_items (held.Kept role all items) = refl
same_items (held.Ties ties) = refl

module _ (sort : ItemSort) (key : ℕ) (change : Seen → Held) (c d : ChainsSeen)
    (puts : Puts sort key change c d) where
  pub items_were : items_at (look_in c sort key) ≡ items_seen puts.was
  items_were = ap items_at puts.found

  pub items_now : items_at (look_in d sort key) ≡ items_in (change puts.was)
  items_now = ap items_at (seen_put sort key change c d puts)

-- ---- a view

module _ (look : Look) (keys : KeptKeys) (id : ℕ) where
  abbrev v : Present
  v = present_in look keys.maps

  node_placed : (nodes arcs : List Marked) → AreMarkedByBut v (is_due sorts.Node id) nodes arcs
      → AreMarkedBy v (marked_set id (marks_by v sorts.Node id) nodes) arcs
  node_placed nodes arcs but = record {
    filtered = record {
      nodes = set_marks (λ x. x.shown) v.keeps_node id (marks_by v sorts.Node id) refl nodes
          but.nodes;
      arcs = full_marks (λ x. x.shown) v.keeps_arc arcs but.arcs;
    };
    roomy = record {
      forward = full_marks (λ x. x.forward) (can_grow v.cap v.flow) arcs but.forward;
      backward = full_marks (λ x. x.backward) (can_fall v.flow) arcs but.backward;
    };
  }

  arc_placed : (nodes arcs : List Marked) → AreMarkedByBut v (is_due sorts.Arc id) nodes arcs
      → AreMarkedBy v nodes (marked_set id (marks_by v sorts.Arc id) arcs)
  arc_placed nodes arcs but =
      let m = marks_by v sorts.Arc id in
      record {
        filtered = record {
          nodes = full_marks (λ x. x.shown) v.keeps_node nodes but.nodes;
          arcs = set_marks (λ x. x.shown) v.keeps_arc id m refl arcs but.arcs;
        };
        roomy = record {
          forward = set_marks (λ x. x.forward) (can_grow v.cap v.flow) id m refl arcs but.forward;
          backward = set_marks (λ x. x.backward) (can_fall v.flow) id m refl arcs but.backward;
        };
      }

-- its seat of the other sort shows what it showed
abbrev pub OtherSame : (look later : Look) → KeptKeys → ItemSort → Type 0
OtherSame look later keys sorts.Node =
    later sorts.Arc keys.arcs.0 ≡ look sorts.Arc keys.arcs.0
OtherSame look later keys sorts.Arc =
    later sorts.Node keys.nodes.0 ≡ look sorts.Node keys.nodes.0

-- all items are placed once the one that was due is, if all maps show what they showed
pub placed_now : (c d : ChainsSeen) (keys : KeptKeys) (sort : ItemSort) (id : ℕ)
    → Puts sort (own_key sort keys).0
    (marked_with id (marks_by (present_in (look_in c) keys.maps) sort id)) c d
    → SameMaps (look_in c) (look_in d) keys.maps → OtherSame (look_in c) (look_in d) keys sort
    → IsPlacedBut (look_in c) (is_due sort id) keys → IsPlaced (look_in d) keys
placed_now c d keys sorts.Node id puts same other but =
    let was : Present = present_in (look_in c) keys.maps in
    let m = marks_by was sorts.Node id in
    let change = marked_with id m in
    let nodes : items_at (look_in d sorts.Node keys.nodes.0)
    ≡ marked_set id m (items_at (look_in c sorts.Node keys.nodes.0)) =
    items_now sorts.Node keys.nodes.0 change c d puts
    ∙ ap (marked_set id m) (same_items puts.was.held
    ∙ sym (items_were sorts.Node keys.nodes.0 change c d puts)) in
    subst (λ v. AreMarkedBy v (items_at (look_in d sorts.Node keys.nodes.0))
    (items_at (look_in d sorts.Arc keys.arcs.0)))
    (sym (present_same (look_in c) (look_in d) keys.maps same))
    (subst (λ items. AreMarkedBy was items (items_at (look_in d sorts.Arc keys.arcs.0)))
    (sym nodes)
    (subst (λ o. AreMarkedBy was
    (marked_set id m (items_at (look_in c sorts.Node keys.nodes.0))) (items_at o)) (sym other)
    (node_placed (look_in c) keys id (items_at (look_in c sorts.Node keys.nodes.0))
    (items_at (look_in c sorts.Arc keys.arcs.0)) but)))
placed_now c d keys sorts.Arc id puts same other but =
    let was : Present = present_in (look_in c) keys.maps in
    let m = marks_by was sorts.Arc id in
    let change = marked_with id m in
    let arcs : items_at (look_in d sorts.Arc keys.arcs.0)
    ≡ marked_set id m (items_at (look_in c sorts.Arc keys.arcs.0)) =
    items_now sorts.Arc keys.arcs.0 change c d puts
    ∙ ap (marked_set id m) (same_items puts.was.held
    ∙ sym (items_were sorts.Arc keys.arcs.0 change c d puts)) in
    subst (λ v. AreMarkedBy v (items_at (look_in d sorts.Node keys.nodes.0))
    (items_at (look_in d sorts.Arc keys.arcs.0)))
    (sym (present_same (look_in c) (look_in d) keys.maps same))
    (subst (λ items. AreMarkedBy was (items_at (look_in d sorts.Node keys.nodes.0)) items)
    (sym arcs)
    (subst (λ o. AreMarkedBy was (items_at o)
    (marked_set id m (items_at (look_in c sorts.Arc keys.arcs.0)))) (sym other)
    (arc_placed (look_in c) keys id (items_at (look_in c sorts.Node keys.nodes.0))
    (items_at (look_in c sorts.Arc keys.arcs.0)) but)))

-- ---- where the same is seen

module _ (look later : Look) (due : ItemSort → ℕ → Bool) where
  pub but_same : (keys : KeptKeys) → SameMaps look later keys.maps
      → later sorts.Node keys.nodes.0 ≡ look sorts.Node keys.nodes.0
      → later sorts.Arc keys.arcs.0 ≡ look sorts.Arc keys.arcs.0
      → IsPlacedBut look due keys → IsPlacedBut later due keys
  but_same keys same nodes arcs placed =
      subst (λ v. AreMarkedByBut v due (items_at (later sorts.Node keys.nodes.0))
      (items_at (later sorts.Arc keys.arcs.0)))
      (sym (present_same look later keys.maps same))
      (subst (λ o. AreMarkedByBut (present_in look keys.maps) due (items_at o)
      (items_at (later sorts.Arc keys.arcs.0))) (sym nodes)
      (subst (λ o. AreMarkedByBut (present_in look keys.maps) due
      (items_at (look sorts.Node keys.nodes.0)) (items_at o)) (sym arcs) placed))

  pub rows_but_same : (rows : List (Named ViewRow))
      → AllOf (Agrees look later) (flat_map view_claims rows)
      → AllOf (λ (e : Named ViewRow). IfSome e.value.kept
      (λ keys. SameMaps look later keys.maps)) rows
      → AllOf (λ (e : Named ViewRow). IfSome e.value.kept (IsPlacedBut look due)) rows
      → AllOf (λ (e : Named ViewRow). IfSome e.value.kept (IsPlacedBut later due)) rows
  rows_but_same [] agree same placed = tt
  rows_but_same (e ∷ es) agree same placed = (
    one e.value.kept (flat_map view_claims es) agree same.0 placed.0,
    rows_but_same es
        (all_right (Agrees look later) (view_claims e) (flat_map view_claims es) agree)
        same.1 placed.1,
  )
    where
      one : (kept : Option KeptKeys) (rest : List Claim)
          → AllOf (Agrees look later) (option_map_or kept_claims kept [] ++ rest)
          → IfSome kept (λ keys. SameMaps look later keys.maps)
          → IfSome kept (IsPlacedBut look due) → IfSome kept (IsPlacedBut later due)
      one None rest agree same placed = tt
      one (Some keys) rest agree same placed =
          but_same keys same agree.0 agree.1.0 placed
