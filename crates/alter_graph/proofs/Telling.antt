-- What each step does to the facts, and what it may tell.
use Rattle.std.proofs.Common.{◌≡◌, ◌≢◌, ℕ, ◌+◌, ◌<◌, List, Some, None, Contains}
use Rattle.std.proofs.Common.{refl, sym, ap, subst, ◌∙◌, arith}
use Rattle.base_items.specs.declared.items.Fact.{Fact}
use Rattle.base_items.specs.declared.items.ItemSort.{ItemSort}
use Rattle.base_items.specs.declared.items.ItemSort.TheVariants as sorts
use Rattle.plain_digraph.specs.Facts.{fact_id, with_source, with_target, turned}
use Rattle.plain_digraph.specs.Rising.{with_item, without_item, swapped}
use Rattle.plain_digraph.specs.Digraph.{Digraph}
use Rattle.std.specs.Prelude.{option_map}
use Rattle.plain_digraph.specs.Items.{IsLive, fact_of, facts, stamp_of, node_fact, arc_fact}
use Rattle.plain_digraph.specs.FactLaws.{Swaps}
use Rattle.plain_digraph.specs.Steps.{new_node, new_arc, move_from, move_to, turn}
use Rattle.plain_digraph.specs.Steps.{add_node, add_arc}
use Rattle.plain_digraph.specs.PlainSteps.{PlainStep, AddNode, AddArc, MoveFrom, MoveTo, Turn}
use Rattle.plain_digraph.specs.PlainSteps.{PlaceBack, EraseArc, EraseNode, ClearArcs, ClearNodes}
use Rattle.plain_digraph.specs.PlainSteps.{sort_of, after_step}
use Rattle.plain_digraph.specs.Valid.{IsValid}
use Rattle.plain_digraph.proofs.StepFacts.{added_node_facts, added_arc_facts, moved_source_facts}
use Rattle.plain_digraph.proofs.StepFacts.{moved_target_facts, turned_facts, placed_facts}
use Rattle.plain_digraph.proofs.StepFacts.{erased_arc_facts, erased_node_facts}
use Rattle.plain_digraph.proofs.Bounded.{moved_facts_differ}
use Rattle.plain_digraph.proofs.Keys.{get_new}
use Rattle.plain_digraph.proofs.Rows.{arc_told, stamp_new, none_from, stamp_of-has}
use Rattle.plain_digraph.proofs.Additions.{new_node_apart, new_arc_endless}
use Rattle.observe_core.specs.declared.changes.Change.TheVariants.{Add, Shift, Build}
use Rattle.observe_core.specs.declared.losses.Loss.{Loss}
use Rattle.observe_core.specs.declared.losses.Loss.TheVariants.{Erase, Clear}
use Rattle.observe_core.specs.Losses.{facts_left}
use Rattle.observe_core.specs.Items.{Lacks}
use Rattle.observe_core.specs.Facts.{IsInBounds}
use Rattle.observe_core.specs.Facts as listed
use Rattle.alter_graph.specs.Present.{Present, present_of, fact_at}
use Rattle.alter_graph.specs.Steps.{Notice, Tells, Loses, notice_of, CanTake}
use Rattle.alter_graph.proofs.Listing.{live_told, live_id, live_contained, told_bounded}
use Rattle.alter_graph.proofs.Listing.{bounded, facts_live, none_lacks}

-- ---- what a notice makes of the facts

abbrev pub facts_noticed : Notice → List Fact → List Fact
facts_noticed (Tells (Add fact)) fs = with_item fact_id fact fs
facts_noticed (Tells (Shift old now)) fs = swapped fact_id now fs
facts_noticed (Tells (Build all)) fs = fs
facts_noticed (Loses loss) fs = facts_left loss fs

abbrev pub stamps_noticed : Notice → ℕ → ℕ
stamps_noticed (Tells change) stamps = stamps + 1
stamps_noticed (Loses loss) stamps = stamps

abbrev pub next : ItemSort → Notice → Present → Present
next sorts.Node n p = record {
  nodes = facts_noticed n p.nodes;
  arcs = p.arcs;
  stamps = stamps_noticed n p.stamps;
}
next sorts.Arc n p = record {
  nodes = p.nodes;
  arcs = facts_noticed n p.arcs;
  stamps = stamps_noticed n p.stamps;
}

-- ---- a move of a live arc

module _ (g : Digraph) (arc : ℕ) (valid : IsValid g) (live : IsLive g sorts.Arc arc) where
  abbrev was : Fact
  was = fact_at g sorts.Arc arc

  id : was.id ≡ arc
  id = live_id g sorts.Arc valid arc live

  told : fact_of g sorts.Arc was.id ≡ Some was
  told = ap (fact_of g sorts.Arc) id ∙ live_told g sorts.Arc valid arc live

  source_moved : (node : ℕ) → Swaps g (with_source was node g.stamps) (move_from g arc node)
  source_moved node = subst (λ a. Swaps g (with_source was node g.stamps) (move_from g a node)) id
      (moved_source_facts g was node told)

  target_moved : (node : ℕ) → Swaps g (with_target was node g.stamps) (move_to g arc node)
  target_moved node = subst (λ a. Swaps g (with_target was node g.stamps) (move_to g a node)) id
      (moved_target_facts g was node told)

  arc_turned : Swaps g (turned was g.stamps) (turn g arc)
  arc_turned = subst (λ a. Swaps g (turned was g.stamps) (turn g a)) id (turned_facts g was told)

  differs : (node : ℕ) → (with_source was node g.stamps ≢ was)
      × (with_target was node g.stamps ≢ was) × (turned was g.stamps ≢ was)
  differs node = moved_facts_differ g was node valid told

-- the present facts after a step
pub present_next : (step : PlainStep) (g : Digraph) → IsValid g → CanTake step g
    → present_of (after_step g step) ≡ next (sort_of step) (notice_of step g) (present_of g)
present_next AddNode g valid can =
    let f = added_node_facts g valid in
    λ i. record { nodes = f.0 i; arcs = f.1 i; stamps = g.stamps + 1 }
present_next (AddArc from to) g valid can =
    let f = added_arc_facts g from to valid in
    λ i. record { nodes = f.1 i; arcs = f.0 i; stamps = g.stamps + 1 }
present_next (MoveFrom arc node) g valid can =
    let f = source_moved g arc valid can.0 node in
    λ i. record { nodes = f.1 i; arcs = f.0 i; stamps = g.stamps + 1 }
present_next (MoveTo arc node) g valid can =
    let f = target_moved g arc valid can.0 node in
    λ i. record { nodes = f.1 i; arcs = f.0 i; stamps = g.stamps + 1 }
present_next (Turn arc) g valid can =
    let f = arc_turned g arc valid can in
    λ i. record { nodes = f.1 i; arcs = f.0 i; stamps = g.stamps + 1 }
present_next (PlaceBack fact) g valid can =
    let f = placed_facts g fact valid can.arc in
    λ i. record { nodes = f.1 i; arcs = f.0 i; stamps = g.stamps + 1 }
present_next (EraseArc arc) g valid can =
    let f = erased_arc_facts g arc in
    let id = live_id g sorts.Arc valid arc can in
    let e = f.0 ∙ ap (λ i. without_item fact_id i (facts g sorts.Arc)) (sym id) in
    λ i. record { nodes = f.1 i; arcs = e i; stamps = g.stamps }
present_next (EraseNode node) g valid can =
    let f = erased_node_facts g node in
    let id = live_id g sorts.Node valid node can.0 in
    let e = f.0 ∙ ap (λ i. without_item fact_id i (facts g sorts.Node)) (sym id) in
    λ i. record { nodes = e i; arcs = f.1 i; stamps = g.stamps }
present_next ClearArcs g valid can = refl
present_next ClearNodes g valid can = refl

-- ---- what may be told to one that stands for some facts

pub record IsNew (fact : Fact) (live : List Fact) : Type 0 where
  pub is_live : listed.IsLive live
  pub untracked : Lacks fact_id fact.id live
  pub bounded : IsInBounds fact

pub record IsMove (old now : Fact) (live : List Fact) : Type 0 where
  pub is_live : listed.IsLive live
  pub tracked : Contains live old
  pub same_id : now.id ≡ old.id
  pub differs : now ≢ old
  pub old_bounded : IsInBounds old
  pub bounded : IsInBounds now

abbrev pub IsTracked : Loss → List Fact → Type 0
IsTracked (Erase fact) live = Contains live fact × IsInBounds fact
IsTracked Clear live = Unit {0}

abbrev pub CanHear : Notice → List Fact → Type 0
CanHear (Tells (Add fact)) live = IsNew fact live
CanHear (Tells (Shift old now)) live = IsMove old now live
CanHear (Tells (Build all)) live = ⊥
CanHear (Loses loss) live = listed.IsLive live × IsTracked loss live

module _ (g : Digraph) (arc : ℕ) (valid : IsValid g) (live : IsLive g sorts.Arc arc) where
  may_move : (now : Fact) → now.id ≡ (fact_at g sorts.Arc arc).id → now ≢ fact_at g sorts.Arc arc
      → (now.from < 4194304) × (now.to < 4194304)
      → IsMove (fact_at g sorts.Arc arc) now (facts g sorts.Arc)
  may_move now same other ends =
      let old = told_bounded g sorts.Arc valid arc live in
      let id = old.0 in
      record {
        is_live = facts_live g sorts.Arc valid;
        tracked = live_contained g sorts.Arc valid arc live;
        same_id = same;
        differs = other;
        old_bounded = old;
        bounded = (omega (arith, id, same), ends.0, ends.1);
      }

node_below : (g : Digraph) (node : ℕ) → IsValid g → IsLive g sorts.Node node → node < 4194304
node_below g node valid live =
    let b = (told_bounded g sorts.Node valid node live).0 in
    let e = live_id g sorts.Node valid node live in
    omega (arith, b, e)

-- the new item was not told of, and now it is
no_node : (g : Digraph) → IsValid g → fact_of g sorts.Node (new_node g) ≡ None
no_node g valid = ap (option_map (node_fact (new_node g)))
    (none_from _ (stamp_of-has g.nodes (new_node g) ∙ new_node_apart g valid))

new_node_told : (g : Digraph) → fact_of (add_node g) sorts.Node (new_node g)
    ≡ Some (node_fact (new_node g) g.stamps)
new_node_told g = ap (option_map (node_fact (new_node g))) (stamp_new g.nodes (new_node g) g.stamps)

no_arc : (g : Digraph) → IsValid g → fact_of g sorts.Arc (new_arc g) ≡ None
no_arc g valid =
    let new = new_arc g in
    ap (λ none. arc_told new none (stamp_of g.by_source new) (stamp_of g.by_target new))
    (new_arc_endless g valid)

new_arc_told : (g : Digraph) (from to : ℕ) → fact_of (add_arc g from to) sorts.Arc (new_arc g)
    ≡ Some (arc_fact (new_arc g) (from, to) g.stamps g.stamps)
new_arc_told g from to =
    let new = new_arc g in
    let ends = get_new g.ends new (from, to) in
    let from_at = stamp_new g.by_source new g.stamps in
    let to_at = stamp_new g.by_target new g.stamps in
    λ i. arc_told new (ends i) (from_at i) (to_at i)

-- where the step gives a valid digraph
pub can_hear : (step : PlainStep) (g : Digraph) → IsValid g → CanTake step g
    → IsValid (after_step g step) → CanHear (notice_of step g) (facts g (sort_of step))
can_hear AddNode g valid can then_valid = record {
  is_live = facts_live g sorts.Node valid;
  untracked = none_lacks g sorts.Node valid (new_node g) (no_node g valid);
  bounded = bounded (add_node g) sorts.Node then_valid (node_fact (new_node g) g.stamps)
      (new_node_told g);
}
can_hear (AddArc from to) g valid can then_valid = record {
  is_live = facts_live g sorts.Arc valid;
  untracked = none_lacks g sorts.Arc valid (new_arc g) (no_arc g valid);
  bounded = bounded (add_arc g from to) sorts.Arc then_valid
      (arc_fact (new_arc g) (from, to) g.stamps g.stamps) (new_arc_told g from to);
}
can_hear (MoveFrom arc node) g valid can _ =
    let old = told_bounded g sorts.Arc valid arc can.0 in
    may_move g arc valid can.0 (with_source (fact_at g sorts.Arc arc) node g.stamps) refl
    (differs g arc valid can.0 node).0 (node_below g node valid can.1, old.2)
can_hear (MoveTo arc node) g valid can _ =
    let old = told_bounded g sorts.Arc valid arc can.0 in
    may_move g arc valid can.0 (with_target (fact_at g sorts.Arc arc) node g.stamps) refl
    (differs g arc valid can.0 node).1 (old.1, node_below g node valid can.1)
can_hear (Turn arc) g valid can _ =
    let old = told_bounded g sorts.Arc valid arc can in
    may_move g arc valid can (turned (fact_at g sorts.Arc arc) g.stamps) refl
    (differs g arc valid can 0).2 (old.2, old.1)
can_hear (PlaceBack fact) g valid can _ =
    may_move g fact.id valid can.arc fact (sym (live_id g sorts.Arc valid fact.id can.arc))
    (λ e. can.differs (live_told g sorts.Arc valid fact.id can.arc ∙ ap Some (sym e)))
    (node_below g fact.from valid can.source, node_below g fact.to valid can.target)
can_hear (EraseArc arc) g valid can _ = (
  facts_live g sorts.Arc valid,
  (live_contained g sorts.Arc valid arc can, told_bounded g sorts.Arc valid arc can),
)
can_hear (EraseNode node) g valid can _ = (
  facts_live g sorts.Node valid,
  (live_contained g sorts.Node valid node can.0, told_bounded g sorts.Node valid node can.0),
)
can_hear ClearArcs g valid can _ = (facts_live g sorts.Arc valid, tt)
can_hear ClearNodes g valid can _ = (facts_live g sorts.Node valid, tt)
