-- Where there is room for all steps, each gives a valid digraph, and none is refused at a limit.
use Rattle.std.proofs.Common.{◌≡◌, ℕ, ◌+◌, ◌<◌, true, false, List, [], ◌∷◌, ◌++◌}
use Rattle.std.proofs.Common.{length, is_some, sym, ap, subst, ◌∙◌, arith}
use Rattle.std.proofs.Common.{length-append}
use Rattle.base_items.specs.declared.items.Fact.{Fact}
use Rattle.base_items.specs.declared.items.ItemSort.{ItemSort}
use Rattle.base_items.specs.declared.items.ItemSort.TheVariants as sorts
use Rattle.base_items.specs.declared.limits.Limit.{Limit}
use Rattle.base_items.specs.declared.limits.Limit.TheVariants as limits
use Rattle.plain_digraph.specs.Lists.{has}
use Rattle.plain_digraph.specs.Facts.{fact_id}
use Rattle.plain_digraph.specs.Rising.{swapped}
use Rattle.plain_digraph.specs.Digraph.{Digraph}
use Rattle.plain_digraph.specs.Items.{facts, fact_of, used_of, count_of}
use Rattle.plain_digraph.specs.Steps.{clear_nodes}
use Rattle.plain_digraph.specs.PlainSteps.{PlainStep, AddNode, AddArc, MoveFrom, MoveTo, Turn}
use Rattle.plain_digraph.specs.PlainSteps.{PlaceBack, EraseArc, EraseNode, ClearArcs, ClearNodes}
use Rattle.plain_digraph.specs.PlainSteps.{is_refusable, after_step}
use Rattle.plain_digraph.specs.Valid.{IsValid}
use Rattle.plain_digraph.proofs.Additions.{valid_with_node, valid_with_arc}
use Rattle.plain_digraph.proofs.Changes.{valid_moved_source, valid_moved_target, valid_turned}
use Rattle.plain_digraph.proofs.Changes.{valid_placed, valid_without_arc, valid_without_node}
use Rattle.plain_digraph.proofs.Changes.{valid_no_arcs, valid_nothing}
use Rattle.plain_digraph.proofs.Facts.{told_counted}
use Rattle.plain_digraph.proofs.Live.{live_ids, free_ids, live_shared, live_counted, fact_of-has}
use Rattle.plain_digraph.proofs.Rows.{fact_of-id}
use Rattle.observe_core.proofs.ItemLemmas.{length-swapped}
use Rattle.list_digraph.specs.declared.faults.AddFault.{AddFault}
use Rattle.list_digraph.specs.declared.faults.AddFault.TheVariants as add
use Rattle.alter_graph.specs.declared.faults.AlterFault.{AlterFault}
use Rattle.alter_graph.specs.declared.faults.AlterFault.TheVariants.{Vetoed, SameNode, Full, Stale}
use Rattle.alter_graph.specs.declared.faults.AlterFault.TheVariants.{Memory}
use Rattle.alter_graph.specs.Faults.{limit_of}
use Rattle.alter_graph.specs.Steps.{CanTake}
use Rattle.alter_graph.specs.Room.{HasRoom, HasRoomFor, PassesLimit, nodes_in, arcs_in}
use Rattle.alter_graph.specs.Room.{IsFull}
use Rattle.alter_graph.specs.Verdict.{Guard}
use Rattle.alter_graph.specs.Outcome.{Refused}
use Rattle.alter_graph.specs.Parts.{Grows, Denied}
use Rattle.alter_graph.proofs.Telling.{present_next}
use Rattle.alter_graph.proofs.Opening.{returnable}
use Rattle.alter_graph.specs.Present.{Present}

-- ---- validity

stamp_left : (step : PlainStep) (g : Digraph) → HasRoomFor (step ∷ []) g
    → g.stamps < 4611686018427387904
stamp_left step g room = let s = room.for_stamps (omega arith) in omega (arith, s)

-- a step for which there is room
pub valid_taken : (step : PlainStep) (g : Digraph) → IsValid g → CanTake step g
    → HasRoomFor (step ∷ []) g → IsValid (after_step g step)
valid_taken AddNode g valid can room =
    let n = room.for_nodes (omega arith) in
    valid_with_node g valid (omega (arith, n), stamp_left AddNode g room)
valid_taken (AddArc from to) g valid can room =
    let n = room.for_arcs (omega arith) in
    valid_with_arc g from to valid (omega (arith, n), stamp_left (AddArc from to) g room)
    can.0 can.1
valid_taken (MoveFrom arc node) g valid can room =
    valid_moved_source g arc valid can.0 node can.1 (stamp_left (MoveFrom arc node) g room)
valid_taken (MoveTo arc node) g valid can room =
    valid_moved_target g arc valid can.0 node can.1 (stamp_left (MoveTo arc node) g room)
valid_taken (Turn arc) g valid can room =
    valid_turned g arc valid can (stamp_left (Turn arc) g room)
valid_taken (PlaceBack fact) g valid can room =
    valid_placed g fact valid (returnable fact g valid can (stamp_left (PlaceBack fact) g room))
valid_taken (EraseArc arc) g valid can room = valid_without_arc g arc valid can
valid_taken (EraseNode node) g valid can room = valid_without_node g node valid can.0 can.1
valid_taken ClearArcs g valid can room = valid_no_arcs g valid
valid_taken ClearNodes g valid can room =
    subst (λ h. IsValid (clear_nodes h)) can.2 (valid_nothing can.0 can.1)

-- a sure step, which needs none
pub valid_lost : (step : PlainStep) (g : Digraph) → is_refusable step ≡ false → IsValid g
    → CanTake step g → IsValid (after_step g step)
valid_lost AddNode g sure valid can = cc
valid_lost (AddArc from to) g sure valid can = cc
valid_lost (MoveFrom arc node) g sure valid can = cc
valid_lost (MoveTo arc node) g sure valid can = cc
valid_lost (Turn arc) g sure valid can = cc
valid_lost (PlaceBack fact) g sure valid can = cc
valid_lost (EraseArc arc) g sure valid can = valid_without_arc g arc valid can
valid_lost (EraseNode node) g sure valid can = valid_without_node g node valid can.0 can.1
valid_lost ClearArcs g sure valid can = valid_no_arcs g valid
valid_lost ClearNodes g sure valid can =
    subst (λ h. IsValid (clear_nodes h)) can.2 (valid_nothing can.0 can.1)

-- ---- how many items there are

pub facts_counted : (g : Digraph) (sort : ItemSort) → IsValid g
    → length (facts g sort) ≡ count_of g sort
facts_counted g sort valid =
    let told : (id : ℕ) → is_some (fact_of g sort id) ≡ has (live_ids g sort) id =
    λ id. fact_of-has g sort id valid in
    told_counted (fact_of g sort) (fact_of-id g sort) (live_ids g sort) (free_ids g sort)
    (used_of g sort) (live_shared g sort valid) told
    ∙ live_counted g sort valid

-- a move leaves the number of arcs
arcs_kept : (g h : Digraph) (now : Fact) → IsValid g → IsValid h
    → facts h sorts.Arc ≡ swapped fact_id now (facts g sorts.Arc)
    → count_of h sorts.Arc ≡ count_of g sorts.Arc
arcs_kept g h now old new e =
    sym (facts_counted h sorts.Arc new) ∙ ap length e
    ∙ length-swapped fact_id now (facts g sorts.Arc)
    ∙ facts_counted g sorts.Arc old

pub grow_one : (step : PlainStep) (g : Digraph) → is_refusable step ≡ true → IsValid g
    → CanTake step g → IsValid (after_step g step) → Grows (step ∷ []) g (after_step g step)
grow_one AddNode g r valid can then_valid =
    record { nodes = omega arith; arcs = omega arith; stamps = omega arith }
grow_one (AddArc from to) g r valid can then_valid =
    record { nodes = omega arith; arcs = omega arith; stamps = omega arith }
grow_one (MoveFrom arc node) g r valid can then_valid =
    let e = ap (λ (p : Present). p.arcs) (present_next (MoveFrom arc node) g valid can) in
    let n = arcs_kept g (after_step g (MoveFrom arc node)) _ valid then_valid e in
    record { nodes = omega arith; arcs = omega (arith, n); stamps = omega arith }
grow_one (MoveTo arc node) g r valid can then_valid =
    let e = ap (λ (p : Present). p.arcs) (present_next (MoveTo arc node) g valid can) in
    let n = arcs_kept g (after_step g (MoveTo arc node)) _ valid then_valid e in
    record { nodes = omega arith; arcs = omega (arith, n); stamps = omega arith }
grow_one (Turn arc) g r valid can then_valid =
    let e = ap (λ (p : Present). p.arcs) (present_next (Turn arc) g valid can) in
    let n = arcs_kept g (after_step g (Turn arc)) _ valid then_valid e in
    record { nodes = omega arith; arcs = omega (arith, n); stamps = omega arith }
grow_one (PlaceBack fact) g r valid can then_valid =
    let e = ap (λ (p : Present). p.arcs) (present_next (PlaceBack fact) g valid can) in
    let n = arcs_kept g (after_step g (PlaceBack fact)) _ valid then_valid e in
    record { nodes = omega arith; arcs = omega (arith, n); stamps = omega arith }
grow_one (EraseArc arc) g r valid can then_valid = cc
grow_one (EraseNode node) g r valid can then_valid = cc
grow_one ClearArcs g r valid can then_valid = cc
grow_one ClearNodes g r valid can then_valid = cc

-- ---- parts

pub nodes-append : (a b : List PlainStep) → nodes_in (a ++ b) ≡ nodes_in a + nodes_in b
nodes-append [] b = omega arith
nodes-append (step ∷ a) b = let r = nodes-append a b in omega (arith, r)

pub arcs-append : (a b : List PlainStep) → arcs_in (a ++ b) ≡ arcs_in a + arcs_in b
arcs-append [] b = omega arith
arcs-append (step ∷ a) b = let r = arcs-append a b in omega (arith, r)

pub grow_none : (g : Digraph) → Grows [] g g
grow_none g = record { nodes = omega arith; arcs = omega arith; stamps = omega arith }

pub grow_both : (a b : List PlainStep) (g h k : Digraph) → Grows a g h → Grows b h k
    → Grows (a ++ b) g k
grow_both a b g h k p q =
    let n = nodes-append a b in
    let m = arcs-append a b in
    let l = length-append a b in
    let pn = p.nodes in
    let qn = q.nodes in
    let pa = p.arcs in
    let qa = q.arcs in
    let ps = p.stamps in
    let qs = q.stamps in
    record {
      nodes = omega (arith, n, pn, qn);
      arcs = omega (arith, m, pa, qa);
      stamps = omega (arith, l, ps, qs);
    }

pub room_rest : (a b : List PlainStep) (g h : Digraph) → Grows a g h → HasRoomFor (a ++ b) g
    → HasRoomFor b h
room_rest a b g h grows room =
    let n = nodes-append a b in
    let m = arcs-append a b in
    let l = length-append a b in
    let gn = grows.nodes in
    let ga = grows.arcs in
    let gs = grows.stamps in
    record {
      for_nodes = λ some. let r =
          room.for_nodes (omega (arith, n, some)) in omega (arith, r, n, gn);
      for_arcs = λ some. let r = room.for_arcs (omega (arith, m, some)) in omega (arith, r, m, ga);
      for_stamps = λ some. let r =
          room.for_stamps (omega (arith, l, some)) in omega (arith, r, l, gs);
    }

pub room_first : (a b : List PlainStep) (g : Digraph) → HasRoomFor (a ++ b) g → HasRoomFor a g
room_first a b g room =
    let n = nodes-append a b in
    let m = arcs-append a b in
    let l = length-append a b in
    record {
      for_nodes = λ some. let r = room.for_nodes (omega (arith, n, some)) in omega (arith, r, n);
      for_arcs = λ some. let r = room.for_arcs (omega (arith, m, some)) in omega (arith, r, m);
      for_stamps = λ some. let r = room.for_stamps (omega (arith, l, some)) in omega (arith, r, l);
    }

-- ---- limits

no_room : (nodes arcs stamps : ℕ) (g : Digraph) (limit : Limit)
    → PassesLimit nodes arcs stamps g limit → HasRoom nodes arcs stamps g → ⊥
no_room nodes arcs stamps g limits.Nodes p room =
    let r = room.for_nodes p.0 in
    let l = p.1 in
    omega (arith, r, l)
no_room nodes arcs stamps g limits.Arcs p room =
    let r = room.for_arcs p.1.0 in
    let l = p.1.1 in
    omega (arith, r, l)
no_room nodes arcs stamps g limits.Stamps p room =
    let r = room.for_stamps p.2.0 in
    let l = p.2.1 in
    omega (arith, r, l)

pub full_denied : (guards : List Guard) (step : PlainStep) (g : Digraph) (fault : AddFault)
    → IsFull step g fault → Denied guards (step ∷ []) g (limit_of fault)
full_denied guards step g (add.Full limit) full = no_room _ _ _ g limit full
full_denied guards step g add.Memory full = tt

pub full_refused : (guards : List Guard) (step : PlainStep) (g : Digraph) (fault : AddFault)
    → IsFull step g fault → Refused guards (step ∷ []) g (limit_of fault)
full_refused guards step g (add.Full limit) full = full
full_refused guards step g add.Memory full = tt

-- where there was room
pub refused : (guards : List Guard) (steps : List PlainStep) (g : Digraph) (fault : AlterFault)
    → HasRoomFor steps g → Denied guards steps g fault → Refused guards steps g fault
refused guards steps g (Vetoed sort key) room denied = (room, denied)
refused guards steps g SameNode room denied = denied
refused guards steps g (Full limit) room denied = absurd (denied room)
refused guards steps g Stale room denied = denied
refused guards steps g Memory room denied = tt
