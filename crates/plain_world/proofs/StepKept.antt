-- A plain step of any kind, and what holds of the world.
use Rattle.std.proofs.Common.{◌≡◌, ◌↔◌, ℕ, Bool, true, false, cond, not, sym, ◌∙◌, ap, subst}
use Rattle.std.proofs.Common.{List, Option, Some, None, is_some, inl, inr}
use Rattle.std.specs.Prelude.{◌==◌, IsSome}
use Rattle.std.specs.FinMap as fin
use Rattle.std.specs.Ordering.{nat_cmp}
use Rattle.std.proofs.lemmas.Bool.{cases_eq, eq-eqb, true≢false}
use Rattle.std.proofs.lemmas.List.Elements.{All-weaker}
use Rattle.std.proofs.lemmas.Option.{none-some, same_Some}
use Rattle.token_text.specs.Names.{has_twice}
use Rattle.base_items.specs.declared.items.ItemSort.{ItemSort}
use Rattle.base_items.specs.declared.items.ItemSort.TheVariants.{Node, Arc}
use Rattle.script_words.specs.declared.commands.LayerWord.{LayerWord}
use Rattle.script_words.specs.declared.commands.LayerWord.TheVariants as words
use Rattle.script_words.specs.declared.commands.MapType.TheVariants as types
use Rattle.plain_digraph.specs.Lists.{has}
use Rattle.plain_digraph.specs.Digraph.{Digraph, Ends, Place}
use Rattle.plain_digraph.specs.Items.{IsLive, ids, source_of, target_of}
use Rattle.plain_digraph.specs.Steps.{clear_nodes, unplaced}
use Rattle.plain_digraph.specs.PlainSteps.{PlainStep, AddNode, AddArc, MoveFrom, MoveTo, Turn}
use Rattle.plain_digraph.specs.PlainSteps.{PlaceBack, EraseArc, EraseNode, ClearArcs, ClearNodes}
use Rattle.plain_digraph.specs.PlainSteps.{Change, Untouched, Added, Moved, Erased, Cleared}
use Rattle.plain_digraph.specs.PlainSteps.{after_step, change_of}
use Rattle.plain_digraph.specs.Valid as digraph
use Rattle.plain_digraph.specs.ValidLaws.{HasRoomForNode, HasRoomForArc, HasStampLeft, CanPlace}
use Rattle.plain_digraph.specs.ValidLaws.{HasNoArc}
use Rattle.plain_digraph.proofs.Additions.{valid_with_node, valid_with_arc}
use Rattle.plain_digraph.proofs.Changes.{valid_moved_source, valid_moved_target, valid_turned}
use Rattle.plain_digraph.proofs.Changes.{valid_placed, valid_without_arc, valid_without_node}
use Rattle.plain_digraph.proofs.Changes.{valid_no_arcs, get_left, has-unplaced}
use Rattle.plain_digraph.proofs.Filters.{filter_has}
use Rattle.plain_digraph.proofs.Places.{ids-unplaced}
use Rattle.plain_digraph.proofs.Keys.{get_new, get_other}
use Rattle.plain_digraph.proofs.StepLiving.{erased_arc_leaves, erased_node_leaves}
use Rattle.plain_world.specs.Tables.{Named}
use Rattle.plain_world.specs.World.{World, Held, Attribute, Plain, Tied}
use Rattle.plain_world.specs.Following.{follow, tied_after, attribute_after, attached_after}
use Rattle.plain_world.specs.Following.{guard_after}
use Rattle.plain_world.specs.Valid.{IsAttribute}
use Rattle.plain_world.proofs.Attaching.{Follows, Allows, fresh_after, kept_after, Alike, typed}
use Rattle.plain_world.proofs.Attaching.{typed_alike, alike_after}
use Rattle.plain_world.proofs.CopyKept.{MovesLive}
use Rattle.plain_world.proofs.CopiesKept.{LeaveSnapshots, snapshots_after}
use Rattle.plain_world.proofs.CopiesKept.{snapshot_names, copies_after}
use Rattle.plain_world.proofs.LawsKept.{LawsHold}
use Rattle.plain_world.proofs.GuardsKept.{guards_after}
use Rattle.plain_world.proofs.Living.{node_follows, arc_follows}
use Rattle.plain_world.proofs.MapsKept.{named_stays}
use Rattle.plain_world.proofs.TableChanges.{all_changed, differ_changed}
use Rattle.plain_world.proofs.WorldParts.{Amid, LayerOk}

-- ---- what a step needs

abbrev pub CanStep : Digraph → PlainStep → Type 0
CanStep g AddNode = HasRoomForNode g
CanStep g (AddArc from to) = HasRoomForArc g × IsLive g Node from × IsLive g Node to
CanStep g (MoveFrom arc node) = IsLive g Arc arc × IsLive g Node node × HasStampLeft g
CanStep g (MoveTo arc node) = IsLive g Arc arc × IsLive g Node node × HasStampLeft g
CanStep g (Turn arc) = IsLive g Arc arc × HasStampLeft g
CanStep g (PlaceBack fact) = CanPlace g fact
CanStep g (EraseArc arc) = IsLive g Arc arc
CanStep g (EraseNode node) = IsLive g Node node × HasNoArc g node
CanStep g ClearArcs = Unit {0}
CanStep g ClearNodes = digraph.IsValid (clear_nodes g)

pub valid_after : (g : Digraph) (step : PlainStep) → digraph.IsValid g → CanStep g step
    → digraph.IsValid (after_step g step)
valid_after g AddNode valid can = valid_with_node g valid can
valid_after g (AddArc from to) valid can = valid_with_arc g from to valid can.0 can.1 can.2
valid_after g (MoveFrom arc node) valid can =
    valid_moved_source g arc valid can.0 node can.1 can.2
valid_after g (MoveTo arc node) valid can = valid_moved_target g arc valid can.0 node can.1 can.2
valid_after g (Turn arc) valid can = valid_turned g arc valid can.0 can.1
valid_after g (PlaceBack fact) valid can = valid_placed g fact valid can
valid_after g (EraseArc arc) valid can = valid_without_arc g arc valid can
valid_after g (EraseNode node) valid can = valid_without_node g node valid can.0 can.1
valid_after g ClearArcs valid can = valid_no_arcs g valid
valid_after g ClearNodes valid can = can

moves_live : (g : Digraph) (step : PlainStep) → CanStep g step → MovesLive g step
moves_live g (MoveFrom arc node) can = can.0
moves_live g (MoveTo arc node) can = can.0
moves_live g (Turn arc) can = can.0
moves_live g AddNode can = tt
moves_live g (AddArc from to) can = tt
moves_live g (PlaceBack fact) can = tt
moves_live g (EraseArc arc) can = tt
moves_live g (EraseNode node) can = tt
moves_live g ClearArcs can = tt
moves_live g ClearNodes can = tt

-- ---- which items are live

ends_same : (ends : Ends) (arc from to x : ℕ) → IsSome (fin.get ends arc)
    → IsSome (fin.get (fin.insert ends arc (from, to)) x) ↔ IsSome (fin.get ends x)
ends_same ends arc from to x is =
    let same : is_some (fin.get (fin.insert ends arc (from, to)) x) ≡ is_some (fin.get ends x) =
    elim (cases_eq x arc) [
      | inl here ↦
          ap (λ a. is_some (fin.get (fin.insert ends arc (from, to)) a)) here
          ∙ (ap is_some (get_new ends arc (from, to))
          ∙ (sym is ∙ ap (λ a. is_some (fin.get ends a)) (sym here)))
      | inr other ↦ ap is_some (get_other ends arc (from, to) x other)
    ] in
    (λ i. sym same ∙ i, λ i. same ∙ i)

-- a place that is left was there
unplaced_was : (places : List Place) (id x : ℕ) → has (ids (unplaced places id)) x ≡ true
    → has (ids places) x ≡ true
unplaced_was places id x at =
    (filter_has (λ other. not (other == id)) (ids places) x
    (ap (λ xs. has xs x) (sym (ids-unplaced places id)) ∙ at)).0

pub live_after : (g : Digraph) (step : PlainStep) (sort : ItemSort) → digraph.IsValid g
    → CanStep g step → Follows g (after_step g step) sort (change_of g step sort)
live_after g AddNode Node valid can = node_follows g valid
live_after g AddNode Arc valid can = λ x. (λ i. i, λ i. i)
live_after g (AddArc from to) Node valid can = λ x. (λ i. i, λ i. i)
live_after g (AddArc from to) Arc valid can = arc_follows g from to valid
live_after g (MoveFrom arc node) Node valid can = λ x. (λ i. i, λ i. i)
live_after g (MoveFrom arc node) Arc valid can = λ x.
    ends_same g.ends arc node (target_of g arc) x can.0
live_after g (MoveTo arc node) Node valid can = λ x. (λ i. i, λ i. i)
live_after g (MoveTo arc node) Arc valid can = λ x.
    ends_same g.ends arc (source_of g arc) node x can.0
live_after g (Turn arc) Node valid can = λ x. (λ i. i, λ i. i)
live_after g (Turn arc) Arc valid can = λ x.
    ends_same g.ends arc (target_of g arc) (source_of g arc) x can.0
live_after g (PlaceBack fact) Node valid can = λ x. (λ i. i, λ i. i)
live_after g (PlaceBack fact) Arc valid can = λ x.
    ends_same g.ends fact.id fact.from fact.to x can.arc
live_after g (EraseArc arc) Node valid can = λ x. (λ i. i, λ i. i)
live_after g (EraseArc arc) Arc valid can = (
  (erased_arc_leaves g arc arc).0,
  λ x other.
      let same = ap is_some (get_left g.ends arc x other) in
      (λ i. sym same ∙ i, λ i. same ∙ i),
)
live_after g (EraseNode node) Node valid can = (
  (erased_node_leaves g node node).0,
  λ x other. (
    λ i. unplaced_was g.nodes node x i,
    λ i. has-unplaced g.nodes node x other i,
  ),
)
live_after g (EraseNode node) Arc valid can = λ x. (λ i. i, λ i. i)
live_after g ClearArcs Node valid can = λ x. (λ i. i, λ i. i)
live_after g ClearArcs Arc valid can = λ x i.
    true≢false (sym i ∙ ap is_some (fin.get-empty nat_cmp x))
live_after g ClearNodes Node valid can = λ x i. true≢false (sym i)
live_after g ClearNodes Arc valid can = λ x. (λ i. i, λ i. i)

-- ---- attributes

tied_stays : (g h : Digraph) (change : Change) (sort : ItemSort) (id : ℕ) (next : Attribute)
    → Follows g h sort change → IsLive g sort id → tied_after change sort id ≡ Some next
    → IsAttribute h next
tied_stays g h (Added new) sort id next follows live goes =
    subst (IsAttribute h) (same_Some (Tied sort id) next goes) (elim (cases_eq id new) [
      | inl same ↦ subst (IsLive h sort) (sym same) follows.1
      | inr other ↦ (follows.2 id other).1 live
    ])
tied_stays g h (Erased gone) sort id next follows live goes =
    elim (cases_eq gone id) [
      | inl same ↦
          absurd (none-some next
          (sym (ap (λ b. cond b None (Some (Tied sort id))) (eq-eqb gone id same)) ∙ goes))
      | inr other ↦
          by_test (gone == id) (λ e. other e) ((follows.1 id (λ e. other (sym e))).1 live) goes
    ]
  where
    by_test : (b : Bool) → (gone ≡ id → ⊥) → IsLive h sort id
        → cond b None (Some (Tied sort id)) ≡ Some next → IsAttribute h next
    by_test true differ there is = absurd (none-some next is)
    by_test false differ there is =
        subst (IsAttribute h) (same_Some (Tied sort id) next is) there
tied_stays g h (Cleared count) sort id next follows live goes = absurd (none-some next goes)
tied_stays g h Moved sort id next follows live goes =
    subst (IsAttribute h) (same_Some (Tied sort id) next goes) ((follows id).1 live)
tied_stays g h Untouched sort id next follows live goes =
    subst (IsAttribute h) (same_Some (Tied sort id) next goes) ((follows id).1 live)

attribute_stays : (g h : Digraph) (change : ItemSort → Change) (value next : Attribute)
    → ((sort : ItemSort) → Follows g h sort (change sort)) → IsAttribute g value
    → attribute_after change value ≡ Some next → IsAttribute h next
attribute_stays g h change (Plain text) next follows is goes =
    subst (IsAttribute h) (same_Some (Plain text) next goes) tt
attribute_stays g h change (Tied sort id) next follows is goes =
    tied_stays g h (change sort) sort id next (follows sort) is goes

-- ---- layers

layer_alike : (nodes nodes_b arcs arcs_b : List (Named Held)) (layer : LayerWord)
    → Alike nodes_b nodes → Alike arcs_b arcs → LayerOk nodes arcs layer
    → LayerOk nodes_b arcs_b layer
layer_alike nodes nodes_b arcs arcs_b (words.Sub m n) a b is = (
  named_stays (typed nodes types.Bools) (typed nodes_b types.Bools) m
      (λ name at. typed_alike nodes_b nodes types.Bools name a ∙ at) is.0,
  named_stays (typed arcs types.Bools) (typed arcs_b types.Bools) n
      (λ name at. typed_alike arcs_b arcs types.Bools name b ∙ at) is.1,
)
layer_alike nodes nodes_b arcs arcs_b (words.Residual cap flow) a b is = (
  typed_alike arcs_b arcs types.Ints cap b ∙ is.0,
  typed_alike arcs_b arcs types.Ints flow b ∙ is.1,
)
layer_alike nodes nodes_b arcs arcs_b words.Reverse a b is = tt
layer_alike nodes nodes_b arcs arcs_b words.Undirect a b is = tt
layer_alike nodes nodes_b arcs arcs_b words.Split a b is = tt

-- ---- the whole

pub step_kept : (w : World) (step : PlainStep) (fresh new : Option ℕ) → Amid fresh new w
    → CanStep w.graph step → Allows (change_of w.graph step Node) fresh
    → Allows (change_of w.graph step Arc) new → LawsHold (after_step w.graph step) w.guards
    → LeaveSnapshots step w.snapshots
    → Amid (fresh_after (change_of w.graph step Node) fresh)
    (fresh_after (change_of w.graph step Arc) new) (follow w step)
step_kept w step fresh new ok can allows_node allows_arc laws leave =
    let g = w.graph in
    let h = after_step g step in
    let change = change_of g step in
    let live : (sort : ItemSort) → Follows g h sort (change sort) = λ sort.
    live_after g step sort ok.graph_ok can in
    let P : Named Attribute → Type 0 = λ e. IsAttribute g e.value in
    let Q : Named Attribute → Type 0 = λ e. IsAttribute h e.value in
    record {
      graph_ok = valid_after g step ok.graph_ok can;
      nodes_ok = kept_after g h Node (change Node) fresh w.nodes (live Node) allows_node
          ok.nodes_ok;
      arcs_ok = kept_after g h Arc (change Arc) new w.arcs (live Arc) allows_arc ok.arcs_ok;
      guards_ok = guards_after h change w.guards laws
          (λ k d within. (ok.guards_ok k d within).1);
      snapshots_ok = snapshots_after g step w.snapshots ok.graph_ok (moves_live g step can) leave
          ok.snapshots_ok;
      copies_agree = copies_after g step w.snapshots ok.copies_agree;
      views_stand = ok.views_stand;
      layers_ok = All-weaker (λ e. LayerOk w.nodes.maps w.arcs.maps e.value.layer)
          (λ e. LayerOk (attached_after (change Node) w.nodes).maps
          (attached_after (change Arc) w.arcs).maps e.value.layer)
          (λ e is. layer_alike w.nodes.maps (attached_after (change Node) w.nodes).maps w.arcs.maps
          (attached_after (change Arc) w.arcs).maps e.value.layer
          (alike_after (change Node) w.nodes.maps) (alike_after (change Arc) w.arcs.maps) is)
          w.views ok.layers_ok;
      attributes_ok = all_changed P Q (attribute_after change) w.attributes ok.attributes_ok
          (λ e next is goes. attribute_stays g h change e.value next live is goes);
      guards_differ = differ_changed (guard_after change) w.guards ok.guards_differ;
      snapshots_differ = ap has_twice (snapshot_names g step w.snapshots) ∙ ok.snapshots_differ;
      views_differ = ok.views_differ;
      attributes_differ = differ_changed (attribute_after change) w.attributes
          ok.attributes_differ;
    }
