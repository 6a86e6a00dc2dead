-- The digraph of which a valid snapshot is the copy.
use Rattle.std.proofs.Common.{◌≡◌, ℕ, ◌+◌, ◌*◌, ◌≤◌, true, false, cond, List, [], ◌∷◌}
use Rattle.std.proofs.Common.{map, length, Option, Some, None, refl, sym, ap, ◌∙◌, subst, arith}
use Rattle.std.proofs.Common.{nat_le, ◌&&◌, Contains, IsTrue}
use Rattle.std.specs.Prelude.{option_map, option_and_then}
use Rattle.std.proofs.lemmas.Grind.{common_steps}
use Rattle.std.proofs.lemmas.List.{append-nil, length-map}
use Rattle.std.proofs.lemmas.Option.{none-some, same_Some}
use Rattle.base_items.specs.declared.items.Fact.{Fact}
use Rattle.base_items.specs.declared.items.ItemSort.TheVariants as sorts
use Rattle.base_items.specs.declared.limits.TheConstants.{MAX_ARCS, MAX_STAMP}
use Rattle.script_words.specs.declared.commands.Command.TheVariants as commands
use Rattle.plain_digraph.specs.Alterations.{Alteration, all_steps, refusable_steps, restoring}
use Rattle.plain_digraph.specs.Copies.{Copy, copy_of, moved}
use Rattle.plain_digraph.specs.Digraph.{Digraph}
use Rattle.plain_digraph.specs.Facts.{fact_id}
use Rattle.plain_digraph.specs.Items.{facts, node_fact, stamp_of}
use Rattle.plain_digraph.specs.Lists.{AllOf}
use Rattle.plain_digraph.specs.PlainSteps.{PlaceBack}
use Rattle.plain_digraph.specs.RestoreLaws.{Keeps, StampsApart}
use Rattle.plain_digraph.specs.Valid.{IsValid}
use Rattle.plain_digraph.proofs.SameLists.{facts_are_whole}
use Rattle.observe_core.specs.Held.{Held, Nothing, Values, Degree, Half, Kept, Ties}
use Rattle.observe_core.specs.Items.{has_id, number_id, rises_from}
use Rattle.observe_core.specs.Saved.{saved, saved_of, was_of}
use Rattle.observe_core.specs.Seen.{Watched}
use Rattle.observe_core.proofs.ItemLemmas.{all_at, and_left, and_right, rises_higher}
use Rattle.alter_graph.specs.declared.snaps.SnapKeys.{SnapKeys}
use Rattle.alter_graph.specs.Chains.{ChainsSeen, chains_seen}
use Rattle.alter_graph.specs.Present.{present_of}
use Rattle.alter_graph.specs.Restoring.{IsMaking}
use Rattle.alter_graph.specs.Room.{HasRoomFor, arcs_in, nodes_in}
use Rattle.alter_graph.specs.Snaps.{IsSnap, Saved, is_valid, kept_of, saved_by}
use Rattle.alter_graph.specs.State.{State, state_of}
use Rattle.alter_graph.specs.Steps.{CanTakeAll}
use Rattle.alter_graph.proofs.Kept.{kept_can, no_arcs, no_nodes}
use Rattle.alter_graph.proofs.Listing.{all_in, facts_live}
use Rattle.alter_graph.proofs.Saving.{was_id}
use Rattle.alter_graph.proofs.Taking.{steady_in}
use Rattle.alter_graph.proofs.Tied.{places_tied}
use Rattle.plain_world.specs.Altering.{alteration_of}
use Rattle.plain_world.specs.Tables.{Name, Named, entry}
use Rattle.plain_world.specs.Valid.{IsCopy, IsSnapshot}
use Rattle.plain_world.specs.World as plain
use Rattle.plain_world.proofs.CopiesKept.{entry_holds}
use Rattle.desk_world.specs.declared.world.World.{World}
use Rattle.desk_world.specs.Copies.{copy_of_facts}
use Rattle.desk_world.specs.InStep.{HasStamps, IsInStep}
use Rattle.desk_world.specs.Plain.{plain_of}
use Rattle.desk_world.proofs.Edited.{few_asked}
use Rattle.desk_world.proofs.MapsFound.{of_entry}
use Rattle.desk_world.proofs.RestoreCopies.{AreFacts, IsNodeFact, Rises, facts_told}
use Rattle.desk_world.proofs.RestoreSteps.{takes_restoring}
use Rattle.desk_world.proofs.SnapCopies.{copy_now}
use Rattle.desk_world.proofs.SnapsFollow.{copy_if}
use Rattle.desk_world.proofs.SnapsFound.{snap_found}
use Rattle.desk_world.proofs.Takes.{TakesAll}

-- ---- what a half saves

saved_rise : (low : ℕ) (added : List ℕ) (kept live : List Fact) → Rises low live
    → Rises low (saved added kept live)
saved_rise low added kept [] rise = refl
saved_rise low added kept (f ∷ fs) rise =
    let a = and_left (nat_le low f.id) (rises_from fact_id (f.id + 1) fs) rise in
    let b = and_right (nat_le low f.id) (rises_from fact_id (f.id + 1) fs) rise in
    let rest = saved_rise (f.id + 1) added kept fs b in
    elim (has_id number_id f.id added) as (λ b.
    Rises low (cond b (saved added kept fs) (was_of kept f ∷ saved added kept fs))) [
      | true ↦ rises_higher fact_id low (f.id + 1) (saved added kept fs) rest
          (grind (arith, common_steps, a))
      | false ↦ subst (λ id. IsTrue (nat_le low id
          && rises_from fact_id (id + 1) (saved added kept fs)))
          (sym (was_id kept f)) (grind (arith, common_steps, a, rest))
    ]

saved_all : (P : Fact → Type 0) (added : List ℕ) (live : List Fact) → AllOf P live
    → AllOf P (saved added [] live)
saved_all P added [] all = tt
saved_all P added (f ∷ fs) all =
    let rest = saved_all P added fs all.1 in
    elim (has_id number_id f.id added) as (λ b.
    AllOf P (cond b (saved added [] fs) (f ∷ saved added [] fs)))
    [ true ↦ rest | false ↦ (all.0, rest) ]

half_rises : (h : Held) (live : List Fact) → Rises 0 live → Rises 0 (saved_of h live)
half_rises Nothing live rise = refl
half_rises (Values t es) live rise = refl
half_rises (Degree out ends) live rise = refl
half_rises (Half added others kept valid) live rise = saved_rise 0 added kept live rise
half_rises (Kept role all items) live rise = refl
half_rises (Ties ties) live rise = refl

half_all : (P : Fact → Type 0) (h : Held) (live : List Fact) → kept_of h ≡ [] → AllOf P live
    → AllOf P (saved_of h live)
half_all P Nothing live none all = tt
half_all P (Values t es) live none all = tt
half_all P (Degree out ends) live none all = tt
half_all P (Half added others kept valid) live none all =
    subst (λ k. AllOf P (saved added k live)) (sym none) (saved_all P added live all)
half_all P (Kept role all_new items) live none all = tt
half_all P (Ties ties) live none all = tt

-- ---- the facts of a digraph

node_told : (id : ℕ) (at : Option ℕ) (f : Fact) → option_map (node_fact id) at ≡ Some f
    → f ≡ node_fact id f.from_at
node_told id None f is = absurd (none-some f is)
node_told id (Some at) f is =
    let own : node_fact id at ≡ f = same_Some (node_fact id at) f is in
    sym own ∙ ap (node_fact id) (ap (λ (x : Fact). x.from_at) own)

nodes_told : (g : Digraph) → IsValid g → AllOf IsNodeFact (facts g sorts.Node)
nodes_told g valid =
    all_in IsNodeFact (facts g sorts.Node)
    (λ f there. node_told f.id (stamp_of g.nodes f.id) f
    ((facts_are_whole g sorts.Node f valid).0 there))

facts_are : (g : Digraph) → IsValid g → AreFacts (facts g sorts.Node) (facts g sorts.Arc)
facts_are g valid = record {
  rise_nodes = (facts_live g sorts.Node valid).rising;
  rise_arcs = (facts_live g sorts.Arc valid).rising;
  are_nodes = nodes_told g valid;
}

-- ---- a snapshot of a world

all_values : {X : Type 0} (P : X → Type 0) (table : List (Named X))
    → AllOf P (map (λ (e : Named X). e.value) table) → AllOf (λ (e : Named X). P e.value) table
all_values P [] all = tt
all_values P (e ∷ es) all = (all.0, all_values P es all.1)

value_there : {X : Type 0} (table : List (Named X)) (name : Name) (x : X)
    → entry table name ≡ Some x → Contains (map (λ (e : Named X). e.value) table) x
value_there {X} table name x found =
    let values : List X = map (λ (e : Named X). e.value) table in
    of_entry (Contains values) table name x
    (all_values (Contains values) table (all_in (Contains values) values (λ y c. c))) found

-- the digraph of which it may be, whose copy stands under the name
pub record IsMade {O : Type 0} (watch : O → Watched) (w : World O) (name : Name) (keys : SnapKeys)
    : Type 0 where
  pub making : Digraph
  pub is : IsMaking keys (state_of watch w.graph) making
  pub found : entry (plain_of watch w).snapshots name ≡ Some (Some (copy_of making))
  pub keeps : Keeps making w.graph.graph.graph
  pub apart : StampsApart making w.graph.graph.graph

module _ {O : Type 0} (watch : O → Watched) (w : World O) (in_step : IsInStep watch w)
    (name : Name) (keys : SnapKeys) (row : entry w.snapshots.rows name ≡ Some keys) where
  abbrev c : ChainsSeen
  c = chains_seen watch w.graph.chains

  abbrev g : Digraph
  g = w.graph.graph.graph

  abbrev s : State
  s = state_of watch w.graph

  abbrev world : plain.World
  world = plain_of watch w

  -- the digraph knows it
  pub name_there : Contains c.snaps keys
  name_there =
      subst (λ names. Contains names keys) (sym in_step.seats.snaps)
      (value_there w.snapshots.rows name keys row)

  module _ (valid : is_valid keys c ≡ true) where
    abbrev copied : Saved
    copied = saved_by keys (present_of g) c

    snap : IsSnap (present_of g) c keys
    snap = all_at (IsSnap (present_of g) c) keys c.snaps in_step.seats.graph.seats.snaps.each
        name_there

    copied_are : AreFacts copied.nodes copied.arcs
    copied_are =
        let live = facts_are g in_step.seats.graph.valid in record {
          rise_nodes = half_rises _ (facts g sorts.Node) live.rise_nodes;
          rise_arcs = half_rises _ (facts g sorts.Arc) live.rise_arcs;
          are_nodes = half_all IsNodeFact _ (facts g sorts.Node) snap.still live.are_nodes;
        }

    found_copy : entry world.snapshots name ≡ Some (Some (copy_of_facts copied.nodes copied.arcs))
    found_copy =
        snap_found watch w in_step.seats name keys row ∙ ap (λ b. Some (copy_if b copied)) valid

    pub is_made : IsMade watch w name keys
    is_made =
        let is : IsCopy g (copy_of_facts copied.nodes copied.arcs) =
        entry_holds (IsSnapshot g) world.snapshots name
        (Some (copy_of_facts copied.nodes copied.arcs)) in_step.valid.snapshots_ok found_copy in
        let same = facts_told copied.nodes copied.arcs (facts is.copied sorts.Node)
        (facts is.copied sorts.Arc) copied_are (facts_are is.copied is.copied_ok)
        (sym is.is_copied ∙ sym (copy_now is.copied is.copied_ok)) in
        record {
          making = is.copied;
          is = record { valid = is.copied_ok; nodes = same.0; arcs = same.1 };
          found = found_copy ∙ ap (λ (copy : Copy). Some (Some copy)) (sym is.is_copied);
          keeps = is.keeps;
          apart = is.apart;
        }

    -- ---- its restoring

    module _ (made : IsMade watch w name keys) (left : HasStamps w) where
      abbrev pub alteration : Alteration
      alteration = restoring (copy_of made.making)

      pub alters : alteration_of world (commands.Restore name) ≡ Some alteration
      alters =
          ap (λ o. option_map restoring (option_and_then (λ (o : Option Copy). o) o)) made.found

      pub few : length (refusable_steps g alteration) ≤ 2 * MAX_ARCS
      few = few_asked world (commands.Restore name) alteration in_step.valid alters

      abbrev facts_moved : List Fact
      facts_moved = moved (copy_of made.making) g

      -- arcs go back, each by a step
      steps_are : refusable_steps g alteration ≡ map PlaceBack facts_moved
      steps_are = append-nil (map PlaceBack facts_moved)

      enough : g.stamps + length facts_moved ≤ MAX_STAMP
      enough =
          let size = ap length steps_are in
          let size_b = length-map facts_moved PlaceBack in
          omega (arith, few, left, size, size_b)

      pub takes : TakesAll (all_steps g alteration) g
      takes =
          let steady = steady_in watch sorts.Arc w.graph.chains in
          takes_restoring made.making g made.is.valid in_step.seats.graph.valid made.keeps
          made.apart enough
          (subst (λ steps. CanTakeAll steps g)
          (places_tied keys made.making s in_step.seats.graph name_there made.is steady)
          (kept_can s in_step.seats.graph keys name_there valid steady))

      pub has_room : HasRoomFor (refusable_steps g alteration) g
      has_room =
          let none = no_nodes facts_moved in
          let no_arc = no_arcs facts_moved in
          let nodes = ap nodes_in steps_are in
          let arcs = ap arcs_in steps_are in
          record {
            for_nodes = λ some. absurd (omega (arith, some, nodes, none));
            for_arcs = λ some. absurd (omega (arith, some, arcs, no_arc));
            for_stamps = λ some. omega (arith, few, left);
          }
