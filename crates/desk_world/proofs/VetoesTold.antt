-- Which guard of a world refuses some steps, and what is told of it.
use Rattle.std.proofs.Common.{◌≡◌, ℕ, true, List, [], ◌∷◌, ◌++◌, map, refl, sym, ap, subst}
use Rattle.std.proofs.Common.{Option, Some, None, ◌∙◌, arith}
use Rattle.std.specs.Prelude.{find, option_map, is_some}
use Rattle.std.specs.List.{flat_map}
use Rattle.std.proofs.lemmas.Option.{none-some, same_Some}
use Rattle.base_items.specs.declared.items.ItemSort.{ItemSort}
use Rattle.base_items.specs.declared.items.ItemSort.TheVariants as sorts
use Rattle.base_items.specs.declared.limits.Limit.{Limit}
use Rattle.base_items.specs.declared.limits.Limit.TheVariants as limits
use Rattle.report_text.specs.declared.faults.Fault.TheVariants as faults
use Rattle.list_digraph.specs.Roomy.{Roomy}
use Rattle.plain_digraph.specs.Digraph.{Digraph}
use Rattle.plain_digraph.specs.Lists.{AllOf}
use Rattle.plain_digraph.specs.PlainSteps.{PlainStep}
use Rattle.plain_digraph.specs.Alterations.{vetoer}
use Rattle.observe_core.specs.Seen.{Watched}
use Rattle.notify_chain.specs.declared.key.SeatKey.{SeatKey}
use Rattle.alter_graph.specs.declared.faults.AlterFault.{AlterFault}
use Rattle.alter_graph.specs.declared.faults.AlterFault.TheVariants as alter_faults
use Rattle.alter_graph.specs.Chains.{ChainsSeen, chains_seen}
use Rattle.alter_graph.specs.Outcome.{Refused, Stays}
use Rattle.alter_graph.specs.Room.{HasRoom, HasRoomFor, PassesLimit}
use Rattle.alter_graph.specs.State.{AlterOf, state_of}
use Rattle.alter_graph.specs.Verdict.{guards_of, breaks, Passes, Vetoes}
use Rattle.alter_graph.proofs.Parting.{guards_same}
use Rattle.plain_world.specs.Tables.{Name, Named}
use Rattle.plain_world.specs.World as plain
use Rattle.plain_world.specs.Refusals.{refuses}
use Rattle.desk_world.specs.declared.tables.GuardRow.{GuardRow}
use Rattle.desk_world.specs.declared.world.World.{World}
use Rattle.desk_world.specs.Claims.{Claim, guard_claim, map_claim, snap_claims, view_claims}
use Rattle.desk_world.specs.InStep.{AreInStep}
use Rattle.desk_world.specs.Looks.{look_in}
use Rattle.desk_world.specs.Plain.{plain_of}
use Rattle.desk_world.specs.Vetoes.{AreRefused, is_row_of, veto_of_steps}
use Rattle.desk_world.proofs.GuardRows.{claimed_guards, guards_differ, row_found}
use Rattle.desk_world.proofs.Seated.{SitsIn, all_left, all_right}
use Rattle.desk_world.proofs.Refusers.{IsGuardRow, row_refuses, seat_of_guard, seat_of_row}
use Rattle.desk_world.proofs.Refusers.{key_stops, seated, vetoers_alike, of_vetoer}
use Rattle.desk_world.proofs.Refusers.{by_name, by_key, by_chain}

no_image : {X Y : Type 0} (f : X → Y) (o : Option X) → option_map f o ≡ None → o ≡ None
no_image f None is = refl
no_image f (Some x) is = absurd (none-some (f x) (sym is))

-- the row of the guard that vetoes some steps
record IsVetoer (rows : List (Named GuardRow)) (guards : List (Named plain.Guard))
    (g : Digraph) (steps : List PlainStep) (sort : ItemSort) (key : ℕ) : Type 0 where
  pub row : Named GuardRow
  pub found : find (is_row_of sort key) rows ≡ Some row
  pub name : option_map (λ guard. guard.name) (vetoer refuses guards g steps) ≡ Some row.name

module _ {O : Type 0} (watch : O → Watched) (w : World O) (in_step : AreInStep watch w) where
  abbrev c : ChainsSeen
  c = chains_seen watch w.graph.chains

  abbrev rows : List (Named GuardRow)
  rows = w.guards.rows

  abbrev guards : List (Named plain.Guard)
  guards = (plain_of watch w).guards

  abbrev row_vetoer : Digraph → List PlainStep → Option (Named GuardRow)
  row_vetoer g steps = vetoer (row_refuses (look_in c)) rows g steps

  of_claims : (table : List (Named GuardRow)) → AllOf (SitsIn c) (map guard_claim table)
      → AllOf (IsGuardRow (look_in c)) table
  of_claims [] all = tt
  of_claims (e ∷ es) all = (all.0, of_claims es all.1)

  guard_rows : AllOf (IsGuardRow (look_in c)) rows
  guard_rows =
      let own = map guard_claim rows in
      let halves = flat_map snap_claims w.snapshots.rows in
      let arc_maps = map (map_claim sorts.Arc) w.arcs.maps.rows in
      let node_maps = map (map_claim sorts.Node) w.nodes.maps.rows in
      let views = flat_map view_claims w.views.rows in
      of_claims rows (all_left (SitsIn c) own halves
      (all_right (SitsIn c) views (own ++ halves)
      (all_right (SitsIn c) arc_maps (views ++ (own ++ halves))
      (all_right (SitsIn c) node_maps (arc_maps ++ (views ++ (own ++ halves)))
      in_step.seated.there.1.1.1.1))))

  seats_alike : (sort : ItemSort) (g : Digraph)
      → option_map seat_of_guard (find (λ guard. breaks guard sort g) (guards_of c))
      ≡ option_map seat_of_row (find (λ e. row_refuses (look_in c) e sort g) rows)
  seats_alike sort g =
      by_chain c sort g (in_step.seated.keys_differ sort)
      ∙ ap (λ keys. option_map (seated (look_in c) sort g)
      (find (key_stops (look_in c) sort g) keys))
      (in_step.seated.in_order sort ∙ ap (map (λ (x : Claim). x.key)) (claimed_guards sort w))
      ∙ sym (by_key (look_in c) sort g rows)

  names_alike : (sort : ItemSort) (g : Digraph)
      → option_map (λ e. e.name) (find (λ e. row_refuses (look_in c) e sort g) rows)
      ≡ option_map (λ guard. guard.name) (find (λ guard. refuses guard sort g) guards)
  names_alike sort g = by_name (look_in c) sort g rows guard_rows

  -- the row of the guard that vetoes sits in its seat, and has its name
  by_rows : (g : Digraph) (steps : List PlainStep)
      → option_map seat_of_guard (vetoer breaks (guards_of c) g steps)
      ≡ option_map seat_of_row (row_vetoer g steps)
  by_rows g steps =
      vetoers_alike seat_of_guard seat_of_row breaks (row_refuses (look_in c)) (guards_of c) rows
      seats_alike g steps

  by_names : (g : Digraph) (steps : List PlainStep)
      → option_map (λ e. e.name) (row_vetoer g steps)
      ≡ option_map (λ guard. guard.name) (vetoer refuses guards g steps)
  by_names g steps =
      vetoers_alike (λ e. e.name) (λ guard. guard.name) (row_refuses (look_in c)) refuses rows
      guards names_alike g steps

  -- steps that no seat refuses are refused by no guard of the plain world
  pub passes : (g : Digraph) (steps : List PlainStep) → Passes (guards_of c) steps g
      → vetoer refuses guards g steps ≡ None
  passes g steps none =
      let no_row = no_image seat_of_row (row_vetoer g steps)
      (sym (by_rows g steps) ∙ ap (option_map seat_of_guard) none) in
      no_image (λ guard. guard.name) (vetoer refuses guards g steps)
      (sym (by_names g steps) ∙ ap (option_map (λ e. e.name)) no_row)

  -- where a seat refuses, its row is that of the guard that refuses in the plain world
  vetoes : (g : Digraph) (steps : List PlainStep) (sort : ItemSort) (key : SeatKey)
      → Vetoes (guards_of c) steps g sort key → IsVetoer rows guards g steps sort key.0
  vetoes g steps sort key refused = of_row (row_vetoer g steps) refl
    where
      of_row : (o : Option (Named GuardRow)) → row_vetoer g steps ≡ o
          → IsVetoer rows guards g steps sort key.0
      of_row None is =
          absurd (none-some (sort, key.0)
          (sym (ap (option_map seat_of_row) is) ∙ sym (by_rows g steps) ∙ refused))
      of_row (Some e) is =
          let at : seat_of_row e ≡ (sort, key.0) = same_Some (seat_of_row e) (sort, key.0)
          (sym (ap (option_map seat_of_row) is) ∙ sym (by_rows g steps) ∙ refused) in
          record {
            row = e;
            found = (λ i. find (is_row_of (sym at i).0 (sym at i).1) rows)
                ∙ of_vetoer (row_refuses (look_in c)) rows
                (λ x. find (is_row_of x.value.sort x.value.key.0) rows ≡ Some x)
                (λ own d x. row_found (λ y. row_refuses (look_in c) y own d) rows
                (guards_differ w in_step.seated.claims_differ) x) g steps e is;
            name = sym (by_names g steps) ∙ ap (option_map (λ x. x.name)) is;
          }

  -- ---- at the digraph of the world

  -- steps that no seat refuses have no veto
  pub unvetoed : (steps : List PlainStep) → Passes (guards_of c) steps w.graph.graph.graph
      → veto_of_steps (plain_of watch w) steps ≡ None
  unvetoed steps none =
      ap (option_map (λ (guard : Named plain.Guard). faults.Vetoed guard.name))
      (passes w.graph.graph.graph steps none)

  -- what is told of steps that were refused
  pub told : (steps : List PlainStep) (sort : ItemSort) (key : SeatKey) (name : Name)
      → AreRefused watch w (alter_faults.Vetoed sort key) steps
      → option_map (λ e. e.name) (find (is_row_of sort key.0) rows) ≡ Some name
      → veto_of_steps (plain_of watch w) steps ≡ Some (faults.Vetoed name)
  told steps sort key name are is =
      let at = vetoes w.graph.graph.graph steps sort key are.refused.1 in
      let same : at.row.name ≡ name = same_Some at.row.name name
      (sym (ap (option_map (λ e. e.name)) at.found) ∙ is) in
      named (vetoer refuses guards w.graph.graph.graph steps) (at.name ∙ ap Some same)
    where
      named : (o : Option (Named plain.Guard)) → option_map (λ guard. guard.name) o ≡ Some name
          → option_map (λ guard. faults.Vetoed guard.name) o ≡ Some (faults.Vetoed name)
      named None h = absurd (none-some name h)
      named (Some guard) h = ap (λ n. Some (faults.Vetoed n)) (same_Some guard.name name h)

  pub has_row : (steps : List PlainStep) (sort : ItemSort) (key : SeatKey)
      → AreRefused watch w (alter_faults.Vetoed sort key) steps
      → is_some (find (is_row_of sort key.0) rows) ≡ true
  has_row steps sort key are =
      ap is_some (vetoes w.graph.graph.graph steps sort key are.refused.1).found

-- no limit is passed where there is room
no_limit : (nodes arcs stamps : ℕ) (g : Digraph) (limit : Limit) → HasRoom nodes arcs stamps g
    → PassesLimit nodes arcs stamps g limit → ⊥
no_limit nodes arcs stamps g limits.Nodes room (some, past) =
    let within = room.for_nodes some in absurd (omega (arith, within, past))
no_limit nodes arcs stamps g limits.Arcs room (fits, (some, past)) =
    let within = room.for_arcs some in absurd (omega (arith, within, past))
no_limit nodes arcs stamps g limits.Stamps room (fits, fit, (some, past)) =
    let within = room.for_stamps some in absurd (omega (arith, within, past))

module _ {O : Type 0} (watch : O → Watched) (w : World O) where
  -- steps for which there is room are refused by a guard or for want of memory
  pub not_full : (steps : List PlainStep) (limit : Limit)
      → AreRefused watch w (alter_faults.Full limit) steps → ⊥
  not_full steps limit are = no_limit _ _ _ w.graph.graph.graph limit are.room are.refused

  -- what was refused, said of the world as it is then
  pub refused_then : (a : AlterOf O) (steps : List PlainStep) (why : AlterFault)
      → Stays steps (state_of watch w.graph) (state_of watch a) why
      → HasRoomFor steps w.graph.graph.graph → AreRefused watch (record w { graph = a }) why steps
  refused_then a steps why stays room =
      let old = state_of watch w.graph in
      let new = state_of watch a in
      let guards = guards_same old new stays.same in record {
        room = subst (HasRoomFor steps) (sym stays.same.graph) room;
        refused = subst (λ g. Refused (guards_of new.chains) steps g why)
            (sym stays.same.graph)
            (subst (λ own. Refused own steps old.graph why) (sym guards) stays.refused);
      }

-- the same where the world was made ready before
pub refused_after : {O : Type 0} (watch : O → Watched) (w ready : World O) (a : AlterOf O)
    (steps : List PlainStep) (why : AlterFault) → ready.graph.graph ≡ w.graph.graph
    → HasRoomFor steps w.graph.graph.graph
    → Stays steps (state_of watch ready.graph) (state_of watch a) why
    → AreRefused watch (record ready { graph = a }) why steps
refused_after watch w ready a steps why graph room stays =
    refused_then watch ready a steps why stays
    (subst (λ (r : Roomy). HasRoomFor steps r.graph) (sym graph) room)
