-- A world whose digraph was restored, and from whose table the snapshot went.
use Rattle.std.proofs.Common.{◌≡◌, true, List, [], ◌∷◌, ◌++◌, map, sym, ap, ◌∙◌, subst, refl}
use Rattle.std.proofs.Common.{cond, filter, is_some}
use Rattle.std.specs.Prelude.{◌||◌, fold}
use Rattle.std.specs.List.{flat_map}
use Rattle.std.proofs.lemmas.List.Elements.{filter-append}
use Rattle.base_items.specs.declared.items.ItemSort.{ItemSort}
use Rattle.base_items.specs.declared.items.ItemSort.TheVariants as sorts
use Rattle.plain_digraph.specs.Digraph.{Digraph}
use Rattle.plain_digraph.specs.Lists.{AllOf}
use Rattle.plain_digraph.specs.PlainSteps.{PlainStep}
use Rattle.observe_core.specs.Seen.{Watched}
use Rattle.alter_graph.specs.declared.snaps.SnapKeys.{SnapKeys}
use Rattle.alter_graph.specs.Attaching.{detached}
use Rattle.alter_graph.specs.Chains.{ChainsSeen, chain_in, chains_seen}
use Rattle.alter_graph.specs.Outcome.{Goes}
use Rattle.alter_graph.specs.Snapping.{forgotten}
use Rattle.alter_graph.specs.State as graph
use Rattle.alter_graph.specs.State.{AlterOf, State, state_of}
use Rattle.script_words.specs.declared.commands.GuardWord.{GuardWord}
use Rattle.plain_world.specs.Following.{follow}
use Rattle.plain_world.specs.Tables.{Name, Named, without_entry}
use Rattle.plain_world.specs.World as plain
use Rattle.desk_names.specs.Rows.{Rows}
use Rattle.desk_world.specs.declared.world.World.{World}
use Rattle.desk_world.specs.Claims.{Claim, ClaimsDiffer, claims_of, guard_claim}
use Rattle.desk_world.specs.Claims.{has_map_kind, snap_claims}
use Rattle.desk_world.specs.InStep.{AreSeated, IsInStep}
use Rattle.desk_world.specs.Leaving.{AreAltered, still_claimed, with_none_left}
use Rattle.desk_world.specs.Looks.{Look, look_in, looked}
use Rattle.desk_world.specs.Plain.{kinds_of, plain_of, snapshot_seen, world_seen}
use Rattle.desk_world.proofs.Altered.{derived_on, follows_on, kept_on, seated_on, snaps_on}
use Rattle.desk_world.proofs.Altered.{still_on}
use Rattle.desk_world.proofs.Changing.{looked_less}
use Rattle.desk_world.proofs.Derived.{derived_agrees}
use Rattle.desk_world.proofs.GuardOrder.{left_detached}
use Rattle.desk_world.proofs.GuardTables.{ahead, nodes_ahead, arcs_ahead, views_ahead}
use Rattle.desk_world.proofs.KeptAgree.{kept_agrees}
use Rattle.desk_world.proofs.HalvesGone.{agree_gone, names_gone, others_left, seated_gone}
use Rattle.desk_world.proofs.NamedRows.{Stands}
use Rattle.desk_world.proofs.Relabelled.{Agrees, snapshots_agree}
use Rattle.desk_world.proofs.Remaining.{still_by}
use Rattle.desk_world.proofs.Seated.{all_left, all_right}
use Rattle.desk_world.proofs.SnapRows.{claims_before, claims_now, others}
use Rattle.desk_world.proofs.SnapRows.{snaps_show, with_snaps}
use Rattle.desk_world.proofs.StillClaimed.{all_kept}
use Rattle.desk_world.proofs.Takes.{TakesAll}

-- ---- claims of seats that are there

-- the halves of snapshots don't leave
snaps_still : (look : Look) (table : List (Named SnapKeys))
    → AllOf (λ x. still_by look x ≡ true) (flat_map snap_claims table)
snaps_still look [] = tt
snaps_still look (e ∷ es) = (refl, (refl, snaps_still look es))

-- the claims of a table stay, whatever may have left of those before them
still_before : (look : Look) (list : List Claim) (table : List (Named SnapKeys))
    → filter (still_by look) (list ++ flat_map snap_claims table)
    ≡ filter (still_by look) list ++ flat_map snap_claims table
still_before look list table =
    filter-append (still_by look) list (flat_map snap_claims table)
    ∙ ap (λ more. filter (still_by look) list ++ more)
    (all_kept (still_by look) (flat_map snap_claims table) (snaps_still look table))

still_agree : (look later : Look) (list : List Claim) → AllOf (Agrees look later) list
    → filter (still_by later) list ≡ filter (still_by look) list
still_agree look later [] all = refl
still_agree look later (x ∷ list) all =
    let rest = still_agree look later list all.1 in
    λ i. cond (has_map_kind x.role || is_some (all.0 i)) (x ∷ rest i) (rest i)

module _ {O : Type 0} (watch : O → Watched) (w : World O) (rows : Rows SnapKeys) (a : AlterOf O)
    (name : Name) (keys : SnapKeys) (in_step : IsInStep watch w)
    (less : rows.rows ≡ without_entry w.snapshots.rows name)
    (at : Stands w.snapshots.rows name keys) (steps : List PlainStep) (r : State)
    (goes : Goes steps (state_of watch w.graph) r) (takes : TakesAll steps w.graph.graph.graph)
    (same_graph : a.graph.graph ≡ r.graph)
    (gone : chains_seen watch a.chains ≡ forgotten keys r.chains)
    (then : graph.IsInStep (state_of watch a)) where
  abbrev d : ChainsSeen
  d = chains_seen watch a.chains

  abbrev was : Look
  was = look_in r.chains

  abbrev now : Look
  now = look_in d

  abbrev table : List (Named SnapKeys)
  table = others_left w.snapshots.rows name keys at

  left : rows.rows ≡ table
  left = less ∙ at.less

  -- ---- the same is seen of all other claims

  differ : ClaimsDiffer (others w ++ flat_map snap_claims w.snapshots.rows)
  differ = subst ClaimsDiffer (claims_before w) in_step.seats.seated.claims_differ

  agree : AllOf (Agrees was now) (others w ++ flat_map snap_claims table)
  agree =
      subst (λ (c : ChainsSeen). AllOf (Agrees was (look_in c))
      (others w ++ flat_map snap_claims table)) (sym gone)
      (agree_gone w.snapshots.rows name keys at (others w) differ r.chains)

  agree_others : AllOf (Agrees was now) (others w)
  agree_others = all_left (Agrees was now) (others w) (flat_map snap_claims table) agree

  -- ---- seats

  claims_then : claims_of (with_snaps w rows a) ≡ others w ++ flat_map snap_claims table
  claims_then =
      claims_now w rows a ∙ ap (λ list. others w ++ flat_map snap_claims list) left

  still_then : still_claimed d (claims_of (with_snaps w rows a))
      ≡ filter (still_by was) (others w) ++ flat_map snap_claims table
  still_then =
      ap (filter (still_by now)) claims_then
      ∙ still_before now (others w) table
      ∙ ap (λ list. list ++ flat_map snap_claims table)
      (still_agree was now (others w) agree_others)

  seated_then : AreSeated (still_claimed d (claims_of (with_snaps w rows a))) (with_none_left d)
  seated_then =
      let before : AreSeated (filter (still_by was) (others w)
      ++ flat_map snap_claims w.snapshots.rows) (with_none_left r.chains) =
      subst (λ list. AreSeated list (with_none_left r.chains))
      (ap (filter (still_by was)) (claims_before w)
      ∙ still_before was (others w) w.snapshots.rows)
      (seated_on watch w r steps in_step.seats goes takes) in
      subst (λ list. AreSeated list (with_none_left d)) (sym still_then)
      (subst (λ c. AreSeated (filter (still_by was) (others w) ++ flat_map snap_claims table)
      (with_none_left c)) (sym gone)
      (seated_gone w.snapshots.rows name keys at (filter (still_by was) (others w))
      (with_none_left r.chains) before))

  left_as : (sort : ItemSort) → (chain_in sort d).left ≡ (chain_in sort r.chains).left
  left_as sort =
      ap (λ c. (chain_in sort c).left) gone
      ∙ left_detached sorts.Arc sort keys.arcs.0 (detached sorts.Node keys.nodes.0 r.chains)
      ∙ left_detached sorts.Node sort keys.nodes.0 r.chains

  all_there_then : ((sort : ItemSort) → (chain_in sort d).left ≡ [])
      → still_claimed d (claims_of (with_snaps w rows a)) ≡ claims_of (with_snaps w rows a)
  all_there_then none =
      let P = λ (x : Claim). still_by was x ≡ true in
      let before : AllOf P (others w ++ flat_map snap_claims w.snapshots.rows) =
      subst (AllOf P) (claims_before w)
      (still_on watch w r steps in_step.seats goes takes
      (λ sort. sym (left_as sort) ∙ none sort)) in
      let front = all_left P (others w) (flat_map snap_claims w.snapshots.rows) before in
      still_then
      ∙ ap (λ list. list ++ flat_map snap_claims table) (all_kept (still_by was) (others w) front)
      ∙ sym claims_then

  -- ---- the world

  pub restored_in_step : AreAltered watch (with_snaps w rows a)
  restored_in_step =
      let all = all_left (Agrees was now) (ahead w) (map guard_claim w.guards.rows) agree_others in
      record {
        graph = then;
        seated = seated_then;
        boxes = in_step.seats.boxes;
        snaps = ap (λ (c : ChainsSeen). c.snaps) gone
            ∙ names_gone w.snapshots.rows name keys at (others w) differ r.chains
            (snaps_on watch w r steps in_step.seats goes takes)
            ∙ sym (ap (map (λ (e : Named SnapKeys). e.value)) left);
        derived = derived_agrees was now w.nodes w.arcs w.attributes.rows all.1.0 all.1.1.1.0
            (nodes_ahead w (Agrees was now) all) (arcs_ahead w (Agrees was now) all)
            (derived_on watch w r steps in_step.seats goes takes);
        kept = kept_agrees was now w.nodes w.arcs w.views.rows
            (views_ahead w (Agrees was now) all) (nodes_ahead w (Agrees was now) all)
            (arcs_ahead w (Agrees was now) all)
            (kept_on watch w r steps in_step.seats goes takes);
        all_there = all_there_then;
      }

  -- the snapshot is gone from the world after the steps
  pub restored_follows : plain_of watch (with_snaps w rows a)
      ≡ record (fold follow (plain_of watch w) steps) {
        snapshots = without_entry (fold follow (plain_of watch w) steps).snapshots name;
      }
  restored_follows =
      let pool : List GuardWord = kinds_of watch w.pool.items in
      let g : Digraph = r.graph in
      let before : plain.World = world_seen g was pool w in
      ap (λ h. world_seen h now pool (with_snaps w rows a)) same_graph
      ∙ snaps_show w rows a g was now pool agree_others
      ∙ ap (λ snapshots. record before { snapshots = snapshots })
      (ap (looked (snapshot_seen g now)) left
      ∙ snapshots_agree was now g table
      (all_right (Agrees was now) (others w) (flat_map snap_claims table) agree)
      ∙ ap (looked (snapshot_seen g was)) (sym left ∙ less)
      ∙ looked_less (snapshot_seen g was) w.snapshots.rows name)
      ∙ ap (λ (v : plain.World). record v { snapshots = without_entry v.snapshots name })
      (follows_on watch w r steps in_step.seats goes takes in_step.valid)
