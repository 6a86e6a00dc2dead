-- A world to which a guard came, and one from which a guard went.
use Rattle.std.proofs.Common.{◌≡◌, List, [], ◌∷◌, ◌++◌, map, sym, ap, ◌∙◌, subst, Some}
use Rattle.std.specs.Prelude.{option_map, filter, not}
use Rattle.std.proofs.lemmas.List.{append-nil, map-append}
use Rattle.script_words.specs.declared.commands.GuardWord.{GuardWord}
use Rattle.plain_digraph.specs.Digraph.{Digraph}
use Rattle.plain_digraph.specs.Items.{facts}
use Rattle.plain_digraph.specs.Lists.{AllOf}
use Rattle.observe_core.specs.Seen.{Seen, Watched}
use Rattle.observe_core.specs.Told.{built}
use Rattle.alter_graph.specs.Attaching.{Attaches, detached, uses_key}
use Rattle.alter_graph.specs.Chains.{ChainsSeen, chains_seen}
use Rattle.alter_graph.specs.State as graph
use Rattle.alter_graph.specs.State.{AlterOf, state_of}
use Rattle.plain_world.specs.Tables.{Name, Named, under, with_entry, without_entry}
use Rattle.plain_world.specs.World as plain
use Rattle.desk_names.specs.Rows.{Rows}
use Rattle.desk_world.specs.declared.tables.GuardRow.{GuardRow}
use Rattle.desk_world.specs.declared.world.World.{World}
use Rattle.desk_world.specs.Claims.{Claim, Plays, Guard, claim, guard_claim}
use Rattle.desk_world.specs.InStep.{AreInStep, AreSeated, AreBoxes}
use Rattle.desk_world.specs.Looks.{Look, look_in, looked}
use Rattle.desk_world.specs.Plain.{plain_of, look_of, kinds_of, guard_seen, guard_by, world_seen}
use Rattle.desk_world.proofs.Changing.{looked_more, looked_less}
use Rattle.desk_world.proofs.ClaimsCame.{look_came, agree_more, seats_more}
use Rattle.desk_world.proofs.ClaimsGone.{agree_less, seats_less}
use Rattle.desk_world.proofs.Claimed.{apart_all}
use Rattle.desk_world.proofs.GuardOrder.{guard_comes}
use Rattle.desk_world.proofs.GuardTables.{ahead, after, claims_with, claims_are, claims_midst}
use Rattle.desk_world.proofs.GuardTables.{claims_apart, after_maps, with_guards, guards_seen}
use Rattle.desk_world.proofs.GuardTables.{guards_in_step}
use Rattle.desk_world.proofs.MapsComing.{built_plays}
use Rattle.desk_world.proofs.NamedRows.{Stands}
use Rattle.desk_world.proofs.Relabelled.{Agrees, guards_agree}
use Rattle.desk_world.proofs.Seated.{all_left, all_right, all_both}
use Rattle.desk_world.proofs.SnapTables.{snaps_attached, snaps_left}
use Rattle.desk_world.proofs.Written.{IsElsewhere}

-- the world with other guards and another pool
abbrev pub guarded : plain.World → List (Named plain.Guard) → List GuardWord → plain.World
guarded world guards pool = record world { guards = guards; pool = pool }

-- ---- a guard came

module _ {O : Type 0} (watch : O → Watched) (w : World O) (rows : Rows GuardRow) (boxes : World O)
    (a : AlterOf O) (name : Name) (row : GuardRow) (came : Watched) (in_step : AreInStep watch w)
    (put : rows.rows ≡ with_entry w.guards.rows name row)
    (attaches : Attaches row.sort row.key.0 came (state_of watch w.graph) (state_of watch a))
    (then : graph.IsInStep (state_of watch a)) (plays : Plays Guard came.seen)
    (told_nothing : AreBoxes watch boxes.pool.items) where
  abbrev g : Digraph
  g = w.graph.graph.graph

  abbrev table : List (Named GuardRow)
  table = w.guards.rows

  abbrev next : Seen
  next = built (facts g row.sort) came.seen

  next_plays : Plays Guard next
  next_plays = built_plays Guard (facts g row.sort) came.seen plays

  abbrev front : List Claim
  front = ahead w ++ map guard_claim table

  abbrev back : List Claim
  back = after w

  seated : AreSeated (front ++ back) (chains_seen watch w.graph.chains)
  seated =
      subst (λ list. AreSeated list (chains_seen watch w.graph.chains))
      (claims_are w ∙ ap (claims_with w) (sym (append-nil table)) ∙ claims_apart w table [])
      in_step.seated

  abbrev look : Look
  look = look_of watch w

  abbrev now : Look
  now = look_in (chains_seen watch a.chains)

  abbrev one : Claim
  one = claim row.sort row.key.0 Guard

  agree : AllOf (Agrees look now) (front ++ back)
  agree = agree_more row.sort row.key.0 Guard front back came (state_of watch w.graph)
      (state_of watch a) attaches next_plays seated

  pub more_in_step : AreInStep watch (with_guards w rows boxes a)
  more_in_step =
      guards_in_step watch w rows boxes a in_step then told_nothing
      (all_left (Agrees look now) (ahead w) (map guard_claim table)
      (all_left (Agrees look now) front back agree))
      (snaps_attached row.sort row.key.0 came (state_of watch w.graph) (state_of watch a) attaches)
      (subst (λ list. AreSeated list (chains_seen watch a.chains))
      (sym (ap (claims_with w) put ∙ claims_midst w table (under name row) []))
      (seats_more row.sort row.key.0 Guard front back came (state_of watch w.graph)
      (state_of watch a) attaches next_plays seated
      (guard_comes front one back (after_maps w))))

  row_seen : guard_seen now row ≡ Some (guard_by row.sort next)
  row_seen =
      ap (option_map (guard_by row.sort))
      (look_came row.sort row.key.0 Guard front back came (state_of watch w.graph)
      (state_of watch a) attaches next_plays)

  pub guard_came : plain_of watch (with_guards w rows boxes a)
      ≡ guarded (plain_of watch w)
      (with_entry (plain_of watch w).guards name (guard_by row.sort next))
      (kinds_of watch boxes.pool.items)
  guard_came =
      let pool = kinds_of watch w.pool.items in
      let kinds = kinds_of watch boxes.pool.items in
      let others = all_left (Agrees look now) front back agree in
      let before = all_left (Agrees look now) (ahead w) (map guard_claim table) others in
      let old = all_right (Agrees look now) (ahead w) (map guard_claim table) others in
      ap (λ d. world_seen d now kinds (with_guards w rows boxes a)) attaches.graph
      ∙ guards_seen w g look now pool kinds rows boxes a before
      (all_right (Agrees look now) front back agree)
      ∙ ap (λ guards. guarded (plain_of watch w) guards kinds)
      (ap (looked (guard_seen now)) put
      ∙ looked_more (guard_seen now) table name row (guard_by row.sort next) row_seen
      ∙ ap (λ guards. with_entry guards name (guard_by row.sort next))
      (guards_agree look now table old))

-- ---- a guard went

module _ {O : Type 0} (watch : O → Watched) (w : World O) (rows : Rows GuardRow) (boxes : World O)
    (a : AlterOf O) (name : Name) (row : GuardRow) (in_step : AreInStep watch w)
    (less : rows.rows ≡ without_entry w.guards.rows name) (at : Stands w.guards.rows name row)
    (gone : chains_seen watch a.chains
    ≡ detached row.sort row.key.0 (chains_seen watch w.graph.chains))
    (same_graph : a.graph ≡ w.graph.graph) (then : graph.IsInStep (state_of watch a))
    (told_nothing : AreBoxes watch boxes.pool.items) where
  abbrev c : ChainsSeen
  c = chains_seen watch w.graph.chains

  abbrev rest : List (Named GuardRow)
  rest = at.front ++ at.back

  abbrev prior : List Claim
  prior = ahead w ++ map guard_claim at.front

  abbrev behind : List Claim
  behind = map guard_claim at.back ++ after w

  left : rows.rows ≡ rest
  left = less ∙ at.less

  seated_there : AreSeated (prior ++ claim row.sort row.key.0 Guard ∷ behind) c
  seated_there =
      subst (λ list. AreSeated list c)
      (claims_are w ∙ ap (claims_with w) at.is
      ∙ claims_midst w at.front (under name row) at.back) in_step.seated

  abbrev was : Look
  was = look_of watch w

  abbrev seen_now : Look
  seen_now = look_in (chains_seen watch a.chains)

  agree_left : AllOf (Agrees was seen_now) (prior ++ behind)
  agree_left =
      subst (λ x. AllOf (Agrees was (look_in x)) (prior ++ behind)) (sym gone)
      (agree_less row.sort row.key.0 Guard prior behind c seated_there)

  before_agree : AllOf (Agrees was seen_now) (ahead w)
  before_agree =
      all_left (Agrees was seen_now) (ahead w) (map guard_claim at.front)
      (all_left (Agrees was seen_now) prior behind agree_left)

  pub less_in_step : AreInStep watch (with_guards w rows boxes a)
  less_in_step =
      guards_in_step watch w rows boxes a in_step then told_nothing before_agree
      (ap (λ x. x.snaps) gone
      ∙ ap (filter (λ k. not (uses_key row.sort row.key.0 k))) in_step.snaps
      ∙ snaps_left row.sort row.key.0 w.snapshots.rows
      (all_right (IsElsewhere row.sort row.key.0) (map guard_claim at.back) (after w)
      (all_right (IsElsewhere row.sort row.key.0) prior behind
      (apart_all prior (claim row.sort row.key.0 Guard) behind seated_there.claims_differ)))
      ∙ sym in_step.snaps)
      (subst (λ list. AreSeated list (chains_seen watch a.chains))
      (sym (ap (claims_with w) left ∙ claims_apart w at.front at.back))
      (subst (AreSeated (prior ++ behind)) (sym gone)
      (seats_less row.sort row.key.0 Guard prior behind c seated_there)))

  rest_agrees : AllOf (Agrees was seen_now) (map guard_claim rest)
  rest_agrees =
      subst (AllOf (Agrees was seen_now)) (sym (map-append guard_claim at.front at.back))
      (all_both (Agrees was seen_now) (map guard_claim at.front) (map guard_claim at.back)
      (all_right (Agrees was seen_now) (ahead w) (map guard_claim at.front)
      (all_left (Agrees was seen_now) prior behind agree_left))
      (all_left (Agrees was seen_now) (map guard_claim at.back) (after w)
      (all_right (Agrees was seen_now) prior behind agree_left)))

  pub guard_gone : plain_of watch (with_guards w rows boxes a)
      ≡ guarded (plain_of watch w) (without_entry (plain_of watch w).guards name)
      (kinds_of watch boxes.pool.items)
  guard_gone =
      let pool = kinds_of watch w.pool.items in
      let kinds = kinds_of watch boxes.pool.items in
      ap (λ r. world_seen r.graph seen_now kinds (with_guards w rows boxes a)) same_graph
      ∙ guards_seen w w.graph.graph.graph was seen_now pool kinds rows boxes a
      before_agree
      (all_right (Agrees was seen_now) (map guard_claim at.back) (after w)
      (all_right (Agrees was seen_now) prior behind agree_left))
      ∙ ap (λ guards. guarded (plain_of watch w) guards kinds)
      (ap (looked (guard_seen seen_now)) left ∙ guards_agree was seen_now rest rest_agrees
      ∙ ap (looked (guard_seen was)) (sym left ∙ less)
      ∙ looked_less (guard_seen was) w.guards.rows name)
