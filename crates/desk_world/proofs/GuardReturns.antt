-- The step by which a guard goes from a world.
use Rattle.std.proofs.Common.{◌≡◌, ◌+◌, ◌^◌, ◌≤◌, [], ◌∷◌, ◌++◌, refl}
use Rattle.std.proofs.Common.{sym, ap, ◌∙◌, subst, Some, None}
use Rattle.std.specs.Prelude.{option_map, option_to_list}
use Rattle.std.specs.Option.{option_or}
use Rattle.std.proofs.lemmas.List.{map-append}
use Rattle.std.proofs.lemmas.Option.{same_Some}
use Rattle.base_items.specs.declared.limits.TheConstants.{MAX_STAMP}
use Rattle.script_words.specs.declared.commands.Command.TheVariants as commands
use Rattle.script_words.specs.declared.commands.GuardWord.{GuardWord}
use Rattle.report_text.specs.declared.faults.StepFault.{StepFault}
use Rattle.report_text.specs.declared.replies.Reply.TheVariants.{Quiet}
use Rattle.observe_core.specs.Seen.{Seen, Watched}
use Rattle.alter_graph.specs.Attaching.{detached}
use Rattle.alter_graph.specs.Chains.{chains_seen}
use Rattle.plain_world.specs.declared.answers.Answer.TheVariants.{Answered}
use Rattle.plain_world.specs.Tables.{Name, entry, without_entry}
use Rattle.plain_world.specs.World as plain
use Rattle.plain_world.specs.Demands as demand
use Rattle.plain_world.specs.Refusals.{breach}
use Rattle.plain_world.specs.Steps.{Step}
use Rattle.plain_world.specs.Valid.{IsWorld, NamesDiffer}
use Rattle.plain_machine.specs.Built.{RefusedBy}
use Rattle.plain_world.proofs.CommandsKept.{commands_kept}
use Rattle.desk_names.specs.Rows.{Rows}
use Rattle.desk_world.specs.declared.tables.GuardRow.{GuardRow}
use Rattle.desk_world.specs.declared.world.World.{World}
use Rattle.desk_world.specs.Boxes.{CameBack}
use Rattle.desk_world.specs.Claims.{Plays, Sits, Guard}
use Rattle.desk_world.specs.Faults.{Is}
use Rattle.desk_world.specs.InStep.{AreInStep, AreBoxes, IsBox}
use Rattle.desk_world.specs.Plain.{plain_of, look_of, kinds_of, word_of}
use Rattle.desk_world.proofs.Demanded.{refused, not_met}
use Rattle.desk_world.proofs.GuardCalls.{cleared_box}
use Rattle.desk_world.proofs.GuardTables.{with_guards}
use Rattle.desk_world.proofs.GuardsComing.{guarded, less_in_step, guard_gone}
use Rattle.desk_world.proofs.GuardsFound.{HasGuard, guard_found}
use Rattle.desk_world.proofs.MapCommands.{left}
use Rattle.desk_world.proofs.NamedRows.{Stands, stands}
use Rattle.desk_world.proofs.Seated.{all_both}

-- ---- the plain command

module _ (world : plain.World) (name : Name) where
  pub no_guard : (fault : StepFault) → Is (breach world (demand.There demand.Guards name)) fault
      → RefusedBy world (commands.Unguard name) world fault
  no_guard fault is =
      refused world (commands.Unguard name) fault
      (not_met world (demand.There demand.Guards name) [] fault is)

  -- the guard is gone, and its kind stands last in the pool
  abbrev pub unguarded : plain.World
  unguarded = guarded world (without_entry world.guards name)
      (world.pool ++ option_to_list (option_map (λ (g : plain.Guard). g.kind)
      (entry world.guards name)))

  pub unguard_answered : (later : plain.World)
      → breach world (demand.There demand.Guards name) ≡ None → later ≡ unguarded
      → Step world (commands.Unguard name) (Answered Quiet) later
  unguard_answered later there is = (
    (λ i. option_or (option_or (there i) None) None),
    (refl, is),
  )

  pub unguard_valid : (later : plain.World) → IsWorld world
      → world.graph.stamps + 2 ^ 24 ≤ MAX_STAMP
      → Step world (commands.Unguard name) (Answered Quiet) later → IsWorld later
  unguard_valid later ok enough step =
      commands_kept world later (commands.Unguard name) (Answered Quiet) ok tt (left world enough)
      step

-- ---- a box that came back

module _ {O : Type 0} (watch : O → Watched) (w : World O) (in_step : AreInStep watch w)
    (name : Name) (row : GuardRow) (found : entry w.guards.rows name ≡ Some row) where
  abbrev guard : HasGuard watch w in_step name row
  guard = guard_found watch w in_step name row found

  -- there is a guard in its seat
  pub guard_sits : Sits Guard (look_of watch w row.sort row.key.0)
  guard_sits = subst (Sits Guard) (sym guard.leads.there) guard.leads.plays

  module _ (rows : Rows GuardRow) (less : rows.rows ≡ without_entry w.guards.rows name)
      (differ : NamesDiffer w.guards.rows) (roomy next : World O)
      (ready : roomy ≡ record w { guards = rows; pool = roomy.pool })
      (boxes : roomy.pool.items ≡ w.pool.items)
      (back : CameBack watch row.sort row.key.0 roomy next) where
    abbrev at : Stands w.guards.rows name row
    at = stands w.guards.rows name row differ found

    same_was : guard.leads.seen ≡ back.was
    same_was =
        same_Some guard.leads.seen back.was
        (sym guard.leads.there
        ∙ ap (λ (x : World O). look_of watch x row.sort row.key.0) (sym ready) ∙ back.at)

    is_last : next ≡ with_guards w rows next next.graph
    is_last =
        back.others
        ∙ ap (λ (x : World O). record x { graph = next.graph; pool = next.pool }) ready

    pool_now : next.pool.items ≡ w.pool.items ++ back.box ∷ []
    pool_now = back.pool ∙ ap (λ boxes. boxes ++ back.box ∷ []) boxes

    told_nothing : AreBoxes watch next.pool.items
    told_nothing =
        subst (AreBoxes watch) (sym pool_now)
        (all_both (λ o. IsBox (watch o).seen) w.pool.items (back.box ∷ []) in_step.boxes (
          cleared_box back.was (watch back.box).seen back.told
              (subst (Plays Guard) same_was guard.leads.plays),
          tt,
        ))

    same_graph : next.graph.graph ≡ w.graph.graph
    same_graph = back.graph ∙ ap (λ (x : World O). x.graph.graph) ready

    gone : chains_seen watch next.graph.chains
        ≡ detached row.sort row.key.0 (chains_seen watch w.graph.chains)
    gone =
        back.gone
        ∙ ap (λ (x : World O). detached row.sort row.key.0 (chains_seen watch x.graph.chains)) ready

    pub left_in_step : AreInStep watch next
    left_in_step =
        subst (AreInStep watch) (sym is_last)
        (less_in_step watch w rows next next.graph name row in_step less at gone same_graph
        back.in_step told_nothing)

    kinds_now : kinds_of watch next.pool.items
        ≡ (plain_of watch w).pool ++ option_to_list (option_map (λ (g : plain.Guard). g.kind)
        (entry (plain_of watch w).guards name))
    kinds_now =
        let word : O → GuardWord = λ o. word_of (watch o).seen.kind in
        ap (kinds_of watch) pool_now ∙ map-append word w.pool.items (back.box ∷ [])
        ∙ ap (λ k. kinds_of watch w.pool.items ++ word_of k ∷ [])
        (ap (λ (x : Seen). x.kind) back.told ∙ ap (λ (x : Seen). x.kind) (sym same_was))
        ∙ ap (λ o. kinds_of watch w.pool.items
        ++ option_to_list (option_map (λ (g : plain.Guard). g.kind) o)) (sym guard.own)

    pub left_plain : plain_of watch next ≡ unguarded (plain_of watch w) name
    left_plain =
        ap (plain_of watch) is_last
        ∙ guard_gone watch w rows next next.graph name row in_step less at gone same_graph
        back.in_step told_nothing
        ∙ ap (guarded (plain_of watch w) (without_entry (plain_of watch w).guards name)) kinds_now
