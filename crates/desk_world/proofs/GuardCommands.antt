-- The command that attaches a guard, from the calls of which it consists.
use Rattle.std.proofs.Common.{◌≡◌, ℕ, Bool, true, false, not, refl, sym, ap, ◌∙◌}
use Rattle.std.proofs.Common.{Option, None}
use Rattle.std.specs.Prelude.{unwrap_or}
use Rattle.std.proofs.lemmas.Option.{none-some}
use Rattle.base_items.specs.declared.items.ItemSort.{ItemSort}
use Rattle.script_words.specs.declared.commands.GuardWord.{GuardWord}
use Rattle.script_words.specs.Valid.{IsGuard}
use Rattle.report_text.specs.declared.faults.Fault.{Fault}
use Rattle.report_text.specs.declared.faults.Fault.TheVariants as faults
use Rattle.report_text.specs.declared.replies.Reply.TheVariants.{Quiet}
use Rattle.plain_digraph.specs.Items.{facts}
use Rattle.observe_core.specs.declared.kinds.Veto.TheVariants.{Refused}
use Rattle.observe_core.specs.Seen.{Watched}
use Rattle.notify_chain.specs.declared.key.SeatKey.{SeatKey}
use Rattle.plain_world.specs.declared.answers.Answer.TheVariants as answers
use Rattle.plain_world.specs.Tables.{Name, has_entry, with_entry}
use Rattle.plain_world.specs.World as plain
use Rattle.plain_world.specs.Demands as demand
use Rattle.plain_world.specs.Effects as effects
use Rattle.plain_world.specs.Refusals.{breach, law_holds, unless}
use Rattle.plain_world.specs.Steps.{Step}
use Rattle.desk_names.specs.Rows.{Rows}
use Rattle.desk_world.specs.declared.tables.GuardRow.{GuardRow}
use Rattle.desk_world.specs.declared.world.World.{World}
use Rattle.desk_world.specs.Boxes.{IsFirstOf, WasSeated, WentBack}
use Rattle.desk_world.specs.InStep.{AreInStep, IsInStep, HasStamps}
use Rattle.desk_world.specs.Plain.{plain_of, kinds_of}
use Rattle.desk_world.proofs.GuardReady.{roomy_in_step, roomy_plain}
use Rattle.desk_world.proofs.GuardSteps.{asked, guard_answered, guard_vetoed, then_valid}
use Rattle.desk_world.proofs.GuardSteps.{law_failed, law_held, last_in_step, last_plain}
use Rattle.desk_world.proofs.GuardsComing.{guarded}
use Rattle.desk_world.proofs.GuardsFound.{guard_there}

unless_met : (b : Bool) (fault : Fault) → unless (not b) fault ≡ None → b ≡ false
unless_met true fault is = absurd (none-some fault (sym is))
unless_met false fault is = refl

module _ {O : Type 0} (watch : O → Watched) (w : World O) (in_step : IsInStep watch w)
    (name : Name) (free : breach (plain_of watch w) (demand.New demand.Guards name) ≡ None) where
  -- the name is new to the table too
  pub new_row : (told : Name) → told ≡ name → has_entry w.guards.rows told ≡ false
  new_row told own =
      ap (has_entry w.guards.rows) own ∙ sym (guard_there watch w in_step.seats name)
      ∙ unless_met (has_entry (plain_of watch w).guards name) (faults.Taken name) free

  module _ (sort : ItemSort) (kind : GuardWord) (number : Option ℕ) (limit place : ℕ)
      (there : breach (plain_of watch w) (demand.HasBox kind) ≡ None)
      (first : IsFirstOf kind place (kinds_of watch w.pool.items)) (roomy : Rows GuardRow)
      (same : roomy.rows ≡ w.guards.rows) (told : Name) (own : told ≡ name)
      (number_is : limit ≡ unwrap_or number 0) where
    abbrev world : plain.World
    world = plain_of watch w

    abbrev ready : World O
    ready = record w { guards = roomy }

    ready_in_step : AreInStep watch ready
    ready_in_step = roomy_in_step watch w roomy same in_step.seats

    ready_plain : plain_of watch ready ≡ world
    ready_plain = roomy_plain watch w roomy same

    -- a box whose law fails
    pub vetoed_step : (next : World O) → WentBack watch place sort limit Refused ready next
        → Step world (asked world name sort kind number)
        (answers.Refused (faults.Vetoed told)) (plain_of watch next)
    vetoed_step next went =
        guard_vetoed world name sort kind number free there told (plain_of watch next) own
        (ap (λ n. law_holds kind n (facts world.graph sort)) (sym number_is)
        ∙ law_failed watch ready ready_in_step told sort kind limit place 0 first next went)
        (went.plain ∙ ready_plain)

    module _ (next : World O) (key : SeatKey)
        (seated : WasSeated watch place sort limit key.0 ready next) (rows : Rows GuardRow)
        (put : rows.rows ≡ with_entry next.guards.rows told (record { sort = sort; key = key }))
      where
        abbrev row : GuardRow
        row = record { sort = sort; key = key }

        put_ready : rows.rows ≡ with_entry roomy.rows told row
        put_ready =
            put ∙ ap (λ (x : World O). with_entry x.guards.rows told row) seated.others

        is_plain : plain_of watch (record next { guards = rows })
            ≡ guarded world
            (with_entry world.guards name (effects.armed sort kind (unwrap_or number 0)))
            (effects.without_box world.pool kind)
        is_plain =
            last_plain watch ready ready_in_step told sort kind limit place key.0 first next seated
            row refl rows put_ready
            ∙ (λ i. guarded (ready_plain i)
            (with_entry (ready_plain i).guards (own i) (effects.armed sort kind (number_is i)))
            (effects.without_box (ready_plain i).pool kind))

        -- a box that was seated
        pub seated_step : Step world (asked world name sort kind number) (answers.Answered Quiet)
            (plain_of watch (record next { guards = rows }))
        seated_step =
            guard_answered world name sort kind number free there
            (plain_of watch (record next { guards = rows }))
            (ap (λ n. law_holds kind n (facts world.graph sort)) (sym number_is)
            ∙ law_held watch ready ready_in_step told sort kind limit place key.0 first next seated)
            is_plain

        pub seated_in_step : IsGuard sort kind number → HasStamps w
            → IsInStep watch (record next { guards = rows })
        seated_in_step valid enough = record {
          seats = last_in_step watch ready ready_in_step told sort kind limit place key.0 first next
              seated row refl rows put_ready;
          valid = then_valid world (plain_of watch (record next { guards = rows })) name sort kind
              number valid in_step.valid enough seated_step;
        }
