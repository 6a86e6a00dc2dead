-- The steps by which a guard comes to a world, or is refused.
use Rattle.std.proofs.Common.{◌≡◌, ◌+◌, ◌≤◌, ◌^◌, ℕ, Bool, true, false, List, [], ◌∷◌, refl}
use Rattle.std.proofs.Common.{sym, ap, ◌∙◌, subst, Option, Some, None}
use Rattle.std.specs.Prelude.{slice_get, unwrap_or}
use Rattle.std.specs.Option.{option_or}
use Rattle.base_items.specs.declared.items.ItemSort.{ItemSort}
use Rattle.base_items.specs.declared.limits.TheConstants.{MAX_STAMP}
use Rattle.script_words.specs.declared.commands.Command.{Command}
use Rattle.script_words.specs.declared.commands.Command.TheVariants as commands
use Rattle.script_words.specs.declared.commands.GuardWord.{GuardWord}
use Rattle.script_words.specs.Valid.{IsGuard}
use Rattle.report_text.specs.declared.faults.Fault.TheVariants as faults
use Rattle.report_text.specs.declared.faults.StepFault.{StepFault}
use Rattle.report_text.specs.declared.replies.Reply.TheVariants.{Quiet}
use Rattle.base_items.specs.declared.items.Fact.{Fact}
use Rattle.plain_digraph.specs.Digraph.{Digraph}
use Rattle.plain_digraph.specs.Items.{facts}
use Rattle.observe_core.specs.declared.kinds.Veto.TheVariants.{Refused}
use Rattle.observe_core.specs.Guards.{Law, keeps_law}
use Rattle.observe_core.specs.Seen.{Seen, Watched}
use Rattle.observe_core.specs.Told.{built}
use Rattle.alter_graph.specs.Attaching.{Attaches}
use Rattle.alter_graph.specs.State.{state_of}
use Rattle.plain_world.specs.declared.answers.Answer.TheVariants as answers
use Rattle.plain_world.specs.Tables.{Name, with_entry}
use Rattle.plain_world.specs.World as plain
use Rattle.plain_world.specs.Demands as demand
use Rattle.plain_world.specs.Demands.{Demand}
use Rattle.plain_world.specs.Effects as effects
use Rattle.plain_world.specs.Effects.{without_box}
use Rattle.plain_world.specs.Refusals.{breach, law_holds, unless}
use Rattle.plain_world.specs.Steps.{Step}
use Rattle.plain_world.specs.Valid.{IsWorld}
use Rattle.plain_machine.specs.Built.{RefusedBy}
use Rattle.plain_world.proofs.CommandsKept.{commands_kept}
use Rattle.desk_names.specs.Rows.{Rows}
use Rattle.desk_world.specs.declared.tables.GuardRow.{GuardRow}
use Rattle.desk_world.specs.declared.world.World.{World}
use Rattle.desk_world.specs.Boxes.{WasSeated, WentBack, IsFirstOf}
use Rattle.desk_world.specs.Claims.{Plays, Guard}
use Rattle.desk_world.specs.Faults.{Is}
use Rattle.desk_world.specs.InStep.{AreInStep, AreBoxes, IsBox}
use Rattle.desk_world.specs.Plain.{plain_of, kinds_of, word_of, guard_by}
use Rattle.desk_world.proofs.BoxKinds.{word_law, armed_guard, same_kind}
use Rattle.desk_world.proofs.Boxes.{all_at, all_removed, first_kind, first_gone}
use Rattle.desk_world.proofs.ClaimsCame.{look_came}
use Rattle.desk_world.proofs.Demanded.{refused, met, not_met}
use Rattle.desk_world.proofs.GuardTables.{with_guards}
use Rattle.desk_world.proofs.GuardsComing.{guarded, more_in_step, guard_came}
use Rattle.desk_world.proofs.GuardsFound.{seat_law}
use Rattle.desk_world.proofs.MapCommands.{left}
use Rattle.desk_world.proofs.MapsComing.{built_plays}

-- ---- the plain command

module _ (world : plain.World) (name : Name) (sort : ItemSort) (kind : GuardWord)
    (number : Option ℕ) where
  abbrev pub asked : Command
  asked = commands.Guard name sort kind number

  abbrev new : Demand
  new = demand.New demand.Guards name

  abbrev box : Demand
  box = demand.HasBox kind

  abbrev lawful : Demand
  lawful = demand.MeetsLaw name sort kind (unwrap_or number 0)

  pub guard_taken : (fault : StepFault) → Is (breach world new) fault
      → RefusedBy world asked world fault
  guard_taken fault is =
      refused world asked fault (not_met world new (box ∷ lawful ∷ []) fault is)

  pub no_box : (fault : StepFault) → breach world new ≡ None → Is (breach world box) fault
      → RefusedBy world asked world fault
  no_box fault free is =
      refused world asked fault
      (met world new (box ∷ lawful ∷ []) fault free
      (not_met world box (lawful ∷ []) fault is))

  module _ (free : breach world new ≡ None) (there : breach world box ≡ None) where
    -- its law fails
    pub guard_vetoed : (told : Name) (later : plain.World) → told ≡ name
        → law_holds kind (unwrap_or number 0) (facts world.graph sort) ≡ false → later ≡ world
        → Step world asked (answers.Refused (faults.Vetoed told)) later
    guard_vetoed told later own fails same = (
      (λ i. option_or (option_or (free i) (option_or (there i) (option_or
          (unless (fails i) (faults.Vetoed (sym own i))) None))) None),
      same,
    )

    -- it is attached
    pub guard_answered : (later : plain.World)
        → law_holds kind (unwrap_or number 0) (facts world.graph sort) ≡ true
        → later ≡ guarded world
        (with_entry world.guards name (effects.armed sort kind (unwrap_or number 0)))
        (without_box world.pool kind)
        → Step world asked (answers.Answered Quiet) later
    guard_answered later holds is = (
      (λ i. option_or (option_or (free i) (option_or (there i) (option_or
          (unless (holds i) (faults.Vetoed name)) None))) None),
      (refl, is),
    )

-- a command that takes no stamps leaves a world in step
pub then_valid : (old later : plain.World) (name : Name) (sort : ItemSort) (kind : GuardWord)
    (number : Option ℕ) → IsGuard sort kind number → IsWorld old
    → old.graph.stamps + 2 ^ 24 ≤ MAX_STAMP
    → Step old (commands.Guard name sort kind number) (answers.Answered Quiet) later
    → IsWorld later
then_valid old later name sort kind number valid ok enough step =
    commands_kept old later (commands.Guard name sort kind number) (answers.Answered Quiet) ok valid
    (left old enough) step

-- ---- a box that was seated

module _ {O : Type 0} (watch : O → Watched) (w : World O) (in_step : AreInStep watch w)
    (name : Name) (sort : ItemSort) (kind : GuardWord) (limit place key : ℕ)
    (first : IsFirstOf kind place (kinds_of watch w.pool.items)) where
  abbrev word : O → GuardWord
  word o = word_of (watch o).seen.kind

  abbrev live : List Fact
  live = facts w.graph.graph.graph sort

  own_kind : (box : O) → slice_get w.pool.items place ≡ Some box → kind ≡ word box
  own_kind box at =
      same_kind kind (word box) (first_kind word kind w.pool.items place box at first)

  own_law : (box : O) → slice_get w.pool.items place ≡ Some box
      → law_holds kind limit live ≡ keeps_law (watch box).seen.kind limit live
  own_law box at =
      ap (λ k. law_holds k limit live) (own_kind box at)
      ∙ word_law (watch box).seen.kind limit live

  -- a box that went back for its law
  pub law_failed : (next : World O) → WentBack watch place sort limit Refused w next
      → law_holds kind limit live ≡ false
  law_failed next went = by (law_holds kind limit live) refl
    where
      by : (b : Bool) → law_holds kind limit live ≡ b → law_holds kind limit live ≡ false
      by false is = is
      by true is = absurd (went.law refl (sym (own_law went.box went.at) ∙ is))

  module _ (next : World O) (seated : WasSeated watch place sort limit key w next) where
    abbrev s : Seen
    s = (watch seated.box).seen

    abbrev came : Watched
    came = seated.came

    is_box : IsBox s
    is_box = all_at (λ o. IsBox (watch o).seen) w.pool.items place seated.box seated.at
        in_step.boxes

    plays : Plays Guard came.seen
    plays = subst (Plays Guard) (sym seated.armed_by) (record {
      form = is_box.guard.form;
      making = is_box.guard.making;
      kind = is_box.guard.kind;
    })

    told_nothing : AreBoxes watch next.pool.items
    told_nothing =
        subst (AreBoxes watch) (sym seated.pool)
        (all_removed (λ o. IsBox (watch o).seen) w.pool.items place in_step.boxes)

    -- its law holds
    pub law_held : law_holds kind limit live ≡ true
    law_held =
        let seen = look_came sort key Guard [] [] came (state_of watch w.graph)
        (state_of watch next.graph) seated.attaches
        (built_plays Guard live came.seen plays) in
        let law = seat_law watch next.graph seated.in_step sort key (built live came.seen) seen in
        own_law seated.box seated.at
        ∙ subst (λ (x : Seen). Law x.kind x.k live) seated.armed_by
        (subst (λ (g : Digraph). Law came.seen.kind came.seen.k (facts g sort))
        seated.attaches.graph law)

    module _ (row : GuardRow) (own : row ≡ record { sort = sort; key = record { 0 = key } })
        (rows : Rows GuardRow) (put : rows.rows ≡ with_entry w.guards.rows name row) where
      abbrev last : World O
      last = record next { guards = rows }

      is_last : last ≡ with_guards w rows next next.graph
      is_last = ap (λ (x : World O). record x { guards = rows }) seated.others

      attaches : Attaches row.sort row.key.0 came (state_of watch w.graph)
          (state_of watch next.graph)
      attaches = subst (λ (r : GuardRow). Attaches r.sort r.key.0 came (state_of watch w.graph)
          (state_of watch next.graph)) (sym own) seated.attaches

      pub last_in_step : AreInStep watch last
      last_in_step =
          subst (AreInStep watch) (sym is_last)
          (more_in_step watch w rows next next.graph name row came in_step put attaches
          seated.in_step plays told_nothing)

      guard_now : guard_by row.sort (built (facts w.graph.graph.graph row.sort) came.seen)
          ≡ effects.armed sort kind limit
      guard_now =
          ap (λ (r : GuardRow). guard_by r.sort
          (built (facts w.graph.graph.graph r.sort) came.seen)) own
          ∙ ap (λ x. guard_by sort (built live x)) seated.armed_by
          ∙ armed_guard sort limit live s
          ∙ ap (λ k. effects.armed sort k limit) (sym (own_kind seated.box seated.at))

      kinds_now : kinds_of watch next.pool.items ≡ without_box (kinds_of watch w.pool.items) kind
      kinds_now =
          ap (kinds_of watch) seated.pool
          ∙ first_gone word kind w.pool.items place seated.box seated.at first.none_before
          (first_kind word kind w.pool.items place seated.box seated.at first)

      pub last_plain : plain_of watch last
          ≡ guarded (plain_of watch w)
          (with_entry (plain_of watch w).guards name (effects.armed sort kind limit))
          (without_box (plain_of watch w).pool kind)
      last_plain =
          ap (plain_of watch) is_last
          ∙ guard_came watch w rows next next.graph name row came in_step put attaches
          seated.in_step plays told_nothing
          ∙ (λ i. guarded (plain_of watch w)
          (with_entry (plain_of watch w).guards name (guard_now i)) (kinds_now i))
