use Rattle.std.proofs.Common.{◌≡◌, ℕ, List, [], Some, inl, inr, ⊎_elim, refl, sym, ap, ◌∙◌, subst}
use Rattle.std.proofs.lemmas.Bool.{true≢false}
use Rattle.std.specs.Prelude.{IsSome}
use Rattle.edge_io.specs.Files.{Took}
use Rattle.plain_machine.specs.declared.statuses.Status.TheVariants as statuses
use Rattle.plain_machine.specs.Words.{RunOn}
use Rattle.plain_machine.proofs.Apart.{run_or_graph, run_or_drill}
use Rattle.script_runs.proofs.Handed.{hands_back}
use Rattle.script_runs.proofs.Nothing.{took_nothing}
use Rattle.script_runs.proofs.Clauses.{lacking_named, too_long_named, bad_graph_named}
use Rattle.script_runs.proofs.Clauses.{complete_named}
use Rattle.lemon_desk.proofs.Seated.{all_seated, each_seated}
use Rattle.lemon_desk.proofs.Finals.{there, there_before, holds_of_last, as_outcome}
use Rattle.lemon_desk.proofs.Told.{found_tracked}
use Rattle.lemon_desk.proofs.NoFiles.{unfiled_outcome, unfiled_usage, unfiled_shapeless}
use Rattle.lemon_desk.proofs.NoFiles.{unfiled_made, unfiled_drilled, unfiled_read}
use Rattle.lemon_desk.proofs.NoFiles.{unfiled_write, done_whole}
use Rattle.lemon_desk.proofs.serve.serve.Goals as goal

-- ---- the words have no shape

pub returns-in_default-clause-outcome : goal.returns-in_default-clause-outcome
returns-in_default-clause-outcome g c = λ files told.
    let wrote = c.answer_unfiled.ensures.ends in
    let back = hands_back _ _ _
    (λ there. done_whole _ (c.answer_unfiled.ensures.handed.0 there).3) in
    (wrote.0, files, wrote.1, told, unfiled_outcome _ _ files _ _ _ _ _ back wrote.2)

pub returns-in_default-clause-handed : goal.returns-in_default-clause-handed
returns-in_default-clause-handed g c = (
  λ there. inr (c.answer_unfiled.ensures.handed.0 there),
  ⊎_elim (λ ran. absurd (c.in_default.ensures.none ran.0 ran.1 ran.2))
      (λ drilled. c.answer_unfiled.ensures.handed.1 drilled),
)

pub returns-in_default-clause-told : goal.returns-in_default-clause-told
returns-in_default-clause-told g c = found_tracked _ _ c.answer_unfiled.ensures.in_step

pub returns-in_default-clause-usage : goal.returns-in_default-clause-usage
returns-in_default-clause-usage g c =
    unfiled_usage _ _ _ _ _ _ _ c.answer_unfiled.ensures.ends.2

pub returns-in_default-clause-shapeless : goal.returns-in_default-clause-shapeless
returns-in_default-clause-shapeless g c = λ none.
    let wrote = c.answer_unfiled.ensures.ends in
    (wrote.0, wrote.1, unfiled_shapeless _ _ _ _ _ _ _ none wrote.2, refl)

pub returns-in_default-clause-made : goal.returns-in_default-clause-made
returns-in_default-clause-made g c = λ seed nodes arcs asks.
    let wrote = c.answer_unfiled.ensures.ends in
    (wrote.0, wrote.1, unfiled_made _ _ _ _ _ _ _ seed nodes arcs asks wrote.2, refl)

pub returns-in_default-clause-drilled : goal.returns-in_default-clause-drilled
returns-in_default-clause-drilled g c = λ seed lines asks.
    let wrote = c.answer_unfiled.ensures.ends in
    (wrote.0, wrote.1, unfiled_drilled _ _ _ _ _ _ _ seed lines asks wrote.2, refl)

pub returns-in_default-clause-read : goal.returns-in_default-clause-read
returns-in_default-clause-read g c = λ read.
    absurd (unfiled_read _ _ _ _ _ _ _ c.answer_unfiled.ensures.ends.2 read)

pub returns-in_default-clause-write : goal.returns-in_default-clause-write
returns-in_default-clause-write g c = λ write.
    inl (unfiled_write _ _ _ _ _ _ _ c.answer_unfiled.ensures.ends.2 write)

pub returns-in_default-clause-quiet : goal.returns-in_default-clause-quiet
returns-in_default-clause-quiet g c =
    ⊎_elim inl (λ same. inr ((λ name. refl), (λ name. refl), same)) c.answer_unfiled.ensures.quiet

pub returns-in_default-clause-lacking : goal.returns-in_default-clause-lacking
returns-in_default-clause-lacking g c = λ files graph script told asks lacks.
    absurd (c.in_default.ensures.none graph script asks)

pub returns-in_default-clause-too_long : goal.returns-in_default-clause-too_long
returns-in_default-clause-too_long g c = λ files graph script told asks long.
    absurd (c.in_default.ensures.none graph script asks)

pub returns-in_default-clause-bad_graph : goal.returns-in_default-clause-bad_graph
returns-in_default-clause-bad_graph g c = λ files graph script bytes told asks held none.
    absurd (c.in_default.ensures.none graph script asks)

pub returns-in_default-clause-complete : goal.returns-in_default-clause-complete
returns-in_default-clause-complete g c =
    λ files graph script text doc told asks has within first second third last.
    absurd (c.in_default.ensures.none graph script asks)

-- ---- memory ran out before the run

pub returns-in_default-wrap_boxes-clause-outcome : goal.returns-in_default-wrap_boxes-clause-outcome
returns-in_default-wrap_boxes-clause-outcome g c = λ files told. (
  [],
  files,
  took_nothing _,
  told,
  (inr (RunOn _ _, c.in-Some.ensures.some, inl (refl, refl)), refl),
)

pub returns-in_default-wrap_boxes-clause-handed : goal.returns-in_default-wrap_boxes-clause-handed
returns-in_default-wrap_boxes-clause-handed g c = (
  λ there. absurd (true≢false (sym there)),
  ⊎_elim (λ ran. absurd ran.3)
      (λ drilled. absurd (run_or_drill _ _ _ _ _ c.in-Some.ensures.some drilled.2)),
)

pub returns-in_default-wrap_boxes-clause-shapeless :
    goal.returns-in_default-wrap_boxes-clause-shapeless
returns-in_default-wrap_boxes-clause-shapeless g c = λ none.
    absurd (none (RunOn _ _) c.in-Some.ensures.some)

pub returns-in_default-wrap_boxes-clause-made : goal.returns-in_default-wrap_boxes-clause-made
returns-in_default-wrap_boxes-clause-made g c = λ seed nodes arcs asks.
    absurd (run_or_graph _ _ _ seed nodes arcs c.in-Some.ensures.some asks)

pub returns-in_default-wrap_boxes-clause-drilled :
    goal.returns-in_default-wrap_boxes-clause-drilled
returns-in_default-wrap_boxes-clause-drilled g c = λ seed lines asks.
    absurd (run_or_drill _ _ _ seed lines c.in-Some.ensures.some asks)

pub returns-in_default-wrap_boxes-clause-quiet : goal.returns-in_default-wrap_boxes-clause-quiet
returns-in_default-wrap_boxes-clause-quiet g c = inr ((λ name. refl), (λ name. refl), refl)

pub returns-in_default-wrap_boxes-clause-lacking :
    goal.returns-in_default-wrap_boxes-clause-lacking
returns-in_default-wrap_boxes-clause-lacking g c = λ files graph script told asks lacks.
    (inr refl, took_nothing _, told)

pub returns-in_default-wrap_boxes-clause-too_long :
    goal.returns-in_default-wrap_boxes-clause-too_long
returns-in_default-wrap_boxes-clause-too_long g c = λ files graph script told asks long. inr tt

pub returns-in_default-wrap_boxes-clause-bad_graph :
    goal.returns-in_default-wrap_boxes-clause-bad_graph
returns-in_default-wrap_boxes-clause-bad_graph g c =
    λ files graph script bytes told asks held none. inr tt

pub returns-in_default-wrap_boxes-clause-complete :
    goal.returns-in_default-wrap_boxes-clause-complete
returns-in_default-wrap_boxes-clause-complete g c =
    λ files graph script text doc told asks has within first second third last. tt

-- ---- the script was run

pub run_files-status-requires : goal.run_files-status-requires
run_files-status-requires g c =
    all_seated _ _ _ c.args.pool.items _ c.in-Ok.ensures c.requires (λ it untold. untold)

pub returns-clause-outcome : goal.returns-clause-outcome
returns-clause-outcome g c = λ files told.
    let run = c.run_files-status.ensures.ends files told in (
      run.0,
      run.1,
      run.2,
      run.3,
      as_outcome _ _ _ _ c.as_final.ensures _ (RunOn _ _) _ _ files run.1 run.0 _ _ _
          c.in-Some.ensures.some
          (each_seated _ _ _ (λ it. refl) c.args.pool.items _ c.in-Ok.ensures)
          c.run_files-status.ensures.handed.0 run.4,
    )

pub returns-clause-handed : goal.returns-clause-handed
returns-clause-handed g c =
    let is = c.as_final.ensures in
    let asks = c.in-Some.ensures.some in
    let whole = c.run_files-status.ensures.handed in (
      λ back. inl (
        _,
        _,
        asks,
        whole.0 (there_before _ _
            (subst (λ found. IsSome found) is back)),
      ),
      ⊎_elim (λ ran. subst (λ found. IsSome found) (sym is)
          (there _ _ (whole.1 ran.3)))
          (λ drilled. absurd (run_or_drill _ _ _ _ _ asks drilled.2)),
    )

pub returns-clause-in_step : goal.returns-clause-in_step
returns-clause-in_step g c =
    holds_of_last _ _ _ c.as_final.ensures _ c.run_files-status.ensures.in_step

pub returns-clause-told : goal.returns-clause-told
returns-clause-told g c =
    found_tracked _ _ (holds_of_last _ _ _ c.as_final.ensures _ c.run_files-status.ensures.in_step)

pub returns-clause-usage : goal.returns-clause-usage
returns-clause-usage g c = λ usage. absurd (c.run_files-status.ensures.asked usage)

pub returns-clause-shapeless : goal.returns-clause-shapeless
returns-clause-shapeless g c = λ none. absurd (none (RunOn _ _) c.in-Some.ensures.some)

pub returns-clause-made : goal.returns-clause-made
returns-clause-made g c = λ seed nodes arcs asks.
    absurd (run_or_graph _ _ _ seed nodes arcs c.in-Some.ensures.some asks)

pub returns-clause-drilled : goal.returns-clause-drilled
returns-clause-drilled g c = λ seed lines asks.
    absurd (run_or_drill _ _ _ seed lines c.in-Some.ensures.some asks)

pub returns-clause-read : goal.returns-clause-read
returns-clause-read g c = λ fault.
    let read = c.run_files-status.ensures.read fault in
    (_, _, c.in-Some.ensures.some, read.0, read.1, read.2)

pub returns-clause-write : goal.returns-clause-write
returns-clause-write g c = c.run_files-status.ensures.write

pub returns-clause-quiet : goal.returns-clause-quiet
returns-clause-quiet g c = c.run_files-status.ensures.quiet

pub returns-clause-lacking : goal.returns-clause-lacking
returns-clause-lacking g c = λ files graph script told asks lacks.
    let run = c.run_files-status.ensures.ends files told in
    let nothing = lacking_named _ _ _ graph script c.in-Some.ensures.some asks _ files _ _ run.4
    lacks in (
      nothing.0,
      subst (Took (g.K.Sink.taken c.args.report.now) (g.K.Sink.taken c.run_files-status.new.report))
          nothing.1 run.2,
      run.3 ∙ ap (λ kept. Some kept) nothing.2,
    )

pub returns-clause-too_long : goal.returns-clause-too_long
returns-clause-too_long g c = λ files graph script told asks long.
    let run = c.run_files-status.ensures.ends files told in
    too_long_named _ _ _ graph script c.in-Some.ensures.some asks _ files _ _ run.4 long

pub returns-clause-bad_graph : goal.returns-clause-bad_graph
returns-clause-bad_graph g c = λ files graph script bytes told asks held none.
    let run = c.run_files-status.ensures.ends files told in
    bad_graph_named _ _ _ graph script c.in-Some.ensures.some asks _ files _ _ run.4 bytes held none

pub returns-clause-complete : goal.returns-clause-complete
returns-clause-complete g c =
    λ files graph script text doc told asks has within first second third last.
    let run = c.run_files-status.ensures.ends files told in
    complete_named _ _ _ graph script c.in-Some.ensures.some asks _ files _ _ run.4 text doc
    (g.S.Shelf.files c.args.shelf.now) (g.S.Shelf.read_faults c.args.shelf.now)
    (g.S.Shelf.read_faults c.run_files-status.new.shelf) has within
    (λ fault. (c.run_files-status.ensures.read fault).0) first second third last
