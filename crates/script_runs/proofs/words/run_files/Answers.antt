use Rattle.std.proofs.Common.{◌≡◌, inl, inr, ⊎_elim, sym, ap, ◌∙◌, subst, arith}
use Rattle.std.specs.Prelude.{IsSome, IfSome}
use Rattle.std.proofs.lemmas.Bool.{true≢false}
use Rattle.edge_io.specs.Causes.{NeverFall}
use Rattle.edge_io.specs.Files.{Took}
use Rattle.token_text.specs.Lines.{lines_of}
use Rattle.plain_world.specs.Documents.{load}
use Rattle.plain_machine.specs.Outcome.{Counts, Left, IsAnswered}
use Rattle.script_runs.specs.Handing.{handed_at, handed_by}
use Rattle.script_runs.specs.Opening.{EndsUnopened}
use Rattle.script_runs.proofs.Handed.{kept_handed, kept_whole, whole_kept, kept_holds}
use Rattle.script_runs.proofs.Handed.{unopened_not_whole}
use Rattle.script_runs.proofs.Runs.{Plays}
use Rattle.script_runs.proofs.Played.{EndsRun, plays_since, played}
use Rattle.script_runs.proofs.words.run_files.Goals as goal

-- ---- the files weren't opened

pub returns-in-Err-clause-handed : goal.returns-in-Err-clause-handed
returns-in-Err-clause-handed g c = (
  λ there. absurd (true≢false (sym there)),
  λ whole. absurd (unopened_not_whole _ c.in-Err.ensures.unopened whole),
)

pub returns-in-Err-clause-asked : goal.returns-in-Err-clause-asked
returns-in-Err-clause-asked g c = λ usage. subst EndsUnopened usage c.in-Err.ensures.unopened

pub returns-in-Err-clause-write : goal.returns-in-Err-clause-write
returns-in-Err-clause-write g c = λ write. inl (c.in-Err.ensures.write write)

-- ---- the script was run

pub returns-in-Ok-clause-ends : goal.returns-in-Ok-clause-ends
returns-in-Ok-clause-ends g c = λ files told.
    let opened = c.in-Ok.ensures.opened files told in
    let still = c.in-Ok.ensures.still in
    let doc = opened.0 in
    let pool = g.D.Desk.kinds c.args.pool in
    let status = c.run_script-status.result in
    let plain = g.D.Desk.plain in
    let later = c.run_script-status.new.desk in
    let first : Counts = record {
      writes = g.K.Sink.faults c.args.report.now;
      stores = g.S.Shelf.store_faults c.args.shelf.now;
    } in
    let before : Counts = record {
      writes = g.K.Sink.faults c.open_files.new.report;
      stores = g.S.Shelf.store_faults c.open_files.new.shelf;
    } in
    let now : Counts = record {
      writes = g.K.Sink.faults c.run_script-status.new.report;
      stores = g.S.Shelf.store_faults c.run_script-status.new.shelf;
    } in
    let plays = c.run_script-status.ensures.plays files (c.in-Ok.ensures.kept ∙ told) in
    let left : Left = record {
      out = plays.0;
      files = plays.1;
      handed = handed_at status (plain later);
      before = before;
      now = now;
    } in
    let loaded = subst (λ w. Plays w files (lines_of c.as_slice.result.now) left status)
    opened.3 plays.4 in
    let lines = subst (λ t. Plays (load doc pool) files (lines_of t) left status)
    c.as_slice.ensures.value loaded in
    let stores : NeverFall first.stores before.stores = λ name. omega (arith, still.1 name) in
    let writes = still.2 in
    let since = plays_since (load doc pool) files (lines_of c.in-Ok.opened.text.items) left first
    status (omega (arith, writes)) stores lines in
    let run = played pool files c.args.graph.now c.args.script.now (record left { before = first })
    status (doc, c.in-Ok.opened.text.items, opened.1, opened.2, since) in
    let last = g.K.Sink.taken c.run_script-status.new.report in
    let handed : handed_by plain c.handed_back.result ≡ handed_at status (plain later) =
    ap (handed_by plain) c.handed_back.ensures ∙ kept_handed plain status later in (
      plays.0,
      plays.1,
      subst (λ taken. Took taken last plays.0) still.3 plays.2,
      plays.3,
      subst (λ h. EndsRun pool files c.args.graph.now c.args.script.now
          (record left { before = first; handed = h }) status) (sym handed) run,
    )

pub returns-in-Ok-clause-handed : goal.returns-in-Ok-clause-handed
returns-in-Ok-clause-handed g c =
    let status = c.run_script-status.result in
    let desk = c.run_script-status.new.desk in
    let is = c.handed_back.ensures in (
      λ there. kept_whole status desk (subst (λ found. IsSome found) is there),
      λ whole. subst (λ found. IsSome found) (sym is) (whole_kept status desk whole),
    )

pub returns-in-Ok-clause-in_step : goal.returns-in-Ok-clause-in_step
returns-in-Ok-clause-in_step g c =
    subst (λ found. IfSome found g.D.Desk.in_step) (sym c.handed_back.ensures)
    (kept_holds g.D.Desk.in_step c.run_script-status.result c.run_script-status.new.desk
    c.run_script-status.ensures.in_step)

pub returns-in-Ok-clause-asked : goal.returns-in-Ok-clause-asked
returns-in-Ok-clause-asked g c = λ usage.
    ⊎_elim (λ answered. absurd (subst IsAnswered usage answered))
    (λ write. absurd (cc (sym write ∙ usage))) c.run_script-status.ensures.status

pub returns-in-Ok-clause-read : goal.returns-in-Ok-clause-read
returns-in-Ok-clause-read g c = λ read.
    ⊎_elim (λ answered. absurd (subst IsAnswered read answered))
    (λ write. absurd (cc (sym write ∙ read))) c.run_script-status.ensures.status

pub returns-in-Ok-clause-quiet : goal.returns-in-Ok-clause-quiet
returns-in-Ok-clause-quiet g c =
    let still = c.in-Ok.ensures.still in
    ⊎_elim inl (λ ran. inr (
      (λ name. ran.0 name ∙ still.0 name),
      (λ name. ran.1 name ∙ still.1 name),
      ran.2 ∙ still.2,
    )) c.run_script-status.ensures.quiet
