use Rattle.std.proofs.Common.{◌≡◌, ℕ, ◌+◌, ◌*◌, ◌≤◌, List, false, inr, refl, sym, ap, length}
use Rattle.std.proofs.Common.{◌∙◌, arith}
use Rattle.std.specs.Prelude.{◌||◌, ◌^◌}
use Rattle.token_text.specs.Lines.{lines_of}
use Rattle.token_text.specs.Lines.{is_passed_over}
use Rattle.base_items.specs.declared.limits.TheConstants.{MAX_STAMP}
use Rattle.plain_world.specs.declared.answers.Answer.{Answer}
use Rattle.plain_world.specs.World.{World}
use Rattle.plain_machine.specs.Built.{Answers}
use Rattle.plain_machine.specs.Texts.{is_refused}
use Rattle.plain_machine.specs.Outcome.{Counts}
use Rattle.script_runs.proofs.Results.{at_ok, at_err, at_some, at_none}
use Rattle.script_runs.proofs.Reached.{reached_start, reached_passed, reached_answered}
use Rattle.script_runs.proofs.Reached.{ends_before, ends_unhanded, ends_whole}
use Rattle.script_runs.proofs.script.run_script.Goals.{in-Some-found+in-Ok-answer_bytes+else-is_err}
use Rattle.script_runs.proofs.script.run_script.Goals.{in_default-found}
use Rattle.script_runs.proofs.script.run_script.Goals as goal

-- The line isn't passed over, and has this answer.
abbrev IsSaid : World → List ℕ → World → Answer → Type 0
IsSaid world line later answer = (is_passed_over line ≡ false) × Answers world line answer later

pub script-init : goal.script-init
script-init g c = record {
  room = omega arith;
  in_step = c.requires.in_step;
  stamps = c.requires.stamps;
  writes = refl;
  reads = λ name. refl;
  stores = λ name. refl;
  reached = λ files told. reached_start _ _ _ _ _ told;
}

pub returns-in_default-answer_line-clause-plays : goal.returns-in_default-answer_line-clause-plays
returns-in_default-answer_line-clause-plays g c = λ files told.
    ends_before _ _ _ _ _ _ _ _ _ _ _ _ (c.script.invariant.reached files told)
    c.in-Some.ensures.line c.in_default-answer_line.ensures.asked

pub returns-in_default-answer_bytes-clause-plays : goal.returns-in_default-answer_bytes-clause-plays
returns-in_default-answer_bytes-clause-plays g c = λ files told.
    let said = at_some (IsSaid (g.D.Desk.plain c.script.desk) c.in-Some.line.now
    (g.D.Desk.plain c.answer_line.new.desk))
    c.in-Ok.found c.in-Some-found.answer c.in-Some-found.is c.in-Ok.ensures.answered in
    ends_before _ _ _ _ _ _ _ _ _ _ _ _ (c.script.invariant.reached files told)
    c.in-Some.ensures.line said.0

pub returns-then-is_err-clause-plays : goal.returns-then-is_err-clause-plays
returns-then-is_err-clause-plays g c = λ files told.
    let said = at_some (IsSaid (g.D.Desk.plain c.script.desk) c.in-Some.line.now
    (g.D.Desk.plain c.answer_line.new.desk))
    c.in-Ok.found c.in-Some-found.answer c.in-Some-found.is c.in-Ok.ensures.answered in
    let failed = at_err c.hand_over.result (sym c.is_err.ensures.value
    ∙ c.if-is_err.true) c.hand_over.ensures.unhanded in
    let was = c.script.invariant in
    let text = c.as_slice.ensures.value ∙ c.in-Ok-answer_bytes.ensures in
    let before : Counts = record {
      writes = g.K.Sink.faults c.script.report;
      stores =
          g.S.Shelf.store_faults c.script.shelf;
    } in
    ends_unhanded _ _ _ _ _ _ _ _ _ _ _ _ (was.reached files told) c.in-Some.ensures.line
    c.in-Some-found.answer _ _ _ _ _ before _ said text (omega (arith, was.writes))
    (λ name. omega (arith, was.stores name)) failed

pub script-preserved : goal.script-preserved
script-preserved g c =
    let was = c.script.invariant in
    let next = c.in-Some.ensures in
    let room : c.script.number + 1 + length c.in-Some.after.now ≤ length c.args.script.now =
    omega (arith, was.room, next.less) in
    let stamps : (g.D.Desk.plain c.answer_line.new.desk).graph.stamps
    + 2 ^ 24 * (length c.in-Some.after.now + 1) ≤ MAX_STAMP =
    omega (arith, was.stamps, next.less, c.in-Ok.ensures.stamps) in
    elim c.match-found.branch [
      | in-Some-found+in-Ok-answer_bytes+else-is_err w ↦
          let said = at_some (IsSaid (g.D.Desk.plain c.script.desk) c.in-Some.line.now
          (g.D.Desk.plain c.answer_line.new.desk))
          c.in-Ok.found w.in-Some-found.answer w.in-Some-found.is c.in-Ok.ensures.answered in
          let done = sym w.is_err.ensures.value ∙ w.if-is_err.false in
          let handed = at_ok w.hand_over.result done w.hand_over.ensures.handed in
          let quiet = at_ok w.hand_over.result done w.hand_over.ensures.quiet in
          let text = w.as_slice.ensures.value ∙ w.in-Ok-answer_bytes.ensures in
          let refused : c.match-found.refused ≡ (c.script.refused || is_refused
          w.in-Some-found.answer) =
          w.refused-is ∙ ap (λ b. c.script.refused || b) w.is_refused-refused.ensures in
          record {
            room = room;
            in_step = c.in-Ok.ensures.in_step;
            stamps = stamps;
            writes = ap g.K.Sink.faults w.report-is ∙ quiet.2 ∙ was.writes;
            reads = λ name.
                ap (λ s. g.S.Shelf.read_faults s name) w.shelf-is ∙ quiet.0 name ∙ was.reads name;
            stores = λ name.
                ap (λ s. g.S.Shelf.store_faults s name) w.shelf-is ∙ quiet.1 name ∙ was.stores name;
            reached = λ files told. reached_answered _ _ _ _ _ _ _ _ _ _ _ _
                (was.reached files told) next.line
                w.in-Some-found.answer _ _ _ _ _ said text refused
                (λ all held. let went = handed all held in (
                  ap g.S.Shelf.files w.shelf-is
                      ∙ went.0,
                  ap g.K.Sink.taken w.report-is ∙ went.1,
                ));
          }
      | in_default-found w ↦
          let passed = at_none c.in-Ok.found w.in_default-found.is c.in-Ok.ensures.passed in
          record {
            room = room;
            in_step = c.in-Ok.ensures.in_step;
            stamps = stamps;
            writes = ap g.K.Sink.faults w.report-is ∙ was.writes;
            reads = λ name. ap (λ s. g.S.Shelf.read_faults s name) w.shelf-is ∙ was.reads name;
            stores = λ name. ap (λ s. g.S.Shelf.store_faults s name) w.shelf-is ∙ was.stores name;
            reached = λ files told. reached_passed _ _ _ _ _ _ _ _ _ _ _ _ (was.reached files told)
                next.line
                _ _ _ _ passed w.refused-is (ap g.K.Sink.taken w.report-is)
                (ap g.S.Shelf.files w.shelf-is);
          }
    ]

pub returns-then-refused-clause-plays : goal.returns-then-refused-clause-plays
returns-then-refused-clause-plays g c = λ files told.
    let done = ends_whole _ _ _ _ _ _ _ _ _ _ _ (c.script.invariant.reached files told)
    (ap lines_of c.in_default.ensures.none) c.if-refused.true in
    (done.0, done.1, done.2, done.3, (g.D.Desk.plain c.script.desk, done.4, refl))

pub returns-else-refused-clause-plays : goal.returns-else-refused-clause-plays
returns-else-refused-clause-plays g c = λ files told.
    let done = ends_whole _ _ _ _ _ _ _ _ _ _ _ (c.script.invariant.reached files told)
    (ap lines_of c.in_default.ensures.none) c.if-refused.false in
    (done.0, done.1, done.2, done.3, (g.D.Desk.plain c.script.desk, done.4, refl))

pub returns-in_default-answer_line-clause-quiet : goal.returns-in_default-answer_line-clause-quiet
returns-in_default-answer_line-clause-quiet g c =
    let was = c.script.invariant in
    inr (was.reads, was.stores, was.writes)

pub returns-in_default-answer_bytes-clause-quiet :
    goal.returns-in_default-answer_bytes-clause-quiet
returns-in_default-answer_bytes-clause-quiet g c =
    let was = c.script.invariant in
    inr (was.reads, was.stores, was.writes)

pub returns-then-refused-clause-quiet : goal.returns-then-refused-clause-quiet
returns-then-refused-clause-quiet g c =
    let was = c.script.invariant in
    inr (was.reads, was.stores, was.writes)

pub returns-else-refused-clause-quiet : goal.returns-else-refused-clause-quiet
returns-else-refused-clause-quiet g c =
    let was = c.script.invariant in
    inr (was.reads, was.stores, was.writes)
