use Rattle.std.proofs.Common.{◌≡◌, ℕ, [], ◌<◌, Some, inl, inr, refl, sym, ap, ◌∙◌, length, take}
use Rattle.edge_io.specs.Causes.{Rose}
use Rattle.edge_io.specs.Files.{Files, Took}
use Rattle.plain_machine.specs.Texts.{overwritten, saves_of}
use Rattle.script_runs.proofs.Results.{on_err, by_both}
use Rattle.script_runs.proofs.Nothing.{took_nothing}
use Rattle.script_runs.proofs.answers.hand_over.Goals.{in-Some+in_ok-store, in_default}
use Rattle.script_runs.proofs.answers.hand_over.Goals as goal

pub returns-in_err-store-clause-unhanded : goal.returns-in_err-store-clause-unhanded
returns-in_err-store-clause-unhanded g c = on_err c.from_residual.result (λ files told.
    let part = c.in_err-store.ensures.part files told in (
      [],
      part.0,
      took_nothing (g.K.Sink.taken c.args.report.now),
      part.1,
      inr (
        c.in-Some.name.now,
        c.in-Some.bytes.now,
        c.in-Some.ensures,
        refl,
        part.2,
        c.in_err-store.ensures.cause,
      ),
    ))

pub returns-clause-unhanded : goal.returns-clause-unhanded
returns-clause-unhanded g c =
    let saves = saves_of c.args.answer.now in
    let kept : (files : Files) → g.S.Shelf.files c.args.shelf.now ≡ Some files
    → g.S.Shelf.files c.match-saved.shelf ≡ Some (overwritten files saves) =
    elim c.match-saved.branch [
      | in-Some+in_ok-store w ↦ λ files told.
          ap g.S.Shelf.files w.shelf-is ∙ w.in_ok-store.ensures.stored files told
          ∙ ap (λ saves. Some (overwritten files saves)) (sym w.in-Some.ensures)
      | in_default w ↦ λ files told.
          ap g.S.Shelf.files w.shelf-is ∙ told
          ∙ ap (λ saves. Some (overwritten files saves)) (sym w.in_default.ensures)
    ] in
    by_both c.write_piece.result
    (λ (part : (count : ℕ) × (count < length c.args.text.now)
    × Took (g.K.Sink.taken c.args.report.now) (g.K.Sink.taken c.write_piece.new.sink)
    (take count c.args.text.now))
    (cause : Rose (g.K.Sink.faults c.args.report.now) (g.K.Sink.faults c.write_piece.new.sink)).
    λ files told. (
      take part.0 c.args.text.now,
      overwritten files saves,
      part.2,
      kept files told,
      inl ((part.0, refl), refl, cause),
    ))
    c.write_piece.ensures.part c.write_piece.ensures.cause
