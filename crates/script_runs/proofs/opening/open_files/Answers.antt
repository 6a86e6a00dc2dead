use Rattle.std.proofs.Common.{[], Err, inl, inr, refl, ap, ◌∙◌, subst}
use Rattle.edge_io.specs.Files.{HoldsWithin}
use Rattle.lgf_file.specs.Documents.{Spells}
use Rattle.lgf_file.specs.Laws.{HasFault}
use Rattle.lgf_file.specs.Results.{Refuses}
use Rattle.plain_machine.specs.declared.limits.TheConstants.{SCRIPT_LIMIT}
use Rattle.plain_machine.specs.Inputs.{HasGraph, HasBadGraph}
use Rattle.script_runs.proofs.Nothing.{took_nothing}
use Rattle.script_runs.proofs.Played.{refused}
use Rattle.script_runs.proofs.opening.open_files.Goals as goal

pub returns-in-Err-Failed-clause-ends : goal.returns-in-Err-Failed-clause-ends
returns-in-Err-Failed-clause-ends g c = λ files told.
    ([], files, took_nothing _, c.in-Err-Failed.ensures.same ∙ told, (refl, refl))

pub returns-in-Err-TooLong-clause-ends : goal.returns-in-Err-TooLong-clause-ends
returns-in-Err-TooLong-clause-ends g c = λ files told.
    let long = c.in-Err-TooLong.ensures.long (ap (λ fault. Err fault) c.in-Err-TooLong.field-0-is)
    files told in
    ([], files, took_nothing _, c.in-Err-TooLong.ensures.same ∙ told, ((refl, refl), inl long))

pub returns-in-Err-Memory-clause-ends : goal.returns-in-Err-Memory-clause-ends
returns-in-Err-Memory-clause-ends g c = λ files told.
    ([], files, took_nothing _, c.in-Err-Memory.ensures.same ∙ told, inl (refl, refl))

pub returns-in-Err-Lgf-clause-ends : goal.returns-in-Err-Lgf-clause-ends
returns-in-Err-Lgf-clause-ends g c = λ files told.
    let read = c.in-Ok.ensures in
    let fault = c.in-Err-Lgf.fault in
    let found : HasFault c.as_slice.result.now fault =
    (subst (Refuses c.as_slice.result.now) c.in-Err-Lgf.field-0-is c.in-Err-Lgf.ensures.refused).0
    in
    let bad : HasBadGraph files c.args.graph.now fault = (
      c.in-Ok.bytes.items,
      (read.bytes files told, read.within),
      subst
          (λ bytes. HasFault bytes fault) c.as_slice.ensures.value found,
    ) in
    let wrote = c.refuse_graph.ensures.told in (
      wrote.0,
      files,
      wrote.1,
      read.same
          ∙ told,
      refused (g.D.Desk.kinds c.args.pool) files c.args.graph.now c.args.script.now fault _
          c.refuse_graph.result bad refl
          wrote.2,
    )

pub returns-in-Err-Memory-read_doc-clause-ends : goal.returns-in-Err-Memory-read_doc-clause-ends
returns-in-Err-Memory-read_doc-clause-ends g c = λ files told.
    ([], files, took_nothing _, c.in-Ok.ensures.same ∙ told, inl (refl, refl))

pub returns-in-Err-Failed-read_whole-clause-ends : goal.returns-in-Err-Failed-read_whole-clause-ends
returns-in-Err-Failed-read_whole-clause-ends g c = λ files told. (
  [],
  files,
  took_nothing _,
  c.in-Err-Failed-read_whole.ensures.same ∙ c.in-Ok.ensures.same
      ∙ told,
  (refl, refl),
)

pub returns-in-Err-TooLong-read_whole-clause-ends :
    goal.returns-in-Err-TooLong-read_whole-clause-ends
returns-in-Err-TooLong-read_whole-clause-ends g c = λ files told.
    let read = c.in-Ok.ensures in
    let again = c.in-Err-TooLong-read_whole.ensures in
    let doc = c.in-Ok-read_doc.doc in
    let graph : HasGraph files c.args.graph.now doc = (
      c.in-Ok.bytes.items,
      (read.bytes files told, read.within),
      subst (λ bytes. Spells bytes doc)
          c.as_slice.ensures.value c.in-Ok-read_doc.ensures.spelled,
    ) in
    let long = again.long (ap (λ fault. Err fault) c.in-Err-TooLong-read_whole.field-0-is) files
    (read.same ∙ told) in (
      [],
      files,
      took_nothing _,
      again.same ∙ read.same
          ∙ told,
      ((refl, refl), inr ((doc, graph), long)),
    )

pub returns-in-Err-Memory-read_whole-clause-ends : goal.returns-in-Err-Memory-read_whole-clause-ends
returns-in-Err-Memory-read_whole-clause-ends g c = λ files told. (
  [],
  files,
  took_nothing _,
  c.in-Err-Memory-read_whole.ensures.same ∙ c.in-Ok.ensures.same
      ∙ told,
  inl (refl, refl),
)

pub returns-in-Err-clause-ends : goal.returns-in-Err-clause-ends
returns-in-Err-clause-ends g c = λ files told. (
  [],
  files,
  took_nothing _,
  c.in-Ok-read_whole.ensures.same ∙ c.in-Ok.ensures.same
      ∙ told,
  inl (refl, refl),
)

pub returns-in-Ok-load-clause-opened : goal.returns-in-Ok-load-clause-opened
returns-in-Ok-load-clause-opened g c = λ files told.
    let read = c.in-Ok.ensures in
    let again = c.in-Ok-read_whole.ensures in
    let doc = c.in-Ok-read_doc.doc in
    let text = c.in-Ok-read_whole.text.items in
    let graph : HasGraph files c.args.graph.now doc = (
      c.in-Ok.bytes.items,
      (read.bytes files told, read.within),
      subst (λ bytes. Spells bytes doc)
          c.as_slice.ensures.value c.in-Ok-read_doc.ensures.spelled,
    ) in
    let script : HoldsWithin files c.args.script.now SCRIPT_LIMIT text =
    (again.bytes files (read.same ∙ told), again.within) in
    (doc, graph, script, c.in-Ok-load.ensures.loaded)
