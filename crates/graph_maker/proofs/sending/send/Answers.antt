use Rattle.std.proofs.Common.{sym, ◌∙◌, take, drop}
use Rattle.std.proofs.lemmas.List.{take-append-drop}
use Rattle.graph_maker.proofs.sending.send.Goals as goal

pub returns-in-Err-clause-stopped : goal.returns-in-Err-clause-stopped
returns-in-Err-clause-stopped g c =
    let part = c.in-Err.ensures.part in
    let bytes = c.as_slice.result.now in
    record {
      sent = take part.0 bytes;
      rest = drop part.0 bytes;
      took = part.2;
      whole = sym c.as_slice.ensures.value ∙ sym (take-append-drop part.0 bytes);
      cause = c.in-Err.ensures.cause;
    }
