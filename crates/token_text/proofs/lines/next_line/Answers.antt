use Rattle.std.proofs.Common.{◌<◌, length, ap, ◌∙◌, arith}
use Rattle.std.proofs.lemmas.Grind.{common_steps}
use Rattle.token_text.specs.Lines.{lines_of}
use Rattle.token_text.proofs.FirstLine.{lines_first, lines_last}
use Rattle.token_text.proofs.lines.next_line.Goals as goal

pub returns-in-Some-clause-line : goal.returns-in-Some-clause-line
returns-in-Some-clause-line c =
    let line = c.in-Some.ensures.parts in
    ap lines_of line.0 ∙ lines_first _ _ line.1

pub returns-in-None-clause-line : goal.returns-in-None-clause-line
returns-in-None-clause-line c =
    let some : 0 < length c.args.bytes.now = grind (arith, common_steps) in
    lines_last c.args.bytes.now some c.in-None.ensures.none
