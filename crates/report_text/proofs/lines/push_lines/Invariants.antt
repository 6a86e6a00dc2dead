use Rattle.std.proofs.Common.{◌≡◌, ◌++◌, take}
use Rattle.report_text.specs.Lines.{lines_text}
use Rattle.report_text.proofs.lines.push_lines.Given as goal

abbrev pub invariant-loop-value : goal.invariant-loop-value
invariant-loop-value g l =
    l.out.items ≡ l.initial.out.items ++ lines_text l.fn.title
    (g.W.Words.words) (take l.value-index l.fn.values)
