use Rattle.std.proofs.Common.{◌≡◌, ◌++◌, take, map}
use Rattle.std.specs.List.{flat_map}
use Rattle.token_text.specs.Lines.{ended}
use Rattle.lgf_file.specs.Plain.{row_text}
use Rattle.lgf_file.proofs.writing.push_rows.Given as goal

abbrev pub invariant-loop-row : goal.invariant-loop-row
invariant-loop-row l =
    l.out.items ≡ l.fn.out.items ++ flat_map ended (map row_text (take l.row-index l.rows))
