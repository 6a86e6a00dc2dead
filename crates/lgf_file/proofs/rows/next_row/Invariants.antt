use Rattle.std.proofs.Common.{◌≡◌, ◌+◌, ◌≤◌, length}
use Rattle.token_text.specs.Lines.{lines_of}
use Rattle.lgf_file.specs.Sections.{rows_of}
use Rattle.lgf_file.proofs.rows.next_row.Given as goal

abbrev pub invariant-lines : goal.invariant-lines
invariant-lines l = record {
  same : rows_of l.fn.number (lines_of l.fn.bytes) ≡ rows_of l.at (lines_of l.rest);
  room : l.at + length l.rest ≤ l.fn.number + length l.fn.bytes;
  less : length l.rest ≤ length l.fn.bytes;
}

abbrev pub decreases-lines : goal.decreases-lines
decreases-lines l = length l.rest
