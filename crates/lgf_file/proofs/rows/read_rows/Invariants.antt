use Rattle.std.proofs.Common.{◌≡◌, ◌+◌, ◌≤◌, length}
use Rattle.token_text.specs.Lines.{lines_of}
use Rattle.lgf_file.specs.Sections.{rows_of}
use Rattle.lgf_file.proofs.Progress.{Progress}
use Rattle.lgf_file.proofs.rows.read_rows.Given as goal

abbrev pub invariant-rows : goal.invariant-rows
invariant-rows g l = record {
  so_far : Progress (g.R.RowReader.fault (g.R.RowReader.labels l.initial.reader))
      (rows_of l.fn.number (lines_of l.fn.bytes)) (g.R.RowReader.read l.reader)
      (rows_of l.at (lines_of l.rest));
  labels : g.R.RowReader.labels l.reader ≡ g.R.RowReader.labels l.initial.reader;
  sound : g.R.RowReader.IsSound l.reader;
  room : l.at + length l.rest ≤ l.fn.number + length l.fn.bytes;
}

abbrev pub decreases-rows : goal.decreases-rows
decreases-rows g l = length l.rest
