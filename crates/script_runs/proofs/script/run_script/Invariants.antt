use Rattle.std.proofs.Common.{◌≡◌, ◌+◌, ◌*◌, ◌≤◌, Some, length}
use Rattle.std.specs.Prelude.{◌^◌}
use Rattle.base_items.specs.declared.limits.TheConstants.{MAX_STAMP}
use Rattle.edge_io.specs.Causes.{StayedSame}
use Rattle.edge_io.specs.Files.{Files}
use Rattle.token_text.specs.Lines.{lines_of}
use Rattle.script_runs.proofs.Reached.{Reached}
use Rattle.script_runs.proofs.script.run_script.Given as goal

abbrev pub invariant-script : goal.invariant-script
invariant-script g l = record {
  room : l.number + length l.rest ≤ length l.script;
  in_step : g.D.Desk.in_step l.desk;
  stamps : (g.D.Desk.plain l.desk).graph.stamps + 2 ^ 24 * (length l.rest + 1) ≤ MAX_STAMP;
  writes : g.K.Sink.faults l.report ≡ g.K.Sink.faults l.initial.report;
  reads : StayedSame (g.S.Shelf.read_faults l.initial.shelf) (g.S.Shelf.read_faults l.shelf);
  stores : StayedSame (g.S.Shelf.store_faults l.initial.shelf) (g.S.Shelf.store_faults l.shelf);
  reached : (files : Files) → g.S.Shelf.files l.initial.shelf ≡ Some files
      → Reached (g.D.Desk.plain l.initial.desk) files (lines_of l.script) (lines_of l.rest)
      l.number l.refused (g.D.Desk.plain l.desk)
      (g.K.Sink.taken l.initial.report) (g.K.Sink.taken l.report) (g.S.Shelf.files l.shelf);
}

abbrev pub decreases-script : goal.decreases-script
decreases-script g l = length l.rest
