use Rattle.std.proofs.Common.{◌≡◌, ◌++◌, take}
use Rattle.std.specs.List.{flat_map}
use Rattle.report_text.specs.Lines.{path_text}
use Rattle.report_text.proofs.paths.push_paths.Given as goal

abbrev pub invariant-loop-path : goal.invariant-loop-path
invariant-loop-path l =
    l.out.items ≡ l.initial.out.items ++ flat_map path_text (take l.path-index l.paths)
