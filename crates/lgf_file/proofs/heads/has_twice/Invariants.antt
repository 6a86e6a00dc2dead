use Rattle.std.proofs.Common.{◌≡◌, false, take}
use Rattle.token_text.specs.Names.{has_twice}
use Rattle.lgf_file.proofs.heads.has_twice.Given as goal

abbrev pub invariant-loop-column : goal.invariant-loop-column
invariant-loop-column l = record {
  seen : l.seen ≡ take l.column-index l.columns;
  differ : has_twice l.seen ≡ false;
}
