use Rattle.std.proofs.Common.{◌≡◌, ◌++◌, take, ◌∙◌, arith}
use Rattle.std.proofs.lemmas.Grind.{common_steps}
use Rattle.edge_io.proofs.Pieces.{reads_on}
use Rattle.edge_io.proofs.whole.read_whole.Goals as goal

pub loop-chunk-preserved : goal.loop-chunk-preserved
loop-chunk-preserved g c =
    let was = c.loop-chunk.invariant in
    let read = c.in-Ok.ensures in
    record {
      room = grind (arith, common_steps);
      begins = λ all told.
          let part = read.bytes all (was.same ∙ told) in
          let at = c.len-in-loop-chunk-2.ensures ∙ c.loop-chunk.bytes.ok.0 in
          let on =
          reads_on all _ _ _ c.len-in-loop-chunk-2.result _ at (was.begins all told) part in
          let e : c.extend_from_slice.new.self.items ≡ c.loop-chunk.bytes.items ++ take c.in-Ok.count c.read_at.new.into =
          grind (arith, common_steps) in
          rw e on;
      same = read.same ∙ was.same;
      reads = λ name. omega (arith, read.reads name, was.reads name);
      stores = λ name. omega (arith, read.stores name, was.stores name);
      quiet_reads = λ name. read.quiet.0 name ∙ was.quiet_reads name;
      quiet_stores = λ name. read.quiet.1 name ∙ was.quiet_stores name;
    }

pub returns-then-count-eq0-clause-quiet : goal.returns-then-count-eq0-clause-quiet
returns-then-count-eq0-clause-quiet g c = λ failed.
    let was = c.loop-chunk.invariant in
    let read = c.in-Ok.ensures.quiet in
    (λ name. read.0 name ∙ was.quiet_reads name, λ name. read.1 name ∙ was.quiet_stores name)

pub returns-then-is_err-clause-quiet : goal.returns-then-is_err-clause-quiet
returns-then-is_err-clause-quiet g c = λ failed.
    let was = c.loop-chunk.invariant in
    let read = c.in-Ok.ensures.quiet in
    (λ name. read.0 name ∙ was.quiet_reads name, λ name. read.1 name ∙ was.quiet_stores name)

pub returns-clause-quiet : goal.returns-clause-quiet
returns-clause-quiet g c = λ failed.
    let was = c.loop-chunk.invariant in
    (was.quiet_reads, was.quiet_stores)
