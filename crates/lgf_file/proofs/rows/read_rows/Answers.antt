use Rattle.std.proofs.Common.{Some, None, refl, sym, ◌∙◌, arith}
use Rattle.token_text.specs.Lines.{lines_of}
use Rattle.lgf_file.specs.declared.faults.LgfKind.TheVariants.{Token}
use Rattle.lgf_file.proofs.Progress.{push, fail, finish}
use Rattle.lgf_file.proofs.LineTokens.{first_has_token}
use Rattle.lgf_file.proofs.rows.read_rows.Goals as goal

pub returns-in-Some-3-clause-bad : goal.returns-in-Some-3-clause-bad
returns-in-Some-3-clause-bad g c =
    let words = rw c.in-Some-2.is at c.in_ok-cells.ensures.found in
    let told = rw c.rows.invariant.labels at (sym c.in_ok-kind.ensures.fault ∙ c.in-Some-3.is) in
    rw c.fault_at-in-Some-3.ensures
    (fail _ _ _ _ _ (c.in-Some.row.number, c.in-Some.row.line.now) (Some c.in-Some-2.cells.items) _
    c.rows.invariant.so_far c.in-Some.ensures.rows words told)

pub rows-preserved : goal.rows-preserved
rows-preserved g c =
    let words = rw c.in-Some-2.is at c.in_ok-cells.ensures.found in
    let took = c.in_ok-kind.ensures in
    let fine = rw c.rows.invariant.labels at (sym took.fault ∙ c.in_default-3.is) in
    record {
      so_far = push _ _ _ _ _ _ (c.in-Some.row.number, c.in-Some.row.line.now) _
          c.rows.invariant.so_far c.in-Some.ensures.rows words fine
          (rw c.in_default-3.is at took.taken);
      labels = (rw c.in_default-3.is at took.labels) ∙ c.rows.invariant.labels;
      sound = rw c.in_default-3.is at took.sound;
      room = omega (arith, c.in-Some.ensures.room, c.rows.invariant.room);
    }

pub take-requires-clause-some : goal.take-requires-clause-some
take-requires-clause-some g c =
    first_has_token c.rows.at (lines_of c.rows.rest.now)
    (c.in-Some.row.number, c.in-Some.row.line.now) _ c.in-Some-2.cells.items
    c.in-Some.ensures.rows (rw c.in-Some-2.is at c.in_ok-cells.ensures.found)

pub returns-in_default-2-clause-bad : goal.returns-in_default-2-clause-bad
returns-in_default-2-clause-bad g c =
    rw c.fault_at.ensures
    (fail _ _ _ _ _ (c.in-Some.row.number, c.in-Some.row.line.now) None Token
    c.rows.invariant.so_far c.in-Some.ensures.rows
    (rw c.in_default-2.is at c.in_ok-cells.ensures.none) refl)

pub returns-clause-read : goal.returns-clause-read
returns-clause-read g c = (finish _ _ _ _ c.rows.invariant.so_far c.in_default.ensures.rows).read_is

pub returns-clause-fine : goal.returns-clause-fine
returns-clause-fine g c =
    rw c.rows.invariant.labels
    (finish _ _ _ _ c.rows.invariant.so_far c.in_default.ensures.rows).fine
