use Rattle.std.proofs.Common.{◌≤◌, length, arith}
use Rattle.columns.proofs.ColumnLemmas.{taken-entries, past-entries}
use Rattle.columns.proofs.BlankLemmas.{blank-take}
use Rattle.columns.proofs.column.Column.take.Goals as goal

pub returns-then-at-len-clause-entries : goal.returns-then-at-len-clause-entries
returns-then-at-len-clause-entries g c =
    let self = c.args.self.now in
    let m : length self.live.items ≤ length self.values.items = omega (arith, self.covered) in
    taken-entries self.live.items self.values.items m c.args.id c.args.filler (omega arith)

pub returns-else-at-len-clause-entries : goal.returns-else-at-len-clause-entries
returns-else-at-len-clause-entries g c =
    let self = c.args.self.now in
    let m : length self.live.items ≤ length self.values.items = omega (arith, self.covered) in
    past-entries self.live.items self.values.items m c.args.id (omega arith)

pub returns-then-at-len-clause-blank : goal.returns-then-at-len-clause-blank
returns-then-at-len-clause-blank g c =
    let self = c.args.self.now in
    λ b. blank-take c.args.filler self.live.items self.values.items b c.args.id
    (omega (arith, self.covered))
