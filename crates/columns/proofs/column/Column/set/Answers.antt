use Rattle.std.proofs.Common.{◌≤◌, length, arith}
use Rattle.columns.proofs.ColumnLemmas.{has-within, flag-up, set-entries}
use Rattle.columns.proofs.BlankLemmas.{blank-set}
use Rattle.columns.proofs.column.Column.set.Goals as goal

pub index_mut-requires : goal.index_mut-requires
index_mut-requires g c =
    let self = c.args.self.now in
    let l = has-within self.live.items self.values.items (omega (arith, self.covered)) c.args.id
    c.requires in
    omega (arith, l, self.covered)

pub returns-clause-entries : goal.returns-clause-entries
returns-clause-entries g c =
    let self = c.args.self.now in
    let ls = self.live.items in
    let vs = self.values.items in
    let id = c.args.id in
    let m : length ls ≤ length vs = omega (arith, self.covered) in
    set-entries ls vs m id c.args.value c.args.value (has-within ls vs m id c.requires)
    (flag-up ls vs m id c.requires)

pub returns-clause-blank : goal.returns-clause-blank
returns-clause-blank g c =
    let self = c.args.self.now in
    let ls = self.live.items in
    let vs = self.values.items in
    let id = c.args.id in
    let m : length ls ≤ length vs = omega (arith, self.covered) in
    λ filler b. blank-set filler ls vs b id c.args.value (flag-up ls vs m id c.requires)
