use Rattle.std.proofs.Common.{◌≤◌, length, Contains, sym, subst, arith}
use Rattle.columns.specs.Views.{entry, entries_of}
use Rattle.columns.proofs.ColumnLemmas.{has-within, flag-up, read-entry}
use Rattle.columns.proofs.column.Column.at.Goals as goal

pub index-requires : goal.index-requires
index-requires g c =
    let self = c.args.self.now in
    let l = has-within self.live.items self.values.items (omega (arith, self.covered)) c.args.id
    c.requires in
    omega (arith, l, self.covered)

pub returns : goal.returns
returns g c =
    let self = c.args.self.now in
    let ls = self.live.items in
    let vs = self.values.items in
    let id = c.args.id in
    let m : length ls ≤ length vs = omega (arith, self.covered) in
    let e = read-entry ls vs m id c.index.result.now (has-within ls vs m id c.requires)
    (flag-up ls vs m id c.requires) in
    subst (λ v. Contains (entries_of self) (entry id v)) (sym c.index.ensures) e
