use Rattle.std.proofs.Common.{◌≡◌, ◌≤◌, ◌<◌, ◌∙◌, false, true, get_or, length, Contains, sym, subst}
use Rattle.std.proofs.Common.{arith}
use Rattle.columns.specs.Views.{entry, entries_of}
use Rattle.columns.proofs.ColumnLemmas.{beyond-lacks, down-lacks, read-entry, read-value}
use Rattle.columns.proofs.column.Column.find.Goals as goal

pub returns-then-at-len : goal.returns-then-at-len
returns-then-at-len g c =
    let self = c.args.self.now in
    beyond-lacks self.live.items self.values.items (omega (arith, self.covered)) c.args.id
    (omega arith)

pub returns-then-index : goal.returns-then-index
returns-then-index g c =
    let self = c.args.self.now in
    let ls = self.live.items in
    let vs = self.values.items in
    let id = c.args.id in
    let m : length ls ≤ length vs = omega (arith, self.covered) in
    let l : id < length ls = omega arith in
    let up : get_or ls id false ≡ true = read-value id c.index.result.now false ls l c.index.ensures
    ∙ c.if-index.true in
    let e = read-entry ls vs m id c.index-then-index.result.now l up in
    subst (λ v. Contains (entries_of self) (entry id v)) (sym c.index-then-index.ensures) e

pub returns : goal.returns
returns g c =
    let self = c.args.self.now in
    let ls = self.live.items in
    let id = c.args.id in
    let l : id < length ls = omega arith in
    let down : get_or ls id false ≡ false =
    read-value id c.index.result.now false ls l c.index.ensures ∙ c.if-index.false in
    down-lacks ls self.values.items (omega (arith, self.covered)) id down
