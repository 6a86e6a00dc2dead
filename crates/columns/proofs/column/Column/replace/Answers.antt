use Rattle.std.proofs.Common.{◌≤◌, ◌∙◌, length, set, Contains, sym, ap, subst, arith}
use Rattle.observe_core.specs.Slots.{present}
use Rattle.columns.specs.Slots.{slots_of}
use Rattle.columns.specs.Views.{entry, entries_of, AreBlank}
use Rattle.columns.proofs.ColumnLemmas.{has-within, flag-up, set-entries, read-entry}
use Rattle.columns.proofs.BlankLemmas.{blank-set}
use Rattle.columns.proofs.column.Column.replace.Goals as goal

pub index_mut-requires : goal.index_mut-requires
index_mut-requires g c =
    let self = c.args.self.now in
    let l = has-within self.live.items self.values.items (omega (arith, self.covered)) c.args.id
    c.requires in
    omega (arith, l, self.covered)

pub returns-clause-entries : goal.returns-clause-entries
returns-clause-entries g c =
    let self = c.args.self.now in
    let ls = self.live.items in
    let vs = self.values.items in
    let id = c.args.id in
    let m : length ls ≤ length vs = omega (arith, self.covered) in
    ap (λ v. present (slots_of 0 ls (set vs id v))) c.replace.ensures.after
    ∙ set-entries ls vs m id c.args.value c.args.value (has-within ls vs m id c.requires)
    (flag-up ls vs m id c.requires)

pub returns-clause-old : goal.returns-clause-old
returns-clause-old g c =
    let self = c.args.self.now in
    let ls = self.live.items in
    let vs = self.values.items in
    let id = c.args.id in
    let m : length ls ≤ length vs = omega (arith, self.covered) in
    let e = read-entry ls vs m id c.index_mut.result.now (has-within ls vs m id c.requires)
    (flag-up ls vs m id c.requires) in
    subst (λ v. Contains (entries_of self) (entry id v))
    (sym (c.replace.ensures.value ∙ c.index_mut.ensures.value)) e

pub returns-clause-blank : goal.returns-clause-blank
returns-clause-blank g c =
    let self = c.args.self.now in
    let ls = self.live.items in
    let vs = self.values.items in
    let id = c.args.id in
    let m : length ls ≤ length vs = omega (arith, self.covered) in
    λ filler b. subst (λ v. AreBlank filler ls (set vs id v)) (sym c.replace.ensures.after)
    (blank-set filler ls vs b id c.args.value (flag-up ls vs m id c.requires))
