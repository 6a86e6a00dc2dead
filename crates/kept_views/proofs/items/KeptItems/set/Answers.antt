use Rattle.std.proofs.Common.{◌<◌, ◌∙◌, length, sym, arith}
use Rattle.fact_table.specs.Table.{facts_of}
use Rattle.kept_views.proofs.ItemsLemmas.{set-items, above-has, has-marked}
use Rattle.kept_views.proofs.items.KeptItems.set.Goals as goal

pub index_mut-requires : goal.index_mut-requires
index_mut-requires c =
    let self = c.args.self.now in
    let h = sym (has-marked self.marks.items c.args.id (facts_of self.table)) ∙ c.requires in
    let a = above-has c.args.id (facts_of self.table) h in
    omega (arith, a, self.covered)

pub returns-clause-items : goal.returns-clause-items
returns-clause-items c =
    let self = c.args.self.now in
    let h = sym (has-marked self.marks.items c.args.id (facts_of self.table)) ∙ c.requires in
    let a = above-has c.args.id (facts_of self.table) h in
    let l : c.args.id < length self.marks.items = omega (arith, a, self.covered) in
    set-items self.marks.items c.args.id c.args.marks (facts_of self.table) l
