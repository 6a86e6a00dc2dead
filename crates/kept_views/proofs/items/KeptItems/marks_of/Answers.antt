use Rattle.std.proofs.Common.{◌<◌, ◌∙◌, IsTrue, length, subst, arith}
use Rattle.std.proofs.lemmas.List.{get_or_default}
use Rattle.fact_table.specs.Table.{facts_of}
use Rattle.kept_views.specs.ItemViews.{no_marks}
use Rattle.kept_views.proofs.ItemsLemmas.{above-has, has-marked}
use Rattle.kept_views.proofs.WalkLemmas.{marks_read}
use Rattle.kept_views.proofs.items.KeptItems.marks_of.Goals as goal

pub index-requires : goal.index-requires
index-requires c =
    let self = c.args.self.now in
    let h = subst IsTrue (has-marked self.marks.items c.args.id (facts_of self.table)) c.requires in
    let a = above-has c.args.id (facts_of self.table) h in
    omega (arith, a, self.covered)

pub returns : goal.returns
returns c =
    let self = c.args.self.now in
    let h = subst IsTrue (has-marked self.marks.items c.args.id (facts_of self.table)) c.requires in
    let a = above-has c.args.id (facts_of self.table) h in
    let l : c.args.id < length self.marks.items = omega (arith, a, self.covered) in
    c.index.ensures ∙ get_or_default self.marks.items c.args.id c.index.result.now no_marks l
    ∙ marks_read self.marks.items c.args.id (facts_of self.table) h
