use Rattle.std.proofs.Common.{◌≡◌, sym, ◌∙◌, ap}
use Rattle.std.specs.Prelude.{is_some, true, false}
use Rattle.base_items.specs.declared.items.ItemSort.TheVariants as sorts
use Rattle.plain_views.proofs.Base.{base_facts, told_ends}
use Rattle.view_core.proofs.plain.PlainShown.ends.Goals as goal

pub unreachable-requires : goal.unreachable-requires
unreachable-requires c =
    let s = c.args.self.now in
    let base = base_facts s.graph.now.graph s.valid in
    let id = c.args.a.0 in
    let there = base.told sorts.Arc id ∙ (base.keys id ∙ (sym (base.arc id) ∙ c.requires)) in
    let no : false ≡ true = sym (ap is_some c.in_default.is)
    ∙ (ap is_some c.fact.ensures ∙ there) in
    absurd (cc)

pub returns-clause-from : goal.returns-clause-from
returns-clause-from c =
    let s = c.args.self.now in
    let base = base_facts s.graph.now.graph s.valid in
    let id = c.args.a.0 in
    (told_ends s.graph.now.graph id c.in-Some.fact (sym c.fact.ensures ∙ c.in-Some.is)).0
    ∙ sym (base.source id (sym (base.arc id) ∙ c.requires))

pub returns-clause-to : goal.returns-clause-to
returns-clause-to c =
    let s = c.args.self.now in
    let base = base_facts s.graph.now.graph s.valid in
    let id = c.args.a.0 in
    (told_ends s.graph.now.graph id c.in-Some.fact (sym c.fact.ensures ∙ c.in-Some.is)).1
    ∙ sym (base.target id (sym (base.arc id) ∙ c.requires))
