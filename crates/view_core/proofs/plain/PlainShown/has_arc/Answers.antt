use Rattle.std.proofs.Common.{sym, ◌∙◌, ap}
use Rattle.plain_views.proofs.Base.{base_facts}
use Rattle.base_items.specs.declared.items.ItemSort.TheVariants as sorts
use Rattle.std.specs.Prelude.{is_some}
use Rattle.view_core.proofs.plain.PlainShown.has_arc.Goals as goal

pub returns : goal.returns
returns c =
    let s = c.args.self.now in
    let base = base_facts s.graph.now.graph s.valid in
    c.is_some.ensures
    ∙ (ap is_some c.fact.ensures
    ∙ (base.told sorts.Arc c.args.a.0 ∙ (base.keys c.args.a.0 ∙ sym (base.arc c.args.a.0))))
