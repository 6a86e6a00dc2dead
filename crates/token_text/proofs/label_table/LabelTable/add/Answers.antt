use Rattle.std.proofs.Common.{◌∙◌, subst, sym}
use Rattle.token_text.specs.Names.{IsNoneOf}
use Rattle.token_text.proofs.NamePlaces.{label_put}
use Rattle.token_text.proofs.label_table.LabelTable.add.Goals as goal

pub returns-clause-added : goal.returns-clause-added
returns-clause-added c =
    let labels = c.self.inside.labels.keys in
    let other = subst (IsNoneOf c.args.label) (sym c.self.view_is) c.requires in
    rw (← c.self.view_is) (c.in_ok-insert.ensures.keys ∙ label_put c.args.label labels other)
