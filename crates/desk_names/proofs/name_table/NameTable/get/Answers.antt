use Rattle.std.proofs.Common.{◌∙◌, ap, subst}
use Rattle.plain_world.specs.Tables.{entry}
use Rattle.plain_world.specs.Valid.{NamesDiffer}
use Rattle.desk_names.proofs.RowLemmas.{entry_found, names_differ}
use Rattle.desk_names.proofs.name_table.NameTable.get.Goals as goal

pub returns-clause-found : goal.returns-clause-found
returns-clause-found g c =
    c.get.ensures.value ∙ entry_found c.args.name.now c.self.inside.entries.entries
    ∙ ap (λ t. entry t.rows c.args.name.now) c.self.view_is

pub returns-clause-differ : goal.returns-clause-differ
returns-clause-differ g c =
    subst (λ t. NamesDiffer t.rows) c.self.view_is
    (names_differ c.self.inside.entries.entries c.self.invariant)
