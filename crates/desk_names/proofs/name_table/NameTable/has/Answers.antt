use Rattle.std.proofs.Common.{◌∙◌, ap, is_some}
use Rattle.plain_world.specs.Tables.{has_entry}
use Rattle.desk_names.proofs.RowLemmas.{entry_found}
use Rattle.desk_names.proofs.name_table.NameTable.has.Goals as goal

pub returns : goal.returns
returns g c =
    c.contains_key.ensures
    ∙ ap is_some (entry_found c.args.name.now c.self.inside.entries.entries)
    ∙ ap (λ t. has_entry t.rows c.args.name.now) c.self.view_is
