use Rattle.std.proofs.Common.{◌∙◌, ap, sym, subst}
use Rattle.plain_world.specs.Tables.{entry, without_entry}
use Rattle.plain_world.specs.Valid.{NamesDiffer}
use Rattle.desk_names.specs.Rows.{rows_of}
use Rattle.desk_names.proofs.RowLemmas.{entry_found, rows_removed, names_differ}
use Rattle.desk_names.proofs.name_table.NameTable.remove.Goals as goal

pub returns-clause-value : goal.returns-clause-value
returns-clause-value g c =
    c.shift_remove.ensures.value ∙ entry_found c.args.name.now c.self.inside.entries.entries
    ∙ ap (λ t. entry t.rows c.args.name.now) c.self.view_is

pub returns-clause-rows : goal.returns-clause-rows
returns-clause-rows g c =
    let es = c.self.inside.entries.entries in
    ap rows_of c.shift_remove.ensures.entries
    ∙ rows_removed c.args.name.now es c.self.invariant
    ∙ ap (λ t. without_entry t.rows c.args.name.now) c.self.view_is

pub returns-clause-differ : goal.returns-clause-differ
returns-clause-differ g c =
    subst (λ t. NamesDiffer t.rows) c.self.view_is
    (names_differ c.self.inside.entries.entries c.self.invariant)
