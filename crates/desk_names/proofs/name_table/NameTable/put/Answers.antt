use Rattle.std.proofs.Common.{◌∙◌, ap, sym, false, ◌≡◌, subst}
use Rattle.std.specs.Str.{bytes_eq}
use Rattle.indexmap.proofs.CallerLemmas.{insert_entry-new}
use Rattle.plain_world.specs.Tables.{has_entry, with_entry}
use Rattle.desk_names.specs.Rows.{rows_of}
use Rattle.desk_names.proofs.RowLemmas.{none_found, rows_pushed}
use Rattle.desk_names.proofs.name_table.NameTable.put.Goals as goal

pub returns-clause-rows : goal.returns-clause-rows
returns-clause-rows g c =
    let es = c.self.inside.entries.entries in
    let new = subst (λ t. has_entry t.rows c.args.name ≡ false) (sym c.self.view_is)
    c.requires.new in
    ap rows_of (c.in-Ok.ensures.entries
    ∙ insert_entry-new bytes_eq c.self.inside.entries c.args.name c.args.value
    (none_found c.args.name es new))
    ∙ rows_pushed es c.args.name c.args.value
    ∙ ap (λ t. with_entry t.rows c.args.name c.args.value) c.self.view_is
