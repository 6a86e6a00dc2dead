use Rattle.std.proofs.Common.{◌∙◌, ap, rules}
use Rattle.std.specs.Prelude.{filter}
use Rattle.plain_world.specs.Tables.{Named}
use Rattle.indexmap.proofs.CallerLemmas.{filter-RetainsPairs}
use Rattle.desk_names.specs.Rows.{rows_of}
use Rattle.desk_names.proofs.RowLemmas.{rows_filtered}
use Rattle.desk_names.proofs.name_table.NameTable.retain.Goals as goal

pub returns-clause-rows : goal.returns-clause-rows
returns-clause-rows g c =
    ap rows_of (filter-RetainsPairs _ _ _ (λ k v b w h call. search rules) _ _
    c.retain.ensures.filtered)
    ∙ rows_filtered (λ v. g.T.Keeps.kept c.args.test.now v) c.self.inside.entries.entries
    ∙ ap (λ t. filter (λ (e : Named g.row.V.Denot). g.T.Keeps.kept c.args.test.now e.value) t.rows)
    c.self.view_is
