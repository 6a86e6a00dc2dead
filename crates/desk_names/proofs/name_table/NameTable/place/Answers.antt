use Rattle.std.proofs.Common.{◌∙◌, ap, subst}
use Rattle.std.specs.Prelude.{position}
use Rattle.plain_world.specs.Tables.{is_named}
use Rattle.plain_world.specs.Valid.{NamesDiffer}
use Rattle.desk_names.proofs.RowLemmas.{place_found, names_differ}
use Rattle.desk_names.proofs.name_table.NameTable.place.Goals as goal

pub returns-clause-place : goal.returns-clause-place
returns-clause-place g c =
    c.get_index_of.ensures.index ∙ place_found c.args.name.now c.self.inside.entries.entries
    ∙ ap (λ t. position (is_named c.args.name.now) t.rows) c.self.view_is

pub returns-clause-differ : goal.returns-clause-differ
returns-clause-differ g c =
    subst (λ t. NamesDiffer t.rows) c.self.view_is
    (names_differ c.self.inside.entries.entries c.self.invariant)
