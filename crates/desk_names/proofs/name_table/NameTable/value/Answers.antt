use Rattle.std.proofs.Common.{◌∙◌, ap, sym, map, slice_get}
use Rattle.std.specs.Prelude.{option_map}
use Rattle.std.proofs.lemmas.Option.{slice_get-map}
use Rattle.std.specs.Map.Iter.{deref_pair}
use Rattle.desk_names.proofs.RowLemmas.{values_of}
use Rattle.desk_names.proofs.name_table.NameTable.value.Goals as goal

pub returns : goal.returns
returns g c =
    let es = c.self.inside.entries.entries in
    ap (λ xs. slice_get xs c.args.place)
    (ap (λ t. map (λ e. e.value) t.rows) (sym c.self.view_is) ∙ values_of es)
    ∙ slice_get-map (λ e. e.1) es c.args.place
    ∙ ap (option_map (λ e. e.1))
    (sym c.get_index.ensures.entry ∙ ap (option_map deref_pair) c.in-Some.is)
