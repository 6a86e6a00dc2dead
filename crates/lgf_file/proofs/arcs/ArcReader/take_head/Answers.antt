use Rattle.std.proofs.Common.{ap, sym, ◌∙◌}
use Rattle.token_text.specs.Names.{is_among}
use Rattle.lgf_file.specs.Documents.{dash, head_cells}
use Rattle.lgf_file.proofs.ArcRows.{sole_dash, some_columns, head_alone}
use Rattle.lgf_file.proofs.arcs.ArcReader.take_head.Goals as goal

pub returns-then-has_dash-clause-taken : goal.returns-then-has_dash-clause-taken
returns-then-has_dash-clause-taken c =
    let columns = c.new-then-has_dash.ensures.columns ∙ c.new.ensures.items in
    let one = sym c.args.cells.ok.0 ∙ sym c.len.ensures ∙ c.if-len-eq1.true in
    let dash_among =
    ap (is_among dash) (sym c.as_slice.ensures.value) ∙ sym c.if-has_dash.ensures in
    head_alone _ _ _ c.args.cells.items (rw c.requires.first at c.requires.sound).1
    (ap head_cells columns ∙ sole_dash c.args.cells.items one dash_among)

pub returns-clause-taken : goal.returns-clause-taken
returns-clause-taken c =
    head_alone _ _ _ c.args.cells.items (rw c.requires.first at c.requires.sound).1
    (ap head_cells c.new-2.ensures.columns ∙ some_columns c.args.cells.items c.requires.some)
