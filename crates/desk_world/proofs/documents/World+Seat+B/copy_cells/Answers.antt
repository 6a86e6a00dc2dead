use Rattle.std.proofs.Common.{◌≡◌, ℕ, ◌∷◌, ◌++◌, [], map, length, List, Vec, Global, Some, sym, ap}
use Rattle.std.proofs.Common.{subst, ◌∙◌, arith}
use Rattle.std.specs.Prelude.{slice_get, true, false}
use Rattle.std.proofs.lemmas.List.{take_all}
use Rattle.plain_world.specs.Tables.{Named}
use Rattle.plain_world.specs.World.{label_of}
use Rattle.desk_seats.specs.contracts.seat.SeatObserver.TheImpl.{watch-value}
use Rattle.desk_world.specs.declared.tables.ItemTables.{ItemTables}
use Rattle.desk_world.specs.declared.tables.MapRow.{MapRow}
use Rattle.desk_world.specs.InStep.{has_values}
use Rattle.desk_world.specs.Plain.{tables_of, plain_of}
use Rattle.desk_world.proofs.DocParts.{texts_at, cells_whole, text_more, text_same, row_listed}
use Rattle.desk_world.proofs.documents.World+Seat+B.copy_cells.Goals as goal
use Rattle.desk_world.proofs.documents.World+Seat+B.copy_cells.Goals.{
  then-has_values+in_ok-row_text+in_ok-push-2,
  else-has_values,
}

pub row_text-requires-clause-row : goal.row_text-requires-clause-row
row_text-requires-clause-row g c =
    let w = (watch-value g.row.B g.B.Observer g.B.Observer-dict g.B.Destruct-dict).it in
    let row : MapRow = c.value-row.result.now in
    let at = subst (λ (t : ItemTables).
    slice_get (map (λ (e : Named MapRow). e.value) t.maps.rows) c.loop-place.place ≡ Some row)
    c.tables.ensures c.value-row.ensures in
    row_listed w c.args.self.now c.args.sort c.requires.in_step.seats c.loop-place.place row at

pub row_text-requires-clause-values : goal.row_text-requires-clause-values
row_text-requires-clause-values g c = sym c.has_values.ensures ∙ c.if-has_values.true

pub loop-place-preserved : goal.loop-place-preserved
loop-place-preserved g c =
    let w = (watch-value g.row.B g.B.Observer g.B.Observer-dict g.B.Destruct-dict).it in
    let self = c.args.self.now in
    let sort = c.args.sort in
    let id = c.args.id in
    let k = c.loop-place.place in
    let row : MapRow = c.value-row.result.now in
    let name = label_of (plain_of w self) sort id in
    let at = subst (λ (t : ItemTables).
    slice_get (map (λ (e : Named MapRow). e.value) t.maps.rows) k ≡ Some row) c.tables.ensures
    c.value-row.ensures in
    elim c.if-has_values.branch [
      | then-has_values+in_ok-row_text+in_ok-push-2 b ↦
          (let values : has_values row.kind ≡ true =
          sym c.has_values.ensures ∙ b.if-has_values.true in
          let text = b.in_ok-row_text.field-0 in
          ap (λ (v : Vec (List ℕ) Global). v.items) b.cells-is ∙ b.in_ok-push-2.ensures.items
          ∙ ap (λ made. made ++ text ∷ []) c.loop-place.invariant
          ∙ ap (λ more. name ∷ more)
          (sym (text_more w self sort c.requires.in_step.seats k row at id text values
          b.in_ok-row_text.ensures)))
      | else-has_values b ↦
          (let values : has_values row.kind ≡ false =
          sym c.has_values.ensures ∙ b.if-has_values.false in
          ap (λ (v : Vec (List ℕ) Global). v.items) b.cells-is ∙ c.loop-place.invariant
          ∙ ap (λ more. name ∷ more)
          (sym (text_same w self sort c.requires.in_step.seats k row at id values)))
    ]

pub returns : goal.returns
returns g c =
    let w = (watch-value g.row.B g.B.Observer g.B.Observer-dict g.B.Destruct-dict).it in
    let self = c.args.self.now in
    let sort = c.args.sort in
    let id = c.args.id in
    let rows = (tables_of self sort).maps.rows in
    let size = subst (λ (t : ItemTables). c.len-place-end.result ≡ length t.maps.rows)
    c.tables.ensures c.len-place-end.ensures in
    let l = c.loop-place-test.false in
    c.from_vec.ensures ∙ c.loop-place.invariant
    ∙ ap (λ rows. label_of (plain_of w self) sort id ∷ texts_at w self sort id rows)
    (take_all c.loop-place.place rows (omega (arith, size, l)))
    ∙ cells_whole w self sort id
