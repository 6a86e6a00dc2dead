use Rattle.std.proofs.Common.{◌≡◌, ℕ, ◌∷◌, ◌++◌, [], map, length, List, Vec, Global, Some, sym, ap}
use Rattle.std.proofs.Common.{subst, ◌∙◌, arith}
use Rattle.std.specs.Prelude.{slice_get, true, false}
use Rattle.std.proofs.lemmas.List.{take_all}
use Rattle.lgf_file.specs.Documents.{label}
use Rattle.plain_world.specs.Tables.{Named}
use Rattle.desk_seats.specs.contracts.seat.SeatObserver.TheImpl.{watch-value}
use Rattle.desk_world.specs.declared.tables.ItemTables.{ItemTables}
use Rattle.desk_world.specs.declared.tables.MapRow.{MapRow}
use Rattle.desk_world.specs.InStep.{has_values}
use Rattle.desk_world.specs.Plain.{tables_of}
use Rattle.desk_world.proofs.DocParts.{names_of, names_whole, name_more, name_same}
use Rattle.desk_world.proofs.documents.World+Seat+B.copy_columns.Goals as goal
use Rattle.desk_world.proofs.documents.World+Seat+B.copy_columns.Goals.{
  then-has_values+in_ok-copy_text-2+in_ok-push-2,
  else-has_values,
}

pub loop-place-preserved : goal.loop-place-preserved
loop-place-preserved g c =
    let w = (watch-value g.row.B g.B.Observer g.B.Observer-dict g.B.Destruct-dict).it in
    let self = c.args.self.now in
    let sort = c.args.sort in
    let k = c.loop-place.place in
    let row : MapRow = c.value.result.now in
    let at = subst (λ (t : ItemTables).
    slice_get (map (λ (e : Named MapRow). e.value) t.maps.rows) k ≡ Some row) c.tables.ensures
    c.value.ensures in
    elim c.if-has_values.branch [
      | then-has_values+in_ok-copy_text-2+in_ok-push-2 b ↦
          (let values : has_values row.kind ≡ true =
          sym c.has_values.ensures ∙ b.if-has_values.true in
          let named = subst (λ (t : ItemTables).
          slice_get (map (λ (e : Named MapRow). e.name) t.maps.rows) k ≡ Some b.name.result.now)
          c.tables.ensures b.name.ensures in
          ap (λ (v : Vec (List ℕ) Global). v.items) b.columns-is ∙ b.in_ok-push-2.ensures.items
          ∙ (λ i. c.loop-place.invariant i
          ++ (b.in_ok-copy_text-2.ensures ∙ b.as_bytes.ensures) i ∷ [])
          ∙ ap (λ more. label ∷ more)
          (sym (name_more w self sort c.requires.seats k row at b.name.result.now named values)))
      | else-has_values b ↦
          (let values : has_values row.kind ≡ false =
          sym c.has_values.ensures ∙ b.if-has_values.false in
          ap (λ (v : Vec (List ℕ) Global). v.items) b.columns-is ∙ c.loop-place.invariant
          ∙ ap (λ more. label ∷ more)
          (sym (name_same w self sort c.requires.seats k row at values)))
    ]

pub returns : goal.returns
returns g c =
    let w = (watch-value g.row.B g.B.Observer g.B.Observer-dict g.B.Destruct-dict).it in
    let self = c.args.self.now in
    let sort = c.args.sort in
    let rows = (tables_of self sort).maps.rows in
    let size = subst (λ (t : ItemTables). c.len-place-end.result ≡ length t.maps.rows)
    c.tables.ensures c.len-place-end.ensures in
    let l = c.loop-place-test.false in
    c.from_vec.ensures ∙ c.loop-place.invariant
    ∙ ap (λ rows. label ∷ names_of w self sort rows)
    (take_all c.loop-place.place rows (omega (arith, size, l)))
    ∙ names_whole w self sort
