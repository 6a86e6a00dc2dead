use Rattle.std.proofs.Common.{◌∷◌, ◌++◌, [], List, ℕ, sym, ap, ◌∙◌, arith, Vec, Global}
use Rattle.std.specs.Option.{option_copied}
use Rattle.std.proofs.lemmas.List.{take_all}
use Rattle.desk_seats.specs.contracts.seat.SeatObserver.TheImpl.{watch-value}
use Rattle.desk_world.proofs.DocParts.{attributes_of, attribute_more, attribute_same}
use Rattle.desk_world.proofs.documents.World+Seat+B.copy_attributes.Goals as goal
use Rattle.desk_world.proofs.documents.World+Seat+B.copy_attributes.Goals.{
  in-Some+in_ok-name+in_ok-value+in_ok-push,
  in_default,
}

pub loop-place-preserved : goal.loop-place-preserved
loop-place-preserved g c =
    let w = (watch-value g.row.B g.B.Observer g.B.Observer-dict g.B.Destruct-dict).it in
    let self = c.args.self.now in
    let k = c.loop-place.place in
    let row = c.value.result.now in
    let text = option_copied c.row_attribute.result in
    elim c.match-row_attribute.branch [
      | in-Some+in_ok-name+in_ok-value+in_ok-push b ↦
          (let name = b.in_ok-name.ensures ∙ b.as_bytes.ensures in
          let value = b.in_ok-value.ensures ∙ b.as_bytes-in-Some.ensures in
          ap (λ (v : Vec (List ℕ × List ℕ) Global). v.items) b.attributes-is
          ∙ b.in_ok-push.ensures.items
          ∙ (λ i. c.loop-place.invariant i ++ (name i, value i) ∷ [])
          ∙ sym (attribute_more w self k row c.value.ensures text c.row_attribute.ensures
          b.name.result.now b.in-Some.text.now b.name.ensures (ap option_copied b.in-Some.is)))
      | in_default b ↦
          (ap (λ (v : Vec (List ℕ × List ℕ) Global). v.items) b.attributes-is
          ∙ c.loop-place.invariant
          ∙ sym (attribute_same w self k row c.value.ensures text c.row_attribute.ensures
          (ap option_copied b.in_default.is)))
    ]

pub returns : goal.returns
returns g c =
    let w = (watch-value g.row.B g.B.Observer g.B.Observer-dict g.B.Destruct-dict).it in
    let self = c.args.self.now in
    let size = c.len-place-end.ensures in
    let l = c.loop-place-test.false in
    c.from_vec.ensures ∙ c.loop-place.invariant
    ∙ ap (attributes_of w self)
    (take_all c.loop-place.place self.attributes.rows (omega (arith, size, l)))
