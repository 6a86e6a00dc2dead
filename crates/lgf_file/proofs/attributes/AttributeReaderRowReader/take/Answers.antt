use Rattle.std.proofs.Common.{◌≡◌, None, get_or, ap, sym, ◌∙◌}
use Rattle.std.specs.Prelude.{◌++◌, ◌∷◌, [], if◌then◌else◌}
use Rattle.std.proofs.lemmas.Bool.{not-true, not-false}
use Rattle.token_text.specs.Names.{is_among}
use Rattle.lgf_file.specs.Faults.{width_fault}
use Rattle.lgf_file.proofs.AttributeLists.{attribute_fault_is, names_push}
use Rattle.lgf_file.proofs.attributes.AttributeReaderRowReader.take.Goals as goal

pub returns-then-not-fresh-clause-fault : goal.returns-then-not-fresh-clause-fault
returns-then-not-fresh-clause-fault c =
    let names = c.args.self.now.names in
    let name = c.in_ok-name.name in
    let wide = sym (c.in_default.ensures ∙ ap (width_fault 2) c.as_slice.ensures.value) in
    let is = c.in_ok-name.ensures ∙ c.as_bytes.ensures ∙ c.index.ensures in
    let twice = not-false (is_among name names)
    (sym c.in_ok-fresh.ensures.fresh ∙ c.if-not-fresh.true) in
    sym (attribute_fault_is c.args.self.now.attributes.items c.args.cells.items wide name
    c.index.result.now is _ names c.requires.sound twice)

-- ---- where the name isn't among the others

module _ (c : goal.In_ok-push) where
  wide : width_fault 2 c.args.cells.items ≡ None
  wide = sym (c.in_default.ensures ∙ ap (width_fault 2) c.as_slice.ensures.value)

  copied : c.in_ok-name.name ≡ get_or c.args.cells.items 0 c.index.result.now
  copied = c.in_ok-name.ensures ∙ c.as_bytes.ensures ∙ c.index.ensures

pub returns-clause-fault : goal.returns-clause-fault
returns-clause-fault c =
    let names = c.args.self.now.names in
    sym (attribute_fault_is c.args.self.now.attributes.items c.args.cells.items (wide c)
    c.in_ok-name.name c.index.result.now (copied c) _ names c.requires.sound
    (not-true (is_among c.in_ok-name.name names)
    (sym c.in_ok-fresh.ensures.fresh ∙ c.if-not-fresh.false)))

pub returns-clause-sound : goal.returns-clause-sound
returns-clause-sound c =
    let names = c.args.self.now.names in
    let name = c.in_ok-name.name in
    rw c.in_ok-push.ensures.items
    (c.in_ok-fresh.ensures.inserted
    ∙ ap (λ fresh. if fresh then names ++ name ∷ [] else names) c.if-not-fresh.false
    ∙ ap (λ own. own ++ name ∷ []) c.requires.sound
    ∙ names_push c.args.self.now.attributes.items c.args.cells.items (wide c) name
    c.index.result.now (copied c) c.pair_of.result c.pair_of.ensures)
