use Rattle.std.proofs.Common.{◌≡◌, ◌++◌, map, sym, ap, ◌∙◌}
use Rattle.std.specs.List.{flat_map}
use Rattle.std.proofs.lemmas.List.{take_all}
use Rattle.token_text.specs.Lines.{ended}
use Rattle.lgf_file.specs.Plain.{attribute_text, attribute_lines}
use Rattle.desk_world.proofs.SavedAttributes.{lines_titled, no_lines}
use Rattle.desk_world.proofs.saving.World+Seat+B.push_attribute_lines.Goals as goal

pub returns-then-is_empty : goal.returns-then-is_empty
returns-then-is_empty g c =
    let front = c.args.out.now.items in
    let own = c.in_ok-attributes.attributes in
    no_lines own (sym c.is_empty.ensures ∙ c.if-is_empty.true) front
    ∙ ap (λ a. front ++ flat_map ended (attribute_lines a)) c.in_ok-attributes.ensures

pub returns : goal.returns
returns g c =
    let front = c.args.out.now.items in
    let own = c.in_ok-attributes.attributes in
    let items = c.as_slice-attribute-items.result.now in
    let opened = c.extend_from_slice.new.self.items in
    c.loop-attribute.invariant
    ∙ ap (λ a. opened ++ flat_map ended (map attribute_text a))
    (take_all c.loop-attribute.attribute-index items c.loop-attribute-test.false
    ∙ c.as_slice-attribute-items.ensures)
    ∙ lines_titled own (sym c.is_empty.ensures ∙ c.if-is_empty.false) front opened
    c.in_ok-extend_from_slice.ensures.items
    ∙ ap (λ a. front ++ flat_map ended (attribute_lines a)) c.in_ok-attributes.ensures
