use Rattle.std.proofs.Common.{◌≡◌, ℕ, false, List, [], ◌∷◌, map, length, sym, ◌∙◌, refl}
use Rattle.std.proofs.Common.{append_assoc}
use Rattle.std.specs.Prelude.{◌==◌, codes}
use Rattle.std.proofs.lemmas.List.{take_all}
use Rattle.lgf_file.specs.Plain.{attribute_text, attribute_lines}
use Rattle.lgf_file.proofs.writing.push_attributes.Goals as goal

-- Where there are attributes, their lines are the one that opens the section and then their own.
some_lines : (attributes : List (List ℕ × List ℕ)) → (length attributes == 0) ≡ false
    → attribute_lines attributes ≡ codes "@attributes" ∷ map attribute_text attributes
some_lines [] some = absurd (cc)
some_lines (attribute ∷ attributes) some = refl

pub returns : goal.returns
returns c =
    let attributes = c.args.attributes.now in
    rw (
      some_lines attributes (sym c.is_empty.ensures ∙ c.if-is_empty.false),
      c.loop-attribute.invariant,
      c.in_ok-extend_from_slice.ensures.items,
      append_assoc,
      take_all c.loop-attribute.attribute-index attributes c.loop-attribute-test.false,
    ) refl
