use Rattle.std.proofs.Common.{◌≡◌, ◌++◌, take, map}
use Rattle.std.specs.List.{flat_map}
use Rattle.token_text.specs.Lines.{ended}
use Rattle.lgf_file.specs.Plain.{attribute_text}
use Rattle.lgf_file.proofs.writing.push_attributes.Given as goal

abbrev pub invariant-loop-attribute : goal.invariant-loop-attribute
invariant-loop-attribute l =
    let texts = map attribute_text (take l.attribute-index l.attributes) in
    l.out.items ≡ l.initial.out.items ++ flat_map ended texts
