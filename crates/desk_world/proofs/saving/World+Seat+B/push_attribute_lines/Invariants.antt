use Rattle.std.proofs.Common.{◌≡◌, ◌++◌, take, map}
use Rattle.std.specs.List.{flat_map}
use Rattle.token_text.specs.Lines.{ended}
use Rattle.lgf_file.specs.Plain.{attribute_text}
use Rattle.desk_world.proofs.saving.World+Seat+B.push_attribute_lines.Given as goal

abbrev pub invariant-loop-attribute : goal.invariant-loop-attribute
invariant-loop-attribute g l =
    let texts = map attribute_text (take l.attribute-index l.attribute-items) in
    l.out.items ≡ l.initial.out.items ++ flat_map ended texts
