use Rattle.std.proofs.Common.{◌≡◌, ℕ, ◌+◌, ◌≤◌, List, ◌∷◌, Option, length, ap, ◌∙◌, arith}
use Rattle.std.specs.Prelude.{option_map, IfSome}
use Rattle.token_text.specs.Lines.{lines_of}
use Rattle.lgf_file.specs.Sections.{kind_of, is_opened_by}
use Rattle.lgf_file.specs.Found.{section_at, found_or}
use Rattle.lgf_file.specs.declared.sections.Begun.{Begun}
use Rattle.lgf_file.specs.declared.sections.LineKind.{LineKind}
use Rattle.lgf_file.specs.declared.sections.Section.{Section}
use Rattle.lgf_file.specs.declared.sections.Section.TheVariants.{Nodes, Arcs, Attributes}
use Rattle.lgf_file.proofs.SectionPlaces.{one_on}
use Rattle.lgf_file.proofs.sections.find_sections.Invariants.{Sought}
use Rattle.lgf_file.proofs.sections.find_sections.Goals as goal

sought_on : (bytes rest line after : List ℕ) (at : ℕ) (section : Section)
    (found next : Option Begun) (kind : LineKind) → Sought bytes rest at section found
    → lines_of rest ≡ line ∷ lines_of after → kind ≡ kind_of line
    → option_map (λ (b : Begun). section_at b.at b.rest.now) next
    ≡ found_or (option_map (λ (b : Begun). section_at b.at b.rest.now) found)
    (is_opened_by section kind) (section_at at after)
    → IfSome next (λ b. b.at + length b.rest.now ≤ length bytes)
    → Sought bytes after (at + 1) section next
sought_on bytes rest line after at section found next kind was lines kind_is next_is room = record {
  same = rw (next_is, kind_is) (was.same ∙ one_on section at _ line rest after lines);
  room = room;
}

pub lines-preserved : goal.lines-preserved
lines-preserved c =
    let bytes = c.args.bytes.now in
    let was = c.lines.invariant in
    let line = c.in-Some.ensures.line in
    let kind = c.kind_of-kind.ensures in
    let nodes = c.found_or-nodes.ensures in
    let arcs = c.found_or-arcs.ensures in
    let attributes = c.found_or-attributes.ensures in
    let here : c.lines.at + length c.in-Some.after.now ≤ length bytes =
    omega (arith, c.in-Some.ensures.less, was.room) in
    record {
      nodes = sought_on bytes _ _ _ c.lines.at Nodes _ _ _ was.nodes line kind nodes.found
          (nodes.room (length bytes) was.nodes.room here);
      arcs = sought_on bytes _ _ _ c.lines.at Arcs _ _ _ was.arcs line kind arcs.found
          (arcs.room (length bytes) was.arcs.room here);
      attributes = sought_on bytes _ _ _ c.lines.at Attributes _ _ _ was.attributes line kind
          attributes.found (attributes.room (length bytes) was.attributes.room here);
      room = omega (arith, c.in-Some.ensures.less, was.room);
      count = omega (arith, was.count, ap length line);
    }
