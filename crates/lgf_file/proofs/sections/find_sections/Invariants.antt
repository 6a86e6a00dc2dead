use Rattle.std.proofs.Common.{◌≡◌, ◌+◌, ◌≤◌, ℕ, List, Option, length}
use Rattle.std.specs.Prelude.{option_map, IfSome}
use Rattle.token_text.specs.Lines.{lines_of}
use Rattle.lgf_file.specs.Sections.{part, part_from}
use Rattle.lgf_file.specs.Found.{section_at}
use Rattle.lgf_file.specs.declared.sections.Begun.{Begun}
use Rattle.lgf_file.specs.declared.sections.Section.{Section}
use Rattle.lgf_file.specs.declared.sections.Section.TheVariants.{Nodes, Arcs, Attributes}
use Rattle.lgf_file.proofs.SectionPlaces.{or_later}
use Rattle.lgf_file.proofs.sections.find_sections.Given as goal

-- The first section of its kind was found, or stands among the lines that are left.
pub record Sought (bytes rest : List ℕ) (at : ℕ) (section : Section) (found : Option Begun) : Type 0
  where
    pub same : part section (lines_of bytes)
        ≡ or_later (option_map (λ b. section_at b.at b.rest.now) found)
        (part_from at section (lines_of rest))
    pub room : IfSome found (λ b. b.at + length b.rest.now ≤ length bytes)

abbrev pub invariant-lines : goal.invariant-lines
invariant-lines l = record {
  nodes : Sought l.fn.bytes l.rest l.at Nodes l.nodes;
  arcs : Sought l.fn.bytes l.rest l.at Arcs l.arcs;
  attributes : Sought l.fn.bytes l.rest l.at Attributes l.attributes;
  room : l.at + length l.rest ≤ length l.fn.bytes + 1;
  count : l.at + length (lines_of l.rest) ≡ length (lines_of l.fn.bytes) + 1;
}

abbrev pub decreases-lines : goal.decreases-lines
decreases-lines l = length l.rest
