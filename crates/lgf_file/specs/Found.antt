-- How sections are found line by line. No public clause cites this module.
use Rattle.std.specs.Prelude.{ℕ, ◌+◌, Bool, if◌then◌else◌, List, Some, None, Option}
use Rattle.token_text.specs.Lines.{lines_of}
use Rattle.lgf_file.specs.Sections.{Part, rows_of}

-- The section whose first line has this number, with these bytes behind that line.
abbrev pub section_at : ℕ → List ℕ → Part
section_at number rest = record { at = number; rows = rows_of (number + 1) (lines_of rest) }

-- The section that was found, or else this one if the line opens it.
abbrev pub found_or : Option Part → Bool → Part → Option Part
found_or (Some found) opens here = Some found
found_or None opens here = if opens then Some here else None
