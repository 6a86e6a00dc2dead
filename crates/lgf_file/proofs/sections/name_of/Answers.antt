use Rattle.std.proofs.Common.{sym, ap, ◌∙◌}
use Rattle.lgf_file.specs.Sections.{name_of}
use Rattle.lgf_file.proofs.SectionPlaces.{name_is}
use Rattle.lgf_file.proofs.sections.name_of.Goals as goal

pub returns : goal.returns
returns c =
    let parts = c.split_word.ensures in
    sym (ap name_of parts.split ∙ name_is _ _ parts.visible parts.stop)
