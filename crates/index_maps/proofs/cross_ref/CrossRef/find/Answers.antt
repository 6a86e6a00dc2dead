use Rattle.std.proofs.Common.{◌∙◌, ap, sym}
use Rattle.std.specs.Option.{option_copied}
use Rattle.columns.specs.Views.{entries_of}
use Rattle.index_maps.proofs.LabelLemmas.{found_holds, none_free}
use Rattle.index_maps.specs.RefSound.{finds, is_read, is_own}
use Rattle.index_maps.proofs.cross_ref.CrossRef.find.Goals as goal

pub returns-in-Some : goal.returns-in-Some
returns-in-Some c =
    let self = c.args.self.now in
    found_holds self.labels.entries (entries_of self.places) (finds self) self.tied (is_read self)
    (is_own self) c.args.label.now c.in-Some.id.now
    (sym c.get.ensures.value ∙ ap option_copied c.in-Some.is)

pub returns-in-None : goal.returns-in-None
returns-in-None c =
    let self = c.args.self.now in
    none_free self.labels.entries (entries_of self.places) (finds self) self.tied (is_read self)
    (is_own self) c.args.label.now
    (sym c.get.ensures.value ∙ ap option_copied c.in-None.is)
