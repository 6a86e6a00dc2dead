use Rattle.observe_core.proofs.Undone.{entries_lack}
use Rattle.index_maps.specs.RefViews.{labels_of}
use Rattle.index_maps.proofs.cross_ref.CrossRefObserver.add.Goals as goal

pub add_item-requires-clause-free : goal.add_item-requires-clause-free
add_item-requires-clause-free c =
    entries_lack c.args.f.id (labels_of c.args.self.now) c.requires.live c.requires.fits.held
    c.requires.untracked
