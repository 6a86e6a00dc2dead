use Rattle.observe_core.proofs.Undone.{entries_lack}
use Rattle.index_maps.specs.TrueViews.{trues_of}
use Rattle.index_maps.proofs.trues.TrueItemsObserver.add.Goals as goal

pub put-requires : goal.put-requires
put-requires c =
    entries_lack c.args.f.id (trues_of c.args.self.now) c.requires.live c.requires.fits.held
    c.requires.untracked
