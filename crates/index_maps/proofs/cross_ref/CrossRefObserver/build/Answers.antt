use Rattle.std.proofs.Common.{ap}
use Rattle.observe_core.specs.Held.{Labels}
use Rattle.observe_core.specs.Seen.{Seen}
use Rattle.columns.proofs.EmptyLemmas.{no_values}
use Rattle.index_maps.specs.RefViews.{labels_of}
use Rattle.index_maps.proofs.cross_ref.CrossRefObserver.build.Goals as goal

pub fill-requires-clause-empty : goal.fill-requires-clause-empty
fill-requires-clause-empty c =
    no_values Labels (labels_of c.args.self.now) (ap (λ (s : Seen). s.held) c.requires.empty)
