use Rattle.std.proofs.Common.{ap}
use Rattle.observe_core.specs.Held.{Trues}
use Rattle.observe_core.specs.Seen.{Seen}
use Rattle.columns.proofs.EmptyLemmas.{no_values}
use Rattle.index_maps.specs.TrueViews.{trues_of}
use Rattle.index_maps.proofs.trues.TrueItemsObserver.build.Goals as goal

pub fill-requires-clause-empty : goal.fill-requires-clause-empty
fill-requires-clause-empty c =
    no_values Trues (trues_of c.args.self.now) (ap (λ (s : Seen). s.held) c.requires.empty)
