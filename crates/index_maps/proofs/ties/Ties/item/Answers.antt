use Rattle.columns.specs.Views.{entries_of}
use Rattle.index_maps.proofs.TiedLemmas.{found-tie}
use Rattle.index_maps.proofs.ties.Ties.item.Goals as goal

pub returns : goal.returns
returns c = found-tie c.args.tie c.find.result (entries_of c.args.self.now.column) c.find.ensures
