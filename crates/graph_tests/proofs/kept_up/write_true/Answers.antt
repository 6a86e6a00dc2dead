use Rattle.observe_core.specs.Held.{Trues}
use Rattle.columns.specs.Views.{entry}
use Rattle.fact_table.specs.Table.{facts_of}
use Rattle.index_maps.specs.TrueViews.{trues_of}
use Rattle.graph_tests.proofs.Following.{has_entry, fits_written}
use Rattle.graph_tests.proofs.kept_up.write_true.Goals as goal

pub write-requires : goal.write-requires
write-requires c =
    has_entry c.args.id (trues_of c.args.map.now) (facts_of c.args.facts.now) c.in-Some.fact
    c.requires.held
    c.in-Some.ensures.there

pub returns : goal.returns
returns c =
    fits_written Trues (entry c.args.id c.args.value) (trues_of c.args.map.now)
    (facts_of c.args.facts.now)
    _ c.write.ensures c.requires
