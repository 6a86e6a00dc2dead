use Rattle.std.proofs.Common.{to_z, of_z, w64}
use Rattle.observe_core.specs.Held.{Ints}
use Rattle.columns.specs.Views.{entry}
use Rattle.fact_table.specs.Table.{facts_of}
use Rattle.value_maps.specs.Views.{ints_of}
use Rattle.graph_tests.proofs.Following.{has_entry, fits_written}
use Rattle.graph_tests.proofs.kept_up.set_int.Goals as goal

pub set-requires : goal.set-requires
set-requires c =
    has_entry c.args.id (ints_of c.args.map.now) (facts_of c.args.facts.now) c.in-Some.fact
    c.requires.held
    c.in-Some.ensures.there

pub returns : goal.returns
returns c =
    fits_written Ints (entry c.args.id (to_z w64 (of_z w64 c.args.value))) (ints_of c.args.map.now)
    (facts_of c.args.facts.now)
    _ c.set.ensures c.requires
