use Rattle.observe_core.specs.Held.{Texts}
use Rattle.columns.specs.Views.{entry}
use Rattle.fact_table.specs.Table.{facts_of}
use Rattle.value_maps.specs.Views.{texts_of}
use Rattle.graph_tests.proofs.Following.{has_entry, fits_written}
use Rattle.graph_tests.proofs.kept_up.set_text.Goals as goal

pub set-requires : goal.set-requires
set-requires c =
    has_entry c.args.id (texts_of c.args.map.now) (facts_of c.args.facts.now) c.in_ok-fact.fact
    c.requires.held
    c.in_ok-fact.ensures.there

pub returns : goal.returns
returns c =
    fits_written Texts (entry c.args.id c.args.value) (texts_of c.args.map.now)
    (facts_of c.args.facts.now)
    _ c.set.ensures.seen c.requires
