use Rattle.std.proofs.Common.{◌∙◌, ◌≡◌, true, false, sym, ap}
use Rattle.plain_digraph.specs.Facts.{fact_id}
use Rattle.plain_views.specs.Shown.{source, target, end_in}
use Rattle.observe_core.specs.Seen.{facts_of_marked}
use Rattle.observe_core.proofs.ItemLemmas.{lacks-not_has}
use Rattle.kept_views.specs.declared.listing.Listing.TheVariants.{BySource, ByTarget}
use Rattle.kept_views.specs.Views.{nodes_of, arcs_of}
use Rattle.kept_walks.specs.Stored.{stored}
use Rattle.kept_walks.specs.Whole.{end_is, arcs_rise, has_stored}
use Rattle.kept_walks.proofs.stored.StoredShown.ends.Goals as goal

pub returns-clause-from : goal.returns-clause-from
returns-clause-from c =
    let s = c.args.self.now in
    let nodes = facts_of_marked (nodes_of s.nodes.now) in
    let arcs = facts_of_marked (arcs_of s.arcs.now) in
    let at = c.in-Some.ensures.there in
    sym (end_is source BySource c.in-Some.fact arcs (arcs_rise s.arcs.now) at.0)
    ∙ ap (end_in source (stored nodes arcs).by_source) at.1

pub returns-clause-to : goal.returns-clause-to
returns-clause-to c =
    let s = c.args.self.now in
    let nodes = facts_of_marked (nodes_of s.nodes.now) in
    let arcs = facts_of_marked (arcs_of s.arcs.now) in
    let at = c.in-Some.ensures.there in
    sym (end_is target ByTarget c.in-Some.fact arcs (arcs_rise s.arcs.now) at.0)
    ∙ ap (end_in target (stored nodes arcs).by_target) at.1

pub unreachable-requires : goal.unreachable-requires
unreachable-requires c =
    let s = c.args.self.now in
    let nodes = facts_of_marked (nodes_of s.nodes.now) in
    let arcs = facts_of_marked (arcs_of s.arcs.now) in
    let absent = lacks-not_has fact_id c.args.a.0 arcs c.in-None.ensures.absent in
    let both : false ≡ true = sym absent ∙ sym (has_stored nodes arcs c.args.a.0) ∙ c.requires in
    cc
