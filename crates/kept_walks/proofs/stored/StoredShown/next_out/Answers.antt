use Rattle.std.proofs.Common.{◌∙◌, ◌≡◌, true, sym, ap, subst}
use Rattle.plain_digraph.specs.Lists.{after, has}
use Rattle.plain_views.specs.Shown.{source, end_in, arc_ids}
use Rattle.plain_views.proofs.Sides.{at_own}
use Rattle.observe_core.specs.Seen.{facts_of_marked}
use Rattle.kept_views.specs.Views.{nodes_of, arcs_of}
use Rattle.kept_walks.specs.Stored.{stored}
use Rattle.kept_walks.specs.Whole.{out_is, has_stored, has_source}
use Rattle.kept_walks.proofs.Lookups.{marked_has}
use Rattle.kept_walks.proofs.stored.StoredShown.next_out.Goals as goal

pub next_out-requires : goal.next_out-requires
next_out-requires c =
    let s = c.args.self.now in
    let nodes = facts_of_marked (nodes_of s.nodes.now) in
    let arcs = facts_of_marked (arcs_of s.arcs.now) in
    sym (marked_has (arcs_of s.arcs.now) c.args.a.0)
    ∙ sym (has_stored nodes arcs c.args.a.0) ∙ c.requires

pub returns : goal.returns
returns c =
    let s = c.args.self.now in
    let nodes = facts_of_marked (nodes_of s.nodes.now) in
    let facts = facts_of_marked (arcs_of s.arcs.now) in
    let id = c.args.a.0 in
    let list = (stored nodes facts).by_source in
    let v = end_in source list id in
    let there : has (arc_ids list) id ≡ true = has_source nodes facts id c.requires in
    let own = at_own source list id there in
    let e = out_is facts v in
    c.arc_at.ensures ∙ c.next_out.ensures v (subst (λ l. has l id ≡ true) e own)
    ∙ ap (λ l. after l id) (sym e)
