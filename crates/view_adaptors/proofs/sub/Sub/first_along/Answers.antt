use Rattle.std.proofs.Common.{◌≡◌, ℕ, List, true, Option, filter, sym, ◌∙◌, ap}
use Rattle.plain_digraph.specs.Lists.{has, first, ahead}
use Rattle.plain_views.specs.Shown.{arc_of, out_ids}
use Rattle.plain_views.specs.Adaptors.{is_kept}
use Rattle.plain_views.proofs.Walks.{has-first, ahead-first}
use Rattle.plain_views.proofs.Walked as walked
use Rattle.view_adaptors.proofs.Places.{at_arc}
use Rattle.view_adaptors.proofs.sub.Sub.first_along.Goals as goal

pub skip_arcs-requires : goal.skip_arcs-requires
skip_arcs-requires g c =
    let s = c.args.self.now in
    let p = g.G.Shown.graph s.below in
    let shown = g.met.G.Shown.valid s.below in
    let keeps_node = g.F.Filter.keeps_node s.filter in
    let k = is_kept keeps_node (g.F.Filter.keeps_arc s.filter) in
    let nodes = filter keeps_node p.nodes in
    at_arc (λ id. has (out_ids p c.args.n.0) id ≡ true) c.first_out.result
    (first (out_ids p c.args.n.0)) c.first_out.ensures (has-first (out_ids p c.args.n.0))

pub returns : goal.returns
returns g c =
    let s = c.args.self.now in
    let p = g.G.Shown.graph s.below in
    let shown = g.met.G.Shown.valid s.below in
    let keeps_node = g.F.Filter.keeps_node s.filter in
    let k = is_kept keeps_node (g.F.Filter.keeps_arc s.filter) in
    let nodes = filter keeps_node p.nodes in
    let xs = out_ids p c.args.n.0 in
    let kept : List ℕ → Option ℕ = λ ids. first (filter (λ id. k (arc_of p id)) ids) in
    c.skip_arcs.ensures
    ∙ (ap (λ o. kept (ahead xs o)) c.first_out.ensures
    ∙ (ap kept (ahead-first xs)
    ∙ sym (ap first (walked.out_ids-part nodes k p shown c.args.n.0))))
