use Rattle.std.proofs.Common.{◌<◌, ◌^◌, None, sym, ◌∙◌, ap}
use Rattle.plain_digraph.specs.Lists.{first}
use Rattle.plain_views.specs.Shown.{out_ids}
use Rattle.plain_views.specs.Adaptors.{half, first_both}
use Rattle.plain_views.proofs.Walks.{has-first}
use Rattle.plain_views.proofs.Adapted.{has-parts}
use Rattle.view_adaptors.proofs.Places.{at_arc, out_small, even_of, odd_of}
use Rattle.plain_views.proofs.Parted.{is_split}
use Rattle.view_adaptors.proofs.split_nodes.SplitNodesShown.first_out.Goals as goal

pub returns-then-n-eq0 : goal.returns-then-n-eq0
returns-then-n-eq0 g c =
    let s = c.args.self.now in
    let p = g.G.Shown.graph s.below in
    let shown = g.met.G.Shown.valid s.below in
    let below = g.met.G.Shown.below s.below in
    let bound = g.G.Shown.bound s.below in
    let id = c.args.n.0 in
    let at = sym (has-parts p.nodes id) ∙ c.requires in
    let split_as = is_split p shown.nodes_differ in
    sym (split_as.bound_out id (even_of id c.if-n-eq0.true) at)

pub first_out-requires : goal.first_out-requires
first_out-requires g c =
    let s = c.args.self.now in
    let p = g.G.Shown.graph s.below in
    let shown = g.met.G.Shown.valid s.below in
    let below = g.met.G.Shown.below s.below in
    let bound = g.G.Shown.bound s.below in
    let id = c.args.n.0 in
    let at = sym (has-parts p.nodes id) ∙ c.requires in
    let split_as = is_split p shown.nodes_differ in
    at

pub even-requires : goal.even-requires
even-requires g c =
    let s = c.args.self.now in
    let p = g.G.Shown.graph s.below in
    let shown = g.met.G.Shown.valid s.below in
    let below = g.met.G.Shown.below s.below in
    let bound = g.G.Shown.bound s.below in
    let id = c.args.n.0 in
    let at = sym (has-parts p.nodes id) ∙ c.requires in
    let split_as = is_split p shown.nodes_differ in
    at_arc (λ id. id < 2 ^ 30) c.first_out.result (first (out_ids p (half id))) c.first_out.ensures
    (λ other e. out_small p bound below s.small (half id) other
    (has-first (out_ids p (half id)) other e))

pub returns : goal.returns
returns g c =
    let s = c.args.self.now in
    let p = g.G.Shown.graph s.below in
    let shown = g.met.G.Shown.valid s.below in
    let below = g.met.G.Shown.below s.below in
    let bound = g.G.Shown.bound s.below in
    let id = c.args.n.0 in
    let at = sym (has-parts p.nodes id) ∙ c.requires in
    let split_as = is_split p shown.nodes_differ in
    c.even.ensures
    ∙ (ap (λ o. first_both o None) c.first_out.ensures
    ∙ sym (split_as.first_out id (odd_of id c.if-n-eq0.false)))
