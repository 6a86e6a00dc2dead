use Rattle.std.proofs.Common.{◌<◌, ◌^◌, None, sym, ◌∙◌, ap}
use Rattle.plain_digraph.specs.Lists.{first}
use Rattle.plain_views.specs.Shown.{in_ids}
use Rattle.plain_views.specs.Adaptors.{half, first_both}
use Rattle.plain_views.proofs.Walks.{has-first}
use Rattle.plain_views.proofs.Adapted.{has-parts}
use Rattle.view_adaptors.proofs.Places.{at_arc, in_small, even_of, odd_of}
use Rattle.plain_views.proofs.Parted.{is_split}
use Rattle.view_adaptors.proofs.split_nodes.SplitNodesShown.first_in.Goals as goal

pub first_in-requires : goal.first_in-requires
first_in-requires g c =
    let s = c.args.self.now in
    let p = g.G.Shown.graph s.below in
    let shown = g.met.G.Shown.valid s.below in
    let below = g.met.G.Shown.below s.below in
    let bound = g.G.Shown.bound s.below in
    let id = c.args.n.0 in
    let at = sym (has-parts p.nodes id) ∙ c.requires in
    let split_as = is_split p shown.nodes_differ in
    at

pub even-requires : goal.even-requires
even-requires g c =
    let s = c.args.self.now in
    let p = g.G.Shown.graph s.below in
    let shown = g.met.G.Shown.valid s.below in
    let below = g.met.G.Shown.below s.below in
    let bound = g.G.Shown.bound s.below in
    let id = c.args.n.0 in
    let at = sym (has-parts p.nodes id) ∙ c.requires in
    let split_as = is_split p shown.nodes_differ in
    at_arc (λ id. id < 2 ^ 30) c.first_in.result (first (in_ids p (half id))) c.first_in.ensures
    (λ other e. in_small p bound below s.small shown (half id) other
    (has-first (in_ids p (half id)) other e))

pub returns-then-n-eq0 : goal.returns-then-n-eq0
returns-then-n-eq0 g c =
    let s = c.args.self.now in
    let p = g.G.Shown.graph s.below in
    let shown = g.met.G.Shown.valid s.below in
    let below = g.met.G.Shown.below s.below in
    let bound = g.G.Shown.bound s.below in
    let id = c.args.n.0 in
    let at = sym (has-parts p.nodes id) ∙ c.requires in
    let split_as = is_split p shown.nodes_differ in
    c.even.ensures
    ∙ (ap (λ o. first_both o None) c.first_in.ensures
    ∙ sym (split_as.first_in id (even_of id c.if-n-eq0.true)))

pub returns : goal.returns
returns g c =
    let s = c.args.self.now in
    let p = g.G.Shown.graph s.below in
    let shown = g.met.G.Shown.valid s.below in
    let below = g.met.G.Shown.below s.below in
    let bound = g.G.Shown.bound s.below in
    let id = c.args.n.0 in
    let at = sym (has-parts p.nodes id) ∙ c.requires in
    let split_as = is_split p shown.nodes_differ in
    sym (split_as.bound_in id (odd_of id c.if-n-eq0.false) at)
