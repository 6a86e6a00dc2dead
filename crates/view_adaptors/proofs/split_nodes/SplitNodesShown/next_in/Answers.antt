use Rattle.std.proofs.Common.{◌<◌, ◌^◌, None, sym, ◌∙◌, ap}
use Rattle.plain_views.specs.Shown.{in_ids, target_of, next_in}
use Rattle.plain_views.specs.Adaptors.{half, first_both}
use Rattle.plain_views.proofs.Walks.{has-after}
use Rattle.plain_views.proofs.Sides.{same_ids}
use Rattle.view_adaptors.proofs.Places.{at_arc, in_small, even_of, odd_of}
use Rattle.plain_views.proofs.Parted.{is_split, split_even, split_odd}
use Rattle.view_adaptors.proofs.split_nodes.SplitNodesShown.next_in.Goals as goal

pub next_in-requires : goal.next_in-requires
next_in-requires g c =
    let s = c.args.self.now in
    let p = g.G.Shown.graph s.below in
    let shown = g.met.G.Shown.valid s.below in
    let below = g.met.G.Shown.below s.below in
    let bound = g.G.Shown.bound s.below in
    let id = c.args.a.0 in
    let split_as = is_split p shown.nodes_differ in
    let at = sym (split_even p id (even_of id c.if-a-eq0.true)) ∙ c.requires in
    at

pub even-requires : goal.even-requires
even-requires g c =
    let s = c.args.self.now in
    let p = g.G.Shown.graph s.below in
    let shown = g.met.G.Shown.valid s.below in
    let below = g.met.G.Shown.below s.below in
    let bound = g.G.Shown.bound s.below in
    let id = c.args.a.0 in
    let split_as = is_split p shown.nodes_differ in
    let v = target_of p (half id) in at_arc (λ id. id < 2 ^ 30) c.next_in.result
    (next_in p (half id)) c.next_in.ensures
    (λ other e. in_small p bound below s.small shown v other
    (has-after (in_ids p v) (half id) other e))

pub returns-then-a-eq0 : goal.returns-then-a-eq0
returns-then-a-eq0 g c =
    let s = c.args.self.now in
    let p = g.G.Shown.graph s.below in
    let shown = g.met.G.Shown.valid s.below in
    let below = g.met.G.Shown.below s.below in
    let bound = g.G.Shown.bound s.below in
    let id = c.args.a.0 in
    let split_as = is_split p shown.nodes_differ in
    let at = sym (split_even p id (even_of id c.if-a-eq0.true)) ∙ c.requires in
    c.even.ensures
    ∙ (ap (λ o. first_both o None) c.next_in.ensures
    ∙ sym (split_as.goes_in id (even_of id c.if-a-eq0.true)
    (sym (same_ids p shown (half id)) ∙ at)))

pub returns : goal.returns
returns g c =
    let s = c.args.self.now in
    let p = g.G.Shown.graph s.below in
    let shown = g.met.G.Shown.valid s.below in
    let below = g.met.G.Shown.below s.below in
    let bound = g.G.Shown.bound s.below in
    let id = c.args.a.0 in
    let split_as = is_split p shown.nodes_differ in
    let at = sym (split_odd p id (odd_of id c.if-a-eq0.false)) ∙ c.requires in
    sym (split_as.last_in id (odd_of id c.if-a-eq0.false) at)
