use Rattle.std.proofs.Common.{◌<◌, ◌^◌, None, sym, ◌∙◌, ap}
use Rattle.plain_views.specs.Shown.{out_ids, source_of, next_out}
use Rattle.plain_views.specs.Adaptors.{half, first_both}
use Rattle.plain_views.proofs.Walks.{has-after}
use Rattle.view_adaptors.proofs.Places.{at_arc, out_small, even_of, odd_of}
use Rattle.plain_views.proofs.Parted.{is_split, split_even, split_odd}
use Rattle.view_adaptors.proofs.split_nodes.SplitNodesShown.next_out.Goals as goal

pub next_out-requires : goal.next_out-requires
next_out-requires g c =
    let s = c.args.self.now in
    let p = g.G.Shown.graph s.below in
    let shown = g.met.G.Shown.valid s.below in
    let below = g.met.G.Shown.below s.below in
    let bound = g.G.Shown.bound s.below in
    let id = c.args.a.0 in
    let split_as = is_split p shown.nodes_differ in
    let at = sym (split_even p id (even_of id c.if-a-eq0.true)) ∙ c.requires in
    at

pub even-requires : goal.even-requires
even-requires g c =
    let s = c.args.self.now in
    let p = g.G.Shown.graph s.below in
    let shown = g.met.G.Shown.valid s.below in
    let below = g.met.G.Shown.below s.below in
    let bound = g.G.Shown.bound s.below in
    let id = c.args.a.0 in
    let split_as = is_split p shown.nodes_differ in
    let v = source_of p (half id) in at_arc (λ id. id < 2 ^ 30) c.next_out.result
    (next_out p (half id)) c.next_out.ensures
    (λ other e. out_small p bound below s.small v other
    (has-after (out_ids p v) (half id) other e))

pub returns-then-a-eq0 : goal.returns-then-a-eq0
returns-then-a-eq0 g c =
    let s = c.args.self.now in
    let p = g.G.Shown.graph s.below in
    let shown = g.met.G.Shown.valid s.below in
    let below = g.met.G.Shown.below s.below in
    let bound = g.G.Shown.bound s.below in
    let id = c.args.a.0 in
    let split_as = is_split p shown.nodes_differ in
    let at = sym (split_even p id (even_of id c.if-a-eq0.true)) ∙ c.requires in
    c.even.ensures
    ∙ (ap (λ o. first_both o None) c.next_out.ensures
    ∙ sym (split_as.goes_out id (even_of id c.if-a-eq0.true) at))

pub returns : goal.returns
returns g c =
    let s = c.args.self.now in
    let p = g.G.Shown.graph s.below in
    let shown = g.met.G.Shown.valid s.below in
    let below = g.met.G.Shown.below s.below in
    let bound = g.G.Shown.bound s.below in
    let id = c.args.a.0 in
    let split_as = is_split p shown.nodes_differ in
    let at = sym (split_odd p id (odd_of id c.if-a-eq0.false)) ∙ c.requires in
    sym (split_as.last_out id (odd_of id c.if-a-eq0.false) at)
