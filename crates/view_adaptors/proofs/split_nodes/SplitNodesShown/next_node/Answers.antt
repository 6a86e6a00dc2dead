use Rattle.std.proofs.Common.{None, sym, ◌∙◌, ap, arith}
use Rattle.std.specs.Prelude.{option_map}
use Rattle.plain_views.specs.Adaptors.{half, first_both}
use Rattle.plain_views.proofs.Walks.{has-after}
use Rattle.plain_views.proofs.Adapted.{has-parts}
use Rattle.view_adaptors.proofs.Places.{node_small, even_of, odd_of}
use Rattle.plain_views.proofs.Parted.{is_split, after_in, after_out}
use Rattle.view_adaptors.proofs.split_nodes.SplitNodesShown.next_node.Goals as goal

pub returns-then-n-eq0 : goal.returns-then-n-eq0
returns-then-n-eq0 g c =
    let s = c.args.self.now in
    let p = g.G.Shown.graph s.below in
    let shown = g.met.G.Shown.valid s.below in
    let below = g.met.G.Shown.below s.below in
    let bound = g.G.Shown.bound s.below in
    let id = c.args.n.0 in
    let at = sym (has-parts p.nodes id) ∙ c.requires in
    let split_as = is_split p shown.nodes_differ in
    sym (after_in p.nodes id (even_of id c.if-n-eq0.true) at)

pub next_node-requires : goal.next_node-requires
next_node-requires g c =
    let s = c.args.self.now in
    let p = g.G.Shown.graph s.below in
    let shown = g.met.G.Shown.valid s.below in
    let below = g.met.G.Shown.below s.below in
    let bound = g.G.Shown.bound s.below in
    let id = c.args.n.0 in
    let at = sym (has-parts p.nodes id) ∙ c.requires in
    let split_as = is_split p shown.nodes_differ in
    at

pub overflow_mul-result-in-Some : goal.overflow_mul-result-in-Some
overflow_mul-result-in-Some g c =
    let s = c.args.self.now in
    let p = g.G.Shown.graph s.below in
    let shown = g.met.G.Shown.valid s.below in
    let below = g.met.G.Shown.below s.below in
    let bound = g.G.Shown.bound s.below in
    let id = c.args.n.0 in
    let at = sym (has-parts p.nodes id) ∙ c.requires in
    let split_as = is_split p shown.nodes_differ in
    let l = node_small p bound below s.small c.in-Some.n.0
    (has-after p.nodes (half id) c.in-Some.n.0
    (sym c.next_node.ensures ∙ ap (option_map (λ n. n.0)) c.in-Some.is)) in omega (arith, l)

pub returns-in-Some : goal.returns-in-Some
returns-in-Some g c =
    let s = c.args.self.now in
    let p = g.G.Shown.graph s.below in
    let shown = g.met.G.Shown.valid s.below in
    let below = g.met.G.Shown.below s.below in
    let bound = g.G.Shown.bound s.below in
    let id = c.args.n.0 in
    let at = sym (has-parts p.nodes id) ∙ c.requires in
    let split_as = is_split p shown.nodes_differ in
    let one = sym c.next_node.ensures
    ∙ ap (option_map (λ n. n.0)) c.in-Some.is in sym
    (after_out p.nodes id (odd_of id c.if-n-eq0.false) ∙ ap (λ o. first_both o None) one)

pub returns-in-None : goal.returns-in-None
returns-in-None g c =
    let s = c.args.self.now in
    let p = g.G.Shown.graph s.below in
    let shown = g.met.G.Shown.valid s.below in
    let below = g.met.G.Shown.below s.below in
    let bound = g.G.Shown.bound s.below in
    let id = c.args.n.0 in
    let at = sym (has-parts p.nodes id) ∙ c.requires in
    let split_as = is_split p shown.nodes_differ in
    let none = sym c.next_node.ensures
    ∙ ap (option_map (λ n. n.0)) c.in-None.is in sym
    (after_out p.nodes id (odd_of id c.if-n-eq0.false) ∙ ap (λ o. first_both o None) none)
