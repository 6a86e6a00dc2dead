use Rattle.std.proofs.Common.{sym, ◌∙◌, ap, arith}
use Rattle.plain_views.specs.Adaptors.{half, twice, odd}
use Rattle.plain_views.proofs.Sides.{source_shown, target_shown, same_ids}
use Rattle.view_adaptors.proofs.Places.{node_small, even_of, odd_of}
use Rattle.plain_views.proofs.Parted.{is_split, split_even, split_odd}
use Rattle.view_adaptors.proofs.split_nodes.SplitNodesShown.ends.Goals as goal

pub ends-requires : goal.ends-requires
ends-requires g c =
    let s = c.args.self.now in
    let p = g.G.Shown.graph s.below in
    let shown = g.met.G.Shown.valid s.below in
    let below = g.met.G.Shown.below s.below in
    let bound = g.G.Shown.bound s.below in
    let id = c.args.a.0 in
    let split_as = is_split p shown.nodes_differ in
    let at = sym (split_even p id (even_of id c.if-a-eq0.true)) ∙ c.requires in
    at

pub overflow_mul-result : goal.overflow_mul-result
overflow_mul-result g c =
    let s = c.args.self.now in
    let p = g.G.Shown.graph s.below in
    let shown = g.met.G.Shown.valid s.below in
    let below = g.met.G.Shown.below s.below in
    let bound = g.G.Shown.bound s.below in
    let id = c.args.a.0 in
    let split_as = is_split p shown.nodes_differ in
    let at = sym (split_even p id (even_of id c.if-a-eq0.true)) ∙ c.requires in
    let l = node_small p bound below s.small c.ends.result.0.0
    (rw c.ends.ensures.from (source_shown p (half id) shown at)) in omega (arith, l)

pub overflow_add-result : goal.overflow_add-result
overflow_add-result g c =
    let s = c.args.self.now in
    let p = g.G.Shown.graph s.below in
    let shown = g.met.G.Shown.valid s.below in
    let below = g.met.G.Shown.below s.below in
    let bound = g.G.Shown.bound s.below in
    let id = c.args.a.0 in
    let split_as = is_split p shown.nodes_differ in
    let at = sym (split_even p id (even_of id c.if-a-eq0.true)) ∙ c.requires in
    let l = node_small p bound below s.small c.ends.result.0.0
    (rw c.ends.ensures.from (source_shown p (half id) shown at)) in omega (arith, l)

pub overflow_mul-result-then-a-eq0 : goal.overflow_mul-result-then-a-eq0
overflow_mul-result-then-a-eq0 g c =
    let s = c.args.self.now in
    let p = g.G.Shown.graph s.below in
    let shown = g.met.G.Shown.valid s.below in
    let below = g.met.G.Shown.below s.below in
    let bound = g.G.Shown.bound s.below in
    let id = c.args.a.0 in
    let split_as = is_split p shown.nodes_differ in
    let at = sym (split_even p id (even_of id c.if-a-eq0.true)) ∙ c.requires in
    let l = node_small p bound below s.small c.ends.result.1.0
    (rw c.ends.ensures.to (target_shown p (half id) shown at)) in omega (arith, l)

pub returns-then-a-eq0-clause-from : goal.returns-then-a-eq0-clause-from
returns-then-a-eq0-clause-from g c =
    let s = c.args.self.now in
    let p = g.G.Shown.graph s.below in
    let shown = g.met.G.Shown.valid s.below in
    let below = g.met.G.Shown.below s.below in
    let bound = g.G.Shown.bound s.below in
    let id = c.args.a.0 in
    let split_as = is_split p shown.nodes_differ in
    let at = sym (split_even p id (even_of id c.if-a-eq0.true)) ∙ c.requires in
    ap odd c.ends.ensures.from ∙ sym (split_as.from id (even_of id c.if-a-eq0.true) at)

pub returns-then-a-eq0-clause-to : goal.returns-then-a-eq0-clause-to
returns-then-a-eq0-clause-to g c =
    let s = c.args.self.now in
    let p = g.G.Shown.graph s.below in
    let shown = g.met.G.Shown.valid s.below in
    let below = g.met.G.Shown.below s.below in
    let bound = g.G.Shown.bound s.below in
    let id = c.args.a.0 in
    let split_as = is_split p shown.nodes_differ in
    let at = sym (split_even p id (even_of id c.if-a-eq0.true)) ∙ c.requires in
    ap twice c.ends.ensures.to
    ∙ sym (split_as.to id (even_of id c.if-a-eq0.true) (sym (same_ids p shown (half id)) ∙ at))

pub returns-clause-from : goal.returns-clause-from
returns-clause-from g c =
    let s = c.args.self.now in
    let p = g.G.Shown.graph s.below in
    let shown = g.met.G.Shown.valid s.below in
    let below = g.met.G.Shown.below s.below in
    let bound = g.G.Shown.bound s.below in
    let id = c.args.a.0 in
    let split_as = is_split p shown.nodes_differ in
    let at = sym (split_odd p id (odd_of id c.if-a-eq0.false)) ∙ c.requires in
    sym (split_as.bind_source id (odd_of id c.if-a-eq0.false) at)

pub returns-clause-to : goal.returns-clause-to
returns-clause-to g c =
    let s = c.args.self.now in
    let p = g.G.Shown.graph s.below in
    let shown = g.met.G.Shown.valid s.below in
    let below = g.met.G.Shown.below s.below in
    let bound = g.G.Shown.bound s.below in
    let id = c.args.a.0 in
    let split_as = is_split p shown.nodes_differ in
    let at = sym (split_odd p id (odd_of id c.if-a-eq0.false)) ∙ c.requires in
    sym (split_as.bind_target id (odd_of id c.if-a-eq0.false) at)
