use Rattle.std.proofs.Common.{◌<◌, ◌^◌, Some, None, sym, ◌∙◌, ap}
use Rattle.std.specs.Prelude.{option_map}
use Rattle.plain_digraph.specs.Lists.{first}
use Rattle.plain_views.specs.Shown.{out_ids, in_ids, source_of, target_of, next_in}
use Rattle.plain_views.specs.Adaptors.{half, first_both}
use Rattle.plain_views.proofs.Walks.{has-first, has-after}
use Rattle.plain_views.proofs.Sides.{source_shown}
use Rattle.plain_views.proofs.Adapted.{undirected_has_arc}
use Rattle.plain_views.proofs.Walked as walked
use Rattle.view_adaptors.proofs.Places.{at_arc, out_small, in_small, even_of, odd_of}
use Rattle.view_adaptors.proofs.undirect.Undirect.next_along.Goals as goal

pub next_out-requires : goal.next_out-requires
next_out-requires g c =
    let s = c.args.self.now in
    let p = g.G.Shown.graph s.below in
    let shown = g.met.G.Shown.valid s.below in
    let below = g.met.G.Shown.below s.below in
    let bound = g.G.Shown.bound s.below in
    let id = c.args.a.0 in
    let at = sym (undirected_has_arc p shown id) ∙ c.requires in
    let v = source_of p (half id) in
    let w = target_of p (half id) in
    at

pub forth-requires : goal.forth-requires
forth-requires g c =
    let s = c.args.self.now in
    let p = g.G.Shown.graph s.below in
    let shown = g.met.G.Shown.valid s.below in
    let below = g.met.G.Shown.below s.below in
    let bound = g.G.Shown.bound s.below in
    let id = c.args.a.0 in
    let at = sym (undirected_has_arc p shown id) ∙ c.requires in
    let v = source_of p (half id) in
    let w = target_of p (half id) in
    out_small p bound below s.small v c.in-Some.next.0
    (has-after (out_ids p v) (half id) c.in-Some.next.0
    (sym c.next_out.ensures ∙ ap (option_map (λ a. a.0)) c.in-Some.is))

pub ends-requires : goal.ends-requires
ends-requires g c =
    let s = c.args.self.now in
    let p = g.G.Shown.graph s.below in
    let shown = g.met.G.Shown.valid s.below in
    let below = g.met.G.Shown.below s.below in
    let bound = g.G.Shown.bound s.below in
    let id = c.args.a.0 in
    let at = sym (undirected_has_arc p shown id) ∙ c.requires in
    let v = source_of p (half id) in
    let w = target_of p (half id) in
    at

pub first_in-requires : goal.first_in-requires
first_in-requires g c =
    let s = c.args.self.now in
    let p = g.G.Shown.graph s.below in
    let shown = g.met.G.Shown.valid s.below in
    let below = g.met.G.Shown.below s.below in
    let bound = g.G.Shown.bound s.below in
    let id = c.args.a.0 in
    let at = sym (undirected_has_arc p shown id) ∙ c.requires in
    let v = source_of p (half id) in
    let w = target_of p (half id) in
    rw c.ends.ensures.from (source_shown p (half id) shown at)

pub back-requires : goal.back-requires
back-requires g c =
    let s = c.args.self.now in
    let p = g.G.Shown.graph s.below in
    let shown = g.met.G.Shown.valid s.below in
    let below = g.met.G.Shown.below s.below in
    let bound = g.G.Shown.bound s.below in
    let id = c.args.a.0 in
    let at = sym (undirected_has_arc p shown id) ∙ c.requires in
    let v = source_of p (half id) in
    let w = target_of p (half id) in
    at_arc (λ id. id < 2 ^ 30) c.first_in.result (first (in_ids p c.ends.result.0.0))
    c.first_in.ensures
    (λ id e. in_small p bound below s.small shown c.ends.result.0.0 id
    (has-first (in_ids p c.ends.result.0.0) id e))

pub next_in-requires : goal.next_in-requires
next_in-requires g c =
    let s = c.args.self.now in
    let p = g.G.Shown.graph s.below in
    let shown = g.met.G.Shown.valid s.below in
    let below = g.met.G.Shown.below s.below in
    let bound = g.G.Shown.bound s.below in
    let id = c.args.a.0 in
    let at = sym (undirected_has_arc p shown id) ∙ c.requires in
    let v = source_of p (half id) in
    let w = target_of p (half id) in
    at

pub back-requires-else-a-eq0 : goal.back-requires-else-a-eq0
back-requires-else-a-eq0 g c =
    let s = c.args.self.now in
    let p = g.G.Shown.graph s.below in
    let shown = g.met.G.Shown.valid s.below in
    let below = g.met.G.Shown.below s.below in
    let bound = g.G.Shown.bound s.below in
    let id = c.args.a.0 in
    let at = sym (undirected_has_arc p shown id) ∙ c.requires in
    let v = source_of p (half id) in
    let w = target_of p (half id) in
    at_arc (λ id. id < 2 ^ 30) c.next_in.result (next_in p (half id)) c.next_in.ensures
    (λ other e. in_small p bound below s.small shown w other
    (has-after (in_ids p w) (half id) other e))

pub returns-in-Some : goal.returns-in-Some
returns-in-Some g c =
    let s = c.args.self.now in
    let p = g.G.Shown.graph s.below in
    let shown = g.met.G.Shown.valid s.below in
    let below = g.met.G.Shown.below s.below in
    let bound = g.G.Shown.bound s.below in
    let id = c.args.a.0 in
    let at = sym (undirected_has_arc p shown id) ∙ c.requires in
    let v = source_of p (half id) in
    let w = target_of p (half id) in
    let one = sym c.next_out.ensures ∙ ap (option_map (λ a. a.0)) c.in-Some.is in
    ap Some c.forth.ensures
    ∙ sym (walked.next_out-even p shown id (even_of id c.if-a-eq0.true) at
    ∙ ap (λ o. first_both o (first (in_ids p v))) one)

pub returns-in-None : goal.returns-in-None
returns-in-None g c =
    let s = c.args.self.now in
    let p = g.G.Shown.graph s.below in
    let shown = g.met.G.Shown.valid s.below in
    let below = g.met.G.Shown.below s.below in
    let bound = g.G.Shown.bound s.below in
    let id = c.args.a.0 in
    let at = sym (undirected_has_arc p shown id) ∙ c.requires in
    let v = source_of p (half id) in
    let w = target_of p (half id) in
    let none = sym c.next_out.ensures ∙ ap (option_map (λ a. a.0)) c.in-None.is in
    c.back.ensures
    ∙ (ap (first_both None) (c.first_in.ensures ∙ ap (λ u. first (in_ids p u)) c.ends.ensures.from)
    ∙ sym (walked.next_out-even p shown id (even_of id c.if-a-eq0.true) at
    ∙ ap (λ o. first_both o (first (in_ids p v))) none))

pub returns-else-a-eq0 : goal.returns-else-a-eq0
returns-else-a-eq0 g c =
    let s = c.args.self.now in
    let p = g.G.Shown.graph s.below in
    let shown = g.met.G.Shown.valid s.below in
    let below = g.met.G.Shown.below s.below in
    let bound = g.G.Shown.bound s.below in
    let id = c.args.a.0 in
    let at = sym (undirected_has_arc p shown id) ∙ c.requires in
    let v = source_of p (half id) in
    let w = target_of p (half id) in
    c.back-else-a-eq0.ensures
    ∙ (ap (first_both None) c.next_in.ensures
    ∙ sym (walked.next_out-odd p shown id (odd_of id c.if-a-eq0.false) at))
