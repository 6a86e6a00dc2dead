use Rattle.std.proofs.Common.{◌<◌, ◌^◌, Some, None, sym, ◌∙◌, ap}
use Rattle.std.specs.Prelude.{option_map}
use Rattle.plain_digraph.specs.Lists.{first}
use Rattle.plain_views.specs.Shown.{out_ids, in_ids}
use Rattle.plain_views.specs.Adaptors.{first_both}
use Rattle.plain_views.proofs.Walks.{has-first}
use Rattle.plain_views.proofs.Walked as walked
use Rattle.view_adaptors.proofs.Places.{at_arc, out_small, in_small}
use Rattle.view_adaptors.proofs.undirect.Undirect.first_along.Goals as goal

pub forth-requires : goal.forth-requires
forth-requires g c =
    let s = c.args.self.now in
    let p = g.G.Shown.graph s.below in
    let shown = g.met.G.Shown.valid s.below in
    let below = g.met.G.Shown.below s.below in
    let bound = g.G.Shown.bound s.below in
    let v = c.args.n.0 in
    out_small p bound below s.small v c.in-Some.a.0
    (has-first (out_ids p v) c.in-Some.a.0
    (sym c.first_out.ensures ∙ ap (option_map (λ a. a.0)) c.in-Some.is))

pub back-requires : goal.back-requires
back-requires g c =
    let s = c.args.self.now in
    let p = g.G.Shown.graph s.below in
    let shown = g.met.G.Shown.valid s.below in
    let below = g.met.G.Shown.below s.below in
    let bound = g.G.Shown.bound s.below in
    let v = c.args.n.0 in
    at_arc (λ id. id < 2 ^ 30) c.first_in.result (first (in_ids p v)) c.first_in.ensures
    (λ id e. in_small p bound below s.small shown v id (has-first (in_ids p v) id e))

pub returns-in-Some : goal.returns-in-Some
returns-in-Some g c =
    let s = c.args.self.now in
    let p = g.G.Shown.graph s.below in
    let shown = g.met.G.Shown.valid s.below in
    let below = g.met.G.Shown.below s.below in
    let bound = g.G.Shown.bound s.below in
    let v = c.args.n.0 in
    let one = sym c.first_out.ensures ∙ ap (option_map (λ a. a.0)) c.in-Some.is in
    ap Some c.forth.ensures
    ∙ sym (walked.first_out-undirected p v ∙ ap (λ o. first_both o (first (in_ids p v))) one)

pub returns-in-None : goal.returns-in-None
returns-in-None g c =
    let s = c.args.self.now in
    let p = g.G.Shown.graph s.below in
    let shown = g.met.G.Shown.valid s.below in
    let below = g.met.G.Shown.below s.below in
    let bound = g.G.Shown.bound s.below in
    let v = c.args.n.0 in
    let none = sym c.first_out.ensures ∙ ap (option_map (λ a. a.0)) c.in-None.is in
    c.back.ensures
    ∙ (ap (first_both None) c.first_in.ensures
    ∙ sym (walked.first_out-undirected p v ∙ ap (λ o. first_both o (first (in_ids p v))) none))
