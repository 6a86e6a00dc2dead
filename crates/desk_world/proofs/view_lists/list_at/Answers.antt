use Rattle.std.proofs.Common.{◌≡◌, ap, ◌∙◌, map, option_map, refl, sym, subst}
use Rattle.plain_digraph.specs.Lists.{after}
use Rattle.view_numbers.specs.Listed.{IsWalking, fact_at}
use Rattle.view_numbers.proofs.Walking.{walk_ends, ahead_shorter}
use Rattle.desk_world.specs.Shown.{ids_at}
use Rattle.desk_world.proofs.ArcsAt.{at_facts, at_differ, at_there, listed_more}
use Rattle.desk_world.proofs.view_lists.list_at.Goals as goal

pub ends-requires : goal.ends-requires
ends-requires g c =
    let p = g.G.Shown.graph c.args.g.now in
    let shown = g.met.G.Shown.valid c.args.g.now in
    let walking = subst (λ next. IsWalking (ids_at c.args.way p c.args.node)
    (map (λ f. f.id) c.arcs.arcs.items) (option_map (λ a. a.0) next)) c.in-Some.is
    c.arcs.invariant.walking in
    (at_there p shown c.args.way c.args.node c.in-Some.a.0 (walking.there c.in-Some.a.0 refl)).0

pub next_at-next-requires : goal.next_at-next-requires
next_at-next-requires g c =
    let p = g.G.Shown.graph c.args.g.now in
    let shown = g.met.G.Shown.valid c.args.g.now in
    let walking = subst (λ next. IsWalking (ids_at c.args.way p c.args.node)
    (map (λ f. f.id) c.arcs.arcs.items) (option_map (λ a. a.0) next)) c.in-Some.is
    c.arcs.invariant.walking in
    (at_there p shown c.args.way c.args.node c.in-Some.a.0 (walking.there c.in-Some.a.0 refl)).0

pub arcs-smaller : goal.arcs-smaller
arcs-smaller g c =
    let p = g.G.Shown.graph c.args.g.now in
    let shown = g.met.G.Shown.valid c.args.g.now in
    let id = c.in-Some.a.0 in
    let ids = ids_at c.args.way p c.args.node in
    let walking = subst (λ next. IsWalking ids (map (λ f. f.id) c.arcs.arcs.items)
    (option_map (λ a. a.0) next)) c.in-Some.is c.arcs.invariant.walking in
    let there = walking.there id refl in
    let next : option_map (λ a. a.0) c.next_at-next.result ≡ after ids id =
    c.next_at-next.ensures ∙ (at_there p shown c.args.way c.args.node id there).1 in
    rw (c.in-Some.is, next) (ahead_shorter ids id (at_differ p shown c.args.way c.args.node) there)

pub arcs-preserved : goal.arcs-preserved
arcs-preserved g c =
    let p = g.G.Shown.graph c.args.g.now in
    let shown = g.met.G.Shown.valid c.args.g.now in
    let id = c.in-Some.a.0 in
    let met = c.arcs.arcs.items in
    let ids = ids_at c.args.way p c.args.node in
    let walking = subst (λ next. IsWalking ids (map (λ f. f.id) met) (option_map (λ a. a.0) next))
    c.in-Some.is c.arcs.invariant.walking in
    let there = walking.there id refl in
    let next : option_map (λ a. a.0) c.next_at-next.result ≡ after ids id =
    c.next_at-next.ensures ∙ (at_there p shown c.args.way c.args.node id there).1 in
    let more = listed_more p shown c.args.way c.args.node met id walking c.arcs.invariant.facts in
    rw (c.in_ok-push.ensures.items, next, c.ends.ensures.from, c.ends.ensures.to) (record {
      walking = more.0;
      facts = more.1;
    })

pub returns : goal.returns
returns g c =
    let p = g.G.Shown.graph c.args.g.now in
    let shown = g.met.G.Shown.valid c.args.g.now in
    let met = c.arcs.arcs.items in
    let ids = ids_at c.args.way p c.args.node in
    let walking = subst (λ next. IsWalking ids (map (λ f. f.id) met) (option_map (λ a. a.0) next))
    c.in_default.is c.arcs.invariant.walking in
    c.arcs.invariant.facts
    ∙ ap (map (fact_at p)) (walk_ends ids (map (λ f. f.id) met) walking)
    ∙ sym (at_facts p shown c.args.way c.args.node)
