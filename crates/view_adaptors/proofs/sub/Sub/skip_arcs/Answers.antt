use Rattle.std.proofs.Common.{◌≡◌, ℕ, Bool, true, refl, sym, ◌∙◌, ap}
use Rattle.std.specs.Prelude.{option_map}
use Rattle.plain_digraph.specs.Lists.{has, after}
use Rattle.plain_views.specs.Shown.{arc_of, source, out_ids}
use Rattle.plain_views.specs.Adaptors.{is_kept}
use Rattle.plain_views.proofs.Walks.{turn, has-after}
use Rattle.plain_views.proofs.Sides.{has-ids_at, once-ids_at, end_at}
use Rattle.view_adaptors.proofs.Places.{at_arc}
use Rattle.view_adaptors.proofs.sub.Sub.skip_arcs.Goals as goal

pub keeps-requires : goal.keeps-requires
keeps-requires g c =
    let s = c.args.self.now in
    let p = g.G.Shown.graph s.below in
    let shown = g.met.G.Shown.valid s.below in
    let v = c.args.v.0 in
    let xs = out_ids p v in
    let k : ℕ → Bool = λ id.
    is_kept (g.F.Filter.keeps_node s.filter) (g.F.Filter.keeps_arc s.filter) (arc_of p id) in
    let at = c.in-Some.a.0 in
    let on : has xs at ≡ true = rw c.in-Some.is at c.loop-at.invariant.on in
    let once = once-ids_at source p.by_source v shown.sources_differ in
    has-ids_at source p.by_source v at on

pub next_out-at-requires : goal.next_out-at-requires
next_out-at-requires g c =
    let s = c.args.self.now in
    let p = g.G.Shown.graph s.below in
    let shown = g.met.G.Shown.valid s.below in
    let v = c.args.v.0 in
    let xs = out_ids p v in
    let k : ℕ → Bool = λ id.
    is_kept (g.F.Filter.keeps_node s.filter) (g.F.Filter.keeps_arc s.filter) (arc_of p id) in
    let at = c.in-Some.a.0 in
    let on : has xs at ≡ true = rw c.in-Some.is at c.loop-at.invariant.on in
    let once = once-ids_at source p.by_source v shown.sources_differ in
    has-ids_at source p.by_source v at on

pub returns-then-keeps : goal.returns-then-keeps
returns-then-keeps g c =
    let s = c.args.self.now in
    let p = g.G.Shown.graph s.below in
    let shown = g.met.G.Shown.valid s.below in
    let v = c.args.v.0 in
    let xs = out_ids p v in
    let k : ℕ → Bool = λ id.
    is_kept (g.F.Filter.keeps_node s.filter) (g.F.Filter.keeps_arc s.filter) (arc_of p id) in
    let at = c.in-Some.a.0 in
    let on : has xs at ≡ true = rw c.in-Some.is at c.loop-at.invariant.on in
    let once = once-ids_at source p.by_source v shown.sources_differ in
    sym ((turn k xs at (after xs at) once on refl).stop (sym c.keeps.ensures ∙ c.if-keeps.true))
    ∙ (rw c.in-Some.is at c.loop-at.invariant.same)

pub loop-at-smaller : goal.loop-at-smaller
loop-at-smaller g c =
    let s = c.args.self.now in
    let p = g.G.Shown.graph s.below in
    let shown = g.met.G.Shown.valid s.below in
    let v = c.args.v.0 in
    let xs = out_ids p v in
    let k : ℕ → Bool = λ id.
    is_kept (g.F.Filter.keeps_node s.filter) (g.F.Filter.keeps_arc s.filter) (arc_of p id) in
    let at = c.in-Some.a.0 in
    let on : has xs at ≡ true = rw c.in-Some.is at c.loop-at.invariant.on in
    let once = once-ids_at source p.by_source v shown.sources_differ in
    let next = c.next_out-at.ensures
    ∙ ap (λ w. after (out_ids p w) at)
    (end_at source p.by_source v at shown.sources_differ on) in
    let t = turn k xs at (option_map (λ a. a.0) c.next_out-at.result) once on next in
    rw c.in-Some.is t.less

pub loop-at-preserved : goal.loop-at-preserved
loop-at-preserved g c =
    let s = c.args.self.now in
    let p = g.G.Shown.graph s.below in
    let shown = g.met.G.Shown.valid s.below in
    let v = c.args.v.0 in
    let xs = out_ids p v in
    let k : ℕ → Bool = λ id.
    is_kept (g.F.Filter.keeps_node s.filter) (g.F.Filter.keeps_arc s.filter) (arc_of p id) in
    let at = c.in-Some.a.0 in
    let on : has xs at ≡ true = rw c.in-Some.is at c.loop-at.invariant.on in
    let once = once-ids_at source p.by_source v shown.sources_differ in
    let next = c.next_out-at.ensures
    ∙ ap (λ w. after (out_ids p w) at)
    (end_at source p.by_source v at shown.sources_differ on) in
    let t = turn k xs at (option_map (λ a. a.0) c.next_out-at.result) once on next in
    record {
      on = at_arc (λ id. has xs id ≡ true) c.next_out-at.result (after xs at) next
          (has-after xs at);
      same = t.go (sym c.keeps.ensures ∙ c.if-keeps.false)
          ∙ (rw c.in-Some.is at c.loop-at.invariant.same);
    }
