use Rattle.std.proofs.Common.{◌≡◌, ℕ, Bool, true, filter, length}
use Rattle.std.specs.Prelude.{IfSome, option_map}
use Rattle.plain_digraph.specs.Lists.{has, first, ahead}
use Rattle.plain_views.specs.Shown.{arc_of, out_ids}
use Rattle.plain_views.specs.Adaptors.{is_kept}
use Rattle.view_adaptors.proofs.sub.Sub.skip_arcs.Given as goal

abbrev pub invariant-loop-at : goal.invariant-loop-at
invariant-loop-at g l =
    let p = g.G.Shown.graph l.self.below in
    let xs = out_ids p l.fn.v.0 in
    let k : ℕ → Bool = λ id.
    is_kept (g.F.Filter.keeps_node l.self.filter) (g.F.Filter.keeps_arc l.self.filter)
    (arc_of p id) in
    record {
      on : IfSome l.at (λ a. has xs a.0 ≡ true);
      same : first (filter k (ahead xs (option_map (λ a. a.0) l.at)))
          ≡ first (filter k (ahead xs (option_map (λ a. a.0) l.fn.from)));
    }

abbrev pub decreases-loop-at : goal.decreases-loop-at
decreases-loop-at g l =
    let p = g.G.Shown.graph l.self.below in
    let xs = out_ids p l.fn.v.0 in
    let k : ℕ → Bool = λ id.
    is_kept (g.F.Filter.keeps_node l.self.filter) (g.F.Filter.keeps_arc l.self.filter)
    (arc_of p id) in
    length (ahead xs (option_map (λ a. a.0) l.at))
