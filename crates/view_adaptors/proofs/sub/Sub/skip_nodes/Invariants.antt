use Rattle.std.proofs.Common.{◌≡◌, true, filter, length}
use Rattle.std.specs.Prelude.{IfSome, option_map}
use Rattle.plain_digraph.specs.Lists.{has, first, ahead}
use Rattle.view_adaptors.proofs.sub.Sub.skip_nodes.Given as goal

abbrev pub invariant-loop-at : goal.invariant-loop-at
invariant-loop-at g l =
    let nodes = (g.G.Shown.graph l.self.below).nodes in
    let k = g.F.Filter.keeps_node l.self.filter in
    record {
      on : IfSome l.at (λ n. has nodes n.0 ≡ true);
      same : first (filter k (ahead nodes (option_map (λ n. n.0) l.at)))
          ≡ first (filter k (ahead nodes (option_map (λ n. n.0) l.fn.from)));
    }

abbrev pub decreases-loop-at : goal.decreases-loop-at
decreases-loop-at g l =
    let nodes = (g.G.Shown.graph l.self.below).nodes in
    let k = g.F.Filter.keeps_node l.self.filter in
    length (ahead nodes (option_map (λ n. n.0) l.at))
