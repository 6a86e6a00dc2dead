-- The endless cycle of a run: its arcs can be climbed to, and from its least arc on it is free.
use Rattle.std.proofs.Common.{◌≡◌, ℕ, ◌<◌, ◌≤◌, ◌^◌, ℤ, pos, List, length, Some}
use Rattle.std.proofs.Common.{sym, ◌∙◌, subst, arith}
use Rattle.std.proofs.lemmas.Int.{ints}
use Rattle.pivot_flow.specs.Tree.{ComesTo, ends_at, task_of, tree_of}
use Rattle.pivot_flow.specs.declared.pivots.Endless.{Endless}
use Rattle.plain_certificates.specs.Numbered.{Numbered}
use Rattle.plain_certificates.specs.Tables.{at}
use Rattle.net_simplex.proofs.Climbed.{hangs_in}
use Rattle.net_simplex.proofs.Endlessly.{met_arc, met_from, met_round, met_to}
use Rattle.net_simplex.proofs.Frees.{endless_is_free, none_endless}
use Rattle.pace_search.specs.Turns.{BeginsLeast}
use Rattle.net_simplex.specs.Cycles.{HangsIn, round_of}
use Rattle.task_bounds.specs.Answers.{IsFree}
use Rattle.net_simplex.specs.Network.{IsWeighed}
use Rattle.net_simplex.specs.Solved.{IsSolved}
use Rattle.net_simplex.specs.declared.solved.Solved.{Solved}

module _ (g : Numbered) (excess : ℕ → ℤ) (cap : List ℕ) (cost : List ℤ) (run : Solved)
    (is : IsSolved g excess cap cost run) where
  nodes_are : is.count ≡ length run.tree.parent.items
  nodes_are = is.count_is ∙ sym is.parent_all

  pub hung : HangsIn (length run.tree.parent.items)
      (tree_of run.tree.parent.items run.tree.arc.items run.tree.depth.items)
  hung = subst (λ n. HangsIn n
      (tree_of run.tree.parent.items run.tree.arc.items run.tree.depth.items)) nodes_are
      (hangs_in (task_of is.count run.flow.ends.items cap)
      (tree_of run.tree.parent.items run.tree.arc.items run.tree.depth.items)
      is.last.running.state.hung)

  module _ (x : Endless) (some : run.endless ≡ Some x) where
    pub inside : x.entering.arc < length run.flow.ends.items
    inside = met_arc g excess (task_of is.count run.flow.ends.items cap) (at (pos 0) cost)
        (tree_of run.tree.parent.items run.tree.arc.items run.tree.depth.items)
        (at 0 run.flow.sent.items) (at (pos 0) run.flow.price.items) run.endless is.last x some

    pub from_climbs : let end = ends_at run.flow.ends.items x.entering.arc in
        (end.from < length run.tree.parent.items)
        × ComesTo (tree_of run.tree.parent.items run.tree.arc.items run.tree.depth.items) end.from
        x.found.apex
    from_climbs = (
      (let node = (is.last.ends x.entering.arc inside).0 in
          let count = nodes_are in
          omega (arith, node, count)),
      met_from g excess (task_of is.count run.flow.ends.items cap) (at (pos 0) cost)
          (tree_of run.tree.parent.items run.tree.arc.items run.tree.depth.items)
          (at 0 run.flow.sent.items) (at (pos 0) run.flow.price.items) run.endless is.last x some,
    )

    pub to_climbs : let end = ends_at run.flow.ends.items x.entering.arc in
        (end.to < length run.tree.parent.items)
        × ComesTo (tree_of run.tree.parent.items run.tree.arc.items run.tree.depth.items) end.to
        x.found.apex
    to_climbs = (
      (let node = (is.last.ends x.entering.arc inside).1 in
          let count = nodes_are in
          omega (arith, node, count)),
      met_to g excess (task_of is.count run.flow.ends.items cap) (at (pos 0) cost)
          (tree_of run.tree.parent.items run.tree.arc.items run.tree.depth.items)
          (at 0 run.flow.sent.items) (at (pos 0) run.flow.price.items) run.endless is.last x some,
    )

    -- from its least arc on the cycle is free
    pub is_free : (turned : List ℕ) → IsWeighed g (at (pos 0) cost) → g.nodes ≤ 2 ^ 20
        → (let end = ends_at run.flow.ends.items x.entering.arc in
        BeginsLeast (round_of
        (tree_of run.tree.parent.items run.tree.arc.items run.tree.depth.items) x.found.apex
        end.from
        x.entering.arc end.to) turned)
        → IsFree g (at 0 cap) (at (pos 0) cost) turned
    is_free turned weighed few begins =
        let t = task_of is.count run.flow.ends.items cap in
        let h = tree_of run.tree.parent.items run.tree.arc.items run.tree.depth.items in
        endless_is_free g t (at (pos 0) cost) x.found.apex g.nodes
        (round_of h x.found.apex (t.net.from x.entering.arc) x.entering.arc
        (t.net.to x.entering.arc))
        turned is.last.rooted weighed few
        (met_round g excess t (at (pos 0) cost) h (at 0 run.flow.sent.items)
        (at (pos 0) run.flow.price.items) run.endless is.last x some)
        begins

    -- where no arc of the digraph costs anything there is none
    pub none_free : IsWeighed g (at (pos 0) cost)
        → ((k : ℕ) → k < g.arcs → at (pos 0) cost k ≡ pos 0) → ⊥
    none_free weighed zero =
        let t = task_of is.count run.flow.ends.items cap in
        let h = tree_of run.tree.parent.items run.tree.arc.items run.tree.depth.items in
        none_endless g t (at (pos 0) cost) is.last.rooted weighed x.found.apex g.nodes
        (round_of h x.found.apex (t.net.from x.entering.arc) x.entering.arc
        (t.net.to x.entering.arc))
        (λ k l. (let none = zero k l in omega (arith, ints, none)))
        (met_round g excess t (at (pos 0) cost) h (at 0 run.flow.sent.items)
        (at (pos 0) run.flow.price.items) run.endless is.last x some)
