use Rattle.std.proofs.Common.{◌≡◌, ◌≤◌, ◌^◌, ◌∙◌, All, length, pos, ◌-ℤ◌, sym, ap, subst, arith}
use Rattle.std.proofs.Math.ListN.{set, replicate}
use Rattle.std.proofs.lemmas.List.{length-map}
use Rattle.plain_certificates.specs.Numbered.{Numbered}
use Rattle.static_digraph.specs.Fixed.{graph_of}
use Rattle.pace_search.specs.Tree.{far, origin, shift}
use Rattle.pace_search.proofs.Shown.{shifted_short}
use Rattle.path_search.proofs.RoundsBegun.{begins_at, begun_fresh}
use Rattle.path_search.proofs.signed_search.bellman.Goals as goal

pub search-requires-clause-short : goal.search-requires-clause-short
search-requires-clause-short c =
    subst (All (λ l. l ≤ 2 ^ 37)) (sym c.as_slice.ensures.value)
    (shifted_short (2 ^ 36) (2 ^ 37) c.args.len.now c.in_ok-lens.lens.items (omega arith)
    c.in_ok-lens.ensures c.requires.high)

module _ (c : goal.After-as_mut_slice-2) where
  abbrev g : Numbered
  g = graph_of c.args.g.now

  dist_is : c.as_mut_slice.result.now ≡ set (replicate g.nodes far) c.args.s origin
  dist_is = c.as_mut_slice.ensures.value
      ∙ ap (λ xs. set xs c.args.s origin)
      (c.in_ok-dist.ensures.items_if_clones_equal (λ y e. e)
      ∙ ap (λ m. replicate m far) c.node_count-nodes.ensures.count)

  via_is : c.as_mut_slice-2.result.now ≡ replicate g.nodes g.arcs
  via_is = c.as_mut_slice-2.ensures.value
      ∙ (c.in_ok-via.ensures.items_if_clones_equal (λ y e. e)
      ∙ (ap (λ m. replicate m c.arc_count-arcs.result) c.node_count-nodes.ensures.count
      ∙ ap (replicate g.nodes) c.arc_count-arcs.ensures.count))

  lens_all : length c.as_slice.result.now ≡ g.arcs
  lens_all = ap length c.as_slice.ensures.value
      ∙ (sym (length-map c.in_ok-lens.lens.items (λ x. pos x -ℤ pos shift))
      ∙ (ap length c.in_ok-lens.ensures ∙ c.requires.lengths))

pub search-requires-clause-begins : goal.search-requires-clause-begins
search-requires-clause-begins c =
    rw (dist_is c) (begins_at (graph_of c.args.g.now) c.args.s c.requires.start)

pub search-requires-clause-fresh : goal.search-requires-clause-fresh
search-requires-clause-fresh c =
    rw (lens_all c, dist_is c, via_is c)
    (begun_fresh (graph_of c.args.g.now) c.args.s c.requires.start)
