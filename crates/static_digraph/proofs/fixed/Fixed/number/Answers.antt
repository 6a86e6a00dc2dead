use Rattle.std.proofs.Common.{◌<◌, length, All, sym, ◌∙◌, subst}
use Rattle.static_digraph.specs.Places.{IsTable}
use Rattle.static_digraph.proofs.Numbered.{ends_are, ends_inside, kept_from, fixed_is}
use Rattle.static_digraph.proofs.fixed.Fixed.number.Goals as goal

pub number_ends-requires : goal.number_ends-requires
number_ends-requires c =
    let told = subst (IsTable c.args.nodes.now) (sym c.deref.ensures.value) c.in_ok-table.ensures in
    λ k d l. ((told _ (c.requires.ends k d l).0).0, (told _ (c.requires.ends k d l).1).0)

pub rows_by-requires-clause-nodes : goal.rows_by-requires-clause-nodes
rows_by-requires-clause-nodes c =
    let nodes = c.args.nodes.now in
    let arcs = c.args.arcs.now in
    let is = ends_are nodes c.in_ok-table.table.items (λ fact. fact.from) c.deref.result.now arcs
    c.in_ok-items.field-0.from.items c.in_ok-table.ensures c.deref.ensures.value
    (λ k d l. (c.requires.ends k d l).0) c.in_ok-items.ensures.from in
    subst (All (λ node. node < length nodes)) (sym (c.deref-2.ensures.value ∙ is))
    (ends_inside nodes nodes (λ fact. fact.from) arcs (λ k d l. (c.requires.ends k d l).0))

pub rows_by-requires-2-clause-nodes : goal.rows_by-requires-2-clause-nodes
rows_by-requires-2-clause-nodes c =
    let nodes = c.args.nodes.now in
    let arcs = c.args.arcs.now in
    let is = ends_are nodes c.in_ok-table.table.items (λ fact. fact.to) c.deref.result.now arcs
    c.in_ok-items.field-0.to.items c.in_ok-table.ensures c.deref.ensures.value
    (λ k d l. (c.requires.ends k d l).1) c.in_ok-items.ensures.to in
    subst (All (λ node. node < length nodes)) (sym (c.deref-3.ensures.value ∙ is))
    (ends_inside nodes nodes (λ fact. fact.to) arcs (λ k d l. (c.requires.ends k d l).1))

pub invariant_of-result : goal.invariant_of-result
invariant_of-result c =
    kept_from c.args.nodes.now c.args.arcs.now
    (record {
      nodes = c.in_ok-nodes.nodes.items;
      arcs = c.in_ok-items.field-0.items.items;
      from = c.in_ok-items.field-0.from.items;
      to = c.in_ok-items.field-0.to.items;
    }) c.deref-2.result.now c.deref-3.result.now
    _ _ c.requires.few_nodes c.requires.few_arcs c.requires.ends
    (fixed_is c.args.nodes.now c.in_ok-table.table.items c.deref.result.now c.args.arcs.now _
    c.in_ok-table.ensures c.deref.ensures.value c.requires.ends c.in_ok-nodes.ensures.items
    c.in_ok-items.ensures.items c.in_ok-items.ensures.from c.in_ok-items.ensures.to)
    c.deref-2.ensures.value c.deref-3.ensures.value c.in_ok-out.ensures c.in_ok-into.ensures

pub returns : goal.returns
returns c =
    fixed_is c.args.nodes.now c.in_ok-table.table.items c.deref.result.now c.args.arcs.now _
    c.in_ok-table.ensures c.deref.ensures.value c.requires.ends c.in_ok-nodes.ensures.items
    c.in_ok-items.ensures.items c.in_ok-items.ensures.from c.in_ok-items.ensures.to
