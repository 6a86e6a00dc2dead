use Rattle.std.proofs.Common.{◌∙◌, sym}
use Rattle.base_items.specs.declared.items.ItemSort.TheVariants as sorts
use Rattle.graph_tests.proofs.Back.{taken_back, taken_valid, taken_adds}
use Rattle.graph_tests.proofs.undone.add_node_and_back.Goals as goal

pub take_back-requires-clause-before : goal.take_back-requires-clause-before
take_back-requires-clause-before c =
    taken_valid c.args.graph.now.graph c.add_node.new.self.graph sorts.Node c.in-Ok.fact
    c.used-used.result
    c.count-count.ensures.valid c.used-used.ensures (
      sym c.in-Ok.ensures.added,
      c.in-Ok.ensures.fact,
    )

pub take_back-requires-clause-added : goal.take_back-requires-clause-added
take_back-requires-clause-added c =
    taken_adds c.args.graph.now.graph c.add_node.new.self.graph sorts.Node c.in-Ok.fact
    c.used-used.result
    c.count-count.ensures.valid c.used-used.ensures (
      sym c.in-Ok.ensures.added,
      c.in-Ok.ensures.fact,
    )

pub returns : goal.returns
returns c = record {
  same = c.take_back.ensures.undone
      ∙ taken_back c.args.graph.now.graph c.add_node.new.self.graph sorts.Node c.in-Ok.fact
      c.used-used.result
      c.count-count.ensures.valid c.used-used.ensures (
        sym c.in-Ok.ensures.added,
        c.in-Ok.ensures.fact,
      );
}
