use Rattle.std.proofs.Common.{◌∙◌}
use Rattle.base_items.specs.declared.items.ItemSort.TheVariants as sorts
use Rattle.graph_tests.proofs.Back.{taken_back, taken_valid, taken_adds, adds_arc}
use Rattle.graph_tests.proofs.undone.add_arc_and_back.Goals as goal

pub take_back-requires-clause-before : goal.take_back-requires-clause-before
take_back-requires-clause-before c =
    taken_valid c.args.graph.now.graph c.add_arc.new.self.graph sorts.Arc c.in-Ok.fact
    c.used-used.result
    c.count-count.ensures.valid c.used-used.ensures (adds_arc c.args.graph.now.graph
    c.add_arc.new.self.graph c.args.from c.args.to c.in-Ok.fact
    c.in-Ok.ensures.added c.in-Ok.ensures.fact)

pub take_back-requires-clause-added : goal.take_back-requires-clause-added
take_back-requires-clause-added c =
    taken_adds c.args.graph.now.graph c.add_arc.new.self.graph sorts.Arc c.in-Ok.fact
    c.used-used.result
    c.count-count.ensures.valid c.used-used.ensures (adds_arc c.args.graph.now.graph
    c.add_arc.new.self.graph c.args.from c.args.to c.in-Ok.fact
    c.in-Ok.ensures.added c.in-Ok.ensures.fact)

pub returns : goal.returns
returns c = record {
  same = c.take_back.ensures.undone
      ∙ taken_back c.args.graph.now.graph c.add_arc.new.self.graph sorts.Arc c.in-Ok.fact
      c.used-used.result
      c.count-count.ensures.valid c.used-used.ensures (adds_arc c.args.graph.now.graph
      c.add_arc.new.self.graph c.args.from c.args.to c.in-Ok.fact
      c.in-Ok.ensures.added c.in-Ok.ensures.fact);
}
