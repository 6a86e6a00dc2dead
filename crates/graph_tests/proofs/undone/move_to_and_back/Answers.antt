use Rattle.std.proofs.Common.{◌∙◌, sym, inl, inr}
use Rattle.graph_tests.proofs.Back.{back}
use Rattle.graph_tests.proofs.undone.move_to_and_back.Goals as goal

pub put_back-requires-clause-before : goal.put_back-requires-clause-before
put_back-requires-clause-before c =
    (back c.args.graph.now.graph c.move_to-new.new.self.graph c.args.arc c.in_ok-old.old
    c.count-count.ensures.valid
    (sym c.fact.ensures ∙ c.in_ok-old.was) (inr (inl (
      c.args.node,
      sym
          c.move_to-new.ensures.moved,
    )))).valid

pub put_back-requires-clause-moved : goal.put_back-requires-clause-moved
put_back-requires-clause-moved c =
    (back c.args.graph.now.graph c.move_to-new.new.self.graph c.args.arc c.in_ok-old.old
    c.count-count.ensures.valid
    (sym c.fact.ensures ∙ c.in_ok-old.was) (inr (inl (
      c.args.node,
      sym
          c.move_to-new.ensures.moved,
    )))).moves

pub returns : goal.returns
returns c = record {
  same = c.put_back.ensures.undone
      ∙ (back c.args.graph.now.graph c.move_to-new.new.self.graph c.args.arc c.in_ok-old.old
      c.count-count.ensures.valid
      (sym c.fact.ensures ∙ c.in_ok-old.was) (inr (inl (
        c.args.node,
        sym
            c.move_to-new.ensures.moved,
      )))).same;
}
