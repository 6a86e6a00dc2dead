use Rattle.std.proofs.lemmas.List.Sorted.{IsPermutation-map}
use Rattle.path_search.proofs.Least.{least_key}
use Rattle.path_search.proofs.queue.Queue.pop.Goals as goal

pub returns-clause-some : goal.returns-clause-some
returns-clause-some c = IsPermutation-map (λ x. x.0) _ _ c.in_ok-top.ensures.permutation

pub returns-clause-least : goal.returns-clause-least
returns-clause-least c =
    least_key c.in_ok-top.field-0 _ (c.in_ok-top.ensures.below_top c.args.self.now.ordered)
