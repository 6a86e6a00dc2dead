use Rattle.std.proofs.lemmas.List.Sorted.{IsPermutation-map}
use Rattle.path_search.proofs.queue.Queue.push.Goals as goal

pub returns-clause-ok : goal.returns-clause-ok
returns-clause-ok c = IsPermutation-map (λ x. x.0) _ _ c.in_ok-push.ensures.permutation
