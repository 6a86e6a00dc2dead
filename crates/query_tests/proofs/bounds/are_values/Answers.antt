use Rattle.query_tests.proofs.bounds.are_values.Goals as goal

pub returns : goal.returns
returns c is = λ i d l. (c.are_within.ensures.low is i d l, c.are_within.ensures.high is i d l)
