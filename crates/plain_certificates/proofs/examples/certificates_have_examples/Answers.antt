use Rattle.plain_certificates.proofs.ExampleProofs as holds
use Rattle.plain_certificates.proofs.examples.certificates_have_examples.Goals as goal

pub returns : goal.returns
returns c = record {
  paths = holds.paths_along_line;
  cycle = holds.negative_round;
  cut = holds.cut_of_line;
  over = holds.too_much_on_line;
  under = holds.too_little_on_line;
  optimal = holds.optimal_on_line;
  basic = holds.basic_round;
  free_cycle = holds.free_round;
  pairing = holds.pair_on_line;
  heaviest = holds.heaviest_on_line;
  assigned = holds.assigned_on_line;
  short = holds.short_fork;
  mean = holds.mean_round;
  acyclic = holds.line_in_order;
}
