use Rattle.std.proofs.Common.{ap}
use Rattle.std.specs.Option.{option_map}
use Rattle.plain_certificates.specs.Tables.{at}
use Rattle.static_digraph.specs.Fixed.{graph_of}
use Rattle.path_search.proofs.SignedFound.{cycle_found, signed_answer}
use Rattle.path_search.proofs.signed_search.search.Goals as goal

pub returns-in-Some : goal.returns-in-Some
returns-in-Some c =
    λ len shifted. rw c.from_vec.ensures
    (cycle_found (graph_of c.args.g.now) len c.args.lens.now c.args.s (at 0 c.args.dist.now)
    c.settle.new.dist c.settle.new.via c.requires.ends c.requires.start
    c.requires.paced.few_nodes c.requires.all shifted c.requires.begins
    c.in_ok-round.ensures.left (option_map (λ round. round.items) c.in_ok-round.field-0)
    c.in-Some.round.items (ap (option_map (λ round. round.items)) c.in-Some.is)
    c.in_ok-round.ensures.ends)

pub returns-in_ok-signed_paths_of-in-None : goal.returns-in_ok-signed_paths_of-in-None
returns-in_ok-signed_paths_of-in-None c =
    λ len shifted. signed_answer (graph_of c.args.g.now) len c.args.lens.now c.args.s
    (at 0 c.args.dist.now) c.settle.new.dist c.settle.new.via c.requires.ends c.requires.start
    c.requires.paced.few_nodes c.requires.all shifted c.requires.begins
    c.in_ok-round.ensures.left c.in_ok-signed_paths_of-in-None.field-0.dist
    c.in_ok-signed_paths_of-in-None.field-0.via
    (option_map (λ round. round.items) c.in_ok-round.field-0)
    (ap (option_map (λ round. round.items)) c.in-None.is) c.requires.short
    c.in_ok-round.ensures.ends c.in_ok-signed_paths_of-in-None.ensures
