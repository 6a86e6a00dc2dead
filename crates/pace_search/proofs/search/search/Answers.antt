use Rattle.std.proofs.Common.{ap}
use Rattle.std.specs.Option.{option_map}
use Rattle.static_digraph.specs.Fixed.{graph_of}
use Rattle.pace_search.proofs.Shown.{cycle_shown, settled_shown}
use Rattle.pace_search.proofs.search.search.Goals as goal

pub returns-in-Some : goal.returns-in-Some
returns-in-Some c =
    λ len shifted. cycle_shown (graph_of c.args.g.now) len c.args.lens.now c.args.dist.now
    c.settle.new.dist c.settle.new.via c.requires.ends c.requires.all c.requires.dists
    c.requires.from_0 shifted c.in_ok-round.ensures.left
    (option_map (λ round. round.items) c.in_ok-round.field-0) c.in-Some.round.items
    (ap (option_map (λ round. round.items)) c.in-Some.is) c.in_ok-round.ensures.ends

pub returns-in_ok-signed_distances-in-None : goal.returns-in_ok-signed_distances-in-None
returns-in_ok-signed_distances-in-None c =
    λ len shifted. settled_shown (graph_of c.args.g.now) len c.args.lens.now c.args.dist.now
    c.settle.new.dist c.settle.new.via c.requires.ends c.requires.all c.requires.dists
    c.requires.from_0 shifted c.in_ok-round.ensures.left
    (option_map (λ round. round.items) c.in_ok-round.field-0)
    c.in_ok-signed_distances-in-None.field-0.items
    (ap (option_map (λ round. round.items)) c.in-None.is) c.in_ok-round.ensures.ends
    c.in_ok-signed_distances-in-None.ensures
