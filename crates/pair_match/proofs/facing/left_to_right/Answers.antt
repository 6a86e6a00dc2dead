use Rattle.std.proofs.Common.{length, map, ◌∙◌, ap}
use Rattle.std.proofs.lemmas.List.{get_or-map, length-map}
use Rattle.push_flow.specs.Slices.{ends_at}
use Rattle.pair_match.specs.Facing.{flags, turned_ends}
use Rattle.pair_match.proofs.Turning.{network_turned}
use Rattle.pair_match.proofs.facing.left_to_right.Goals as goal

pub returns : goal.returns
returns c g net' =
    let left = flags c.args.left.now in
    let ends = c.args.net.ends.items in
    let is = c.in_ok-ends.ensures
    ∙ ap (map (λ e. turned_ends (left e.from) e)) c.deref.ensures.value in
    network_turned g left ends c.in_ok-ends.ends.items c.args.net.start.items
    c.args.net.row.items net'
    (ap length is ∙ length-map ends (λ e. turned_ends (left e.from) e))
    (λ k l. ap (λ xs. ends_at xs k) is
    ∙ get_or-map (λ e. turned_ends (left e.from) e) ends k (record { from = 0; to = 0 })
    (record { from = 0; to = 0 }) l)
