use Rattle.std.proofs.Common.{◌+◌, ◌∙◌, is_ok, vec_len, ap, arith}
use Rattle.observe_core.specs.Held.{Degree}
use Rattle.index_maps.specs.Counted.{expand}
use Rattle.observe_core.specs.Seen.{map_seen}
use Rattle.index_maps.proofs.DegreeLemmas.{resized}
use Rattle.index_maps.proofs.degree.Degree.make_room.Goals as goal

pub returns-in_ok-resize-clause-same : goal.returns-in_ok-resize-clause-same
returns-in_ok-resize-clause-same c =
    let self = c.args.self.now in
    let e = resized (is_ok c.resize.result) (c.args.node + 1) (vec_len self.counts)
    self.counts.items (omega arith) in
    ap (λ l. map_seen (Degree self.out l)) (ap (expand 0) c.resize.ensures.items ∙ e)
