use Rattle.std.proofs.Common.{◌+◌, ◌≤◌, ◌∙◌, List, length, ap, sym, arith}
use Rattle.observe_core.specs.Held.{Ties as TiesHeld, Tie}
use Rattle.observe_core.specs.Seen.{map_seen}
use Rattle.columns.specs.Views.{entries_of}
use Rattle.index_maps.proofs.TiedLemmas.{none-left, ids-within}
use Rattle.index_maps.proofs.ties.Ties.end_all.Goals as goal

pub returns : goal.returns
returns c =
    let was = c.loop-tie.invariant in
    let column = c.loop-tie.self.column in
    let n = c.loop-tie.tie in
    let l : 0 + length column.live.items ≤ n = omega (arith, column.covered, was.extent) in
    ap (λ (ts : List Tie). map_seen (TiesHeld ts))
    (sym (none-left n c.args.id (entries_of column)
    (ids-within 0 n column.live.items column.values.items l) was.ended)
    ∙ was.rest)
