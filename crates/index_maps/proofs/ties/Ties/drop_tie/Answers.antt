use Rattle.std.proofs.Common.{◌∙◌, List, ap}
use Rattle.observe_core.specs.Held.{Ties as TiesHeld, Tie, tie_id}
use Rattle.observe_core.specs.Seen.{map_seen}
use Rattle.observe_core.proofs.ItemLemmas.{map-without}
use Rattle.columns.specs.Views.{entries_of}
use Rattle.index_maps.specs.TieEntries.{tie_of, ties_in}
use Rattle.index_maps.proofs.ties.Ties.drop_tie.Goals as goal

pub returns : goal.returns
returns c =
    ap (λ (ts : List Tie). map_seen (TiesHeld ts))
    (ap ties_in c.take.ensures.entries
    ∙ map-without tie_of tie_id c.args.tie (entries_of c.args.self.now.column))
