use Rattle.std.proofs.Common.{◌∙◌, List, ap}
use Rattle.observe_core.specs.Held.{Ties as TiesHeld, Tie, tie_id}
use Rattle.observe_core.specs.Seen.{map_seen}
use Rattle.observe_core.proofs.ItemLemmas.{map-place, lacks-map}
use Rattle.columns.specs.Views.{entries_of, entry}
use Rattle.index_maps.specs.TieEntries.{tie_of, ties_in}
use Rattle.index_maps.proofs.ties.Ties.put.Goals as goal

pub put-requires : goal.put-requires
put-requires c = lacks-map tie_of tie_id c.args.tie (entries_of c.args.self.now.column) c.requires

pub returns-clause-ok : goal.returns-clause-ok
returns-clause-ok c =
    let es = entries_of c.args.self.now.column in
    ap (λ (ts : List Tie). map_seen (TiesHeld ts))
    (ap ties_in c.in_ok-put.ensures.ok ∙ map-place tie_of tie_id (entry c.args.tie c.args.id) es)
