use Rattle.std.proofs.Common.{◌∙◌, map, ap, arith}
use Rattle.plain_digraph.specs.Facts.{fact_id}
use Rattle.observe_core.specs.Held.{Half}
use Rattle.observe_core.specs.Items.{number_id}
use Rattle.observe_core.proofs.ItemLemmas.{map-without}
use Rattle.snap_shots.specs.FactViews.{facts_in}
use Rattle.observe_core.specs.Seen.{map_seen}
use Rattle.snap_shots.proofs.half.HalfObserver.undo_add.Goals as goal

pub returns-clause-untold : goal.returns-clause-untold
returns-clause-untold c =
    let self = c.args.self.now in
    ap (λ ids. map_seen (Half ids self.others (facts_in self.kept) self.valid))
    (ap (map fact_id) c.remove.ensures.taken
    ∙ map-without fact_id number_id c.args.f.id (facts_in self.added))

pub invariant_of-self : goal.invariant_of-self
invariant_of-self c =
    let few = c.args.self.now.few in
    record { few = omega (arith, c.remove.ensures.len, few) }
