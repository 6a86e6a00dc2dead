use Rattle.std.proofs.Common.{◌∙◌, option_map, sym, ap}
use Rattle.plain_digraph.specs.Facts.{fact_id}
use Rattle.snap_shots.specs.FactViews.{facts_in}
use Rattle.snap_shots.proofs.HalfLemmas.{next-ids}
use Rattle.snap_shots.proofs.half.Half.next_added.Goals as goal

pub returns-in-Some : goal.returns-in-Some
returns-in-Some c =
    ap (option_map fact_id) (sym c.in-Some.is ∙ c.next.ensures)
    ∙ next-ids c.args.after (facts_in c.args.self.now.added)

pub returns-in-None : goal.returns-in-None
returns-in-None c =
    ap (option_map fact_id) (sym c.in-None.is ∙ c.next.ensures)
    ∙ next-ids c.args.after (facts_in c.args.self.now.added)
