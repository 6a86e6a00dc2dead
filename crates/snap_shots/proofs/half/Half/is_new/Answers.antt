use Rattle.std.proofs.Common.{◌∙◌, IsTrue, sym, subst}
use Rattle.plain_digraph.specs.Facts.{fact_id}
use Rattle.observe_core.specs.Items.{has_id}
use Rattle.observe_core.proofs.ItemLemmas.{contains-has, lacks-not_has}
use Rattle.snap_shots.specs.FactViews.{facts_in}
use Rattle.snap_shots.proofs.HalfLemmas.{has-map}
use Rattle.snap_shots.proofs.half.Half.is_new.Goals as goal

pub returns-in-Some : goal.returns-in-Some
returns-in-Some c =
    let facts = facts_in c.args.self.now.added in
    let w = c.in-Some.ensures.there in
    sym (has-map c.args.id facts
    ∙ subst (λ i. IsTrue (has_id fact_id i facts)) w.1
    (contains-has fact_id c.in-Some.field-0 facts w.0))

pub returns-in-None : goal.returns-in-None
returns-in-None c =
    let facts = facts_in c.args.self.now.added in
    sym (has-map c.args.id facts ∙ lacks-not_has fact_id c.args.id facts c.in-None.ensures.absent)
