use Rattle.std.proofs.Common.{subst}
use Rattle.plain_digraph.specs.Facts.{fact_id}
use Rattle.observe_core.specs.Facts.{IsInBounds}
use Rattle.observe_core.specs.Guards.{Law}
use Rattle.plain_digraph.specs.Rising.{with_item}
use Rattle.observe_core.specs.Told.{added}
use Rattle.observe_core.proofs.ItemLemmas.{all-place}
use Rattle.guard_kinds.specs.GuardViews.{guard_seen}
use Rattle.fact_table.specs.Table.{facts_of}
use Rattle.fact_table.specs.TableFacts.{table-bounded}
use Rattle.guard_kinds.proofs.GuardLemmas.{guards, put-answers, passes-breaks}
use Rattle.guard_kinds.proofs.guard.GuardObserver.add.Goals as goal

pub returns-in-Err-clause-told : goal.returns-in-Err-clause-told
returns-in-Err-clause-told c =
    let self = c.args.self.now in
    let f = c.args.f in
    let facts = facts_of self.table in
    let next = with_item fact_id f facts in
    put-answers c.in-Err.veto f (guard_seen self) (guard_seen c.put.new.self)
    (added f (guard_seen self))
    (λ n l h. passes-breaks self.kind self.k next
    (all-place IsInBounds fact_id f facts c.requires.bounded (table-bounded self.table)) n l
    (subst (Law self.kind self.k) (guards facts next self.kind self.guards) h)) c.in-Err.ensures
