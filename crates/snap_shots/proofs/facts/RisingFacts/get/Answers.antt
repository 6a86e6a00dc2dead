use Rattle.std.proofs.Common.{◌≡◌, ◌≢◌, get_or, ap, arith}
use Rattle.base_items.specs.declared.items.Fact.{Fact}
use Rattle.snap_shots.specs.FactViews.{facts_in}
use Rattle.snap_shots.specs.Ranks.{rank}
use Rattle.snap_shots.proofs.RankLemmas.{absent-rank, read, no_fact}
use Rattle.snap_shots.proofs.facts.RisingFacts.get.Goals as goal

pub returns-else-f-id-clause-absent : goal.returns-else-f-id-clause-absent
returns-else-f-id-clause-absent c =
    let self = c.args.self.now in
    let fs = facts_in self in
    let id = c.args.id in
    let at : c.place_of-place.result ≡ rank id fs = c.place_of-place.ensures in
    let e = read c.place_of-place.result c.index-f.result.now no_fact fs (omega arith)
    c.index-f.ensures in
    let other : (get_or fs (rank id fs) no_fact).id ≢ id = λ is.
    let i = ap (λ (f : Fact). f.id) e in let j = ap (λ p. (get_or fs p no_fact).id) at in
    omega (arith, i, j, is, c.if-f-id.false) in
    absent-rank 0 id no_fact fs self.rising (λ _. other)

pub returns-else-place-len-clause-absent : goal.returns-else-place-len-clause-absent
returns-else-place-len-clause-absent c =
    let self = c.args.self.now in
    let fs = facts_in self in
    let id = c.args.id in
    let at : c.place_of-place.result ≡ rank id fs = c.place_of-place.ensures in
    absent-rank 0 id no_fact fs self.rising (λ l. absurd (omega (arith, at, l)))
