use Rattle.std.proofs.Common.{◌≡◌, ◌≢◌, ◌<◌, ◌∙◌, IsTrue, length, get_or, sym, ap, subst, arith}
use Rattle.std.specs.List.{remove}
use Rattle.base_items.specs.declared.items.Fact.{Fact}
use Rattle.plain_digraph.specs.Facts.{fact_id}
use Rattle.plain_digraph.specs.Rising.{without_item}
use Rattle.observe_core.specs.Items.{rises_from}
use Rattle.observe_core.proofs.ItemLemmas.{without-lacks}
use Rattle.observe_core.proofs.LiveLaws.{rises-without}
use Rattle.snap_shots.specs.FactViews.{facts_in}
use Rattle.snap_shots.specs.Ranks.{rank}
use Rattle.snap_shots.proofs.RankLemmas.{without-rank, absent-rank, read, no_fact}
use Rattle.snap_shots.proofs.facts.RisingFacts.remove.Goals as goal

pub invariant_of-self : goal.invariant_of-self
invariant_of-self c =
    let self = c.args.self.now in
    let fs = facts_in self in
    let id = c.args.id in
    let at : c.place_of-place.result ≡ rank id fs = c.place_of-place.ensures in
    let l : rank id fs < length fs = omega (arith, at) in
    let e = read c.place_of-place.result c.index.result.now no_fact fs (omega arith)
    c.index.ensures in
    let is : (get_or fs (rank id fs) no_fact).id ≡ id =
    let i = ap (λ (f : Fact). f.id) e in let j =
    ap (λ p. (get_or fs p no_fact).id) at in omega (arith, i, j, c.if-index-id.true) in
    let gone : c.remove.new.self.items ≡ without_item fact_id id fs =
    c.remove.ensures.items ∙ ap (remove fs) at ∙ without-rank 0 id no_fact fs self.rising l is in
    record {
      rising = subst (λ l. IsTrue (rises_from fact_id 0 l)) (sym gone)
          (rises-without fact_id 0 id fs self.rising);
    }

pub returns-then-index-id-clause-taken : goal.returns-then-index-id-clause-taken
returns-then-index-id-clause-taken c =
    let self = c.args.self.now in
    let fs = facts_in self in
    let id = c.args.id in
    let at : c.place_of-place.result ≡ rank id fs = c.place_of-place.ensures in
    let l : rank id fs < length fs = omega (arith, at) in
    let e = read c.place_of-place.result c.index.result.now no_fact fs (omega arith)
    c.index.ensures in
    let is : (get_or fs (rank id fs) no_fact).id ≡ id =
    let i = ap (λ (f : Fact). f.id) e in let j =
    ap (λ p. (get_or fs p no_fact).id) at in omega (arith, i, j, c.if-index-id.true) in
    c.remove.ensures.items ∙ ap (remove fs) at ∙ without-rank 0 id no_fact fs self.rising l is

pub returns-else-index-id-clause-taken : goal.returns-else-index-id-clause-taken
returns-else-index-id-clause-taken c =
    let self = c.args.self.now in
    let fs = facts_in self in
    let id = c.args.id in
    let at : c.place_of-place.result ≡ rank id fs = c.place_of-place.ensures in
    let e = read c.place_of-place.result c.index.result.now no_fact fs (omega arith)
    c.index.ensures in
    let other : (get_or fs (rank id fs) no_fact).id ≢ id = λ is.
    let i = ap (λ (f : Fact). f.id) e in let j = ap (λ p. (get_or fs p no_fact).id) at in
    omega (arith, i, j, is, c.if-index-id.false) in
    sym (without-lacks fact_id id fs (absent-rank 0 id no_fact fs self.rising (λ _. other)))

pub returns-else-place-len-clause-taken : goal.returns-else-place-len-clause-taken
returns-else-place-len-clause-taken c =
    let self = c.args.self.now in
    let fs = facts_in self in
    let id = c.args.id in
    let at : c.place_of-place.result ≡ rank id fs = c.place_of-place.ensures in
    sym (without-lacks fact_id id fs
    (absent-rank 0 id no_fact fs self.rising (λ l. absurd (omega (arith, at, l)))))
