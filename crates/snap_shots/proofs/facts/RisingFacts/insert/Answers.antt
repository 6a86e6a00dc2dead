use Rattle.std.proofs.Common.{◌≡◌, ◌∙◌, is_ok, IsTrue, sym, ap, subst, arith}
use Rattle.std.specs.List.{insert}
use Rattle.plain_digraph.specs.Facts.{fact_id}
use Rattle.plain_digraph.specs.Rising.{with_item}
use Rattle.observe_core.specs.Items.{rises_from}
use Rattle.observe_core.proofs.LiveLaws.{rises-place}
use Rattle.snap_shots.specs.FactViews.{facts_in}
use Rattle.snap_shots.proofs.RankLemmas.{rank-within, with-rank, chosen}
use Rattle.snap_shots.proofs.facts.RisingFacts.insert.Goals as goal

pub insert-requires : goal.insert-requires
insert-requires c =
    let within = rank-within c.args.f.id (facts_in c.args.self.now) in
    omega (arith, c.place_of-place.ensures, within)

pub invariant_of-self : goal.invariant_of-self
invariant_of-self c =
    let self = c.args.self.now in
    let fs = facts_in self in
    let f = c.args.f in
    let put : insert fs c.place_of-place.result f ≡ with_item fact_id f fs =
    ap (λ i. insert fs i f) c.place_of-place.ensures ∙ with-rank f fs in
    let rises : IsTrue (rises_from fact_id 0 (insert fs c.place_of-place.result f)) =
    subst (λ l. IsTrue (rises_from fact_id 0 l)) (sym put)
    (rises-place fact_id 0 f fs self.rising (omega arith) c.requires) in
    record {
      rising = subst (λ l. IsTrue (rises_from fact_id 0 l)) (sym c.insert.ensures.items)
          (chosen (is_ok c.insert.result) (λ l. IsTrue (rises_from fact_id 0 l)) rises self.rising);
    }

pub returns-in-Ok-clause-ok : goal.returns-in-Ok-clause-ok
returns-in-Ok-clause-ok c =
    let fs = facts_in c.args.self.now in
    let f = c.args.f in
    c.in-Ok.ensures.items ∙ ap (λ i. insert fs i f) c.place_of-place.ensures ∙ with-rank f fs
