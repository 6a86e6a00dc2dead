use Rattle.std.proofs.Common.{◌≡◌, ◌-◌, ◌∙◌, map, if◌then◌else◌, false, ap, sym, arith}
use Rattle.plain_digraph.specs.Facts.{fact_id}
use Rattle.observe_core.specs.Held.{Half}
use Rattle.plain_digraph.specs.Rising.{without_item}
use Rattle.observe_core.specs.Items.{number_id}
use Rattle.observe_core.proofs.ItemLemmas.{map-without}
use Rattle.snap_shots.specs.FactViews.{facts_in}
use Rattle.observe_core.specs.Seen.{map_seen}
use Rattle.snap_shots.proofs.half.HalfObserver.erase.Goals as goal

pub returns-then-is_new-clause-told : goal.returns-then-is_new-clause-told
returns-then-is_new-clause-told c =
    let self = c.args.self.now in
    let i = c.args.f.id in
    let ids = map fact_id (facts_in self.added) in
    let kept = without_item fact_id i (facts_in self.kept) in
    let x : map fact_id (facts_in c.remove-then-is_new.new.self) ≡ without_item number_id i ids =
    ap (map fact_id) c.remove-then-is_new.ensures.taken
    ∙ map-without fact_id number_id i (facts_in self.added) in
    let y = c.remove.ensures.taken in
    let told : map_seen (Half (without_item number_id i ids) self.others kept self.valid)
    ≡ map_seen (if _ then Half (without_item number_id i ids) self.others kept self.valid else
    Half ids (self.others - 1) kept false) =
    ap (λ b. map_seen
    (if b then Half (without_item number_id i ids) self.others kept self.valid else Half ids
    (self.others - 1) kept false)) (sym c.if-is_new.true ∙ c.is_new.ensures) in
    (λ j. map_seen (Half (x j) self.others (y j) self.valid)) ∙ told

pub invariant_of-self-then-is_new : goal.invariant_of-self-then-is_new
invariant_of-self-then-is_new c =
    let few = c.args.self.now.few in
    record { few = omega (arith, c.remove-then-is_new.ensures.len, few) }
