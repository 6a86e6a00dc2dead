use Rattle.std.proofs.Common.{◌∙◌, map, ap, arith}
use Rattle.std.proofs.lemmas.List.{length-map}
use Rattle.plain_digraph.specs.Rising.{with_item}
use Rattle.observe_core.proofs.LiveLaws.{live-added, live-few}
use Rattle.observe_core.proofs.ItemLemmas.{length-place}
use Rattle.plain_digraph.specs.Facts.{fact_id}
use Rattle.observe_core.specs.Held.{Half}
use Rattle.observe_core.specs.Items.{number_id}
use Rattle.observe_core.proofs.ItemLemmas.{lacks-map, map-place}
use Rattle.observe_core.proofs.Undone.{numbers_lack}
use Rattle.snap_shots.specs.FactViews.{facts_in}
use Rattle.observe_core.specs.Seen.{map_seen}
use Rattle.snap_shots.proofs.half.HalfObserver.add.Goals as goal

pub insert-requires : goal.insert-requires
insert-requires c =
    let facts = facts_in c.args.self.now.added in
    lacks-map fact_id number_id c.args.f.id facts
    (numbers_lack c.args.f.id (map fact_id facts) c.requires.live c.requires.fits.held.among
    c.requires.untracked)

pub returns-in-Ok-clause-told : goal.returns-in-Ok-clause-told
returns-in-Ok-clause-told c =
    let self = c.args.self.now in
    ap (λ ids. map_seen (Half ids self.others (facts_in self.kept) self.valid))
    (ap (map fact_id) c.in-Ok.ensures.ok
    ∙ map-place fact_id number_id c.args.f (facts_in self.added))

pub invariant_of-self : goal.invariant_of-self
invariant_of-self c =
    let can = c.requires in
    let f = c.args.f in
    let ids = length-map (facts_in c.args.self.now.added) fact_id in
    let longer = length-place fact_id f can.live in
    let few = live-few (with_item fact_id f can.live)
    (live-added f can.live can.is_live can.untracked can.bounded) in
    record { few = omega (arith, c.insert.ensures.len, can.fits.held.counted, ids, longer, few) }
