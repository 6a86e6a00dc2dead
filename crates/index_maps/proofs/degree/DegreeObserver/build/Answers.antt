use Rattle.std.proofs.Common.{◌≡◌, ◌+◌, ◌<◌, ◌∙◌, [], ◌∷◌, map, drop, get_or, length, refl, ap}
use Rattle.std.proofs.Common.{subst, arith}
use Rattle.base_items.specs.declared.items.Fact.{Fact}
use Rattle.observe_core.specs.Facts.{end_of}
use Rattle.observe_core.specs.Items.{place_all, put_number, number_id}
use Rattle.observe_core.proofs.LiveLaws.{distinct-few}
use Rattle.index_maps.specs.DegreeViews.{ends_of_degree}
use Rattle.index_maps.proofs.DegreeLemmas.{ends-seen, out-seen, often-few, ends-front, put-length}
use Rattle.index_maps.proofs.degree.DegreeObserver.build.Goals as goal

abbrev no_fact : Fact
no_fact = record { id = 0; from = 0; to = 0; from_at = 0; to_at = 0 }

pub loop-f-init : goal.loop-f-init
loop-f-init c =
    let e = ap ends-seen c.requires.empty in
    record {
      out = refl;
      target = ap (place_all number_id (map (end_of c.args.self.now.out) c.args.all.now)) e;
      counted = ap length e;
      reach = omega arith;
    }

pub raise-requires-clause-small : goal.raise-requires-clause-small
raise-requires-clause-small c =
    let a = often-few c.end-node.result (ends_of_degree c.loop-f.self) in
    let b = distinct-few c.args.all.now c.requires.distinct c.requires.bounded in
    omega (arith, a, b, c.loop-f.invariant.counted, c.loop-f-test.true)

pub loop-f-preserved : goal.loop-f-preserved
loop-f-preserved c =
    let was = c.loop-f.invariant in
    let all = c.args.all.now in
    let i = c.loop-f.f-index in
    let out = c.args.self.now.out in
    let ends = ends_of_degree c.loop-f.self in
    let f = get_or all i no_fact in
    let l : i < length all = omega arith in
    let e = ap ends-seen c.in-Ok.ensures.ok in
    let n : c.end-node.result ≡ end_of out f = c.end-node.ensures ∙ ap (λ o. end_of o f) was.out in
    let to = map (end_of out) all in
    let rest = map (end_of out) (drop (i + 1) all) in
    let t : place_all number_id (end_of out f ∷ rest) ends ≡ place_all number_id to [] =
    subst (λ xs. place_all number_id xs ends ≡ place_all number_id to [])
    (ends-front out all i no_fact l) was.target in
    let p = put-length c.end-node.result ends in
    let x = ap length e in
    record {
      out = ap out-seen c.in-Ok.ensures.ok ∙ was.out;
      target = ap (place_all number_id rest) (e ∙ ap (λ n. put_number n ends) n) ∙ t;
      counted = omega (arith, x, p, was.counted);
      reach = omega (arith, was.reach, c.in-Ok.ensures.reach);
    }
