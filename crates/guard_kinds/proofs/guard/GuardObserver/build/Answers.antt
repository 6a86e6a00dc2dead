use Rattle.std.proofs.Common.{◌≡◌, ◌+◌, ◌<◌, ◌∙◌, [], drop, get_or, length, ap, sym, subst, refl}
use Rattle.std.proofs.Common.{arith}
use Rattle.base_items.specs.declared.items.Fact.{Fact}
use Rattle.plain_digraph.specs.Facts.{fact_id}
use Rattle.observe_core.specs.Facts.{IsInBounds}
use Rattle.observe_core.specs.Guards.{Law}
use Rattle.plain_digraph.specs.Rising.{with_item}
use Rattle.observe_core.specs.Items.{place_all}
use Rattle.observe_core.specs.Seen.{Seen}
use Rattle.observe_core.specs.Told.{built}
use Rattle.fact_table.specs.Filling.{Fresh}
use Rattle.guard_kinds.specs.GuardViews.{guard_seen}
use Rattle.guard_kinds.specs.Keys.{with_key}
use Rattle.guard_kinds.specs.Putting.{tracking}
use Rattle.fact_table.specs.Table.{facts_of}
use Rattle.fact_table.proofs.FillLemmas.{fresh-start, fill-target, fill-fresh}
use Rattle.guard_kinds.proofs.GuardLemmas.{guards, build-answers, passes-breaks, more-key}
use Rattle.guard_kinds.proofs.GuardLemmas.{all-place_all}
use Rattle.guard_kinds.proofs.guard.GuardObserver.build.Goals as goal

abbrev no_fact : Fact
no_fact = record { id = 0; from = 0; to = 0; from_at = 0; to_at = 0 }

pub loop-f-init : goal.loop-f-init
loop-f-init c =
    let e : facts_of c.args.self.now.table ≡ [] = ap (λ (s : Seen). s.facts) c.requires.empty in
    record {
      target = ap (place_all fact_id c.args.all.now) e;
      fresh = subst (Fresh c.args.all.now) (sym e)
          (fresh-start c.args.all.now c.requires.distinct c.requires.bounded);
      same = ap (λ l. tracking l (guard_seen c.args.self.now)) (sym e);
    }

pub loop-f-preserved : goal.loop-f-preserved
loop-f-preserved c =
    let was = c.loop-f.invariant in
    let all = c.args.all.now in
    let i = c.loop-f.f-index in
    let now = facts_of c.loop-f.self.table in
    let f = get_or all i no_fact in
    let l : i < length all = omega arith in
    let e : facts_of c.put.new.self.table ≡ with_item fact_id f now =
    ap (λ (s : Seen). s.facts) c.in-Ok.ensures in
    record {
      target = fill-target all i no_fact l now (facts_of c.put.new.self.table)
          (place_all fact_id all []) e was.target;
      fresh = fill-fresh all i no_fact l now (facts_of c.put.new.self.table) e was.fresh;
      same = ap (tracking []) c.in-Ok.ensures ∙ was.same;
    }

pub returns-in-Err-clause-told : goal.returns-in-Err-clause-told
returns-in-Err-clause-told c =
    let self = c.args.self.now in
    let was = c.loop-f.invariant in
    let all = c.args.all.now in
    let i = c.loop-f.f-index in
    let now = facts_of c.loop-f.self.table in
    let f = get_or all i no_fact in
    let l : i < length all = omega arith in
    let whole = place_all fact_id all [] in
    let rest : place_all fact_id (drop (i + 1) all) (with_item fact_id f now) ≡ whole =
    fill-target all i no_fact l now (with_item fact_id f now) whole refl was.target in
    let kind : c.loop-f.self.kind ≡ self.kind = ap (λ (s : Seen). s.kind) was.same in
    let k : c.loop-f.self.k ≡ self.k = ap (λ (s : Seen). s.k) was.same in
    build-answers c.in-Err.veto f (guard_seen c.loop-f.self) (guard_seen c.put.new.self)
    (guard_seen self) (guard_seen c.reset.new.self) (built all (guard_seen self))
    (λ n p h.
    let q = more-key c.loop-f.self.kind n (drop (i + 1) all) (with_item fact_id f now) in
    let r = ap (with_key c.loop-f.self.kind n) rest in
    passes-breaks c.loop-f.self.kind c.loop-f.self.k whole
    (all-place_all IsInBounds all [] c.requires.bounded tt) n (omega (arith, p, q, r))
    (subst (λ j. Law j c.loop-f.self.k whole) (sym kind)
    (subst (λ j. Law self.kind j whole) (sym k)
    (subst (Law self.kind self.k) (guards (facts_of self.table) whole self.kind self.guards)
    h))))
    (λ e. c.reset.ensures ∙ ap (tracking []) e ∙ was.same) c.in-Err.ensures
