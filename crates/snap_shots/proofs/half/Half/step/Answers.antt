use Rattle.std.proofs.Common.{◌≡◌, ◌≢◌, ◌∙◌, true, false, if◌then◌else◌, IsTrue, length, sym, ap}
use Rattle.std.proofs.Common.{subst, arith}
use Rattle.plain_digraph.specs.Facts.{fact_id}
use Rattle.observe_core.specs.Facts.{same_fact}
use Rattle.observe_core.specs.Told.{kept_moved}
use Rattle.observe_core.proofs.ItemLemmas.{length-place}
use Rattle.observe_core.proofs.KeptLemmas.{same-is, same-self}
use Rattle.snap_shots.specs.FactViews.{facts_in}
use Rattle.snap_shots.specs.HalfViews.{half_seen}
use Rattle.snap_shots.specs.Keeping.{keeping}
use Rattle.snap_shots.proofs.HalfLemmas.{keeps-new, gives-up, keeps-on, on_ok}
use Rattle.snap_shots.proofs.half.Half.step.Goals as goal

pub returns-then-eq-clause-ok : goal.returns-then-eq-clause-ok
returns-then-eq-clause-ok c =
    let self = c.args.self.now in
    let kept = facts_in self.kept in
    let old = c.args.old in
    let now = c.args.new in
    let w = c.in-Some.ensures.there in
    let e = same-is c.in-Some.kept now (sym c.eq.ensures ∙ c.if-eq.true) in
    let x = c.remove.ensures.taken
    ∙ gives-up old now kept c.in-Some.kept self.kept.rising w.0 w.1 e in
    ap (λ l. keeping l (half_seen self))
    (x ∙ sym (ap (λ b. if b then kept else kept_moved old now kept)
    (sym c.is_new.ensures ∙ c.if-is_new.false)))

pub returns-else-eq-clause-ok : goal.returns-else-eq-clause-ok
returns-else-eq-clause-ok c =
    let self = c.args.self.now in
    let kept = facts_in self.kept in
    let old = c.args.old in
    let now = c.args.new in
    let w = c.in-Some.ensures.there in
    let n : c.in-Some.kept ≢ now = (λ e.
    let t : same_fact c.in-Some.kept now ≡ true =
    subst (λ g. IsTrue (same_fact c.in-Some.kept g)) e (same-self c.in-Some.kept) in
    let f : same_fact c.in-Some.kept now ≡ false = sym c.eq.ensures ∙ c.if-eq.false in
    cc) in
    let x = keeps-on old now kept c.in-Some.kept self.kept.rising w.0 w.1 c.requires n in
    ap (λ l. keeping l (half_seen self))
    (x ∙ sym (ap (λ b. if b then kept else kept_moved old now kept)
    (sym c.is_new.ensures ∙ c.if-is_new.false)))

pub returns-in-None-clause-ok : goal.returns-in-None-clause-ok
returns-in-None-clause-ok c =
    let self = c.args.self.now in
    let kept = facts_in self.kept in
    let old = c.args.old in
    let now = c.args.new in
    let e = keeps-new old now kept c.in-None.ensures.absent
    ∙ sym (ap (λ b. if b then kept else kept_moved old now kept)
    (sym c.is_new.ensures ∙ c.if-is_new.false)) in
    on_ok c.insert.result (λ x. ap (λ l. keeping l (half_seen self)) (x ∙ e)) c.insert.ensures.ok

pub returns-in-None-clause-succeeds : goal.returns-in-None-clause-succeeds
returns-in-None-clause-succeeds c =
    let self = c.args.self.now in
    let kept = facts_in self.kept in
    let old = c.args.old in
    let now = c.args.new in
    let e = keeps-new old now kept c.in-None.ensures.absent
    ∙ sym (ap (λ b. if b then kept else kept_moved old now kept)
    (sym c.is_new.ensures ∙ c.if-is_new.false)) in
    let a = ap length e in
    let b = length-place fact_id old kept in
    λ r. c.insert.ensures.succeeds (omega (arith, a, b, r))
