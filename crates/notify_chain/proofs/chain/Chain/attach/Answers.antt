use Rattle.std.proofs.Common.{◌≡◌, ◌≢◌, ℕ, List, [], ◌∷◌, ◌++◌, sym, ap, subst, ◌∙◌, None, rules}
use Rattle.observe_core.specs.Seen.{Seen}
use Rattle.observe_core.specs.Told.{built}
use Rattle.slab.specs.Slab.{get}
use Rattle.notify_chain.specs.Seats.{seats, seats_of, Attached, IsKept}
use Rattle.notify_chain.proofs.SeatLemmas.{attached, accepted, kept_pushed, some_is}
use Rattle.notify_chain.proofs.chain.Chain.attach.Goals as goal

pub returns-clause-ok : goal.returns-clause-ok
returns-clause-ok g c =
    let watch = g.O.Observer.watch in
    let slab = c.self.inside.slab in
    let roomy = c.reserve-else-is_err-2.new.self in
    let new = c.insert_reserved-key.new.self in
    let order = c.self.inside.order.items in
    let key = c.insert_reserved-key.result in
    let came = watch c.args.o in
    let told = c.build.new.self in
    let next : Seen = built c.args.present.now came.seen in
    let inserted = c.insert_reserved-key.ensures in
    let kept : roomy ≡ record slab { capacity = roomy.capacity } =
    c.reserve-else-is_err-2.ensures.rest_kept in
    let same : (j : ℕ) → get roomy j ≡ get slab j = λ j. ap (λ s. get s j) kept in
    let free : get slab key ≡ None = sym (same key) ∙ inserted.was_vacant in
    let others : (j : ℕ) → j ≢ key → get new j ≡ get slab j =
    λ j n. inserted.updates.others j n ∙ same j in
    let seen : (watch told).seen ≡ next =
    accepted c.build.result came.seen (watch told).seen next c.in_default.not-Err
    c.build.ensures.told in
    let pushed : c.push.new.self.items ≡ c.reserve.new.self.items ++ key ∷ [] =
    rw c.in-Ok.is at c.push.ensures.items in
    let items : c.push.new.self.items ≡ order ++ key ∷ [] =
    pushed ∙ ap (λ (l : List ℕ). l ++ key ∷ []) c.reserve.ensures.items in
    let seated = attached watch slab new order key told came next c.self.invariant.0 free
    inserted.updates.changed others seen c.build.ensures.room c.build.ensures.reach in
    subst (λ l. Attached (seats watch c.args.self.now) (seats_of watch new l) key came next)
    (sym items)
    (subst (λ v. Attached (seats watch v) (seats_of watch new (order ++ key ∷ [])) key came next)
    c.self.view_is seated)

pub invariant_of-self-2 : goal.invariant_of-self-2
invariant_of-self-2 g c =
    let slab = c.self.inside.slab in
    let roomy = c.reserve-else-is_err-2.new.self in
    let new = c.insert_reserved-key.new.self in
    let order = c.self.inside.order.items in
    let key = c.insert_reserved-key.result in
    let inserted = c.insert_reserved-key.ensures in
    let kept : roomy ≡ record slab { capacity = roomy.capacity } =
    c.reserve-else-is_err-2.ensures.rest_kept in
    let same : (j : ℕ) → get roomy j ≡ get slab j = λ j. ap (λ s. get s j) kept in
    let free : get slab key ≡ None = sym (same key) ∙ inserted.was_vacant in
    let there = some_is (get new key) c.build.new.self inserted.updates.changed in
    let others : (j : ℕ) → j ≢ key → get new j ≡ get slab j =
    λ j n. inserted.updates.others j n ∙ same j in
    let pushed : c.push.new.self.items ≡ c.reserve.new.self.items ++ key ∷ [] =
    rw c.in-Ok.is at c.push.ensures.items in
    let items : c.push.new.self.items ≡ order ++ key ∷ [] =
    pushed ∙ ap (λ (l : List ℕ). l ++ key ∷ []) c.reserve.ensures.items in (
      subst (IsKept new) (sym items)
          (kept_pushed slab new order key c.self.invariant.0 free there others),
      search rules,
    )
