use Rattle.std.proofs.Common.{◌≡◌, ◌≢◌, ◌<◌, ℕ, List, length, slice_index, None, sym, ap, subst}
use Rattle.std.proofs.Common.{◌∙◌, rules}
use Rattle.plain_digraph.specs.Rising.{without_item}
use Rattle.slab.specs.Slab.{get}
use Rattle.notify_chain.specs.Seats.{seats, seats_of, seat_key, seat_seen, find_seat, IsKept}
use Rattle.notify_chain.specs.Seats.{LacksKey}
use Rattle.notify_chain.proofs.SeatLemmas.{find-kept, find-none}
use Rattle.notify_chain.proofs.LeaveLemmas.{kept_removed, seats_removed, none_removed}
use Rattle.notify_chain.proofs.chain.Chain.detach.Goals as goal

pub invariant_of-self : goal.invariant_of-self
invariant_of-self g c =
    let slab = c.self.inside.slab in
    let order = c.self.inside.order.items in
    let last = c.try_remove.new.self in
    let i = c.in-Some.place in
    let key = c.args.key.0 in
    let l : i < length order =
    subst (λ (ks : List ℕ). i < length ks) c.deref.ensures.value c.in-Some.ensures.found.0 in
    let at : slice_index order i ≡ key =
    subst (λ (ks : List ℕ). slice_index ks i ≡ key) c.deref.ensures.value
    c.in-Some.ensures.found.1 in
    let gone : get last (slice_index order i) ≡ None =
    subst (λ k. get last k ≡ None) (sym at) c.try_remove.ensures.updates.changed in
    let others : (k : ℕ) → k ≢ slice_index order i → get last k ≡ get slab k = λ k n.
    c.try_remove.ensures.updates.others k (λ e. n (e ∙ sym at)) in (
      subst (IsKept last) (sym c.remove.ensures.items)
          (kept_removed slab last order i l c.self.invariant.0 gone others),
      search rules,
    )

pub returns-in-Some-clause-found : goal.returns-in-Some-clause-found
returns-in-Some-clause-found g c =
    let b = g.O.Observer in
    let key = c.args.key.0 in
    ap (seat_seen b.watch key) c.try_remove.ensures.value
    ∙ find-kept b.watch c.self.inside.slab key c.self.inside.order.items c.self.invariant.0
    ∙ ap (λ v. find_seat key (seats b.watch v)) c.self.view_is

pub returns-in-Some-clause-others : goal.returns-in-Some-clause-others
returns-in-Some-clause-others g c =
    let b = g.O.Observer in
    let slab = c.self.inside.slab in
    let order = c.self.inside.order.items in
    let last = c.try_remove.new.self in
    let i = c.in-Some.place in
    let key = c.args.key.0 in
    let l : i < length order =
    subst (λ (ks : List ℕ). i < length ks) c.deref.ensures.value c.in-Some.ensures.found.0 in
    let at : slice_index order i ≡ key =
    subst (λ (ks : List ℕ). slice_index ks i ≡ key) c.deref.ensures.value
    c.in-Some.ensures.found.1 in
    let gone : get last (slice_index order i) ≡ None =
    subst (λ k. get last k ≡ None) (sym at) c.try_remove.ensures.updates.changed in
    let others : (k : ℕ) → k ≢ slice_index order i → get last k ≡ get slab k = λ k n.
    c.try_remove.ensures.updates.others k (λ e. n (e ∙ sym at)) in
    ap (seats_of b.watch last) c.remove.ensures.items
    ∙ seats_removed b.watch slab last order i l c.self.invariant.0 gone others
    ∙ ap (λ k. without_item seat_key k (seats_of b.watch slab order)) at
    ∙ ap (λ v. without_item seat_key key (seats b.watch v)) c.self.view_is

pub returns-in-None-clause-found : goal.returns-in-None-clause-found
returns-in-None-clause-found g c =
    let b = g.O.Observer in
    let key = c.args.key.0 in
    let absent : LacksKey c.self.inside.order.items key =
    subst (λ ks. LacksKey ks key) c.deref.ensures.value c.in-None.ensures.absent in
    sym (find-none b.watch c.self.inside.slab key c.self.inside.order.items absent)
    ∙ ap (λ v. find_seat key (seats b.watch v)) c.self.view_is

pub returns-in-None-clause-others : goal.returns-in-None-clause-others
returns-in-None-clause-others g c =
    let b = g.O.Observer in
    let key = c.args.key.0 in
    let absent : LacksKey c.self.inside.order.items key =
    subst (λ ks. LacksKey ks key) c.deref.ensures.value c.in-None.ensures.absent in
    subst (λ v. seats b.watch v ≡ without_item seat_key key (seats b.watch v)) c.self.view_is
    (none_removed b.watch c.self.inside.slab key c.self.inside.order.items absent)
