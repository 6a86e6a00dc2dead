use Rattle.std.proofs.Common.{rules, ◌≡◌, ◌∙◌, filter, IsTrue, vec_len, length, arith, ap, sym}
use Rattle.std.proofs.Common.{subst}
use Rattle.std.proofs.lemmas.Fn.{filter_same}
use Rattle.observe_core.specs.Items.{has_id, number_id}
use Rattle.guard_kinds.specs.Counting.{own_keys, unlinked}
use Rattle.guard_kinds.proofs.CountingLemmas.{live, same-keys, same-count, same-total, own-live}
use Rattle.guard_kinds.proofs.CountingLemmas.{lacks-live, count-live, total-live}
use Rattle.guard_kinds.proofs.counts.KeyCounts.make_place.Goals as goal

pub invariant_of-self : goal.invariant_of-self
invariant_of-self c =
    let self = c.args.self.now in
    let es = self.entries.items in
    let kept : c.retain.new.self.items ≡ filter live es =
    filter_same _ live _ (λ x b f' k. search rules) _ _ c.retain.ensures.filtered in
    let same = c.relink.ensures.same ∙ ap unlinked kept in
    record {
      own = subst (λ ks. IsTrue (own_keys ks))
          (sym (same-keys c.relink.new.entries.items (filter live es) same)) (own-live es self.own);
      linked = c.relink.ensures.linked;
      headed = c.relink.ensures.headed;
      within = omega
          (arith, c.relink.ensures.len, c.relink.ensures.size, c.retain.ensures.bound, self.within);
      room = omega (
        arith,
        c.relink.ensures.capacity,
        c.relink.ensures.size,
        c.retain.ensures.capacity,
        self.room,
      );
      small = omega (arith, c.relink.ensures.size, self.small);
    }

pub returns-clause-place : goal.returns-clause-place
returns-clause-place c =
    let self = c.args.self.now in
    let es = self.entries.items in
    let kept : c.retain.new.self.items ≡ filter live es =
    filter_same _ live _ (λ x b f' k. search rules) _ _ c.retain.ensures.filtered in
    let t = (total-live es).1 in
    let l : vec_len c.retain.new.self ≡ length (filter live es) =
    subst (λ l. vec_len c.retain.new.self ≡ length l) kept (omega arith) in
    omega (arith, c.relink.ensures.len, c.relink.ensures.size, t, l, c.requires)

pub returns-clause-lacks : goal.returns-clause-lacks
returns-clause-lacks c =
    let es = c.args.self.now.entries.items in
    let kept : c.retain.new.self.items ≡ filter live es =
    filter_same _ live _ (λ x b f' k. search rules) _ _ c.retain.ensures.filtered in
    λ n h. ap (has_id number_id n)
    (same-keys c.relink.new.entries.items (filter live es)
    (c.relink.ensures.same ∙ ap unlinked kept)) ∙ lacks-live es n h

pub returns-clause-counted : goal.returns-clause-counted
returns-clause-counted c =
    let es = c.args.self.now.entries.items in
    let kept : c.retain.new.self.items ≡ filter live es =
    filter_same _ live _ (λ x b f' k. search rules) _ _ c.retain.ensures.filtered in
    λ n. same-count c.relink.new.entries.items (filter live es)
    (c.relink.ensures.same ∙ ap unlinked kept) n ∙ count-live es n

pub returns-clause-total : goal.returns-clause-total
returns-clause-total c =
    let es = c.args.self.now.entries.items in
    let kept : c.retain.new.self.items ≡ filter live es =
    filter_same _ live _ (λ x b f' k. search rules) _ _ c.retain.ensures.filtered in
    same-total c.relink.new.entries.items (filter live es)
    (c.relink.ensures.same ∙ ap unlinked kept) ∙ (total-live es).0
