use Rattle.std.proofs.Common.{◌≡◌, ℕ, ◌≤◌, false, None, Some, subst, sym, ◌∙◌}
use Rattle.columns.specs.Sound.{column-rises}
use Rattle.index_maps.specs.BitViews.{is_marked}
use Rattle.index_maps.specs.Lookup.{value_of}
use Rattle.index_maps.specs.TrueViews.{trues_of}
use Rattle.index_maps.specs.Trues.{first_true}
use Rattle.index_maps.proofs.TrueLemmas.{none_true, first_is_true}
use Rattle.index_maps.proofs.LevelLemmas.{first_same}
use Rattle.index_maps.proofs.trues.TrueItems.next.Goals as goal

pub returns-in-None : goal.returns-in-None
returns-in-None c =
    let self = c.args.self.now in
    let low = c.place_after.result in
    let es = trues_of self in
    let none : (k : ℕ) → low ≤ k → value_of false es k ≡ false = λ k l. sym (self.marked k)
    ∙ c.in-None.ensures k l in
    subst (λ n. None ≡ first_true n es) c.place_after.ensures.place
    (sym (none_true 0 low es (column-rises self.column.live.items self.column.values.items) none))

pub returns-in-Some : goal.returns-in-Some
returns-in-Some c =
    let self = c.args.self.now in
    let low = c.place_after.result in
    let es = trues_of self in
    let f = first_same (is_marked self.bits) (value_of false es) self.marked low c.in-Some.at
    c.in-Some.ensures in
    subst (λ n. Some c.in-Some.at ≡ first_true n es) c.place_after.ensures.place
    (sym (first_is_true 0 low c.in-Some.at es
    (column-rises self.column.live.items self.column.values.items) f))
