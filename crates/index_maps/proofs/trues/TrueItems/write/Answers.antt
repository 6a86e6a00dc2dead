use Rattle.std.proofs.Common.{◌≤◌, length, false, ap, sym, ◌∙◌, arith}
use Rattle.columns.proofs.ColumnLemmas.{has-within}
use Rattle.index_maps.specs.BitViews.{is_marked}
use Rattle.index_maps.specs.Lookup.{value_of}
use Rattle.index_maps.specs.TrueViews.{trues_of}
use Rattle.index_maps.proofs.TrueLemmas.{marked_set}
use Rattle.index_maps.proofs.trues.TrueItems.write.Goals as goal

pub mark-requires : goal.mark-requires
mark-requires c =
    let self = c.args.self.now in
    let m : length self.column.live.items ≤ length self.column.values.items =
    omega (arith, self.column.covered) in
    let l = has-within self.column.live.items self.column.values.items m c.args.id c.requires in
    omega (arith, l, m, self.covered)

pub invariant_of-self : goal.invariant_of-self
invariant_of-self c =
    let self = c.args.self.now in
    record {
      marked = λ k.
          marked_set (is_marked self.bits) (is_marked c.mark.new.self) (trues_of self) self.marked
          c.args.id
          c.args.value c.mark.ensures.same c.mark.ensures.others c.requires k
          ∙ ap (λ es. value_of false es k) (sym c.set.ensures.entries);
      covered = omega (arith, self.covered, c.set.ensures.extent, c.mark.ensures.words);
    }
