use Rattle.std.proofs.Common.{◌≤◌, length, false, ap, sym, ◌∙◌, arith}
use Rattle.observe_core.specs.Held.{entry_id}
use Rattle.observe_core.proofs.ItemLemmas.{without-lacks, contains-has}
use Rattle.columns.specs.Views.{entry}
use Rattle.columns.proofs.ColumnLemmas.{has-within}
use Rattle.index_maps.specs.BitViews.{is_marked}
use Rattle.index_maps.specs.Lookup.{value_of}
use Rattle.index_maps.specs.TrueViews.{trues_of}
use Rattle.index_maps.proofs.TrueLemmas.{marked_taken}
use Rattle.index_maps.proofs.trues.TrueItems.take.Goals as goal

pub mark-requires : goal.mark-requires
mark-requires c =
    let self = c.args.self.now in
    let m : length self.column.live.items ≤ length self.column.values.items =
    omega (arith, self.column.covered) in
    let h = contains-has entry_id (entry c.args.id c.in-Some.field-0) (trues_of self)
    c.in-Some.ensures in
    let l = has-within self.column.live.items self.column.values.items m c.args.id h in
    omega (arith, l, m, self.covered)

pub invariant_of-self : goal.invariant_of-self
invariant_of-self c =
    let self = c.args.self.now in
    record {
      marked = λ k.
          marked_taken (is_marked self.bits) (is_marked c.mark.new.self) (trues_of self) self.marked
          c.args.id
          c.mark.ensures.same c.mark.ensures.others k
          ∙ ap (λ es. value_of false es k) (sym c.take.ensures.entries);
      covered = omega (arith, self.covered, c.take.ensures.extent, c.mark.ensures.words);
    }

pub returns-in-None : goal.returns-in-None
returns-in-None c =
    sym (without-lacks entry_id c.args.id (trues_of c.args.self.now) c.in-None.ensures)
