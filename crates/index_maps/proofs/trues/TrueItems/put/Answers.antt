use Rattle.std.proofs.Common.{◌*◌, arith}
use Rattle.index_maps.specs.BitViews.{is_marked, words_of}
use Rattle.index_maps.specs.TrueViews.{trues_of}
use Rattle.columns.specs.Views.{entries_of}
use Rattle.index_maps.proofs.TrueLemmas.{marked_put}
use Rattle.index_maps.proofs.trues.TrueItems.put.Goals as goal

pub invariant_of-self-2 : goal.invariant_of-self-2
invariant_of-self-2 c =
    let self = c.args.self.now in
    record {
      marked = marked_put (is_marked self.bits) (is_marked c.reach.new.self) (trues_of self)
          self.marked c.args.id
          c.put.result (entries_of c.put.new.self) c.put.ensures.ok c.put.ensures.err
          c.reach.ensures.same c.requires;
      covered = c.put.ensures.extent (64 * words_of c.reach.new.self)
          (omega (arith, self.covered, c.reach.ensures.more))
          (omega (arith, c.in_ok-reach.ensures.room));
    }
