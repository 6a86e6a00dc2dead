use Rattle.std.proofs.Common.{◌∙◌, sym, arith}
use Rattle.index_maps.specs.Expanding.{count-expand, count-past}
use Rattle.index_maps.proofs.DegreeLemmas.{read-at}
use Rattle.index_maps.proofs.degree.Degree.get.Goals as goal

pub returns-then-at-len : goal.returns-then-at-len
returns-then-at-len c =
    let cs = c.args.self.now.counts.items in
    sym (count-expand 0 c.args.node c.args.node cs (omega arith) (omega arith)
    ∙ read-at c.args.node c.index.result.now 0 cs (omega arith) c.index.ensures)

pub returns : goal.returns
returns c = sym (count-past 0 c.args.node c.args.self.now.counts.items (omega arith))
