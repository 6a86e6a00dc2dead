use Rattle.std.proofs.Common.{◌+◌, vec_len, is_ok, sym, subst, arith}
use Rattle.kept_views.specs.Order.{AreListed}
use Rattle.kept_views.proofs.Grown.{links_resized}
use Rattle.kept_views.proofs.order.Order.reach_row.Goals as goal

pub returns-in_ok-resize-clause-keeps : goal.returns-in_ok-resize-clause-keeps
returns-in_ok-resize-clause-keeps c fs listed =
    let self = c.args.self.now in
    subst (λ links. AreListed self.listing self.heads.items links fs) (sym c.resize.ensures.items)
    (links_resized self.listing self.heads.items self.links.items (is_ok c.resize.result)
    (c.args.id + 1) (vec_len self.links) c.loose.result c.loose.ensures self.links.ok.0
    (omega arith) (omega arith) fs listed)
