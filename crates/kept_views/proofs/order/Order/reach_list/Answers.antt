use Rattle.std.proofs.Common.{◌+◌, vec_len, is_ok, sym, subst, arith}
use Rattle.kept_views.specs.Order.{AreListed}
use Rattle.kept_views.proofs.Grown.{lists_resized}
use Rattle.kept_views.proofs.order.Order.reach_list.Goals as goal

pub returns-in_ok-resize-clause-keeps : goal.returns-in_ok-resize-clause-keeps
returns-in_ok-resize-clause-keeps c fs listed =
    let self = c.args.self.now in
    subst (λ heads. AreListed self.listing heads self.links.items fs) (sym c.resize.ensures.items)
    (lists_resized self.listing self.heads.items self.links.items (is_ok c.resize.result)
    (c.args.owner + 1) (vec_len self.heads) (omega arith) fs listed)
