use Rattle.std.proofs.Common.{ap, ◌∙◌}
use Rattle.std.proofs.lemmas.List.{get_or_default}
use Rattle.linked_lists.specs.declared.lists.Link.{Link}
use Rattle.linked_lists.specs.Links.{loose}
use Rattle.kept_views.proofs.Grown.{next_read}
use Rattle.kept_views.proofs.order.Order.next.Goals as goal

pub returns : goal.returns
returns c fs v listed at =
    let self = c.args.self.now in
    let link : Link = c.index.result.now in
    let read = c.index.ensures
    ∙ get_or_default self.links.items c.args.id link loose c.requires in
    c.id.ensures ∙ ap (λ (k : Link). k.next) read
    ∙ next_read self.listing self.heads.items self.links.items fs listed v c.args.id at
