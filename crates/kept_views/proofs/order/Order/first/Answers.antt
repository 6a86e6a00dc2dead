use Rattle.std.proofs.Common.{◌<◌, ◌≤◌, length, None, ◌∙◌, arith}
use Rattle.std.proofs.lemmas.List.{get_or_default}
use Rattle.kept_views.proofs.Grown.{first_read, none_at}
use Rattle.kept_views.proofs.order.Order.first.Goals as goal

pub returns-then-at-len : goal.returns-then-at-len
returns-then-at-len c fs listed =
    let self = c.args.self.now in
    let owner = c.args.owner in
    let below : owner < length self.heads.items =
    omega (arith, c.if-at-len.true, c.len.ensures, self.heads.ok.0) in
    c.index.ensures ∙ get_or_default self.heads.items owner c.index.result.now None below
    ∙ first_read self.listing self.heads.items self.links.items fs listed owner below

pub returns : goal.returns
returns c fs listed =
    let self = c.args.self.now in
    let past : length self.heads.items ≤ c.args.owner =
    omega (arith, c.if-at-len.false, c.len.ensures, self.heads.ok.0) in
    none_at self.listing self.heads.items self.links.items fs listed c.args.owner past
