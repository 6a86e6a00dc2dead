use Rattle.std.proofs.Common.{◌∙◌, sym, ap}
use Rattle.plain_digraph.specs.Lists.{first}
use Rattle.observe_core.specs.Seen.{facts_of_marked}
use Rattle.kept_views.specs.Views.{arcs_of}
use Rattle.kept_walks.specs.Whole.{in_is}
use Rattle.kept_walks.proofs.stored.StoredShown.first_in.Goals as goal

pub returns : goal.returns
returns c =
    let facts = facts_of_marked (arcs_of c.args.self.now.arcs.now) in
    c.arc_at.ensures ∙ c.first_in.ensures ∙ ap first (sym (in_is facts c.args.n.0))
