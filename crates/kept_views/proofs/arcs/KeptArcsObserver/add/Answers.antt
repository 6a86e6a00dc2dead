use Rattle.std.proofs.Common.{◌∙◌, sym, subst}
use Rattle.plain_digraph.specs.Facts.{fact_id}
use Rattle.observe_core.specs.Items.{Lacks}
use Rattle.fact_table.specs.Table.{facts_of}
use Rattle.kept_views.specs.Sound.{marked-facts}
use Rattle.kept_views.proofs.arcs.KeptArcsObserver.add.Goals as goal

pub put-requires-clause-free : goal.put-requires-clause-free
put-requires-clause-free c =
    let items = c.args.self.now.items in
    subst (Lacks fact_id c.args.f.id)
    (sym c.requires.fits.held ∙ marked-facts items.marks.items (facts_of items.table))
    c.requires.untracked
