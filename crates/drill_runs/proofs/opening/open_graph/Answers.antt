use Rattle.std.proofs.Common.{◌≡◌, sym, ap, ◌∙◌, subst, arith}
use Rattle.std.specs.Prelude.{IfOk}
use Rattle.lgf_file.specs.Documents.{IsDoc}
use Rattle.plain_world.specs.Documents.{load as loaded_of}
use Rattle.graph_maker.proofs.Valid.{made_valid}
use Rattle.drill_runs.proofs.opening.open_graph.Goals as goal

pub load-requires-clause-doc : goal.load-requires-clause-doc
load-requires-clause-doc g c =
    subst IsDoc (sym c.in_ok-doc.ensures)
    (made_valid c.args.seed 100 400 (omega arith) (omega arith) (omega arith))

pub returns-clause-loaded : goal.returns-clause-loaded
returns-clause-loaded g c =
    subst (λ doc. IfOk c.load.result (λ desk. g.D.Desk.plain desk
    ≡ loaded_of doc (g.D.Desk.kinds c.args.pool))) c.in_ok-doc.ensures c.load.ensures.loaded
