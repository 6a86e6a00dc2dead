-- What each answer shows.
use Rattle.std.specs.Prelude.{◌≡◌, pos, length}
use Rattle.plain_certificates.specs.Feasible.{Bounds, IsFeasible}
use Rattle.plain_certificates.specs.Numbered.{Numbered}
use Rattle.plain_certificates.specs.Tables.{at}
use Rattle.task_bounds.specs.Answers.{ShowsNoFlow}
use Rattle.flow_circulate.specs.declared.circulation.Circulation.{Circulation}
use Rattle.flow_circulate.specs.declared.circulation.Circulation.TheVariants as answers

-- a feasible flow with a value for each arc, or a barrier with one for each node
abbrev pub Answers : Numbered → Bounds → Circulation → Type 0
Answers g bounds (answers.Flow flow) =
    (length flow ≡ g.arcs) × IsFeasible g bounds (at (pos 0) flow)
Answers g bounds (answers.Barrier b) = ShowsNoFlow g bounds b
