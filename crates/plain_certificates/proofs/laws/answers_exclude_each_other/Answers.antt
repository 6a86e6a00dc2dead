use Rattle.plain_certificates.specs.Walks.{start_of}
use Rattle.plain_certificates.proofs.Distances.{paths_or_cycle}
use Rattle.plain_certificates.proofs.Sides.{barriers_leave_no_flow}
use Rattle.plain_certificates.proofs.Rounds.{optimal_or_free_cycle}
use Rattle.plain_certificates.proofs.Duals.{short_leaves_no_cover}
use Rattle.plain_certificates.proofs.Ratios.{orders_leave_no_cycle}
use Rattle.plain_certificates.proofs.laws.answers_exclude_each_other.Goals as goal

pub returns-clause-paths_or_cycle : goal.returns-clause-paths_or_cycle
returns-clause-paths_or_cycle c = paths_or_cycle

pub returns-clause-optimal_or_barrier : goal.returns-clause-optimal_or_barrier
returns-clause-optimal_or_barrier c =
    λ g bounds cost flow pi total over set supply limit ends optimal barrier.
    barriers_leave_no_flow g bounds over set supply limit ends barrier flow optimal.feasible

pub returns-clause-free_cycle_or_barrier : goal.returns-clause-free_cycle_or_barrier
returns-clause-free_cycle_or_barrier c =
    λ g bounds cost flow cycle total over set supply limit ends free barrier.
    barriers_leave_no_flow g bounds over set supply limit ends barrier flow free.feasible

pub returns-clause-optimal_or_free_cycle : goal.returns-clause-optimal_or_free_cycle
returns-clause-optimal_or_free_cycle c = optimal_or_free_cycle

pub returns-clause-assigned_or_short : goal.returns-clause-assigned_or_short
returns-clause-assigned_or_short c =
    λ g left cost chosen dual total set ends bipartite assigned short.
    short_leaves_no_cover g left set ends bipartite short chosen assigned.apart assigned.covered

pub returns-clause-mean_or_acyclic : goal.returns-clause-mean_or_acyclic
returns-clause-mean_or_acyclic c =
    λ g length time cycle pi total times order mean acyclic.
    orders_leave_no_cycle g order acyclic (start_of g cycle) cycle mean.is_cycle.nonempty
    mean.is_cycle.closed
