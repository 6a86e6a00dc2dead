-- What the faults of the layers below come to.
use Rattle.base_items.specs.declared.items.ItemSort.{ItemSort}
use Rattle.observe_core.specs.declared.kinds.Veto.{Veto}
use Rattle.observe_core.specs.declared.kinds.Veto.TheVariants as veto
use Rattle.notify_chain.specs.declared.key.SeatKey.{SeatKey}
use Rattle.list_digraph.specs.declared.faults.AddFault.{AddFault}
use Rattle.list_digraph.specs.declared.faults.AddFault.TheVariants as add
use Rattle.alter_graph.specs.declared.faults.AlterFault.{AlterFault}
use Rattle.alter_graph.specs.declared.faults.AlterFault.TheVariants.{Vetoed, Full, Memory}

-- a chain's refusal
abbrev pub fault_of : ItemSort → SeatKey → Veto → AlterFault
fault_of sort key veto.Refused = Vetoed sort key
fault_of sort key veto.Memory = Memory

-- a digraph's
abbrev pub limit_of : AddFault → AlterFault
limit_of (add.Full limit) = Full limit
limit_of add.Memory = Memory
