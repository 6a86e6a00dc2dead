-- The order of the faults, and that the demands of each command follow it.
use Rattle.std.specs.Prelude.{◌≡◌, ℕ, ◌&&◌, Bool, true, nat_le, List, [], ◌∷◌, map, Some}
use Rattle.script_words.specs.declared.commands.Command.{Command}
use Rattle.report_text.specs.declared.faults.Fault.{Fault}
use Rattle.report_text.specs.declared.faults.Fault.TheVariants as faults
use Rattle.plain_world.specs.World.{World}
use Rattle.plain_world.specs.Demands as demand
use Rattle.plain_world.specs.Demands.{Demand, demands}
use Rattle.plain_world.specs.Refusals.{breach}

-- a fault of a lower number comes first
abbrev pub order_of : Fault → ℕ
order_of (faults.BadLine column) = 1
order_of (faults.Unknown name) = 2
order_of (faults.Taken name) = 3
order_of (faults.NoErase command) = 4
order_of (faults.WrongType name) = 5
order_of (faults.InUse user) = 6
order_of (faults.TooDeep limit) = 7
order_of (faults.NoGuard kind) = 8
order_of (faults.Full sort limit) = 9
order_of (faults.SameNode node) = 10
order_of (faults.BadValue item token) = 11
order_of (faults.OutOfRange item value) = 12
order_of (faults.Negative arc) = 13
order_of (faults.Crossed arc) = 14
order_of (faults.NotBipartite arc) = 15
order_of (faults.Stale snapshot) = 16
order_of (faults.Vetoed guard) = 17

-- the number of the fault of a demand
abbrev pub rank_of : Demand → ℕ
rank_of (demand.There table name) = 2
rank_of (demand.New table name) = 3
rank_of (demand.HasType sort type map) = 5
rank_of (demand.HasValues sort map) = 5
rank_of (demand.IsIndex sort map) = 5
rank_of (demand.IsNoLabel map) = 5
rank_of (demand.TakesFlow view map) = 5
rank_of (demand.CanBeKept view) = 5
rank_of (demand.IsNoBase view) = 5
rank_of (demand.NoneReads sort map) = 6
rank_of (demand.NoneStandsOn view) = 6
rank_of (demand.HasLayerLeft view) = 7
rank_of (demand.HasBox kind) = 8
rank_of (demand.HasRoom nodes arcs) = 9
rank_of (demand.IsSmall view) = 9
rank_of (demand.Differ u v) = 10
rank_of (demand.Spells sort map item text) = 11
rank_of (demand.AllSpell sort map type) = 11
rank_of (demand.TellsLabel sort attribute) = 11
rank_of (demand.ArcsInRange view map) = 12
rank_of (demand.NodesInRange view map) = 12
rank_of (demand.ArcsAtLeast view least map) = 13
rank_of (demand.InOrder view low up) = 14
rank_of (demand.JoinsSides view left) = 15
rank_of (demand.IsValid snapshot) = 16
rank_of (demand.MeetsLaw guard sort kind limit) = 17

-- the numbers don't fall
abbrev pub never_falls : List ℕ → Bool
never_falls [] = true
never_falls (n ∷ []) = true
never_falls (n ∷ m ∷ numbers) = nat_le n m && never_falls (m ∷ numbers)

abbrev pub BreachesAreRanked : Type 0
BreachesAreRanked = (world : World) (d : Demand) (fault : Fault) → breach world d ≡ Some fault
    → order_of fault ≡ rank_of d

abbrev pub DemandsAreOrdered : Type 0
DemandsAreOrdered = (command : Command) → never_falls (map rank_of (demands command)) ≡ true
