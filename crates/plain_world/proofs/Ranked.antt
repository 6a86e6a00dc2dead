-- The faults of demands, by their ranks.
use Rattle.std.proofs.Common.{◌≡◌, ℕ, ◌+◌, length, Bool, true, false, not, nat_le, refl, ◌∙◌}
use Rattle.std.proofs.Common.{Option, Some, None, map}
use Rattle.std.specs.Prelude.{option_map, option_and_then, find, is_some}
use Rattle.std.specs.Option.{option_or}
use Rattle.base_items.specs.declared.items.ItemSort.{ItemSort}
use Rattle.base_items.specs.declared.items.ItemSort.TheVariants.{Node, Arc}
use Rattle.base_items.specs.declared.limits.TheConstants.{MAX_NODES, MAX_ARCS}
use Rattle.report_text.specs.declared.faults.Fault.{Fault}
use Rattle.report_text.specs.declared.faults.Fault.TheVariants as faults
use Rattle.plain_world.specs.Tables.{Name, entry}
use Rattle.plain_world.specs.World.{World, Attribute, Plain, Tied, live, label_of}
use Rattle.plain_world.specs.Values.{type_of, spells, text_at}
use Rattle.plain_world.specs.Views.{map_of, shown_by}
use Rattle.plain_digraph.specs.Items.{count_of}
use Rattle.plain_world.specs.Demands as demand
use Rattle.plain_world.specs.Demands.{Demand, item_named}
use Rattle.plain_world.specs.Refusals.{unless, above_limits, unspelled, unlabelled}
use Rattle.plain_world.specs.Order.{order_of, BreachesAreRanked}

-- a fault that comes of this has the number
abbrev Has : ℕ → Option Fault → Type 0
Has n o = (fault : Fault) → o ≡ Some fault → order_of fault ≡ n

none : {X : Type 0} (f : X) → None ≡ Some f → ⊥
none f e = cc

some : (f g : Fault) → Some f ≡ Some g → order_of g ≡ order_of f
some f g e = cc

of_unless : (met : Bool) (f : Fault) → Has (order_of f) (unless met f)
of_unless true f g e = absurd (none g e)
of_unless false f g e = some f g e

of_map : {X : Type 0} (o : Option X) (make : X → Fault) (n : ℕ) → ((x : X) → order_of (make x) ≡ n)
    → Has n (option_map make o)
of_map None make n is g e = absurd (none g e)
of_map (Some x) make n is g e = some (make x) g e ∙ is x

of_then : {X : Type 0} (o : Option X) (next : X → Option Fault) (n : ℕ) → ((x : X) → Has n (next x))
    → Has n (option_and_then next o)
of_then None next n is g e = absurd (none g e)
of_then (Some x) next n is g e = is x g e

of_or : (o p : Option Fault) (n : ℕ) → Has n o → Has n p → Has n (option_or o p)
of_or None p n a b = b
of_or (Some f) p n a b = a

of_limits : (nodes arcs : ℕ) → Has 9 (above_limits nodes arcs)
of_limits nodes arcs =
    of_or (unless (nat_le nodes MAX_NODES) (faults.Full Node MAX_NODES))
    (unless (nat_le arcs MAX_ARCS) (faults.Full Arc MAX_ARCS)) 9
    (of_unless (nat_le nodes MAX_NODES) (faults.Full Node MAX_NODES))
    (of_unless (nat_le arcs MAX_ARCS) (faults.Full Arc MAX_ARCS))

of_attribute : (world : World) (sort : ItemSort) (name : Name) (value : Attribute)
    → Has 11 (unlabelled world sort name value)
of_attribute world sort name (Plain text) =
    of_unless (is_some (item_named world sort text)) (faults.BadValue name text)
of_attribute world sort name (Tied other id) = λ g e. absurd (none g e)

pub ranked : BreachesAreRanked
ranked world (demand.There table name) = of_unless _ _
ranked world (demand.New table name) = of_unless _ _
ranked world (demand.HasType sort type map) = of_unless _ _
ranked world (demand.HasValues sort map) = of_unless _ _
ranked world (demand.IsIndex sort map) = of_unless _ _
ranked world (demand.IsNoLabel map) = of_unless _ _
ranked world (demand.TakesFlow view map) = of_unless _ _
ranked world (demand.CanBeKept view) = of_unless _ _
ranked world (demand.IsNoBase view) = of_unless _ _
ranked world (demand.NoneReads sort map) = of_map _ _ 6 (λ _. refl)
ranked world (demand.NoneStandsOn view) = of_map _ _ 6 (λ _. refl)
ranked world (demand.HasLayerLeft view) = of_unless _ _
ranked world (demand.HasBox kind) = of_unless _ _
ranked world (demand.HasRoom nodes arcs) =
    of_limits (count_of world.graph Node + nodes) (count_of world.graph Arc + arcs)
ranked world (demand.IsSmall view) =
    of_limits (length (shown_by world view).nodes) (length (shown_by world view).by_source)
ranked world (demand.Differ u v) = of_unless _ _
ranked world (demand.Spells sort map item text) =
    of_then (option_and_then type_of (map_of world sort map))
    (λ type. unless (spells type text) (faults.BadValue item text)) 11
    (λ type. of_unless (spells type text) (faults.BadValue item text))
ranked world (demand.AllSpell sort map type) =
    of_then (map_of world sort map) (unspelled world sort type) 11
    (λ held. of_map (find (λ id. not (spells type (text_at held id))) (live world sort))
    (λ id. faults.BadValue (label_of world sort id) (text_at held id)) 11 (λ _. refl))
ranked world (demand.TellsLabel sort attribute) =
    of_then (entry world.attributes attribute) (unlabelled world sort attribute) 11
    (of_attribute world sort attribute)
ranked world (demand.ArcsInRange view map) = of_map _ _ 12 (λ _. refl)
ranked world (demand.NodesInRange view map) = of_map _ _ 12 (λ _. refl)
ranked world (demand.ArcsAtLeast view least map) = of_map _ _ 13 (λ _. refl)
ranked world (demand.InOrder view low up) = of_map _ _ 14 (λ _. refl)
ranked world (demand.JoinsSides view left) = of_map _ _ 15 (λ _. refl)
ranked world (demand.IsValid snapshot) =
    of_then (entry world.snapshots snapshot) (λ copy. unless (is_some copy) (faults.Stale snapshot))
    16
    (λ copy. of_unless (is_some copy) (faults.Stale snapshot))
ranked world (demand.MeetsLaw guard sort kind limit) = of_unless _ _
