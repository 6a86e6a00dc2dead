-- Flows that are written into a map keep a world valid.
use Rattle.std.proofs.Common.{◌≡◌, ℕ, ℤ, true, sym}
use Rattle.std.proofs.Common.{subst, Option, None, Some}
use Rattle.std.proofs.Common.{inl, inr}
use Rattle.std.proofs.lemmas.Bool.{and_parts}
use Rattle.base_items.specs.declared.items.ItemSort.TheVariants.{Arc}
use Rattle.script_words.specs.declared.commands.Command.TheVariants as commands
use Rattle.script_words.specs.declared.commands.MapType.TheVariants as types
use Rattle.report_text.specs.declared.replies.Reply.{Reply}
use Rattle.plain_certificates.specs.Feasible.{Bounds}
use Rattle.plain_world.specs.Tables.{Name}
use Rattle.plain_world.specs.World.{World}
use Rattle.plain_world.specs.Views.{has_type}
use Rattle.plain_world.specs.Demands as demand
use Rattle.plain_world.specs.Demands.{Demand, demands, is_there, flow_demands, item_named}
use Rattle.plain_world.specs.Refusals.{breach}
use Rattle.plain_world.specs.Queries.{with_flow, flow_on_base, FindsCheapest}
use Rattle.plain_world.proofs.Attaching.{typed}
use Rattle.plain_world.proofs.WorldParts.{Parts}
use Rattle.plain_world.proofs.MapsKept.{flow_kept}
use Rattle.plain_world.proofs.DemandsMet.{AreMet, met}

abbrev pub Takes : World → Option Name → Type 0
Takes world None = Unit {0}
Takes world (Some name) = typed world.arcs.maps types.Ints name ≡ true

takes_ints : (world : World) (view name : Name)
    → breach world (demand.TakesFlow view name) ≡ None
    → typed world.arcs.maps types.Ints name ≡ true
takes_ints world view name none =
    (and_parts (has_type world Arc types.Ints name) _ (met _ _ none)).0

takes_flow : (world : World) (view : Name) (low up cost supply : Option Name) (name : Name)
    → AreMet world (flow_demands view low up cost supply (Some name))
    → typed world.arcs.maps types.Ints name ≡ true
takes_flow world view None None None None name are =
    takes_ints world view name are.1.1.0
takes_flow world view None None None (Some supply) name are =
    takes_ints world view name are.1.1.1.1.0
takes_flow world view None None (Some cost) None name are =
    takes_ints world view name are.1.1.1.1.0
takes_flow world view None None (Some cost) (Some supply) name are =
    takes_ints world view name are.1.1.1.1.1.1.0
takes_flow world view None (Some up) None None name are =
    takes_ints world view name are.1.1.1.1.0
takes_flow world view None (Some up) None (Some supply) name are =
    takes_ints world view name are.1.1.1.1.1.1.0
takes_flow world view None (Some up) (Some cost) None name are =
    takes_ints world view name are.1.1.1.1.1.1.0
takes_flow world view None (Some up) (Some cost) (Some supply) name are =
    takes_ints world view name are.1.1.1.1.1.1.1.1.0
takes_flow world view (Some low) None None None name are =
    takes_ints world view name are.1.1.1.1.0
takes_flow world view (Some low) None None (Some supply) name are =
    takes_ints world view name are.1.1.1.1.1.1.0
takes_flow world view (Some low) None (Some cost) None name are =
    takes_ints world view name are.1.1.1.1.1.1.0
takes_flow world view (Some low) None (Some cost) (Some supply) name are =
    takes_ints world view name are.1.1.1.1.1.1.1.1.0
takes_flow world view (Some low) (Some up) None None name are =
    takes_ints world view name are.1.1.1.1.1.1.0
takes_flow world view (Some low) (Some up) None (Some supply) name are =
    takes_ints world view name are.1.1.1.1.1.1.1.1.0
takes_flow world view (Some low) (Some up) (Some cost) None name are =
    takes_ints world view name are.1.1.1.1.1.1.1.1.0
takes_flow world view (Some low) (Some up) (Some cost) (Some supply) name are =
    takes_ints world view name are.1.1.1.1.1.1.1.1.1.1.0

pub takes : (world : World) (view : Name) (low up cost supply into : Option Name)
    → AreMet world (flow_demands view low up cost supply into) → Takes world into
takes world view low up cost supply None are = tt
takes world view low up cost supply (Some name) are =
    takes_flow world view low up cost supply name are

pub largest_takes : (world : World) (view cap s t : Name) (into : Option Name)
    → AreMet world (demands (commands.MaxFlow view cap s t into)) → Takes world into
largest_takes world view cap s t None are = tt
largest_takes world view cap s t (Some name) are = takes_ints world view name are.1.1.1.1.1.1.0

pub written_ok : (world : World) (view : Name) (into : Option Name) (flow : ℕ → ℤ) → Parts world
    → Takes world into → Parts (with_flow world view into flow)
written_ok world view None flow parts can = parts
written_ok world view (Some name) flow parts can =
    flow_kept world name (flow_on_base world view flow) parts can

pub cheapest_ok : (world later : World) (view : Name) (bounds : Bounds) (cost : Name)
    (into : Option Name) (reply : Reply) → Parts world → Takes world into
    → FindsCheapest world view bounds cost into reply later → Parts later
cheapest_ok world later view bounds cost into reply parts can (inl does) =
    subst Parts (sym does.2) (written_ok world view into does.0 parts can)
cheapest_ok world later view bounds cost into reply parts can (inr (inl does)) =
    subst Parts (sym does.1) parts
cheapest_ok world later view bounds cost into reply parts can (inr (inr does)) =
    subst Parts (sym does.2) (written_ok world view into does.0 parts can)
