-- What a query chooses, by the numbers of the nodes and arcs of its view, and that it tells the
-- answer.
use Rattle.std.specs.Prelude.{◌≡◌, ℕ, ◌<◌, ℤ, Bool, List, Option}
use Rattle.std.proofs.Common.{inl, inr}
use Rattle.script_words.specs.declared.commands.Command.{Command}
use Rattle.script_words.specs.declared.commands.Command.TheVariants as commands
use Rattle.report_text.specs.declared.replies.Reply.{Reply}
use Rattle.plain_certificates.specs.Feasible.{Bounds}
use Rattle.plain_world.specs.Tables.{Name}
use Rattle.plain_world.specs.World.{World}
use Rattle.plain_world.specs.Views.{base}
use Rattle.plain_world.specs.Queries.{graph, name_of_arc, bounds_of, FindsCheapest, FindsBasic}
use Rattle.plain_world.specs.Steps.{Does}
use Rattle.plain_world.specs.Valid.{IsWorld}

-- what a query chooses: distances and last arcs, cycles, flows, sets of nodes, potentials, pairs,
-- and an order of the nodes. Lengths, costs and supplies follow from these.
pub data Choice : Type 0 where
  None : Choice
  Paths : (dist : ℕ → Option ℤ) (via : ℕ → Option ℕ) → Choice
  Cycle : List ℕ → Choice
  Cut : (flow : ℕ → ℤ) (side : ℕ → Bool) → Choice
  Flow : (ℕ → ℤ) → Choice
  Barrier : (over : Bool) (set : ℕ → Bool) → Choice
  Optimum : (flow pi : ℕ → ℤ) → Choice
  FreeCycle : (flow : ℕ → ℤ) → List ℕ → Choice
  Pairs : (chosen hall : ℕ → Bool) → Choice
  Priced : (chosen : ℕ → Bool) (dual : ℕ → ℤ) → Choice
  Short : (ℕ → Bool) → Choice
  Mean : List ℕ → (pi : ℕ → ℤ) → Choice
  Order : List ℕ → Choice

-- the choice of a cheapest flow, or of what shows that there is none
abbrev pub cheapest_choice : (world : World) (view : Name) (bounds : Bounds) (cost : Name)
    (into : Option Name) (reply : Reply) (later : World)
    → FindsCheapest world view bounds cost into reply later → Choice
cheapest_choice world view bounds cost into reply later (inl does) = Optimum does.0 does.1.pi
cheapest_choice world view bounds cost into reply later (inr (inl does)) =
    Barrier does.0.over does.0.set
cheapest_choice world view bounds cost into reply later (inr (inr does)) =
    FreeCycle does.0 does.1.cycle

-- an answer with a basic flow is one with a cheapest flow
abbrev pub as_cheapest : (world : World) (view : Name) (bounds : Bounds) (cost : Name)
    (into : Option Name) (reply : Reply) (later : World)
    → FindsBasic world view bounds cost into reply later
    → FindsCheapest world view bounds cost into reply later
as_cheapest world view bounds cost into reply later (inl does) =
    inl (does.0, does.1.0, does.2)
as_cheapest world view bounds cost into reply later (inr (inl does)) = inr (inl does)
as_cheapest world view bounds cost into reply later (inr (inr does)) = inr (inr does)

-- the choice that an answer shows
abbrev pub choice_of : (world : World) (command : Command) (reply : Reply) (later : World)
    → Does world command reply later → Choice
choice_of world (commands.Dijkstra view length start) reply later does =
    Paths does.0.dist does.0.via
choice_of world (commands.Bellman view length start) reply later (inl does) =
    Paths does.0.dist does.0.via
choice_of world (commands.Bellman view length start) reply later (inr does) = Cycle does.0.cycle
choice_of world (commands.MaxFlow view cap s t into) reply later does = Cut does.0 does.1.side
choice_of world (commands.Circulate view low up supply into) reply later (inl does) = Flow does.0
choice_of world (commands.Circulate view low up supply into) reply later (inr does) =
    Barrier does.0.over does.0.set
choice_of world (commands.MinCost view low up cost supply into) reply later does =
    cheapest_choice world view (bounds_of world view low up supply) cost into reply later does
choice_of world (commands.Simplex view low up cost supply into) reply later does =
    cheapest_choice world view (bounds_of world view low up supply) cost into reply later
    (as_cheapest world view (bounds_of world view low up supply) cost into reply later does)
choice_of world (commands.Match view left) reply later does = Pairs does.0.chosen does.0.hall
choice_of world (commands.Heaviest view left weight) reply later does =
    Priced does.0.chosen does.0.dual
choice_of world (commands.Assign view left cost) reply later (inl does) =
    Priced does.0.chosen does.0.dual
choice_of world (commands.Assign view left cost) reply later (inr does) = Short does.0.set
choice_of world (commands.MeanCycle view length time) reply later (inl does) =
    Mean does.0.cycle does.0.pi
choice_of world (commands.MeanCycle view length time) reply later (inr does) = Order does.0.order
choice_of world _ reply later does = None

-- the same at each number below the count
abbrev pub Same : {X : Type 0} → ℕ → (ℕ → X) → (ℕ → X) → Type 0
Same count one other = (n : ℕ) → n < count → one n ≡ other n

-- two choices agree on the nodes and the arcs
abbrev pub Agree : (nodes arcs : ℕ) → Choice → Choice → Type 0
Agree nodes arcs None None = Unit {0}
Agree nodes arcs (Paths dist via) (Paths dist_b via_b) =
    Same nodes dist dist_b × Same nodes via via_b
Agree nodes arcs (Cycle cycle) (Cycle cycle_b) = cycle ≡ cycle_b
Agree nodes arcs (Cut flow side) (Cut flow_b side_b) =
    Same arcs flow flow_b × Same nodes side side_b
Agree nodes arcs (Flow flow) (Flow flow_b) = Same arcs flow flow_b
Agree nodes arcs (Barrier over set) (Barrier over_b set_b) =
    (over ≡ over_b) × Same nodes set set_b
Agree nodes arcs (Optimum flow pi) (Optimum flow_b pi_b) =
    Same arcs flow flow_b × Same nodes pi pi_b
Agree nodes arcs (FreeCycle flow cycle) (FreeCycle flow_b cycle_b) =
    Same arcs flow flow_b × (cycle ≡ cycle_b)
Agree nodes arcs (Pairs chosen hall) (Pairs chosen_b hall_b) =
    Same arcs chosen chosen_b × Same nodes hall hall_b
Agree nodes arcs (Priced chosen dual) (Priced chosen_b dual_b) =
    Same arcs chosen chosen_b × Same nodes dual dual_b
Agree nodes arcs (Short set) (Short set_b) = Same nodes set set_b
Agree nodes arcs (Mean cycle pi) (Mean cycle_b pi_b) = (cycle ≡ cycle_b) × Same nodes pi pi_b
Agree nodes arcs (Order order) (Order order_b) = order ≡ order_b
Agree nodes arcs _ _ = ⊥

-- the view of a query that chooses
abbrev pub view_of : Command → Name
view_of (commands.Dijkstra view length start) = view
view_of (commands.Bellman view length start) = view
view_of (commands.MaxFlow view cap s t into) = view
view_of (commands.Circulate view low up supply into) = view
view_of (commands.MinCost view low up cost supply into) = view
view_of (commands.Simplex view low up cost supply into) = view
view_of (commands.Match view left) = view
view_of (commands.Heaviest view left weight) = view
view_of (commands.Assign view left cost) = view
view_of (commands.MeanCycle view length time) = view
view_of _ = base

-- ---- laws

-- in a valid world, answers of one command by choices that agree are the same, and leave the same
-- world
abbrev pub ChoicesTellAnswers : Type 0
ChoicesTellAnswers = (world later after : World) (command : Command) (reply other : Reply)
    (does : Does world command reply later) (also : Does world command other after)
    → IsWorld world
    → Agree (graph world (view_of command)).nodes (graph world (view_of command)).arcs
    (choice_of world command reply later does) (choice_of world command other after also)
    → (reply ≡ other) × (later ≡ after)

-- no two arcs of the view have one name
abbrev pub ArcNamesDiffer : World → Name → Type 0
ArcNamesDiffer world view = (arc other : ℕ) → arc < (graph world view).arcs
    → other < (graph world view).arcs → name_of_arc world view arc ≡ name_of_arc world view other
    → arc ≡ other

-- one answer of a command leaves one world, where the names of the view's arcs differ
abbrev pub AnswersTellWorlds : Type 0
AnswersTellWorlds = (world later after : World) (command : Command) (reply : Reply)
    → ArcNamesDiffer world (view_of command) → Does world command reply later
    → Does world command reply after → later ≡ after
