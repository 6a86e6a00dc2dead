-- What a query of a largest flow tells, and which maps take a flow.
use Rattle.std.proofs.Common.{◌≡◌, ℕ, ◌<◌, ◌^◌, ◌≤ℤ◌, ℤ, pos, Bool, true, false, ◌&&◌, List, []}
use Rattle.std.proofs.Common.{◌∷◌, map, length, All, refl, sym, ap, subst, ◌∙◌, Option, None, Some}
use Rattle.std.specs.Prelude.{option_and_then}
use Rattle.std.specs.Option.{option_map_or, option_or}
use Rattle.std.proofs.lemmas.Bool.{true≢false, and_parts}
use Rattle.std.proofs.lemmas.List.{length-map}
use Rattle.std.proofs.lemmas.Option.{none-some}
use Rattle.base_items.specs.declared.items.ItemSort.{ItemSort}
use Rattle.base_items.specs.declared.items.ItemSort.TheVariants.{Arc}
use Rattle.script_words.specs.declared.commands.Command.TheVariants as commands
use Rattle.script_words.specs.declared.commands.MapType.{MapType}
use Rattle.script_words.specs.declared.commands.MapType.TheVariants as types
use Rattle.report_text.specs.declared.faults.Fault.{Fault}
use Rattle.report_text.specs.declared.faults.Fault.TheVariants as faults
use Rattle.report_text.specs.declared.faults.StepFault.{StepFault}
use Rattle.report_text.specs.declared.faults.StepFault.TheVariants.{Refused, Memory}
use Rattle.report_text.specs.declared.replies.FlowLine.{FlowLine}
use Rattle.report_text.specs.declared.replies.Reply.TheVariants as replies
use Rattle.plain_certificates.specs.Cuts.{IsCut}
use Rattle.plain_certificates.specs.Numbered.{Numbered}
use Rattle.plain_certificates.specs.Tables.{at}
use Rattle.plain_views.specs.Renaming.{renamed}
use Rattle.plain_views.specs.Towers.{Layer, Reverse, Sub, Undirect, Residual, Split}
use Rattle.plain_world.specs.declared.answers.Answer.TheVariants.{Answered}
use Rattle.plain_world.specs.Demands as demands
use Rattle.plain_world.specs.Queries.{FindsCut, graph, on_arcs, number_of, flow_lines, names_in}
use Rattle.plain_world.specs.Queries.{with_flow}
use Rattle.plain_world.specs.Refusals.{breach, unless, has_single_arcs}
use Rattle.plain_world.specs.Steps.{Step}
use Rattle.plain_world.specs.Tables.{Name}
use Rattle.plain_world.specs.Values.{type_of}
use Rattle.plain_world.specs.Views.{has_type, is_type, map_of, tower_of as named_tower}
use Rattle.plain_world.specs.World.{World}
use Rattle.plain_world.proofs.DemandsMet.{met}
use Rattle.static_digraph.specs.Fixed.{graph_of}
use Rattle.flow_preflow.specs.Answers.{IsAnswer}
use Rattle.flow_replies.proofs.SameCuts.{cut_alike}
use Rattle.desk_world.specs.AskedFlows.{AsksFlow}
use Rattle.desk_world.specs.Faults.{Is}
use Rattle.desk_world.specs.Flows.{shows_single}
use Rattle.desk_world.specs.MapNumbers as numbers
use Rattle.desk_world.specs.MapNumbers.{numbered_tower}
use Rattle.desk_world.specs.NumberLaws.{one_type}
use Rattle.desk_world.specs.Values.{HasType}
use Rattle.desk_world.specs.declared.asked_flows.AskedFlow.{AskedFlow}
use Rattle.desk_world.proofs.AskedInts.{value_on}
use Rattle.desk_world.proofs.Demanded.{fault_of}

-- ---- maps that take a flow

single_alike : (name : ItemSort → Name → ℕ) (tower : List (Layer Name))
    → has_single_arcs tower ≡ shows_single (map (renamed name) tower)
single_alike name [] = refl
single_alike name (Reverse ∷ below) = single_alike name below
single_alike name (Sub nodes arcs ∷ below) = single_alike name below
single_alike name (Undirect ∷ below) = refl
single_alike name (Residual cap flow ∷ below) = refl
single_alike name (Split ∷ below) = single_alike name below

ints_by : (o : Option MapType) → option_map_or (is_type types.Ints) o false ≡ true
    → o ≡ Some types.Ints
ints_by None is = absurd (true≢false (sym is))
ints_by (Some type) is = ap Some (sym (one_type types.Ints type is))

-- a fault of the first of two tests
first_fails : (one other : Bool) (fault : Fault) (told : StepFault) → Is (unless one fault) told
    → Is (unless (one && other) fault) told
first_fails true other fault (Refused f) is = absurd (none-some f is)
first_fails false other fault (Refused f) is = is
first_fails one other fault Memory is = tt

module _ (world : World) (view name : Name) where
  -- it has no ints
  pub no_ints : (fault : StepFault) → Is (breach world (demands.HasType Arc types.Ints name)) fault
      → Is (breach world (demands.TakesFlow view name)) fault
  no_ints fault is =
      first_fails (has_type world Arc types.Ints name) (has_single_arcs (named_tower world view))
      (faults.WrongType name) fault is

  -- whether the view shows arcs once at most decides where it has ints
  pub by_single : breach world (demands.HasType Arc types.Ints name) ≡ None
      → (tower : List (Layer ℕ)) → tower ≡ numbered_tower world view → (single : Bool)
      → single ≡ shows_single tower
      → breach world (demands.TakesFlow view name) ≡ unless single (faults.WrongType name)
  by_single typed tower layers single is =
      let ints = met (has_type world Arc types.Ints name) (faults.WrongType name) typed in
      ap (λ b. unless (b && has_single_arcs (named_tower world view)) (faults.WrongType name)) ints
      ∙ ap (λ b. unless b (faults.WrongType name))
      (single_alike (numbers.number_of world) (named_tower world view)
      ∙ ap shows_single (sym layers) ∙ sym is)

  -- a map that takes a flow has ints
  pub takes_ints : breach world (demands.TakesFlow view name) ≡ None
      → HasType world Arc name types.Ints
  takes_ints takes =
      ints_by (option_and_then type_of (map_of world Arc name))
      (and_parts (has_type world Arc types.Ints name) (has_single_arcs (named_tower world view))
      (met (has_type world Arc types.Ints name && has_single_arcs (named_tower world view))
      (faults.WrongType name) takes)).0

-- ---- the answer

module _ (world : World) (view cap s t : Name) (read : AskedFlow)
    (asks : AsksFlow world view cap s t read) where
  abbrev pub shown_view : Name
  shown_view = read.asked.view.now

  pub graph_is : graph_of read.asked.fixed ≡ graph world view
  graph_is = asks.asks.numbers.graph ∙ ap (graph world) asks.view_is

  pub caps_all : length read.caps.items ≡ (graph_of read.asked.fixed).arcs
  caps_all = ap length asks.caps ∙ length-map _ _ ∙ ap (λ (g : Numbered). g.arcs) (sym graph_is)

  pub caps_high : All (λ x. x ≤ℤ pos (2 ^ 36)) read.caps.items
  caps_high k d below = (asks.small k d below).1

  pub source_below : read.source < (graph_of read.asked.fixed).nodes
  source_below =
      subst (λ (g : Numbered). read.source < g.nodes) (sym graph_is) asks.source_inside

  pub target_below : read.target < (graph_of read.asked.fixed).nodes
  target_below =
      subst (λ (g : Numbered). read.target < g.nodes) (sym graph_is) asks.target_inside

  module _ (value : ℤ) (flow : List ℤ) (side : List Bool)
      (answer : IsAnswer (graph_of read.asked.fixed) read.caps.items read.source read.target value
      flow side) where
    pub flow_all : length flow ≡ (graph world shown_view).arcs
    flow_all = answer.flow_all ∙ ap (λ (g : Numbered). g.arcs) asks.asks.numbers.graph

    pub side_all : length side ≡ (graph world shown_view).nodes
    side_all = answer.side_all ∙ ap (λ (g : Numbered). g.nodes) asks.asks.numbers.graph

    own_cut : IsCut (graph world view) (at (pos 0) read.caps.items) (number_of world view s)
        (number_of world view t) (at (pos 0) flow) (at false side) value
    own_cut =
        let caps = at (pos 0) read.caps.items in
        let flows = at (pos 0) flow in
        let sides = at false side in
        subst (λ n. IsCut (graph world view) caps (number_of world view s) n flows sides value)
        asks.target_is
        (subst (λ n. IsCut (graph world view) caps n read.target flows sides value)
        asks.source_is
        (subst (λ g. IsCut g caps read.source read.target flows sides value) graph_is answer.cut))

    pub finds_cut : (lines : List FlowLine) (names : List Name)
        → lines ≡ flow_lines world shown_view (at (pos 0) flow)
        → names ≡ names_in world shown_view (at false side)
        → FindsCut world view cap s t (at (pos 0) flow) (replies.MaxFlow lines names value)
    finds_cut lines names lined named = record {
      side = at false side;
      value = value;
      certificate = cut_alike (graph world view) (at (pos 0) read.caps.items)
          (on_arcs world view cap) (number_of world view s) (number_of world view t)
          (at (pos 0) flow) (at false side) value
          (λ arc below. ap (λ xs. at (pos 0) xs arc) asks.caps ∙ value_on world view cap arc below)
          own_cut;
      reply_is = λ i. replies.MaxFlow
          ((lined ∙ ap (λ v. flow_lines world v (at (pos 0) flow)) asks.view_is) i)
          ((named ∙ ap (λ v. names_in world v (at false side)) asks.view_is) i) value;
    }

    pub flow_answered : (into : Option Name)
        → fault_of world (demands.demands (commands.MaxFlow view cap s t into)) ≡ None
        → (lines : List FlowLine) (names : List Name)
        → lines ≡ flow_lines world shown_view (at (pos 0) flow)
        → names ≡ names_in world shown_view (at false side) → (later : World)
        → later ≡ with_flow world shown_view into (at (pos 0) flow)
        → Step world (commands.MaxFlow view cap s t into)
        (Answered (replies.MaxFlow lines names value)) later
    flow_answered into all_met lines names lined named later wrote = (
      ap (λ o. option_or o None) all_met,
      (
        at (pos 0) flow,
        finds_cut lines names lined named,
        wrote ∙ ap (λ v. with_flow world v into (at (pos 0) flow)) asks.view_is,
      ),
    )
