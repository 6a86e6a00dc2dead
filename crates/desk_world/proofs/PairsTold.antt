-- What a query of pairs tells, from the pairing of a view by number.
use Rattle.std.proofs.Common.{◌≡◌, ℕ, ◌<◌, Bool, false, not, cond, List, [], ◌∷◌, map, filter}
use Rattle.std.proofs.Common.{length, All, refl, sym, ap, subst, ◌∙◌, Option, None, Some, ◌+◌}
use Rattle.std.proofs.Common.{arith}
use Rattle.std.specs.Prelude.{find, option_map}
use Rattle.std.specs.List.{range_with_len}
use Rattle.std.specs.Option.{option_or}
use Rattle.std.proofs.lemmas.List.{length-map}
use Rattle.std.proofs.lemmas.List.Elements.{All-from_get_or}
use Rattle.std.proofs.lemmas.List.FromFn.{get_or-range_with_len, length-range_with_len}
use Rattle.base_items.specs.declared.items.ItemSort.TheVariants.{Node}
use Rattle.script_words.specs.declared.commands.Command.TheVariants as commands
use Rattle.script_words.specs.declared.commands.MapType.TheVariants as types
use Rattle.report_text.specs.declared.faults.Fault.TheVariants as faults
use Rattle.report_text.specs.declared.faults.StepFault.{StepFault}
use Rattle.report_text.specs.declared.replies.PairLine.{PairLine}
use Rattle.report_text.specs.declared.replies.Reply.TheVariants as replies
use Rattle.plain_certificates.specs.Numbered.{Numbered}
use Rattle.plain_certificates.specs.Numbering.{arc_at}
use Rattle.plain_certificates.specs.Pairings.{IsPairing}
use Rattle.plain_certificates.specs.Tables.{at}
use Rattle.plain_certificates.proofs.Numbering.{numbered_keeps_ends, numbered_has_ends}
use Rattle.plain_views.specs.Shown.{Shown, ShownArc, IsShown}
use Rattle.plain_views.proofs.Towered.{tower_is_shown}
use Rattle.plain_world.specs.declared.answers.Answer.TheVariants.{Answered}
use Rattle.plain_world.specs.Demands as demands
use Rattle.plain_world.specs.Demands.{Demand, pair_demands}
use Rattle.plain_world.specs.Queries.{FindsPairing, graph, on_left, pair_line, names_in}
use Rattle.plain_world.specs.Queries.{name_of_arc}
use Rattle.plain_world.specs.Refusals.{breach, is_one_sided}
use Rattle.plain_world.specs.Steps.{Step}
use Rattle.plain_world.specs.Tables.{Name}
use Rattle.plain_world.specs.Valid.{IsWorld}
use Rattle.plain_world.specs.Views as views
use Rattle.plain_world.specs.Views.{shown_by, arcs_of, arc_name, is_left}
use Rattle.plain_world.specs.World.{World}
use Rattle.plain_world.proofs.TableChanges.{all_filter}
use Rattle.static_digraph.specs.Fixed.{FixedOf, graph_of}
use Rattle.pair_match.specs.Answers.{IsAnswer}
use Rattle.view_numbers.specs.Breaches.{IsFirst}
use Rattle.view_numbers.specs.Turned as numbers
use Rattle.tower_numbers.proofs.Firsts.{first_found}
use Rattle.flow_replies.proofs.SamePairs.{pairing_alike}
use Rattle.desk_world.specs.AskedPairs.{AsksPairs}
use Rattle.desk_world.specs.AskedViews.{left_nodes}
use Rattle.desk_world.specs.declared.asked_pairs.AskedPairs.{AskedPairs}
use Rattle.desk_world.specs.Faults.{Is}
use Rattle.desk_world.proofs.Demanded.{fault_of, met, not_met}
use Rattle.desk_world.proofs.FlowLines.{side_at}

-- ---- numbers below a count

-- those of a range that pass a test
pub picked_below : (test : ℕ → Bool) (count : ℕ)
    → All (λ k. k < count) (filter test (range_with_len 0 count))
picked_below test count =
    all_filter (λ k. k < count) test (range_with_len 0 count)
    (All-from_get_or (λ k. k < count) (range_with_len 0 count) 0 (λ i inside.
    (let below : i < count = subst (λ n. i < n) (length-range_with_len 0 count) inside in
    let also : 0 + i < count = omega (arith, below) in
    subst (λ k. k < count) (sym (get_or-range_with_len 0 count i 0 below)) also)))

-- what a view shows is a valid digraph
pub view_is_shown : (world : World) (view : Name) → IsWorld world → IsShown (shown_by world view)
view_is_shown world view ok =
    tower_is_shown Name (views.values_of world) world.graph ok.graph_ok
    (views.tower_of world view)

module _ (world : World) (view side : Name) (left : List Bool)
    (is : left ≡ left_nodes world view side) (fixed : FixedOf)
    (same : graph_of fixed ≡ graph world view) (shows : IsShown (shown_by world view)) where
  abbrev p : Shown
  p = shown_by world view

  -- whether an arc is one-sided, by its number
  sides_alike : (k : ℕ) → k < (graph world view).arcs
      → numbers.is_one_sided (graph_of fixed) left k
      ≡ is_one_sided (is_left world view side) (arc_at p k)
  sides_alike k below =
      let ends = numbered_has_ends p shows k below in
      let keeps = numbered_keeps_ends p k shows below in
      let from : at false left ((graph world view).from k)
      ≡ is_left world view side (arc_at p k).from =
      side_at world view side left is ((graph world view).from k) ends.0
      ∙ ap (is_left world view side) keeps.0 in
      let to : at false left ((graph world view).to k) ≡ is_left world view side (arc_at p k).to =
      side_at world view side left is ((graph world view).to k) ends.1
      ∙ ap (is_left world view side) keeps.1 in
      ap (λ g. numbers.is_one_sided g left k) same
      ∙ (λ i. cond (from i) (to i) (not (to i)))

  one_sided_found : (r : Option ℕ)
      → IsFirst (graph_of fixed).arcs (numbers.is_one_sided (graph_of fixed) left) r
      → find (is_one_sided (is_left world view side)) (arcs_of world view)
      ≡ option_map (arc_at p) r
  one_sided_found r first =
      first_found (record { id = 0; from = 0; to = 0 }) (is_one_sided (is_left world view side))
      (arcs_of world view) (numbers.is_one_sided (graph_of fixed) left) sides_alike r
      (subst (λ n. IsFirst n (numbers.is_one_sided (graph_of fixed) left) r)
      (ap (λ (g : Numbered). g.arcs) same) first)

  -- each arc joins the two sides, or this one is the first that doesn't
  pub sides_joined : IsFirst (graph_of fixed).arcs (numbers.is_one_sided (graph_of fixed) left) None
      → breach world (demands.JoinsSides view side) ≡ None
  sides_joined first =
      ap (option_map (λ (arc : ShownArc). faults.NotBipartite (arc_name world view arc.id)))
      (one_sided_found None first)

  pub side_broken : (k : ℕ) (text : Name)
      → IsFirst (graph_of fixed).arcs (numbers.is_one_sided (graph_of fixed) left) (Some k)
      → text ≡ name_of_arc world view k
      → breach world (demands.JoinsSides view side) ≡ Some (faults.NotBipartite text)
  side_broken k text first called =
      ap (option_map (λ (arc : ShownArc). faults.NotBipartite (arc_name world view arc.id)))
      (one_sided_found (Some k) first)
      ∙ ap (λ t. Some (faults.NotBipartite t)) (sym called)

module _ (world : World) (view side : Name) (left : List Bool)
    (is : left ≡ left_nodes world view side) (fixed : FixedOf)
    (same : graph_of fixed ≡ graph world view) (arcs : List ℕ) (hall : List Bool)
    (answer : IsAnswer (graph_of fixed) (at false left) arcs hall) where
  pub pairs_below : All (λ arc. arc < (graph world view).arcs) arcs
  pairs_below =
      subst (λ n. All (λ arc. arc < n) arcs) (ap (λ (g : Numbered). g.arcs) same)
      (subst (All (λ arc. arc < (graph_of fixed).arcs)) (sym answer.arcs_are)
      (picked_below answer.chosen (graph_of fixed).arcs))

  pub hall_all : length hall ≡ (graph world view).nodes
  hall_all = answer.hall_all ∙ ap (λ (g : Numbered). g.nodes) same

  pub finds_pairing : (lines : List PairLine) (names : List Name)
      → lines ≡ map (pair_line world view (on_left world view side)) arcs
      → names ≡ names_in world view (at false hall)
      → FindsPairing world view side (replies.Match lines names)
  finds_pairing lines names lined named = record {
    chosen = answer.chosen;
    hall = at false hall;
    certificate = pairing_alike (graph world view) (at false left) (on_left world view side)
        answer.chosen (at false hall) (side_at world view side left is)
        (subst (λ g. IsPairing g (at false left) answer.chosen (at false hall)) same
        answer.pairing);
    reply_is = λ i. replies.Match
        ((lined ∙ ap (map (pair_line world view (on_left world view side)))
        (answer.arcs_are ∙ ap (λ (g : Numbered). filter answer.chosen (range_with_len 0 g.arcs))
        same)) i)
        (named i);
  }

  -- the answer of the command
  pub pairs_answered : fault_of world (pair_demands view side None) ≡ None
      → (lines : List PairLine) (names : List Name)
      → lines ≡ map (pair_line world view (on_left world view side)) arcs
      → names ≡ names_in world view (at false hall)
      → Step world (commands.Match view side) (Answered (replies.Match lines names)) world
  pairs_answered met lines names lined named =
      (ap (λ o. option_or o None) met, (finds_pairing lines names lined named, refl))

-- ---- from what the query reads

module _ (world : World) (view side : Name) (read : AskedPairs)
    (asks : AsksPairs world view side read) where
  abbrev pub shown_view : Name
  shown_view = read.asked.view.now

  -- the sides are those of the view by the name that was read
  pub own_sides : read.left.items ≡ left_nodes world shown_view side
  own_sides = asks.left ∙ ap (λ v. left_nodes world v side) (sym asks.view_is)

  pub sides_all : length read.left.items ≡ (graph world shown_view).nodes
  sides_all = ap length own_sides ∙ length-map _ _

  pub own_all : length read.left.items ≡ (graph_of read.asked.fixed).nodes
  own_all = sides_all ∙ ap (λ (g : Numbered). g.nodes) (sym asks.asks.numbers.graph)

  module _ (arcs : List ℕ) (hall : List Bool)
      (answer : IsAnswer (graph_of read.asked.fixed) (at false read.left.items) arcs hall) where
    pub own_below : All (λ arc. arc < (graph world shown_view).arcs) arcs
    own_below =
        pairs_below world shown_view side read.left.items own_sides read.asked.fixed
        asks.asks.numbers.graph arcs hall answer

    pub own_hall : length hall ≡ (graph world shown_view).nodes
    own_hall =
        hall_all world shown_view side read.left.items own_sides read.asked.fixed
        asks.asks.numbers.graph arcs hall answer

    pub pair_answered : fault_of world (pair_demands view side None) ≡ None
        → (lines : List PairLine) (names : List Name)
        → lines ≡ map (pair_line world shown_view (on_left world shown_view side)) arcs
        → names ≡ names_in world shown_view (at false hall)
        → Step world (commands.Match view side) (Answered (replies.Match lines names)) world
    pair_answered met lines names lined named =
        subst (λ v. Step world (commands.Match v side) (Answered (replies.Match lines names)) world)
        asks.view_is
        (pairs_answered world shown_view side read.left.items own_sides read.asked.fixed
        asks.asks.numbers.graph arcs hall answer
        (subst (λ v. fault_of world (pair_demands v side None) ≡ None) (sym asks.view_is) met)
        lines names lined named)

-- ---- demands

module _ (world : World) (view side : Name)
    (seen : breach world (demands.There demands.Views view) ≡ None)
    (there : breach world (demands.There (demands.Maps Node) side) ≡ None)
    (typed : breach world (demands.HasType Node types.Bools side) ≡ None)
    (small : breach world (demands.IsSmall view) ≡ None) where
  pub pairs_met : breach world (demands.JoinsSides view side) ≡ None
      → fault_of world (pair_demands view side None) ≡ None
  pairs_met joins =
      λ i. option_or (seen i) (option_or (there i) (option_or (typed i)
      (option_or (small i) (option_or (joins i) None))))

  pub pairs_unmet : (fault : StepFault) → Is (breach world (demands.JoinsSides view side)) fault
      → Is (fault_of world (pair_demands view side None)) fault
  pairs_unmet fault is =
      let last = demands.JoinsSides view side ∷ [] in
      let rest = demands.IsSmall view ∷ last in
      let more = demands.HasType Node types.Bools side ∷ rest in
      met world (demands.There demands.Views view)
      (demands.There (demands.Maps Node) side ∷ more) fault seen
      (met world (demands.There (demands.Maps Node) side) more fault there
      (met world (demands.HasType Node types.Bools side) rest fault typed
      (met world (demands.IsSmall view) last fault small
      (not_met world (demands.JoinsSides view side) [] fault is))))
