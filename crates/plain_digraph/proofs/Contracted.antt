-- All refusable steps of a contraction are known before the first.
use Rattle.std.proofs.Common.{◌≡◌, ℕ, Bool, true, false, List, [], ◌∷◌, ◌++◌, filter, refl, ap, ◌∙◌}
use Rattle.std.specs.Prelude.{◌==◌, not}
use Rattle.std.proofs.lemmas.Bool.{eq-eqb, or_right}
use Rattle.base_items.specs.declared.items.ItemSort.TheVariants as sorts
use Rattle.plain_digraph.specs.Lists.{has}
use Rattle.plain_digraph.specs.Digraph.{Digraph}
use Rattle.plain_digraph.specs.Items.{IsLive, source_of, target_of, out_arcs, in_arcs}
use Rattle.plain_digraph.specs.PlainSteps.{PlainStep, after_steps}
use Rattle.plain_digraph.specs.Alterations.{sources_to, targets_to, is_neither}
use Rattle.plain_digraph.specs.OrderLaws.{AllFrom, ContractionIsKnown, LoopContractionIsKnown}
use Rattle.plain_digraph.proofs.Filters.{filter_has}
use Rattle.plain_digraph.proofs.Orders.{out_arc_own}
use Rattle.plain_digraph.proofs.Listed.{filter_alike}
use Rattle.plain_digraph.proofs.StepOrders.{all_if_each, contracted_sources}

append_nothing : (steps : List PlainStep) → steps ++ [] ≡ steps
append_nothing [] = refl
append_nothing (step ∷ steps) = ap (λ rest. step ∷ rest) (append_nothing steps)

-- the second of the two isn't neither
two_of_two : (u v : ℕ) → is_neither u v v ≡ false
two_of_two u v = ap not (or_right (v == u) (v == v) (eq-eqb v v refl))

-- an arc from the second comes from one of the two
from_second : (g : Digraph) (u v arc : ℕ) → has (out_arcs g v) arc ≡ true
    → IsLive g sorts.Arc arc × (is_neither u v (source_of g arc) ≡ false)
from_second g u v arc at =
    let own = out_arc_own g v arc at in
    (own.0, ap (is_neither u v) own.1 ∙ two_of_two u v)

pub contraction_is_known : ContractionIsKnown
contraction_is_known g u v valid =
    let goes : ℕ → Bool = λ arc. is_neither u v (target_of g arc) in
    let sources : List ℕ = filter goes (out_arcs g v) in
    let later : Digraph = after_steps g (sources_to u sources) in
    let all : AllFrom g u v sources =
    all_if_each _ sources
    (λ arc at. from_second g u v arc (filter_has goes (out_arcs g v) arc at).0) in
    let stays = contracted_sources g u v sources all in
    let targets : filter (λ arc. is_neither u v (source_of later arc)) (in_arcs later v)
    ≡ filter (λ arc. is_neither u v (source_of g arc)) (in_arcs g v) =
    filter_alike _ _ stays.1 (in_arcs later v)
    ∙ ap (filter (λ arc. is_neither u v (source_of g arc))) (stays.0 v) in
    ap (λ steps. sources_to u sources ++ steps)
    (append_nothing
    (targets_to u (filter (λ arc. is_neither u v (source_of later arc)) (in_arcs later v))))
    ∙ ap (λ arcs. sources_to u sources ++ targets_to u arcs) targets

pub loop_contraction_is_known : LoopContractionIsKnown
loop_contraction_is_known g u v valid =
    let sources : List ℕ = out_arcs g v in
    let later : Digraph = after_steps g (sources_to u sources) in
    let all : AllFrom g u v sources = all_if_each _ sources (λ arc at. from_second g u v arc at) in
    ap (λ steps. sources_to u sources ++ steps) (append_nothing (targets_to u (in_arcs later v)))
    ∙ ap (λ arcs. sources_to u sources ++ targets_to u arcs)
    ((contracted_sources g u v sources all).0 v)
