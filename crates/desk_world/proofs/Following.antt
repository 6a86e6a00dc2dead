-- What a world stands for follows each step of its digraph.
use Rattle.std.proofs.Common.{◌≡◌, ◌⊎◌, Bool, true, false, List, [], ◌∷◌, Option}
use Rattle.std.proofs.Common.{Some}
use Rattle.std.proofs.Common.{None, refl, sym, ap, ◌∙◌, inl, inr}
use Rattle.std.specs.Prelude.{option_map, option_and_then}
use Rattle.std.specs.List.{cons_option}
use Rattle.std.proofs.lemmas.Bool.{true≢false}
use Rattle.base_items.specs.declared.items.ItemSort.{ItemSort}
use Rattle.base_items.specs.declared.items.ItemSort.TheVariants as sorts
use Rattle.plain_digraph.specs.Digraph.{Digraph}
use Rattle.plain_digraph.specs.Lists.{AllOf}
use Rattle.plain_digraph.specs.Items.{count_of}
use Rattle.plain_digraph.specs.PlainSteps.{PlainStep, AddNode, AddArc, MoveFrom, MoveTo, Turn}
use Rattle.plain_digraph.specs.PlainSteps.{PlaceBack, EraseArc, EraseNode, ClearArcs, ClearNodes}
use Rattle.plain_digraph.specs.PlainSteps.{Change, Untouched, change_of, sort_of}
use Rattle.plain_digraph.specs.Valid.{IsValid}
use Rattle.alter_graph.specs.Chains.{ChainSeen, ChainsSeen, chain_in, seats_in, in_chain}
use Rattle.alter_graph.specs.Steps.{notice_of, CanTake}
use Rattle.alter_graph.proofs.Listing.{live_id}
use Rattle.plain_world.specs.Tables.{Named, under, each_changed}
use Rattle.desk_world.specs.Looks.{looked}
use Rattle.desk_world.proofs.Noticed.{change_by}

-- ---- sorts

abbrev is_node : ItemSort → Bool
is_node sorts.Node = true
is_node sorts.Arc = false

pub same_sort : (a b : ItemSort) → (a ≡ b) ⊎ (a ≡ b → ⊥)
same_sort sorts.Node sorts.Node = inl refl
same_sort sorts.Node sorts.Arc = inr (λ e. true≢false (ap is_node e))
same_sort sorts.Arc sorts.Node = inr (λ e. true≢false (sym (ap is_node e)))
same_sort sorts.Arc sorts.Arc = inl refl

pub chain_here : (sort : ItemSort) (f : ChainSeen → ChainSeen) (c : ChainsSeen)
    → seats_in sort (in_chain sort f c) ≡ (f (chain_in sort c)).seats
chain_here sorts.Node f c = refl
chain_here sorts.Arc f c = refl

pub chain_there : (sort other : ItemSort) (f : ChainSeen → ChainSeen) (c : ChainsSeen)
    → (sort ≡ other → ⊥) → seats_in other (in_chain sort f c) ≡ seats_in other c
chain_there sorts.Node sorts.Node f c apart = absurd (apart refl)
chain_there sorts.Node sorts.Arc f c apart = refl
chain_there sorts.Arc sorts.Node f c apart = refl
chain_there sorts.Arc sorts.Arc f c apart = absurd (apart refl)

-- ---- tables

-- what stands in a table follows where what each row leads to does
pub each_follows : {X Y : Type 0} (look later : X → Option Y) (change : Y → Option Y)
    (table : List (Named X))
    → AllOf (λ e. later e.value ≡ option_and_then change (look e.value)) table
    → looked later table ≡ each_changed change (looked look table)
each_follows look later change [] all = refl
each_follows {X} {Y} look later change (e ∷ es) all =
    let rest = each_follows look later change es all.1 in
    let here = all.0 in
    (λ i. cons_option (option_map (under e.name) (here i)) (rest i))
    ∙ change_under (look e.value) (looked look es)
  where
    change_under : (o : Option Y) (more : List (Named Y))
        → cons_option (option_map (under e.name) (option_and_then change o))
        (each_changed change more)
        ≡ each_changed change (cons_option (option_map (under e.name) o) more)
    change_under None more = refl
    change_under (Some y) more = refl

pub all_of : {X : Type 0} (P : X → Type 0) → ((x : X) → P x) → (table : List (Named X))
    → AllOf (λ e. P e.value) table
all_of P each [] = tt
all_of P each (e ∷ es) = (each e.value, all_of P each es)

-- ---- the change of a step

pub change_here : (step : PlainStep) (g : Digraph) → IsValid g → CanTake step g
    → change_of g step (sort_of step) ≡ change_by (notice_of step g) (count_of g (sort_of step))
change_here AddNode g valid can = refl
change_here (AddArc from to) g valid can = refl
change_here (MoveFrom arc node) g valid can = refl
change_here (MoveTo arc node) g valid can = refl
change_here (Turn arc) g valid can = refl
change_here (PlaceBack fact) g valid can = refl
change_here (EraseArc arc) g valid can =
    ap Change.Erased (sym (live_id g sorts.Arc valid arc can))
change_here (EraseNode node) g valid can =
    ap Change.Erased (sym (live_id g sorts.Node valid node can.0))
change_here ClearArcs g valid can = refl
change_here ClearNodes g valid can = refl

pub change_there : (step : PlainStep) (g : Digraph) (other : ItemSort) → (sort_of step ≡ other → ⊥)
    → change_of g step other ≡ Untouched
change_there AddNode g sorts.Node apart = absurd (apart refl)
change_there AddNode g sorts.Arc apart = refl
change_there (AddArc from to) g sorts.Node apart = refl
change_there (AddArc from to) g sorts.Arc apart = absurd (apart refl)
change_there (MoveFrom arc node) g sorts.Node apart = refl
change_there (MoveFrom arc node) g sorts.Arc apart = absurd (apart refl)
change_there (MoveTo arc node) g sorts.Node apart = refl
change_there (MoveTo arc node) g sorts.Arc apart = absurd (apart refl)
change_there (Turn arc) g sorts.Node apart = refl
change_there (Turn arc) g sorts.Arc apart = absurd (apart refl)
change_there (PlaceBack fact) g sorts.Node apart = refl
change_there (PlaceBack fact) g sorts.Arc apart = absurd (apart refl)
change_there (EraseArc arc) g sorts.Node apart = refl
change_there (EraseArc arc) g sorts.Arc apart = absurd (apart refl)
change_there (EraseNode node) g sorts.Node apart = absurd (apart refl)
change_there (EraseNode node) g sorts.Arc apart = refl
change_there ClearArcs g sorts.Node apart = refl
change_there ClearArcs g sorts.Arc apart = absurd (apart refl)
change_there ClearNodes g sorts.Node apart = absurd (apart refl)
change_there ClearNodes g sorts.Arc apart = refl
