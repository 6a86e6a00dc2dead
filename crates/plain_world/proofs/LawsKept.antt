-- The laws of guards after a plain step.
use Rattle.std.proofs.Common.{◌≡◌, ℕ, ◌+◌, ◌≤◌, Bool, true, false, cond, not, refl, sym, ◌∙◌, ap}
use Rattle.std.proofs.Common.{List, [], ◌∷◌, length, All, arith}
use Rattle.std.specs.Prelude.{◌==◌, ◌&&◌, count_by, if◌then◌else◌}
use Rattle.std.specs.List.{list_any, list_all}
use Rattle.std.proofs.lemmas.Bool.{true≢false, not-false, leb-true, and_parts, or_parts}
use Rattle.std.proofs.lemmas.Bool.{or_from}
use Rattle.std.proofs.lemmas.List.Elements.{All-weaker}
use Rattle.std.proofs.lemmas.List.Sums.{sum_by-cons}
use Rattle.base_items.specs.declared.items.Fact.{Fact}
use Rattle.base_items.specs.declared.items.ItemSort.{ItemSort}
use Rattle.base_items.specs.declared.items.ItemSort.TheVariants.{Node, Arc}
use Rattle.script_words.specs.declared.commands.GuardWord.{GuardWord}
use Rattle.script_words.specs.declared.commands.GuardWord.TheVariants as kinds
use Rattle.plain_digraph.specs.Rising.{without_item}
use Rattle.plain_digraph.specs.Facts.{fact_id}
use Rattle.plain_digraph.specs.Guards.{is_simple}
use Rattle.plain_digraph.specs.Guards.{has_same_ends}
use Rattle.plain_digraph.specs.Digraph.{Digraph}
use Rattle.plain_digraph.specs.Items.{facts}
use Rattle.plain_digraph.specs.PlainSteps.{PlainStep, AddNode, AddArc, MoveFrom, MoveTo, Turn}
use Rattle.plain_digraph.specs.PlainSteps.{PlaceBack, EraseArc, EraseNode, ClearArcs, ClearNodes}
use Rattle.plain_digraph.specs.PlainSteps.{is_refusable, sort_of, after_step}
use Rattle.plain_digraph.proofs.FewFrom.{few_from_each}
use Rattle.plain_digraph.proofs.Tellings.{is_within}
use Rattle.plain_digraph.proofs.StepFacts.{erased_arc_facts, erased_node_facts}
use Rattle.plain_world.specs.Tables.{Named}
use Rattle.plain_world.specs.World.{Guard}
use Rattle.plain_world.specs.Refusals.{law_holds, is_sort, refuses}
use Rattle.plain_world.proofs.WorldParts.{GuardOk}

-- ---- fewer facts

abbrev less : ℕ → List Fact → List Fact
less id fs = without_item fact_id id fs

fewer_length : (id : ℕ) (fs : List Fact) → length (less id fs) ≤ length fs
fewer_length id [] = omega arith
fewer_length id (f ∷ fs) =
    let rest = fewer_length id fs in
    elim (f.id == id) as (λ b. length (if b then less id fs else f ∷ less id fs)
    ≤ length (f ∷ fs)) [
      | true ↦ omega (arith, rest)
      | false ↦ omega (arith, rest)
    ]

fewer_all : (p : Fact → Bool) (id : ℕ) (fs : List Fact) → list_all p fs ≡ true
    → list_all p (less id fs) ≡ true
fewer_all p id [] all = refl
fewer_all p id (f ∷ fs) all =
    let parts = and_parts (p f) (list_all p fs) all in
    let rest = fewer_all p id fs parts.1 in
    elim (f.id == id) as (λ b. list_all p (if b then less id fs else f ∷ less id fs) ≡ true) [
      | true ↦ rest
      | false ↦ λ i. parts.0 i && rest i
    ]

fewer_any : (p : Fact → Bool) (id : ℕ) (fs : List Fact) → list_any p fs ≡ false
    → list_any p (less id fs) ≡ false
fewer_any p id [] none = refl
fewer_any p id (f ∷ fs) none =
    let parts = or_parts (p f) (list_any p fs) none in
    let rest = fewer_any p id fs parts.1 in
    elim (f.id == id) as (λ b. list_any p (if b then less id fs else f ∷ less id fs) ≡ false) [
      | true ↦ rest
      | false ↦ or_from (p f) (list_any p (less id fs)) parts.0 rest
    ]

fewer_simple : (id : ℕ) (fs : List Fact) → is_simple fs ≡ true → is_simple (less id fs) ≡ true
fewer_simple id [] simple = refl
fewer_simple id (f ∷ fs) simple =
    let parts = and_parts (not (list_any (has_same_ends f) fs)) (is_simple fs) simple in
    let rest = fewer_simple id fs parts.1 in
    elim (f.id == id) as (λ b. is_simple (if b then less id fs else f ∷ less id fs) ≡ true) [
      | true ↦ rest
      | false ↦
          let none = fewer_any (has_same_ends f) id fs (only_false _ parts.0) in
          λ i. not (none i) && rest i
    ]
  where
    only_false : (b : Bool) → not b ≡ true → b ≡ false
    only_false true is = absurd (true≢false (sym is))
    only_false false is = refl

fewer_counted : (p : Fact → Bool) (id : ℕ) (fs : List Fact)
    → count_by p (less id fs) ≤ count_by p fs
fewer_counted p id [] = omega arith
fewer_counted p id (f ∷ fs) =
    let rest = fewer_counted p id fs in
    let here : count_by p (f ∷ fs) ≡ cond (p f) 1 0 + count_by p fs =
    sum_by-cons (λ x. cond (p x) 1 0) f fs in
    let there : count_by p (f ∷ less id fs) ≡ cond (p f) 1 0 + count_by p (less id fs) =
    sum_by-cons (λ x. cond (p x) 1 0) f (less id fs) in
    let one : count_by p (less id fs) ≤ count_by p (f ∷ fs) = omega (arith, rest, here) in
    let both : count_by p (f ∷ less id fs) ≤ count_by p (f ∷ fs) =
    omega (arith, rest, here, there) in
    elim (f.id == id) as (λ b. count_by p (if b then less id fs else f ∷ less id fs)
    ≤ count_by p (f ∷ fs)) [ true ↦ one | false ↦ both ]

-- what keeps a law keeps it without an item
law_without : (kind : GuardWord) (limit id : ℕ) (fs : List Fact) → law_holds kind limit fs ≡ true
    → law_holds kind limit (less id fs) ≡ true
law_without kinds.Quota limit id fs holds =
    let few = leb-true (length fs) limit holds in
    is_within (length (less id fs)) limit (omega (arith, few, fewer_length id fs))
law_without kinds.Loopless limit id fs holds =
    fewer_all (λ fact. not (fact.from == fact.to)) id fs holds
law_without kinds.Simple limit id fs holds = fewer_simple id fs holds
law_without kinds.OutCap limit id fs holds =
    let few = (few_from_each limit fs).0 holds in
    (few_from_each limit (less id fs)).1 (λ node.
    let fewer = fewer_counted (λ fact. fact.from == node) id fs in
    omega (arith, few node, fewer))
law_without kinds.Fuse limit id fs holds = refl
law_without kinds.Tally limit id fs holds = refl

law_of_none : (kind : GuardWord) (limit : ℕ) → law_holds kind limit [] ≡ true
law_of_none kinds.Quota limit = is_within 0 limit (omega arith)
law_of_none kinds.Loopless limit = refl
law_of_none kinds.Simple limit = refl
law_of_none kinds.OutCap limit = refl
law_of_none kinds.Fuse limit = refl
law_of_none kinds.Tally limit = refl

-- ---- laws after a step

abbrev pub LawsHold : Digraph → List (Named Guard) → Type 0
LawsHold h guards = All (λ e. law_holds e.value.kind e.value.limit (facts h e.value.sort) ≡ true)
    guards

-- a sure step breaks no law
law_stays : (g : Digraph) (step : PlainStep) (sort : ItemSort) (kind : GuardWord) (limit : ℕ)
    → is_refusable step ≡ false → law_holds kind limit (facts g sort) ≡ true
    → law_holds kind limit (facts (after_step g step) sort) ≡ true
law_stays g (EraseArc arc) Node kind limit sure holds = holds
law_stays g (EraseArc arc) Arc kind limit sure holds =
    ap (law_holds kind limit) (erased_arc_facts g arc).0
    ∙ law_without kind limit arc (facts g Arc) holds
law_stays g (EraseNode node) Node kind limit sure holds =
    ap (law_holds kind limit) (erased_node_facts g node).0
    ∙ law_without kind limit node (facts g Node) holds
law_stays g (EraseNode node) Arc kind limit sure holds = holds
law_stays g ClearArcs Node kind limit sure holds = holds
law_stays g ClearArcs Arc kind limit sure holds = law_of_none kind limit
law_stays g ClearNodes Node kind limit sure holds = law_of_none kind limit
law_stays g ClearNodes Arc kind limit sure holds = holds
law_stays g AddNode sort kind limit sure holds = absurd (true≢false sure)
law_stays g (AddArc from to) sort kind limit sure holds = absurd (true≢false sure)
law_stays g (MoveFrom arc node) sort kind limit sure holds = absurd (true≢false sure)
law_stays g (MoveTo arc node) sort kind limit sure holds = absurd (true≢false sure)
law_stays g (Turn arc) sort kind limit sure holds = absurd (true≢false sure)
law_stays g (PlaceBack fact) sort kind limit sure holds = absurd (true≢false sure)

pub sure_laws : (g : Digraph) (step : PlainStep) (guards : List (Named Guard))
    → is_refusable step ≡ false → All (λ e. GuardOk g e.value) guards
    → LawsHold (after_step g step) guards
sure_laws g step guards sure ok =
    All-weaker (λ e. GuardOk g e.value)
    (λ e. law_holds e.value.kind e.value.limit (facts (after_step g step) e.value.sort) ≡ true)
    (λ e is. law_stays g step e.value.sort e.value.kind e.value.limit sure is.0) guards ok

-- nor does a step that the guard lets through
law_passed : (g : Digraph) (step : PlainStep) (sort : ItemSort) (kind : GuardWord) (limit : ℕ)
    → is_refusable step ≡ true
    → (is_sort sort (sort_of step)
    && not (law_holds kind limit (facts (after_step g step) (sort_of step)))) ≡ false
    → law_holds kind limit (facts g sort) ≡ true
    → law_holds kind limit (facts (after_step g step) sort) ≡ true
law_passed g AddNode Node kind limit can passed was = not-false _ passed
law_passed g AddNode Arc kind limit can passed was = was
law_passed g (AddArc from to) Node kind limit can passed was = was
law_passed g (AddArc from to) Arc kind limit can passed was = not-false _ passed
law_passed g (MoveFrom arc node) Node kind limit can passed was = was
law_passed g (MoveFrom arc node) Arc kind limit can passed was = not-false _ passed
law_passed g (MoveTo arc node) Node kind limit can passed was = was
law_passed g (MoveTo arc node) Arc kind limit can passed was = not-false _ passed
law_passed g (Turn arc) Node kind limit can passed was = was
law_passed g (Turn arc) Arc kind limit can passed was = not-false _ passed
law_passed g (PlaceBack fact) Node kind limit can passed was = was
law_passed g (PlaceBack fact) Arc kind limit can passed was = not-false _ passed
law_passed g (EraseArc arc) sort kind limit can passed was = absurd (true≢false (sym can))
law_passed g (EraseNode node) sort kind limit can passed was = absurd (true≢false (sym can))
law_passed g ClearArcs sort kind limit can passed was = absurd (true≢false (sym can))
law_passed g ClearNodes sort kind limit can passed was = absurd (true≢false (sym can))

-- each guard lets the step through
abbrev pub LetThrough : Digraph → PlainStep → List (Named Guard) → Type 0
LetThrough g step guards =
    All (λ guard. refuses guard (sort_of step) (after_step g step) ≡ false) guards

pub passed_laws : (g : Digraph) (step : PlainStep) (guards : List (Named Guard))
    → is_refusable step ≡ true → LetThrough g step guards → All (λ e. GuardOk g e.value) guards
    → LawsHold (after_step g step) guards
passed_laws g step guards can passed ok =
    λ k d within. law_passed g step _ _ _ can (passed k d within) (ok k d within).0
