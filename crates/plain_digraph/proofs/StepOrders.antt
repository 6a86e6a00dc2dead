-- The arcs that are listed at a node after a plain step.
use Rattle.std.proofs.Common.{◌≡◌, ℕ, true, false, cond, List, [], ◌∷◌, Option, inl, inr, refl, sym}
use Rattle.std.proofs.Common.{ap, ◌∙◌}
use Rattle.std.specs.Prelude.{◌==◌, ◌||◌, not}
use Rattle.std.specs.Option.{option_map_or}
use Rattle.std.specs.FinMap as fin
use Rattle.std.proofs.lemmas.Bool.{eq-eqb, ne_eqb, cases_eq, or_left, or_right}
use Rattle.base_items.specs.declared.items.ItemSort.TheVariants as sorts
use Rattle.plain_digraph.specs.Lists.{AllOf, has, without}
use Rattle.plain_digraph.specs.Digraph.{Digraph, Ends}
use Rattle.plain_digraph.specs.Items.{ids, IsLive, source_of, target_of, out_arcs, in_arcs}
use Rattle.plain_digraph.specs.Steps.{new_arc, move_from}
use Rattle.plain_digraph.specs.PlainSteps.{MoveFrom}
use Rattle.plain_digraph.specs.Alterations.{is_neither}
use Rattle.plain_digraph.specs.Laws.{StandsOnce}
use Rattle.plain_digraph.specs.OrderLaws.{AllListedAreOwn, AddedArcEnds, MovedSourceEnds}
use Rattle.plain_digraph.specs.OrderLaws.{MovedTargetEnds, MovedSourceLists, MovedTargetLists}
use Rattle.plain_digraph.specs.OrderLaws.{TurnedLists, ErasedArcLists, ErasedFromFront, EmptyStays}
use Rattle.plain_digraph.specs.OrderLaws.{AllFrom, ContractedSources}
use Rattle.plain_digraph.proofs.Keys.{get_new, get_other}
use Rattle.plain_digraph.proofs.Counts.{without-parts}
use Rattle.plain_digraph.proofs.Orders.{out_arcs_once, in_arcs_once, out_arc_own, in_arc_own}
use Rattle.plain_digraph.proofs.StepLiving.{live_items_stay}
use Rattle.plain_digraph.proofs.Listed.{at_erased, at_front, at_kept}

-- ---- listed arcs are own

pub all_if_each : (P : ℕ → Type 0) (xs : List ℕ) → ((x : ℕ) → has xs x ≡ true → P x) → AllOf P xs
all_if_each P [] each = tt
all_if_each P (x ∷ xs) each = (
  each x (or_left (x == x) (has xs x) (eq-eqb x x refl)),
  all_if_each P xs (λ y at. each y (or_right (x == y) (has xs y) at)),
)

pub all_listed_are_own : AllListedAreOwn
all_listed_are_own g node valid = (
  all_if_each _ (out_arcs g node) (λ arc. out_arc_own g node arc),
  all_if_each _ (in_arcs g node) (λ arc. in_arc_own g node arc),
)

-- ---- the ends of the arcs

module _ (end : ℕ × ℕ → ℕ) (ends : Ends) (arc : ℕ) (e : ℕ × ℕ) (other : ℕ) where
  abbrev end_of : Option (ℕ × ℕ) → ℕ
  end_of o = option_map_or end o 0

  -- an arc that gets ends has them
  end_now : end_of (fin.get (fin.insert ends arc e) other)
      ≡ cond (other == arc) (end e) (end_of (fin.get ends other))
  end_now = elim (cases_eq other arc) [
    | inl same ↦
        ap (λ a. end_of (fin.get (fin.insert ends arc e) a)) same ∙ ap end_of (get_new ends arc e)
        ∙ ap (λ b. cond b (end e) (end_of (fin.get ends other))) (sym (eq-eqb other arc same))
    | inr apart ↦
        ap end_of (get_other ends arc e other apart)
        ∙ ap (λ b. cond b (end e) (end_of (fin.get ends other))) (sym (ne_eqb other arc apart))
  ]

  -- where it has this end already, all have the end that they had
  end_kept : end e ≡ end_of (fin.get ends arc)
      → end_of (fin.get (fin.insert ends arc e) other) ≡ end_of (fin.get ends other)
  end_kept same_end = elim (cases_eq other arc) [
    | inl same ↦
        ap (λ a. end_of (fin.get (fin.insert ends arc e) a)) same ∙ ap end_of (get_new ends arc e)
        ∙ same_end ∙ ap (λ a. end_of (fin.get ends a)) (sym same)
    | inr apart ↦ ap end_of (get_other ends arc e other apart)
  ]

pub added_arc_ends : AddedArcEnds
added_arc_ends g from to other = (
  end_now (λ p. p.0) g.ends (new_arc g) (from, to) other,
  end_now (λ p. p.1) g.ends (new_arc g) (from, to) other,
)

pub moved_source_ends : MovedSourceEnds
moved_source_ends g arc node other = (
  end_now (λ p. p.0) g.ends arc (node, target_of g arc) other,
  end_kept (λ p. p.1) g.ends arc (node, target_of g arc) other refl,
)

pub moved_target_ends : MovedTargetEnds
moved_target_ends g arc node other = (
  end_kept (λ p. p.0) g.ends arc (source_of g arc, node) other refl,
  end_now (λ p. p.1) g.ends arc (source_of g arc, node) other,
)

-- ---- moves

pub moved_source_lists : MovedSourceLists
moved_source_lists g arc source node live = (
  at_front (λ p. p.0) g.ends arc node (source, target_of g arc) g.by_source g.stamps,
  at_kept (λ p. p.1) g.ends arc node (source, target_of g arc) (ids g.by_target) live refl,
)

pub moved_target_lists : MovedTargetLists
moved_target_lists g arc target node live = (
  at_kept (λ p. p.0) g.ends arc node (source_of g arc, target) (ids g.by_source) live refl,
  at_front (λ p. p.1) g.ends arc node (source_of g arc, target) g.by_target g.stamps,
)

pub turned_lists : TurnedLists
turned_lists g arc node = (
  at_front (λ p. p.0) g.ends arc node (target_of g arc, source_of g arc) g.by_source g.stamps,
  at_front (λ p. p.1) g.ends arc node (target_of g arc, source_of g arc) g.by_target g.stamps,
)

-- ---- erasures

pub erased_arc_lists : ErasedArcLists
erased_arc_lists g arc node = (
  at_erased (λ p. p.0) g.ends arc node g.by_source,
  at_erased (λ p. p.1) g.ends arc node g.by_target,
)

-- the first goes, and nothing else
first_gone : (all : List ℕ) (id : ℕ) (rest : List ℕ) → StandsOnce all → all ≡ id ∷ rest
    → without all id ≡ rest
first_gone all id rest once is =
    ap (λ xs. without xs id) is ∙ without-parts [] rest id refl (once [] rest id is).1

pub erased_from_front : ErasedFromFront
erased_from_front g node arc rest valid = (
  λ is. at_erased (λ p. p.0) g.ends arc node g.by_source
      ∙ first_gone (out_arcs g node) arc rest (out_arcs_once g node valid) is,
  λ is. at_erased (λ p. p.1) g.ends arc node g.by_target
      ∙ first_gone (in_arcs g node) arc rest (in_arcs_once g node valid) is,
)

pub empty_stays : EmptyStays
empty_stays g node arc = (
  λ none. at_erased (λ p. p.0) g.ends arc node g.by_source ∙ ap (λ xs. without xs arc) none,
  λ none. at_erased (λ p. p.1) g.ends arc node g.by_target ∙ ap (λ xs. without xs arc) none,
)

-- ---- the second part of a contraction

-- the first of the two isn't neither
one_of_two : (u v : ℕ) → is_neither u v u ≡ false
one_of_two u v = ap (λ b. not (b || (u == v))) (eq-eqb u u refl)

-- a move of such an arc changes of no arc whether it is from neither
neither_stays : (g : Digraph) (u v arc other : ℕ) → is_neither u v (source_of g arc) ≡ false
    → is_neither u v (source_of (move_from g arc u) other) ≡ is_neither u v (source_of g other)
neither_stays g u v arc other from =
    ap (is_neither u v) (moved_source_ends g arc u other).0 ∙ elim (cases_eq other arc) [
      | inl same ↦
          ap (λ b. is_neither u v (cond b u (source_of g other))) (eq-eqb other arc same)
          ∙ one_of_two u v
          ∙ sym (ap (λ a. is_neither u v (source_of g a)) same ∙ from)
      | inr apart ↦ ap (λ b. is_neither u v (cond b u (source_of g other))) (ne_eqb other arc apart)
    ]

all_from_stay : (g : Digraph) (u v arc : ℕ) (arcs : List ℕ) → IsLive g sorts.Arc arc
    → is_neither u v (source_of g arc) ≡ false
    → AllFrom g u v arcs → AllFrom (move_from g arc u) u v arcs
all_from_stay g u v arc [] live from all = tt
all_from_stay g u v arc (other ∷ arcs) live from all = (
  (
    live_items_stay g (MoveFrom arc u) sorts.Arc other refl all.0.0,
    neither_stays g u v arc other from ∙ all.0.1,
  ),
  all_from_stay g u v arc arcs live from all.1,
)

pub contracted_sources : ContractedSources
contracted_sources g u v [] all = (λ node. refl, λ arc. refl)
contracted_sources g u v (arc ∷ arcs) all =
    let rest = contracted_sources (move_from g arc u) u v arcs
    (all_from_stay g u v arc arcs all.0.0 all.0.1 all.1) in (
      λ node. rest.0 node ∙ (moved_source_lists g arc u node all.0.0).1,
      λ other. rest.1 other ∙ neither_stays g u v arc other all.0.1,
    )
