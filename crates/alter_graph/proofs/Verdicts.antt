-- What an observer refuses is what its law says of the facts after the step.
use Rattle.std.proofs.Common.{◌≡◌, ℕ, Bool, true, false, List, [], ◌∷◌, ◌++◌, map, IsTrue}
use Rattle.std.proofs.Common.{Option, Some, None, refl, sym, ap, subst, ◌∙◌, inl, inr}
use Rattle.std.specs.Prelude.{not, ◌&&◌, cond, find, option_map}
use Rattle.std.specs.Option.{option_or}
use Rattle.base_items.specs.declared.items.Fact.{Fact}
use Rattle.base_items.specs.declared.items.ItemSort.{ItemSort}
use Rattle.base_items.specs.declared.items.ItemSort.TheVariants as sorts
use Rattle.plain_digraph.specs.Digraph.{Digraph}
use Rattle.plain_digraph.specs.Items.{facts}
use Rattle.observe_core.specs.declared.changes.Change.{Change}
use Rattle.observe_core.specs.declared.changes.Change.TheVariants.{Add, Shift, Build}
use Rattle.observe_core.specs.declared.kinds.Veto.TheVariants.{Refused}
use Rattle.observe_core.specs.Changes.{told}
use Rattle.observe_core.specs.Seen.{Seen, Lawful}
use Rattle.observe_core.specs.Guards.{Law, keeps_law}
use Rattle.observe_core.specs.Fits.{Fits}
use Rattle.observe_core.proofs.LawLemmas.{lawful-live, live-lawful}
use Rattle.notify_chain.specs.Seats.{SeatSeen, AllSeats, Each, Became, Refuses, Steady}
use Rattle.alter_graph.specs.Chains.{ChainsSeen, seats_in}
use Rattle.alter_graph.specs.State.{Stands}
use Rattle.alter_graph.specs.Steps.{Tells}
use Rattle.alter_graph.specs.Verdict.{Guard, guard_in, guards_of, is_sort, breaks}
use Rattle.alter_graph.proofs.Telling.{facts_noticed, CanHear}
use Rattle.alter_graph.proofs.Standing.{fits_told}

-- ---- the first that breaks

abbrev pub name_of : Guard → ItemSort × ℕ
name_of guard = (guard.sort, guard.key)

find-append : {X : Type 0} (test : X → Bool) (xs ys : List X)
    → find test (xs ++ ys) ≡ option_or (find test xs) (find test ys)
find-append test [] ys = refl
find-append test (x ∷ xs) ys =
    elim (test x) as (λ b. cond b (Some x) (find test (xs ++ ys))
    ≡ option_or (cond b (Some x) (find test xs)) (find test ys))
    [ true ↦ refl | false ↦ find-append test xs ys ]

or_none : {X : Type 0} (o : Option X) → option_or o None ≡ o
or_none None = refl
or_none (Some x) = refl

-- a guard of the other sort breaks nothing
none_other : (told sort : ItemSort) (g : Digraph) (ss : List SeatSeen) → is_sort told sort ≡ false
    → find (λ guard. breaks guard sort g) (map (guard_in told) ss) ≡ None
none_other told sort g [] apart = refl
none_other told sort g (s ∷ ss) apart =
    ap (λ b. cond (b && not (keeps_law s.seen.kind s.seen.k (facts g sort)))
    (Some (guard_in told s)) (find (λ guard. breaks guard sort g) (map (guard_in told) ss))) apart
    ∙ none_other told sort g ss apart

pub find_own : (sort : ItemSort) (g : Digraph) (c : ChainsSeen)
    → find (λ guard. breaks guard sort g) (guards_of c)
    ≡ find (λ guard. breaks guard sort g) (map (guard_in sort) (seats_in sort c))
find_own sorts.Node g c =
    let test : Guard → Bool = λ guard. breaks guard sorts.Node g in
    let nodes = map (guard_in sorts.Node) c.nodes.seats in
    let arcs = map (guard_in sorts.Arc) c.arcs.seats in
    find-append test nodes arcs
    ∙ ap (option_or (find test nodes)) (none_other sorts.Arc sorts.Node g c.arcs.seats refl)
    ∙ or_none (find test nodes)
find_own sorts.Arc g c =
    let test : Guard → Bool = λ guard. breaks guard sorts.Arc g in
    let nodes = map (guard_in sorts.Node) c.nodes.seats in
    let arcs = map (guard_in sorts.Arc) c.arcs.seats in
    find-append test nodes arcs
    ∙ ap (λ o. option_or o (find test arcs)) (none_other sorts.Node sorts.Arc g c.nodes.seats refl)

same_sort : (sort : ItemSort) → is_sort sort sort ≡ true
same_sort sorts.Node = refl
same_sort sorts.Arc = refl

-- ---- one chain that was told

law_kept : (c : Change) (s : Seen) (fs : List Fact)
    → Law (told c s).kind (told c s).k fs ≡ Law s.kind s.k fs
law_kept (Add f) s fs = refl
law_kept (Shift old now) s fs = refl
law_kept (Build all) s fs = refl

kept_or_broken : (b : Bool) → (IsTrue b → ⊥) → b ≡ false
kept_or_broken true no_law = absurd (no_law refl)
kept_or_broken false no_law = refl

module _ (c : Change) (live : List Fact) (can : CanHear (Tells c) live) (sort : ItemSort)
    (g : Digraph) (then_facts : facts g sort ≡ facts_noticed (Tells c) live) where
  abbrev test : Guard → Bool
  test guard = breaks guard sort g

  to_law : (s : Seen) → Fits s live → Lawful (told c s) → Law s.kind s.k (facts g sort)
  to_law s f l = subst (Law s.kind s.k) (sym then_facts)
      (subst (λ T. T) (law_kept c s (facts_noticed (Tells c) live))
      (lawful-live (told c s) (facts_noticed (Tells c) live) (fits_told 0 live c s can f) l))

  from_law : (s : Seen) → Fits s live → Law s.kind s.k (facts g sort) → Lawful (told c s)
  from_law s f l =
      live-lawful (told c s) (facts_noticed (Tells c) live) (fits_told 0 live c s can f)
      (subst (λ T. T) (sym (law_kept c s (facts_noticed (Tells c) live)))
      (subst (Law s.kind s.k) then_facts l))

  -- the test of a seat, where its law is kept, and where it is broken
  passes_at : (s : SeatSeen) → Law s.seen.kind s.seen.k (facts g sort)
      → test (guard_in sort s) ≡ false
  passes_at s l =
      ap (λ b. b && not (keeps_law s.seen.kind s.seen.k (facts g sort))) (same_sort sort)
      ∙ ap not l

  breaks_at : (s : SeatSeen) → (Law s.seen.kind s.seen.k (facts g sort) → ⊥)
      → test (guard_in sort s) ≡ true
  breaks_at s l =
      ap (λ b. b && not (keeps_law s.seen.kind s.seen.k (facts g sort))) (same_sort sort)
      ∙ ap not (kept_or_broken (keeps_law s.seen.kind s.seen.k (facts g sort)) l)

  pub refuser_found : (stamps : ℕ) (ss : List SeatSeen) (key : ℕ) → AllSeats (Stands stamps live) ss
      → Refuses (told c) ss key Refused
      → option_map name_of (find test (map (guard_in sort) ss)) ≡ Some (sort, key)
  refuser_found stamps [] key stand r = absurd r
  refuser_found stamps (s ∷ ss) key stand (inl r) =
      let rest = find test (map (guard_in sort) ss) in
      ap (λ b. option_map name_of (cond b (Some (guard_in sort s)) rest))
      (breaks_at s (λ l. r.1 refl (from_law s.seen stand.0.fits l)))
      ∙ ap (λ k. Some (sort, k)) r.0
  refuser_found stamps (s ∷ ss) key stand (inr r) =
      let rest = find test (map (guard_in sort) ss) in
      ap (λ b. option_map name_of (cond b (Some (guard_in sort s)) rest))
      (passes_at s (to_law s.seen stand.0.fits r.0))
      ∙ refuser_found stamps ss key stand.1 r.1

  pub none_found : (stamps : ℕ) (ss ts : List SeatSeen) → AllSeats (Stands stamps live) ss
      → Each (Became (told c)) ss ts → AllSeats Steady ts
      → find test (map (guard_in sort) ss) ≡ None
  none_found stamps [] [] stand b steady = refl
  none_found stamps [] (t ∷ ts) stand b steady = absurd b
  none_found stamps (s ∷ ss) [] stand b steady = absurd b
  none_found stamps (s ∷ ss) (t ∷ ts) stand b steady =
      let rest = find test (map (guard_in sort) ss) in
      ap (λ b. cond b (Some (guard_in sort s)) rest)
      (passes_at s (to_law s.seen stand.0.fits (subst Lawful b.0.seen steady.0.0.lawful)))
      ∙ none_found stamps ss ts stand.1 b.1 steady.1
