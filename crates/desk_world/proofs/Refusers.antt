-- Which guards refuse a step: the seats of their chain and the rows of their table say the same.
use Rattle.std.proofs.Common.{◌≡◌, ℕ, Bool, true, false, cond, not, List, [], ◌∷◌, map, refl}
use Rattle.std.proofs.Common.{sym, ap, Option, Some, None, ◌∙◌}
use Rattle.std.specs.Prelude.{find, filter, option_map, ◌==◌, ◌&&◌}
use Rattle.std.specs.Option.{option_or, option_map_or}
use Rattle.std.specs.List.{cons_option}
use Rattle.std.proofs.lemmas.Bool.{or_parts, eq-eqb, ne_eqb, true≢false}
use Rattle.std.proofs.lemmas.Option.{none-some}
use Rattle.std.proofs.lemmas.List.Folds.{find-append}
use Rattle.base_items.specs.declared.items.Fact.{Fact}
use Rattle.base_items.specs.declared.items.ItemSort.{ItemSort}
use Rattle.base_items.specs.declared.items.ItemSort.TheVariants as sorts
use Rattle.plain_digraph.specs.Digraph.{Digraph}
use Rattle.plain_digraph.specs.Items.{facts}
use Rattle.plain_digraph.specs.Lists.{AllOf, has}
use Rattle.plain_digraph.specs.PlainSteps.{PlainStep, after_step, sort_of}
use Rattle.plain_digraph.specs.Alterations.{vetoer}
use Rattle.observe_core.specs.declared.kinds.Kind.{Kind}
use Rattle.observe_core.specs.declared.kinds.Kind.TheVariants as kinds
use Rattle.observe_core.specs.Guards.{keeps_law}
use Rattle.observe_core.specs.Seen.{Seen}
use Rattle.notify_chain.specs.Seats.{SeatSeen, seat_key}
use Rattle.alter_graph.specs.Chains.{ChainsSeen, seats_in}
use Rattle.alter_graph.specs.Verdict as chain
use Rattle.alter_graph.specs.Verdict.{guard_in, guards_of, breaks, is_sort}
use Rattle.plain_world.specs.Tables.{Named, under}
use Rattle.plain_world.specs.World as plain
use Rattle.plain_world.specs.Refusals as table
use Rattle.plain_world.specs.Refusals.{law_holds, refuses}
use Rattle.desk_world.specs.declared.tables.GuardRow.{GuardRow}
use Rattle.desk_world.specs.Claims.{Claim, Guard, Sits, guard_claim, is_map}
use Rattle.desk_world.specs.InStep.{Differ, guards_seated, is_guard_of, is_guard_seat}
use Rattle.desk_world.specs.Looks.{Look, look_in, looked, seen_at}
use Rattle.desk_world.specs.Plain.{guard_by, guard_seen, word_of}

-- ---- two lists of refusers of which the same one refuses each step

map_or : {X Y : Type 0} (f : X → Y) (a b : Option X)
    → option_map f (option_or a b) ≡ option_or (option_map f a) (option_map f b)
map_or f None b = refl
map_or f (Some x) b = refl

module _ {V W X : Type 0} (f : V → X) (h : W → X) (p : V → ItemSort → Digraph → Bool)
    (q : W → ItemSort → Digraph → Bool) (vs : List V) (ws : List W)
    (alike : (sort : ItemSort) (g : Digraph) → option_map f (find (λ v. p v sort g) vs)
    ≡ option_map h (find (λ w. q w sort g) ws)) where
  pub vetoers_alike : (g : Digraph) (steps : List PlainStep)
      → option_map f (vetoer p vs g steps) ≡ option_map h (vetoer q ws g steps)
  vetoers_alike g [] = refl
  vetoers_alike g (step ∷ steps) =
      let then = after_step g step in
      let sort = sort_of step in
      map_or f (find (λ v. p v sort then) vs) (vetoer p vs then steps)
      ∙ (λ i. option_or (alike sort then i) (vetoers_alike then steps i))
      ∙ sym (map_or h (find (λ w. q w sort then) ws) (vetoer q ws then steps))

-- what holds of whoever refuses a step holds of who vetoes
either : {V : Type 0} (P : V → Type 0) (a b : Option V) (v : V) → option_or a b ≡ Some v
    → (a ≡ Some v → P v) → (b ≡ Some v → P v) → P v
either P None b v is of_a of_b = of_b is
either P (Some x) b v is of_a of_b = of_a is

module _ {V : Type 0} (p : V → ItemSort → Digraph → Bool) (vs : List V) (P : V → Type 0)
    (holds : (sort : ItemSort) (g : Digraph) (v : V) → find (λ x. p x sort g) vs ≡ Some v
    → P v) where
  pub of_vetoer : (g : Digraph) (steps : List PlainStep) (v : V) → vetoer p vs g steps ≡ Some v
      → P v
  of_vetoer g [] v is = absurd (none-some v is)
  of_vetoer g (step ∷ steps) v is =
      let then = after_step g step in
      either P (find (λ x. p x (sort_of step) then) vs) (vetoer p vs then steps) v is
      (holds (sort_of step) then v) (of_vetoer then steps v)

-- ---- laws and sorts

law_alike : (kind : Kind) (k : ℕ) (items : List Fact) → is_map kind ≡ false
    → law_holds (word_of kind) k items ≡ keeps_law kind k items
law_alike kinds.Map k items is = absurd (true≢false is)
law_alike kinds.Quota k items is = refl
law_alike kinds.Loopless k items is = refl
law_alike kinds.Simple k items is = refl
law_alike kinds.OutCap k items is = refl
law_alike kinds.Fuse k items is = refl
law_alike kinds.Tally k items is = refl

map_keeps : (kind : Kind) (k : ℕ) (items : List Fact) → is_map kind ≡ true
    → keeps_law kind k items ≡ true
map_keeps kinds.Map k items is = refl
map_keeps kinds.Quota k items is = absurd (true≢false (sym is))
map_keeps kinds.Loopless k items is = absurd (true≢false (sym is))
map_keeps kinds.Simple k items is = absurd (true≢false (sym is))
map_keeps kinds.OutCap k items is = absurd (true≢false (sym is))
map_keeps kinds.Fuse k items is = absurd (true≢false (sym is))
map_keeps kinds.Tally k items is = absurd (true≢false (sym is))

sorts_alike : (a b : ItemSort) → table.is_sort a b ≡ is_sort a b
sorts_alike sorts.Node sorts.Node = refl
sorts_alike sorts.Node sorts.Arc = refl
sorts_alike sorts.Arc sorts.Node = refl
sorts_alike sorts.Arc sorts.Arc = refl

pub sorts_same : (a b : ItemSort) → is_sort a b ≡ true → a ≡ b
sorts_same sorts.Node sorts.Node is = refl
sorts_same sorts.Node sorts.Arc is = absurd (true≢false (sym is))
sorts_same sorts.Arc sorts.Node is = absurd (true≢false (sym is))
sorts_same sorts.Arc sorts.Arc is = refl

pub own_sort : (sort : ItemSort) → is_sort sort sort ≡ true
own_sort sorts.Node = refl
own_sort sorts.Arc = refl

-- ---- by rows

-- whether the law of what is seen is broken by the items of the sort
abbrev pub is_broken : ItemSort → Digraph → Option Seen → Bool
is_broken sort g seen = option_map_or (λ s. not (keeps_law s.kind s.k (facts g sort))) seen false

-- whether the guard of the row refuses
abbrev pub row_refuses : Look → Named GuardRow → ItemSort → Digraph → Bool
row_refuses look e sort g =
    is_sort e.value.sort sort && is_broken sort g (look e.value.sort e.value.key.0)

-- the row is that of a guard
abbrev pub IsGuardRow : Look → Named GuardRow → Type 0
IsGuardRow look e = Sits Guard (look e.value.sort e.value.key.0)

abbrev pub seat_of_guard : chain.Guard → ItemSort × ℕ
seat_of_guard guard = (guard.sort, guard.key)

abbrev pub seat_of_row : Named GuardRow → ItemSort × ℕ
seat_of_row e = (e.value.sort, e.value.key.0)

module _ (look : Look) (sort : ItemSort) (g : Digraph) where
  abbrev row_stops : Named GuardRow → Bool
  row_stops e = row_refuses look e sort g

  abbrev guard_stops : Named plain.Guard → Bool
  guard_stops guard = refuses guard sort g

  abbrev pub key_stops : ℕ → Bool
  key_stops key = is_broken sort g (look sort key)

  abbrev pub seated : ℕ → ItemSort × ℕ
  seated key = (sort, key)

  -- the oldest row whose guard refuses has the name of the oldest guard that refuses
  pub by_name : (rows : List (Named GuardRow)) → AllOf (IsGuardRow look) rows
      → option_map (λ e. e.name) (find row_stops rows)
      ≡ option_map (λ guard. guard.name) (find guard_stops (looked (guard_seen look) rows))
  by_name [] all = refl
  by_name (e ∷ es) all =
      let rest = by_name es all.1 in
      let own = e.value.sort in
      elim (look own e.value.key.0) as (λ o. Sits Guard o
      → option_map (λ x. x.name)
      (cond (is_sort own sort && is_broken sort g o) (Some e) (find row_stops es))
      ≡ option_map (λ guard. guard.name) (find guard_stops
      (cons_option (option_map (under e.name) (option_map (guard_by own) o))
      (looked (guard_seen look) es)))) [
        | None ↦ λ sits. absurd sits
        | Some s ↦ λ sits.
            let test : (table.is_sort own sort
            && not (law_holds (word_of s.kind) s.k (facts g sort)))
            ≡ (is_sort own sort && not (keeps_law s.kind s.k (facts g sort))) =
            λ i. sorts_alike own sort i && not (law_alike s.kind s.k (facts g sort) sits.kind i) in
            elim (is_sort own sort && not (keeps_law s.kind s.k (facts g sort))) as (λ b.
            option_map (λ x. x.name) (cond b (Some e) (find row_stops es))
            ≡ option_map (λ guard. guard.name) (cond b (Some (under e.name (guard_by own s)))
            (find guard_stops (looked (guard_seen look) es)))) [
              | true ↦ refl
              | false ↦ rest
            ]
            ∙ sym (ap (λ b. option_map (λ guard. guard.name)
            (cond b (Some (under e.name (guard_by own s)))
            (find guard_stops (looked (guard_seen look) es)))) test)
      ] all.0

  -- it sits under the oldest key of its sort under which one refuses
  pub by_key : (rows : List (Named GuardRow)) → option_map seat_of_row (find row_stops rows)
      ≡ option_map seated (find key_stops
      (map (λ (x : Claim). x.key) (filter (is_guard_of sort) (map guard_claim rows))))
  by_key [] = refl
  by_key (e ∷ es) =
      let rest = by_key es in
      let own = e.value.sort in
      let key = e.value.key.0 in
      let later = filter (is_guard_of sort) (map guard_claim es) in
      let keys : List ℕ = map (λ (x : Claim). x.key) later in
      elim (is_sort own sort) as (λ b. is_sort own sort ≡ b → option_map seat_of_row
      (cond (b && is_broken sort g (look own key)) (Some e) (find row_stops es))
      ≡ option_map seated (find key_stops (map (λ (x : Claim). x.key)
      (cond (b && true) (guard_claim e ∷ later) later)))) [
        | true ↦ λ is.
            let same = sorts_same own sort is in
            (λ i. option_map seat_of_row
            (cond (is_broken sort g (look (same i) key)) (Some e) (find row_stops es)))
            ∙ elim (key_stops key) as (λ b.
            option_map seat_of_row (cond b (Some e) (find row_stops es))
            ≡ option_map seated (cond b (Some key) (find key_stops keys))) [
              | true ↦ (λ i. Some (same i, key))
              | false ↦ rest
            ]
        | false ↦ λ is. rest
      ] refl

  -- ---- by seats

  abbrev seat_stops : chain.Guard → Bool
  seat_stops guard = breaks guard sort g

  by_seat : (ss : List SeatSeen) → AllOf (λ (x : SeatSeen). look sort x.key ≡ Some x.seen) ss
      → option_map seat_of_guard (find seat_stops (map (guard_in sort) ss))
      ≡ option_map seated (find key_stops (map seat_key (filter is_guard_seat ss)))
  by_seat [] all = refl
  by_seat (s ∷ ss) all =
      let rest = by_seat ss all.1 in
      let broken = not (keeps_law s.seen.kind s.seen.k (facts g sort)) in
      let others = find seat_stops (map (guard_in sort) ss) in
      let keys = map seat_key (filter is_guard_seat ss) in
      let own : (is_sort sort sort && broken) ≡ broken =
      ap (λ b. b && broken) (own_sort sort) in
      let first : option_map seat_of_guard (cond (is_sort sort sort && broken)
      (Some (guard_in sort s)) others)
      ≡ option_map seat_of_guard (cond broken (Some (guard_in sort s)) others) =
      ap (λ b. option_map seat_of_guard (cond b (Some (guard_in sort s)) others)) own in
      elim (is_map s.seen.kind) as (λ m. is_map s.seen.kind ≡ m → option_map seat_of_guard
      (cond (is_sort sort sort && broken) (Some (guard_in sort s)) others)
      ≡ option_map seated (find key_stops (map seat_key
      (cond (not m) (s ∷ filter is_guard_seat ss) (filter is_guard_seat ss))))) [
        | true ↦ λ is.
            first
            ∙ ap (λ b. option_map seat_of_guard (cond (not b) (Some (guard_in sort s)) others))
            (map_keeps s.seen.kind s.seen.k (facts g sort) is)
            ∙ rest
        | false ↦ λ is.
            first
            ∙ elim broken as (λ b.
            option_map seat_of_guard (cond b (Some (guard_in sort s)) others)
            ≡ option_map seated (cond b (Some s.key) (find key_stops keys))) [
              | true ↦ refl
              | false ↦ rest
            ]
            ∙ sym (ap (λ o. option_map seated
            (cond (is_broken sort g o) (Some s.key) (find key_stops keys))) all.0)
      ] refl

  -- guards of the other sort aren't told
  others_pass : (own : ItemSort) (ss : List SeatSeen) → is_sort own sort ≡ false
      → find seat_stops (map (guard_in own) ss) ≡ None
  others_pass own [] is = refl
  others_pass own (s ∷ ss) is =
      ap (λ b. cond (b && not (keeps_law s.seen.kind s.seen.k (facts g sort)))
      (Some (guard_in own s)) (find seat_stops (map (guard_in own) ss))) is
      ∙ others_pass own ss is

-- ---- by chains

or_none : {X : Type 0} (a : Option X) → option_or a None ≡ a
or_none None = refl
or_none (Some x) = refl

own_chain : (c : ChainsSeen) (sort : ItemSort) (g : Digraph)
    → find (λ guard. breaks guard sort g) (guards_of c)
    ≡ find (λ guard. breaks guard sort g) (map (guard_in sort) (seats_in sort c))
own_chain c sorts.Node g =
    let nodes = map (guard_in sorts.Node) c.nodes.seats in
    find-append (λ guard. breaks guard sorts.Node g) nodes (map (guard_in sorts.Arc) c.arcs.seats)
    ∙ ap (option_or (find (λ guard. breaks guard sorts.Node g) nodes))
    (others_pass (look_in c) sorts.Node g sorts.Arc c.arcs.seats refl)
    ∙ or_none (find (λ guard. breaks guard sorts.Node g) nodes)
own_chain c sorts.Arc g =
    let arcs = map (guard_in sorts.Arc) c.arcs.seats in
    find-append (λ guard. breaks guard sorts.Arc g) (map (guard_in sorts.Node) c.nodes.seats) arcs
    ∙ ap (λ o. option_or o (find (λ guard. breaks guard sorts.Arc g) arcs))
    (others_pass (look_in c) sorts.Arc g sorts.Node c.nodes.seats refl)

-- each seat is found under its key
still_seen : (s : SeatSeen) (ss xs : List SeatSeen) → has (map seat_key xs) s.key ≡ false
    → AllOf (λ (x : SeatSeen). seen_at x.key ss ≡ Some x.seen) xs
    → AllOf (λ (x : SeatSeen). seen_at x.key (s ∷ ss) ≡ Some x.seen) xs
still_seen s ss [] lacks all = tt
still_seen s ss (x ∷ xs) lacks all =
    let parts = or_parts (x.key == s.key) (has (map seat_key xs) s.key) lacks in
    let apart : s.key ≡ x.key → ⊥ = λ e.
    true≢false (sym (eq-eqb x.key s.key (sym e)) ∙ parts.0) in (
      ap (λ b. cond b (Some s.seen) (seen_at x.key ss)) (ne_eqb s.key x.key apart) ∙ all.0,
      still_seen s ss xs parts.1 all.1,
    )

pub each_seen : (ss : List SeatSeen) → Differ (map seat_key ss)
    → AllOf (λ (x : SeatSeen). seen_at x.key ss ≡ Some x.seen) ss
each_seen [] differ = tt
each_seen (s ∷ ss) differ = (
  ap (λ b. cond b (Some s.seen) (seen_at s.key ss)) (eq-eqb s.key s.key refl),
  still_seen s ss ss differ.0 (each_seen ss differ.1),
)

-- the oldest guard that refuses sits under the oldest key of its sort under which one refuses
pub by_chain : (c : ChainsSeen) (sort : ItemSort) (g : Digraph)
    → Differ (map seat_key (seats_in sort c))
    → option_map seat_of_guard (find (λ guard. breaks guard sort g) (guards_of c))
    ≡ option_map (seated (look_in c) sort g)
    (find (key_stops (look_in c) sort g) (guards_seated sort c))
by_chain c sort g differ =
    ap (option_map seat_of_guard) (own_chain c sort g)
    ∙ by_seat (look_in c) sort g (seats_in sort c) (each_seen (seats_in sort c) differ)
