-- The table of snapshots follows the steps of an alteration.
use Rattle.std.proofs.Common.{◌≡◌, ℕ, Bool, true, false, cond, not, ◌&&◌, ◌==◌, List, []}
use Rattle.std.proofs.Common.{◌∷◌, map, refl, sym, ap, ◌∙◌, Option, Some, None, IsTrue}
use Rattle.std.specs.Prelude.{◌||◌, nat_lt, option_map, option_and_then}
use Rattle.std.specs.List.{list_any, flat_map, cons_option}
use Rattle.std.proofs.lemmas.Option.{none-some, same_Some}
use Rattle.base_items.specs.declared.items.Fact.{Fact}
use Rattle.base_items.specs.declared.items.ItemSort.TheVariants as sorts
use Rattle.plain_digraph.specs.Copies.{Copy, ids_in, is_empty, loses}
use Rattle.plain_digraph.specs.Digraph.{Digraph, Place}
use Rattle.plain_digraph.specs.Facts.{fact_id}
use Rattle.plain_digraph.specs.Falling.{by_falling, source_places}
use Rattle.plain_digraph.specs.Items.{ids}
use Rattle.plain_digraph.specs.Lists.{AllOf, has}
use Rattle.plain_digraph.specs.PlainSteps.{PlainStep, AddNode, AddArc, MoveFrom, MoveTo, Turn}
use Rattle.plain_digraph.specs.PlainSteps.{PlaceBack, EraseArc, EraseNode, ClearArcs, ClearNodes}
use Rattle.plain_digraph.specs.PlainSteps.{after_step}
use Rattle.plain_digraph.specs.Steps.{placed}
use Rattle.observe_core.specs.Items.{has_id}
use Rattle.observe_core.specs.Seen.{Seen}
use Rattle.notify_chain.specs.Seats.{SeatSeen}
use Rattle.alter_graph.specs.declared.snaps.SnapKeys.{SnapKeys}
use Rattle.alter_graph.specs.Chains.{ChainsSeen}
use Rattle.alter_graph.specs.Present.{present_of}
use Rattle.alter_graph.specs.Snaps.{Saved, takes_from, has_any, half_held, half_of, held_at}
use Rattle.alter_graph.specs.Snaps.{is_valid, saved_by, Follows}
use Rattle.plain_world.specs.Tables.{Named, under}
use Rattle.plain_world.specs.Following.{snapshot_after}
use Rattle.desk_world.specs.Claims.{Sits, Half, snap_claims}
use Rattle.desk_world.specs.Copies.{copy_of_facts, copy_of_halves}
use Rattle.desk_world.specs.Looks.{Look, look_in, looked, seen_at}
use Rattle.desk_world.specs.Plain.{snapshot_seen}
use Rattle.desk_world.proofs.Remaining.{StillSits}
use Rattle.desk_world.proofs.Seated.{SitsIn}

-- ---- the items of a copy, in its lists and by its facts

pub has_placed : (places : List Place) (id at other : ℕ)
    → has (ids (placed places id at)) other ≡ (id == other) || has (ids places) other
has_placed [] id at other = refl
has_placed (p ∷ places) id at other =
    let rest = has_placed places id at other in
    elim (nat_lt p.1 at) as (λ b.
    has (ids (cond b ((id, at) ∷ p ∷ places) (p ∷ placed places id at))) other
    ≡ (id == other) || has (ids (p ∷ places)) other) [
      | true ↦ refl
      | false ↦
          ap (λ b. (p.0 == other) || b) rest
          ∙ either_way (p.0 == other) (id == other) (has (ids places) other)
    ]
  where
    either_way : (a b c : Bool) → a || (b || c) ≡ b || (a || c)
    either_way true true c = refl
    either_way true false c = refl
    either_way false true c = refl
    either_way false false c = refl

pub has_falling : (facts : List Fact) (id : ℕ)
    → has (ids (by_falling (source_places facts))) id ≡ has_id fact_id id facts
has_falling [] id = refl
has_falling (f ∷ facts) id =
    has_placed (by_falling (source_places facts)) f.id f.from_at id
    ∙ ap (λ b. (f.id == id) || b) (has_falling facts id)
    ∙ by (f.id == id) (has_id fact_id id facts)
  where
    by : (a b : Bool) → a || b ≡ cond a true b
    by true b = refl
    by false b = refl

none_placed : (places : List Place) (id at : ℕ) → is_empty (ids (placed places id at)) ≡ false
none_placed [] id at = refl
none_placed (p ∷ places) id at = elim (nat_lt p.1 at) as (λ b.
    is_empty (ids (cond b ((id, at) ∷ p ∷ places) (p ∷ placed places id at))) ≡ false) [
      | true ↦ refl
      | false ↦ refl
    ]

any_falling : (facts : List Fact)
    → not (is_empty (ids (by_falling (source_places facts)))) ≡ has_any facts
any_falling [] = refl
any_falling (f ∷ facts) =
    ap not (none_placed (by_falling (source_places facts)) f.id f.from_at)

or_none : (b : Bool) → (b || false) ≡ b
or_none true = refl
or_none false = refl

-- a step takes an item of the copy away by its lists where it does by its facts
pub same_loss : (copy : Saved) (g : Digraph) (step : PlainStep)
    → loses (copy_of_facts copy.nodes copy.arcs) g step ≡ takes_from copy step
same_loss copy g AddNode = refl
same_loss copy g (AddArc from to) = refl
same_loss copy g (MoveFrom arc node) = refl
same_loss copy g (MoveTo arc node) = refl
same_loss copy g (Turn arc) = refl
same_loss copy g (PlaceBack fact) = refl
same_loss copy g (EraseArc arc) = has_falling copy.arcs arc
same_loss copy g (EraseNode node) =
    or_none (has (ids_in (copy_of_facts copy.nodes copy.arcs) sorts.Node) node)
    ∙ has_falling copy.nodes node
same_loss copy g ClearArcs = any_falling copy.arcs
same_loss copy g ClearNodes =
    or_none (not (is_empty (ids_in (copy_of_facts copy.nodes copy.arcs) sorts.Node)))
    ∙ any_falling copy.nodes

-- ---- one snapshot, by its copy while it is valid

abbrev pub copy_if : Bool → Saved → Option Copy
copy_if valid copy = cond valid (Some (copy_of_facts copy.nodes copy.arcs)) None

-- what the steps leave of it, taken in turn
abbrev pub snapshot_on : List PlainStep → Digraph → Option Copy → Option Copy
snapshot_on [] g copy = copy
snapshot_on (step ∷ steps) g copy =
    snapshot_on steps (after_step g step) (snapshot_after g step copy)

once : (valid : Bool) (copy : Saved) (g : Digraph) (step : PlainStep)
    → snapshot_after g step (copy_if valid copy)
    ≡ copy_if (valid && not (takes_from copy step)) copy
once true copy g step =
    ap (λ b. cond b None (Some (copy_of_facts copy.nodes copy.arcs))) (same_loss copy g step)
    ∙ by (takes_from copy step)
  where
    by : (b : Bool) → cond b None (Some (copy_of_facts copy.nodes copy.arcs))
        ≡ copy_if (not b) copy
    by true = refl
    by false = refl
once false copy g step = refl

and_not : (a b c : Bool) → ((a && not b) && not c) ≡ (a && not (b || c))
and_not true true c = refl
and_not true false c = refl
and_not false b c = refl

and_all : (a : Bool) → (a && true) ≡ a
and_all true = refl
and_all false = refl

pub copy_on : (steps : List PlainStep) (g : Digraph) (valid : Bool) (copy : Saved)
    → snapshot_on steps g (copy_if valid copy)
    ≡ copy_if (valid && not (list_any (takes_from copy) steps)) copy
copy_on [] g valid copy = ap (λ b. copy_if b copy) (sym (and_all valid))
copy_on (step ∷ steps) g valid copy =
    ap (snapshot_on steps (after_step g step)) (once valid copy g step)
    ∙ copy_on steps (after_step g step) (valid && not (takes_from copy step)) copy
    ∙ ap (λ b. copy_if b copy)
    (and_not valid (takes_from copy step) (list_any (takes_from copy) steps))

-- ---- the table

-- what the steps leave of all of them
abbrev pub snapshots_on : List PlainStep → Digraph → List (Named (Option Copy))
    → List (Named (Option Copy))
snapshots_on [] g table = table
snapshots_on (step ∷ steps) g table =
    snapshots_on steps (after_step g step)
    (map (λ e. under e.name (snapshot_after g step e.value)) table)

each_on : (steps : List PlainStep) (g : Digraph) (table : List (Named (Option Copy)))
    → snapshots_on steps g table ≡ map (λ e. under e.name (snapshot_on steps g e.value)) table
each_on [] g table = sym (same table)
  where
    same : (table : List (Named (Option Copy))) → map (λ e. under e.name e.value) table ≡ table
    same [] = refl
    same (e ∷ es) = ap (λ more. e ∷ more) (same es)
each_on (step ∷ steps) g table =
    each_on steps (after_step g step)
    (map (λ e. under e.name (snapshot_after g step e.value)) table)
    ∙ both table
  where
    both : (table : List (Named (Option Copy)))
        → map (λ e. under e.name (snapshot_on steps (after_step g step) e.value))
        (map (λ e. under e.name (snapshot_after g step e.value)) table)
        ≡ map (λ e. under e.name (snapshot_on (step ∷ steps) g e.value)) table
    both [] = refl
    both (e ∷ es) =
        ap (λ more. under e.name (snapshot_on (step ∷ steps) g e.value) ∷ more) (both es)

-- ---- what is seen of a snapshot

-- what sits under a key by the form of a half is held
pub half_seen : (key : ℕ) (ss : List SeatSeen) (s : Seen) → seen_at key ss ≡ Some s → s.form ≡ 0
    → held_at key ss ≡ s.held
half_seen key [] s at form = absurd (none-some s at)
half_seen key (t ∷ ss) s at form =
    let rest = half_seen key ss s in
    elim (t.key == key) as (λ b. cond b (Some t.seen) (seen_at key ss) ≡ Some s
    → cond b (half_of t.seen) (held_at key ss) ≡ s.held) [
      | true ↦ λ is.
          let same = same_Some t.seen s is in
          ap (λ (x : Seen). half_held x.form x.held) same
          ∙ ap (λ (form : ℕ). half_held form s.held) form
      | false ↦ λ is. rest is form
    ] at

abbrev pub HalvesSit : Look → SnapKeys → Type 0
HalvesSit look keys =
    Sits Half (look sorts.Node keys.nodes.0) × Sits Half (look sorts.Arc keys.arcs.0)

-- a copy while it is valid
pub snapshot_shown : (g : Digraph) (c : ChainsSeen) (keys : SnapKeys) → HalvesSit (look_in c) keys
    → snapshot_seen g (look_in c) keys
    ≡ Some (copy_if (is_valid keys c) (saved_by keys (present_of g) c))
snapshot_shown g c keys sit =
    of (look_in c sorts.Node keys.nodes.0) (look_in c sorts.Arc keys.arcs.0) refl refl sit.0 sit.1
  where
    Shown : Option Seen → Option Seen → Type 0
    Shown nodes arcs =
        option_and_then (λ (x : Seen). option_map
        (λ (y : Seen). copy_of_halves g x.held y.held) arcs) nodes
        ≡ Some (copy_if (is_valid keys c) (saved_by keys (present_of g) c))

    of : (nodes arcs : Option Seen) → look_in c sorts.Node keys.nodes.0 ≡ nodes
        → look_in c sorts.Arc keys.arcs.0 ≡ arcs → Sits Half nodes → Sits Half arcs
        → Shown nodes arcs
    of None arcs n a first second = absurd first
    of (Some x) None n a first second = absurd second
    of (Some x) (Some y) n a first second =
        let nodes = half_seen keys.nodes.0 c.nodes.seats x n first.form in
        let arcs = half_seen keys.arcs.0 c.arcs.seats y a second.form in
        λ i. Some (copy_of_halves g (sym nodes i) (sym arcs i))

same_copy : (valid : Bool) (copy other : Saved) → (IsTrue valid → copy ≡ other)
    → copy_if valid copy ≡ copy_if valid other
same_copy true copy other same =
    ap (λ (x : Saved). Some (copy_of_facts x.nodes x.arcs)) (same refl)
same_copy false copy other same = refl

module _ (steps : List PlainStep) (g h : Digraph) (c d : ChainsSeen) where
  abbrev HasFollowed : SnapKeys → Type 0
  HasFollowed = Follows steps (present_of g) c (present_of h) d

  row_follows : (keys : SnapKeys) → HalvesSit (look_in c) keys → HalvesSit (look_in d) keys
      → HasFollowed keys
      → snapshot_seen h (look_in d) keys
      ≡ option_map (snapshot_on steps g) (snapshot_seen g (look_in c) keys)
  row_follows keys was now follows =
      let before = saved_by keys (present_of g) c in
      snapshot_shown h d keys now
      ∙ ap Some
      (same_copy (is_valid keys d) (saved_by keys (present_of h) d) before follows.copy
      ∙ ap (λ b. copy_if b before) follows.flag
      ∙ sym (copy_on steps g (is_valid keys c) before))
      ∙ sym (ap (option_map (snapshot_on steps g)) (snapshot_shown g c keys was))

  table_follows : (rows : List (Named SnapKeys))
      → AllOf (λ e. HalvesSit (look_in c) e.value) rows
      → AllOf (λ e. HalvesSit (look_in d) e.value) rows
      → AllOf HasFollowed (map (λ e. e.value) rows)
      → looked (snapshot_seen h (look_in d)) rows
      ≡ map (λ e. under e.name (snapshot_on steps g e.value))
      (looked (snapshot_seen g (look_in c)) rows)
  table_follows [] was now follows = refl
  table_follows (e ∷ es) was now follows =
      let rest = table_follows es was.1 now.1 follows.1 in
      let here = row_follows e.value was.0 now.0 follows.0 in
      (λ i. cons_option (option_map (under e.name) (here i)) (rest i))
      ∙ put (snapshot_seen g (look_in c) e.value) (looked (snapshot_seen g (look_in c)) es)
    where
      put : (o : Option (Option Copy)) (more : List (Named (Option Copy)))
          → cons_option (option_map (under e.name) (option_map (snapshot_on steps g) o))
          (map (λ f. under f.name (snapshot_on steps g f.value)) more)
          ≡ map (λ f. under f.name (snapshot_on steps g f.value))
          (cons_option (option_map (under e.name) o) more)
      put None more = refl
      put (Some copy) more = refl

  -- the table that is seen afterwards
  pub snapshots_follow : (rows : List (Named SnapKeys))
      → AllOf (λ e. HalvesSit (look_in c) e.value) rows
      → AllOf (λ e. HalvesSit (look_in d) e.value) rows
      → AllOf HasFollowed (map (λ e. e.value) rows)
      → looked (snapshot_seen h (look_in d)) rows
      ≡ snapshots_on steps g (looked (snapshot_seen g (look_in c)) rows)
  snapshots_follow rows was now follows =
      table_follows rows was now follows
      ∙ sym (each_on steps g (looked (snapshot_seen g (look_in c)) rows))

-- ---- the halves of the tables sit

pub halves_still : (look : Look) (table : List (Named SnapKeys))
    → AllOf (StillSits look) (flat_map snap_claims table)
    → AllOf (λ e. HalvesSit look e.value) table
halves_still look [] all = tt
halves_still look (e ∷ es) all = ((all.0 refl, all.1.0 refl), halves_still look es all.1.1)

pub halves_sit : (c : ChainsSeen) (table : List (Named SnapKeys))
    → AllOf (SitsIn c) (flat_map snap_claims table)
    → AllOf (λ e. HalvesSit (look_in c) e.value) table
halves_sit c [] all = tt
halves_sit c (e ∷ es) all = ((all.0, all.1.0), halves_sit c es all.1.1)
