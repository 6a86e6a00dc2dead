-- The guards of a world by their names and by their places.
use Rattle.std.proofs.Common.{◌≡◌, ℕ, zero, suc, ◌≤◌, true, cond, List, [], ◌∷◌, map, refl, sym, ap}
use Rattle.std.proofs.Common.{false, ◌++◌, ◌∙◌, subst, Option, Some, None, is_some, length, arith}
use Rattle.std.specs.Prelude.{option_map, option_and_then, slice_get, ◌==◌}
use Rattle.std.specs.List.{cons_option}
use Rattle.std.proofs.lemmas.Bool.{true≢false}
use Rattle.std.proofs.lemmas.Option.{none-some, same_Some}
use Rattle.base_items.specs.declared.items.ItemSort.{ItemSort}
use Rattle.base_items.specs.declared.items.ItemSort.TheVariants as sorts
use Rattle.base_items.specs.declared.items.Fact.{Fact}
use Rattle.plain_digraph.specs.Items.{facts, count_of}
use Rattle.plain_digraph.specs.Lists.{AllOf}
use Rattle.observe_core.specs.declared.kinds.Kind.{Kind}
use Rattle.observe_core.specs.declared.kinds.Kind.TheVariants as kinds
use Rattle.observe_core.specs.Conditions.{HasSmallCounts}
use Rattle.observe_core.specs.Fits.{Fits}
use Rattle.observe_core.specs.Guards.{Law, by_kind}
use Rattle.observe_core.specs.Seen.{Seen, Watched, IsSound}
use Rattle.observe_core.proofs.LawLemmas.{lawful-live}
use Rattle.notify_chain.specs.Seats.{SeatSeen, AllSeats, Steady}
use Rattle.alter_graph.specs.Chains.{ChainsSeen, chains_seen, seats_in}
use Rattle.alter_graph.specs.State as graph
use Rattle.alter_graph.specs.State.{AlterOf, Stands, state_of}
use Rattle.alter_graph.proofs.Rooms.{facts_counted}
use Rattle.alter_graph.proofs.Taking.{steady_in}
use Rattle.plain_world.specs.Tables.{Name, Named, under, entry, has_entry}
use Rattle.desk_world.specs.declared.tables.GuardRow.{GuardRow}
use Rattle.desk_world.specs.declared.world.World.{World}
use Rattle.desk_world.specs.Claims.{Plays, Sits, Guard, guard_claim, is_map}
use Rattle.desk_world.specs.InStep.{AreInStep}
use Rattle.desk_world.specs.Looks.{Look, looked, look_in, seen_at}
use Rattle.desk_world.specs.Plain.{plain_of, look_of, guard_seen, guard_by}
use Rattle.desk_world.proofs.Carried.{seen_fits}
use Rattle.desk_world.proofs.GuardTables.{ahead, after, claims_are}
use Rattle.desk_world.proofs.MapsFound.{looked_entry, of_entry}
use Rattle.desk_world.proofs.Seated.{SitsIn, all_left, all_right, all_so}

-- ---- tables

-- where all rows lead to something, what stands at a place is what its row leads to
pub looked_place : {X Y : Type 0} (look : X → Option Y) (table : List (Named X)) (place : ℕ)
    (e : Named X) (y : Y) → AllOf (λ (e : Named X). is_some (look e.value) ≡ true) table
    → slice_get table place ≡ Some e → look e.value ≡ Some y
    → slice_get (looked look table) place ≡ Some (under e.name y)
looked_place look [] place e y all at leads = absurd (none-some e at)
looked_place {X} {Y} look (f ∷ fs) place e y all at leads =
    by place (look f.value) refl all.0 (λ n here. looked_place look fs n e y all.1 here leads) at
  where
    Then : List (Named X) → List (Named Y) → ℕ → Type 0
    Then rows seen n = slice_get rows n ≡ Some e → slice_get seen n ≡ Some (under e.name y)

    by : (n : ℕ) (o : Option Y) → look f.value ≡ o → is_some o ≡ true
        → ((m : ℕ) → Then fs (looked look fs) m)
        → Then (f ∷ fs) (cons_option (option_map (under f.name) o) (looked look fs)) n
    by n None is some rest here = absurd (true≢false (sym some))
    by zero (Some x) is some rest here =
        let own = same_Some f e here in
        let same : x ≡ y =
        same_Some x y (sym is ∙ ap (λ (d : Named X). look d.value) own ∙ leads) in
        λ i. Some (under (own i).name (same i))
    by (suc n) (Some x) is some rest here = rest n here

-- the row at a place, from its name and its value
pub row_at : {X : Type 0} (table : List (Named X)) (place : ℕ) (name : Name) (x : X)
    → slice_get (map (λ (e : Named X). e.name) table) place ≡ Some name
    → slice_get (map (λ (e : Named X). e.value) table) place ≡ Some x
    → slice_get table place ≡ Some (under name x)
row_at [] place name x named valued = absurd (none-some name named)
row_at (e ∷ es) zero name x named valued =
    let n = same_Some e.name name named in
    let v = same_Some e.value x valued in
    λ i. Some (under (n i) (v i))
row_at (e ∷ es) (suc place) name x named valued = row_at es place name x named valued

-- what holds of all values holds of that at a place
pub all_values : {X : Type 0} (P : X → Type 0) (table : List (Named X)) (place : ℕ) (x : X)
    → AllOf (λ (e : Named X). P e.value) table
    → slice_get (map (λ (e : Named X). e.value) table) place ≡ Some x → P x
all_values P [] place x all at = absurd (none-some x at)
all_values P (e ∷ es) zero x all at = subst P (same_Some e.value x at) all.0
all_values P (e ∷ es) (suc place) x all at = all_values P es place x all.1 at

-- ---- what is known of a seat

-- what holds of all seats holds of what is seen under a key
seat_at : (P : Seen → Type 0) (key : ℕ) (ss : List SeatSeen) (s : Seen)
    → AllSeats (λ t. P t.seen) ss → seen_at key ss ≡ Some s → P s
seat_at P key [] s all at = absurd (none-some s at)
seat_at P key (t ∷ ss) s all at =
    let rest = seat_at P key ss s all.1 in
    elim (t.key == key) as (λ b. cond b (Some t.seen) (seen_at key ss) ≡ Some s → P s) [
      | true ↦ λ h. subst P (same_Some t.seen s h) all.0
      | false ↦ λ h. rest h
    ] at

-- the counts are small while there are stamps
counts_small : (stamps : ℕ) (live : List Fact) → stamps ≤ 4611686018427387904
    → (ss : List SeatSeen) → AllSeats (Stands stamps live) ss
    → AllSeats (λ t. HasSmallCounts t.seen) ss
counts_small stamps live few [] all = tt
counts_small stamps live few (t ∷ ss) all =
    let a = all.0.added in
    let e = all.0.erased in
    let m = all.0.moved in (
      record {
        added = omega (arith, few, a);
        erased = omega (arith, few, e);
        moved = omega (arith, few, m);
      },
      counts_small stamps live few ss all.1,
    )

all_sound : (ss : List SeatSeen) → AllSeats Steady ss → AllSeats (λ t. IsSound t.seen) ss
all_sound [] all = tt
all_sound (t ∷ ss) all = (all.0.0, all_sound ss all.1)

module _ {O : Type 0} (watch : O → Watched) (a : AlterOf O)
    (in_step : graph.IsInStep (state_of watch a)) where
  abbrev c : ChainsSeen
  c = chains_seen watch a.chains

  pub seat_fits : (sort : ItemSort) (key : ℕ) (s : Seen) → look_in c sort key ≡ Some s
      → Fits s (facts a.graph.graph sort)
  seat_fits sorts.Node key s at =
      seen_fits a.graph.graph.stamps (facts a.graph.graph sorts.Node) key c.nodes.seats s
      in_step.seats.nodes at
  seat_fits sorts.Arc key s at =
      seen_fits a.graph.graph.stamps (facts a.graph.graph sorts.Arc) key c.arcs.seats s
      in_step.seats.arcs at

  pub seat_small : (sort : ItemSort) (key : ℕ) (s : Seen) → look_in c sort key ≡ Some s
      → HasSmallCounts s
  seat_small sorts.Node key s at =
      seat_at HasSmallCounts key c.nodes.seats s
      (counts_small a.graph.graph.stamps (facts a.graph.graph sorts.Node) in_step.valid.few_stamps
      c.nodes.seats in_step.seats.nodes) at
  seat_small sorts.Arc key s at =
      seat_at HasSmallCounts key c.arcs.seats s
      (counts_small a.graph.graph.stamps (facts a.graph.graph sorts.Arc) in_step.valid.few_stamps
      c.arcs.seats in_step.seats.arcs) at

  seat_sound : (sort : ItemSort) (key : ℕ) (s : Seen) → look_in c sort key ≡ Some s → IsSound s
  seat_sound sort key s at =
      seat_at IsSound key (seats_in sort c) s
      (all_sound (seats_in sort c) (steady_in watch sort a.chains)) at

  -- its law holds of the live items
  pub seat_law : (sort : ItemSort) (key : ℕ) (s : Seen) → look_in c sort key ≡ Some s
      → Law s.kind s.k (facts a.graph.graph sort)
  seat_law sort key s at =
      lawful-live s (facts a.graph.graph sort) (seat_fits sort key s at)
      (seat_sound sort key s at).lawful

  -- a guard tracks as many as are live
  pub guard_counts : (sort : ItemSort) (key : ℕ) (s : Seen) → look_in c sort key ≡ Some s
      → Plays Guard s → length s.facts ≡ count_of a.graph.graph sort
  guard_counts sort key s at plays =
      ap length ((seat_fits sort key s at).guard
      ∙ by s.kind plays.kind (facts a.graph.graph sort))
      ∙ facts_counted a.graph.graph sort in_step.valid
    where
      by : (kind : Kind) → is_map kind ≡ false → (live : List Fact) → by_kind [] live kind ≡ live
      by kinds.Map is live = absurd (true≢false is)
      by kinds.Quota is live = refl
      by kinds.Loopless is live = refl
      by kinds.Simple is live = refl
      by kinds.OutCap is live = refl
      by kinds.Fuse is live = refl
      by kinds.Tally is live = refl

-- ---- guards by name

-- the guard in the seat of the row
pub record Leads (look : Look) (row : GuardRow) : Type 0 where
  pub seen : Seen
  pub there : look row.sort row.key.0 ≡ Some seen
  pub plays : Plays Guard seen

leads_by : (look : Look) (row : GuardRow) (o : Option Seen) → look row.sort row.key.0 ≡ o
    → Sits Guard o → Leads look row
leads_by look row None is sits = absurd sits
leads_by look row (Some s) is sits = record { seen = s; there = is; plays = sits }

rows_of_claims : (d : ChainsSeen) (table : List (Named GuardRow))
    → AllOf (SitsIn d) (map guard_claim table)
    → AllOf (λ (e : Named GuardRow). Leads (look_in d) e.value) table
rows_of_claims d [] all = tt
rows_of_claims d (e ∷ es) all = (
  leads_by (look_in d) e.value (look_in d e.value.sort e.value.key.0) refl all.0,
  rows_of_claims d es all.1,
)

module _ {O : Type 0} (watch : O → Watched) (w : World O) (in_step : AreInStep watch w) where
  abbrev now : ChainsSeen
  now = chains_seen watch w.graph.chains

  -- each row leads to a guard
  pub rows_lead : AllOf (λ (e : Named GuardRow). Leads (look_of watch w) e.value) w.guards.rows
  rows_lead =
      rows_of_claims now w.guards.rows
      (all_left (SitsIn now) (map guard_claim w.guards.rows) (after w)
      (all_right (SitsIn now) (ahead w) (map guard_claim w.guards.rows ++ after w)
      (subst (AllOf (SitsIn now)) (claims_are w) in_step.seated.there)))

  pub rows_seen : AllOf (λ (e : Named GuardRow).
      is_some (guard_seen (look_of watch w) e.value) ≡ true) w.guards.rows
  rows_seen =
      all_so (λ (e : Named GuardRow). Leads (look_of watch w) e.value)
      (λ (e : Named GuardRow). is_some (guard_seen (look_of watch w) e.value) ≡ true)
      (λ e leads. ap (λ o. is_some (option_map (guard_by e.value.sort) o)) leads.there)
      w.guards.rows rows_lead

  guard_entry : (name : Name) → entry (plain_of watch w).guards name
      ≡ option_and_then (guard_seen (look_of watch w)) (entry w.guards.rows name)
  guard_entry name = looked_entry (guard_seen (look_of watch w)) w.guards.rows name rows_seen

  -- what is known of the guard of a name
  pub record HasGuard (name : Name) (row : GuardRow) : Type 0 where
    pub leads : Leads (look_of watch w) row
    pub own : entry (plain_of watch w).guards name ≡ Some (guard_by row.sort leads.seen)

  pub guard_found : (name : Name) (row : GuardRow) → entry w.guards.rows name ≡ Some row
      → HasGuard name row
  guard_found name row found =
      let leads = of_entry (Leads (look_of watch w)) w.guards.rows name row rows_lead found in
      record {
        leads = leads;
        own = guard_entry name
            ∙ ap (option_and_then (guard_seen (look_of watch w))) found
            ∙ ap (option_map (guard_by row.sort)) leads.there;
      }

  -- a guard is there exactly where its row is
  pub guard_there : (name : Name)
      → has_entry (plain_of watch w).guards name ≡ has_entry w.guards.rows name
  guard_there name = by (entry w.guards.rows name) refl
    where
      by : (o : Option GuardRow) → entry w.guards.rows name ≡ o
          → is_some (entry (plain_of watch w).guards name) ≡ is_some o
      by None found =
          ap is_some (guard_entry name
          ∙ ap (option_and_then (guard_seen (look_of watch w))) found)
      by (Some row) found = ap is_some (guard_found name row found).own
