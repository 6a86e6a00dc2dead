-- That the seats of a world are in step with its digraph and its tables.
use Rattle.std.specs.Prelude.{◌≡◌, ℕ, ◌+◌, ◌^◌, ◌≤◌, Bool, true, false, ◌&&◌, not, List, []}
use Rattle.std.specs.Prelude.{◌∷◌, map, filter}
use Rattle.base_items.specs.declared.items.ItemSort.{ItemSort}
use Rattle.base_items.specs.declared.limits.TheConstants.{MAX_STAMP}
use Rattle.plain_digraph.specs.Lists.{AllOf, has}
use Rattle.observe_core.specs.Seen.{Seen, Watched}
use Rattle.observe_core.specs.Untold.{TracksNothing}
use Rattle.notify_chain.specs.Seats.{SeatSeen, seat_key}
use Rattle.alter_graph.specs.Chains.{ChainsSeen, chain_in, chains_seen, seats_in}
use Rattle.alter_graph.specs.State as graph
use Rattle.alter_graph.specs.State.{state_of}
use Rattle.alter_graph.specs.Verdict.{is_sort}
use Rattle.plain_world.specs.Valid.{IsWorld}
use Rattle.desk_world.specs.declared.tables.MapKind.{MapKind}
use Rattle.desk_world.specs.declared.tables.MapKind.TheVariants as maps
use Rattle.desk_world.specs.declared.world.World.{World}
use Rattle.desk_world.specs.Looks.{look_in}
use Rattle.desk_world.specs.Plain.{plain_of, look_of}
use Rattle.desk_world.specs.Claims.{Claim, Guard, Plays, Sits, claims_of, is_claimed, is_map}
use Rattle.desk_world.specs.Claims.{ClaimsDiffer, has_map_kind}
use Rattle.desk_world.specs.Derived.{AreDerived}
use Rattle.desk_world.specs.KeptViews.{AreKept}

-- the keys of the seats of a chain, oldest first
abbrev pub keys_in : ItemSort → ChainsSeen → List ℕ
keys_in sort c = map seat_key (seats_in sort c)

-- no key stands twice
abbrev pub Differ : List ℕ → Type 0
Differ [] = Unit {0}
Differ (key ∷ keys) = (has keys key ≡ false) × Differ keys

-- ---- guards

-- the keys of the seats of a chain in which guards sit, oldest first
abbrev pub is_guard_seat : SeatSeen → Bool
is_guard_seat s = not (is_map s.seen.kind)

abbrev pub guards_seated : ItemSort → ChainsSeen → List ℕ
guards_seated sort c = map seat_key (filter is_guard_seat (seats_in sort c))

-- the keys of the guards of the sort that are claimed, in the order of the claims
abbrev pub is_guard_of : ItemSort → Claim → Bool
is_guard_of sort x = is_sort x.sort sort && not (has_map_kind x.role)

abbrev pub guards_claimed : ItemSort → List Claim → List ℕ
guards_claimed sort claims = map (λ x. x.key) (filter (is_guard_of sort) claims)

-- ---- seats

-- the seats are exactly those that are claimed, each with its role; guards sit in the order of
-- their
-- claims, and no key of a guard that left is to be taken
pub record AreSeated (claims : List Claim) (c : ChainsSeen) : Type 0 where
  pub there : AllOf (λ x. Sits x.role (look_in c x.sort x.key)) claims
  pub no_other : (sort : ItemSort)
      → AllOf (λ key. is_claimed claims sort key ≡ true) (keys_in sort c)
  pub claims_differ : ClaimsDiffer claims
  pub keys_differ : (sort : ItemSort) → Differ (keys_in sort c)
  pub in_order : (sort : ItemSort) → guards_seated sort c ≡ guards_claimed sort claims
  pub none_left : (sort : ItemSort) → (chain_in sort c).left ≡ []

-- a guard that tracks nothing; arming it sets all else
pub record IsBox (s : Seen) : Type 0 where
  pub guard : Plays Guard s
  pub empty : TracksNothing s

-- whether a map has values of its own
abbrev pub has_values : MapKind → Bool
has_values maps.Ints = true
has_values maps.Bools = true
has_values maps.Texts = true
has_values (maps.Degrees way) = false
has_values (maps.Trues map) = false

module _ {O : Type 0} (watch : O → Watched) where
  -- each box of the pool is a guard that tracks nothing
  abbrev pub AreBoxes : List O → Type 0
  AreBoxes boxes = AllOf (λ o. IsBox (watch o).seen) boxes

  -- the observers are in step with the digraph, the seats are exactly those that the tables speak
  -- of, each with its role, the boxes of the pool track nothing, indexes and ties are those of the
  -- maps and the attributes, and kept views are placed by the present values
  pub record AreInStep (w : World O) : Type 0 where
    pub graph : graph.IsInStep (state_of watch w.graph)
    pub seated : AreSeated (claims_of w) (chains_seen watch w.graph.chains)
    pub boxes : AreBoxes w.pool.items
    pub snaps : (chains_seen watch w.graph.chains).snaps ≡ map (λ e. e.value) w.snapshots.rows
    pub derived : AreDerived (look_of watch w) w.nodes w.arcs w.attributes.rows
    pub kept : AreKept (look_of watch w) w.nodes w.arcs w.views.rows

  -- besides, the plain world is valid
  pub record IsInStep (w : World O) : Type 0 where
    pub seats : AreInStep w
    pub valid : IsWorld (plain_of watch w)

-- 2^24 stamps are left
abbrev pub HasStamps : {O : Type 0} → World O → Type 0
HasStamps w = w.graph.graph.graph.stamps + 2 ^ 24 ≤ MAX_STAMP
