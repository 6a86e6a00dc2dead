-- What is told of nodes and arcs by number: one fact more, and that it may be told.
use Rattle.std.proofs.Common.{◌≡◌, ℕ, zero, suc, ◌+◌, ◌<◌, ◌≤◌, List, [], ◌∷◌, ◌++◌, map}
use Rattle.std.proofs.Common.{Result, Ok, Err, OnErr, refl, sym, subst, arith}
use Rattle.std.specs.List.{range_with_len}
use Rattle.std.proofs.lemmas.List.FromFn.{map-range_with_len_more}
use Rattle.base_items.specs.declared.items.Fact.{Fact}
use Rattle.plain_digraph.specs.Items.{node_fact, arc_fact}
use Rattle.plain_digraph.specs.Facts.{fact_id}
use Rattle.plain_digraph.specs.Lists.{AllOf}
use Rattle.observe_core.specs.Items.{Lacks}
use Rattle.observe_core.specs.Facts.{IsInBounds, HasDistinctIds}
use Rattle.observe_core.specs.Conditions.{CanBuild}
use Rattle.observe_core.specs.Seen.{Seen}
use Rattle.observe_core.specs.Seen.{Lawful}
use Rattle.observe_core.specs.declared.kinds.Veto.{Veto}
use Rattle.observe_core.specs.declared.kinds.Veto.TheVariants.{Refused, Memory}
use Rattle.base_items.specs.declared.items.ItemSort.TheVariants as sorts
use Rattle.notify_chain.specs.declared.key.SeatKey.{SeatKey}
use Rattle.notify_chain.specs.Seats.{SeatSeen, AllSeats, Each, Became, Steady, Refuses}
use Rattle.static_digraph.specs.declared.fault.FixFault.{FixFault}
use Rattle.static_digraph.specs.Told.{nodes_told, arcs_told, AreBlank, Blames, fault_of}

pub nodes_more : (count : ℕ)
    → nodes_told (count + 1) ≡ nodes_told count ++ node_fact count count ∷ []
nodes_more count = map-range_with_len_more (λ node. node_fact node node) 0 count count (omega arith)

pub arcs_more : (count : ℕ) (from to : ℕ → ℕ)
    → arcs_told (count + 1) from to
    ≡ arcs_told count from to ++ arc_fact count (from count, to count) count count ∷ []
arcs_more count from to =
    map-range_with_len_more (λ arc. arc_fact arc (from arc, to arc) arc arc) 0 count count
    (omega arith)

-- ---- facts by number have ids that differ

module _ (fact : ℕ → Fact) (named : (k : ℕ) → (fact k).id ≡ k) where
  lacks_below : (low count id : ℕ) → id < low
      → Lacks fact_id id (map fact (range_with_len low count))
  lacks_below low zero id l = tt
  lacks_below low (suc count) id l = (
    (λ e. absurd (let n = named low in omega (arith, l, e, n))),
    lacks_below (low + 1) count id (omega (arith, l)),
  )

  distinct_from : (low count : ℕ) → HasDistinctIds (map fact (range_with_len low count))
  distinct_from low zero = tt
  distinct_from low (suc count) = (
    lacks_below (low + 1) count (fact low).id (let n = named low in omega (arith, n)),
    distinct_from (low + 1) count,
  )

all_from : (P : Fact → Type 0) (fact : ℕ → Fact) (low count : ℕ)
    → ((k : ℕ) → low ≤ k → k < low + count → P (fact k))
    → AllOf P (map fact (range_with_len low count))
all_from P fact low zero each = tt
all_from P fact low (suc count) each = (
  each low (omega arith) (omega arith),
  all_from P fact (low + 1) count (λ k a b. each k (omega (arith, a)) (omega (arith, b))),
)

-- ---- blank chains may be told

can_all : (facts : List Fact) → HasDistinctIds facts → AllOf IsInBounds facts
    → (seats : List SeatSeen) → AreBlank seats → AllSeats (λ s. CanBuild facts s.seen) seats
can_all facts distinct bounded [] blank = tt
can_all facts distinct bounded (s ∷ ss) blank = (
  record { empty = blank.0; distinct = distinct; bounded = bounded },
  can_all facts distinct bounded ss blank.1,
)

pub nodes_can : (count : ℕ) (seats : List SeatSeen) → count ≤ 1048576 → AreBlank seats
    → AllSeats (λ s. CanBuild (nodes_told count) s.seen) seats
nodes_can count seats few blank =
    can_all (nodes_told count) (distinct_from (λ node. node_fact node node) (λ k. refl) 0 count)
    (all_from IsInBounds (λ node. node_fact node node) 0 count
    (λ k a b. (omega (arith, b, few), omega (arith, b, few), omega (arith, b, few))))
    seats blank

pub arcs_can : (count : ℕ) (from to : ℕ → ℕ) (seats : List SeatSeen) → count ≤ 4194304
    → ((k : ℕ) → k < count → (from k < 4194304) × (to k < 4194304)) → AreBlank seats
    → AllSeats (λ s. CanBuild (arcs_told count from to) s.seen) seats
arcs_can count from to seats few ends blank =
    can_all (arcs_told count from to)
    (distinct_from (λ arc. arc_fact arc (from arc, to arc) arc arc) (λ k. refl) 0 count)
    (all_from IsInBounds (λ arc. arc_fact arc (from arc, to arc) arc arc) 0 count
    (λ k a b.
    (let l : k < count = omega (arith, b) in
    (omega (arith, b, few), (ends k l).0, (ends k l).1))))
    seats blank

-- ---- who refuses

-- seats that became so are lawful
pub lawful_then : (next : Seen → Seen) (old new : List SeatSeen) → Each (Became next) old new
    → AllSeats Steady new → AllSeats (λ s. Lawful (next s.seen)) old
lawful_then next [] [] became steady = tt
lawful_then next [] (y ∷ ys) became steady = absurd became
lawful_then next (x ∷ xs) [] became steady = absurd became
lawful_then next (x ∷ xs) (y ∷ ys) became steady =
    (subst Lawful became.0.seen steady.0.0.lawful, lawful_then next xs ys became.1 steady.1)

pub blames_arc : (node_build arc_build : Seen → Seen) (nodes arcs : List SeatSeen) (key : SeatKey)
    (veto : Veto) (fault : FixFault) → fault ≡ fault_of sorts.Arc key veto
    → AllSeats (λ s. Lawful (node_build s.seen)) nodes → Refuses arc_build arcs key.0 veto
    → Blames node_build arc_build nodes arcs fault
blames_arc node_build arc_build nodes arcs key Refused fault is lawful refuses =
    subst (Blames node_build arc_build nodes arcs) (sym is) (lawful, refuses)
blames_arc node_build arc_build nodes arcs key Memory fault is lawful refuses =
    subst (Blames node_build arc_build nodes arcs) (sym is) tt

-- what holds anyway holds at an error
pub at_error : {T E P : Type 0} (r : Result T E) → P → OnErr r P
at_error (Ok x) p = tt
at_error (Err e) p = p
