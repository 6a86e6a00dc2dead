-- The ends of arcs by a table of places.
use Rattle.std.proofs.Common.{◌≡◌, ℕ, ◌<◌, ◌≤◌, true, List, [], ◌∷◌, length, map, All, refl, sym}
use Rattle.std.proofs.Common.{◌∙◌, subst, ap, arith}
use Rattle.std.proofs.lemmas.List.{length-map}
use Rattle.std.proofs.lemmas.List.Elements.{All-nil, All-cons, All-head, All-tail}
use Rattle.base_items.specs.declared.items.Fact.{Fact}
use Rattle.plain_digraph.specs.Lists.{has}
use Rattle.plain_certificates.specs.Tables.{at, place_of}
use Rattle.plain_certificates.proofs.Numbering.{place_below}
use Rattle.static_digraph.specs.Places.{IsTable}
use Rattle.static_digraph.specs.Fixed.{FixedOf, fixed_from}
use Rattle.static_digraph.specs.Rows.{AreRows}
use Rattle.static_digraph.specs.Kept.{RowsSeen, IsKept}
use Rattle.observe_core.specs.Conditions.{CanBuild}
use Rattle.notify_chain.specs.Seats.{SeatSeen, AllSeats}
use Rattle.static_digraph.specs.Told.{AreBlank, nodes_of, arcs_of}
use Rattle.static_digraph.proofs.Telling.{nodes_can, arcs_can}

module _ (nodes table : List ℕ) (end : Fact → ℕ) where
  abbrev Ended : Fact → Type 0
  Ended fact = has nodes (end fact) ≡ true

  -- the table gives the places
  pub ends_placed : IsTable nodes table → (arcs : List Fact) → All Ended arcs
      → map (λ fact. at 0 table (end fact)) arcs ≡ map (λ fact. place_of nodes (end fact)) arcs
  ends_placed told [] all = refl
  ends_placed told (fact ∷ facts) all =
      rw (
        (told (end fact) (All-head Ended fact facts all)).1,
        ends_placed told facts (All-tail Ended fact facts all),
      )

  -- so it does where it is read as a slice
  pub ends_are : (now : List ℕ) (arcs : List Fact) (xs : List ℕ) → IsTable nodes table
      → now ≡ table → All Ended arcs → xs ≡ map (λ fact. at 0 now (end fact)) arcs
      → xs ≡ map (λ fact. place_of nodes (end fact)) arcs
  ends_are now arcs xs told is all h =
      h ∙ (ap (λ t. map (λ fact. at 0 t (end fact)) arcs) is ∙ ends_placed told arcs all)

  -- which are numbers of nodes
  pub ends_inside : (arcs : List Fact) → All Ended arcs
      → All (λ node. node < length nodes) (map (λ fact. place_of nodes (end fact)) arcs)
  ends_inside [] all = All-nil (λ node. node < length nodes)
  ends_inside (fact ∷ facts) all =
      All-cons (λ node. node < length nodes) (place_of nodes (end fact))
      (map (λ other. place_of nodes (end other)) facts)
      (place_below nodes (end fact) (All-head Ended fact facts all))
      (ends_inside facts (All-tail Ended fact facts all))

-- the arrays are as they should be
pub kept_from : (nodes : List ℕ) (arcs : List Fact) (f : FixedOf) (from to : List ℕ)
    (out into : RowsSeen) → length nodes ≤ 1048576 → length arcs ≤ 4194304
    → All (λ fact. (has nodes fact.from ≡ true) × (has nodes fact.to ≡ true)) arcs
    → f ≡ fixed_from nodes arcs → from ≡ f.from → to ≡ f.to
    → AreRows (length nodes) (length from) (at 0 from) out.start out.arcs
    → AreRows (length nodes) (length to) (at 0 to) into.start into.arcs → IsKept f out into
kept_from nodes arcs f from to out into few_nodes few_arcs ends is from_is to_is by_source
    by_target =
    let g = fixed_from nodes arcs in
    let froms : from ≡ g.from = from_is ∙ ap (λ h. h.from) is in
    let tos : to ≡ g.to = to_is ∙ ap (λ h. h.to) is in
    let items = length-map arcs (λ fact. fact.id) in
    let sources = length-map arcs (λ fact. place_of nodes fact.from) ∙ sym items in
    let targets = length-map arcs (λ fact. place_of nodes fact.to) ∙ sym items in
    subst (λ h. IsKept h out into) (sym is) (record {
      few_nodes = few_nodes;
      few_arcs = omega (arith, items, few_arcs);
      sources = sources;
      targets = targets;
      source_nodes = ends_inside nodes nodes (λ fact. fact.from) arcs (λ k d l. (ends k d l).0);
      target_nodes = ends_inside nodes nodes (λ fact. fact.to) arcs (λ k d l. (ends k d l).1);
      by_source = subst (λ n. AreRows (length nodes) n (at 0 g.from) out.start out.arcs) sources
          (subst (λ xs. AreRows (length nodes) (length xs) (at 0 xs) out.start out.arcs) froms
          by_source);
      by_target = subst (λ n. AreRows (length nodes) n (at 0 g.to) into.start into.arcs) targets
          (subst (λ xs. AreRows (length nodes) (length xs) (at 0 xs) into.start into.arcs) tos
          by_target);
    })

-- the arrays are what the nodes and arcs are by number
pub fixed_is : (nodes table now : List ℕ) (arcs : List Fact) (f : FixedOf) → IsTable nodes table
    → now ≡ table
    → All (λ fact. (has nodes fact.from ≡ true) × (has nodes fact.to ≡ true)) arcs
    → f.nodes ≡ nodes → f.arcs ≡ map (λ fact. fact.id) arcs
    → f.from ≡ map (λ fact. at 0 now fact.from) arcs
    → f.to ≡ map (λ fact. at 0 now fact.to) arcs → f ≡ fixed_from nodes arcs
fixed_is nodes table now arcs f told is ends ns items from to =
    let froms = ends_are nodes table (λ fact. fact.from) now arcs f.from told is
    (λ k d l. (ends k d l).0) from in
    let tos = ends_are nodes table (λ fact. fact.to) now arcs f.to told is
    (λ k d l. (ends k d l).1) to in
    λ i. record { nodes = ns i; arcs = items i; from = froms i; to = tos i }

-- ---- the chains may be told

pub nodes_ready : (nodes : List ℕ) (arcs : List Fact) (seats : List SeatSeen)
    → length nodes ≤ 1048576 → AreBlank seats
    → AllSeats (λ s. CanBuild (nodes_of (fixed_from nodes arcs)) s.seen) seats
nodes_ready nodes arcs seats few blank = nodes_can (length nodes) seats few blank

pub arcs_ready : (nodes : List ℕ) (arcs : List Fact) (seats : List SeatSeen)
    → length nodes ≤ 1048576 → length arcs ≤ 4194304
    → All (λ fact. (has nodes fact.from ≡ true) × (has nodes fact.to ≡ true)) arcs → AreBlank seats
    → AllSeats (λ s. CanBuild (arcs_of (fixed_from nodes arcs)) s.seen) seats
arcs_ready nodes arcs seats few_nodes few_arcs ends blank =
    let f = fixed_from nodes arcs in
    let items = length-map arcs (λ fact. fact.id) in
    let sources = length-map arcs (λ fact. place_of nodes fact.from) in
    let targets = length-map arcs (λ fact. place_of nodes fact.to) in
    let froms = ends_inside nodes nodes (λ fact. fact.from) arcs (λ k d l. (ends k d l).0) in
    let tos = ends_inside nodes nodes (λ fact. fact.to) arcs (λ k d l. (ends k d l).1) in
    arcs_can (length f.arcs) (at 0 f.from) (at 0 f.to) seats (omega (arith, items, few_arcs))
    (λ k l.
    (let a = froms k 0 (omega (arith, l, items, sources)) in
    let b = tos k 0 (omega (arith, l, items, targets)) in
    (omega (arith, a, few_nodes), omega (arith, b, few_nodes))))
    blank
