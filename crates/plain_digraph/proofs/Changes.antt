-- Moves and erasures keep a digraph valid.
use Rattle.std.proofs.Common.{◌≡◌, ℕ, ◌+◌, ◌≤◌, Bool, true, false, cond, List, [], ◌∷◌, ◌++◌}
use Rattle.std.proofs.Common.{filter, IsPermutation, Some, None, Option, is_some, inl, inr, refl}
use Rattle.std.proofs.Common.{sym, ap, subst, ◌∙◌, arith}
use Rattle.std.specs.Prelude.{◌==◌, ◌||◌, IsSome}
use Rattle.std.specs.Option.{option_map_or}
use Rattle.std.specs.Ordering.{nat_cmp}
use Rattle.std.specs.Cmp.{nat_cmp_total}
use Rattle.std.specs.FinMap as fin
use Rattle.std.proofs.lemmas.Bool.{eq-eqb, ne_eqb, cases_eq, or_left, or_right, true≢false}
use Rattle.std.proofs.lemmas.Option.{none-some}
use Rattle.std.proofs.lemmas.List.Sorted.{IsPermutation-refl}
use Rattle.base_items.specs.declared.limits.TheConstants.{MAX_STAMP}
use Rattle.base_items.specs.declared.items.Fact.{Fact}
use Rattle.base_items.specs.declared.items.ItemSort.TheVariants as sorts
use Rattle.plain_digraph.specs.Lists.{has}
use Rattle.plain_digraph.specs.Digraph.{Digraph, Place, Ends, empty}
use Rattle.plain_digraph.specs.Items.{ids, IsLive, out_arcs, in_arcs, source_of, target_of}
use Rattle.plain_digraph.specs.Steps.{unplaced, in_front, by_stamp, relaid, erase_arc, erase_node}
use Rattle.plain_digraph.specs.Steps.{clear_arcs, clear_nodes, move_from, move_to, turn, place}
use Rattle.plain_digraph.specs.Valid.{IsValid, FallBelow, AreShared}
use Rattle.plain_digraph.specs.ValidLaws.{HasNoArc, CanPlace, HasStampLeft}
use Rattle.plain_digraph.proofs.Tallies.{one_if, copies, has-some}
use Rattle.plain_digraph.proofs.Shares.{shared_as, shared_once}
use Rattle.plain_digraph.proofs.Keys.{ties_same, ties_other, get_new, get_other, keys-empty}
use Rattle.plain_digraph.proofs.Additions.{more_ends}
use Rattle.plain_digraph.proofs.Counts.{same_copies, copies_alike, copies-keys, copies-here}
use Rattle.plain_digraph.proofs.Counts.{copies-other, copies-without_other, shared_counts}
use Rattle.plain_digraph.proofs.Counts.{counts_shared, some-has}
use Rattle.plain_digraph.proofs.Places.{ids-unplaced, copies-unplaced, copies-by_stamp}
use Rattle.plain_digraph.proofs.Places.{fall-unplaced, fall-placed, fall-in_front}
use Rattle.plain_digraph.proofs.Rows.{fall_within}

-- ---- the ends of the arcs

pub get_gone : (ends : Ends) (arc : ℕ) → fin.get (fin.remove ends arc) arc ≡ None
get_gone ends arc =
    fin.get-remove nat_cmp_total ends arc arc
    ∙ ap (λ b. cond b None (fin.get ends arc)) (ties_same arc arc refl)

pub get_left : (ends : Ends) (arc q : ℕ) → (q ≡ arc → ⊥)
    → fin.get (fin.remove ends arc) q ≡ fin.get ends q
get_left ends arc q other =
    fin.get-remove nat_cmp_total ends arc q
    ∙ ap (λ b. cond b None (fin.get ends q)) (ties_other q arc other)

-- an arc that had ends has ends, and no other
ends_again : (ends : Ends) (arc from to q : ℕ) → IsSome (fin.get ends arc)
    → is_some (fin.get (fin.insert ends arc (from, to)) q) ≡ is_some (fin.get ends q)
ends_again ends arc from to q live = elim (cases_eq q arc) [
  | inl same ↦
      ap (λ x. is_some (fin.get (fin.insert ends arc (from, to)) x)) same
      ∙ ap is_some (get_new ends arc (from, to))
      ∙ sym live ∙ ap (λ x. is_some (fin.get ends x)) (sym same)
  | inr other ↦ ap is_some (get_other ends arc (from, to) q other)
]

-- how often an arc stands among the keys, and in either list
pub source_counts : (g : Digraph) (id : ℕ) → IsValid g
    → copies (ids g.by_source) id ≡ one_if (is_some (fin.get g.ends id))
source_counts g id valid = copies_alike (ids g.by_source) (fin.keys g.ends) id valid.sources_whole
    ∙ copies-keys g.ends id

pub target_counts : (g : Digraph) (id : ℕ) → IsValid g
    → copies (ids g.by_target) id ≡ one_if (is_some (fin.get g.ends id))
target_counts g id valid = copies_alike (ids g.by_target) (fin.keys g.ends) id valid.targets_whole
    ∙ copies-keys g.ends id

pub source_once : (g : Digraph) (arc : ℕ) → IsValid g → IsLive g sorts.Arc arc
    → copies (ids g.by_source) arc ≡ 1
source_once g arc valid live = source_counts g arc valid ∙ ap one_if live

pub target_once : (g : Digraph) (arc : ℕ) → IsValid g → IsLive g sorts.Arc arc
    → copies (ids g.by_target) arc ≡ 1
target_once g arc valid live = target_counts g arc valid ∙ ap one_if live

-- ---- an arc that is laid anew

pub valid_relaid : (g : Digraph) (arc from to : ℕ) (sources targets : List Place) (stamps : ℕ)
    → IsValid g
    → IsLive g sorts.Arc arc → IsLive g sorts.Node from → IsLive g sorts.Node to
    → ((id : ℕ) → copies (ids sources) id ≡ copies (ids g.by_source) id)
    → ((id : ℕ) → copies (ids targets) id ≡ copies (ids g.by_target) id)
    → FallBelow stamps g.nodes → FallBelow stamps sources → FallBelow stamps targets
    → stamps ≤ MAX_STAMP
    → IsValid (relaid g arc from to sources targets stamps)
valid_relaid g arc from to sources targets stamps valid live from_live to_live same_sources
    same_targets nodes_fall sources_fall targets_fall few =
    let ends : Ends = fin.insert g.ends arc (from, to) in
    let keys : (id : ℕ) → copies (fin.keys ends) id ≡ one_if (is_some (fin.get g.ends id)) =
    λ id. copies-keys ends id ∙ ap one_if (ends_again g.ends arc from to id live) in
    let order : IsPermutation (fin.keys ends) (fin.keys g.ends) =
    same_copies (fin.keys ends) (fin.keys g.ends) (λ id. keys id ∙ sym (copies-keys g.ends id)) in
    record {
      node_ids = valid.node_ids;
      arc_ids = shared_as (fin.keys ends) (fin.keys g.ends) g.free_arcs g.used_arcs order
          valid.arc_ids;
      sources_whole =
          same_copies (ids sources) (fin.keys ends)
          (λ id. same_sources id ∙ source_counts g id valid ∙ sym (keys id));
      targets_whole =
          same_copies (ids targets) (fin.keys ends)
          (λ id. same_targets id ∙ target_counts g id valid ∙ sym (keys id));
      ends_live = more_ends g.ends arc from to (IsLive g sorts.Node) from_live to_live
          valid.ends_live;
      nodes_fall = nodes_fall;
      sources_fall = sources_fall;
      targets_fall = targets_fall;
      few_nodes = valid.few_nodes;
      few_arcs = valid.few_arcs;
      few_stamps = few;
    }

-- the ends of a live arc are live
ends_lives : (g : Digraph) (ends : Option (ℕ × ℕ)) → IsSome ends
    → ((from to : ℕ) → ends ≡ Some (from, to) → IsLive g sorts.Node from × IsLive g sorts.Node to)
    → IsLive g sorts.Node (option_map_or (λ e. e.0) ends 0)
    × IsLive g sorts.Node (option_map_or (λ e. e.1) ends 0)
ends_lives g None live all = absurd (true≢false (sym live))
ends_lives g (Some e) live all = all e.0 e.1 refl

pub live_ends : (g : Digraph) (arc : ℕ) → IsValid g → IsLive g sorts.Arc arc
    → IsLive g sorts.Node (source_of g arc) × IsLive g sorts.Node (target_of g arc)
live_ends g arc valid live = ends_lives g (fin.get g.ends arc) live (valid.ends_live arc)

module _ (g : Digraph) (arc : ℕ) (valid : IsValid g) (live : IsLive g sorts.Arc arc) where
  front_sources : (id : ℕ)
      → copies (ids (in_front g.by_source arc g.stamps)) id ≡ copies (ids g.by_source) id
  front_sources id = copies-unplaced g.by_source arc id (source_once g arc valid live)

  front_targets : (id : ℕ)
      → copies (ids (in_front g.by_target arc g.stamps)) id ≡ copies (ids g.by_target) id
  front_targets id = copies-unplaced g.by_target arc id (target_once g arc valid live)

  nodes_later : FallBelow (g.stamps + 1) g.nodes
  nodes_later = fall_within g.stamps (g.stamps + 1) g.nodes (omega arith) valid.nodes_fall

  sources_later : FallBelow (g.stamps + 1) g.by_source
  sources_later = fall_within g.stamps (g.stamps + 1) g.by_source (omega arith) valid.sources_fall

  targets_later : FallBelow (g.stamps + 1) g.by_target
  targets_later = fall_within g.stamps (g.stamps + 1) g.by_target (omega arith) valid.targets_fall

  pub valid_moved_source : (node : ℕ) → IsLive g sorts.Node node → HasStampLeft g
      → IsValid (move_from g arc node)
  valid_moved_source node node_live left =
      valid_relaid g arc node (target_of g arc) (in_front g.by_source arc g.stamps) g.by_target
      (g.stamps + 1)
      valid live node_live (live_ends g arc valid live).1 front_sources (λ id. refl)
      nodes_later (fall-in_front g.by_source arc g.stamps valid.sources_fall) targets_later
      (omega (arith, left))

  pub valid_moved_target : (node : ℕ) → IsLive g sorts.Node node → HasStampLeft g
      → IsValid (move_to g arc node)
  valid_moved_target node node_live left =
      valid_relaid g arc (source_of g arc) node g.by_source (in_front g.by_target arc g.stamps)
      (g.stamps + 1)
      valid live (live_ends g arc valid live).0 node_live (λ id. refl) front_targets
      nodes_later sources_later (fall-in_front g.by_target arc g.stamps valid.targets_fall)
      (omega (arith, left))

  pub valid_turned : HasStampLeft g → IsValid (turn g arc)
  valid_turned left =
      let ends = live_ends g arc valid live in
      valid_relaid g arc (target_of g arc) (source_of g arc) (in_front g.by_source arc g.stamps)
      (in_front g.by_target arc g.stamps) (g.stamps + 1)
      valid live ends.1 ends.0 front_sources front_targets nodes_later
      (fall-in_front g.by_source arc g.stamps valid.sources_fall)
      (fall-in_front g.by_target arc g.stamps valid.targets_fall) (omega (arith, left))

pub valid_placed : (g : Digraph) (f : Fact) → IsValid g → CanPlace g f → IsValid (place g f)
valid_placed g f valid can =
    let left = can.left in
    let later = g.stamps + 1 in
    let source : FallBelow later (by_stamp g.by_source f.id f.from_at) =
    fall_within g.stamps later (by_stamp g.by_source f.id f.from_at) (omega arith)
    (fall-placed g.stamps (unplaced g.by_source f.id) f.id f.from_at can.old_source can.open_source
    (fall-unplaced g.stamps g.by_source f.id valid.sources_fall)) in
    let target : FallBelow later (by_stamp g.by_target f.id f.to_at) =
    fall_within g.stamps later (by_stamp g.by_target f.id f.to_at) (omega arith)
    (fall-placed g.stamps (unplaced g.by_target f.id) f.id f.to_at can.old_target can.open_target
    (fall-unplaced g.stamps g.by_target f.id valid.targets_fall)) in
    valid_relaid g f.id f.from f.to (by_stamp g.by_source f.id f.from_at)
    (by_stamp g.by_target f.id f.to_at) later
    valid can.arc can.source can.target
    (λ id. copies-by_stamp g.by_source f.id f.from_at id (source_once g f.id valid can.arc))
    (λ id. copies-by_stamp g.by_target f.id f.to_at id (target_once g f.id valid can.arc))
    (fall_within g.stamps later g.nodes (omega arith) valid.nodes_fall) source target
    (omega (arith, left))

-- ---- erasures

-- an id goes from the live ones to the free ones
shared_freed : (live less free : List ℕ) (used id : ℕ) → AreShared live free used
    → ((x : ℕ) → copies (id ∷ less) x ≡ copies live x) → AreShared less (id ∷ free) used
shared_freed live less free used id shared counts =
    shared_counts less (id ∷ free) used (λ x.
    let before = counts_shared live free used x shared in
    let same = counts x in
    omega (arith, before, same))

-- the keys without an arc
less_keys : (ends : Ends) (arc x : ℕ) → IsSome (fin.get ends arc)
    → copies (arc ∷ fin.keys (fin.remove ends arc)) x ≡ copies (fin.keys ends) x
less_keys ends arc x live =
    let less : Ends = fin.remove ends arc in
    elim (cases_eq x arc) [
      | inl same ↦
          ap (copies (arc ∷ fin.keys less)) same ∙ copies-here (fin.keys less) arc
          ∙ ap (λ n. 1 + n)
          (copies-keys less arc ∙ ap (λ o. one_if (is_some o)) (get_gone ends arc))
          ∙ sym (copies-keys ends arc ∙ ap one_if live) ∙ ap (copies (fin.keys ends)) (sym same)
      | inr other ↦
          copies-other (fin.keys less) arc x (λ e. other (sym e))
          ∙ copies-keys less x ∙ ap (λ o. one_if (is_some o)) (get_left ends arc x other)
          ∙ sym (copies-keys ends x)
    ]

-- what ends have, they have where one arc has none
less_ends : (ends : Ends) (gone : ℕ) (P : ℕ → Type 0)
    → ((arc f t : ℕ) → fin.get ends arc ≡ Some (f, t) → P f × P t)
    → (arc f t : ℕ) → fin.get (fin.remove ends gone) arc ≡ Some (f, t) → P f × P t
less_ends ends gone P all arc f t got = elim (cases_eq arc gone) [
  | inl same ↦
      absurd (none-some (f, t)
      (sym (ap (fin.get (fin.remove ends gone)) same ∙ get_gone ends gone) ∙ got))
  | inr other ↦ all arc f t (sym (get_left ends gone arc other) ∙ got)
]

pub valid_without_arc : (g : Digraph) (arc : ℕ) → IsValid g → IsLive g sorts.Arc arc
    → IsValid (erase_arc g arc)
valid_without_arc g arc valid live =
    let less : Ends = fin.remove g.ends arc in
    let keys : (x : ℕ) → copies (arc ∷ fin.keys less) x ≡ copies (fin.keys g.ends) x = λ x.
    less_keys g.ends arc x live in
    let whole : (places : List Place)
    → ((x : ℕ) → copies (ids places) x ≡ copies (fin.keys g.ends) x)
    → copies (ids places) arc ≡ 1
    → IsPermutation (ids (unplaced places arc)) (fin.keys less) =
    λ places same once. same_copies (ids (unplaced places arc)) (fin.keys less) (λ x.
    let a = copies-unplaced places arc x once in
    let b = keys x in
    let c = same x in
    omega (arith, a, b, c)) in
    record {
      node_ids = valid.node_ids;
      arc_ids = shared_freed (fin.keys g.ends) (fin.keys less) g.free_arcs g.used_arcs arc
          valid.arc_ids keys;
      sources_whole =
          whole g.by_source
          (λ x. copies_alike (ids g.by_source) (fin.keys g.ends) x valid.sources_whole)
          (source_once g arc valid live);
      targets_whole =
          whole g.by_target
          (λ x. copies_alike (ids g.by_target) (fin.keys g.ends) x valid.targets_whole)
          (target_once g arc valid live);
      ends_live = less_ends g.ends arc (IsLive g sorts.Node) valid.ends_live;
      nodes_fall = valid.nodes_fall;
      sources_fall = fall-unplaced g.stamps g.by_source arc valid.sources_fall;
      targets_fall = fall-unplaced g.stamps g.by_target arc valid.targets_fall;
      few_nodes = valid.few_nodes;
      few_arcs = valid.few_arcs;
      few_stamps = valid.few_stamps;
    }

-- an id of the list that passes the test is kept
pub filter_keeps : (p : ℕ → Bool) (xs : List ℕ) (id : ℕ) → has xs id ≡ true → p id ≡ true
    → has (filter p xs) id ≡ true
filter_keeps p [] id at passes = absurd (true≢false (sym at))
filter_keeps p (x ∷ xs) id at passes = elim (cases_eq x id) [
  | inl same ↦
      ap (λ b. has (cond b (x ∷ filter p xs) (filter p xs)) id) (ap p same ∙ passes)
      ∙ or_left (x == id) (has (filter p xs) id) (eq-eqb x id same)
  | inr other ↦
      let later : has xs id ≡ true = sym (ap (λ b. b || has xs id) (ne_eqb x id other)) ∙ at in
      let rest = filter_keeps p xs id later passes in
      elim (p x) as (λ b. has (cond b (x ∷ filter p xs) (filter p xs)) id ≡ true) [
        | true ↦ or_right (x == id) (has (filter p xs) id) rest
        | false ↦ rest
      ]
]

-- an arc from a node is listed there, and an arc to it
pub out_listed : (g : Digraph) (arc from to : ℕ) → IsValid g → fin.get g.ends arc ≡ Some (from, to)
    → has (out_arcs g from) arc ≡ true
out_listed g arc from to valid got =
    filter_keeps _ (ids g.by_source) arc
    (some-has (ids g.by_source) arc
    (omega (arith, source_counts g arc valid ∙ ap (λ o. one_if (is_some o)) got)))
    (ap (λ o. option_map_or (λ (e : ℕ × ℕ). e.0 == from) o false) got ∙ eq-eqb from from refl)

pub in_listed : (g : Digraph) (arc from to : ℕ) → IsValid g → fin.get g.ends arc ≡ Some (from, to)
    → has (in_arcs g to) arc ≡ true
in_listed g arc from to valid got =
    filter_keeps _ (ids g.by_target) arc
    (some-has (ids g.by_target) arc
    (omega (arith, target_counts g arc valid ∙ ap (λ o. one_if (is_some o)) got)))
    (ap (λ o. option_map_or (λ (e : ℕ × ℕ). e.1 == to) o false) got ∙ eq-eqb to to refl)

-- an id that isn't the one that is taken out is there still
pub has-unplaced : (places : List Place) (id x : ℕ) → (x ≡ id → ⊥) → has (ids places) x ≡ true
    → has (ids (unplaced places id)) x ≡ true
has-unplaced places id x other at = some-has (ids (unplaced places id)) x (
    let same = ap (λ xs. copies xs x) (ids-unplaced places id)
    ∙ copies-without_other (ids places) id x other in
    let some = has-some (ids places) x at in
    omega (arith, same, some))

pub valid_without_node : (g : Digraph) (node : ℕ) → IsValid g → IsLive g sorts.Node node
    → HasNoArc g node → IsValid (erase_node g node)
valid_without_node g node valid live alone =
    let once : copies (ids g.nodes) node ≡ 1 =
    omega (
      arith,
      has-some (ids g.nodes) node live,
      shared_once (ids g.nodes) g.free_nodes g.used_nodes node valid.node_ids,
    ) in
    record {
      node_ids = shared_freed (ids g.nodes) (ids (unplaced g.nodes node)) g.free_nodes g.used_nodes
          node valid.node_ids
          (λ x. copies-unplaced g.nodes node x once);
      arc_ids = valid.arc_ids;
      sources_whole = valid.sources_whole;
      targets_whole = valid.targets_whole;
      ends_live = λ arc from to got.
          let lives = valid.ends_live arc from to got in
          let not_source : from ≡ node → ⊥ = λ e.
          true≢false (sym
          (subst (λ n. has (out_arcs g n) arc ≡ true) e (out_listed g arc from to valid got))
          ∙ ap (λ xs. has xs arc) alone.0) in
          let not_target : to ≡ node → ⊥ = λ e.
          true≢false (sym
          (subst (λ n. has (in_arcs g n) arc ≡ true) e (in_listed g arc from to valid got))
          ∙ ap (λ xs. has xs arc) alone.1) in (
            has-unplaced g.nodes node from not_source lives.0,
            has-unplaced g.nodes node to not_target lives.1,
          );
      nodes_fall = fall-unplaced g.stamps g.nodes node valid.nodes_fall;
      sources_fall = valid.sources_fall;
      targets_fall = valid.targets_fall;
      few_nodes = valid.few_nodes;
      few_arcs = valid.few_arcs;
      few_stamps = valid.few_stamps;
    }

-- ---- clearing

no_keys : IsPermutation {X = ℕ} [] (fin.keys {X = ℕ × ℕ} {R = nat_cmp} fin.empty)
no_keys = subst (IsPermutation {X = ℕ} []) (sym (keys-empty (ℕ × ℕ))) (IsPermutation-refl [])

nothing_shared : AreShared (fin.keys {X = ℕ × ℕ} {R = nat_cmp} fin.empty) [] 0
nothing_shared =
    subst (λ (keys : List ℕ). IsPermutation (keys ++ []) []) (sym (keys-empty (ℕ × ℕ)))
    (IsPermutation-refl [])

pub valid_no_arcs : (g : Digraph) → IsValid g → IsValid (clear_arcs g)
valid_no_arcs g valid = record {
  node_ids = valid.node_ids;
  arc_ids = nothing_shared;
  sources_whole = no_keys;
  targets_whole = no_keys;
  ends_live = λ arc from to got.
      absurd (none-some (from, to) (sym (fin.get-empty nat_cmp arc) ∙ got));
  nodes_fall = valid.nodes_fall;
  sources_fall = tt;
  targets_fall = tt;
  few_nodes = valid.few_nodes;
  few_arcs = omega arith;
  few_stamps = valid.few_stamps;
}

pub valid_nothing : (g : Digraph) → IsValid g → IsValid (clear_nodes (clear_arcs g))
valid_nothing g valid = record {
  node_ids = IsPermutation-refl [];
  arc_ids = nothing_shared;
  sources_whole = no_keys;
  targets_whole = no_keys;
  ends_live = λ arc from to got.
      absurd (none-some (from, to) (sym (fin.get-empty nat_cmp arc) ∙ got));
  nodes_fall = tt;
  sources_fall = tt;
  targets_fall = tt;
  few_nodes = omega arith;
  few_arcs = omega arith;
  few_stamps = valid.few_stamps;
}

pub valid_empty : IsValid empty
valid_empty = record {
  node_ids = IsPermutation-refl [];
  arc_ids = nothing_shared;
  sources_whole = no_keys;
  targets_whole = no_keys;
  ends_live = λ arc from to got.
      absurd (none-some (from, to) (sym (fin.get-empty nat_cmp arc) ∙ got));
  nodes_fall = tt;
  sources_fall = tt;
  targets_fall = tt;
  few_nodes = omega arith;
  few_arcs = omega arith;
  few_stamps = omega arith;
}
