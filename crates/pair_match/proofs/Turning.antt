-- Arcs turned to lead from their left nodes: the same nodes are joined.
use Rattle.std.proofs.Common.{◌≡◌, ◌⊎◌, inl, inr, ℕ, zero, suc, ◌<◌, Bool, true, false, ◌&&◌, ◌||◌}
use Rattle.std.proofs.Common.{not, cond, eqb, pos, ◌+ℤ◌, List, length, refl, sym, ◌∙◌, ap, subst}
use Rattle.std.proofs.Common.{arith}
use Rattle.std.proofs.lemmas.Int.{ints}
use Rattle.plain_certificates.proofs.Sums.{sum_to-same}
use Rattle.plain_certificates.specs.Numbered.{Numbered, EndsAreNodes, any_to, count_where}
use Rattle.plain_certificates.specs.Pairings.{IsBipartite, IsPairing, is_neighbour, meets, pairs_at}
use Rattle.plain_certificates.specs.Rooms.{Joins}
use Rattle.push_flow.specs.declared.push.Ends.{Ends}
use Rattle.push_flow.specs.declared.push.Spoke.{Spoke}
use Rattle.push_flow.specs.Slices.{at, ends_at, graph_of, spoke_at, task_of, AreRows}
use Rattle.flow_rows.specs.Network.{IsNetwork}
use Rattle.pair_match.specs.Facing.{facing, turned_ends}

or_turned : (a b : Bool) → (a || b) ≡ (b || a)
or_turned true true = refl
or_turned true false = refl
or_turned false true = refl
or_turned false false = refl

any_same : (n : ℕ) (p q : ℕ → Bool) → ((k : ℕ) → k < n → p k ≡ q k) → any_to n p ≡ any_to n q
any_same zero p q h = refl
any_same (suc n) p q h =
    ap (λ b. b || p n) (any_same n p q (λ k l. h k (omega (arith, l))))
    ∙ ap (λ b. any_to n q || b) (h n (omega arith))

module _ (g : Numbered) (left : ℕ → Bool) where
  pub facing_shape : EndsAreNodes g → EndsAreNodes (facing g left)
  facing_shape shape k l = pick (left (g.from k))
    where
      pick : (b : Bool) → (cond b (g.from k) (g.to k) < g.nodes)
          × (cond b (g.to k) (g.from k) < g.nodes)
      pick true = ((shape k l).0, (shape k l).1)
      pick false = ((shape k l).1, (shape k l).0)

  pub from_left : IsBipartite g left → (k : ℕ) → k < g.arcs
      → left ((facing g left).from k) ≡ true
  from_left two k l = pick (left (g.from k)) refl
    where
      pick : (b : Bool) → left (g.from k) ≡ b → left (cond b (g.from k) (g.to k)) ≡ true
      pick true on = on
      pick false off = two k l ∙ ap not off

  pub to_right : IsBipartite g left → (k : ℕ) → k < g.arcs
      → left ((facing g left).to k) ≡ false
  to_right two k l = pick (left (g.from k)) refl
    where
      pick : (b : Bool) → left (g.from k) ≡ b → left (cond b (g.to k) (g.from k)) ≡ false
      pick true on = two k l ∙ ap not on
      pick false off = off

  meets_same : (v k : ℕ) → meets (facing g left) v k ≡ meets g v k
  meets_same v k = pick (left (g.from k))
    where
      pick : (b : Bool) → (eqb (cond b (g.from k) (g.to k)) v || eqb (cond b (g.to k) (g.from k)) v)
          ≡ (eqb (g.from k) v || eqb (g.to k) v)
      pick true = refl
      pick false = or_turned (eqb (g.to k) v) (eqb (g.from k) v)

  pairs_same : (chosen : ℕ → Bool) (v : ℕ)
      → pairs_at (facing g left) chosen v ≡ pairs_at g chosen v
  pairs_same chosen v =
      sum_to-same g.arcs (λ k. cond (chosen k && meets (facing g left) v k) (pos 1) (pos 0))
      (λ k. cond (chosen k && meets g v k) (pos 1) (pos 0))
      (λ k _. ap (λ b. cond (chosen k && b) (pos 1) (pos 0)) (meets_same v k))

  neighbour_same : (hall : ℕ → Bool) (v : ℕ)
      → is_neighbour (facing g left) hall v ≡ is_neighbour g hall v
  neighbour_same hall v =
      any_same g.arcs
      (λ k. (hall ((facing g left).from k) && eqb ((facing g left).to k) v)
      || (hall ((facing g left).to k) && eqb ((facing g left).from k) v))
      (λ k. (hall (g.from k) && eqb (g.to k) v) || (hall (g.to k) && eqb (g.from k) v))
      (λ k _. pick k (left (g.from k)))
    where
      pick : (k : ℕ) (b : Bool)
          → ((hall (cond b (g.from k) (g.to k)) && eqb (cond b (g.to k) (g.from k)) v)
          || (hall (cond b (g.to k) (g.from k)) && eqb (cond b (g.from k) (g.to k)) v))
          ≡ ((hall (g.from k) && eqb (g.to k) v) || (hall (g.to k) && eqb (g.from k) v))
      pick k true = refl
      pick k false =
          or_turned (hall (g.to k) && eqb (g.from k) v) (hall (g.from k) && eqb (g.to k) v)

  -- a pairing of the turned arcs is one of the arcs
  pub pairing_back : (chosen hall : ℕ → Bool) → IsPairing (facing g left) left chosen hall
      → IsPairing g left chosen hall
  pairing_back chosen hall p = record {
    apart = λ v l. (let few = p.apart v l in let is = pairs_same chosen v in
        omega (arith, ints, few, is));
    hall_left = p.hall_left;
    tight = p.tight ∙ ap (λ x. count_where g.nodes (λ node. left node && not (hall node)) +ℤ x)
        (sum_to-same g.nodes
        (λ v. cond (is_neighbour (facing g left) hall v) (pos 1) (pos 0))
        (λ v. cond (is_neighbour g hall v) (pos 1) (pos 0))
        (λ v _. ap (λ b. cond b (pos 1) (pos 0)) (neighbour_same hall v)));
  }

  -- ---- in the slices

  module _ (ends new : List Ends) (start : List ℕ) (row : List Spoke)
      (net' : IsNetwork g ends start row) (all : length new ≡ length ends)
      (each : (k : ℕ) → k < length ends
      → ends_at new k ≡ turned_ends (left (ends_at ends k).from) (ends_at ends k)) where
    join_new : (k v u : ℕ) → k < length ends → Joins (graph_of g.nodes ends) k v u
        → Joins (graph_of g.nodes new) k v u
    join_new k v u l joins =
        subst (λ e. ((e.from ≡ v) × (e.to ≡ u)) ⊎ ((e.from ≡ u) × (e.to ≡ v))) (sym (each k l))
        (pick (left (ends_at ends k).from) joins)
      where
        pick : (b : Bool) → Joins (graph_of g.nodes ends) k v u
            → (((turned_ends b (ends_at ends k)).from ≡ v)
            × ((turned_ends b (ends_at ends k)).to ≡ u))
            ⊎ (((turned_ends b (ends_at ends k)).from ≡ u)
            × ((turned_ends b (ends_at ends k)).to ≡ v))
        pick true j = j
        pick false (inl j) = inr (j.1, j.0)
        pick false (inr j) = inl (j.1, j.0)

    join_old : (k v u : ℕ) → k < length ends → Joins (graph_of g.nodes new) k v u
        → Joins (graph_of g.nodes ends) k v u
    join_old k v u l joins = pick (left (ends_at ends k).from)
        (subst (λ e. ((e.from ≡ v) × (e.to ≡ u)) ⊎ ((e.from ≡ u) × (e.to ≡ v))) (each k l) joins)
      where
        pick : (b : Bool) → (((turned_ends b (ends_at ends k)).from ≡ v)
            × ((turned_ends b (ends_at ends k)).to ≡ u))
            ⊎ (((turned_ends b (ends_at ends k)).from ≡ u)
            × ((turned_ends b (ends_at ends k)).to ≡ v))
            → Joins (graph_of g.nodes ends) k v u
        pick true j = j
        pick false (inl j) = inr (j.1, j.0)
        pick false (inr j) = inl (j.1, j.0)

    rows_new : (cap : List ℕ)
        → AreRows (task_of g.nodes new cap) (at start) (spoke_at row) (length row)
    rows_new cap =
        let rows = net'.rows cap in
        record {
          rises = rows.rises;
          inside = λ v p l a b.
              (let was = rows.inside v p l a b in
              let low = was.0 in (
                omega (arith, low, all),
                was.1,
                join_new (spoke_at row p).arc v (spoke_at row p).far low was.2,
              ));
          place = rows.place;
          found = λ k v u l q joins.
              (let below : k < length ends = omega (arith, l, all) in
              rows.found k v u below q (join_old k v u below joins));
        }

    pub network_turned : IsNetwork (facing g left) new start row
    network_turned = record {
      ends_all = all ∙ net'.ends_all;
      ends_are = λ k l.
          (let size = net'.ends_all in
          let from = (net'.ends_are k l).0 in
          let to = (net'.ends_are k l).1 in
          let is = each k (omega (arith, l, size))
          ∙ ap (λ v. turned_ends (left v) (ends_at ends k)) from in
          subst (λ e. (e.from ≡ cond (left (g.from k)) (g.from k) (g.to k))
          × (e.to ≡ cond (left (g.from k)) (g.to k) (g.from k))) (sym is)
          (pick k from to (left (g.from k))));
      within = facing_shape net'.within;
      starts_all = net'.starts_all;
      rows = rows_new;
    }
      where
        pick : (k : ℕ) → (ends_at ends k).from ≡ g.from k → (ends_at ends k).to ≡ g.to k
            → (b : Bool)
            → ((turned_ends b (ends_at ends k)).from ≡ cond b (g.from k) (g.to k))
            × ((turned_ends b (ends_at ends k)).to ≡ cond b (g.to k) (g.from k))
        pick k from to true = (from, to)
        pick k from to false = (to, from)
