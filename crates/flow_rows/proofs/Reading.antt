-- What was laid is read as rows.
use Rattle.std.proofs.Common.{◌≡◌, ◌⊎◌, inl, inr, ℕ, zero, suc, ◌+◌, ◌-◌, ◌<◌, ◌≤◌}
use Rattle.std.proofs.Common.{cond, eqb, List, length, get_or, take, All, sym, ◌∙◌, ap}
use Rattle.std.proofs.Common.{subst, arith, length-append}
use Rattle.std.specs.List.{range_with_len}
use Rattle.std.proofs.lemmas.Bool.Decides.{eqb_tells}
use Rattle.std.proofs.lemmas.List.{length-map, get_or-map, get_or_append_left, map-id}
use Rattle.std.proofs.lemmas.List.{get_or-append-add}
use Rattle.std.proofs.lemmas.List.Concat.{get_or-flat_map}
use Rattle.std.proofs.lemmas.List.Elements.{All-append, All-map}
use Rattle.std.proofs.lemmas.List.FromFn.{get_or-map-range_with_len, length-map-range_with_len}
use Rattle.std.proofs.lemmas.List.FromFn.{get_or-range_with_len, length-range_with_len}
use Rattle.std.proofs.lemmas.List.FromFn.{take-map-range_with_len}
use Rattle.plain_certificates.specs.Numbered.{Numbered, EndsAreNodes}
use Rattle.plain_certificates.specs.Rooms.{Joins}
use Rattle.plain_certificates.specs.Tables.{place_of}
use Rattle.plain_certificates.proofs.Numbering.{place_below, at_place}
use Rattle.static_digraph.specs.Fixed.{row_of}
use Rattle.push_flow.specs.declared.push.Ends.{Ends}
use Rattle.push_flow.specs.declared.push.Spoke.{Spoke}
use Rattle.push_flow.specs.Slices.{at, ends_at, spoke_at, graph_of, task_of, AreRows}
use Rattle.flow_rows.proofs.Rows.{row_inside, row_has}
use Rattle.flow_rows.proofs.Laying.{spokes_more, spokes_long}
use Rattle.flow_rows.specs.Laid.{ends_in, ends_list, out_spoke, in_spoke, out_spokes, in_spokes}
use Rattle.flow_rows.specs.Laid.{spokes_of, spokes_before, starts_before}
use Rattle.flow_rows.specs.Network.{IsNetwork}

module _ (g : Numbered) (ends : List Ends) (start : List ℕ) (row : List Spoke)
    (shape : EndsAreNodes g) (listed : ends ≡ ends_list g)
    (starts : start ≡ starts_before g (g.nodes + 1)) (laid : row ≡ spokes_before g g.nodes) where
  ends_all : length ends ≡ g.arcs
  ends_all = ap length listed ∙ length-map-range_with_len (ends_in g) 0 g.arcs

  ends_is : (k : ℕ) → k < g.arcs → ends_at ends k ≡ ends_in g k
  ends_is k l =
      ap (λ xs. get_or xs k (record { from = 0; to = 0 })) listed
      ∙ get_or-map-range_with_len (ends_in g) 0 g.arcs k k (record { from = 0; to = 0 }) l
      (omega arith)

  start_at : (v : ℕ) → v ≤ g.nodes → at start v ≡ length (spokes_before g v)
  start_at v l =
      ap (λ xs. get_or xs v 0) starts
      ∙ get_or-map-range_with_len (λ u. length (spokes_before g u)) 0 (g.nodes + 1) v v 0
      (omega (arith, l)) (omega arith)

  next_at : (v : ℕ) → v < g.nodes → at start (v + 1) ≡ at start v + length (spokes_of g v)
  next_at v l =
      let here = start_at v (omega (arith, l)) in
      let next = start_at (v + 1) (omega (arith, l)) in
      let more = ap length (spokes_more g v) ∙ length-append (spokes_before g v) (spokes_of g v) in
      omega (arith, here, next, more)

  -- the row of a node stands where it begins
  row_at : (v j : ℕ) → v < g.nodes → j < length (spokes_of g v)
      → get_or row (at start v + j) (record { arc = 0; far = 0 })
      ≡ get_or (spokes_of g v) j (record { arc = 0; far = 0 })
  row_at v j l q =
      let front : take v (range_with_len 0 g.nodes) ≡ range_with_len 0 v =
      ap (take v) (sym (map-id (range_with_len 0 g.nodes)))
      ∙ (take-map-range_with_len (λ k. k) 0 g.nodes v (omega (arith, l))
      ∙ map-id (range_with_len 0 v)) in
      let here : get_or (range_with_len 0 g.nodes) v 0 ≡ v =
      get_or-range_with_len 0 g.nodes v 0 l ∙ omega arith in
      let size = length-range_with_len 0 g.nodes in
      let read : get_or (spokes_before g g.nodes) (length (spokes_before g v) + j)
      (record { arc = 0; far = 0 })
      ≡ get_or (spokes_of g v) j (record { arc = 0; far = 0 }) =
      rw (front, here) at (get_or-flat_map (spokes_of g) (range_with_len 0 g.nodes) v j 0
      (record { arc = 0; far = 0 }) (omega (arith, l, size)) (rw here q)) in
      rw (laid, start_at v (omega (arith, l))) read

  Fits : ℕ → Spoke → Type 0
  Fits v x = (x.arc < length ends) × (x.far < g.nodes)
      × Joins (graph_of g.nodes ends) x.arc v x.far

  out_fits : (v k : ℕ) → k < g.arcs → g.from k ≡ v → Fits v (out_spoke g k)
  unfolding Fits
  out_fits v k l is =
      let e = ends_is k l in
      let n = ends_all in
      (omega (arith, l, n), (shape k l).1, inl (ap (λ x. x.from) e ∙ is, ap (λ x. x.to) e))

  in_fits : (v k : ℕ) → k < g.arcs → g.to k ≡ v → Fits v (in_spoke g k)
  unfolding Fits
  in_fits v k l is =
      let e = ends_is k l in
      let n = ends_all in
      (omega (arith, l, n), (shape k l).0, inr (ap (λ x. x.from) e, ap (λ x. x.to) e ∙ is))

  all_fit : (v : ℕ) → All (Fits v) (spokes_of g v)
  all_fit v =
      All-append (Fits v) (out_spokes g v) (in_spokes g v)
      (All-map (Fits v) (out_spoke g) (row_of g.from g.arcs v)
      (λ i d l. (let x = row_inside g.from g.arcs v i d l in
      out_fits v (get_or (row_of g.from g.arcs v) i d) x.0 x.1)))
      (All-map (Fits v) (in_spoke g) (row_of g.to g.arcs v)
      (λ i d l. (let x = row_inside g.to g.arcs v i d l in
      in_fits v (get_or (row_of g.to g.arcs v) i d) x.0 x.1)))

  inside : (v p : ℕ) → v < g.nodes → at start v ≤ p → p < at start (v + 1)
      → Fits v (spoke_at row p)
  inside v p l a b =
      let next = next_at v l in
      let j = p - at start v in
      let small : j < length (spokes_of g v) = omega (arith, next, a, b) in
      let is : at start v + j ≡ p = omega (arith, a) in
      subst (λ q. Fits v (spoke_at row q)) is
      (subst (Fits v) (sym (row_at v j l small))
      (all_fit v j (record { arc = 0; far = 0 }) small))

  out_place : ℕ → ℕ → ℕ
  out_place k v = place_of (row_of g.from g.arcs v) k

  in_place : ℕ → ℕ → ℕ
  in_place k v = length (row_of g.from g.arcs v) + place_of (row_of g.to g.arcs v) k

  -- where the arc stands in the row of the node
  place : ℕ → ℕ → ℕ
  place k v = at start v + cond (eqb (g.from k) v) (out_place k v) (in_place k v)

  out_found : (k v : ℕ) → k < g.arcs → v < g.nodes → g.from k ≡ v
      → (out_place k v < length (spokes_of g v))
      × (spoke_at row (at start v + out_place k v) ≡ out_spoke g k)
  unfolding out_place
  out_found k v l q is =
      let mine = row_of g.from g.arcs v in
      let had = row_has g.from v g.arcs k l is in
      let below = place_below mine k had in
      let long = spokes_long g v in
      let size = length-map mine (out_spoke g) in
      let small : place_of mine k < length (spokes_of g v) = omega (arith, below, long) in (
        small,
        row_at v (place_of mine k) q small
            ∙ (get_or_append_left (out_spokes g v) (in_spokes g v) (record { arc = 0; far = 0 })
            (place_of mine k) (omega (arith, below, size))
            ∙ (get_or-map (out_spoke g) mine (place_of mine k) 0 (record { arc = 0; far = 0 }) below
            ∙ ap (out_spoke g) (at_place mine k had))),
      )

  in_found : (k v : ℕ) → k < g.arcs → v < g.nodes → g.to k ≡ v
      → (in_place k v < length (spokes_of g v))
      × (spoke_at row (at start v + in_place k v) ≡ in_spoke g k)
  unfolding in_place
  in_found k v l q is =
      let mine = row_of g.to g.arcs v in
      let had = row_has g.to v g.arcs k l is in
      let below = place_below mine k had in
      let long = spokes_long g v in
      let size = length-map (row_of g.from g.arcs v) (out_spoke g) in
      let i = place_of mine k in
      let small : length (row_of g.from g.arcs v) + i < length (spokes_of g v) =
      omega (arith, below, long) in (
        small,
        row_at v (length (row_of g.from g.arcs v) + i) q small
            ∙ (ap (λ n. get_or (spokes_of g v) (n + i) (record { arc = 0; far = 0 })) (sym size)
            ∙ (get_or-append-add (out_spokes g v) (in_spokes g v) i (record { arc = 0; far = 0 })
            ∙ (get_or-map (in_spoke g) mine i 0 (record { arc = 0; far = 0 }) below
            ∙ ap (in_spoke g) (at_place mine k had)))),
      )

  Stands : ℕ → ℕ → ℕ → ℕ → Type 0
  Stands k v u p = (at start v ≤ p) × (p < at start (v + 1))
      × ((spoke_at row p).arc ≡ k) × ((spoke_at row p).far ≡ u)

  found : (k v u : ℕ) → k < g.arcs → v < g.nodes
      → ((g.from k ≡ v) × (g.to k ≡ u)) ⊎ ((g.from k ≡ u) × (g.to k ≡ v))
      → Stands k v u (place k v)
  unfolding place Stands
  found k v u l q joins =
      let next = next_at v q in
      elim (eqb_tells (g.from k) v) [
        | inl e ↦
            (let here = out_found k v l q e.1 in
            let small = here.0 in
            let far : g.to k ≡ u = elim joins [
              | inl j ↦ j.1
              | inr j ↦ j.1 ∙ (sym e.1 ∙ j.0)
            ] in
            rw e.0 (
              omega arith,
              omega (arith, small, next),
              ap (λ x. x.arc) here.1,
              ap (λ x. x.far) here.1 ∙ far,
            ))
        | inr e ↦
            (let far : (g.from k ≡ u) × (g.to k ≡ v) = elim joins [
              | inl j ↦ absurd (e.1 j.0)
              | inr j ↦ j
            ] in
            let here = in_found k v l q far.1 in
            let small = here.0 in
            rw e.0 (
              omega arith,
              omega (arith, small, next),
              ap (λ x. x.arc) here.1,
              ap (λ x. x.far) here.1 ∙ far.0,
            ))
      ]

  joined : (k v u : ℕ) → k < g.arcs → Joins (graph_of g.nodes ends) k v u
      → ((g.from k ≡ v) × (g.to k ≡ u)) ⊎ ((g.from k ≡ u) × (g.to k ≡ v))
  joined k v u l joins =
      let from = ap (λ x. x.from) (ends_is k l) in
      let to = ap (λ x. x.to) (ends_is k l) in
      elim joins [
        | inl j ↦ inl (sym from ∙ j.0, sym to ∙ j.1)
        | inr j ↦ inr (sym from ∙ j.0, sym to ∙ j.1)
      ]

  rows : (cap : List ℕ) → AreRows (task_of g.nodes ends cap) (at start) (spoke_at row) (length row)
  unfolding Fits Stands
  rows cap = record {
    rises = λ v l.
        (let next = next_at v l in
        let end = start_at (v + 1) (omega (arith, l)) in
        let size = ap length laid in
        (omega (arith, next), before (v + 1) (omega (arith, l))));
    inside = λ v p l a b. inside v p l a b;
    place = place;
    found = λ k v u l q joins.
        (let n = ends_all in
        let m : k < g.arcs = omega (arith, l, n) in
        found k v u m q (joined k v u m joins));
  }
    where
      up : (n d : ℕ) → length (spokes_before g n) ≤ length (spokes_before g (n + d))
      up n zero = let e : n + 0 ≡ n = omega arith in rw e (omega arith)
      up n (suc d) =
          let e : n + suc d ≡ (n + d) + 1 = omega arith in
          let below = up n d in
          let more = ap length (spokes_more g (n + d))
          ∙ length-append (spokes_before g (n + d)) (spokes_of g (n + d)) in
          rw e (omega (arith, below, more))

      before : (v : ℕ) → v ≤ g.nodes → at start v ≤ length row
      before v l =
          let here = start_at v l in
          let size = ap length laid in
          let e : v + (g.nodes - v) ≡ g.nodes = omega (arith, l) in
          let below = rw e at (up v (g.nodes - v)) in
          omega (arith, here, size, below)

  -- what was laid is the digraph
  pub laid_is : IsNetwork g ends start row
  laid_is = record {
    ends_all = ends_all;
    ends_are = λ k l.
        (ap (λ x. x.from) (ends_is k l), ap (λ x. x.to) (ends_is k l));
    within = shape;
    starts_all = ap length starts
        ∙ length-map-range_with_len (λ v. length (spokes_before g v)) 0 (g.nodes + 1);
    rows = rows;
  }
