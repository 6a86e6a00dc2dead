-- The arcs at one node more.
use Rattle.std.proofs.Common.{◌≡◌, ℕ, zero, suc, ◌+◌, ◌*◌, ◌≤◌, [], ◌∷◌, ◌++◌, length}
use Rattle.std.proofs.Common.{refl, sym, ◌∙◌, ap, length-append, arith}
use Rattle.std.specs.List.{flat_map, range_with_len}
use Rattle.std.proofs.lemmas.List.{append-nil, length-map, map-id}
use Rattle.std.proofs.lemmas.List.Concat.{flat_map-append}
use Rattle.std.proofs.lemmas.List.FromFn.{map-range_with_len_more}
use Rattle.plain_certificates.specs.Numbered.{Numbered}
use Rattle.plain_certificates.specs.Totals.{total_to}
use Rattle.static_digraph.specs.Fixed.{row_of}
use Rattle.flow_rows.proofs.Rows.{rows_sum}
use Rattle.flow_rows.specs.Laid.{spokes_of, spokes_before, starts_before, in_spoke, out_spoke}
use Rattle.flow_rows.specs.Laid.{out_spokes, in_spokes}

range_more : (n : ℕ) → range_with_len 0 (n + 1) ≡ range_with_len 0 n ++ n ∷ []
range_more n =
    sym (map-id (range_with_len 0 (n + 1)))
    ∙ (map-range_with_len_more (λ k. k) 0 n n (omega arith)
    ∙ ap (λ xs. xs ++ n ∷ []) (map-id (range_with_len 0 n)))

module _ (g : Numbered) where
  pub spokes_more : (v : ℕ) → spokes_before g (v + 1) ≡ spokes_before g v ++ spokes_of g v
  spokes_more v =
      ap (flat_map (spokes_of g)) (range_more v)
      ∙ (flat_map-append (spokes_of g) (range_with_len 0 v) (v ∷ [])
      ∙ ap (λ xs. spokes_before g v ++ xs) (append-nil (spokes_of g v)))

  pub starts_more : (v : ℕ)
      → starts_before g (v + 1) ≡ starts_before g v ++ length (spokes_before g v) ∷ []
  starts_more v =
      map-range_with_len_more (λ node. length (spokes_before g node)) 0 v v (omega arith)

  pub spokes_long : (v : ℕ) → length (spokes_of g v)
      ≡ length (row_of g.from g.arcs v) + length (row_of g.to g.arcs v)
  spokes_long v =
      let all = length-append (out_spokes g v) (in_spokes g v) in
      let out = length-map (row_of g.from g.arcs v) (out_spoke g) in
      let into = length-map (row_of g.to g.arcs v) (in_spoke g) in
      omega (arith, all, out, into)

  pub spokes_next : (v : ℕ) → length (spokes_before g (v + 1))
      ≡ length (spokes_before g v) + (length (out_spokes g v) + length (in_spokes g v))
  spokes_next v =
      let on = ap length (spokes_more v) ∙ length-append (spokes_before g v) (spokes_of g v) in
      let here = length-append (out_spokes g v) (in_spokes g v) in
      omega (arith, on, here)

  counted : (n : ℕ) → length (spokes_before g n)
      ≡ total_to n (λ v. length (row_of g.from g.arcs v))
      + total_to n (λ v. length (row_of g.to g.arcs v))
  counted zero = refl
  counted (suc n) =
      let on : suc n ≡ n + 1 = omega arith in
      let size = ap (λ k. length (spokes_before g k)) on
      ∙ (ap length (spokes_more n) ∙ length-append (spokes_before g n) (spokes_of g n)) in
      let before = counted n in
      let here = spokes_long n in
      omega (arith, size, before, here)

  pub spokes_few : (n : ℕ) → length (spokes_before g n) ≤ 2 * g.arcs
  spokes_few n =
      let all = counted n in
      let out = rows_sum g.from n g.arcs in
      let into = rows_sum g.to n g.arcs in
      omega (arith, all, out, into)
