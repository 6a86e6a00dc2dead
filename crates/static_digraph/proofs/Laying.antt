-- Rows are laid one behind the other, and read back.
use Rattle.std.proofs.Common.{◌≡◌, ℕ, zero, suc, ◌+◌, ◌-◌, ◌<◌, ◌≤◌, List, [], ◌∷◌, ◌++◌, length}
use Rattle.std.proofs.Common.{get_or, refl, sym, ap, ◌∙◌, append_assoc}
use Rattle.std.proofs.Common.{length-append, arith}
use Rattle.std.specs.List.{flat_map, range_with_len, slice_range}
use Rattle.std.proofs.lemmas.Grind.{flat_map-append}
use Rattle.std.proofs.lemmas.List.{append-nil, take_at, drop_at}
use Rattle.std.proofs.lemmas.List.FromFn.{map-range_with_len_more, get_or-map-range_with_len}
use Rattle.std.proofs.lemmas.List.FromFn.{length-map-range_with_len}
use Rattle.plain_certificates.specs.Tables.{at}
use Rattle.static_digraph.specs.Fixed.{row_of}
use Rattle.static_digraph.specs.Rows.{rows_before, starts_before, AreRows, HasRow, IsLinked}
use Rattle.static_digraph.specs.Rows.{AreLinked, rest_of, IsLaying}

-- ---- numbers in a row

range_parts : (a m n : ℕ)
    → range_with_len a (m + n) ≡ range_with_len a m ++ range_with_len (a + m) n
range_parts a zero n =
    let e : zero + n ≡ n = omega arith in
    let f : a + 0 ≡ a = omega arith in
    rw (e, f)
range_parts a (suc m) n =
    let e : suc m + n ≡ suc (m + n) = omega arith in
    let f : a + suc m ≡ (a + 1) + m = omega arith in
    rw (e, f) (ap (λ xs. a ∷ xs) (range_parts (a + 1) m n))

-- ---- one node more

pub rows_more : (end : ℕ → ℕ) (arcs node : ℕ)
    → rows_before end arcs (node + 1) ≡ rows_before end arcs node ++ row_of end arcs node
rows_more end arcs node =
    ap (flat_map (row_of end arcs)) (range_parts 0 node 1)
    ∙ (flat_map-append (row_of end arcs) (range_with_len 0 node) ((0 + node) ∷ [])
    ∙ ap (λ xs. rows_before end arcs node ++ xs)
    (append-nil (row_of end arcs (0 + node)) ∙ ap (row_of end arcs) (omega arith)))

pub starts_more : (end : ℕ → ℕ) (arcs count : ℕ)
    → starts_before end arcs (count + 1)
    ≡ starts_before end arcs count ++ length (rows_before end arcs count) ∷ []
starts_more end arcs count =
    map-range_with_len_more (λ node. length (rows_before end arcs node)) 0 count count (omega arith)

-- ---- laying one row

pub laying_begins : (nodes arcs : ℕ) (end : ℕ → ℕ) (first next row : List ℕ) (node : ℕ)
    → node < nodes → AreLinked nodes arcs end first next 0 → row ≡ rows_before end arcs node
    → IsLaying nodes arcs end (at 0 next) node (at 0 first node) row
laying_begins nodes arcs end first next row node l links is = record {
  rest = rest_of end arcs node 0;
  laid =
      (let all : arcs - 0 ≡ arcs = omega arith in
      rw (all, is) (sym (rows_more end arcs node)));
  linked = links.linked node l;
}

module _ (nodes arcs : ℕ) (end next : ℕ → ℕ) (node from : ℕ) (row : List ℕ)
    (laying : IsLaying nodes arcs end next node from row) where
  -- one arc more
  pub laying_more : from < arcs → IsLaying nodes arcs end next node (next from) (row ++ from ∷ [])
  laying_more l = step laying.rest laying.laid laying.linked
    where
      step : (rest : List ℕ) → row ++ rest ≡ rows_before end arcs (node + 1)
          → IsLinked next arcs from rest
          → IsLaying nodes arcs end next node (next from) (row ++ from ∷ [])
      step [] laid linked = absurd (omega (arith, l, linked))
      step (x ∷ xs) laid linked = record {
        rest = xs;
        laid = append_assoc row (from ∷ []) xs ∙ (ap (λ y. row ++ y ∷ xs) linked.0 ∙ laid);
        linked = rw linked.0 linked.3;
      }

  pub laying_rises : from < arcs → from < next from
  laying_rises l = step laying.rest laying.linked
    where
      step : (rest : List ℕ) → IsLinked next arcs from rest → from < next from
      step [] linked = absurd (omega (arith, l, linked))
      step (x ∷ xs) linked = rw linked.0 linked.2

  -- the row is whole
  pub laying_ends : arcs ≤ from → row ≡ rows_before end arcs (node + 1)
  laying_ends l = step laying.rest laying.laid laying.linked
    where
      step : (rest : List ℕ) → row ++ rest ≡ rows_before end arcs (node + 1)
          → IsLinked next arcs from rest → row ≡ rows_before end arcs (node + 1)
      step [] laid linked = sym (append-nil row) ∙ laid
      step (x ∷ xs) laid linked =
          absurd (let a = linked.0 in let b = linked.1 in omega (arith, l, a, b))

-- ---- reading one row

part_between : (xs ys zs : List ℕ) (a b : ℕ) → a ≡ length xs → b ≡ length xs + length ys
    → slice_range (xs ++ (ys ++ zs)) a b ≡ ys
part_between xs ys zs a b e f =
    let size : b - a ≡ length ys = omega (arith, e, f) in
    rw (size, drop_at xs (ys ++ zs) a (sym e)) (take_at ys zs (length ys) refl)

start_at : (end : ℕ → ℕ) (arcs count node : ℕ) → node < count
    → get_or (starts_before end arcs count) node 0 ≡ length (rows_before end arcs node)
start_at end arcs count node l =
    get_or-map-range_with_len (λ v. length (rows_before end arcs v)) 0 count node node 0 l
    (omega arith)

module _ (nodes arcs : ℕ) (end : ℕ → ℕ) (start row : List ℕ) (node : ℕ) (l : node < nodes)
    (rows : AreRows nodes arcs end start row) where
  others : List ℕ
  others = flat_map (row_of end arcs) (range_with_len (0 + (node + 1)) (nodes - (node + 1)))

  row_parts : row ≡ rows_before end arcs node ++ (row_of end arcs node ++ others)
  unfolding others
  row_parts =
      let all : nodes ≡ (node + 1) + (nodes - (node + 1)) = omega (arith, l) in
      rows.laid ∙ (ap (rows_before end arcs) all
      ∙ (ap (flat_map (row_of end arcs)) (range_parts 0 (node + 1) (nodes - (node + 1)))
      ∙ (flat_map-append (row_of end arcs) (range_with_len 0 (node + 1))
      (range_with_len (0 + (node + 1)) (nodes - (node + 1)))
      ∙ (ap (λ xs. xs ++ others) (rows_more end arcs node)
      ∙ append_assoc (rows_before end arcs node) (row_of end arcs node) others))))

  begins : get_or start node 0 ≡ length (rows_before end arcs node)
  begins =
      ap (λ xs. get_or xs node 0) rows.starts
      ∙ start_at end arcs (nodes + 1) node (omega (arith, l))

  ends : get_or start (node + 1) 0
      ≡ length (rows_before end arcs node) + length (row_of end arcs node)
  ends =
      ap (λ xs. get_or xs (node + 1) 0) rows.starts
      ∙ (start_at end arcs (nodes + 1) (node + 1) (omega (arith, l))
      ∙ (ap length (rows_more end arcs node)
      ∙ length-append (rows_before end arcs node) (row_of end arcs node)))

  -- the row of a node stands from where it begins to where the next one does
  pub row_read : slice_range row (get_or start node 0) (get_or start (node + 1) 0)
      ≡ row_of end arcs node
  row_read =
      ap (λ xs. slice_range xs (get_or start node 0) (get_or start (node + 1) 0)) row_parts
      ∙ part_between (rows_before end arcs node) (row_of end arcs node) others
      (get_or start node 0) (get_or start (node + 1) 0) begins ends

  pub row_there : HasRow start row node
  row_there = record {
    known =
        (let size = ap length rows.starts
        ∙ length-map-range_with_len (λ v. length (rows_before end arcs v)) 0 (nodes + 1) in
        omega (arith, size, l));
    ordered = (let a = begins in let b = ends in omega (arith, a, b));
    inside =
        (let b = ends in
        let size = ap length row_parts
        ∙ (length-append (rows_before end arcs node) (row_of end arcs node ++ others)
        ∙ ap (λ n. length (rows_before end arcs node) + n)
        (length-append (row_of end arcs node) others)) in
        omega (arith, b, size));
  }
