-- Lines of the first numbers.
use Rattle.std.proofs.Common.{◌≡◌, ℕ, zero, suc, ◌+◌, ◌<◌, List, [], ◌∷◌, ◌++◌, sym, ap, ◌∙◌}
use Rattle.std.proofs.Common.{inl, inr, arith}
use Rattle.std.specs.Prelude.{◌⊎◌}
use Rattle.std.specs.List.{flat_map, range_with_len}
use Rattle.std.proofs.lemmas.List.{append-nil, append_assoc}
use Rattle.std.proofs.lemmas.List.Concat.{flat_map-append}

range_more : (a n : ℕ) → range_with_len a (suc n) ≡ range_with_len a n ++ (a + n) ∷ []
range_more a zero = ap (λ m. m ∷ []) (omega arith)
range_more a (suc n) =
    let r = range_more (a + 1) n in
    let e : a + 1 + n ≡ a + suc n = omega arith in
    ap (λ l. a ∷ l) (r ∙ ap (λ m. range_with_len (a + 1) n ++ m ∷ []) e)

earlier : (n m : ℕ) → n < suc m → (n ≡ m) ⊎ (n < m)
earlier n m below = grind arith

module _ (line : ℕ → List ℕ) where
  abbrev pub lines_to : ℕ → List ℕ
  lines_to count = flat_map line (range_with_len 0 count)

  suc_more : (n : ℕ) → lines_to (suc n) ≡ lines_to n ++ line n
  suc_more n =
      let last : 0 + n ≡ n = omega arith in
      ap (flat_map line) (range_more 0 n)
      ∙ flat_map-append line (range_with_len 0 n) ((0 + n) ∷ [])
      ∙ ap (λ m. lines_to n ++ (line m ++ [])) last
      ∙ ap (λ xs. lines_to n ++ xs) (append-nil (line n))

  -- one line more
  pub one_more : (n : ℕ) → lines_to (n + 1) ≡ lines_to n ++ line n
  one_more n =
      let one : n + 1 ≡ suc n = omega arith in
      ap lines_to one ∙ suc_more n

  -- the first lines are at the front of more
  pub lines_in : (n m : ℕ) → n < m
      → (more : List ℕ) × (lines_to m ≡ lines_to n ++ (line n ++ more))
  lines_in n zero below = absurd (omega (arith, below))
  lines_in n (suc m) below = by (λ before. lines_in n m before) (earlier n m below)
    where
      by : (n < m → (more : List ℕ) × (lines_to m ≡ lines_to n ++ (line n ++ more)))
          → (n ≡ m) ⊎ (n < m)
          → (more : List ℕ) × (lines_to (suc m) ≡ lines_to n ++ (line n ++ more))
      by rest (inl same) = (
        [],
        suc_more m ∙ ap (λ k. lines_to k ++ line k) (sym same)
            ∙ ap (λ xs. lines_to n ++ xs) (sym (append-nil (line n))),
      )
      by rest (inr before) = (
        (rest before).0 ++ line m,
        suc_more m ∙ ap (λ xs. xs ++ line m) (rest before).1
            ∙ append_assoc (lines_to n) (line n ++ (rest before).0) (line m)
            ∙ ap (λ xs. lines_to n ++ xs) (append_assoc (line n) (rest before).0 (line m)),
      )
