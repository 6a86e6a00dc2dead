-- Rows of which none is at fault behind those before it, each at its place.
use Rattle.std.proofs.Common.{◌≡◌, ℕ, zero, suc, List, [], ◌∷◌, ◌++◌, None, Option, map, take}
use Rattle.std.proofs.Common.{arith, ◌<◌, ◌≤◌, length, false, append_assoc, append-nil, refl}
use Rattle.std.proofs.Common.{get_or, add-one}
use Rattle.std.proofs.lemmas.List.{length-take-le, take_all, map_more, length-map}
use Rattle.std.proofs.lemmas.List.{get_or-map, take-map}
use Rattle.token_text.specs.Names.{is_among, has_twice}
use Rattle.lgf_file.specs.Rows.{Cells}
use Rattle.lgf_file.specs.Reading.{InOrder}
use Rattle.lgf_file.specs.declared.faults.LgfKind.{LgfKind}
use Rattle.lgf_file.proofs.NameLists.{twice_push, apart_at}

-- Rows are in order where none is at fault behind those before its place.
module _ (fault : List Cells → Cells → Option LgfKind) where
  pub in_order_at : (before rows : List Cells) → InOrder fault before rows → (k : ℕ)
      → k < length rows → fault (before ++ take k rows) (get_or rows k []) ≡ None
  in_order_at before [] order k within = absurd (omega arith)
  in_order_at before (cells ∷ rows) order zero within = rw append-nil order.0
  in_order_at before (cells ∷ rows) order (suc k) within =
      rw append_assoc at (in_order_at (before ++ cells ∷ []) rows order.1 k (omega arith))

  pub in_order_from : (before rows : List Cells)
      → ((k : ℕ) → k < length rows → fault (before ++ take k rows) (get_or rows k []) ≡ None)
      → InOrder fault before rows
  in_order_from before [] fine = tt
  in_order_from before (cells ∷ rows) fine = (
    rw append-nil at (fine 0 (omega arith)),
    in_order_from (before ++ cells ∷ []) rows (λ k within.
        rw append_assoc (fine (suc k) (omega arith))),
  )

-- There are as many rows as there may be at most, where nowhere so many stand before one.
pub few_rows : (most : ℕ) (rows : List Cells)
    → ((k : ℕ) → k < length rows → length (take k rows) ≡ most → ⊥) → length rows ≤ most
few_rows most rows room =
    let open_room : most < length rows → ⊥ = λ more.
    room most more (length-take-le most rows (omega arith)) in
    omega (arith, open_room)

-- Names of items differ where none of them stands before.
module _ {A : Type 0} (name : A → List ℕ) (items : List A) (no_item : A) where
  pub names_differ : ((k : ℕ) → k < length items
      → is_among (name (get_or items k no_item)) (map name (take k items)) ≡ false)
      → has_twice (map name items) ≡ false
  names_differ apart =
      rw (take_all (length items) items (omega arith)) at (upto (length items) (omega arith))
    where
      upto : (n : ℕ) → n ≤ length items → has_twice (map name (take n items)) ≡ false
      upto zero few = refl
      upto (suc n) few =
          rw (rw add-one at (map_more name items n no_item (omega arith)))
          (twice_push (map name (take n items)) _ (upto n (omega arith)) (apart n (omega arith)))

  pub name_apart : has_twice (map name items) ≡ false → (k : ℕ) → k < length items
      → is_among (name (get_or items k no_item)) (map name (take k items)) ≡ false
  name_apart differ k within =
      simp (get_or-map name items k no_item [] within, take-map name k items) at
      (apart_at (map name items) k differ (rw length-map within))
