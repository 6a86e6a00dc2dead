-- What is read of the rows of a table, one row at a time.
use Rattle.std.proofs.Common.{◌≡◌, ℕ, zero, suc, ◌+◌, ◌<◌, Bool, true, false, cond, List, [], ◌∷◌}
use Rattle.std.proofs.Common.{◌++◌, length, map, filter, take, sym, ap, refl, Option, Some, None}
use Rattle.std.proofs.Common.{◌∙◌, Contains, arith, drop, take-append-drop}
use Rattle.std.specs.Prelude.{option_map, find, slice_get}
use Rattle.std.specs.List.{cons_option}
use Rattle.std.specs.Option.{option_or}
use Rattle.std.specs.Str.{bytes_eq}
use Rattle.std.proofs.Math.Seq.{take-suc}
use Rattle.std.proofs.lemmas.Bool.{or_parts, or_left, or_right, false_from_ne_true, true≢false}
use Rattle.std.proofs.lemmas.List.{map-append, append-nil, length-map}
use Rattle.std.proofs.lemmas.List.Folds.{find-append}
use Rattle.std.proofs.lemmas.List.Elements.{filter-append, filter_map-append}
use Rattle.std.proofs.lemmas.Option.{none-some, same_Some, slice_get-map, slice_get_within}
use Rattle.std.proofs.lemmas.Option.{get_or_from_slice_get}
use Rattle.std.proofs.lemmas.Slice.Eq.{bytes_eq-Decides}
use Rattle.token_text.specs.Names.{is_among, has_twice}
use Rattle.plain_world.specs.Tables.{Name, Named, under, is_named, entry}
use Rattle.plain_world.specs.Valid.{NamesDiffer}
use Rattle.desk_world.specs.Looks.{looked}

module _ {X : Type 0} where
  -- one item more of a list
  pub take_more : (xs : List X) (k : ℕ) (x : X) → slice_get xs k ≡ Some x
      → take (k + 1) xs ≡ take k xs ++ x ∷ []
  take_more xs k x at =
      let one : k + 1 ≡ suc k = omega arith in
      ap (λ n. take n xs) one
      ∙ take-suc xs k x (slice_get_within xs k x at)
      ∙ ap (λ y. take k xs ++ y ∷ []) (get_or_from_slice_get xs k x x at)

  -- what stands at a place is listed
  pub listed_at : (xs : List X) (k : ℕ) (x : X) → slice_get xs k ≡ Some x → Contains xs x
  listed_at xs k x at = (k, slice_get_within xs k x at, get_or_from_slice_get xs k x x at)

  -- a row of a table, by its name and its value
  pub row_at : (rows : List (Named X)) (k : ℕ) (name : Name) (x : X)
      → slice_get (map (λ (e : Named X). e.name) rows) k ≡ Some name
      → slice_get (map (λ (e : Named X). e.value) rows) k ≡ Some x
      → slice_get rows k ≡ Some (under name x)
  row_at rows k name x names values =
      by (slice_get rows k) (sym (slice_get-map (λ (e : Named X). e.name) rows k) ∙ names)
      (sym (slice_get-map (λ (e : Named X). e.value) rows k) ∙ values)
    where
      by : (o : Option (Named X)) → option_map (λ (e : Named X). e.name) o ≡ Some name
          → option_map (λ (e : Named X). e.value) o ≡ Some x → o ≡ Some (under name x)
      by None n v = absurd (none-some name n)
      by (Some e) n v = λ i. Some (under (same_Some e.name name n i) (same_Some e.value x v i))

  -- a place at which a name stands is one of the table
  pub row_below : (rows : List (Named X)) (k : ℕ) (name : Name)
      → slice_get (map (λ (e : Named X). e.name) rows) k ≡ Some name → k < length rows
  row_below rows k name at =
      let within = slice_get_within (map (λ (e : Named X). e.name) rows) k name at in
      let same = length-map rows (λ (e : Named X). e.name) in
      omega (arith, within, same)

  -- where names differ, what stands at the place of a name is what stands under it
  pub entry_at : (rows : List (Named X)) (k : ℕ) (name : Name) (x : X) → NamesDiffer rows
      → slice_get (map (λ (e : Named X). e.name) rows) k ≡ Some name
      → slice_get (map (λ (e : Named X). e.value) rows) k ≡ Some x → entry rows name ≡ Some x
  entry_at [] k name x differ named valued = absurd (none-some name named)
  entry_at (e ∷ es) zero name x differ named valued =
      let here : bytes_eq e.name name ≡ true =
      (bytes_eq-Decides e.name name).1 (same_Some e.name name named) in
      ap (λ b. option_map (λ (f : Named X). f.value) (cond b (Some e) (find (is_named name) es)))
      here
      ∙ valued
  entry_at (e ∷ es) (suc k) name x differ named valued =
      let parts = or_parts (is_among e.name (map (λ (f : Named X). f.name) es))
      (has_twice (map (λ (f : Named X). f.name) es)) differ in
      let listed = name_listed (map (λ (f : Named X). f.name) es) k name named in
      let other : bytes_eq e.name name ≡ false =
      false_from_ne_true (bytes_eq e.name name)
      (λ same. true≢false (sym listed
      ∙ ap (λ n. is_among n (map (λ (f : Named X). f.name) es))
      (sym ((bytes_eq-Decides e.name name).0 same)) ∙ parts.0)) in
      ap (λ b. option_map (λ (f : Named X). f.value) (cond b (Some e) (find (is_named name) es)))
      other
      ∙ entry_at es k name x parts.1 named valued
    where
      name_listed : (names : List Name) (k : ℕ) (name : Name) → slice_get names k ≡ Some name
          → is_among name names ≡ true
      name_listed [] k name at = absurd (none-some name at)
      name_listed (n ∷ names) zero name at =
          or_left (bytes_eq name n) (is_among name names)
          ((bytes_eq-Decides name n).1 (sym (same_Some n name at)))
      name_listed (n ∷ names) (suc k) name at =
          or_right (bytes_eq name n) (is_among name names) (name_listed names k name at)

  -- a row by its value alone
  pub some_row : (rows : List (Named X)) (k : ℕ) (x : X)
      → slice_get (map (λ (e : Named X). e.value) rows) k ≡ Some x
      → (e : Named X) × (slice_get rows k ≡ Some e) × (e.value ≡ x)
  some_row rows k x values =
      by (slice_get rows k) refl (sym (slice_get-map (λ (e : Named X). e.value) rows k) ∙ values)
    where
      by : (o : Option (Named X)) → slice_get rows k ≡ o
          → option_map (λ (e : Named X). e.value) o ≡ Some x
          → (e : Named X) × (slice_get rows k ≡ Some e) × (e.value ≡ x)
      by None is v = absurd (none-some x v)
      by (Some e) is v = (e, is, same_Some e.value x v)

  -- what fails at a place isn't found before the next one
  pub none_more : (test : X → Bool) (xs : List X) (k : ℕ) (x : X) → slice_get xs k ≡ Some x
      → test x ≡ false → find test (take k xs) ≡ None → find test (take (k + 1) xs) ≡ None
  none_more test xs k x at fails none =
      ap (find test) (take_more xs k x at)
      ∙ find-append test (take k xs) (x ∷ [])
      ∙ (λ i. option_or (none i) (cond (fails i) (Some x) None))

  -- what passes at a place is found where nothing before it does
  pub found_at : (test : X → Bool) (xs : List X) (k : ℕ) (x : X) → slice_get xs k ≡ Some x
      → test x ≡ true → find test (take k xs) ≡ None → find test xs ≡ Some x
  found_at test xs k x at passes none =
      ap (find test) (sym (take-append-drop (k + 1) xs))
      ∙ find-append test (take (k + 1) xs) (drop (k + 1) xs)
      ∙ ap (λ o. option_or o (find test (drop (k + 1) xs)))
      (ap (find test) (take_more xs k x at)
      ∙ find-append test (take k xs) (x ∷ [])
      ∙ (λ i. option_or (none i) (cond (passes i) (Some x) None)))

  -- what stands under a name is one of the values
  pub listed_entry : (rows : List (Named X)) (name : Name) (x : X) → entry rows name ≡ Some x
      → Contains (map (λ (e : Named X). e.value) rows) x
  listed_entry [] name x found = absurd (none-some x found)
  listed_entry (e ∷ es) name x found =
      let rest = listed_entry es name x in
      elim (bytes_eq e.name name) as (λ b. option_map (λ (f : Named X). f.value)
      (cond b (Some e) (find (is_named name) es)) ≡ Some x
      → Contains (e.value ∷ map (λ (f : Named X). f.value) es) x) [
        | true ↦ λ is. (0, omega arith, same_Some e.value x is)
        | false ↦ λ is.
            let more = rest is in
            (suc more.0, (let l = more.1 in omega (arith, l)), more.2)
      ] found

module _ {X Y Z : Type 0} (look : X → Option Y) (read : Named Y → Z) where
  -- what is read of what the rows lead to
  abbrev pub gathered : List (Named X) → List Z
  gathered rows = map read (looked look rows)

  pub gathered_more : (rows : List (Named X)) (k : ℕ) (e : Named X) (y : Y)
      → slice_get rows k ≡ Some e → look e.value ≡ Some y
      → gathered (take (k + 1) rows) ≡ gathered (take k rows) ++ read (under e.name y) ∷ []
  gathered_more rows k e y at leads =
      ap gathered (take_more rows k e at)
      ∙ ap (map read)
      (filter_map-append (λ (row : Named X). option_map (under row.name) (look row.value))
      (take k rows) (e ∷ []))
      ∙ map-append read (looked look (take k rows)) (looked look (e ∷ []))
      ∙ ap (λ o. gathered (take k rows) ++ map read (cons_option (option_map (under e.name) o) []))
      leads

  pub gathered_same : (rows : List (Named X)) (k : ℕ) (e : Named X) → slice_get rows k ≡ Some e
      → look e.value ≡ None → gathered (take (k + 1) rows) ≡ gathered (take k rows)
  gathered_same rows k e at leads =
      ap gathered (take_more rows k e at)
      ∙ ap (map read)
      (filter_map-append (λ (row : Named X). option_map (under row.name) (look row.value))
      (take k rows) (e ∷ []))
      ∙ map-append read (looked look (take k rows)) (looked look (e ∷ []))
      ∙ ap (λ o. gathered (take k rows) ++ map read (cons_option (option_map (under e.name) o) []))
      leads
      ∙ append-nil (gathered (take k rows))

  module _ (test : Named Y → Bool) where
    -- and of what passes alone
    abbrev pub passing : List (Named X) → List Z
    passing rows = map read (filter test (looked look rows))

    passing_one : (rows : List (Named X)) (k : ℕ) (e : Named X) (y : Y)
        → slice_get rows k ≡ Some e → look e.value ≡ Some y
        → passing (take (k + 1) rows)
        ≡ passing (take k rows) ++ map read (filter test (under e.name y ∷ []))
    passing_one rows k e y at leads =
        ap passing (take_more rows k e at)
        ∙ ap (λ ys. map read (filter test ys))
        (filter_map-append (λ (row : Named X). option_map (under row.name) (look row.value))
        (take k rows) (e ∷ []))
        ∙ ap (map read) (filter-append test (looked look (take k rows)) (looked look (e ∷ [])))
        ∙ map-append read (filter test (looked look (take k rows)))
        (filter test (looked look (e ∷ [])))
        ∙ ap (λ o. passing (take k rows)
        ++ map read (filter test (cons_option (option_map (under e.name) o) []))) leads

    pub passing_more : (rows : List (Named X)) (k : ℕ) (e : Named X) (y : Y)
        → slice_get rows k ≡ Some e → look e.value ≡ Some y → test (under e.name y) ≡ true
        → passing (take (k + 1) rows) ≡ passing (take k rows) ++ read (under e.name y) ∷ []
    passing_more rows k e y at leads passes =
        passing_one rows k e y at leads
        ∙ ap (λ b. passing (take k rows) ++ map read (cond b (under e.name y ∷ []) [])) passes

    pub passing_same : (rows : List (Named X)) (k : ℕ) (e : Named X) (y : Y)
        → slice_get rows k ≡ Some e → look e.value ≡ Some y → test (under e.name y) ≡ false
        → passing (take (k + 1) rows) ≡ passing (take k rows)
    passing_same rows k e y at leads fails =
        passing_one rows k e y at leads
        ∙ ap (λ b. passing (take k rows) ++ map read (cond b (under e.name y ∷ []) [])) fails
        ∙ append-nil (passing (take k rows))
