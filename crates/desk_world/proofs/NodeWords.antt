-- A word names the one node that comes by its letters from the node with its label.
use Rattle.std.proofs.Common.{◌≡◌, ℕ, suc, Bool, true, false, cond, List, [], ◌∷◌}
use Rattle.std.proofs.Common.{◌++◌, length, length-append, reverse, refl, sym, ap, ◌∙◌, arith}
use Rattle.std.proofs.Common.{Option, None, Some, codes}
use Rattle.std.specs.Prelude.{◌==◌, option_and_then}
use Rattle.std.proofs.lemmas.Bool.Decides.{nat_tests}
use Rattle.std.proofs.lemmas.List.{reverse-append}
use Rattle.std.proofs.lemmas.Option.{none-some, same_Some}
use Rattle.plain_views.specs.Adaptors.{is_even, half, twice, odd}
use Rattle.plain_views.specs.Marks.{node_marks}
use Rattle.plain_views.specs.Towers.{Layer, Reverse, Sub, Undirect, Residual, Split, base_node}
use Rattle.plain_views.proofs.Adapted.{half_twice, half_odd}
use Rattle.plain_views.proofs.Doubled.{even_is, odd_is}
use Rattle.desk_world.specs.NodeWords.{part_by, node_by, letters_of}

-- ---- marks and letters

twice_even : (n : ℕ) → is_even (twice n) ≡ true
twice_even n = grind (arith, nat_tests)

odd_not_even : (n : ℕ) → is_even (odd n) ≡ false
odd_not_even n = grind (arith, nat_tests)

one_more : (xs : List ℕ) (n : ℕ) → reverse (xs ++ n ∷ []) ≡ n ∷ reverse xs
one_more xs n = reverse-append xs (n ∷ [])

module _ {M : Type 0} where
  -- a node has as many marks as letters
  pub marks_counted : (tower : List (Layer M)) (node : ℕ)
      → length (node_marks tower node) ≡ letters_of tower
  marks_counted [] node = refl
  marks_counted (Reverse ∷ below) node = marks_counted below node
  marks_counted (Sub nodes arcs ∷ below) node = marks_counted below node
  marks_counted (Undirect ∷ below) node = marks_counted below node
  marks_counted (Residual cap flow ∷ below) node = marks_counted below node
  marks_counted (Split ∷ below) node =
      let rest = marks_counted below (half node) in
      let marks = node_marks below (half node) in
      elim (is_even node) as (λ b. length (marks ++ cond b (codes "i") (codes "o"))
      ≡ suc (letters_of below)) [
        | true ↦ (let both = length-append marks (codes "i") in omega (arith, both, rest))
        | false ↦ (let both = length-append marks (codes "o") in omega (arith, both, rest))
      ]

  -- by its marks a node comes from its node of the base
  pub comes_by_marks : (tower : List (Layer M)) (node : ℕ)
      → node_by (reverse (node_marks tower node)) (base_node tower node) ≡ Some node
  comes_by_marks [] node = refl
  comes_by_marks (Reverse ∷ below) node = comes_by_marks below node
  comes_by_marks (Sub nodes arcs ∷ below) node = comes_by_marks below node
  comes_by_marks (Undirect ∷ below) node = comes_by_marks below node
  comes_by_marks (Residual cap flow ∷ below) node = comes_by_marks below node
  comes_by_marks (Split ∷ below) node =
      by (is_even node) refl (comes_by_marks below (half node))
    where
      marks : List ℕ
      marks = node_marks below (half node)

      own : ℕ
      own = base_node below (half node)

      by : (b : Bool) → is_even node ≡ b → node_by (reverse marks) own ≡ Some (half node)
          → node_by (reverse (marks ++ cond b (codes "i") (codes "o"))) own ≡ Some node
      by true is rest =
          ap (λ letters. node_by letters own) (one_more marks 105)
          ∙ ap (option_and_then (part_by 105)) rest
          ∙ ap Some (sym (even_is node is))
      by false is rest =
          ap (λ letters. node_by letters own) (one_more marks 111)
          ∙ ap (option_and_then (part_by 111)) rest
          ∙ ap Some (sym (odd_is node is))

-- the part that a letter names
part_is : (letter node up : ℕ) → part_by letter node ≡ Some up
    → (half up ≡ node) × (cond (is_even up) (codes "i") (codes "o") ≡ letter ∷ [])
part_is letter node up is = by (letter == 105) refl is
  where
    otherwise : (b : Bool) → (letter == 111) ≡ b
        → cond b (Some (odd node)) None ≡ Some up
        → (half up ≡ node) × (cond (is_even up) (codes "i") (codes "o") ≡ letter ∷ [])
    otherwise true at found =
        let same = same_Some (odd node) up found in
        let own : letter ≡ 111 = grind (at, arith, nat_tests) in (
          ap half (sym same) ∙ half_odd node,
          ap (λ n. cond (is_even n) (codes "i") (codes "o")) (sym same)
              ∙ ap (λ b. cond b (codes "i") (codes "o")) (odd_not_even node)
              ∙ ap (λ n. n ∷ []) (sym own),
        )
    otherwise false at found = absurd (none-some up found)

    by : (b : Bool) → (letter == 105) ≡ b
        → cond b (Some (twice node)) (cond (letter == 111) (Some (odd node)) None) ≡ Some up
        → (half up ≡ node) × (cond (is_even up) (codes "i") (codes "o") ≡ letter ∷ [])
    by true at found =
        let same = same_Some (twice node) up found in
        let own : letter ≡ 105 = grind (at, arith, nat_tests) in (
          ap half (sym same) ∙ half_twice node,
          ap (λ n. cond (is_even n) (codes "i") (codes "o")) (sym same)
              ∙ ap (λ b. cond b (codes "i") (codes "o")) (twice_even node)
              ∙ ap (λ n. n ∷ []) (sym own),
        )
    by false at found = otherwise (letter == 111) refl found

module _ {M : Type 0} where
  -- a node that comes by as many letters as the tower has has them as marks
  pub marks_are : (tower : List (Layer M)) (letters : List ℕ) (own node : ℕ)
      → length letters ≡ letters_of tower → node_by letters own ≡ Some node
      → (base_node tower node ≡ own) × (reverse (node_marks tower node) ≡ letters)
  marks_are [] [] own node counted found = (sym (same_Some own node found), refl)
  marks_are [] (letter ∷ letters) own node counted found = absurd (omega (arith, counted))
  marks_are (Reverse ∷ below) letters own node counted found =
      marks_are below letters own node counted found
  marks_are (Sub nodes arcs ∷ below) letters own node counted found =
      marks_are below letters own node counted found
  marks_are (Undirect ∷ below) letters own node counted found =
      marks_are below letters own node counted found
  marks_are (Residual cap flow ∷ below) letters own node counted found =
      marks_are below letters own node counted found
  marks_are (Split ∷ below) [] own node counted found = absurd (omega (arith, counted))
  marks_are (Split ∷ below) (letter ∷ letters) own node counted found =
      by (node_by letters own) (λ up. marks_are below letters own up (omega (arith, counted))) found
    where
      by : (o : Option ℕ)
          → ((up : ℕ) → o ≡ Some up → (base_node below up ≡ own)
          × (reverse (node_marks below up) ≡ letters))
          → option_and_then (part_by letter) o ≡ Some node
          → (base_node below (half node) ≡ own)
          × (reverse (node_marks below (half node)
          ++ cond (is_even node) (codes "i") (codes "o")) ≡ letter ∷ letters)
      by None rest is = absurd (none-some node is)
      by (Some up) down is =
          let part = part_is letter up node is in
          let rest = down up refl in (
            ap (base_node below) part.0 ∙ rest.0,
            (λ i. reverse (node_marks below (part.0 i) ++ part.1 i))
                ∙ one_more (node_marks below up) letter ∙ ap (λ ls. letter ∷ ls) rest.1,
          )

-- letters that name no part further down name none
pub none_above : (upper lower : List ℕ) (own : ℕ) → node_by lower own ≡ None
    → node_by (upper ++ lower) own ≡ None
none_above [] lower own none = none
none_above (letter ∷ upper) lower own none =
    ap (option_and_then (part_by letter)) (none_above upper lower own none)
