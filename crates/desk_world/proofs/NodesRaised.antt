-- Letters one after another lead up from a node of the base, and the ids stay small.
use Rattle.std.proofs.Common.{◌≡◌, ℕ, zero, suc, ◌+◌, ◌*◌, ◌<◌, ◌≤◌, false, cond, List, []}
use Rattle.std.proofs.Common.{◌∷◌, length, reverse, take, drop, get_or, refl, sym, ap, ◌∙◌}
use Rattle.std.proofs.Common.{arith, map, None, Some, take-append-drop, ne_eqb}
use Rattle.std.specs.Prelude.{◌==◌, option_and_then}
use Rattle.std.proofs.Math.Seq.{take-suc}
use Rattle.std.proofs.lemmas.List.{length-map, length-reverse, reverse-append}
use Rattle.plain_views.specs.Adaptors.{in_node, out_node}
use Rattle.plain_views.specs.Towers as plain
use Rattle.view_tower.specs.declared.layers.Layer as code
use Rattle.view_tower.specs.declared.layers.Layer.TheVariants as layers
use Rattle.view_tower.specs.Layers.{layer_of, tower_of}
use Rattle.view_tower.proofs.Stacked.{tower_step}
use Rattle.desk_world.specs.NodeWords.{part_by, node_by, letters_of, is_split}
use Rattle.desk_world.proofs.NodeWords.{none_above}

-- what bounds the ids that so many letters lead to
abbrev pub bound_after : ℕ → ℕ
bound_after zero = 4194304
bound_after (suc letters) = bound_after letters * 2

grows : (n m : ℕ) → n ≤ m → bound_after n ≤ bound_after m
grows zero zero le = omega arith
grows zero (suc m) le = let rest = grows zero m (omega arith) in omega (arith, rest)
grows (suc n) zero le = absurd (omega (arith, le))
grows (suc n) (suc m) le = let rest = grows n m (omega (arith, le)) in omega (arith, rest)

pub never_above : (n : ℕ) → n ≤ 8 → bound_after n ≤ 1073741824
never_above n few = grows n 8 few

-- while letters are read
pub record Raises (read : List ℕ) (count node id : ℕ) : Type 0 where
  pub above : node_by (reverse read) node ≡ Some id
  pub low : id < bound_after count

next_is : (letters : List ℕ) (at : ℕ) → at < length letters
    → reverse (take (at + 1) letters) ≡ get_or letters at 0 ∷ reverse (take at letters)
next_is letters at below =
    let next : at + 1 ≡ suc at = omega arith in
    ap (λ n. reverse (take n letters)) next ∙ ap reverse (take-suc letters at 0 below)
    ∙ reverse-append (take at letters) (get_or letters at 0 ∷ [])

module _ (letters : List ℕ) (at node id : ℕ) (below : at < length letters)
    (was : Raises (take at letters) at node id) where
  raised : (letter up : ℕ) → get_or letters at 0 ≡ letter → part_by letter id ≡ Some up
      → node_by (reverse (take (at + 1) letters)) node ≡ Some up
  raised letter up is part =
      ap (λ ls. node_by ls node) (next_is letters at below)
      ∙ ap (λ n. option_and_then (part_by n) (node_by (reverse (take at letters)) node)) is
      ∙ ap (option_and_then (part_by letter)) was.above ∙ part

  pub raised_in : (up : ℕ) → get_or letters at 0 ≡ 105 → up ≡ 2 * id
      → Raises (take (at + 1) letters) (at + 1) node up
  raised_in up is own =
      let low = was.low in
      let next : at + 1 ≡ suc at = omega arith in
      let more = ap bound_after next in
      record {
        above = raised 105 up is (ap Some (omega (arith, own)));
        low = omega (arith, low, more, own);
      }

  pub raised_out : (up : ℕ) → get_or letters at 0 ≡ 111 → up ≡ 2 * id + 1
      → Raises (take (at + 1) letters) (at + 1) node up
  raised_out up is own =
      let low = was.low in
      let next : at + 1 ≡ suc at = omega arith in
      let more = ap bound_after next in
      record {
        above = raised 111 up is (ap Some (omega (arith, own)));
        low = omega (arith, low, more, own);
      }

  -- no part has another letter
  pub not_raised : (get_or letters at 0 ≡ 105 → ⊥) → (get_or letters at 0 ≡ 111 → ⊥)
      → node_by (reverse letters) node ≡ None
  not_raised no_in no_out =
      let cut = take-append-drop (at + 1) letters in
      ap (λ ls. node_by (reverse ls) node) (sym cut)
      ∙ ap (λ ls. node_by ls node)
      (reverse-append (take (at + 1) letters) (drop (at + 1) letters))
      ∙ none_above (reverse (drop (at + 1) letters)) (reverse (take (at + 1) letters)) node
      (ap (λ ls. node_by ls node) (next_is letters at below)
      ∙ ap (option_and_then (part_by (get_or letters at 0))) was.above
      ∙ other (get_or letters at 0) no_in no_out)
    where
      other : (letter : ℕ) → (letter ≡ 105 → ⊥) → (letter ≡ 111 → ⊥) → part_by letter id ≡ None
      other letter no_in no_out =
          let first : (letter == 105) ≡ false = ne_eqb letter 105 no_in in
          let second : (letter == 111) ≡ false = ne_eqb letter 111 no_out in
          (λ i. cond (first i) (Some (in_node id)) (cond (second i) (Some (out_node id)) None))

-- one layer more
pub letters_more : (list : List code.Layer) (at : ℕ) (layer : code.Layer) → at < length list
    → get_or list at layer ≡ layer
    → letters_of (tower_of (take (at + 1) list))
    ≡ cond (is_split layer) (suc (letters_of (tower_of (take at list))))
    (letters_of (tower_of (take at list)))
letters_more list at layer below is =
    ap letters_of (tower_step list at layer layer below is)
    ∙ by layer
  where
    by : (layer : code.Layer) → letters_of (layer_of layer ∷ tower_of (take at list))
        ≡ cond (is_split layer) (suc (letters_of (tower_of (take at list))))
        (letters_of (tower_of (take at list)))
    by layers.Reverse = refl
    by (layers.Sub nodes arcs) = refl
    by layers.Undirect = refl
    by (layers.Residual room flow) = refl
    by layers.Split = refl

-- there are no more letters than layers
pub letters_few : (list : List code.Layer) → letters_of (tower_of list) ≤ length list
letters_few list =
    let some = fewer (tower_of list) in
    let turned = length-reverse (map layer_of list) in
    let size = length-map list layer_of in
    omega (arith, some, turned, size)
  where
    fewer : {M : Type 0} (tower : List (plain.Layer M)) → letters_of tower ≤ length tower
    fewer [] = omega arith
    fewer (plain.Reverse ∷ below) = let rest = fewer below in omega (arith, rest)
    fewer (plain.Sub nodes arcs ∷ below) = let rest = fewer below in omega (arith, rest)
    fewer (plain.Undirect ∷ below) = let rest = fewer below in omega (arith, rest)
    fewer (plain.Residual room flow ∷ below) = let rest = fewer below in omega (arith, rest)
    fewer (plain.Split ∷ below) = let rest = fewer below in omega (arith, rest)
