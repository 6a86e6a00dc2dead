-- The layers of a view, one row after another down.
use Rattle.std.proofs.Common.{◌≡◌, ℕ, zero, suc, ◌+◌, ◌-◌, ◌<◌, ◌≤◌, List, [], ◌∷◌, ◌++◌, map}
use Rattle.std.proofs.Common.{length}
use Rattle.std.proofs.Common.{reverse, refl, sym, ap, ◌∙◌, arith, None, Some, append_assoc}
use Rattle.std.proofs.Common.{length-append}
use Rattle.std.specs.Option.{option_map_or}
use Rattle.std.proofs.lemmas.List.{append-nil, reverse-reverse, map-append, reverse-append}
use Rattle.plain_views.specs.Towers.{Layer}
use Rattle.plain_world.specs.Tables.{Name, Named, entry}
use Rattle.plain_world.specs.World.{View}
use Rattle.plain_world.specs.Views.{layer_of, layers_up_to}
use Rattle.view_tower.specs.declared.layers.Layer as code
use Rattle.view_tower.specs.Layers as towers

module _ (views : List (Named View)) where
  -- the layers below some rows
  abbrev pub left_after : ℕ → Name → List (Layer Name)
  left_after count name = layers_up_to (8 - count) views name

  pub one_down : (count : ℕ) (name : Name) (v : View) → count < 8 → entry views name ≡ Some v
      → left_after count name ≡ layer_of v.layer ∷ left_after (count + 1) v.below
  one_down count name v few found =
      let one : 8 - count ≡ suc (8 - (count + 1)) = omega (arith, few) in
      ap (λ n. layers_up_to n views name) one
      ∙ ap (λ o. option_map_or (λ (u : View). layer_of u.layer
      ∷ layers_up_to (8 - (count + 1)) views u.below) o []) found

  none_down : (most : ℕ) (name : Name) → entry views name ≡ None → layers_up_to most views name ≡ []
  none_down zero name none = refl
  none_down (suc most) name none =
      ap (λ o. option_map_or (λ (u : View). layer_of u.layer ∷ layers_up_to most views u.below) o
      []) none

  pub at_base : (count : ℕ) (name : Name) → entry views name ≡ None → left_after count name ≡ []
  at_base count name none = none_down (8 - count) name none

  pub at_most : (count : ℕ) (name : Name) → 8 ≤ count → left_after count name ≡ []
  at_most count name many =
      let none : 8 - count ≡ 0 = omega (arith, many) in ap (λ n. layers_up_to n views name) none

  -- while layers are counted: those that were met and those left are all
  pub record Counts (view : Name) (count : ℕ) (name : Name) : Type 0 where
    pub few : count ≤ 8
    pub all : count + length (left_after count name) ≡ length (layers_up_to 8 views view)

  pub counts_more : (view : Name) (count : ℕ) (name : Name) (v : View) → Counts view count name
      → count < 8 → entry views name ≡ Some v → Counts view (count + 1) v.below
  counts_more view count name v was few found =
      let down = ap length (one_down count name v few found) in
      let all = was.all in
      record { few = omega (arith, few); all = omega (arith, down, all) }

  pub counts_all : (view : Name) (count : ℕ) (name : Name) → Counts view count name
      → left_after count name ≡ [] → count ≡ length (layers_up_to 8 views view)
  counts_all view count name was none =
      let no_more = ap length none in let all = was.all in omega (arith, no_more, all)

  module _ (number : Layer Name → Layer ℕ) where
    -- while layers are gathered
    pub record Gathers (view : Name) (met : List code.Layer) (name : Name) : Type 0 where
      pub few : length met ≤ 8
      pub all : map towers.layer_of met ++ map number (left_after (length met) name)
          ≡ map number (layers_up_to 8 views view)

    pub gathers_more : (view : Name) (met : List code.Layer) (name : Name) (v : View)
        (layer : code.Layer) → Gathers view met name → length met < 8
        → entry views name ≡ Some v → towers.layer_of layer ≡ number (layer_of v.layer)
        → Gathers view (met ++ layer ∷ []) v.below
    gathers_more view met name v layer was few found is =
        let size = length-append met (layer ∷ []) in
        let rest = map number (left_after (length met + 1) v.below) in
        record {
          few = omega (arith, few, size);
          all = (λ i. map-append towers.layer_of met (layer ∷ []) i
              ++ map number (left_after (size i) v.below))
              ∙ append_assoc (map towers.layer_of met) (towers.layer_of layer ∷ []) rest
              ∙ ap (λ l. map towers.layer_of met ++ l ∷ rest) is
              ∙ ap (λ xs. map towers.layer_of met ++ map number xs)
              (sym (one_down (length met) name v few found))
              ∙ was.all;
        }

    pub gathers_all : (view : Name) (met : List code.Layer) (name : Name) → Gathers view met name
        → left_after (length met) name ≡ []
        → towers.tower_of (reverse met) ≡ map number (layers_up_to 8 views view)
    gathers_all view met name was none =
        turned met
        ∙ sym (append-nil (map towers.layer_of met))
        ∙ ap (λ xs. map towers.layer_of met ++ map number xs) (sym none)
        ∙ was.all
      where
        back : (xs : List code.Layer)
            → map towers.layer_of (reverse xs) ≡ reverse (map towers.layer_of xs)
        back [] = refl
        back (x ∷ xs) =
            ap (map towers.layer_of) (reverse-append (x ∷ []) xs)
            ∙ map-append towers.layer_of (reverse xs) (x ∷ [])
            ∙ ap (λ ys. ys ++ towers.layer_of x ∷ []) (back xs)
            ∙ sym (reverse-append (towers.layer_of x ∷ []) (map towers.layer_of xs))

        turned : (xs : List code.Layer) → towers.tower_of (reverse xs) ≡ map towers.layer_of xs
        turned xs = ap reverse (back xs) ∙ reverse-reverse (map towers.layer_of xs)
