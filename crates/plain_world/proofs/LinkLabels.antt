-- The labels of the ends of an arc, in the document of a world.
use Rattle.std.proofs.Common.{◌≡◌, ℕ, suc, ◌+◌, ◌<◌, Bool, true, false, cond, not, List, [], ◌∷◌}
use Rattle.std.proofs.Common.{map, length, get_or, refl, sym, ap, Option, Some, None, ◌∙◌, arith}
use Rattle.std.specs.Prelude.{◌==◌, ◌||◌, unwrap_or}
use Rattle.std.specs.List.{list_any, position_or_len}
use Rattle.std.proofs.lemmas.Bool.{true≢false, eqb-true, lt-ltb}
use Rattle.base_items.specs.declared.items.ItemSort.TheVariants.{Node}
use Rattle.lgf_file.specs.Documents.{node_labels, label_at}
use Rattle.plain_digraph.specs.Items.{IsLive, rising}
use Rattle.plain_world.specs.World.{World, label_of}
use Rattle.plain_world.specs.Documents.{doc_of, row_of}
use Rattle.plain_world.specs.Valid.{IsWorld}
use Rattle.plain_world.proofs.Documented.{labels_are, live_rises}

module _ {X : Type 0} (read : ℕ → X) (node : ℕ) (default : X) where
  -- the place of one of the ids
  abbrev place_in : List ℕ → ℕ
  place_in ids = position_or_len (λ other. other == node) ids

  -- it is within the ids, and what is read of the id stands there
  record IsPlaced (place size : ℕ) (texts : List X) : Type 0 where
    pub within : place < size
    pub is : get_or texts place default ≡ read node

  placed : (ids : List ℕ) → list_any (λ other. other == node) ids ≡ true
      → IsPlaced (place_in ids) (length ids) (map read ids)
  placed [] none = absurd (true≢false (sym none))
  placed (id ∷ ids) some = by (id == node) refl (placed ids) some
    where
      by : (b : Bool) → (id == node) ≡ b
          → (list_any (λ other. other == node) ids ≡ true
          → IsPlaced (place_in ids) (length ids) (map read ids))
          → (b || list_any (λ other. other == node) ids) ≡ true
          → IsPlaced (cond (not b) (1 + place_in ids) 0) (suc (length ids)) (read id ∷ map read ids)
      by true same rest some = record { within = omega arith; is = ap read (eqb-true id node same) }
      by false other rest some =
          let here = rest some in
          let below = here.within in
          let next : 1 + place_in ids ≡ suc (place_in ids) = omega arith in
          record {
            within = omega (arith, below);
            is = ap (λ n. get_or (read id ∷ map read ids) n default) next ∙ here.is;
          }

-- the label in the row of a live node is the node's
pub row_labelled : (world : World) (node : ℕ) → IsWorld world → IsLive world.graph Node node
    → label_at (node_labels (doc_of world).nodes) (row_of world node) ≡ label_of world Node node
row_labelled world node ok live =
    let ids = rising world.graph Node in
    let at = position_or_len (λ other. other == node) ids in
    let here = placed (label_of world Node) node [] ids
    (live_rises world.graph Node node ok.graph_ok live) in
    let row : row_of world node ≡ at =
    ap (λ b. unwrap_or (cond b (Some at) None) 0) (lt-ltb at (length ids) here.within) in
    (λ i. label_at (labels_are world Node ids i) (row i)) ∙ here.is
