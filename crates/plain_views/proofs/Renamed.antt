-- Towers whose maps go by other names show the same.
use Rattle.std.proofs.Common.{◌≡◌, ℕ, Bool, true, cond, refl, ◌∙◌, ap, List, [], ◌∷◌, map, pos}
use Rattle.std.proofs.Common.{neg_ℤ, Option, None, Some}
use Rattle.std.specs.Prelude.{option_map}
use Rattle.std.specs.Option.{option_map_or}
use Rattle.base_items.specs.declared.items.ItemSort.{ItemSort}
use Rattle.base_items.specs.declared.items.ItemSort.TheVariants.{Node, Arc}
use Rattle.plain_digraph.specs.Digraph.{Digraph}
use Rattle.plain_views.specs.Shown.{Shown}
use Rattle.plain_views.specs.Adaptors.{sub, residual, is_even, half}
use Rattle.plain_views.specs.Towers.{Layer, Reverse, Sub, Undirect, Residual, Split, Values}
use Rattle.plain_views.specs.Towers.{base_node, node_int, node_bool, arc_int, arc_bool, passes}
use Rattle.plain_views.specs.Towers.{level, shown}
use Rattle.plain_views.specs.Renaming.{renamed, AgreesAt, AgreesOnArcs, IfGiven, LayerAgrees}
use Rattle.plain_views.specs.Renaming.{TowerAgrees}

module _ (M N : Type 0) (name : ItemSort → M → N) (old : Values M) (new : Values N) where
  same_base : (tower : List (Layer M)) (node : ℕ)
      → base_node (map (renamed name) tower) node ≡ base_node tower node
  same_base [] node = refl
  same_base (Reverse ∷ below) node = same_base below node
  same_base (Sub nodes arcs ∷ below) node = same_base below node
  same_base (Undirect ∷ below) node = same_base below node
  same_base (Residual cap flow ∷ below) node = same_base below node
  same_base (Split ∷ below) node = same_base below (half node)

  pub same_node_int : (tower : List (Layer M)) (m : M) (node : ℕ) → AgreesAt name old new Node m
      → node_int new (map (renamed name) tower) (name Node m) node ≡ node_int old tower m node
  same_node_int tower m node a = ap (new.int Node (name Node m)) (same_base tower node)
      ∙ a.int (base_node tower node)

  pub same_node_bool : (tower : List (Layer M)) (m : M) (node : ℕ) → AgreesAt name old new Node m
      → node_bool new (map (renamed name) tower) (name Node m) node ≡ node_bool old tower m node
  same_node_bool tower m node a = ap (new.bool Node (name Node m)) (same_base tower node)
      ∙ a.bool (base_node tower node)

  -- the value at a bind arc, by the partner
  same_bind : {X : Type 0} (p : Option M) (f : N → X) (h : M → X) (d : X)
      → ((m : M) → p ≡ Some m → f (name Node m) ≡ h m)
      → option_map_or f (option_map (name Node) p) d ≡ option_map_or h p d
  same_bind None f h d is = refl
  same_bind (Some m) f h d is = is m refl

  both : {X : Type 0} (b : Bool) (x x' y y' : X) → x ≡ x' → y ≡ y' → cond b x y ≡ cond b x' y'
  both b x x' y y' p q = λ i. cond b (p i) (q i)

  pub same_ints : (tower : List (Layer M)) (m : M) (arc : ℕ) → AgreesOnArcs name old new m
      → arc_int new (map (renamed name) tower) (name Arc m) arc ≡ arc_int old tower m arc
  same_ints [] m arc a = a.values.int arc
  same_ints (Reverse ∷ below) m arc a = same_ints below m arc a
  same_ints (Sub nodes arcs ∷ below) m arc a = same_ints below m arc a
  same_ints (Undirect ∷ below) m arc a = same_ints below m (half arc) a
  same_ints (Residual cap flow ∷ below) m arc a = λ i.
      cond (is_even arc) (same_ints below m (half arc) a i)
      (neg_ℤ (same_ints below m (half arc) a i))
  same_ints (Split ∷ below) m arc a =
      both (is_even arc) _ _ _ _ (same_ints below m (half arc) a)
      (ap (λ p. option_map_or (λ q. node_int new (map (renamed name) below) q (half arc)) p (pos 0))
      a.partner
      ∙ same_bind (old.partner m) (λ q. node_int new (map (renamed name) below) q (half arc))
      (λ q. node_int old below q (half arc)) (pos 0)
      (λ p is. same_node_int below p (half arc) (a.partner_values p is)))

  pub same_bools : (tower : List (Layer M)) (m : M) (arc : ℕ) → AgreesOnArcs name old new m
      → arc_bool new (map (renamed name) tower) (name Arc m) arc ≡ arc_bool old tower m arc
  same_bools [] m arc a = a.values.bool arc
  same_bools (Reverse ∷ below) m arc a = same_bools below m arc a
  same_bools (Sub nodes arcs ∷ below) m arc a = same_bools below m arc a
  same_bools (Undirect ∷ below) m arc a = same_bools below m (half arc) a
  same_bools (Residual cap flow ∷ below) m arc a = same_bools below m (half arc) a
  same_bools (Split ∷ below) m arc a =
      both (is_even arc) _ _ _ _ (same_bools below m (half arc) a)
      (ap (λ p. option_map_or (λ q. node_bool new (map (renamed name) below) q (half arc)) p true)
      a.partner
      ∙ same_bind (old.partner m) (λ q. node_bool new (map (renamed name) below) q (half arc))
      (λ q. node_bool old below q (half arc)) true
      (λ p is. same_node_bool below p (half arc) (a.partner_values p is)))

  -- the tests of a filter, given or not
  same_node_test : (below : List (Layer M)) (nodes : Option M) (node : ℕ)
      → IfGiven name old new (AgreesAt name old new Node) nodes
      → passes new (node_bool new (map (renamed name) below)) (option_map (name Node) nodes) node
      ≡ passes old (node_bool old below) nodes node
  same_node_test below None node a = refl
  same_node_test below (Some m) node a = same_node_bool below m node a

  same_arc_test : (below : List (Layer M)) (arcs : Option M) (arc : ℕ)
      → IfGiven name old new (AgreesOnArcs name old new) arcs
      → passes new (arc_bool new (map (renamed name) below)) (option_map (name Arc) arcs) arc
      ≡ passes old (arc_bool old below) arcs arc
  same_arc_test below None arc a = refl
  same_arc_test below (Some m) arc a = same_bools below m arc a

  same_level : (below : List (Layer M)) (layer : Layer M) (p : Shown)
      → LayerAgrees name old new layer
      → level new (map (renamed name) below) (renamed name layer) p ≡ level old below layer p
  same_level below Reverse p a = refl
  same_level below (Sub nodes arcs) p a = λ i.
      sub (λ node. same_node_test below nodes node a.0 i)
      (λ arc. same_arc_test below arcs arc a.1 i) p
  same_level below Undirect p a = refl
  same_level below (Residual cap flow) p a = λ i.
      residual (λ arc. same_ints below cap arc a.0 i) (λ arc. same_ints below flow arc a.1 i) p
  same_level below Split p a = refl

  pub same_shown : (g : Digraph) (tower : List (Layer M)) → TowerAgrees name old new tower
      → shown new g (map (renamed name) tower) ≡ shown old g tower
  same_shown g [] a = refl
  same_shown g (layer ∷ below) a =
      ap (level new (map (renamed name) below) (renamed name layer)) (same_shown g below a.1)
      ∙ same_level below layer (shown old g below) a.0
