-- What an arc of a tower pulls is the value of the item that it comes from, negated on the way back
-- through residual layers.
use Rattle.std.proofs.Common.{◌≡◌, ℕ, Bool, true, false, cond, List, [], ◌∷◌, ℤ, neg_ℤ, refl}
use Rattle.std.proofs.Common.{◌∙◌, ap}
use Rattle.std.specs.Prelude.{not}
use Rattle.std.proofs.Math.IntN.{neg_ℤ-neg_ℤ}
use Rattle.plain_views.specs.Adaptors.{is_even, half}
use Rattle.plain_views.specs.Towers.{Layer, Reverse, Sub, Undirect, Residual, Split, Values}
use Rattle.plain_views.specs.Towers.{base_node, arc_int, arc_bool}
use Rattle.plain_views.specs.Marks.{Origin, FromNode, arc_origin}
use Rattle.view_tower.specs.Origins as origins
use Rattle.view_tower.specs.Origins.{is_turned, signed}

module _ {M : Type 0} (values : Values M) (m : M) where
  abbrev origin_bool : Origin → Bool
  origin_bool = origins.origin_bool values m

  abbrev origin_int : Origin → ℤ
  origin_int = origins.origin_int values m

  either : {X Y : Type 0} (f : X → Y) (b : Bool) (x : X) (y : X) (u v : Y) → u ≡ f x → v ≡ f y
      → cond b u v ≡ f (cond b x y)
  either f true x y u v p q = p
  either f false x y u v p q = q

  pub bool_by_origin : (tower : List (Layer M)) (arc : ℕ)
      → arc_bool values tower m arc ≡ origin_bool (arc_origin tower arc)
  bool_by_origin [] arc = refl
  bool_by_origin (Reverse ∷ below) arc = bool_by_origin below arc
  bool_by_origin (Sub nodes arcs ∷ below) arc = bool_by_origin below arc
  bool_by_origin (Undirect ∷ below) arc = bool_by_origin below (half arc)
  bool_by_origin (Residual cap flow ∷ below) arc = bool_by_origin below (half arc)
  bool_by_origin (Split ∷ below) arc =
      either origin_bool (is_even arc) (arc_origin below (half arc))
      (FromNode (base_node below (half arc))) _ _ (bool_by_origin below (half arc)) refl

  twice_back : (x : ℤ) → neg_ℤ (neg_ℤ x) ≡ x
  twice_back x = neg_ℤ-neg_ℤ x

  once_more : (b : Bool) (x : ℤ) → neg_ℤ (signed b x) ≡ signed (not b) x
  once_more true x = twice_back x
  once_more false x = refl

  back : (e : Bool) (b : Bool) (x u : ℤ) → u ≡ signed b x
      → cond e u (neg_ℤ u) ≡ signed (cond e b (not b)) x
  back true b x u is = is
  back false b x u is = ap neg_ℤ is ∙ once_more b x

  parted : (e b : Bool) (o : Origin) (node : ℕ) (u : ℤ) → u ≡ signed b (origin_int o)
      → cond e u (origin_int (FromNode node))
      ≡ signed (cond e b false) (origin_int (cond e o (FromNode node)))
  parted true b o node u is = is
  parted false b o node u is = refl

  pub int_by_origin : (tower : List (Layer M)) (arc : ℕ)
      → arc_int values tower m arc
      ≡ signed (is_turned tower arc) (origin_int (arc_origin tower arc))
  int_by_origin [] arc = refl
  int_by_origin (Reverse ∷ below) arc = int_by_origin below arc
  int_by_origin (Sub nodes arcs ∷ below) arc = int_by_origin below arc
  int_by_origin (Undirect ∷ below) arc = int_by_origin below (half arc)
  int_by_origin (Residual cap flow ∷ below) arc =
      back (is_even arc) (is_turned below (half arc)) (origin_int (arc_origin below (half arc))) _
      (int_by_origin below (half arc))
  int_by_origin (Split ∷ below) arc =
      parted (is_even arc) (is_turned below (half arc)) (arc_origin below (half arc))
      (base_node below (half arc)) _ (int_by_origin below (half arc))
