-- What a level does with what is shown below it.
use Rattle.std.specs.Prelude.{ℕ, Bool, true, ℤ}
use Rattle.plain_views.specs.Shown.{Shown, IsShown, AreBelow}
use Rattle.plain_views.specs.Adaptors.{reversed, sub, undirected, residual, split, twice}
use Rattle.plain_views.proofs.Adapted.{reversed_is_shown, reversed_below, sub_is_shown, sub_below}
use Rattle.plain_views.proofs.Adapted.{undirected_is_shown, undirected_below, residual_is_shown}
use Rattle.plain_views.proofs.Adapted.{residual_below, split_is_shown, split_below}
use Rattle.view_tower.specs.declared.level.How.{How}
use Rattle.view_tower.specs.declared.level.How.TheVariants.{Pass, Reverse, Sub, Undirect, Residual}
use Rattle.view_tower.specs.declared.level.How.TheVariants.{Split}

-- whether a level's filter may be asked of a node
abbrev pub asks_node : {F C : Type 0} → (F → ℕ → Bool) → How F C → ℕ → Bool
asks_node may (Sub filter) node = may filter node
asks_node may _ node = true

-- whether its filter or its rooms may be asked of an arc
abbrev pub asks_arc : {F C : Type 0} → (F → ℕ → Bool) → (C → ℕ → Bool) → How F C → ℕ → Bool
asks_arc may rooms (Sub filter) arc = may filter arc
asks_arc may rooms (Residual flows) arc = rooms flows arc
asks_arc may rooms _ arc = true

-- what bounds the ids of a level, by what bounds those below
abbrev pub level_bound : {F C : Type 0} → How F C → ℕ → ℕ
level_bound Pass bound = bound
level_bound Reverse bound = bound
level_bound (Sub filter) bound = bound
level_bound Undirect bound = twice bound
level_bound (Residual rooms) bound = twice bound
level_bound Split bound = twice bound

module _ {F C : Type 0} (node arc : F → ℕ → Bool) (cap flow : C → ℕ → ℤ) where
  -- what a level shows of what is shown below it
  abbrev pub level_of : How F C → Shown → Shown
  level_of Pass p = p
  level_of Reverse p = reversed p
  level_of (Sub filter) p = sub (node filter) (arc filter) p
  level_of Undirect p = undirected p
  level_of (Residual rooms) p = residual (cap rooms) (flow rooms) p
  level_of Split p = split p

  -- a level over a valid digraph shows a valid digraph
  pub level_is_shown : (how : How F C) (p : Shown) → IsShown p → IsShown (level_of how p)
  level_is_shown Pass p shown = shown
  level_is_shown Reverse p shown = reversed_is_shown p shown
  level_is_shown (Sub filter) p shown = sub_is_shown (node filter) (arc filter) p shown
  level_is_shown Undirect p shown = undirected_is_shown p shown
  level_is_shown (Residual rooms) p shown = residual_is_shown (cap rooms) (flow rooms) p shown
  level_is_shown Split p shown = split_is_shown p shown

  -- its ids are below its bound
  pub level_below : (how : How F C) (p : Shown) (bound : ℕ) → IsShown p → AreBelow p bound
      → AreBelow (level_of how p) (level_bound how bound)
  level_below Pass p bound shown below = below
  level_below Reverse p bound shown below = reversed_below p bound shown below
  level_below (Sub filter) p bound shown below =
      sub_below (node filter) (arc filter) p bound shown below
  level_below Undirect p bound shown below = undirected_below p bound shown below
  level_below (Residual rooms) p bound shown below =
      residual_below (cap rooms) (flow rooms) p bound shown below
  level_below Split p bound shown below = split_below p bound below
