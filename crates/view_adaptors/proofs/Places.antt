-- Where a walk stands, by the number of the item.
use Rattle.std.proofs.Common.{◌≡◌, ℕ, ◌%◌, ◌<◌, ◌≤◌, ◌^◌, true, false, Option, Some, None, IfSome}
use Rattle.std.proofs.Common.{sym, ◌∙◌, arith}
use Rattle.std.specs.Prelude.{option_map}
use Rattle.base_items.specs.declared.items.Node.{Node}
use Rattle.base_items.specs.declared.items.Arc.{Arc}
use Rattle.plain_digraph.specs.Lists.{has}
use Rattle.plain_views.specs.Shown.{Shown, IsShown, AreBelow, source, target, out_ids, in_ids}
use Rattle.std.proofs.lemmas.Bool.Decides.{nat_tests}
use Rattle.plain_views.specs.Adaptors.{is_even}
use Rattle.plain_views.proofs.Sides.{has-ids_at, same_ids}

pub at_node : (P : ℕ → Type 0) (at : Option Node) (o : Option ℕ) → option_map (λ n. n.0) at ≡ o
    → ((id : ℕ) → o ≡ Some id → P id) → IfSome at (λ n. P n.0)
at_node P None o is all = tt
at_node P (Some n) o is all = all n.0 (sym is)

pub at_arc : (P : ℕ → Type 0) (at : Option Arc) (o : Option ℕ) → option_map (λ a. a.0) at ≡ o
    → ((id : ℕ) → o ≡ Some id → P id) → IfSome at (λ a. P a.0)
at_arc P None o is all = tt
at_arc P (Some a) o is all = all a.0 (sym is)

-- ids that may be doubled
module _ (p : Shown) (bound : ℕ) (below : AreBelow p bound) (small : bound ≤ 2 ^ 30) where
  pub out_small : (v id : ℕ) → has (out_ids p v) id ≡ true → id < 2 ^ 30
  out_small v id at = let l =
      below.arcs_below id (has-ids_at source p.by_source v id at) in omega (arith, l, small)

  pub in_small : IsShown p → (v id : ℕ) → has (in_ids p v) id ≡ true → id < 2 ^ 30
  in_small shown v id at = let l =
      below.arcs_below id (same_ids p shown id ∙ has-ids_at target p.by_target v id at) in omega
      (arith, l, small)

-- what a test of the last bit tells
pub even_of : (id : ℕ) → id % 2 ≡ 0 → is_even id ≡ true
even_of id e = grind (arith, nat_tests)

pub odd_of : (id : ℕ) → (id % 2 ≡ 0 → ⊥) → is_even id ≡ false
odd_of id e = grind (arith, nat_tests)

pub node_small : (p : Shown) (bound : ℕ) → AreBelow p bound → bound ≤ 2 ^ 30 → (id : ℕ)
    → has p.nodes id ≡ true → id < 2 ^ 30
node_small p bound below small id at = let l = below.nodes_below id at in omega (arith, l, small)
