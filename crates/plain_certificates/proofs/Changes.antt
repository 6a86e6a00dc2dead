-- How net flow and cost change when one arc's flow does.
use Rattle.std.proofs.Common.{◌≡◌, ◌≢◌, ℕ, ◌<◌, Bool, true, false, cond, eqb, ℤ, pos, ◌+ℤ◌, ◌-ℤ◌}
use Rattle.std.proofs.Common.{◌*ℤ◌, sym, ap, ◌∙◌, arith}
use Rattle.std.proofs.lemmas.Int.{ints}
use Rattle.plain_certificates.specs.Numbered.{Numbered, sum_to, net}
use Rattle.plain_certificates.specs.Cheapest.{cost_of}
use Rattle.plain_certificates.specs.Pushes.{at_node}
use Rattle.plain_certificates.proofs.Products.{mul-sub}
use Rattle.plain_certificates.proofs.Sums.{sum_to-sub, sum_to-one}
use Rattle.plain_certificates.proofs.Weights.{at_end}

-- a sum of which one part is another
pub sum_to-changed : (n k : ℕ) (f f' : ℕ → ℤ) → k < n
    → ((j : ℕ) → j < n → j ≢ k → f' j ≡ f j)
    → sum_to n f' ≡ sum_to n f +ℤ (f' k -ℤ f k)
sum_to-changed n k f f' l same =
    let parts = sum_to-sub n f' f in
    let one = sum_to-one n k (λ j. f' j -ℤ f j) l
    (λ j q ne. rw (same j q ne) (omega (arith, ints))) in
    omega (arith, ints, parts, one)

cond-sub : (b : Bool) (x y : ℤ) → cond b x (pos 0) -ℤ cond b y (pos 0) ≡ cond b (x -ℤ y) (pos 0)
cond-sub true x y = omega (arith, ints)
cond-sub false x y = omega (arith, ints)

at_end-changed : (arcs : ℕ) (end : ℕ → ℕ) (f f' : ℕ → ℤ) (k v : ℕ) → k < arcs
    → ((j : ℕ) → j < arcs → j ≢ k → f' j ≡ f j)
    → at_end arcs end f' v ≡ at_end arcs end f v +ℤ at_node (end k) (f' k -ℤ f k) v
at_end-changed arcs end f f' k v l same =
    let sum = sum_to-changed arcs k (λ j. cond (eqb (end j) v) (f j) (pos 0))
    (λ j. cond (eqb (end j) v) (f' j) (pos 0)) l
    (λ j q ne. ap (λ x. cond (eqb (end j) v) x (pos 0)) (same j q ne)) in
    sum ∙ ap (λ x. at_end arcs end f v +ℤ x) (cond-sub (eqb (end k) v) (f' k) (f k))

-- the source sends the change, and the target takes it
pub net_changed : (g : Numbered) (f f' : ℕ → ℤ) (k v : ℕ) → k < g.arcs
    → ((j : ℕ) → j < g.arcs → j ≢ k → f' j ≡ f j)
    → net g f' v ≡ net g f v
    +ℤ (at_node (g.from k) (f' k -ℤ f k) v -ℤ at_node (g.to k) (f' k -ℤ f k) v)
net_changed g f f' k v l same =
    let out = at_end-changed g.arcs g.from f f' k v l same in
    let back = at_end-changed g.arcs g.to f f' k v l same in
    omega (arith, ints, out, back)

pub cost_changed : (g : Numbered) (cost f f' : ℕ → ℤ) (k : ℕ) → k < g.arcs
    → ((j : ℕ) → j < g.arcs → j ≢ k → f' j ≡ f j)
    → cost_of g cost f' ≡ cost_of g cost f +ℤ cost k *ℤ (f' k -ℤ f k)
cost_changed g cost f f' k l same =
    let sum = sum_to-changed g.arcs k (λ j. cost j *ℤ f j) (λ j. cost j *ℤ f' j) l
    (λ j q ne. ap (λ x. cost j *ℤ x) (same j q ne)) in
    sum ∙ ap (λ x. cost_of g cost f +ℤ x) (sym (mul-sub (cost k) (f' k) (f k)))
