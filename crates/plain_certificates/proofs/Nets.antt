-- Net flow and cost of flows that agree, and of flows that are added.
use Rattle.std.proofs.Common.{◌≡◌, ℕ, ◌<◌, Bool, true, false, cond, eqb, ℤ, pos, ◌+ℤ◌, ◌*ℤ◌}
use Rattle.std.proofs.Common.{refl, ◌∙◌, arith}
use Rattle.std.proofs.lemmas.Int.{ints}
use Rattle.plain_certificates.specs.Numbered.{Numbered, sum_where, net}
use Rattle.plain_certificates.specs.Cheapest.{cost_of}
use Rattle.plain_certificates.proofs.Products.{mul-add}
use Rattle.plain_certificates.proofs.Sums.{sum_to-same, sum_to-add, sum_to-zero, sum_where-same}
use Rattle.plain_certificates.proofs.Weights.{at_end}

pub net-same : (g : Numbered) (f f' : ℕ → ℤ) (v : ℕ) → ((k : ℕ) → k < g.arcs → f k ≡ f' k)
    → net g f v ≡ net g f' v
net-same g f f' v same =
    let out = sum_where-same g.arcs (λ k. eqb (g.from k) v) f f' (λ k l _. same k l) in
    let back = sum_where-same g.arcs (λ k. eqb (g.to k) v) f f' (λ k l _. same k l) in
    omega (arith, ints, out, back)

cond-add : (b : Bool) (x y : ℤ) → cond b (x +ℤ y) (pos 0) ≡ cond b x (pos 0) +ℤ cond b y (pos 0)
cond-add true x y = omega (arith, ints)
cond-add false x y = omega (arith, ints)

pub sum_where-add : (n : ℕ) (chosen : ℕ → Bool) (f f' : ℕ → ℤ)
    → sum_where n chosen (λ k. f k +ℤ f' k) ≡ sum_where n chosen f +ℤ sum_where n chosen f'
sum_where-add n chosen f f' =
    sum_to-same n (λ k. cond (chosen k) (f k +ℤ f' k) (pos 0))
    (λ k. cond (chosen k) (f k) (pos 0) +ℤ cond (chosen k) (f' k) (pos 0))
    (λ k _. cond-add (chosen k) (f k) (f' k))
    ∙ sum_to-add n (λ k. cond (chosen k) (f k) (pos 0)) (λ k. cond (chosen k) (f' k) (pos 0))

pub net-add : (g : Numbered) (f f' : ℕ → ℤ) (v : ℕ)
    → net g (λ k. f k +ℤ f' k) v ≡ net g f v +ℤ net g f' v
net-add g f f' v =
    let out = sum_where-add g.arcs (λ k. eqb (g.from k) v) f f' in
    let back = sum_where-add g.arcs (λ k. eqb (g.to k) v) f f' in
    omega (arith, ints, out, back)

pub net-zero : (g : Numbered) (f : ℕ → ℤ) (v : ℕ) → ((k : ℕ) → k < g.arcs → f k ≡ pos 0)
    → net g f v ≡ pos 0
net-zero g f v none =
    let out = none_at g.from in
    let back = none_at g.to in
    omega (arith, ints, out, back)
  where
    either : (b : Bool) (x : ℤ) → x ≡ pos 0 → cond b x (pos 0) ≡ pos 0
    either true x e = e
    either false x e = refl

    none_at : (end : ℕ → ℕ) → at_end g.arcs end f v ≡ pos 0
    none_at end = sum_to-zero g.arcs (λ k. cond (eqb (end k) v) (f k) (pos 0))
        (λ k l. either (eqb (end k) v) (f k) (none k l))

pub cost-add : (g : Numbered) (cost f f' : ℕ → ℤ)
    → cost_of g cost (λ k. f k +ℤ f' k) ≡ cost_of g cost f +ℤ cost_of g cost f'
cost-add g cost f f' =
    sum_to-same g.arcs (λ k. cost k *ℤ (f k +ℤ f' k)) (λ k. cost k *ℤ f k +ℤ cost k *ℤ f' k)
    (λ k _. mul-add (cost k) (f k) (f' k))
    ∙ sum_to-add g.arcs (λ k. cost k *ℤ f k) (λ k. cost k *ℤ f' k)
