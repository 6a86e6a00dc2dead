-- Weak duality: weights on the nodes against what meets them is a sum over the arcs.
use Rattle.std.proofs.Common.{◌≡◌, ℕ, ◌<◌, eqb, cond, ℤ, pos, ◌-ℤ◌, ◌*ℤ◌, sym, ◌∙◌}
use Rattle.plain_certificates.specs.Numbered.{Numbered, EndsAreNodes, sum_to, sum_where, net}
use Rattle.plain_certificates.proofs.Products.{mul-sub, sub-mul}
use Rattle.plain_certificates.proofs.Sums.{sum_to-same, sum_to-sub, mul-sum_to, sum_to-swap}
use Rattle.plain_certificates.proofs.Sums.{sum_to-part}

-- the sum of a value over the arcs with this end
abbrev pub at_end : ℕ → (ℕ → ℕ) → (ℕ → ℤ) → ℕ → ℤ
at_end arcs end value node = sum_where arcs (λ arc. eqb (end arc) node) value

-- weights on the nodes, at one end of each arc
pub weighed_by_end : (nodes arcs : ℕ) (end : ℕ → ℕ) (w value : ℕ → ℤ)
    → ((arc : ℕ) → arc < arcs → end arc < nodes)
    → sum_to nodes (λ v. w v *ℤ at_end arcs end value v) ≡ sum_to arcs (λ k. w (end k) *ℤ value k)
weighed_by_end nodes arcs end w value inside =
    let one = λ (v k : ℕ). w v *ℤ cond (eqb (end k) v) (value k) (pos 0) in
    sum_to-same nodes (λ v. w v *ℤ at_end arcs end value v) (λ v. sum_to arcs (one v))
    (λ v _. mul-sum_to arcs (w v) (λ k. cond (eqb (end k) v) (value k) (pos 0)))
    ∙ (sum_to-swap nodes arcs one
    ∙ sum_to-same arcs (λ k. sum_to nodes (λ v. one v k)) (λ k. w (end k) *ℤ value k)
    (λ k l. sum_to-part nodes (end k) w (value k) (inside k l)))

-- weights on the nodes against net flow
pub weighed : (g : Numbered) (w flow : ℕ → ℤ) → EndsAreNodes g
    → sum_to g.nodes (λ v. w v *ℤ net g flow v)
    ≡ sum_to g.arcs (λ k. (w (g.from k) -ℤ w (g.to k)) *ℤ flow k)
weighed g w flow ends =
    let out = at_end g.arcs g.from flow in
    let back = at_end g.arcs g.to flow in
    let by_source = weighed_by_end g.nodes g.arcs g.from w flow (λ k l. (ends k l).0) in
    let by_target = weighed_by_end g.nodes g.arcs g.to w flow (λ k l. (ends k l).1) in
    sum_to-same g.nodes (λ v. w v *ℤ net g flow v) (λ v. w v *ℤ out v -ℤ w v *ℤ back v)
    (λ v _. mul-sub (w v) (out v) (back v))
    ∙ (sum_to-sub g.nodes (λ v. w v *ℤ out v) (λ v. w v *ℤ back v)
    ∙ rw (by_source, by_target)
    (sym (sum_to-sub g.arcs (λ k. w (g.from k) *ℤ flow k) (λ k. w (g.to k) *ℤ flow k))
    ∙ sum_to-same g.arcs (λ k. w (g.from k) *ℤ flow k -ℤ w (g.to k) *ℤ flow k)
    (λ k. (w (g.from k) -ℤ w (g.to k)) *ℤ flow k)
    (λ k _. sym (sub-mul (w (g.from k)) (w (g.to k)) (flow k)))))
