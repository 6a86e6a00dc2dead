-- Products of integers: sums and differences inside, signs, and order.
use Rattle.std.proofs.Common.{◌≡◌, zero, suc, ℤ, pos, negsuc, ◌+ℤ◌, ◌-ℤ◌, ◌*ℤ◌, neg_ℤ, ◌≤ℤ◌, sym}
use Rattle.std.proofs.Common.{◌∙◌, ap, arith}
use Rattle.std.proofs.Math.IntN.{suc_ℤ, pred_ℤ, zero-*ℤ, *ℤ_comm, suc_ℤ-*ℤ, pred_ℤ-*ℤ, suc_ℤ-+ℤ}
use Rattle.std.proofs.Math.IntN.{pred_ℤ-+ℤ, +ℤ_idl}
use Rattle.std.proofs.lemmas.Int.{ints}

-- what holds of 0 and goes up and down by one holds of each integer
pub int_steps : (P : ℤ → Type 0) → P (pos 0) → ((z : ℤ) → P z → P (suc_ℤ z))
    → ((z : ℤ) → P z → P (pred_ℤ z)) → (z : ℤ) → P z
int_steps P base up down (pos zero) = base
int_steps P base up down (pos (suc n)) = up (pos n) (int_steps P base up down (pos n))
int_steps P base up down (negsuc zero) = down (pos 0) base
int_steps P base up down (negsuc (suc n)) =
    down (negsuc n) (int_steps P base up down (negsuc n))

pub add-mul : (m k j : ℤ) → (m +ℤ k) *ℤ j ≡ m *ℤ j +ℤ k *ℤ j
add-mul m k j =
    int_steps (λ z. (z +ℤ k) *ℤ j ≡ z *ℤ j +ℤ k *ℤ j)
    (rw (+ℤ_idl k, zero-*ℤ j, +ℤ_idl (k *ℤ j)))
    (λ z h. rw (suc_ℤ-+ℤ z k, suc_ℤ-*ℤ (z +ℤ k) j, suc_ℤ-*ℤ z j, h) (omega (arith, ints)))
    (λ z h. rw (pred_ℤ-+ℤ z k, pred_ℤ-*ℤ (z +ℤ k) j, pred_ℤ-*ℤ z j, h) (omega (arith, ints)))
    m

pub mul-add : (m k j : ℤ) → m *ℤ (k +ℤ j) ≡ m *ℤ k +ℤ m *ℤ j
mul-add m k j = rw (*ℤ_comm m (k +ℤ j), add-mul k j m, *ℤ_comm k m, *ℤ_comm j m)

pub neg-mul : (m k : ℤ) → neg_ℤ m *ℤ k ≡ neg_ℤ (m *ℤ k)
neg-mul m k =
    let e = add-mul (neg_ℤ m) m k in
    let z : neg_ℤ m +ℤ m ≡ pos 0 = omega (arith, ints) in
    let h : neg_ℤ m *ℤ k +ℤ m *ℤ k ≡ pos 0 = sym e ∙ (ap (λ y. y *ℤ k) z ∙ zero-*ℤ k) in
    omega (arith, ints)

pub sub-mul : (m k j : ℤ) → (m -ℤ k) *ℤ j ≡ m *ℤ j -ℤ k *ℤ j
sub-mul m k j =
    let e = add-mul (m -ℤ k) k j in
    let z : (m -ℤ k) +ℤ k ≡ m = omega (arith, ints) in
    let h : (m -ℤ k) *ℤ j +ℤ k *ℤ j ≡ m *ℤ j = sym e ∙ ap (λ y. y *ℤ j) z in
    omega (arith, ints)

pub mul-sub : (m k j : ℤ) → m *ℤ (k -ℤ j) ≡ m *ℤ k -ℤ m *ℤ j
mul-sub m k j = rw (*ℤ_comm m (k -ℤ j), sub-mul k j m, *ℤ_comm k m, *ℤ_comm j m)

pub one_times : (y : ℤ) → pos 1 *ℤ y ≡ y
one_times y = grind (arith, ints)

pub mul_not_neg : (a b : ℤ) → pos 0 ≤ℤ a → pos 0 ≤ℤ b → pos 0 ≤ℤ (a *ℤ b)
mul_not_neg a b h k = grind (arith, ints)

-- a factor of at least 0 keeps the order
pub mul_le : (a b c : ℤ) → pos 0 ≤ℤ a → b ≤ℤ c → (a *ℤ b) ≤ℤ (a *ℤ c)
mul_le a b c h k =
    let z : pos 0 ≤ℤ (c -ℤ b) = omega (arith, ints, k) in
    let p = mul_not_neg a (c -ℤ b) h z in
    let e = mul-sub a c b in
    omega (arith, ints, p, e)
