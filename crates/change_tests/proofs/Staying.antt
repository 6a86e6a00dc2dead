-- Names of snapshots stay where another goes.
use Rattle.std.proofs.Common.{◌≡◌, ◌≢◌, ◌==◌, ℕ, zero, suc, Bool, true, false, not, List, [], ◌∷◌}
use Rattle.std.proofs.Common.{if◌then◌else◌, filter, Contains, sym, ap, subst, ◌∙◌, arith}
use Rattle.std.proofs.Common.{Result, Ok, Err, OnOk}
use Rattle.std.proofs.lemmas.Grind.{common_steps}
use Rattle.base_items.specs.declared.items.ItemSort.TheVariants as sorts
use Rattle.alter_graph.specs.declared.snaps.SnapKeys.{SnapKeys}
use Rattle.alter_graph.specs.Attaching.{uses_key}
use Rattle.alter_graph.specs.Chains.{ChainsSeen}
use Rattle.alter_graph.specs.Restoring.{Restores}
use Rattle.alter_graph.specs.State.{State}
use Rattle.change_tests.specs.Names.{AreApart}

kept_by : {X : Type 0} (p : X → Bool) (xs : List X) (x : X) → p x ≡ true → Contains xs x
    → Contains (filter p xs) x
kept_by p [] x holds c = absurd (omega (arith, c.1))
kept_by p (y ∷ ys) x holds (zero, l, c) =
    let e : y ≡ x = c in
    subst (λ b. Contains (if b then y ∷ filter p ys else filter p ys) x)
    (sym (ap p e ∙ holds)) (0, omega arith, e)
kept_by p (y ∷ ys) x holds (suc k, l, c) =
    let r = kept_by p ys x holds (k, omega (arith, l), c) in
    elim (p y) as (λ b. Contains (if b then y ∷ filter p ys else filter p ys) x) [
      | true ↦ (suc r.0, omega (arith, r.1), r.2)
      | false ↦ r
    ]

not_used : (m n : ℕ) → m ≢ n → not (m == n) ≡ true
not_used m n d = grind (arith, common_steps, d)

pub others_stay : (name : SnapKeys) (s t : State) → Restores name s t → (k : SnapKeys)
    → Contains s.chains.snaps k → AreApart k name → Contains t.chains.snaps k
others_stay name s t h k there apart =
    let at : Contains h.restored.chains.snaps k =
    subst (λ l. Contains l k) (sym h.goes.snaps.names) there in
    let nodes = kept_by (λ j. not (uses_key sorts.Node name.nodes.0 j)) h.restored.chains.snaps k
    (not_used k.nodes.0 name.nodes.0 apart.nodes) at in
    subst (λ (c : ChainsSeen). Contains c.snaps k) (sym h.gone)
    (kept_by (λ j. not (uses_key sorts.Arc name.arcs.0 j))
    (filter (λ j. not (uses_key sorts.Node name.nodes.0 j)) h.restored.chains.snaps) k
    (not_used k.arcs.0 name.arcs.0 apart.arcs) nodes)

-- whatever the answer is
pub on_ok : {T E P : Type 0} (r : Result T E) → P → OnOk r P
on_ok (Ok x) p = p
on_ok (Err y) p = tt
