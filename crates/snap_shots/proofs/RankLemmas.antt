-- Where an id stands among facts by rising id.
use Rattle.std.proofs.Common.{◌≡◌, ◌≢◌, ℕ, zero, suc, ◌+◌, ◌<◌, ◌≤◌, nat_lt, nat_le, ◌==◌, Bool}
use Rattle.std.proofs.Common.{true, false, if◌then◌else◌, IsTrue, List, [], ◌∷◌, length, get_or}
use Rattle.std.proofs.Common.{Some, None, refl, ap, sym, subst, ◌∙◌, arith}
use Rattle.std.specs.List.{insert, remove}
use Rattle.std.proofs.lemmas.Grind.{common_steps}
use Rattle.base_items.specs.declared.items.Fact.{Fact}
use Rattle.plain_digraph.specs.Facts.{fact_id}
use Rattle.plain_digraph.specs.Rising.{with_item, without_item}
use Rattle.observe_core.specs.Items.{Lacks, rises_from}
use Rattle.observe_core.proofs.ItemLemmas.{and_right, rises_at, rises-lacks, without-lacks}
use Rattle.fact_table.specs.Table.{from_id}
use Rattle.snap_shots.specs.Ranks.{rank}

rest_rises : (low : ℕ) (f : Fact) (fs : List Fact) → IsTrue (rises_from fact_id low (f ∷ fs))
    → IsTrue (rises_from fact_id (f.id + 1) fs)
rest_rises low f fs h = and_right (nat_le low f.id) (rises_from fact_id (f.id + 1) fs) h

pub rank-within : (id : ℕ) (fs : List Fact) → rank id fs ≤ length fs
rank-within id [] = omega arith
rank-within id (f ∷ fs) =
    let r = rank-within id fs in
    elim (nat_lt f.id id) as (λ b. (if b then suc (rank id fs) else 0) ≤ length (f ∷ fs)) [
      | true ↦ omega (arith, r)
      | false ↦ omega arith
    ]

-- a fact with a lower id stands in front
pub rank-past : (low id m : ℕ) (d : Fact) (fs : List Fact) → IsTrue (rises_from fact_id low fs)
    → m < length fs
    → (get_or fs m d).id < id → m < rank id fs
rank-past low id m d [] h l b = absurd (omega (arith, l))
rank-past low id zero d (f ∷ fs) h l b =
    let t : nat_lt f.id id ≡ true = grind (arith, common_steps, b) in
    subst (λ c. 0 < (if c then suc (rank id fs) else 0)) (sym t) (omega arith)
rank-past low id (suc m) d (f ∷ fs) h l b =
    let rises = rest_rises low f fs h in
    let above = rises_at fact_id (f.id + 1) m d fs rises (omega (arith, l)) in
    let t : nat_lt f.id id ≡ true = let under : f.id < id =
    omega (arith, above, b) in grind (arith, common_steps, under) in
    let r = rank-past (f.id + 1) id m d fs rises (omega (arith, l)) b in
    subst (λ c. suc m < (if c then suc (rank id fs) else 0)) (sym t) (omega (arith, r))

-- one with no lower id doesn't
pub rank-before : (id m : ℕ) (d : Fact) (fs : List Fact) → m < length fs → id ≤ (get_or fs m d).id
    → rank id fs ≤ m
rank-before id m d [] l b = absurd (omega (arith, l))
rank-before id zero d (f ∷ fs) l b =
    let t : nat_lt f.id id ≡ false = grind (arith, common_steps, b) in
    subst (λ c. (if c then suc (rank id fs) else 0) ≤ 0) (sym t) (omega arith)
rank-before id (suc m) d (f ∷ fs) l b =
    let r = rank-before id m d fs (omega (arith, l)) b in
    elim (nat_lt f.id id) as (λ c. (if c then suc (rank id fs) else 0) ≤ suc m) [
      | true ↦ omega (arith, r)
      | false ↦ omega arith
    ]

-- a fact goes in at the rank of its id
pub with-rank : (f : Fact) (fs : List Fact) → insert fs (rank f.id fs) f ≡ with_item fact_id f fs
with-rank f [] = refl
with-rank f (g ∷ gs) =
    elim (nat_lt g.id f.id) as (λ b. nat_lt g.id f.id ≡ b
    → insert (g ∷ gs) (if b then suc (rank f.id gs) else 0) f ≡ with_item fact_id f (g ∷ gs)) [
      | true ↦ λ t.
          let e : nat_le f.id g.id ≡ false = grind (arith, common_steps, t) in
          ap (λ l. g ∷ l) (with-rank f gs)
          ∙ sym (ap (λ c. if c then f ∷ g ∷ gs else g ∷ with_item fact_id f gs) e)
      | false ↦ λ t.
          let e : nat_le f.id g.id ≡ true = grind (arith, common_steps, t) in
          sym (ap (λ c. if c then f ∷ g ∷ gs else g ∷ with_item fact_id f gs) e)
    ] refl

-- the fact of an id is taken out from its rank
pub without-rank : (low id : ℕ) (d : Fact) (fs : List Fact) → IsTrue (rises_from fact_id low fs)
    → rank id fs < length fs
    → (get_or fs (rank id fs) d).id ≡ id → remove fs (rank id fs) ≡ without_item fact_id id fs
without-rank low id d [] h l e = absurd (omega (arith, l))
without-rank low id d (g ∷ gs) h l e =
    let rises = rest_rises low g gs h in
    elim (nat_lt g.id id) as (λ b. nat_lt g.id id ≡ b
    → (if b then suc (rank id gs) else 0) < length (g ∷ gs)
    → (get_or (g ∷ gs) (if b then suc (rank id gs) else 0) d).id ≡ id
    → remove (g ∷ gs) (if b then suc (rank id gs) else 0) ≡ without_item fact_id id (g ∷ gs)) [
      | true ↦ λ t m is.
          let e : (g.id == id) ≡ false = grind (arith, common_steps, t) in
          ap (λ l. g ∷ l) (without-rank (g.id + 1) id d gs rises (omega (arith, m)) is)
          ∙ sym (ap (λ c. if c then without_item fact_id id gs else g ∷ without_item fact_id id gs)
          e)
      | false ↦ λ t m is.
          let here : g.id ≡ id = is in
          let e : (g.id == id) ≡ true = grind (arith, common_steps, here) in
          sym (without-lacks fact_id id gs
          (rises-lacks fact_id (g.id + 1) id gs rises (omega (arith, here))))
          ∙ sym (ap (λ c. if c then without_item fact_id id gs else g ∷ without_item fact_id id gs)
          e)
    ] refl l e

-- an id that isn't found at its rank is no fact's
pub absent-rank : (low id : ℕ) (d : Fact) (fs : List Fact) → IsTrue (rises_from fact_id low fs)
    → (rank id fs < length fs → (get_or fs (rank id fs) d).id ≢ id) → Lacks fact_id id fs
absent-rank low id d [] h n = tt
absent-rank low id d (g ∷ gs) h n =
    let rises = rest_rises low g gs h in
    elim (nat_lt g.id id) as (λ b. nat_lt g.id id ≡ b
    → ((if b then suc (rank id gs) else 0) < length (g ∷ gs)
    → (get_or (g ∷ gs) (if b then suc (rank id gs) else 0) d).id ≢ id)
    → Lacks fact_id id (g ∷ gs)) [
      | true ↦ λ t n. (
        (λ e. grind (arith, common_steps, t, e)),
        absent-rank (g.id + 1) id d gs rises (λ l. n (omega (arith, l))),
      )
      | false ↦ λ t n.
          let other : g.id ≢ id = n (omega arith) in
          let above : id < g.id + 1 = grind (arith, common_steps, t) in
          (other, rises-lacks fact_id (g.id + 1) id gs rises above)
    ] refl n

-- the first fact whose id isn't below stands at the rank
pub from-rank : (id : ℕ) (d : Fact) (fs : List Fact) → rank id fs < length fs
    → from_id id fs ≡ Some (get_or fs (rank id fs) d)
from-rank id d [] l = absurd (omega (arith, l))
from-rank id d (g ∷ gs) l =
    elim (nat_lt g.id id) as (λ b. nat_lt g.id id ≡ b
    → (if b then suc (rank id gs) else 0) < length (g ∷ gs)
    → from_id id (g ∷ gs) ≡ Some (get_or (g ∷ gs) (if b then suc (rank id gs) else 0) d)) [
      | true ↦ λ t m.
          let e : nat_le id g.id ≡ false = grind (arith, common_steps, t) in
          ap (λ c. if c then Some g else from_id id gs) e ∙ from-rank id d gs (omega (arith, m))
      | false ↦ λ t m.
          let e : nat_le id g.id ≡ true = grind (arith, common_steps, t) in
          ap (λ c. if c then Some g else from_id id gs) e
    ] refl l

pub from-past : (id : ℕ) (fs : List Fact) → length fs ≤ rank id fs → from_id id fs ≡ None
from-past id [] l = refl
from-past id (g ∷ gs) l =
    elim (nat_lt g.id id) as (λ b. nat_lt g.id id ≡ b
    → length (g ∷ gs) ≤ (if b then suc (rank id gs) else 0) → from_id id (g ∷ gs) ≡ None) [
      | true ↦ λ t m.
          let e : nat_le id g.id ≡ false = grind (arith, common_steps, t) in
          ap (λ c. if c then Some g else from_id id gs) e ∙ from-past id gs (omega (arith, m))
      | false ↦ λ t m. absurd (omega (arith, m))
    ] refl l

-- no id is below 0
pub rank-zero : (fs : List Fact) → rank 0 fs ≡ 0
rank-zero [] = refl
rank-zero (f ∷ fs) = let e : nat_lt f.id 0 ≡ false =
    grind (arith, common_steps) in ap (λ c. if c then suc (rank 0 fs) else 0) e

pub read : {X : Type 0} (i : ℕ) (x d : X) (xs : List X) → i < length xs → x ≡ get_or xs i x
    → get_or xs i d ≡ x
read i x d [] l e = absurd (omega (arith, l))
read zero x d (y ∷ ys) l e = sym e
read (suc i) x d (y ∷ ys) l e = read i x d ys (omega (arith, l)) e

abbrev pub no_fact : Fact
no_fact = record { id = 0; from = 0; to = 0; from_at = 0; to_at = 0 }

-- what holds of both choices holds of the chosen one
pub chosen : {X : Type 0} (b : Bool) (P : X → Type 0) {x y : X} → P x → P y → P (if b then x else y)
chosen true P h k = h
chosen false P h k = k
