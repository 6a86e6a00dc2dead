use Rattle.std.proofs.Common.{◌≡◌, ℕ, ◌+◌, ◌-◌, ◌<◌, ◌≤◌, IsTrue, List, [], ◌∷◌, ◌++◌, length}
use Rattle.std.proofs.Common.{replicate, Option, Some, None, get_or, set, take, refl, sym, ap}
use Rattle.std.proofs.Common.{subst, ◌∙◌, arith, Bool, true, false, if◌then◌else◌, take_all}
use Rattle.std.proofs.Common.{Contains, zero, suc, nat_le}
use Rattle.std.proofs.lemmas.Grind.{common_steps}
use Rattle.base_items.specs.declared.items.Fact.{Fact}
use Rattle.plain_digraph.specs.Facts.{fact_id}
use Rattle.plain_digraph.specs.Rising.{with_item, without_item, swapped}
use Rattle.observe_core.specs.Items.{Lacks, rises_from}
use Rattle.observe_core.specs.Facts.{IsInBounds}
use Rattle.observe_core.specs.Slots.{present, well_placed}
use Rattle.observe_core.proofs.SlotLemmas.{present-put, present-taken, present-swapped}
use Rattle.observe_core.proofs.SlotLemmas.{present-grown, well_placed-grown, well_placed-put}
use Rattle.observe_core.proofs.SlotLemmas.{well_placed-taken, lacks-slot, past-lacks, empty-lacks}
use Rattle.observe_core.proofs.SlotLemmas.{length-place, length-swapped, length-taken, swapped-same}
use Rattle.observe_core.proofs.SlotLemmas.{parts}
use Rattle.observe_core.proofs.ItemLemmas.{without-lacks, and_right, has_from, contains-has}
use Rattle.fact_table.specs.Table.{from_id}
use Rattle.fact_table.specs.Tests.{is_in_bounds, facts_placed}

in_bounds : (f : Fact) → IsInBounds f → IsTrue (is_in_bounds f)
in_bounds f h = let a = h.0 in let b = h.1 in let c = h.2 in grind (arith, common_steps, a, b, c)

module _ (f : Fact) (slots : List (Option Fact)) (placed : IsTrue (facts_placed slots)) where
  pub put-placed : IsInBounds f → IsTrue (facts_placed (set slots f.id (Some f)))
  put-placed h =
      well_placed-put fact_id is_in_bounds 0 f.id f.id f slots placed (omega arith) refl
      (in_bounds f h)

  pub put-facts : f.id < length slots → Lacks fact_id f.id (present slots)
      → present (set slots f.id (Some f)) ≡ with_item fact_id f (present slots)
  put-facts l h =
      present-put fact_id is_in_bounds 0 f.id f.id f slots placed l
      (lacks-slot fact_id is_in_bounds 0 f.id f.id slots placed (omega arith) h) (omega arith) refl

  pub put-length : f.id < length slots → Lacks fact_id f.id (present slots)
      → length (present (set slots f.id (Some f))) ≡ length (present slots) + 1
  put-length l h = ap length (put-facts l h) ∙ length-place fact_id is_in_bounds f (present slots)

  pub swap-facts : (g : Fact) → f.id < length slots → get_or slots f.id None ≡ Some g
      → present (set slots f.id (Some f)) ≡ swapped fact_id f (present slots)
  swap-facts g l e =
      present-swapped fact_id is_in_bounds 0 f.id f.id f g slots placed l e (omega arith) refl

  pub swap-length : (g : Fact) → f.id < length slots → get_or slots f.id None ≡ Some g
      → length (present (set slots f.id (Some f))) ≡ length (present slots)
  swap-length g l e = ap length (swap-facts g l e)
      ∙ length-swapped fact_id is_in_bounds f (present slots)

  pub swap-lacks : Lacks fact_id f.id (present slots)
      → present slots ≡ swapped fact_id f (present slots)
  swap-lacks h = sym (swapped-same fact_id is_in_bounds f (present slots) h)

module _ (id : ℕ) (slots : List (Option Fact)) (placed : IsTrue (facts_placed slots)) where
  pub taken-placed : IsTrue (facts_placed (set slots id None))
  taken-placed = well_placed-taken fact_id is_in_bounds 0 id slots placed

  pub taken-facts : id < length slots
      → present (set slots id None) ≡ without_item fact_id id (present slots)
  taken-facts l = present-taken fact_id is_in_bounds 0 id id slots placed l (omega arith)

  pub empty-slot : get_or slots id None ≡ None → Lacks fact_id id (present slots)
  empty-slot e = empty-lacks fact_id is_in_bounds 0 id id slots placed (omega arith) e

  pub past-slots : length slots ≤ id → Lacks fact_id id (present slots)
  past-slots l = past-lacks fact_id is_in_bounds 0 id slots placed (omega arith)

  pub taken-lacks : Lacks fact_id id (present slots)
      → present slots ≡ without_item fact_id id (present slots)
  taken-lacks h = sym (without-lacks fact_id id (present slots) h)

pub grown-facts : (n : ℕ) (slots : List (Option Fact))
    → present (slots ++ replicate n None) ≡ present slots
grown-facts n slots = present-grown fact_id is_in_bounds n slots

pub grown-placed : (n : ℕ) (slots : List (Option Fact)) → IsTrue (facts_placed slots)
    → IsTrue (facts_placed (slots ++ replicate n None))
grown-placed n slots h = well_placed-grown fact_id is_in_bounds 0 n slots h

pub taken-length : (id : ℕ) (slots : List (Option Fact)) (g : Fact) → get_or slots id None ≡ Some g
    → length (present (set slots id None)) + 1 ≡ length (present slots)
taken-length id slots g e = length-taken id g slots e

-- a slot that a read found empty
pub not_some : (o : Option Fact) → ((g : Fact) → o ≡ Some g → ⊥) → o ≡ None
not_some None h = refl
not_some (Some g) h = absurd (h g refl)

-- what a resize that may fail leaves
pub resized-facts : (b : Bool) (n m : ℕ) (slots : List (Option Fact)) → length slots ≤ n
    → present (if b then take n slots ++ replicate (n - m) None else slots) ≡ present slots
resized-facts true n m slots l = rw (take_all n slots l) (grown-facts (n - m) slots)
resized-facts false n m slots l = refl

pub resized-placed : (b : Bool) (n m : ℕ) (slots : List (Option Fact)) → length slots ≤ n
    → IsTrue (facts_placed slots)
    → IsTrue (facts_placed (if b then take n slots ++ replicate (n - m) None else slots))
resized-placed true n m slots l h = rw (take_all n slots l) (grown-placed (n - m) slots h)
resized-placed false n m slots l h = h

some_is : (g h : Fact) → Some g ≡ Some h → g ≡ h
some_is g h e = ap (λ o. elim o as (λ o. Fact) [ Some x ↦ x | None ↦ g ]) e

-- the fact in a slot is there, and has the slot's id
pub slot-there : (id : ℕ) (f : Fact) (slots : List (Option Fact)) → IsTrue (facts_placed slots)
    → id < length slots → get_or slots id None ≡ Some f → Contains (present slots) f × (f.id ≡ id)
slot-there id f slots placed l e = at_slot 0 id slots placed (omega arith) e
  where
    at_slot : (i j : ℕ) (ss : List (Option Fact)) → IsTrue (well_placed fact_id is_in_bounds i ss)
        → id ≡ i + j → get_or ss j None ≡ Some f → Contains (present ss) f × (f.id ≡ id)
    at_slot i j [] h m e = cc
    at_slot i zero (None ∷ ss) h m e = cc
    at_slot i zero (Some g ∷ ss) h m e =
        let x : g ≡ f = some_is g f e in
        let w = (parts fact_id is_in_bounds i g ss h).0 in
        ((0, omega arith, x), sym (ap fact_id x) ∙ w ∙ omega (arith, m))
    at_slot i (suc j) (None ∷ ss) h m e = at_slot (i + 1) j ss h (omega (arith, m)) e
    at_slot i (suc j) (Some g ∷ ss) h m e =
        let r = at_slot (i + 1) j ss (parts fact_id is_in_bounds i g ss h).1.1 (omega (arith, m))
        e in
        ((suc r.0.0, omega (arith, r.0.1), r.0.2), r.1)

-- where no fact has the id, the search goes on behind it
pub from-on : (low : ℕ) (fs : List Fact) → Lacks fact_id low fs
    → from_id low fs ≡ from_id (low + 1) fs
from-on low [] h = refl
from-on low (f ∷ fs) h =
    let r = from-on low fs h.1 in let n = h.0 in
    grind (arith, common_steps, r, n)

-- a fact that is there is found from its id on
pub from-there : (i : ℕ) (f : Fact) (fs : List Fact) → IsTrue (rises_from fact_id i fs)
    → Contains fs f → from_id f.id fs ≡ Some f
from-there i f [] h c = absurd (omega (arith, c.1))
from-there i f (g ∷ gs) h (zero, l, c) =
    let e : g ≡ f = c in
    subst (λ z. (if nat_le f.id z.id then Some z else from_id f.id gs) ≡ Some f) (sym e)
    (ap (λ b. if b then Some f else from_id f.id gs) (reflexive f.id))
  where
    reflexive : (n : ℕ) → nat_le n n ≡ true
    reflexive n = grind (arith, common_steps)
from-there i f (g ∷ gs) h (suc k, l, c) =
    let b = and_right (nat_le i g.id) (rises_from fact_id (g.id + 1) gs) h in
    let r = from-there (g.id + 1) f gs b (k, omega (arith, l), c) in
    let q = has_from fact_id (g.id + 1) f.id gs b
    (contains-has fact_id f gs (k, omega (arith, l), c)) in
    grind (arith, common_steps, r, q)

-- past the slots there is none
pub from-past : (i low : ℕ) (ss : List (Option Fact))
    → IsTrue (well_placed fact_id is_in_bounds i ss) → i + length ss ≤ low
    → from_id low (present ss) ≡ None
from-past i low [] h l = refl
from-past i low (None ∷ ss) h l = from-past (i + 1) low ss h (omega (arith, l))
from-past i low (Some f ∷ ss) h l =
    let w = parts fact_id is_in_bounds i f ss h in
    let r = from-past (i + 1) low ss w.1.1 (omega (arith, l)) in
    let e = w.0 in
    grind (arith, common_steps, r, e, l)
