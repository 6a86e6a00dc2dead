-- A walk over a list by rising id.
use Rattle.std.proofs.Common.{◌≡◌, ℕ, ◌+◌, ◌<◌, true, false, nat_le, if◌then◌else◌, IsTrue, List}
use Rattle.std.proofs.Common.{[], ◌∷◌, Option, Some, None, refl, sym, ap, ◌∙◌, arith}
use Rattle.std.proofs.lemmas.Grind.{common_steps}
use Rattle.base_items.specs.declared.items.Fact.{Fact}
use Rattle.plain_digraph.specs.Facts.{fact_id}
use Rattle.observe_core.specs.Items.{rises_from}
use Rattle.observe_core.specs.Held.{Held, Nothing, Values, Degree, Half, Kept, Ties}
use Rattle.observe_core.proofs.ItemLemmas.{and_left, and_right}
use Rattle.fact_table.specs.Table.{from_id, next_after}
use Rattle.plain_digraph.specs.Lists.{first}
use Rattle.snap_shots.specs.HalfViews.{next_number, from_number}
use Rattle.alter_graph.specs.Snaps.{IsHalf, kept_of, added_of}

-- the facts of a list from an id on
abbrev pub ahead_of : ℕ → List Fact → List Fact
ahead_of low [] = []
ahead_of low (f ∷ fs) = if nat_le low f.id then f ∷ fs else ahead_of low fs

-- those after an id, or all
abbrev pub all_after : Option ℕ → List Fact → List Fact
all_after None facts = ahead_of 0 facts
all_after (Some i) facts = ahead_of (i + 1) facts

all_ahead : (low n : ℕ) (fs : List Fact) → low < n + 1 → IsTrue (rises_from fact_id n fs)
    → ahead_of low fs ≡ fs
all_ahead low n [] l h = refl
all_ahead low n (f ∷ fs) l h =
    let a = and_left (nat_le n f.id) (rises_from fact_id (f.id + 1) fs) h in
    let z : nat_le low f.id ≡ true = grind (arith, common_steps, a, l) in
    ap (λ b. if b then f ∷ fs else ahead_of low fs) z

one_ahead : (n low : ℕ) (f : Fact) (fs : List Fact) → IsTrue (rises_from fact_id n fs)
    → from_id low fs ≡ Some f → ahead_of low fs ≡ f ∷ ahead_of (f.id + 1) fs
one_ahead n low f [] h e = cc
one_ahead n low f (g ∷ gs) h e =
    let b = and_right (nat_le n g.id) (rises_from fact_id (g.id + 1) gs) h in
    elim (nat_le low g.id) as (λ t. (if t then Some g else from_id low gs) ≡ Some f
    → (if t then g ∷ gs else ahead_of low gs) ≡ f ∷ ahead_of (f.id + 1) (g ∷ gs)) [
      | true ↦ λ q.
          let m : g ≡ f = cc in
          let z : nat_le (f.id + 1) g.id ≡ false = grind (arith, common_steps, ap fact_id m) in
          let r : ahead_of (f.id + 1) gs ≡ gs =
          all_ahead (f.id + 1) (g.id + 1) gs (let i = ap fact_id m in omega (arith, i)) b in
          (λ i. m i ∷ gs)
          ∙ ap (λ l. f ∷ l) (sym (ap (λ t. if t then g ∷ gs else ahead_of (f.id + 1) gs) z ∙ r))
      | false ↦ λ q.
          let r = one_ahead (g.id + 1) low f gs b q in
          let l = found_from (g.id + 1) low f gs b q in
          let z : nat_le (f.id + 1) g.id ≡ false = grind (arith, common_steps, l) in
          r ∙ ap (λ l. f ∷ l) (sym (ap (λ t. if t then g ∷ gs else ahead_of (f.id + 1) gs) z))
    ] e
  where
    found_from : (n low : ℕ) (f : Fact) (fs : List Fact) → IsTrue (rises_from fact_id n fs)
        → from_id low fs ≡ Some f → n < f.id + 1
    found_from n low f [] h e = cc
    found_from n low f (g ∷ gs) h e =
        let a = and_left (nat_le n g.id) (rises_from fact_id (g.id + 1) gs) h in
        let b = and_right (nat_le n g.id) (rises_from fact_id (g.id + 1) gs) h in
        elim (nat_le low g.id) as (λ t. (if t then Some g else from_id low gs) ≡ Some f
        → n < f.id + 1) [
          | true ↦ λ q. let m : g ≡ f = cc in let i =
              ap fact_id m in grind (arith, common_steps, a, i)
          | false ↦ λ q. let r =
              found_from (g.id + 1) low f gs b q in grind (arith, common_steps, a, r)
        ] e

none_ahead : (low : ℕ) (fs : List Fact) → from_id low fs ≡ None → ahead_of low fs ≡ []
none_ahead low [] e = refl
none_ahead low (g ∷ gs) e =
    elim (nat_le low g.id) as (λ t. (if t then Some g else from_id low gs) ≡ None
    → (if t then g ∷ gs else ahead_of low gs) ≡ []) [
      | true ↦ λ q. cc
      | false ↦ λ q. none_ahead low gs q
    ] e

pub all_first : (fs : List Fact) → IsTrue (rises_from fact_id 0 fs) → all_after None fs ≡ fs
all_first fs h = all_ahead 0 0 fs (omega arith) h

pub one_after : (at : Option ℕ) (f : Fact) (fs : List Fact) → IsTrue (rises_from fact_id 0 fs)
    → next_after at fs ≡ Some f → all_after at fs ≡ f ∷ all_after (Some f.id) fs
one_after None f fs h e = one_ahead 0 0 f fs h e
one_after (Some i) f fs h e = one_ahead 0 (i + 1) f fs h e

pub none_after : (at : Option ℕ) (fs : List Fact) → next_after at fs ≡ None → all_after at fs ≡ []
none_after None fs e = none_ahead 0 fs e
none_after (Some i) fs e = none_ahead (i + 1) fs e

pub keeps_none : (h : Held) → (IsHalf h → ⊥) → [] ≡ kept_of h
keeps_none Nothing n = refl
keeps_none (Values t es) n = refl
keeps_none (Degree out ends) n = refl
keeps_none (Half added others kept valid) n = absurd (n tt)
keeps_none (Kept role all items) n = refl
keeps_none (Ties ties) n = refl

-- the first of numbers
pub first_number : (ns : List ℕ) → next_number None ns ≡ first ns
first_number [] = refl
first_number (n ∷ ns) =
    let z : nat_le 0 n ≡ true = grind (arith, common_steps) in
    ap (λ b. if b then Some n else from_number 0 ns) z

pub none_unless_half : (h : Held) → (IsHalf h → ⊥) → None ≡ first (added_of h)
none_unless_half Nothing n = refl
none_unless_half (Values t es) n = refl
none_unless_half (Degree out ends) n = refl
none_unless_half (Half added others kept valid) n = absurd (n tt)
none_unless_half (Kept role all items) n = refl
none_unless_half (Ties ties) n = refl
