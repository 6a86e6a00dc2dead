-- Where a climb begins and ends.
use Rattle.std.proofs.Common.{◌≡◌, inl, inr, ℕ, ◌+◌, ◌*◌, ◌<◌, ◌≤◌, List}
use Rattle.std.proofs.Common.{Option, None, Some, [], ◌∷◌, ◌++◌, length, reverse, refl, sym}
use Rattle.std.proofs.Common.{◌∙◌, subst, arith}
use Rattle.std.proofs.lemmas.List.{reverse-append}
use Rattle.plain_certificates.specs.Walks.{IsWalk}
use Rattle.plain_certificates.proofs.Walks.{walk-parts}
use Rattle.plain_certificates.specs.Numbered.{Numbered}
use Rattle.plain_certificates.specs.Tables.{at}
use Rattle.pace_search.specs.Tree.{far, origin, shift, AreLast}
use Rattle.pace_search.specs.Climbs.{IsMarked, IsClimb, HasPassed, ClimbEnds, ClosesAt}
use Rattle.pace_search.proofs.Marks.{leq_or}

-- it begins at its start
pub begins : (g : Numbered) (D V : ℕ → ℕ) (mark : List ℕ) (base start : ℕ) → start < g.nodes
    → D start < far → IsMarked g D V mark base → IsClimb g D V mark [] base start start
begins g D V mark base start l near was = record {
  sized = was.sized;
  inside = l;
  near = near;
  counted = (let a = was.counted in omega (arith, a));
  walk = refl;
  last = tt;
  places = λ i l. absurd (omega (arith, l));
  placed = λ w l. absurd (let a = was.few w in omega (arith, a, l));
  before = λ w l some few. was.low w l some;
  lower = λ w l high. absurd (let a = was.few w in omega (arith, a, high));
  rises = omega arith;
}

-- it ends where the distance is not below what was passed before
pub ends_low : (g : Numbered) (D V : ℕ → ℕ) (mark path : List ℕ) (base start node : ℕ)
    → origin ≤ D node + shift * base → IsClimb g D V mark path base start node
    → IsMarked g D V mark (base + length path)
ends_low g D V mark path base start node low was = record {
  sized = was.sized;
  counted = was.counted;
  low = λ w l some. elim (leq_or (at 0 mark w) base) [
    | inl few ↦ (let a = was.before w l some few in omega (arith, a))
    | inr high ↦ (let a = was.lower w l high in omega (arith, a, low))
  ];
  few = λ w. elim (leq_or (at 0 mark w) base) [
    | inl few ↦ omega (arith, few)
    | inr high ↦ (was.placed w high).0
  ];
}

-- a walk ends where its last arc does
walk_ends : (g : Numbered) (u v k : ℕ) (xs : List ℕ) → IsWalk g u (xs ++ (k ∷ [])) v → g.to k ≡ v
walk_ends g u v k xs walk = (walk-parts g u v xs (k ∷ []) walk).2.2

last_parts : (g : Numbered) (D V : ℕ → ℕ) (xs ys : List ℕ) → AreLast g D V (xs ++ ys)
    → AreLast g D V xs
last_parts g D V [] ys all = tt
last_parts g D V (x ∷ xs) ys all = (all.0, all.1, last_parts g D V xs ys all.2)

-- it closes up where the path begins with an arc to the node
pub closes : (g : Numbered) (D V : ℕ → ℕ) (mark front rest : List ℕ) (k base start node : ℕ)
    → g.to k ≡ node → IsClimb g D V mark (front ++ k ∷ rest) base start node
    → IsWalk g node (reverse (k ∷ rest)) node × AreLast g D V (reverse (k ∷ rest))
closes g D V mark front rest k base start node to was =
    let apart = reverse-append front (k ∷ rest) in
    let parts = walk-parts g node start (reverse (k ∷ rest)) (reverse front)
    (rw apart at was.walk) in
    let split : reverse (k ∷ rest) ≡ reverse rest ++ (k ∷ []) = reverse-append (k ∷ []) rest in
    let end = walk_ends g node parts.0 k (reverse rest)
    (subst (λ xs. IsWalk g node xs parts.0) split parts.1) in (
      subst (IsWalk g node (reverse (k ∷ rest))) (sym end ∙ to) parts.1,
      last_parts g D V (reverse (k ∷ rest)) (reverse front) (subst (AreLast g D V) apart was.last),
    )

-- so it has found no round
pub passes : (g : Numbered) (D V : ℕ → ℕ) (mark path : List ℕ) (base start node : ℕ)
    → origin ≤ D node + shift * base → IsClimb g D V mark path base start node
    → HasPassed g D V mark (base + length path) start
passes g D V mark path base start node low was = record {
  marked = ends_low g D V mark path base start node low was;
  low = (let rises = was.rises in omega (arith, low, rises));
}

-- the two ends of a climb
pub ended_closed : (g : Numbered) (D V : ℕ → ℕ) (mark path : List ℕ) (base start place : ℕ)
    (found : Option ℕ) → found ≡ Some place → ClimbEnds g D V mark path base start found
    → ClosesAt g D V path place
ended_closed g D V mark path base start place found is =
    subst (ClimbEnds g D V mark path base start) is

pub ended_passed : (g : Numbered) (D V : ℕ → ℕ) (mark path : List ℕ) (base start : ℕ)
    (found : Option ℕ) → found ≡ None → ClimbEnds g D V mark path base start found
    → HasPassed g D V mark (base + length path) start
ended_passed g D V mark path base start found is =
    subst (ClimbEnds g D V mark path base start) is
