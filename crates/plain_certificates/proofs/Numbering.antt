-- Arcs that a view shows have ends that are numbered.
use Rattle.std.proofs.Common.{◌≡◌, ℕ, suc, ◌+◌, ◌<◌, Bool, true, false, ◌&&◌, ◌||◌, not, cond, eqb}
use Rattle.std.proofs.Common.{List, [], ◌∷◌, length, get_or, map, All, refl, ap, ◌∙◌, arith}
use Rattle.std.specs.List.{list_any, flat_map}
use Rattle.std.proofs.lemmas.Bool.Decides.{nat_tests}
use Rattle.std.proofs.Math.ListN.{get_or-map}
use Rattle.std.proofs.lemmas.List.{get_or_default, length-map}
use Rattle.std.proofs.lemmas.List.Elements.{All-nil, All-cons, All-append, All-filter}
use Rattle.std.proofs.lemmas.List.Sums.{passes_at_first}
use Rattle.plain_digraph.specs.Lists.{has}
use Rattle.plain_views.specs.Shown.{Shown, ShownArc, arcs_from, arcs_in_order, has_ends, IsShown}
use Rattle.plain_certificates.specs.Tables.{place_of}
use Rattle.plain_certificates.specs.Numbering.{arc_at, NumberedHasEnds}
use Rattle.plain_certificates.specs.Numbering.{NumberedKeepsEnds}

-- what a list has is found in it
pub place_below : (xs : List ℕ) (x : ℕ) → has xs x ≡ true → place_of xs x < length xs
place_below [] x h = absurd cc
place_below (y ∷ ys) x h = either (eqb y x) h (place_below ys x)
  where
    either : (b : Bool) → (b || has ys x) ≡ true
        → (has ys x ≡ true → place_of ys x < length ys)
        → cond (not b) (1 + place_of ys x) 0 < suc (length ys)
    either true e rest = omega arith
    either false e rest = (let below = rest e in omega (arith, below))

pub at_place : (xs : List ℕ) (x : ℕ) → has xs x ≡ true → get_or xs (place_of xs x) 0 ≡ x
at_place xs x h =
    let found = passes_at_first (λ y. eqb y x) xs 0 (place_below xs x h) in
    by_eqb (get_or xs (place_of xs x) 0) x found
  where
    by_eqb : (a b : ℕ) → eqb a b ≡ true → a ≡ b
    by_eqb a b e = grind (arith, nat_tests)

-- ---- each arc in order has its ends among the nodes

all_pass : {X : Type 0} (test : X → Bool) (xs : List X)
    → list_any (λ x. not (test x)) xs ≡ false → All (λ x. test x ≡ true) xs
all_pass test [] h = All-nil (λ x. test x ≡ true)
all_pass test (x ∷ xs) h =
    let parts = both (test x) (list_any (λ y. not (test y)) xs) h in
    All-cons (λ y. test y ≡ true) x xs parts.0 (all_pass test xs parts.1)
  where
    both : (a b : Bool) → (not a || b) ≡ false → (a ≡ true) × (b ≡ false)
    both true b e = (refl, e)
    both false b e = absurd cc

all-flat_map : {X : Type 0} (P : X → Type 0) (f : ℕ → List X) (ns : List ℕ)
    → ((n : ℕ) → All P (f n)) → All P (flat_map f ns)
all-flat_map P f [] h = All-nil P
all-flat_map P f (n ∷ ns) h = All-append P (f n) (flat_map f ns) (h n) (all-flat_map P f ns h)

pub arcs_have_ends : (p : Shown) → IsShown p
    → All (λ arc. has_ends p.nodes arc ≡ true) (arcs_in_order p)
arcs_have_ends p shown =
    let P : ShownArc → Type 0 = λ arc. has_ends p.nodes arc ≡ true in
    let all = all_pass (has_ends p.nodes) p.by_source shown.ends_shown in
    all-flat_map P (arcs_from p) p.nodes
    (λ node. All-filter (λ arc. eqb arc.from node) P p.by_source all)

arc_has_ends : (p : Shown) (k : ℕ) → IsShown p → k < length (arcs_in_order p)
    → (has p.nodes (arc_at p k).from ≡ true) × (has p.nodes (arc_at p k).to ≡ true)
arc_has_ends p k shown l =
    both (has p.nodes (arc_at p k).from) (has p.nodes (arc_at p k).to)
    (arcs_have_ends p shown k (record { id = 0; from = 0; to = 0 }) l)
  where
    both : (a b : Bool) → (a && b) ≡ true → (a ≡ true) × (b ≡ true)
    both true b e = (refl, e)
    both false b e = absurd cc

-- the number of an end, read from the list of all
end_read : (p : Shown) (end : ShownArc → ℕ) (k : ℕ) → k < length (arcs_in_order p)
    → get_or (map (λ arc. place_of p.nodes (end arc)) (arcs_in_order p)) k 0
    ≡ place_of p.nodes (end (arc_at p k))
end_read p end k l =
    let number = λ (arc : ShownArc). place_of p.nodes (end arc) in
    let none : ShownArc = record { id = 0; from = 0; to = 0 } in
    let size = length-map (arcs_in_order p) number in
    get_or_default (map number (arcs_in_order p)) k 0 (number none) (omega (arith, size, l))
    ∙ get_or-map number (arcs_in_order p) k none

pub numbered_has_ends : NumberedHasEnds
numbered_has_ends p shown k l =
    let ends = arc_has_ends p k shown l in
    let from = end_read p (λ arc. arc.from) k l in
    let to = end_read p (λ arc. arc.to) k l in
    let a = place_below p.nodes (arc_at p k).from ends.0 in
    let b = place_below p.nodes (arc_at p k).to ends.1 in
    (omega (arith, from, a), omega (arith, to, b))

pub numbered_keeps_ends : NumberedKeepsEnds
numbered_keeps_ends p k shown l =
    let ends = arc_has_ends p k shown l in (
      ap (λ v. get_or p.nodes v 0) (end_read p (λ arc. arc.from) k l)
          ∙ at_place p.nodes (arc_at p k).from ends.0,
      ap (λ v. get_or p.nodes v 0) (end_read p (λ arc. arc.to) k l)
          ∙ at_place p.nodes (arc_at p k).to ends.1,
    )
