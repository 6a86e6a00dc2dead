-- Rounds of last arcs that a climb finds, and rounds that begin at their least arc.
use Rattle.std.proofs.Common.{◌≡◌, ◌≢◌, ℕ, zero, suc, ◌+◌, ◌-◌, ◌<◌, Bool, true, false, List}
use Rattle.std.proofs.Common.{[], ◌∷◌, ◌++◌, length, reverse, take, drop, refl, sym, ap, subst}
use Rattle.std.proofs.Common.{arith}
use Rattle.std.proofs.Common.{eqb}
use Rattle.std.specs.Prelude.{nat_le}
use Rattle.std.specs.List.{IsDistinct, AllByRecursion, list_all}
use Rattle.std.proofs.lemmas.List.Folds.{list_all-append}
use Rattle.std.proofs.lemmas.Bool.Decides.{nat_tests}
use Rattle.std.proofs.lemmas.List.{get_or-drop, take-append-drop, length-drop, length-reverse}
use Rattle.std.proofs.lemmas.List.{length-append, length-take, get_or-take}
use Rattle.std.proofs.lemmas.List.Sorted.{IsPermutation-reverse, IsPermutation-append_comm}
use Rattle.std.proofs.lemmas.Map.Keys.{IsDistinct-IsPermutation}
use Rattle.std.proofs.Math.Seq.{take-append_seam, take-length}
use Rattle.std.specs.List.Sorted.{IsPermutation}
use Rattle.plain_certificates.specs.Numbered.{Numbered}
use Rattle.plain_certificates.specs.Tables.{at}
use Rattle.plain_certificates.specs.Walks.{Differ, first_is_least}
use Rattle.plain_certificates.proofs.Walks.{round_turned}
use Rattle.pace_search.specs.Tree.{AreLast}
use Rattle.pace_search.specs.Climbs.{IsClimb, IsRoundOf, ClosesAt}
use Rattle.pace_search.specs.Turns.{BeginsLeast}
use Rattle.pace_search.proofs.Climbed.{closes}

-- ---- numbers that differ

eqb_turns : (a b : ℕ) → eqb a b ≡ eqb b a
eqb_turns a b = grind (arith, nat_tests)

pub differ_moved : (xs ys : List ℕ) → IsPermutation xs ys → Differ xs → Differ ys
differ_moved = IsDistinct-IsPermutation eqb eqb_turns

none_is : (x : ℕ) (xs : List ℕ) → ((i : ℕ) → i < length xs → x ≢ at 0 xs i)
    → AllByRecursion (λ y. eqb x y ≡ false) xs
none_is x [] ne = tt
none_is x (y ∷ ys) ne = (
  (let off = ne 0 (omega arith) in grind (arith, nat_tests, off)),
  none_is x ys (λ i l. ne (suc i) (omega (arith, l))),
)

-- numbers at different places that something tells apart
differ_by : (f : ℕ → ℕ) (xs : List ℕ)
    → ((i j : ℕ) → i < j → j < length xs → f (at 0 xs i) ≢ f (at 0 xs j)) → Differ xs
unfolding IsDistinct
differ_by f [] apart = tt
differ_by f (x ∷ xs) apart = (
  none_is x xs (λ i l e. apart 0 (suc i) (omega arith) (omega (arith, l)) (ap f e)),
  differ_by f xs (λ i j l k. apart (suc i) (suc j) (omega (arith, l)) (omega (arith, k))),
)

drop_cons : (xs : List ℕ) (place : ℕ) → place < length xs
    → drop place xs ≡ at 0 xs place ∷ drop (suc place) xs
drop_cons [] place l = absurd (omega (arith, l))
drop_cons (x ∷ xs) zero l = refl
drop_cons (x ∷ xs) (suc place) l = drop_cons xs place (omega (arith, l))

-- ---- the round of a climb

-- a climb that comes to a node that it has marked has gone round
pub closes_at : (g : Numbered) (D V : ℕ → ℕ) (mark path : List ℕ) (base start node : ℕ)
    → IsClimb g D V mark path base start node → base < at 0 mark node
    → ClosesAt g D V path ((at 0 mark node - base) - 1)
closes_at g D V mark path base start node was high =
    let place = (at 0 mark node - base) - 1 in
    let placed = was.placed node high in
    let few = placed.0 in
    let l : place < length path = omega (arith, few, high) in
    let apart = take-append-drop place path in
    let split = drop_cons path place l in
    let k = at 0 path place in
    let rest = drop (suc place) path in
    let closed = closes g D V mark (take place path) rest k base start node placed.1
    (subst (λ xs. IsClimb g D V mark xs base start node)
    (sym (subst (λ xs. take place path ++ xs ≡ path) split apart)) was) in
    record {
      within = l;
      round = subst (λ xs. IsRoundOf g D V (reverse xs)) (sym split) (record {
        some = (let a = length-reverse (k ∷ rest) in omega (arith, a));
        differ = differ_moved (k ∷ rest) (reverse (k ∷ rest)) (IsPermutation-reverse (k ∷ rest))
            (subst Differ split (differ_by (λ a. at 0 mark (g.to a)) (drop place path)
            (λ i j i_j in_drop e.
            (let all = length-drop place path in
            let low : place + j < length path = omega (arith, in_drop, all) in
            let a : at 0 mark (g.to (at 0 (drop place path) i)) ≡ (base + (place + i)) + 1 =
            rw (get_or-drop place path i 0)
            (was.places (place + i) (omega (arith, low, i_j))) in
            let b : at 0 mark (g.to (at 0 (drop place path) j)) ≡ (base + (place + j)) + 1 =
            rw (get_or-drop place path j 0) (was.places (place + j) low) in
            let same = e in
            omega (arith, a, b, i_j, same)))));
        node = node;
        closed = closed.0;
        last = closed.1;
      });
    }

-- ---- from the least arc on

last_append : (g : Numbered) (D V : ℕ → ℕ) (xs ys : List ℕ) → AreLast g D V xs → AreLast g D V ys
    → AreLast g D V (xs ++ ys)
last_append g D V [] ys a b = b
last_append g D V (x ∷ xs) ys a b = (a.0, a.1, last_append g D V xs ys a.2 b)

last_apart : (g : Numbered) (D V : ℕ → ℕ) (xs ys : List ℕ) → AreLast g D V (xs ++ ys)
    → AreLast g D V xs × AreLast g D V ys
last_apart g D V [] ys all = (tt, all)
last_apart g D V (x ∷ xs) ys all =
    let rest = last_apart g D V xs ys all.2 in
    ((all.0, all.1, rest.0), rest.1)

-- a round may begin at any of its places
turned : (g : Numbered) (D V : ℕ → ℕ) (xs ys : List ℕ) → IsRoundOf g D V (xs ++ ys)
    → IsRoundOf g D V (ys ++ xs)
turned g D V xs ys round =
    let parts = last_apart g D V xs ys round.last in
    let moved = round_turned g round.node xs ys round.closed in
    record {
      some =
          (let a = round.some in
          let b = length-append xs ys in
          let c = length-append ys xs in
          omega (arith, a, b, c));
      differ = differ_moved (xs ++ ys) (ys ++ xs) (IsPermutation-append_comm xs ys) round.differ;
      node = moved.0;
      closed = moved.1;
      last = last_append g D V ys xs parts.1 parts.0;
    }

turned_at : (g : Numbered) (D V : ℕ → ℕ) (arcs : List ℕ) (place : ℕ) → IsRoundOf g D V arcs
    → IsRoundOf g D V (drop place arcs ++ take place arcs)
turned_at g D V arcs place round =
    turned g D V (take place arcs) (drop place arcs)
    (rw (take-append-drop place arcs) round)

all_where : (test : ℕ → Bool) (xs : List ℕ) → ((i : ℕ) → i < length xs → test (at 0 xs i) ≡ true)
    → list_all test xs ≡ true
all_where test [] each = refl
all_where test (x ∷ xs) each =
    rw (each 0 (omega arith)) (all_where test xs (λ i l. each (suc i) (omega (arith, l))))

pub begins_least : (arcs turned : List ℕ) → BeginsLeast arcs turned → first_is_least turned ≡ true
begins_least arcs turned begins =
    let place = begins.place in
    let l = begins.least.within in
    let least = at 0 arcs place in
    let all = length-drop (suc place) arcs in
    let few = length-take place arcs in
    let behind : list_all (nat_le least) (drop (suc place) arcs) ≡ true =
    all_where (nat_le least) (drop (suc place) arcs) (λ i in_drop.
    (let a = begins.least.least (suc place + i) (omega (arith, in_drop, all)) in
    rw (get_or-drop (suc place) arcs i 0) (grind (arith, nat_tests, a)))) in
    let before : list_all (nat_le least) (take place arcs) ≡ true =
    all_where (nat_le least) (take place arcs) (λ i in_take.
    (let in_place : i < place = omega (arith, in_take, few, l) in
    let a = begins.least.least i (omega (arith, in_place, l)) in
    rw (get_or-take place arcs i 0 in_place) (grind (arith, nat_tests, a)))) in
    rw (begins.is, drop_cons arcs place l) (
    rw (list_all-append (nat_le least) (drop (suc place) arcs) (take place arcs), behind, before)
    refl
    )

-- a round from its least arc on
pub least_round : (g : Numbered) (D V : ℕ → ℕ) (arcs turned : List ℕ) → IsRoundOf g D V arcs
    → BeginsLeast arcs turned → IsRoundOf g D V turned × (first_is_least turned ≡ true)
least_round g D V arcs turned round begins = (
  rw begins.is (turned_at g D V arcs begins.place round),
  begins_least arcs turned begins,
)

-- ---- slices of vectors

pub refilled : (n : ℕ) (ws xs : List ℕ) → length ws ≡ n → take n (ws ++ drop (length ws) xs) ≡ ws
refilled n ws xs is = rw (sym is) (take-append_seam ws (drop (length ws) xs))

pub rest_of : (xs : List ℕ) (place : ℕ) → take (length xs - place) (drop place xs) ≡ drop place xs
rest_of xs place = rw (sym (length-drop place xs)) (take-length (drop place xs))
