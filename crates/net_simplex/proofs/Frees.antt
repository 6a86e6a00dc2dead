-- The endless cycle has no added arc, and may begin at the least of its arcs.
use Rattle.std.proofs.Common.{◌≡◌, ◌⊎◌, inl, inr, ℕ, ◌+◌, ◌-◌, ◌*◌, ◌<◌, ◌≤◌, ◌^◌}
use Rattle.std.proofs.Common.{true, ℤ, pos, neg_ℤ, ◌+ℤ◌, ◌<ℤ◌, ◌≤ℤ◌, All, List}
use Rattle.std.proofs.Common.{[]}
use Rattle.std.proofs.Common.{◌∷◌, ◌++◌, length, take, drop, sym, ◌∙◌, ap, subst, arith}
use Rattle.std.specs.List.{AllByRecursion}
use Rattle.std.proofs.lemmas.Int.{ints}
use Rattle.std.proofs.lemmas.Bool.Decides.{nat_tests}
use Rattle.std.proofs.lemmas.List.{take-append-drop, length-append}
use Rattle.std.proofs.lemmas.List.Elements.{All-from_recursion}
use Rattle.std.proofs.lemmas.List.Sorted.{All-permutation, IsPermutation-append_comm}
use Rattle.plain_certificates.proofs.Walks.{round_turned, along_turned, walk_starts}
use Rattle.plain_certificates.specs.Numbered.{Numbered}
use Rattle.plain_certificates.specs.Walks.{IsWalk, along, Differ, first_is_least}
use Rattle.pivot_flow.specs.Tree.{Task}
use Rattle.net_simplex.proofs.Rounds.{IsEndlessRound}
use Rattle.pace_search.proofs.Rounded.{begins_least, differ_moved}
use Rattle.pace_search.specs.Turns.{BeginsLeast}
use Rattle.task_bounds.specs.Answers.{IsFree}
use Rattle.net_simplex.specs.Network.{IsRooted, IsWeighed}

-- what is known of each arc of the cycle, in the network and in the digraph
abbrev IsRoomy : Task → ℕ → Type 0
IsRoomy t k = (k < t.net.arcs) × (2 ^ 61 ≤ t.cap k)

abbrev IsFreeArc : Numbered → Task → ℕ → Type 0
IsFreeArc g t k = (k < g.arcs) × (2 ^ 61 ≤ t.cap k)

module _ (g : Numbered) (t : Task) (c : ℕ → ℤ) (rooted : IsRooted g t) (w : IsWeighed g c) where
  -- an arc is one of the digraph, or costs much
  inner_or_rim : (k : ℕ) → k < t.net.arcs → (k < g.arcs) ⊎ (c k ≡ pos (2 ^ 57))
  inner_or_rim k l = elim (below k g.arcs) [
    | inl lt ↦ inl lt
    | inr ge ↦
        (let all = rooted.arcs in
        let is : k ≡ g.arcs + (k - g.arcs) = omega (arith, ge) in
        inr (ap c is ∙ w.rim (k - g.arcs) (omega (arith, all, l, ge))))
  ]
    where
      below : (j m : ℕ) → (j < m) ⊎ (m ≤ j)
      below j m = grind (arith, nat_tests)

  each_low : (k : ℕ) → k < t.net.arcs → neg_ℤ (pos (2 ^ 36)) ≤ℤ c k
  each_low k l = elim (inner_or_rim k l) [
    | inl below ↦ w.least k below
    | inr is ↦ omega (arith, ints, is)
  ]

  along_low : (xs : List ℕ) → AllByRecursion (IsRoomy t) xs
      → pos 0 ≤ℤ (along c xs +ℤ pos (2 ^ 36 * length xs))
  along_low [] all = omega (arith, ints)
  along_low (k ∷ xs) all =
      let rest = along_low xs all.1 in
      let here = each_low k all.0.0 in
      omega (arith, ints, rest, here)

  -- a list with an added arc costs much
  inner_or_dear : (xs : List ℕ) → AllByRecursion (IsRoomy t) xs
      → AllByRecursion (IsFreeArc g t) xs
      ⊎ (pos (2 ^ 57 + 2 ^ 36) ≤ℤ (along c xs +ℤ pos (2 ^ 36 * length xs)))
  inner_or_dear [] all = inl tt
  inner_or_dear (k ∷ xs) all = elim (inner_or_rim k all.0.0) [
    | inl below ↦
        elim (inner_or_dear xs all.1) [
          | inl rest ↦ inl ((below, all.0.1), rest)
          | inr dear ↦
              (let here = each_low k all.0.0 in inr (omega (arith, ints, dear, here)))
        ]
    | inr is ↦ (let rest = along_low xs all.1 in inr (omega (arith, ints, is, rest)))
  ]

  all_inner : (n : ℕ) (xs : List ℕ) → n ≤ 2 ^ 20 → length xs ≤ n + n + 1 → along c xs <ℤ pos 0
      → AllByRecursion (IsRoomy t) xs → AllByRecursion (IsFreeArc g t) xs
  all_inner n xs small few negative all = elim (inner_or_dear xs all) [
    | inl inner ↦ inner
    | inr dear ↦ absurd (omega (arith, ints, small, few, negative, dear))
  ]

  walk_in : (xs : List ℕ) (u v : ℕ) → AllByRecursion (IsFreeArc g t) xs → IsWalk t.net u xs v
      → IsWalk g u xs v
  walk_in [] u v all walk = walk
  walk_in (k ∷ xs) u v all walk =
      let from = rooted.from k all.0.0 in
      let to = rooted.to k all.0.0 in (
        all.0.0,
        sym from ∙ walk.1,
        walk_in xs (g.to k) v all.1 (subst (λ x. IsWalk t.net x xs v) to walk.2),
      )

  -- where no cost is below 0, no cycle is
  along_high : ((k : ℕ) → k < t.net.arcs → pos 0 ≤ℤ c k) → (xs : List ℕ)
      → AllByRecursion (IsRoomy t) xs → pos 0 ≤ℤ along c xs
  along_high high [] all = omega (arith, ints)
  along_high high (k ∷ xs) all =
      let rest = along_high high xs all.1 in
      let here = high k all.0.0 in
      omega (arith, ints, rest, here)

  pub none_endless : (v n : ℕ) (xs : List ℕ) → ((k : ℕ) → k < g.arcs → pos 0 ≤ℤ c k)
      → IsEndlessRound t c v n (2 ^ 61) xs → ⊥
  none_endless v n xs high round =
      let all = along_high (λ k l. elim (inner_or_rim k l) [
        | inl below ↦ high k below
        | inr is ↦ omega (arith, ints, is)
      ]) xs round.each in
      let negative = round.negative in
      absurd (omega (arith, ints, all, negative))

-- ---- a round in the digraph

record IsClosed (g : Numbered) (P : ℕ → Type 0) (c : ℕ → ℤ) (arcs : List ℕ) : Type 0 where
  some : 0 < length arcs
  differ : Differ arcs
  node : ℕ
  walk : IsWalk g node arcs node
  each : All P arcs
  negative : along c arcs <ℤ pos 0

-- it may begin at any of its places
turned : (g : Numbered) (P : ℕ → Type 0) (c : ℕ → ℤ) (xs ys : List ℕ)
    → IsClosed g P c (xs ++ ys) → IsClosed g P c (ys ++ xs)
turned g P c xs ys round =
    let moved = round_turned g round.node xs ys round.walk in
    record {
      some =
          (let a = round.some in
          let b = length-append xs ys in
          let d = length-append ys xs in
          omega (arith, a, b, d));
      differ = differ_moved (xs ++ ys) (ys ++ xs) (IsPermutation-append_comm xs ys) round.differ;
      node = moved.0;
      walk = moved.1;
      each = All-permutation P (xs ++ ys) (ys ++ xs) (IsPermutation-append_comm xs ys) round.each;
      negative =
          (let a = round.negative in
          let b = along_turned c xs ys in
          omega (arith, ints, a, b));
    }

cycle_of : (g : Numbered) (t : Task) (c : ℕ → ℤ) (arcs : List ℕ)
    → IsClosed g (IsFreeArc g t) c arcs → first_is_least arcs ≡ true → IsFree g t.cap c arcs
cycle_of g t c arcs round least = record {
  is_cycle = record {
    nonempty = round.some;
    differ = round.differ;
    closed =
        (let is = walk_starts g round.node round.node arcs round.some round.walk in
        subst (λ u. IsWalk g u arcs u) (sym is) round.walk);
    least_first = least;
  };
  roomy = round.each;
  negative = round.negative;
}

-- the endless cycle from its least arc on
pub endless_is_free : (g : Numbered) (t : Task) (c : ℕ → ℤ) (top n : ℕ) (arcs turned : List ℕ)
    → IsRooted g t → IsWeighed g c → n ≤ 2 ^ 20 → IsEndlessRound t c top n (2 ^ 61) arcs
    → BeginsLeast arcs turned → IsFree g t.cap c turned
endless_is_free g t c top n arcs turned_arcs rooted w small round begins =
    let place = begins.place in
    let inner = all_inner g t c rooted w n arcs small round.few round.negative round.each in
    let closed : IsClosed g (IsFreeArc g t) c arcs = record {
      some = round.some;
      differ = round.differ;
      node = top;
      walk = walk_in g t c rooted w arcs top top inner round.walk;
      each = All-from_recursion (IsFreeArc g t) arcs inner;
      negative = round.negative;
    } in
    let parts = turned g (IsFreeArc g t) c (take place arcs) (drop place arcs)
    (rw (take-append-drop place arcs) closed) in
    cycle_of g t c turned_arcs (rw begins.is parts) (begins_least arcs turned_arcs begins)
