-- The top of a queue has the least key.
use Rattle.std.proofs.Common.{◌≡◌, ℕ, ◌≤◌, false, List, [], ◌∷◌, All, arith}
use Rattle.std.specs.BinaryHeap.{IsUpperBound}
use Rattle.std.specs.Ordering.{nat_cmp, ordering_then, is_lt}
use Rattle.std.specs.declared.cmp.Ordering.{Ordering}
use Rattle.std.specs.declared.cmp.Reverse.{Reverse}
use Rattle.std.proofs.lemmas.Bool.Decides.{nat_tests}
use Rattle.std.proofs.lemmas.List.Elements.{All-nil, All-cons}
use Rattle.path_search.specs.Queue.{entries_of}

-- pairs in order by their keys, turned
abbrev pub turned_cmp : Reverse (ℕ × ℕ) → Reverse (ℕ × ℕ) → Ordering
turned_cmp x y = ordering_then (nat_cmp y.0.0 x.0.0) (nat_cmp y.0.1 x.0.1)

no_less : (a b c d : ℕ) → is_lt (ordering_then (nat_cmp b a) (nat_cmp d c)) ≡ false → a ≤ b
no_less a b c d h = grind (arith, nat_tests)

-- where the top is no less than each entry, its key is at most theirs
pub least_key : (x : Reverse (ℕ × ℕ)) (ys : List (Reverse (ℕ × ℕ))) → IsUpperBound turned_cmp x ys
    → All (λ y. x.0.0 ≤ y.0) (entries_of ys)
least_key x [] h = All-nil (λ y. x.0.0 ≤ y.0)
least_key x (y ∷ ys) h =
    All-cons (λ z. x.0.0 ≤ z.0) y.0 (entries_of ys) (no_less x.0.0 y.0.0 x.0.1 y.0.1 h.0)
    (least_key x ys h.1)
