-- The laws of guards, each of the facts of the live items of one sort.
use Rattle.std.specs.Prelude.{◌≡◌, ◌↔◌, ◌≤◌, ℕ, ◌==◌, ◌&&◌, Bool, true, not, nat_le, List, [], ◌∷◌}
use Rattle.std.specs.Prelude.{length, count_by}
use Rattle.std.specs.List.{list_any, list_all}
use Rattle.base_items.specs.declared.items.Fact.{Fact}

-- there are at most this many
abbrev pub has_at_most : ℕ → List Fact → Bool
has_at_most limit facts = nat_le (length facts) limit

-- none goes from a node to itself
abbrev pub has_no_loop : List Fact → Bool
has_no_loop facts = list_all (λ fact. not (fact.from == fact.to)) facts

-- both facts have the same source and the same target
abbrev pub has_same_ends : Fact → Fact → Bool
has_same_ends fact other = fact.from == other.from && fact.to == other.to

-- no two have the same ends
abbrev pub is_simple : List Fact → Bool
is_simple [] = true
is_simple (fact ∷ facts) = not (list_any (has_same_ends fact) facts) && is_simple facts

-- how many of the facts are of arcs from the node
abbrev pub count_from : ℕ → List Fact → ℕ
count_from node facts = count_by (λ fact. fact.from == node) facts

-- at most this many go from any node
abbrev pub has_few_from_each : ℕ → List Fact → Bool
has_few_from_each limit facts = list_all (λ fact. nat_le (count_from fact.from facts) limit) facts

-- by numbers: no node has more arcs than this
abbrev pub FewFromEachNode : Type 0
FewFromEachNode = (limit : ℕ) (facts : List Fact)
    → has_few_from_each limit facts ≡ true ↔ ((node : ℕ) → count_from node facts ≤ limit)
