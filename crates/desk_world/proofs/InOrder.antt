-- A view has as many arcs in order, from one node after another, as in its list by source.
use Rattle.std.proofs.Common.{◌≡◌, ℕ, ◌+◌, Bool, true, false, cond, eqb, not, List, [], ◌∷◌}
use Rattle.std.proofs.Common.{length, length-append, filter, refl, ◌∙◌, arith}
use Rattle.std.specs.Prelude.{◌&&◌, ◌||◌}
use Rattle.std.specs.List.{flat_map, list_any}
use Rattle.std.proofs.lemmas.Bool.Decides.{nat_tests}
use Rattle.std.proofs.lemmas.List.{length-map}
use Rattle.plain_digraph.specs.Lists.{has}
use Rattle.plain_views.specs.Shown.{Shown, ShownArc, IsShown, once, has_ends, arcs_in_order}
use Rattle.view_numbers.specs.Listed.{facts_of, fact_shown}

-- the arcs of a list from a node, and from one node after another
abbrev from : List ShownArc → ℕ → List ShownArc
from arcs node = filter (λ arc. eqb arc.from node) arcs

abbrev from_all : List ShownArc → List ℕ → List ShownArc
from_all arcs nodes = flat_map (from arcs) nodes

-- how often a node stands in a list
abbrev times : ℕ → List ℕ → ℕ
times v nodes = length (filter (eqb v) nodes)

no_times : (v : ℕ) (nodes : List ℕ) → has nodes v ≡ false → times v nodes ≡ 0
no_times v [] none = refl
no_times v (n ∷ ns) none = grind (arith, nat_tests, no_times v ns)

one_time : (v : ℕ) (nodes : List ℕ) → once nodes ≡ true → has nodes v ≡ true → times v nodes ≡ 1
one_time v [] differ at = cc
one_time v (n ∷ ns) differ at = grind (arith, nat_tests, one_time v ns, no_times v ns)

nothing : (nodes : List ℕ) → length (from_all [] nodes) ≡ 0
nothing [] = refl
nothing (n ∷ ns) = nothing ns

-- one arc more comes once for each time that its source stands among the nodes
one_more : (arc : ShownArc) (arcs : List ShownArc) (nodes : List ℕ)
    → length (from_all (arc ∷ arcs) nodes) ≡ times arc.from nodes + length (from_all arcs nodes)
one_more arc arcs [] = refl
one_more arc arcs (n ∷ ns) =
    let rest = one_more arc arcs ns in
    let whole = length-append (from (arc ∷ arcs) n) (from_all (arc ∷ arcs) ns) in
    let less = length-append (from arcs n) (from_all arcs ns) in
    let here = by_test (eqb arc.from n) in
    omega (arith, rest, whole, less, here)
  where
    by_test : (b : Bool) → length (cond b (arc ∷ from arcs n) (from arcs n))
        + length (filter (eqb arc.from) ns)
        ≡ length (cond b (n ∷ filter (eqb arc.from) ns) (filter (eqb arc.from) ns)) + length (from arcs n)
    by_test true = omega (arith)
    by_test false = omega (arith)

as_many : (nodes : List ℕ) → once nodes ≡ true → (arcs : List ShownArc)
    → list_any (λ arc. not (has_ends nodes arc)) arcs ≡ false
    → length (from_all arcs nodes) ≡ length arcs
as_many nodes differ [] shown = nothing nodes
as_many nodes differ (arc ∷ arcs) shown =
    let ends = first_so (has nodes arc.from) (has nodes arc.to)
    (list_any (λ a. not (has_ends nodes a)) arcs) shown in
    let more = one_more arc arcs nodes in
    let once_there = one_time arc.from nodes differ ends.0 in
    let rest = as_many nodes differ arcs ends.1 in
    omega (arith, more, once_there, rest)
  where
    first_so : (b c d : Bool) → (not (b && c) || d) ≡ false → (b ≡ true) × (d ≡ false)
    first_so true true d is = (refl, is)
    first_so true false d is = cc
    first_so false c d is = cc

pub in_order : (p : Shown) → IsShown p → length (arcs_in_order p) ≡ length p.by_source
in_order p shown = as_many p.nodes shown.nodes_differ p.by_source shown.ends_shown

pub facts_in_order : (p : Shown) → IsShown p → length (facts_of p) ≡ length p.by_source
facts_in_order p shown = length-map (arcs_in_order p) fact_shown ∙ in_order p shown
