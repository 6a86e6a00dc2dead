-- Each adaptor shows a valid digraph, and what bounds its ids.
use Rattle.std.proofs.Common.{◌≡◌, ℕ, ◌<◌, Bool, true, false, ◌||◌, ◌&&◌, not, cond, List, [], ◌∷◌}
use Rattle.std.proofs.Common.{◌++◌, map, filter, ℤ, refl, sym, ◌∙◌, ap, arith}
use Rattle.std.specs.List.{list_any, flat_map}
use Rattle.std.proofs.lemmas.List.Folds.{list_any-append}
use Rattle.std.proofs.lemmas.Bool.Decides.{nat_tests}
use Rattle.plain_digraph.specs.Lists.{has}
use Rattle.plain_views.specs.Shown.{Shown, ShownArc, IsShown, arc_of, AreBelow, arc_ids, once}
use Rattle.plain_views.specs.Shown.{has_ends, has_arc}
use Rattle.plain_views.specs.Adaptors.{turned, reversed, is_kept, sub, is_even, half, twice, odd}
use Rattle.plain_views.specs.Adaptors.{forward, backward, undirected, has_room, id_has_room}
use Rattle.plain_views.specs.Adaptors.{residual, in_node, out_node, between, bind, split}
use Rattle.plain_views.proofs.Walks.{and_left, has-self, has-filter, once-filter}
use Rattle.plain_views.proofs.Base.{any-map}
use Rattle.plain_views.proofs.Sides.{arc_ids-append, arc_ids-map, arc_ids-filter, same_ids}
use Rattle.plain_views.proofs.Sides.{none-under, gives_sources, gives_targets}
use Rattle.plain_views.proofs.Doubled.{both, has-both, once-both, twice_not_odd, odd_not_twice}

-- ---- tests

pub any-filter : {X : Type 0} (k test : X → Bool) (xs : List X)
    → list_any test (filter k xs) ≡ list_any (λ x. k x && test x) xs
any-filter k test [] = refl
any-filter k test (x ∷ xs) = grind (arith, any-filter k test xs)

-- ---- reverse

pub arc_ids-turned : (arcs : List ShownArc) → arc_ids (map turned arcs) ≡ arc_ids arcs
arc_ids-turned [] = refl
arc_ids-turned (t ∷ ts) = ap (λ ids. t.id ∷ ids) (arc_ids-turned ts)

-- no arc has an end that isn't shown, the other way round
turned_ends : (p : Shown) → IsShown p
    → list_any (λ arc. not (has_ends p.nodes (turned arc))) p.by_target ≡ false
turned_ends p shown =
    sym (shown.same_arcs (λ arc. not (has_ends p.nodes (turned arc))))
    ∙ none-under (λ arc. not (has_ends p.nodes (turned arc))) (λ arc. not (has_ends p.nodes arc))
    p.by_source (λ arc h. grind (arith, h)) shown.ends_shown

pub reversed_is_shown : (p : Shown) → IsShown p → IsShown (reversed p)
reversed_is_shown p shown = record {
  nodes_differ = shown.nodes_differ;
  sources_differ = ap once (arc_ids-turned p.by_target) ∙ shown.targets_differ;
  targets_differ = ap once (arc_ids-turned p.by_source) ∙ shown.sources_differ;
  same_arcs = λ test. any-map turned test p.by_target
      ∙ (sym (shown.same_arcs (λ arc. test (turned arc))) ∙ sym (any-map turned test p.by_source));
  ends_shown =
      any-map turned (λ arc. not (has_ends p.nodes arc)) p.by_target
      ∙ turned_ends p shown;
}

pub reversed_has_arc : (p : Shown) → IsShown p → (id : ℕ) → has_arc (reversed p) id ≡ has_arc p id
reversed_has_arc p shown id = ap (λ ids. has ids id) (arc_ids-turned p.by_target)
    ∙ sym (same_ids p shown id)

pub reversed_below : (p : Shown) (bound : ℕ) → IsShown p → AreBelow p bound
    → AreBelow (reversed p) bound
reversed_below p bound shown below = record {
  nodes_below = below.nodes_below;
  arcs_below = λ id at. below.arcs_below id (sym (reversed_has_arc p shown id) ∙ at);
}

-- ---- some of the nodes and arcs: sub and residual

abbrev pub part : List ℕ → (ShownArc → Bool) → Shown → Shown
part nodes k p =
    record { nodes = nodes; by_source = filter k p.by_source; by_target = filter k p.by_target }

pub part_is_shown : (nodes : List ℕ) (k : ShownArc → Bool) (p : Shown) → IsShown p
    → once nodes ≡ true
    → ((arc : ShownArc) → k arc ≡ true → has_ends p.nodes arc ≡ true → has_ends nodes arc ≡ true)
    → IsShown (part nodes k p)
part_is_shown nodes k p shown differ ends = record {
  nodes_differ = differ;
  sources_differ = ap once (arc_ids-filter (arc_of p) k p.by_source (gives_sources p shown))
      ∙ once-filter (λ id. k (arc_of p id)) (arc_ids p.by_source) shown.sources_differ;
  targets_differ = ap once (arc_ids-filter (arc_of p) k p.by_target (gives_targets p shown))
      ∙ once-filter (λ id. k (arc_of p id)) (arc_ids p.by_target) shown.targets_differ;
  same_arcs = λ test. any-filter k test p.by_source
      ∙ (shown.same_arcs (λ arc. k arc && test arc) ∙ sym (any-filter k test p.by_target));
  ends_shown =
      any-filter k (λ arc. not (has_ends nodes arc)) p.by_source
      ∙ none-under (λ arc. k arc && not (has_ends nodes arc)) (λ arc. not (has_ends p.nodes arc))
      p.by_source (λ arc h. grind (arith, h, ends arc)) shown.ends_shown;
}

pub part_has_arc : (nodes : List ℕ) (k : ShownArc → Bool) (p : Shown) → IsShown p → (id : ℕ)
    → has_arc (part nodes k p) id ≡ (has_arc p id && k (arc_of p id))
part_has_arc nodes k p shown id =
    ap (λ ids. has ids id) (arc_ids-filter (arc_of p) k p.by_source (gives_sources p shown))
    ∙ has-filter (λ other. k (arc_of p other)) (arc_ids p.by_source) id

pub part_below : (nodes : List ℕ) (k : ShownArc → Bool) (p : Shown) (bound : ℕ) → IsShown p
    → ((node : ℕ) → has nodes node ≡ true → has p.nodes node ≡ true)
    → AreBelow p bound → AreBelow (part nodes k p) bound
part_below nodes k p bound shown of below = record {
  nodes_below = λ node at. below.nodes_below node (of node at);
  arcs_below = λ id at.
      below.arcs_below id
      (and_left (has_arc p id) (k (arc_of p id)) (sym (part_has_arc nodes k p shown id) ∙ at));
}

pub sub_is_shown : (keeps_node keeps_arc : ℕ → Bool) (p : Shown) → IsShown p
    → IsShown (sub keeps_node keeps_arc p)
sub_is_shown keeps_node keeps_arc p shown =
    part_is_shown (filter keeps_node p.nodes) (is_kept keeps_node keeps_arc) p shown
    (once-filter keeps_node p.nodes shown.nodes_differ)
    (λ arc k h. rw (has-filter keeps_node p.nodes arc.from, has-filter keeps_node p.nodes arc.to)
    (grind (arith, k, h)))

pub sub_below : (keeps_node keeps_arc : ℕ → Bool) (p : Shown) (bound : ℕ) → IsShown p
    → AreBelow p bound → AreBelow (sub keeps_node keeps_arc p) bound
sub_below keeps_node keeps_arc p bound shown =
    part_below (filter keeps_node p.nodes) (is_kept keeps_node keeps_arc) p bound shown
    (λ node at. and_left (has p.nodes node) (keeps_node node)
    (sym (has-filter keeps_node p.nodes node) ∙ at))

-- ---- undirect

-- the ids of two lists, one as they go and one the other way
pub undirected_ids : (xs ys : List ShownArc)
    → arc_ids (map forward xs ++ map backward ys) ≡ both (arc_ids xs) (arc_ids ys)
undirected_ids xs ys =
    arc_ids-append (map forward xs) (map backward ys)
    ∙ (λ i. arc_ids-map forward twice (λ _. refl) xs i ++ arc_ids-map backward odd (λ _. refl) ys i)

any-undirected : (test : ShownArc → Bool) (xs ys : List ShownArc)
    → list_any test (map forward xs ++ map backward ys)
    ≡ (list_any (λ arc. test (forward arc)) xs || list_any (λ arc. test (backward arc)) ys)
any-undirected test xs ys =
    list_any-append test (map forward xs) (map backward ys)
    ∙ (λ i. any-map forward test xs i || any-map backward test ys i)

pub undirected_is_shown : (p : Shown) → IsShown p → IsShown (undirected p)
undirected_is_shown p shown = record {
  nodes_differ = shown.nodes_differ;
  sources_differ = ap once (undirected_ids p.by_source p.by_target)
      ∙ once-both (arc_ids p.by_source) (arc_ids p.by_target) shown.sources_differ
      shown.targets_differ;
  targets_differ = ap once (undirected_ids p.by_target p.by_source)
      ∙ once-both (arc_ids p.by_target) (arc_ids p.by_source) shown.targets_differ
      shown.sources_differ;
  same_arcs = λ test.
      any-undirected test p.by_source p.by_target
      ∙ ((λ i. shown.same_arcs (λ arc. test (forward arc)) i || sym
      (shown.same_arcs (λ arc. test (backward arc))) i)
      ∙ sym (any-undirected test p.by_target p.by_source));
  ends_shown =
      any-undirected (λ arc. not (has_ends p.nodes arc)) p.by_source p.by_target
      ∙ (λ i. shown.ends_shown i || turned_ends p shown i);
}

pub undirected_has_arc : (p : Shown) → IsShown p → (id : ℕ)
    → has_arc (undirected p) id ≡ has_arc p (half id)
undirected_has_arc p shown id =
    ap (λ ids. has ids id) (undirected_ids p.by_source p.by_target)
    ∙ (has-both (arc_ids p.by_source) (arc_ids p.by_target) id
    ∙ (ap (cond (is_even id) (has_arc p (half id))) (sym (same_ids p shown (half id)))
    ∙ grind arith))

-- an id that comes of one below the bound
pub half_below : (id bound : ℕ) → half id < bound → id < twice bound
half_below id bound h = grind arith

pub undirected_below : (p : Shown) (bound : ℕ) → IsShown p → AreBelow p bound
    → AreBelow (undirected p) (twice bound)
undirected_below p bound shown below = record {
  nodes_below = λ node at. let l = below.nodes_below node at in omega (arith, l);
  arcs_below = λ id at.
      half_below id bound (below.arcs_below (half id) (sym (undirected_has_arc p shown id) ∙ at));
}

-- ---- residual

-- a residual is a sub of the arcs that go both ways
pub all-kept : {X : Type 0} (xs : List X) → filter (λ _. true) xs ≡ xs
all-kept [] = refl
all-kept (x ∷ xs) = ap (λ ys. x ∷ ys) (all-kept xs)

same_test : (cap flow : ℕ → ℤ) (arc : ShownArc)
    → is_kept (λ _. true) (id_has_room cap flow) arc ≡ has_room cap flow arc
same_test cap flow arc = grind arith

pub residual_as_sub : (cap flow : ℕ → ℤ) (p : Shown)
    → sub (λ _. true) (id_has_room cap flow) (undirected p) ≡ residual cap flow p
residual_as_sub cap flow p = λ i. record {
  nodes = all-kept p.nodes i;
  by_source = filter (λ arc. same_test cap flow arc i) (undirected p).by_source;
  by_target = filter (λ arc. same_test cap flow arc i) (undirected p).by_target;
}

pub residual_is_shown : (cap flow : ℕ → ℤ) (p : Shown) → IsShown p → IsShown (residual cap flow p)
residual_is_shown cap flow p shown =
    part_is_shown p.nodes (has_room cap flow) (undirected p) (undirected_is_shown p shown)
    shown.nodes_differ (λ arc k h. h)

pub residual_below : (cap flow : ℕ → ℤ) (p : Shown) (bound : ℕ) → IsShown p → AreBelow p bound
    → AreBelow (residual cap flow p) (twice bound)
residual_below cap flow p bound shown below =
    part_below p.nodes (has_room cap flow) (undirected p) (twice bound)
    (undirected_is_shown p shown) (λ node at. at) (undirected_below p bound shown below)

-- ---- split

-- both nodes that a node becomes, one behind the other
abbrev pub parts : ℕ → List ℕ
parts node = in_node node ∷ out_node node ∷ []

pub has-parts : (nodes : List ℕ) (id : ℕ) → has (flat_map parts nodes) id ≡ has nodes (half id)
has-parts [] id = refl
has-parts (n ∷ nodes) id = grind (arith, nat_tests, has-parts nodes id)

once-parts : (nodes : List ℕ) → once nodes ≡ true → once (flat_map parts nodes) ≡ true
once-parts [] o = refl
once-parts (n ∷ nodes) o =
    let evens = has-parts nodes (twice n) in
    let odds = has-parts nodes (odd n) in
    let e : half (twice n) ≡ n = grind arith in
    let f : half (odd n) ≡ n = grind arith in
    let apart = odd_not_twice n n in
    let apart' = twice_not_odd n n in
    grind (arith, nat_tests, evens, odds, e, f, once-parts nodes)

pub bind_ids : (nodes : List ℕ) → arc_ids (map bind nodes) ≡ map odd nodes
bind_ids [] = refl
bind_ids (n ∷ nodes) = ap (λ ids. odd n ∷ ids) (bind_ids nodes)

pub split_ids : (arcs : List ShownArc) (nodes : List ℕ)
    → arc_ids (map between arcs ++ map bind nodes) ≡ both (arc_ids arcs) nodes
split_ids arcs nodes =
    arc_ids-append (map between arcs) (map bind nodes)
    ∙ (λ i. arc_ids-map between twice (λ _. refl) arcs i ++ bind_ids nodes i)

any-split : (test : ShownArc → Bool) (arcs : List ShownArc) (nodes : List ℕ)
    → list_any test (map between arcs ++ map bind nodes)
    ≡ (list_any (λ arc. test (between arc)) arcs || list_any (λ node. test (bind node)) nodes)
any-split test arcs nodes =
    list_any-append test (map between arcs) (map bind nodes)
    ∙ (λ i. any-map between test arcs i || any-map bind test nodes i)

-- what holds of no node of a list
none-of : (test : ℕ → Bool) (all : List ℕ) → ((node : ℕ) → has all node ≡ true → test node ≡ false)
    → (nodes : List ℕ)
    → ((node : ℕ) → has nodes node ≡ true → has all node ≡ true) → list_any test nodes ≡ false
none-of test all none [] of = refl
none-of test all none (n ∷ nodes) of =
    let here = none n (of n (has-self n nodes)) in
    let later = none-of test all none nodes (λ node at. of node (grind (arith, at))) in
    grind (arith, here, later)

pub half_twice : (id : ℕ) → half (twice id) ≡ id
half_twice id = grind arith

pub half_odd : (id : ℕ) → half (odd id) ≡ id
half_odd id = grind arith

pub split_is_shown : (p : Shown) → IsShown p → IsShown (split p)
split_is_shown p shown = record {
  nodes_differ = once-parts p.nodes shown.nodes_differ;
  sources_differ = ap once (split_ids p.by_source p.nodes)
      ∙ once-both (arc_ids p.by_source) p.nodes shown.sources_differ shown.nodes_differ;
  targets_differ = ap once (split_ids p.by_target p.nodes)
      ∙ once-both (arc_ids p.by_target) p.nodes shown.targets_differ shown.nodes_differ;
  same_arcs = λ test.
      any-split test p.by_source p.nodes
      ∙ (ap (λ b. b || list_any (λ node. test (bind node)) p.nodes)
      (shown.same_arcs (λ arc. test (between arc)))
      ∙ sym (any-split test p.by_target p.nodes));
  ends_shown =
      any-split (λ arc. not (has_ends (split p).nodes arc)) p.by_source p.nodes
      ∙ (λ i. none-under (λ arc. not (has_ends (split p).nodes (between arc)))
      (λ arc. not (has_ends p.nodes arc)) p.by_source
      (λ arc h. rw (
        has-parts p.nodes (odd arc.from),
        has-parts p.nodes (twice arc.to),
        half_odd arc.from,
        half_twice arc.to,
      ) h) shown.ends_shown i
      || none-of (λ node. not (has_ends (split p).nodes (bind node))) p.nodes
      (λ node at. rw (
        has-parts p.nodes (odd node),
        has-parts p.nodes (twice node),
        half_odd node,
        half_twice node,
        at,
      )) p.nodes (λ node at. at) i);
}

pub split_has_arc : (p : Shown) (id : ℕ)
    → has_arc (split p) id ≡ cond (is_even id) (has_arc p (half id)) (has p.nodes (half id))
split_has_arc p id = ap (λ ids. has ids id) (split_ids p.by_source p.nodes)
    ∙ has-both (arc_ids p.by_source) p.nodes id

pub split_below : (p : Shown) (bound : ℕ) → AreBelow p bound → AreBelow (split p) (twice bound)
split_below p bound below = record {
  nodes_below = λ node at.
      half_below node bound (below.nodes_below (half node) (sym (has-parts p.nodes node) ∙ at));
  arcs_below = λ id at.
      half_below id bound (of id (is_even id) refl (sym (split_has_arc p id) ∙ at));
}
  where
    of : (id : ℕ) (b : Bool) → is_even id ≡ b
        → cond (is_even id) (has_arc p (half id)) (has p.nodes (half id)) ≡ true → half id < bound
    of id true e at =
        below.arcs_below (half id)
        (sym (ap (λ b. cond b (has_arc p (half id)) (has p.nodes (half id))) e) ∙ at)
    of id false e at =
        below.nodes_below (half id)
        (sym (ap (λ b. cond b (has_arc p (half id)) (has p.nodes (half id))) e) ∙ at)

pub residual_arc_below : (cap flow : ℕ → ℤ) (p : Shown) → IsShown p → (id : ℕ)
    → has_arc (residual cap flow p) id ≡ true → has_arc p (half id) ≡ true
residual_arc_below cap flow p shown id at =
    sym (undirected_has_arc p shown id)
    ∙ and_left (has_arc (undirected p) id) (has_room cap flow (arc_of (undirected p) id))
    (sym (part_has_arc p.nodes (has_room cap flow) (undirected p) (undirected_is_shown p shown) id)
    ∙ at)
