-- Items can be erased in turn.
use Rattle.std.proofs.Common.{◌≡◌, ◌≤◌, ℕ, true, false, refl, sym, ◌∙◌, ap, List, [], ◌∷◌}
use Rattle.std.proofs.Common.{◌++◌, map, Bool, not, filter, is_some, arith}
use Rattle.std.specs.Prelude.{◌==◌}
use Rattle.std.specs.List.{range_with_len}
use Rattle.std.proofs.lemmas.Bool.{eq-eqb, or_left, or_parts, true≢false}
use Rattle.base_items.specs.declared.items.ItemSort.{ItemSort}
use Rattle.base_items.specs.declared.items.ItemSort.TheVariants.{Node, Arc}
use Rattle.plain_digraph.specs.Lists.{has, AllOf}
use Rattle.plain_digraph.specs.Digraph.{Digraph}
use Rattle.plain_digraph.specs.Items.{IsLive, fact_of, used_of, rising, out_arcs, in_arcs}
use Rattle.plain_digraph.specs.Steps.{erase_arc, erase_node}
use Rattle.plain_digraph.specs.PlainSteps.{EraseArc, EraseNode, after_steps}
use Rattle.plain_digraph.specs.Copies.{Copy, added, ids_in}
use Rattle.plain_digraph.specs.Alterations.{unrolled, node_and_arcs}
use Rattle.plain_digraph.specs.Valid as digraph
use Rattle.plain_digraph.specs.ValidLaws.{HasNoArc}
use Rattle.plain_digraph.specs.Laws.{StandsOnce}
use Rattle.plain_digraph.proofs.Changes.{valid_without_arc}
use Rattle.plain_digraph.proofs.Facts.{named_ids}
use Rattle.plain_digraph.proofs.Filters.{filter_has, filter_once, tally-filter}
use Rattle.plain_digraph.proofs.Live.{fact_of-has, listed_live}
use Rattle.plain_digraph.proofs.Orders.{out_arc_own, in_arc_own}
use Rattle.plain_digraph.proofs.Rows.{fact_of-id}
use Rattle.plain_digraph.proofs.StepLiving.{erased_arc_leaves, erased_node_leaves}
use Rattle.plain_digraph.proofs.StepOrders.{erased_from_front, empty_stays}
use Rattle.plain_digraph.proofs.Tallies.{copies, range_once}
use Rattle.plain_digraph.proofs.Walks.{once_head, once_tail}
use Rattle.plain_world.proofs.StepsKept.{CanSteps, can_behind, valid_throughout, IsSure}

-- ---- lists

pub all_weaker : {X : Type 0} (P Q : X → Type 0) → ((x : X) → P x → Q x) → (xs : List X)
    → AllOf P xs → AllOf Q xs
all_weaker P Q weaker [] all = tt
all_weaker P Q weaker (x ∷ xs) all = (weaker x all.0, all_weaker P Q weaker xs all.1)

pub all_behind : {X : Type 0} (P : X → Type 0) (front back : List X) → AllOf P front
    → AllOf P back → AllOf P (front ++ back)
all_behind P [] back all more = more
all_behind P (x ∷ front) back all more = (all.0, all_behind P front back all.1 more)

-- no id stands twice
abbrev pub Once : List ℕ → Type 0
Once [] = Unit {0}
Once (x ∷ xs) = (has xs x ≡ false) × Once xs

once_of : (xs : List ℕ) → StandsOnce xs → Once xs
once_of [] once = tt
once_of (x ∷ xs) once = (once_head x xs once, once_of xs (once_tail x xs once))

pub sure_arcs : (arcs : List ℕ) → AllOf IsSure (map EraseArc arcs)
sure_arcs [] = tt
sure_arcs (arc ∷ arcs) = (refl, sure_arcs arcs)

pub sure_nodes : (nodes : List ℕ) → AllOf IsSure (map EraseNode nodes)
sure_nodes [] = tt
sure_nodes (node ∷ nodes) = (refl, sure_nodes nodes)

-- ---- a node with its arcs

own_first : (arc : ℕ) (xs arcs : List ℕ) → xs ≡ arc ∷ arcs → has xs arc ≡ true
own_first arc xs arcs are =
    ap (λ ys. has ys arc) are ∙ or_left (arc == arc) (has arcs arc) (eq-eqb arc arc refl)

out_can_go : (arcs : List ℕ) (g : Digraph) (node : ℕ) → digraph.IsValid g
    → out_arcs g node ≡ arcs
    → CanSteps g (map EraseArc arcs) × (out_arcs (after_steps g (map EraseArc arcs)) node ≡ [])
out_can_go [] g node valid are = (tt, are)
out_can_go (arc ∷ arcs) g node valid are =
    let live = (out_arc_own g node arc (own_first arc (out_arcs g node) arcs are)).0 in
    let rest = out_can_go arcs (erase_arc g arc) node (valid_without_arc g arc valid live)
    ((erased_from_front g node arc arcs valid).0 are) in
    ((live, rest.0), rest.1)

in_can_go : (arcs : List ℕ) (g : Digraph) (node : ℕ) → digraph.IsValid g
    → out_arcs g node ≡ [] → in_arcs g node ≡ arcs
    → CanSteps g (map EraseArc arcs) × HasNoArc (after_steps g (map EraseArc arcs)) node
in_can_go [] g node valid none are = (tt, (none, are))
in_can_go (arc ∷ arcs) g node valid none are =
    let live = (in_arc_own g node arc (own_first arc (in_arcs g node) arcs are)).0 in
    let rest = in_can_go arcs (erase_arc g arc) node (valid_without_arc g arc valid live)
    ((empty_stays g node arc).0 none) ((erased_from_front g node arc arcs valid).1 are) in
    ((live, rest.0), rest.1)

node_left : (arcs : List ℕ) (g : Digraph) (node : ℕ) → IsLive g Node node
    → IsLive (after_steps g (map EraseArc arcs)) Node node
node_left [] g node live = live
node_left (arc ∷ arcs) g node live = node_left arcs (erase_arc g arc) node live

pub node_can_go : (g : Digraph) (node : ℕ) → digraph.IsValid g → IsLive g Node node
    → CanSteps g (unrolled g (node_and_arcs node))
node_can_go g node valid live =
    let out = map EraseArc (out_arcs g node) in
    let g1 = after_steps g out in
    let into = map EraseArc (in_arcs g1 node) in
    let last = EraseNode node ∷ [] in
    let first = out_can_go (out_arcs g node) g node valid refl in
    let valid1 = valid_throughout g out valid first.0 in
    let second = in_can_go (in_arcs g1 node) g1 node valid1 first.1 refl in
    let live2 = node_left (in_arcs g1 node) g1 node (node_left (out_arcs g node) g node live) in
    can_behind g out (into ++ last) first.0
    (can_behind g1 into last second.0 ((live2, second.1), tt))

pub node_goes_surely : (g : Digraph) (node : ℕ) → AllOf IsSure (unrolled g (node_and_arcs node))
node_goes_surely g node =
    let out = map EraseArc (out_arcs g node) in
    let into = map EraseArc (in_arcs (after_steps g out) node) in
    let last = EraseNode node ∷ [] in
    all_behind IsSure out (into ++ last) (sure_arcs (out_arcs g node))
    (all_behind IsSure into last (sure_arcs (in_arcs (after_steps g out) node)) (refl, tt))

-- ---- some arcs, and some nodes without arcs

differs : (x id : ℕ) → (x == id) ≡ false → x ≡ id → ⊥
differs x id apart same = true≢false (sym (eq-eqb x id same) ∙ apart)

arcs_stay : (arcs : List ℕ) (g : Digraph) (arc : ℕ) → has arcs arc ≡ false
    → AllOf (IsLive g Arc) arcs → AllOf (IsLive (erase_arc g arc) Arc) arcs
arcs_stay [] g arc lacks live = tt
arcs_stay (x ∷ arcs) g arc lacks live =
    let parts = or_parts (x == arc) (has arcs arc) lacks in (
      (erased_arc_leaves g arc x).1 (differs x arc parts.0) live.0,
      arcs_stay arcs g arc parts.1 live.1,
    )

pub arcs_can_go : (arcs : List ℕ) (g : Digraph) → Once arcs → AllOf (IsLive g Arc) arcs
    → CanSteps g (map EraseArc arcs)
arcs_can_go [] g once live = tt
arcs_can_go (arc ∷ arcs) g once live = (
  live.0,
  arcs_can_go arcs (erase_arc g arc) once.1 (arcs_stay arcs g arc once.0 live.1),
)

abbrev pub IsBare : Digraph → ℕ → Type 0
IsBare g node = IsLive g Node node × HasNoArc g node

nodes_stay : (nodes : List ℕ) (g : Digraph) (node : ℕ) → has nodes node ≡ false
    → AllOf (IsBare g) nodes → AllOf (IsBare (erase_node g node)) nodes
nodes_stay [] g node lacks bare = tt
nodes_stay (x ∷ nodes) g node lacks bare =
    let parts = or_parts (x == node) (has nodes node) lacks in (
      ((erased_node_leaves g node x).1 (differs x node parts.0) bare.0.0, bare.0.1),
      nodes_stay nodes g node parts.1 bare.1,
    )

pub nodes_can_go : (nodes : List ℕ) (g : Digraph) → Once nodes → AllOf (IsBare g) nodes
    → CanSteps g (map EraseNode nodes)
nodes_can_go [] g once bare = tt
nodes_can_go (node ∷ nodes) g once bare = (
  bare.0,
  nodes_can_go nodes (erase_node g node) once.1 (nodes_stay nodes g node once.0 bare.1),
)

-- ---- the added items

rising_told : (g : Digraph) (sort : ItemSort) (id : ℕ) → has (rising g sort) id ≡ true
    → is_some (fact_of g sort id) ≡ true
rising_told g sort id at =
    let range = range_with_len 0 (used_of g sort) in
    (filter_has (λ x. is_some (fact_of g sort x)) range id
    (ap (λ xs. has xs id) (sym (named_ids (fact_of g sort) (fact_of-id g sort) range)) ∙ at)).1

rising_few : (g : Digraph) (sort : ItemSort) (id : ℕ) → copies (rising g sort) id ≤ 1
rising_few g sort id =
    let range = range_with_len 0 (used_of g sort) in
    let told : ℕ → Bool = λ x. is_some (fact_of g sort x) in
    let same : copies (rising g sort) id ≡ copies (filter told range) id =
    ap (λ xs. copies xs id) (named_ids (fact_of g sort) (fact_of-id g sort) range) in
    omega (
      arith,
      same,
      tally-filter (λ x. x == id) told range,
      range_once 0 (used_of g sort) id,
    )

pub added_once : (copy : Copy) (g : Digraph) (sort : ItemSort) → Once (added copy g sort)
added_once copy g sort =
    once_of (added copy g sort)
    (filter_once (λ id. not (has (ids_in copy sort) id)) (rising g sort) (rising_few g sort))

pub added_live : (copy : Copy) (g : Digraph) (sort : ItemSort) (id : ℕ) → digraph.IsValid g
    → has (added copy g sort) id ≡ true
    → IsLive g sort id × (not (has (ids_in copy sort) id) ≡ true)
added_live copy g sort id valid at =
    let parts = filter_has (λ x. not (has (ids_in copy sort) x)) (rising g sort) id at in (
      listed_live g sort id
          (sym (fact_of-has g sort id valid) ∙ rising_told g sort id parts.0),
      parts.1,
    )
