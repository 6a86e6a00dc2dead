-- The base shows a valid digraph.
use Rattle.std.proofs.Common.{◌≡◌, ℕ, Bool, true, false, refl, sym, ◌∙◌, ap, List, [], ◌∷◌, map}
use Rattle.std.proofs.Common.{Option, None, Some, IsPermutation, is_some, filter, arith}
use Rattle.std.specs.Prelude.{◌==◌, ◌||◌, ◌&&◌, not}
use Rattle.std.specs.Option.{option_map_or}
use Rattle.std.specs.FinMap as fin
use Rattle.std.specs.List.{list_any}
use Rattle.std.proofs.lemmas.List.Sorted.{list_any-IsPermutation}
use Rattle.plain_digraph.specs.Lists.{has, after}
use Rattle.plain_digraph.specs.Digraph.{Digraph}
use Rattle.plain_digraph.specs.Items.{ids, stamp_of, fact_of, arc_fact, source_of, target_of}
use Rattle.plain_digraph.specs.Items.{out_arcs, in_arcs}
use Rattle.plain_digraph.specs.Valid.{IsValid}
use Rattle.plain_digraph.specs.Laws.{StandsOnce}
use Rattle.plain_digraph.proofs.Keys.{keys-has}
use Rattle.plain_digraph.proofs.Shares.{live_once, shared_as}
use Rattle.base_items.specs.declared.limits.TheConstants.{MAX_ARCS}
use Rattle.base_items.specs.declared.items.Fact.{Fact}
use Rattle.base_items.specs.declared.items.ItemSort.{ItemSort}
use Rattle.base_items.specs.declared.items.ItemSort.TheVariants as sorts
use Rattle.std.proofs.Props.{props}
use Rattle.std.proofs.Math.Logic.{∥∥₁_elim}
use Rattle.std.specs.Prelude.{option_map, option_and_then}
use Rattle.plain_digraph.proofs.Live.{live_ids, fact_of-has, listed_below}
use Rattle.std.proofs.lemmas.Bool.Decides.{nat_tests}
use Rattle.plain_views.specs.BaseLaws.{BaseIsShown}
use Rattle.plain_views.specs.Shown as shown
use Rattle.plain_views.specs.Shown.{End, IsShown, AreBelow, base_shown, has_arc, end_in, ids_at}
use Rattle.plain_views.specs.Shown.{out_ids, in_ids, next_out, next_in, ShownArc, arc_ids}
use Rattle.plain_views.specs.Shown.{shown_arc, once, has_ends}
use Rattle.plain_views.proofs.Walks.{has-self}

or_right : (a b : Bool) → (a || b) ≡ false → b ≡ false
or_right true b e = absurd (no_true e)
  where
    no_true : true ≡ false → ⊥
    no_true e = cc
or_right false b e = e

or_later : (a b : Bool) → b ≡ true → (a || b) ≡ true
or_later true b e = refl
or_later false b e = e

-- where no id stands twice, the test says so
pub once_of : (xs : List ℕ) → StandsOnce xs → once xs ≡ true
once_of [] h = refl
once_of (x ∷ xs) h =
    ap (λ b. not b && once xs) (h [] xs x refl).1
    ∙ once_of xs (λ front back id e.
    let parts = h (x ∷ front) back id (ap (λ rest. x ∷ rest) e) in
    (or_right (x == id) (has front id) parts.0, parts.1))

-- the arcs of a digraph by their ids
pub ids_of_shown : (g : Digraph) (xs : List ℕ) → arc_ids (map (shown_arc g) xs) ≡ xs
ids_of_shown g [] = refl
ids_of_shown g (x ∷ xs) = ap (λ rest. x ∷ rest) (ids_of_shown g xs)

pub any-map : {X Y : Type 0} (f : X → Y) (test : Y → Bool) (xs : List X)
    → list_any test (map f xs) ≡ list_any (λ x. test (f x)) xs
any-map f test [] = refl
any-map f test (x ∷ xs) = ap (λ b. test (f x) || b) (any-map f test xs)

-- what holds of no listed id holds of no arc shown
none_shown : (g : Digraph) (test : ShownArc → Bool) (all : List ℕ)
    → ((id : ℕ) → has all id ≡ true → test (shown_arc g id) ≡ false)
    → (xs : List ℕ) → ((id : ℕ) → has xs id ≡ true → has all id ≡ true)
    → list_any test (map (shown_arc g) xs) ≡ false
none_shown g test all none [] part = refl
none_shown g test all none (x ∷ xs) part =
    (λ i. none x (part x (has-self x xs)) i || none_shown g test all none xs
    (λ id h. part id (or_later (x == id) (has xs id) h)) i)

-- both ends of an arc that has ends are live
ends_of : (g : Digraph) (id : ℕ) (o : Option (ℕ × ℕ)) → IsValid g → fin.get g.ends id ≡ o
    → is_some o ≡ true
    → (has (ids g.nodes) (option_map_or (λ e. e.0) o 0) ≡ true)
    × (has (ids g.nodes) (option_map_or (λ e. e.1) o 0) ≡ true)
ends_of g id None valid is there = absurd (never there)
  where
    never : false ≡ true → ⊥
    never e = cc
ends_of g id (Some ends) valid is there = valid.ends_live id ends.0 ends.1 is

pub base_is_shown : BaseIsShown
base_is_shown g valid =
    record {
      nodes_differ =
          once_of (ids g.nodes) (live_once (ids g.nodes) g.free_nodes g.used_nodes valid.node_ids);
      sources_differ = ap once (ids_of_shown g sources)
          ∙ once_of sources (once_as sources valid.sources_whole);
      targets_differ = ap once (ids_of_shown g targets)
          ∙ once_of targets (once_as targets valid.targets_whole);
      same_arcs = λ test. any-map (shown_arc g) test sources
          ∙ (alike (λ id. test (shown_arc g id)) ∙ sym (any-map (shown_arc g) test targets));
      ends_shown = none_shown g (λ arc. not (has_ends (ids g.nodes) arc)) sources
          (λ id listed. let both = ends id listed in rw (both.0, both.1)) sources (λ id h. h);
    }
  where
    sources : List ℕ
    sources = ids g.by_source

    targets : List ℕ
    targets = ids g.by_target

    in_keys : (xs : List ℕ) (test : ℕ → Bool) → IsPermutation xs (fin.keys g.ends)
        → list_any test xs ≡ list_any test (fin.keys g.ends)
    in_keys xs test whole = list_any-IsPermutation test xs (fin.keys g.ends) whole

    alike : (test : ℕ → Bool) → list_any test sources ≡ list_any test targets
    alike test = in_keys sources test valid.sources_whole
        ∙ sym (in_keys targets test valid.targets_whole)

    once_as : (xs : List ℕ) → IsPermutation xs (fin.keys g.ends) → StandsOnce xs
    once_as xs whole =
        live_once xs g.free_arcs g.used_arcs
        (shared_as xs (fin.keys g.ends) g.free_arcs g.used_arcs whole valid.arc_ids)

    ends : (id : ℕ) → has sources id ≡ true → (has (ids g.nodes) (source_of g id) ≡ true)
        × (has (ids g.nodes) (target_of g id) ≡ true)
    ends id listed =
        ends_of g id (fin.get g.ends id) valid refl
        (keys-has g.ends id
        ∙ (sym (in_keys sources (λ other. other == id) valid.sources_whole) ∙ listed))

-- ---- the base by the words of the digraph

pub base_has_arc : (g : Digraph) (id : ℕ) → IsValid g
    → has_arc (base_shown g) id ≡ is_some (fin.get g.ends id)
base_has_arc g id valid =
    ap (λ xs. has xs id) (ids_of_shown g (ids g.by_source))
    ∙ (list_any-IsPermutation (λ other. other == id) (ids g.by_source) (fin.keys g.ends)
    valid.sources_whole ∙ sym (keys-has g.ends id))

-- the end of a listed arc is its end in the digraph
end_listed : (g : Digraph) (end : End) (xs : List ℕ) (id : ℕ) → has xs id ≡ true
    → end_in end (map (shown_arc g) xs) id ≡ end (shown_arc g id)
end_listed g end [] id at = cc
end_listed g end (x ∷ xs) id at = grind (arith, nat_tests, end_listed g end xs id)

-- the arcs at a node are those that have it as their end
at_listed : (g : Digraph) (end : End) (test : ℕ → ℕ → Bool) (xs : List ℕ) (node : ℕ)
    → ((id : ℕ) → has xs id ≡ true → test node id ≡ (end (shown_arc g id) == node))
    → ids_at end (map (shown_arc g) xs) node ≡ filter (test node) xs
at_listed g end test [] node same = refl
at_listed g end test (x ∷ xs) node same =
    grind (
      arith,
      nat_tests,
      same x (has-self x xs),
      at_listed g end test xs node (λ id at. same id (or_later (x == id) (has xs id) at)),
    )

module _ (g : Digraph) (valid : IsValid g) where
  listed : (xs : List ℕ) → IsPermutation xs (fin.keys g.ends) → (id : ℕ)
      → has xs id ≡ is_some (fin.get g.ends id)
  listed xs whole id = list_any-IsPermutation (λ other. other == id) xs (fin.keys g.ends) whole
      ∙ sym (keys-has g.ends id)

  -- a test of an arc's end, where the arc has ends
  tested : (end : ℕ × ℕ → ℕ) (o : Option (ℕ × ℕ)) (node : ℕ) → is_some o ≡ true
      → option_map_or (λ ends. end ends == node) o false ≡ (option_map_or end o 0 == node)
  tested end None node there = cc
  tested end (Some ends) node there = refl

  pub base_out_ids : (node : ℕ) → out_ids (base_shown g) node ≡ out_arcs g node
  base_out_ids node =
      at_listed g (λ arc. arc.from)
      (λ node id. option_map_or (λ ends. ends.0 == node) (fin.get g.ends id) false)
      (ids g.by_source) node
      (λ id at. tested (λ ends. ends.0) (fin.get g.ends id) node
      (sym (listed (ids g.by_source) valid.sources_whole id) ∙ at))

  pub base_in_ids : (node : ℕ) → in_ids (base_shown g) node ≡ in_arcs g node
  base_in_ids node =
      at_listed g (λ arc. arc.to)
      (λ node id. option_map_or (λ ends. ends.1 == node) (fin.get g.ends id) false)
      (ids g.by_target) node
      (λ id at. tested (λ ends. ends.1) (fin.get g.ends id) node
      (sym (listed (ids g.by_target) valid.targets_whole id) ∙ at))

  pub base_source : (id : ℕ) → is_some (fin.get g.ends id) ≡ true
      → shown.source_of (base_shown g) id ≡ source_of g id
  base_source id live =
      end_listed g (λ arc. arc.from) (ids g.by_source) id
      (listed (ids g.by_source) valid.sources_whole id ∙ live)

  pub base_target : (id : ℕ) → is_some (fin.get g.ends id) ≡ true
      → shown.target_of (base_shown g) id ≡ target_of g id
  base_target id live =
      end_listed g (λ arc. arc.to) (ids g.by_target) id
      (listed (ids g.by_target) valid.targets_whole id ∙ live)

  pub base_next_out : (id : ℕ) → is_some (fin.get g.ends id) ≡ true
      → next_out (base_shown g) id ≡ after (out_arcs g (source_of g id)) id
  base_next_out id live = ap (λ node. after (out_ids (base_shown g) node) id) (base_source id live)
      ∙ ap (λ xs. after xs id) (base_out_ids (source_of g id))

  pub base_next_in : (id : ℕ) → is_some (fin.get g.ends id) ≡ true
      → next_in (base_shown g) id ≡ after (in_arcs g (target_of g id)) id
  base_next_in id live = ap (λ node. after (in_ids (base_shown g) node) id) (base_target id live)
      ∙ ap (λ xs. after xs id) (base_in_ids (target_of g id))

  pub base_below : AreBelow (base_shown g) MAX_ARCS
  base_below = record {
    nodes_below = λ node at. let l =
        listed_below g sorts.Node node valid at in omega (arith, l, valid.few_nodes);
    arcs_below = λ id at. let l =
        listed_below g sorts.Arc id valid
        (sym (keys-has g.ends id) ∙ (sym (base_has_arc g id valid) ∙ at)) in omega
        (arith, l, valid.few_arcs);
  }

-- all of it, which holds of a digraph that is merely known to be valid
pub record BaseFacts (g : Digraph) : Type 0 where
  pub is_shown : IsShown (base_shown g)
  pub below : AreBelow (base_shown g) MAX_ARCS
  pub told : (sort : ItemSort) (id : ℕ) → is_some (fact_of g sort id) ≡ has (live_ids g sort) id
  pub arc : (id : ℕ) → has_arc (base_shown g) id ≡ is_some (fin.get g.ends id)
  pub keys : (id : ℕ) → has (fin.keys g.ends) id ≡ is_some (fin.get g.ends id)
  pub outs : (node : ℕ) → out_ids (base_shown g) node ≡ out_arcs g node
  pub ins : (node : ℕ) → in_ids (base_shown g) node ≡ in_arcs g node
  pub source : (id : ℕ) → is_some (fin.get g.ends id) ≡ true
      → shown.source_of (base_shown g) id ≡ source_of g id
  pub target : (id : ℕ) → is_some (fin.get g.ends id) ≡ true
      → shown.target_of (base_shown g) id ≡ target_of g id
  pub after_out : (id : ℕ) → is_some (fin.get g.ends id) ≡ true
      → next_out (base_shown g) id ≡ after (out_arcs g (source_of g id)) id
  pub after_in : (id : ℕ) → is_some (fin.get g.ends id) ≡ true
      → next_in (base_shown g) id ≡ after (in_arcs g (target_of g id)) id

facts_prop : (g : Digraph) → IsProp (BaseFacts g)
facts_prop g = Prim.hlevel props

pub base_facts : (g : Digraph) → ∥ IsValid g ∥₁ → BaseFacts g
base_facts g known = ∥∥₁_elim known (facts_prop g) (λ valid. record {
  is_shown = base_is_shown g valid;
  below = base_below g valid;
  told = λ sort id. fact_of-has g sort id valid;
  arc = λ id. base_has_arc g id valid;
  keys = λ id. sym (keys-has g.ends id);
  outs = base_out_ids g valid;
  ins = base_in_ids g valid;
  source = base_source g valid;
  target = base_target g valid;
  after_out = base_next_out g valid;
  after_in = base_next_in g valid;
})

-- the ends in what is told of an arc
pub told_ends : (g : Digraph) (id : ℕ) (fact : Fact) → fact_of g sorts.Arc id ≡ Some fact
    → (fact.from ≡ source_of g id) × (fact.to ≡ target_of g id)
told_ends g id fact told =
    of (fin.get g.ends id) (stamp_of g.by_source id) (stamp_of g.by_target id) told
  where
    of : (o : Option (ℕ × ℕ)) (from_at to_at : Option ℕ)
        → option_and_then
        (λ ends. option_and_then (λ at. option_map (arc_fact id ends at) to_at) from_at) o
        ≡ Some fact
        → (fact.from ≡ option_map_or (λ ends. ends.0) o 0)
        × (fact.to ≡ option_map_or (λ ends. ends.1) o 0)
    of None from_at to_at told = cc
    of (Some ends) None to_at told = cc
    of (Some ends) (Some at) None told = cc
    of (Some ends) (Some at) (Some to_at) told =
        let same : arc_fact id ends at to_at ≡ fact = cc in
        (ap (λ f. f.from) (sym same), ap (λ f. f.to) (sym same))
