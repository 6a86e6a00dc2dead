-- The arcs from one node after another are gathered.
use Rattle.std.proofs.Common.{◌≡◌, ℕ, ◌+◌, ◌<◌, ◌≤◌, Bool, true, false, cond, eqb, List, []}
use Rattle.std.proofs.Common.{◌∷◌, ◌++◌, length, get_or, take, drop, map, filter, Some}
use Rattle.std.proofs.Common.{None, append_assoc, length-append, refl, sym, ◌∙◌, ap, arith}
use Rattle.std.specs.List.{flat_map}
use Rattle.std.proofs.lemmas.List.{append-nil, map-append, length-map, take-append-drop}
use Rattle.std.proofs.lemmas.Grind.{flat_map-append, take_at_read}
use Rattle.base_items.specs.declared.items.Fact.{Fact}
use Rattle.plain_digraph.specs.Lists.{has, first, after, ahead}
use Rattle.plain_views.specs.Shown.{Shown, ShownArc, IsShown, arc_ids, once, source}
use Rattle.plain_views.specs.Shown.{arcs_from, arcs_in_order, arc_of, out_ids, source_of, has_arc}
use Rattle.plain_views.proofs.Walks.{has-first, has-after, ahead-first}
use Rattle.plain_views.proofs.Sides.{Gives, once-ids_at, has-ids_at, end_at, gives_sources}
use Rattle.view_numbers.specs.Listed.{fact_shown, fact_at, IsGathering}
use Rattle.view_numbers.proofs.Walking.{ahead_is}

module _ (p : Shown) (shown : IsShown p) where
  -- the arcs of a part of the list are those of their ids
  pub given_back : (arcs : List ShownArc) → Gives (arc_of p) arcs
      → map fact_shown arcs ≡ map (fact_at p) (arc_ids arcs)
  given_back [] g = refl
  given_back (arc ∷ arcs) g =
      let here = ap fact_shown (sym g.0) in
      let rest = given_back arcs g.1 in
      λ i. here i ∷ rest i

  pub kept_given : (k : ShownArc → Bool) (arcs : List ShownArc) → Gives (arc_of p) arcs
      → Gives (arc_of p) (filter k arcs)
  kept_given k [] g = tt
  kept_given k (arc ∷ arcs) g = either (k arc) (filter k arcs) (kept_given k arcs g.1)
    where
      either : (b : Bool) (rest : List ShownArc) → Gives (arc_of p) rest
          → Gives (arc_of p) (cond b (arc ∷ rest) rest)
      either true rest h = (g.0, h)
      either false rest h = h

  -- the facts of the arcs from a node
  pub from_node : (node : ℕ)
      → map fact_shown (arcs_from p node) ≡ map (fact_at p) (out_ids p node)
  from_node node = given_back (arcs_from p node)
      (kept_given (λ arc. eqb arc.from node) p.by_source (gives_sources p shown))

  pub out_differ : (node : ℕ) → once (out_ids p node) ≡ true
  out_differ node = once-ids_at source p.by_source node shown.sources_differ

  -- an arc from the node is shown, and its source is the node
  pub out_there : (node id : ℕ) → has (out_ids p node) id ≡ true
      → (has_arc p id ≡ true) × (source_of p id ≡ node)
  out_there node id h = (
    has-ids_at source p.by_source node id h,
    end_at source p.by_source node id shown.sources_differ h,
  )

  -- one node more
  pub nodes_more : (i : ℕ) → i < length p.nodes
      → map fact_shown (flat_map (arcs_from p) (take (i + 1) p.nodes))
      ≡ map fact_shown (flat_map (arcs_from p) (take i p.nodes))
      ++ map (fact_at p) (out_ids p (get_or p.nodes i 0))
  nodes_more i l =
      let node = get_or p.nodes i 0 in
      let cut = (take_at_read p.nodes i 0 l).1 in
      ap (λ xs. map fact_shown (flat_map (arcs_from p) xs)) cut
      ∙ (ap (map fact_shown) (flat_map-append (arcs_from p) (take i p.nodes) (node ∷ [])
      ∙ ap (λ xs. flat_map (arcs_from p) (take i p.nodes) ++ xs) (append-nil (arcs_from p node)))
      ∙ (map-append fact_shown (flat_map (arcs_from p) (take i p.nodes)) (arcs_from p node)
      ∙ ap (λ xs. map fact_shown (flat_map (arcs_from p) (take i p.nodes)) ++ xs) (from_node node)))

  pub gather_begins : (i : ℕ) (met : List Fact) → i < length p.nodes
      → met ≡ map fact_shown (flat_map (arcs_from p) (take i p.nodes))
      → IsGathering p i (get_or p.nodes i 0) met (first (out_ids p (get_or p.nodes i 0)))
  gather_begins i met l is =
      let ids = out_ids p (get_or p.nodes i 0) in
      record {
        whole = ap (λ xs. met ++ map (fact_at p) xs) (ahead-first ids)
            ∙ (ap (λ xs. xs ++ map (fact_at p) ids) is ∙ sym (nodes_more i l));
        there = λ id. has-first ids id;
      }

  module _ (i node : ℕ) (met : List Fact) where
    pub gather_more : (id : ℕ) → IsGathering p i node met (Some id)
        → IsGathering p i node (met ++ fact_at p id ∷ []) (after (out_ids p node) id)
    gather_more id gathering =
        let ids = out_ids p node in
        let is = ahead_is ids id (out_differ node) (gathering.there id refl) in
        record {
          whole = append_assoc met (fact_at p id ∷ []) (map (fact_at p) (ahead ids (after ids id)))
              ∙ (ap (λ xs. met ++ map (fact_at p) xs) (sym is) ∙ gathering.whole);
          there = λ other. has-after ids id other;
        }

    pub gather_ends : IsGathering p i node met None
        → met ≡ map fact_shown (flat_map (arcs_from p) (take (i + 1) p.nodes))
    gather_ends gathering = sym (append-nil met) ∙ gathering.whole

    -- an arc is left where the walk stands at one
    pub gather_left : (id : ℕ) → i < length p.nodes → IsGathering p i node met (Some id)
        → length met < length (arcs_in_order p)
    gather_left id l gathering =
        let ids = out_ids p node in
        let whole = ap length gathering.whole in
        let parts = length-append met (map (fact_at p) (ahead ids (Some id))) in
        let some = length-map (ahead ids (Some id)) (fact_at p) in
        let is = ap length (ahead_is ids id (out_differ node) (gathering.there id refl)) in
        let facts = length-map (flat_map (arcs_from p) (take (i + 1) p.nodes)) fact_shown in
        let most = flat_map_part (i + 1) p.nodes in
        omega (arith, whole, parts, some, is, facts, most)
      where
        flat_map_part : (n : ℕ) (ns : List ℕ)
            → length (flat_map (arcs_from p) (take n ns)) ≤ length (flat_map (arcs_from p) ns)
        flat_map_part n ns =
            let cut = take-append-drop n ns in
            let sum = ap (λ xs. length (flat_map (arcs_from p) xs)) (sym cut)
            ∙ (ap length (flat_map-append (arcs_from p) (take n ns) (drop n ns))
            ∙ length-append (flat_map (arcs_from p) (take n ns))
            (flat_map (arcs_from p) (drop n ns))) in
            omega (arith, sum)
