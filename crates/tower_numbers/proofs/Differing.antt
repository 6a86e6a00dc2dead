-- No two arcs of a view in order have one id.
use Rattle.std.proofs.Common.{◌≡◌, ℕ, zero, suc, ◌<◌, Bool, true, false, List, [], ◌∷◌, length}
use Rattle.std.proofs.Common.{refl, sym, ap, subst, ◌∙◌, ◌++◌, arith}
use Rattle.std.specs.Prelude.{◌==◌, ◌||◌, filter}
use Rattle.std.specs.List.{flat_map}
use Rattle.std.proofs.lemmas.Bool.{eq-eqb, or_right, false_from_ne_true, true≢false}
use Rattle.std.proofs.lemmas.List.{map-append}
use Rattle.plain_certificates.specs.Tables.{at}
use Rattle.plain_digraph.specs.Lists.{has}
use Rattle.plain_views.specs.Shown.{Shown, ShownArc, IsShown, arc_ids, arcs_in_order, once, source}
use Rattle.plain_views.specs.Shown.{end_in, ids_at}
use Rattle.plain_views.proofs.Sides.{once-ids_at, end_at}
use Rattle.plain_views.proofs.Walks.{has-append, once-append, once-head, once-tail}
use Rattle.tower_numbers.proofs.Living.{has_at}

module _ (arcs : List ShownArc) (differ : once (arc_ids arcs) ≡ true) where
  -- the arcs from each of some nodes in turn
  abbrev from_all : List ℕ → List ShownArc
  from_all nodes = flat_map (λ node. filter (λ arc. arc.from == node) arcs) nodes

  -- those of one node, and those of the others
  in_two : (node : ℕ) (nodes : List ℕ) → arc_ids (from_all (node ∷ nodes))
      ≡ ids_at source arcs node ++ arc_ids (from_all nodes)
  in_two node nodes =
      map-append (λ (arc : ShownArc). arc.id) (filter (λ (arc : ShownArc). arc.from == node) arcs)
      (from_all nodes)

  -- each comes from one of the nodes
  from_one : (nodes : List ℕ) (id : ℕ) → has (arc_ids (from_all nodes)) id ≡ true
      → has nodes (end_in source arcs id) ≡ true
  from_one [] id there = there
  from_one (node ∷ nodes) id there =
      let parts : (has (ids_at source arcs node) id || has (arc_ids (from_all nodes)) id) ≡ true =
      sym (has-append (ids_at source arcs node) (arc_ids (from_all nodes)) id)
      ∙ ap (λ ids. has ids id) (sym (in_two node nodes)) ∙ there in
      by (has (ids_at source arcs node) id) refl parts (from_one nodes id)
    where
      by : (b : Bool) → has (ids_at source arcs node) id ≡ b
          → (b || has (arc_ids (from_all nodes)) id) ≡ true
          → (has (arc_ids (from_all nodes)) id ≡ true → has nodes (end_in source arcs id) ≡ true)
          → ((node == end_in source arcs id) || has nodes (end_in source arcs id)) ≡ true
      by true is parts rest =
          ap (λ b. b || has nodes (end_in source arcs id))
          (eq-eqb node (end_in source arcs id) (sym (end_at source arcs node id differ is)))
      by false is parts rest =
          or_right (node == end_in source arcs id) (has nodes (end_in source arcs id))
          (rest parts)

  all_differ : (nodes : List ℕ) → once nodes ≡ true → once (arc_ids (from_all nodes)) ≡ true
  all_differ [] o = refl
  all_differ (node ∷ nodes) o =
      subst (λ ids. once ids ≡ true) (sym (in_two node nodes))
      (once-append (ids_at source arcs node) (arc_ids (from_all nodes))
      (once-ids_at source arcs node differ)
      (all_differ nodes (once-tail node nodes o))
      (λ id here. false_from_ne_true (has (arc_ids (from_all nodes)) id) (λ there.
      true≢false (sym (from_one nodes id there)
      ∙ ap (has nodes) (end_at source arcs node id differ here)
      ∙ once-head node nodes o))))

pub ids_differ : (p : Shown) → IsShown p → once (arc_ids (arcs_in_order p)) ≡ true
ids_differ p shown = all_differ p.by_source shown.sources_differ p.nodes shown.nodes_differ

-- where each number stands once, it stands at one place
pub one_place : (xs : List ℕ) → once xs ≡ true → (j k : ℕ) → j < length xs → k < length xs
    → at 0 xs j ≡ at 0 xs k → j ≡ k
one_place [] o j k low high same = absurd (omega (arith, low))
one_place (x ∷ xs) o zero zero low high same = refl
one_place (x ∷ xs) o zero (suc k) low high same =
    absurd (true≢false (sym (has_at xs k 0 (omega (arith, high))) ∙ ap (has xs) (sym same)
    ∙ once-head x xs o))
one_place (x ∷ xs) o (suc j) zero low high same =
    absurd (true≢false (sym (has_at xs j 0 (omega (arith, low))) ∙ ap (has xs) same
    ∙ once-head x xs o))
one_place (x ∷ xs) o (suc j) (suc k) low high same =
    ap suc (one_place xs (once-tail x xs o) j k (omega (arith, low)) (omega (arith, high)) same)
