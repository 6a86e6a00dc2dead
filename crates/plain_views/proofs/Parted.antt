-- The walks of a digraph whose nodes are split, said once for both directions: h is what the end of
-- an arc becomes, and b what the node of a bind arc becomes at the same end.
use Rattle.std.proofs.Common.{◌≡◌, ℕ, true, false, cond, eqb, List, [], ◌∷◌, ◌++◌, map, Some, None}
use Rattle.std.proofs.Common.{refl, ◌∙◌, ap, arith}
use Rattle.std.specs.List.{flat_map}
use Rattle.std.proofs.lemmas.Bool.Decides.{nat_tests}
use Rattle.plain_digraph.specs.Lists.{has, first, rest, after}
use Rattle.plain_views.specs.Shown.{Shown, ShownArc, End, source, target, arc_ids, once, ids_at}
use Rattle.plain_views.specs.Shown.{end_in, out_ids, in_ids, source_of, target_of, next_out}
use Rattle.plain_views.specs.Shown.{next_in, has_arc}
use Rattle.plain_views.specs.Adaptors.{is_even, half, twice, odd, first_both, between, bind, split}
use Rattle.plain_views.proofs.Walks.{KeepsApart, once-head, once-tail}
use Rattle.plain_views.proofs.Sides.{ids_at-append, ids_at-map, ids_at-map_none, at_own}
use Rattle.plain_views.proofs.Doubled.{both, first-both, after-even, even_is, odd_is, twice_apart}
use Rattle.plain_views.proofs.Doubled.{odd_apart, twice_not_odd, odd_not_twice}
use Rattle.plain_views.proofs.Adapted.{parts, split_has_arc}
use Rattle.plain_views.proofs.Walked.{end_even, end_odd}

-- ---- nodes

pub first_parts : (nodes : List ℕ) → first (flat_map parts nodes) ≡ first_both (first nodes) None
first_parts [] = refl
first_parts (n ∷ nodes) = refl

after_in_node : (nodes : List ℕ) (m : ℕ) → has nodes m ≡ true
    → after (flat_map parts nodes) (twice m) ≡ Some (odd m)
after_in_node [] m at = cc
after_in_node (n ∷ nodes) m at =
    grind (arith, nat_tests, twice_apart n m, odd_not_twice n m, after_in_node nodes m)

rest_out_node : (nodes : List ℕ) (m : ℕ)
    → rest (flat_map parts nodes) (odd m) ≡ flat_map parts (rest nodes m)
rest_out_node [] m = refl
rest_out_node (n ∷ nodes) m = grind (arith, twice_not_odd n m, odd_apart n m, rest_out_node nodes m)

pub after_in : (nodes : List ℕ) (id : ℕ) → is_even id ≡ true → has nodes (half id) ≡ true
    → after (flat_map parts nodes) id ≡ Some (odd (half id))
after_in nodes id e at = ap (after (flat_map parts nodes)) (even_is id e)
    ∙ after_in_node nodes (half id) at

pub after_out : (nodes : List ℕ) (id : ℕ) → is_even id ≡ false
    → after (flat_map parts nodes) id ≡ first_both (after nodes (half id)) None
after_out nodes id e =
    ap (after (flat_map parts nodes)) (odd_is id e)
    ∙ (ap first (rest_out_node nodes (half id)) ∙ first_parts (rest nodes (half id)))

-- ---- arcs, in one direction

module _ (end old : End) (arcs : List ShownArc) (nodes : List ℕ) (h b : ℕ → ℕ)
    (ends : (arc : ShownArc) → end (between arc) ≡ h (old arc))
    (binds : (node : ℕ) → end (bind node) ≡ b node)
    (h_apart : KeepsApart h) (b_apart : KeepsApart b) (hb : (x y : ℕ) → eqb (h x) (b y) ≡ false)
    (bh : (x y : ℕ) → eqb (b x) (h y) ≡ false) where
  none_bound : (ns : List ℕ) (v : ℕ) → ids_at end (map bind ns) (h v) ≡ []
  none_bound [] v = refl
  none_bound (n ∷ ns) v = grind (arith, binds n, bh n v, none_bound ns v)

  one_bound : (ns : List ℕ) (v : ℕ) → once ns ≡ true
      → ids_at end (map bind ns) (b v) ≡ cond (has ns v) (odd v ∷ []) []
  one_bound [] v o = refl
  one_bound (n ∷ ns) v o =
      grind (
        arith,
        nat_tests,
        binds n,
        b_apart n v,
        once-head n ns o,
        one_bound ns v (once-tail n ns o),
      )

  end_bound : (ns : List ℕ) (v : ℕ) → has ns v ≡ true → end_in end (map bind ns) (odd v) ≡ b v
  end_bound [] v at = cc
  end_bound (n ∷ ns) v at = grind (arith, nat_tests, binds n, odd_apart n v, end_bound ns v)

  pub arcs_between : (v : ℕ)
      → ids_at end (map between arcs ++ map bind nodes) (h v) ≡ both (ids_at old arcs v) []
  arcs_between v =
      ids_at-append end (map between arcs) (map bind nodes) (h v)
      ∙ (λ i. ids_at-map end between twice h old (λ _. refl) ends h_apart arcs v i
      ++ none_bound nodes v i)

  pub arc_bound : (v : ℕ) → once nodes ≡ true → has nodes v ≡ true
      → ids_at end (map between arcs ++ map bind nodes) (b v) ≡ odd v ∷ []
  arc_bound v o at =
      ids_at-append end (map between arcs) (map bind nodes) (b v)
      ∙ ((λ i. ids_at-map_none end between twice h old (λ _. refl) ends (b v) (λ x. hb x v) arcs i
      ++ one_bound nodes v o i)
      ∙ ap (λ c. cond c (odd v ∷ []) []) at)

  pub end_between : (id : ℕ) → is_even id ≡ true → has (arc_ids arcs) (half id) ≡ true
      → end_in end (map between arcs ++ map bind nodes) id ≡ h (end_in old arcs (half id))
  end_between id e at = end_even end arcs (map bind nodes) between h old (λ _. refl) ends id e at

  pub end_bind : (id : ℕ) → is_even id ≡ false → has nodes (half id) ≡ true
      → end_in end (map between arcs ++ map bind nodes) id ≡ b (half id)
  end_bind id e at =
      end_odd end arcs (map bind nodes) between h old (λ _. refl) ends id e
      ∙ (ap (end_in end (map bind nodes)) (odd_is id e) ∙ end_bound nodes (half id) at)

  pub next_between : (id : ℕ) → is_even id ≡ true → has (arc_ids arcs) (half id) ≡ true
      → after (ids_at end (map between arcs ++ map bind nodes)
      (end_in end (map between arcs ++ map bind nodes) id)) id
      ≡ first_both (after (ids_at old arcs (end_in old arcs (half id))) (half id)) None
  next_between id e at =
      let v = end_in old arcs (half id) in
      ap (λ w. after (ids_at end (map between arcs ++ map bind nodes) w) id) (end_between id e at)
      ∙ (ap (λ xs. after xs id) (arcs_between v)
      ∙ after-even (ids_at old arcs v) [] id e (at_own old arcs (half id) at))

  pub next_bind : (id : ℕ) → once nodes ≡ true → is_even id ≡ false → has nodes (half id) ≡ true
      → after (ids_at end (map between arcs ++ map bind nodes)
      (end_in end (map between arcs ++ map bind nodes) id)) id ≡ None
  next_bind id o e at =
      ap (λ w. after (ids_at end (map between arcs ++ map bind nodes) w) id) (end_bind id e at)
      ∙ (ap (λ xs. after xs id) (arc_bound (half id) o at) ∙ alone)
    where
      alone : after (odd (half id) ∷ []) id ≡ None
      alone = grind (arith)

-- ---- both directions

pub record IsSplit (p : Shown) : Type 0 where
  pub first_out : (id : ℕ) → is_even id ≡ false
      → first (out_ids (split p) id) ≡ first_both (first (out_ids p (half id))) None
  pub bound_out : (id : ℕ) → is_even id ≡ true → has p.nodes (half id) ≡ true
      → first (out_ids (split p) id) ≡ Some (odd (half id))
  pub goes_out : (id : ℕ) → is_even id ≡ true → has_arc p (half id) ≡ true
      → next_out (split p) id ≡ first_both (next_out p (half id)) None
  pub last_out : (id : ℕ) → is_even id ≡ false → has p.nodes (half id) ≡ true
      → next_out (split p) id ≡ None
  pub first_in : (id : ℕ) → is_even id ≡ true
      → first (in_ids (split p) id) ≡ first_both (first (in_ids p (half id))) None
  pub bound_in : (id : ℕ) → is_even id ≡ false → has p.nodes (half id) ≡ true
      → first (in_ids (split p) id) ≡ Some (odd (half id))
  pub goes_in : (id : ℕ) → is_even id ≡ true → has (arc_ids p.by_target) (half id) ≡ true
      → next_in (split p) id ≡ first_both (next_in p (half id)) None
  pub last_in : (id : ℕ) → is_even id ≡ false → has p.nodes (half id) ≡ true
      → next_in (split p) id ≡ None
  pub from : (id : ℕ) → is_even id ≡ true → has_arc p (half id) ≡ true
      → source_of (split p) id ≡ odd (source_of p (half id))
  pub to : (id : ℕ) → is_even id ≡ true → has (arc_ids p.by_target) (half id) ≡ true
      → target_of (split p) id ≡ twice (target_of p (half id))
  pub bind_source : (id : ℕ) → is_even id ≡ false → has p.nodes (half id) ≡ true
      → source_of (split p) id ≡ twice (half id)
  pub bind_target : (id : ℕ) → is_even id ≡ false → has p.nodes (half id) ≡ true
      → target_of (split p) id ≡ odd (half id)

pub is_split : (p : Shown) → once p.nodes ≡ true → IsSplit p
is_split p o = record {
  first_out = λ id e. ap (λ v. first (out_ids (split p) v)) (odd_is id e)
      ∙ (ap first (arcs_between source source p.by_source p.nodes odd twice (λ _. refl) (λ _. refl)
      odd_apart twice_apart odd_not_twice twice_not_odd (half id))
      ∙ first-both (out_ids p (half id)) []);
  bound_out = λ id e at. ap (λ v. first (out_ids (split p) v)) (even_is id e)
      ∙ ap first (arc_bound source source p.by_source p.nodes odd twice (λ _. refl) (λ _. refl)
      odd_apart twice_apart odd_not_twice twice_not_odd (half id) o at);
  goes_out = λ id e at.
      next_between source source p.by_source p.nodes odd twice (λ _. refl) (λ _. refl) odd_apart
      twice_apart odd_not_twice twice_not_odd id e at;
  last_out = λ id e at.
      next_bind source source p.by_source p.nodes odd twice (λ _. refl) (λ _. refl) odd_apart
      twice_apart odd_not_twice twice_not_odd id o e at;
  first_in = λ id e. ap (λ v. first (in_ids (split p) v)) (even_is id e)
      ∙ (ap first (arcs_between target target p.by_target p.nodes twice odd (λ _. refl) (λ _. refl)
      twice_apart odd_apart twice_not_odd odd_not_twice (half id))
      ∙ first-both (in_ids p (half id)) []);
  bound_in = λ id e at. ap (λ v. first (in_ids (split p) v)) (odd_is id e)
      ∙ ap first (arc_bound target target p.by_target p.nodes twice odd (λ _. refl) (λ _. refl)
      twice_apart odd_apart twice_not_odd odd_not_twice (half id) o at);
  goes_in = λ id e at.
      next_between target target p.by_target p.nodes twice odd (λ _. refl) (λ _. refl) twice_apart
      odd_apart twice_not_odd odd_not_twice id e at;
  last_in = λ id e at.
      next_bind target target p.by_target p.nodes twice odd (λ _. refl) (λ _. refl) twice_apart
      odd_apart twice_not_odd odd_not_twice id o e at;
  from = λ id e at.
      end_between source source p.by_source p.nodes odd twice (λ _. refl) (λ _. refl) odd_apart
      twice_apart odd_not_twice twice_not_odd id e at;
  to = λ id e at.
      end_between target target p.by_target p.nodes twice odd (λ _. refl) (λ _. refl) twice_apart
      odd_apart twice_not_odd odd_not_twice id e at;
  bind_source = λ id e at.
      end_bind source source p.by_source p.nodes odd twice (λ _. refl) (λ _. refl) odd_apart
      twice_apart odd_not_twice twice_not_odd id e at;
  bind_target = λ id e at.
      end_bind target target p.by_target p.nodes twice odd (λ _. refl) (λ _. refl) twice_apart
      odd_apart twice_not_odd odd_not_twice id e at;
}

pub split_even : (p : Shown) (id : ℕ) → is_even id ≡ true
    → has_arc (split p) id ≡ has_arc p (half id)
split_even p id e = split_has_arc p id
    ∙ ap (λ c. cond c (has_arc p (half id)) (has p.nodes (half id))) e

pub split_odd : (p : Shown) (id : ℕ) → is_even id ≡ false
    → has_arc (split p) id ≡ has p.nodes (half id)
split_odd p id e = split_has_arc p id
    ∙ ap (λ c. cond c (has_arc p (half id)) (has p.nodes (half id))) e
