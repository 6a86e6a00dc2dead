-- What the walks of each adaptor come to, by the walks below.
use Rattle.std.proofs.Common.{◌≡◌, ℕ, Bool, true, false, cond, List, [], ◌∷◌, ◌++◌, map, filter}
use Rattle.std.proofs.Common.{None, refl, sym, ◌∙◌, ap, arith}
use Rattle.plain_digraph.specs.Lists.{has, first, after, ahead}
use Rattle.plain_views.specs.Shown.{Shown, ShownArc, IsShown, End, source, target, arc_ids, arc_of}
use Rattle.plain_views.specs.Shown.{ids_at, end_in, out_ids, in_ids, source_of, target_of, next_out}
use Rattle.plain_views.specs.Shown.{next_in, has_arc}
use Rattle.plain_views.specs.Adaptors.{turned, reversed, is_kept, sub, is_even, half, twice, odd}
use Rattle.plain_views.specs.Adaptors.{first_both, forward, backward, undirected}
use Rattle.plain_views.proofs.Walks.{and_left, and_right, has-map, has-map_none, ahead-after}
use Rattle.plain_views.proofs.Walks.{rest-filter}
use Rattle.plain_views.proofs.Sides.{ids_at-append, ids_at-map, end_in-append, end_in-map}
use Rattle.plain_views.proofs.Sides.{once-ids_at, at_own, arc_ids-map, ids_at-filter, end_in-filter}
use Rattle.plain_views.proofs.Sides.{same_ids, gives_sources, gives_targets}
use Rattle.plain_views.proofs.Doubled.{both, first-both, after-even, after-odd, even_is, odd_is}
use Rattle.plain_views.proofs.Doubled.{twice_apart, odd_apart, twice_not_odd}
use Rattle.plain_views.proofs.Adapted.{part, part_has_arc}

-- ---- reverse: each direction is the other one below

ids_at-turned : (end : End) (arcs : List ShownArc) (v : ℕ)
    → ids_at end (map turned arcs) v ≡ ids_at (λ arc. end (turned arc)) arcs v
ids_at-turned end [] v = refl
ids_at-turned end (t ∷ ts) v = grind (arith, ids_at-turned end ts v)

end_in-turned : (end : End) (arcs : List ShownArc) (id : ℕ)
    → end_in end (map turned arcs) id ≡ end_in (λ arc. end (turned arc)) arcs id
end_in-turned end [] id = refl
end_in-turned end (t ∷ ts) id = grind (arith, end_in-turned end ts id)

pub out_ids-reversed : (p : Shown) (v : ℕ) → out_ids (reversed p) v ≡ in_ids p v
out_ids-reversed p v = ids_at-turned source p.by_target v

pub in_ids-reversed : (p : Shown) (v : ℕ) → in_ids (reversed p) v ≡ out_ids p v
in_ids-reversed p v = ids_at-turned target p.by_source v

pub source_of-reversed : (p : Shown) (id : ℕ) → source_of (reversed p) id ≡ target_of p id
source_of-reversed p id = end_in-turned source p.by_target id

pub target_of-reversed : (p : Shown) (id : ℕ) → target_of (reversed p) id ≡ source_of p id
target_of-reversed p id = end_in-turned target p.by_source id

pub next_out-reversed : (p : Shown) (id : ℕ) → next_out (reversed p) id ≡ next_in p id
next_out-reversed p id = ap (λ v. after (out_ids (reversed p) v) id) (source_of-reversed p id)
    ∙ ap (λ xs. after xs id) (out_ids-reversed p (target_of p id))

pub next_in-reversed : (p : Shown) (id : ℕ) → next_in (reversed p) id ≡ next_out p id
next_in-reversed p id = ap (λ v. after (in_ids (reversed p) v) id) (target_of-reversed p id)
    ∙ ap (λ xs. after xs id) (in_ids-reversed p (source_of p id))

pub ruleset turns = (
  out_ids-reversed,
  in_ids-reversed,
  source_of-reversed,
  target_of-reversed,
  next_out-reversed,
  next_in-reversed,
)

-- where an adaptor of the reversed is the adaptor reversed, the walks against the arcs are walks
-- along them
pub first_mirrored : (f : Shown → Shown) (p : Shown) (v : ℕ) → f (reversed p) ≡ reversed (f p)
    → first (out_ids (f (reversed p)) v) ≡ first (in_ids (f p) v)
first_mirrored f p v same = ap (λ q. first (out_ids q v)) same ∙ ap first (out_ids-reversed (f p) v)

pub next_mirrored : (f : Shown → Shown) (p : Shown) (id : ℕ) → f (reversed p) ≡ reversed (f p)
    → next_out (f (reversed p)) id ≡ next_in (f p) id
next_mirrored f p id same = ap (λ q. next_out q id) same ∙ next_out-reversed (f p) id

filter-turned : (k : ShownArc → Bool) → ((arc : ShownArc) → k (turned arc) ≡ k arc)
    → (arcs : List ShownArc) → filter k (map turned arcs) ≡ map turned (filter k arcs)
filter-turned k same [] = refl
filter-turned k same (t ∷ ts) = grind (arith, same t, filter-turned k same ts)

pub sub_reversed : (keeps_node keeps_arc : ℕ → Bool) (p : Shown)
    → sub keeps_node keeps_arc (reversed p) ≡ reversed (sub keeps_node keeps_arc p)
sub_reversed keeps_node keeps_arc p =
    let k = is_kept keeps_node keeps_arc in
    let same : (arc : ShownArc) → k (turned arc) ≡ k arc = λ arc. grind arith in
    λ i. record {
      nodes = filter keeps_node p.nodes;
      by_source =
          filter-turned k same p.by_target i;
      by_target = filter-turned k same p.by_source i;
    }

undirected-turned : (xs ys : List ShownArc)
    → map forward (map turned xs) ++ map backward (map turned ys)
    ≡ map turned (map forward xs ++ map backward ys)
undirected-turned [] [] = refl
undirected-turned [] (y ∷ ys) = ap (λ arcs. backward (turned y) ∷ arcs) (undirected-turned [] ys)
undirected-turned (x ∷ xs) ys = ap (λ arcs. forward (turned x) ∷ arcs) (undirected-turned xs ys)

pub undirected_reversed : (p : Shown) → undirected (reversed p) ≡ reversed (undirected p)
undirected_reversed p = λ i.
    record {
      nodes = p.nodes;
      by_source = undirected-turned p.by_target p.by_source i;
      by_target =
          undirected-turned p.by_source p.by_target i;
    }

-- ---- some of the arcs

module _ (nodes : List ℕ) (k : ShownArc → Bool) (p : Shown) (shown : IsShown p) where
  kept : ℕ → Bool
  kept id = k (arc_of p id)

  pub out_ids-part : (v : ℕ)
      → out_ids (part nodes k p) v ≡ filter (λ id. k (arc_of p id)) (out_ids p v)
  out_ids-part v = ids_at-filter (arc_of p) k source p.by_source v (gives_sources p shown)

  pub part_kept : (id : ℕ) → has_arc (part nodes k p) id ≡ true → k (arc_of p id) ≡ true
  part_kept id at =
      and_right (has_arc p id) (k (arc_of p id)) (sym (part_has_arc nodes k p shown id) ∙ at)

  pub part_below : (id : ℕ) → has_arc (part nodes k p) id ≡ true → has_arc p id ≡ true
  part_below id at =
      and_left (has_arc p id) (k (arc_of p id)) (sym (part_has_arc nodes k p shown id) ∙ at)

  pub source_of-part : (id : ℕ) → has_arc (part nodes k p) id ≡ true
      → source_of (part nodes k p) id ≡ source_of p id
  source_of-part id at =
      end_in-filter (arc_of p) k source p.by_source id (gives_sources p shown) (part_kept id at)

  pub target_of-part : (id : ℕ) → has_arc (part nodes k p) id ≡ true
      → target_of (part nodes k p) id ≡ target_of p id
  target_of-part id at =
      end_in-filter (arc_of p) k target p.by_target id (gives_targets p shown) (part_kept id at)

  pub next_out-part : (id v : ℕ) → has_arc (part nodes k p) id ≡ true → v ≡ source_of p id
      → next_out (part nodes k p) id
      ≡ first (filter (λ id. k (arc_of p id)) (ahead (out_ids p v) (after (out_ids p v) id)))
  next_out-part id v at is =
      ap (λ w. after (out_ids (part nodes k p) w) id) (source_of-part id at ∙ sym is)
      ∙ (ap (λ xs. after xs id) (out_ids-part v)
      ∙ (ap first (rest-filter (λ id. k (arc_of p id)) (out_ids p v) id (part_kept id at))
      ∙ ap (λ xs. first (filter (λ id. k (arc_of p id)) xs))
      (sym (ahead-after (out_ids p v) id
      (once-ids_at source p.by_source v shown.sources_differ)))))

-- ---- undirect

pub out_ids-undirected : (p : Shown) (v : ℕ)
    → out_ids (undirected p) v ≡ both (out_ids p v) (in_ids p v)
out_ids-undirected p v =
    ids_at-append source (map forward p.by_source) (map backward p.by_target) v
    ∙ (λ i. ids_at-map source forward twice (λ x. x) source (λ _. refl) (λ _. refl) (λ _ _. refl)
    p.by_source v i
    ++ ids_at-map source backward odd (λ x. x) target (λ _. refl) (λ _. refl) (λ _ _. refl)
    p.by_target v i)

-- the end of an arc of two lists, one of even ids and one of odd ones
module _ (end : End) (xs ys : List ShownArc) (f : ShownArc → ShownArc) (h : ℕ → ℕ) (old : End)
    (ids : (arc : ShownArc) → (f arc).id ≡ twice arc.id)
    (ends : (arc : ShownArc) → end (f arc) ≡ h (old arc)) where
  has_even : (id : ℕ) → is_even id ≡ true → has (arc_ids xs) (half id) ≡ true
      → has (arc_ids (map f xs)) id ≡ true
  has_even id e at = ap (has (arc_ids (map f xs))) (even_is id e)
      ∙ (ap (λ zs. has zs (twice (half id))) (arc_ids-map f twice ids xs)
      ∙ (has-map twice twice_apart (arc_ids xs) (half id) ∙ at))

  pub end_even : (id : ℕ) → is_even id ≡ true → has (arc_ids xs) (half id) ≡ true
      → end_in end (map f xs ++ ys) id ≡ h (end_in old xs (half id))
  end_even id e at =
      end_in-append end (map f xs) ys id
      ∙ (ap (λ b. cond b (end_in end (map f xs) id) (end_in end ys id)) (has_even id e at)
      ∙ (ap (end_in end (map f xs)) (even_is id e)
      ∙ end_in-map end f twice h old ids ends twice_apart xs (half id) at))

  pub end_odd : (id : ℕ) → is_even id ≡ false → end_in end (map f xs ++ ys) id ≡ end_in end ys id
  end_odd id e =
      end_in-append end (map f xs) ys id
      ∙ ap (λ b. cond b (end_in end (map f xs) id) (end_in end ys id))
      (ap (has (arc_ids (map f xs))) (odd_is id e)
      ∙ (ap (λ zs. has zs (odd (half id))) (arc_ids-map f twice ids xs)
      ∙ has-map_none twice (odd (half id)) (λ x. twice_not_odd x (half id)) (arc_ids xs)))

module _ (p : Shown) (shown : IsShown p) (id : ℕ) where
  in_target : has_arc p (half id) ≡ true → has (arc_ids p.by_target) (half id) ≡ true
  in_target at = sym (same_ids p shown (half id)) ∙ at

  pub source_of-even : is_even id ≡ true → has_arc p (half id) ≡ true
      → source_of (undirected p) id ≡ source_of p (half id)
  source_of-even e at =
      end_even source p.by_source (map backward p.by_target) forward (λ x. x) source (λ _. refl)
      (λ _. refl) id e at

  pub target_of-even : is_even id ≡ true → has_arc p (half id) ≡ true
      → target_of (undirected p) id ≡ target_of p (half id)
  target_of-even e at =
      end_even target p.by_target (map backward p.by_source) forward (λ x. x) target (λ _. refl)
      (λ _. refl) id e (in_target at)

  pub source_of-odd : is_even id ≡ false → has_arc p (half id) ≡ true
      → source_of (undirected p) id ≡ target_of p (half id)
  source_of-odd e at =
      end_odd source p.by_source (map backward p.by_target) forward (λ x. x) source (λ _. refl)
      (λ _. refl) id e
      ∙ (ap (end_in source (map backward p.by_target)) (odd_is id e)
      ∙ end_in-map source backward odd (λ x. x) target (λ _. refl) (λ _. refl) odd_apart p.by_target
      (half id) (in_target at))

  pub target_of-odd : is_even id ≡ false → has_arc p (half id) ≡ true
      → target_of (undirected p) id ≡ source_of p (half id)
  target_of-odd e at =
      end_odd target p.by_target (map backward p.by_source) forward (λ x. x) target (λ _. refl)
      (λ _. refl) id e
      ∙ (ap (end_in target (map backward p.by_source)) (odd_is id e)
      ∙ end_in-map target backward odd (λ x. x) source (λ _. refl) (λ _. refl) odd_apart p.by_source
      (half id) at)

  pub next_out-even : is_even id ≡ true → has_arc p (half id) ≡ true
      → next_out (undirected p) id
      ≡ first_both (next_out p (half id)) (first (in_ids p (source_of p (half id))))
  next_out-even e at =
      let v = source_of p (half id) in
      ap (λ w. after (out_ids (undirected p) w) id) (source_of-even e at)
      ∙ (ap (λ xs. after xs id) (out_ids-undirected p v)
      ∙ after-even (out_ids p v) (in_ids p v) id e (at_own source p.by_source (half id) at))

  pub next_out-odd : is_even id ≡ false → has_arc p (half id) ≡ true
      → next_out (undirected p) id ≡ first_both None (next_in p (half id))
  next_out-odd e at =
      let v = target_of p (half id) in
      ap (λ w. after (out_ids (undirected p) w) id) (source_of-odd e at)
      ∙ (ap (λ xs. after xs id) (out_ids-undirected p v)
      ∙ after-odd (out_ids p v) (in_ids p v) id e)

pub first_out-undirected : (p : Shown) (v : ℕ)
    → first (out_ids (undirected p) v) ≡ first_both (first (out_ids p v)) (first (in_ids p v))
first_out-undirected p v = ap first (out_ids-undirected p v) ∙ first-both (out_ids p v) (in_ids p v)
