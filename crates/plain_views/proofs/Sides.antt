-- One direction of a shown digraph: a list of arcs, and the end at which a walk along it stays.
use Rattle.std.proofs.Common.{◌≡◌, ℕ, Bool, true, false, ◌&&◌, not, cond, eqb, List, [], ◌∷◌, ◌++◌}
use Rattle.std.proofs.Common.{map, filter, refl, sym, ◌∙◌, arith}
use Rattle.std.specs.List.{list_any}
use Rattle.std.proofs.lemmas.Bool.Decides.{nat_tests}
use Rattle.plain_digraph.specs.Lists.{has}
use Rattle.plain_views.specs.Shown.{Shown, ShownArc, IsShown, End, arc_ids, once, ids_at, end_in}
use Rattle.plain_views.specs.Shown.{source, target, source_of, target_of, arc_of, has_arc, has_ends}
use Rattle.plain_views.proofs.Walks.{eqb_same, once-head, once-tail, KeepsApart}

-- ---- the arcs at a node

module _ (end : End) where
  pub has-ids_at : (arcs : List ShownArc) (v a : ℕ) → has (ids_at end arcs v) a ≡ true
      → has (arc_ids arcs) a ≡ true
  has-ids_at [] v a h = h
  has-ids_at (t ∷ ts) v a h = grind (arith, nat_tests, has-ids_at ts v a)

  pub once-ids_at : (arcs : List ShownArc) (v : ℕ) → once (arc_ids arcs) ≡ true
      → once (ids_at end arcs v) ≡ true
  once-ids_at [] v o = refl
  once-ids_at (t ∷ ts) v o =
      grind (
        arith,
        nat_tests,
        has-ids_at ts v t.id,
        once-ids_at ts v (once-tail t.id (arc_ids ts) o),
      )

  pub end_at : (arcs : List ShownArc) (v a : ℕ) → once (arc_ids arcs) ≡ true
      → has (ids_at end arcs v) a ≡ true → end_in end arcs a ≡ v
  end_at [] v a o h = cc
  end_at (t ∷ ts) v a o h =
      grind (
        arith,
        nat_tests,
        has-ids_at ts v a,
        end_at ts v a (once-tail t.id (arc_ids ts) o),
        once-head t.id (arc_ids ts) o,
      )

  pub at_own : (arcs : List ShownArc) (a : ℕ) → has (arc_ids arcs) a ≡ true
      → has (ids_at end arcs (end_in end arcs a)) a ≡ true
  at_own [] a h = h
  at_own (t ∷ ts) a h = grind (arith, nat_tests, eqb_same (end t), at_own ts a)

  pub end_absent : (arcs : List ShownArc) (a : ℕ) → has (arc_ids arcs) a ≡ false
      → end_in end arcs a ≡ 0
  end_absent [] a h = refl
  end_absent (t ∷ ts) a h = grind (arith, end_absent ts a)

  -- ---- two lists, one behind the other

  pub ids_at-append : (xs ys : List ShownArc) (v : ℕ)
      → ids_at end (xs ++ ys) v ≡ ids_at end xs v ++ ids_at end ys v
  ids_at-append [] ys v = refl
  ids_at-append (x ∷ xs) ys v = grind (arith, ids_at-append xs ys v)

  pub end_in-append : (xs ys : List ShownArc) (a : ℕ)
      → end_in end (xs ++ ys) a ≡ cond (has (arc_ids xs) a) (end_in end xs a) (end_in end ys a)
  end_in-append [] ys a = refl
  end_in-append (x ∷ xs) ys a = grind (arith, end_in-append xs ys a)

  -- ---- arcs that go over to others: the ids by g, the end by h

  module _ (f : ShownArc → ShownArc) (g h : ℕ → ℕ) (old : End)
      (ids : (arc : ShownArc) → (f arc).id ≡ g arc.id)
      (ends : (arc : ShownArc) → end (f arc) ≡ h (old arc)) where
    pub ids_at-map : KeepsApart h → (arcs : List ShownArc) (v : ℕ)
        → ids_at end (map f arcs) (h v) ≡ map g (ids_at old arcs v)
    ids_at-map apart [] v = refl
    ids_at-map apart (t ∷ ts) v =
        grind (arith, ids t, ends t, apart (old t) v, ids_at-map apart ts v)

    -- no arc ends there
    pub ids_at-map_none : (v : ℕ) → ((x : ℕ) → eqb (h x) v ≡ false) → (arcs : List ShownArc)
        → ids_at end (map f arcs) v ≡ []
    ids_at-map_none v none [] = refl
    ids_at-map_none v none (t ∷ ts) = grind (arith, ends t, none (old t), ids_at-map_none v none ts)

    pub end_in-map : KeepsApart g → (arcs : List ShownArc) (a : ℕ) → has (arc_ids arcs) a ≡ true
        → end_in end (map f arcs) (g a) ≡ h (end_in old arcs a)
    end_in-map apart [] a at = cc
    end_in-map apart (t ∷ ts) a at =
        grind (arith, ids t, ends t, apart t.id a, end_in-map apart ts a)

pub arc_ids-append : (xs ys : List ShownArc) → arc_ids (xs ++ ys) ≡ arc_ids xs ++ arc_ids ys
arc_ids-append [] ys = refl
arc_ids-append (x ∷ xs) ys = grind (arith, arc_ids-append xs ys)

pub arc_ids-map : (f : ShownArc → ShownArc) (g : ℕ → ℕ) → ((arc : ShownArc) → (f arc).id ≡ g arc.id)
    → (arcs : List ShownArc) → arc_ids (map f arcs) ≡ map g (arc_ids arcs)
arc_ids-map f g ids [] = refl
arc_ids-map f g ids (t ∷ ts) = grind (arith, ids t, arc_ids-map f g ids ts)

-- ---- the arc of an id

-- f gives each arc back by its id.
abbrev pub Gives : (ℕ → ShownArc) → List ShownArc → Type 0
Gives f [] = Unit {0}
Gives f (arc ∷ arcs) = (f arc.id ≡ arc) × Gives f arcs

-- ---- some of the arcs: what a test of arcs keeps, a test of ids keeps

module _ (f : ℕ → ShownArc) (k : ShownArc → Bool) where
  pub arc_ids-filter : (arcs : List ShownArc) → Gives f arcs
      → arc_ids (filter k arcs) ≡ filter (λ id. k (f id)) (arc_ids arcs)
  arc_ids-filter [] g = refl
  arc_ids-filter (t ∷ ts) g = grind (arith, g.0, arc_ids-filter ts g.1)

  pub ids_at-filter : (end : End) (arcs : List ShownArc) (v : ℕ) → Gives f arcs
      → ids_at end (filter k arcs) v ≡ filter (λ id. k (f id)) (ids_at end arcs v)
  ids_at-filter end [] v g = refl
  ids_at-filter end (t ∷ ts) v g = grind (arith, g.0, ids_at-filter end ts v g.1)

  pub end_in-filter : (end : End) (arcs : List ShownArc) (a : ℕ) → Gives f arcs → k (f a) ≡ true
      → end_in end (filter k arcs) a ≡ end_in end arcs a
  end_in-filter end [] a g h = refl
  end_in-filter end (t ∷ ts) a g h = grind (arith, nat_tests, g.0, end_in-filter end ts a g.1 h)

-- ---- both lists have the same arcs

pub has_found : (arcs : List ShownArc) (id : ℕ)
    → has (arc_ids arcs) id ≡ list_any (λ arc. eqb arc.id id) arcs
has_found [] id = refl
has_found (t ∷ ts) id = grind (arith, has_found ts id)

pub same_ids : (p : Shown) → IsShown p → (id : ℕ)
    → has (arc_ids p.by_source) id ≡ has (arc_ids p.by_target) id
same_ids p shown id = has_found p.by_source id
    ∙ (shown.same_arcs (λ arc. eqb arc.id id) ∙ sym (has_found p.by_target id))

-- an arc that is found with its end has this end
found_id : (end : End) (arcs : List ShownArc) (id v : ℕ)
    → list_any (λ arc. eqb arc.id id && eqb (end arc) v) arcs ≡ true → has (arc_ids arcs) id ≡ true
found_id end [] id v h = h
found_id end (t ∷ ts) id v h = grind (arith, nat_tests, found_id end ts id v)

pub end_found : (end : End) (arcs : List ShownArc) (id v : ℕ) → once (arc_ids arcs) ≡ true
    → list_any (λ arc. eqb arc.id id && eqb (end arc) v) arcs ≡ true → end_in end arcs id ≡ v
end_found end [] id v o h = cc
end_found end (t ∷ ts) id v o h =
    grind (
      arith,
      nat_tests,
      found_id end ts id v,
      end_found end ts id v (once-tail t.id (arc_ids ts) o),
      once-head t.id (arc_ids ts) o,
    )

-- each arc of a part of the arcs is the arc of its id
given : (p : Shown) → IsShown p → (arcs : List ShownArc)
    → ((test : ShownArc → Bool) → list_any test arcs ≡ true → list_any test p.by_source ≡ true)
    → Gives (arc_of p) arcs
given p shown [] part = tt
given p shown (t ∷ ts) part =
    let from : source_of p t.id ≡ t.from =
    end_found source p.by_source t.id t.from shown.sources_differ
    (part (λ arc. eqb arc.id t.id && eqb arc.from t.from)
    (rw (eqb_same t.id, eqb_same t.from))) in
    let to : target_of p t.id ≡ t.to =
    end_found target p.by_target t.id t.to shown.targets_differ
    (sym (shown.same_arcs (λ arc. eqb arc.id t.id && eqb arc.to t.to))
    ∙ part (λ arc. eqb arc.id t.id && eqb arc.to t.to) (rw (eqb_same t.id, eqb_same t.to))) in (
      (λ i. record { id = t.id; from = from i; to = to i }),
      given p shown ts (λ test h. part test (grind (arith, h))),
    )

pub gives_sources : (p : Shown) → IsShown p → Gives (arc_of p) p.by_source
gives_sources p shown = given p shown p.by_source (λ test h. h)

pub gives_targets : (p : Shown) → IsShown p → Gives (arc_of p) p.by_target
gives_targets p shown = given p shown p.by_target (λ test h. shown.same_arcs test ∙ h)

-- ---- ends are shown

end_shown : (end : End) (nodes : List ℕ) (arcs : List ShownArc) (id : ℕ)
    → list_any (λ arc. not (has nodes (end arc))) arcs ≡ false → has (arc_ids arcs) id ≡ true
    → has nodes (end_in end arcs id) ≡ true
end_shown end nodes [] id none at = cc
end_shown end nodes (t ∷ ts) id none at = grind (arith, nat_tests, end_shown end nodes ts id)

-- what a test doesn't find, a stricter one doesn't find
pub none-under : {X : Type 0} (p q : X → Bool) (xs : List X) → ((x : X) → q x ≡ false → p x ≡ false)
    → list_any q xs ≡ false → list_any p xs ≡ false
none-under p q [] under none = refl
none-under p q (x ∷ xs) under none = grind (arith, under x, none-under p q xs under)

pub source_shown : (p : Shown) (id : ℕ) → IsShown p → has_arc p id ≡ true
    → has p.nodes (source_of p id) ≡ true
source_shown p id shown at =
    end_shown source p.nodes p.by_source id
    (none-under (λ arc. not (has p.nodes arc.from)) (λ arc. not (has_ends p.nodes arc)) p.by_source
    (λ arc h. grind (arith, h)) shown.ends_shown) at

pub target_shown : (p : Shown) (id : ℕ) → IsShown p → has_arc p id ≡ true
    → has p.nodes (target_of p id) ≡ true
target_shown p id shown at =
    end_shown target p.nodes p.by_target id
    (none-under (λ arc. not (has p.nodes arc.to)) (λ arc. not (has_ends p.nodes arc)) p.by_target
    (λ arc h. grind (arith, h))
    (sym (shown.same_arcs (λ arc. not (has_ends p.nodes arc))) ∙ shown.ends_shown))
    (sym (same_ids p shown id) ∙ at)
