-- Marks that tell the present values, and what is shown by them.
use Rattle.std.proofs.Common.{◌≡◌, ℕ, ◌==◌, Bool, true, false, cond, if◌then◌else◌, IsTrue, List}
use Rattle.std.proofs.Common.{[], ◌∷◌, map, filter, refl, ap, ◌∙◌, arith}
use Rattle.std.specs.Prelude.{◌&&◌}
use Rattle.std.proofs.lemmas.Grind.{common_steps}
use Rattle.base_items.specs.declared.items.Fact.{Fact}
use Rattle.plain_digraph.specs.Facts.{fact_id}
use Rattle.plain_digraph.specs.Lists.{AllOf}
use Rattle.observe_core.specs.Held.{Marked}
use Rattle.observe_core.specs.Items.{has_id}
use Rattle.observe_core.specs.Seen.{facts_of_marked}
use Rattle.observe_core.proofs.ItemLemmas.{all_more}
use Rattle.plain_views.specs.Shown.{ShownArc}
use Rattle.plain_views.specs.Adaptors.{sub, is_kept}
use Rattle.kept_views.specs.declared.items.Marks.{Marks}
use Rattle.kept_views.specs.declared.listing.Listing.{Listing}
use Rattle.kept_views.specs.declared.listing.Listing.TheVariants.{Whole, BySource, ByTarget}
use Rattle.kept_views.specs.ItemViews.{marks_in}
use Rattle.kept_walks.specs.Stored.{in_falling, arc_shown, stored, is_shown, HasEnds}
use Rattle.kept_walks.specs.Falling.{all_falling}
use Rattle.kept_walks.specs.Present.{Present, AreMarked, AreFiltered, marks_at}

-- the mark of each item is what is said of it
pub marked_as : (mark : Marks → Bool) (says : ℕ → Bool) (items : List Marked)
    → AreMarked mark says items → (i : ℕ) → IsTrue (has_id fact_id i (facts_of_marked items))
    → mark (marks_in i items) ≡ says i
marked_as mark says [] all i h = cc
marked_as mark says (x ∷ xs) all i h =
    elim (x.fact.id == i) as (λ b. (x.fact.id == i) ≡ b
    → IsTrue (if b then true else has_id fact_id i (facts_of_marked xs))
    → mark (if b then marks_at x else marks_in i xs) ≡ says i) [
      | true ↦ λ e g.
          let same : x.fact.id ≡ i = grind (arith, common_steps, e) in
          all.0 ∙ ap says same
      | false ↦ λ e g. marked_as mark says xs all.1 i g
    ] refl h

pub same_filter : {X : Type 0} (p q : X → Bool) (xs : List X) → AllOf (λ x. p x ≡ q x) xs
    → filter p xs ≡ filter q xs
same_filter p q [] all = refl
same_filter p q (x ∷ xs) all =
    let r = same_filter p q xs all.1 in
    λ i. cond (all.0 i) (x ∷ r i) (r i)

pub all_map : {X Y : Type 0} (P : Y → Type 0) (f : X → Y) (xs : List X) → AllOf (λ x. P (f x)) xs
    → AllOf P (map f xs)
all_map P f [] all = tt
all_map P f (x ∷ xs) all = (all.0, all_map P f xs all.1)

pub all_own : (P : Fact → Type 0) (fs : List Fact)
    → ((f : Fact) → IsTrue (has_id fact_id f.id fs) → P f) → AllOf P fs
all_own P [] each = tt
all_own P (f ∷ fs) each =
    let here : (f.id == f.id) ≡ true = grind (arith, common_steps) in (
      each f (ap (λ b. if b then true else has_id fact_id f.id fs) here),
      all_own P fs (λ g h. each g (later (f.id == g.id) (has_id fact_id g.id fs) h)),
    )
  where
    later : (a b : Bool) → IsTrue b → IsTrue (if a then true else b)
    later true b h = refl
    later false b h = h

-- of the arcs that are held, in the order of a listing
pub arcs_own : (l : Listing) (P : ShownArc → Type 0) (fs : List Fact)
    → AllOf (λ f. P (arc_shown f)) fs → AllOf P (map arc_shown (in_falling l fs))
arcs_own l P fs all =
    all_map P arc_shown (in_falling l fs) (all_falling l (λ f. P (arc_shown f)) fs all)

module _ (v : Present) (nodes arcs : List Marked) (ends : HasEnds nodes arcs)
    (filtered : AreFiltered v nodes arcs) where
  abbrev ns : List Fact
  ns = facts_of_marked nodes

  abbrev fs : List Fact
  fs = facts_of_marked arcs

  nodes_as : (i : ℕ) → IsTrue (has_id fact_id i ns) → is_shown nodes i ≡ v.keeps_node i
  nodes_as = marked_as (λ m. m.shown) v.keeps_node nodes filtered.nodes

  arcs_as : (i : ℕ) → IsTrue (has_id fact_id i fs) → is_shown arcs i ≡ v.keeps_arc i
  arcs_as = marked_as (λ m. m.shown) v.keeps_arc arcs filtered.arcs

  ends_all : (xs : List Marked) → AllOf (λ (a : Marked). IsTrue (has_id fact_id a.fact.from ns)
      × IsTrue (has_id fact_id a.fact.to ns)) xs
      → AllOf (λ f. IsTrue (has_id fact_id f.from ns) × IsTrue (has_id fact_id f.to ns))
      (facts_of_marked xs)
  ends_all [] all = tt
  ends_all (x ∷ xs) all = (all.0, ends_all xs all.1)

  both_all : (P Q : Fact → Type 0) (xs : List Fact) → AllOf P xs → AllOf Q xs
      → AllOf (λ f. P f × Q f) xs
  both_all P Q [] p q = tt
  both_all P Q (x ∷ xs) p q = ((p.0, q.0), both_all P Q xs p.1 q.1)

  abbrev Alike : ShownArc → Type 0
  Alike a = is_kept (is_shown nodes) (is_shown arcs) a ≡ is_kept v.keeps_node v.keeps_arc a

  arcs_alike : AllOf (λ f. Alike (arc_shown f)) fs
  arcs_alike =
      all_more (λ f e.
      let a = e.0 in
      let from = nodes_as f.from e.1.0 in
      let to = nodes_as f.to e.1.1 in
      λ i. a i && from i && to i)
      fs
      (both_all (λ f. is_shown arcs f.id ≡ v.keeps_arc f.id)
      (λ f. IsTrue (has_id fact_id f.from ns) × IsTrue (has_id fact_id f.to ns)) fs
      (all_own (λ f. is_shown arcs f.id ≡ v.keeps_arc f.id) fs (λ f t. arcs_as f.id t))
      (ends_all arcs ends))

  arcs_by : (l : Listing)
      → filter (is_kept (is_shown nodes) (is_shown arcs)) (map arc_shown (in_falling l fs))
      ≡ filter (is_kept v.keeps_node v.keeps_arc) (map arc_shown (in_falling l fs))
  arcs_by l =
      same_filter (is_kept (is_shown nodes) (is_shown arcs)) (is_kept v.keeps_node v.keeps_arc)
      (map arc_shown (in_falling l fs)) (arcs_own l Alike fs arcs_alike)

  pub sub_by_marks : sub (is_shown nodes) (is_shown arcs) (stored ns fs)
      ≡ sub v.keeps_node v.keeps_arc (stored ns fs)
  sub_by_marks =
      let one = same_filter (is_shown nodes) v.keeps_node (map fact_id (in_falling Whole ns))
      (all_map (λ i. is_shown nodes i ≡ v.keeps_node i) fact_id (in_falling Whole ns)
      (all_falling Whole (λ f. is_shown nodes f.id ≡ v.keeps_node f.id) ns
      (all_own (λ f. is_shown nodes f.id ≡ v.keeps_node f.id) ns (λ f t. nodes_as f.id t)))) in
      let two = arcs_by BySource in
      let three = arcs_by ByTarget in
      λ i. record { nodes = one i; by_source = two i; by_target = three i }
