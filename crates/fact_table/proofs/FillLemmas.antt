use Rattle.std.proofs.Common.{◌≡◌, ℕ, ◌+◌, ◌<◌, length, List, [], ◌∷◌, sym, drop, get_or, drop-cons}
use Rattle.std.proofs.Common.{arith, suc, subst, ◌∙◌, ap}
use Rattle.base_items.specs.declared.items.Fact.{Fact}
use Rattle.plain_digraph.specs.Facts.{fact_id}
use Rattle.plain_digraph.specs.Rising.{with_item}
use Rattle.observe_core.specs.Items.{Lacks, place_all}
use Rattle.observe_core.specs.Facts.{HasDistinctIds, AllInBounds}
use Rattle.observe_core.proofs.SlotLemmas.{lacks-place}
use Rattle.fact_table.specs.Filling.{Fresh}

pub fresh-start : (all : List Fact) → HasDistinctIds all → AllInBounds all → Fresh all []
fresh-start [] d b = tt
fresh-start (f ∷ fs) d b = (tt, (d.0, (b.0, fresh-start fs d.1 b.1)))

pub fresh-place : (f : Fact) (fs there : List Fact) → Lacks fact_id f.id fs → Fresh fs there
    → Fresh fs (with_item fact_id f there)
fresh-place f [] there l h = tt
fresh-place f (g ∷ fs) there l h = (
  lacks-place fact_id g.id f there (λ e. l.0 (sym e)) h.0,
  (h.1.0, (h.1.1.0, fresh-place f fs there l.1 h.1.1.1)),
)

module _ (all : List Fact) (i : ℕ) (d : Fact) (l : i < length all) where
  front : drop i all ≡ get_or all i d ∷ drop (i + 1) all
  front = let e : suc i ≡ i + 1 = omega arith in drop-cons all i d l
      ∙ ap (λ n. get_or all i d ∷ drop n all) e

  pub fill-target : (there now t : List Fact) → now ≡ with_item fact_id (get_or all i d) there
      → place_all fact_id (drop i all) there ≡ t → place_all fact_id (drop (i + 1) all) now ≡ t
  fill-target there now t e h =
      let h2 : place_all fact_id (get_or all i d ∷ drop (i + 1) all) there ≡ t =
      subst (λ xs. place_all fact_id xs there ≡ t) front h in
      ap (place_all fact_id (drop (i + 1) all)) e ∙ h2

  pub fill-fresh : (there now : List Fact) → now ≡ with_item fact_id (get_or all i d) there
      → Fresh (drop i all) there → Fresh (drop (i + 1) all) now
  fill-fresh there now e h =
      let h2 : Fresh (get_or all i d ∷ drop (i + 1) all) there =
      subst (λ xs. Fresh xs there) front h in
      subst (Fresh (drop (i + 1) all)) (sym e)
      (fresh-place (get_or all i d) (drop (i + 1) all) there h2.1.0 h2.1.1.1)
