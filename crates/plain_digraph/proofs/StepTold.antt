-- What is told of each item after a move or an erasure.
use Rattle.std.proofs.Common.{◌≡◌, ℕ, ◌+◌, cond, List, Some, None, Option, option_map, inl, inr}
use Rattle.std.proofs.Common.{refl, sym, ap, subst, ◌∙◌}
use Rattle.std.specs.Prelude.{◌==◌}
use Rattle.std.specs.Option.{option_map_or}
use Rattle.std.specs.FinMap as fin
use Rattle.std.proofs.lemmas.Bool.{eq-eqb, ne_eqb, cases_eq}
use Rattle.base_items.specs.declared.items.Fact.{Fact}
use Rattle.base_items.specs.declared.items.ItemSort.TheVariants as sorts
use Rattle.plain_digraph.specs.Facts.{with_source, with_target, turned}
use Rattle.plain_digraph.specs.Digraph.{Digraph, Place}
use Rattle.plain_digraph.specs.Items.{stamp_of, fact_of, node_fact, source_of, target_of}
use Rattle.plain_digraph.specs.Steps.{in_front, by_stamp, unplaced, relaid, erase_arc, erase_node}
use Rattle.plain_digraph.specs.ToldLaws.{Tells, MovedSourceTells, MovedTargetTells, TurnedTells}
use Rattle.plain_digraph.specs.ToldLaws.{PlacedTells, ErasedArcTells, ErasedNodeTells}
use Rattle.plain_digraph.proofs.Keys.{get_new, get_other}
use Rattle.plain_digraph.proofs.Rows.{stamp_new, arc_told}
use Rattle.plain_digraph.proofs.Places.{stamp_of-gone, stamp_of-unplaced, stamp_of-in_front}
use Rattle.plain_digraph.proofs.Places.{stamp_of-by_stamp, stamp_of-by_stamp_other}
use Rattle.plain_digraph.proofs.Changes.{get_gone, get_left}
use Rattle.plain_digraph.proofs.Undone.{told_parts}

-- what is told of one id, and of the others
by_id : (told : ℕ → Option Fact) (new : ℕ → Option Fact) (own : ℕ) (now : Option Fact)
    → new own ≡ now
    → ((x : ℕ) → (x ≡ own → ⊥) → new x ≡ told x) → (id : ℕ)
    → new id ≡ cond (id == own) now (told id)
by_id told new own now here others id = elim (cases_eq id own) [
  | inl same ↦ ap new same ∙ here ∙ ap (λ b. cond b now (told id)) (sym (eq-eqb id own same))
  | inr other ↦ others id other ∙ ap (λ b. cond b now (told id)) (sym (ne_eqb id own other))
]

-- ---- an arc that is laid anew

-- the list has this stamp of the id, and the same of the others
record IsLaid (old : List Place) (id at : ℕ) (new : List Place) : Type 0 where
  pub own : stamp_of new id ≡ Some at
  pub others : (x : ℕ) → (x ≡ id → ⊥) → stamp_of new x ≡ stamp_of old x

laid_in_front : (places : List Place) (id at : ℕ) → IsLaid places id at (in_front places id at)
laid_in_front places id at =
    record { own = stamp_new (unplaced places id) id at; others = stamp_of-in_front places id at }

laid_by_stamp : (places : List Place) (id at : ℕ) → IsLaid places id at (by_stamp places id at)
laid_by_stamp places id at =
    record { own = stamp_of-by_stamp places id at; others = stamp_of-by_stamp_other places id at }

laid_still : (places : List Place) (id at : ℕ) → stamp_of places id ≡ Some at
    → IsLaid places id at places
laid_still places id at own = record { own = own; others = λ x other. refl }

tells : (g : Digraph) (now : Fact) (sources targets : List Place) (stamps : ℕ)
    → IsLaid g.by_source now.id now.from_at sources → IsLaid g.by_target now.id now.to_at targets
    → Tells g now (relaid g now.id now.from now.to sources targets stamps)
tells g now sources targets stamps source target =
    let new : Digraph = relaid g now.id now.from now.to sources targets stamps in
    let ends = get_new g.ends now.id (now.from, now.to) in
    let from_at = source.own in
    let to_at = target.own in
    record {
      arcs = by_id (fact_of g sorts.Arc) (fact_of new sorts.Arc) now.id (Some now)
          (λ i. arc_told now.id (ends i) (from_at i) (to_at i))
          (λ x other.
          let e = get_other g.ends now.id (now.from, now.to) x other in
          let f = source.others x other in
          let t = target.others x other in
          λ i. arc_told x (e i) (f i) (t i));
      nodes = λ id. refl;
    }

module _ (g : Digraph) (fact : Fact) (told : fact_of g sorts.Arc fact.id ≡ Some fact) where
  ends_is : fin.get g.ends fact.id ≡ Some (fact.from, fact.to)
  ends_is = (told_parts fact.id (fin.get g.ends fact.id) (stamp_of g.by_source fact.id)
      (stamp_of g.by_target fact.id) fact told).1

  source_is : source_of g fact.id ≡ fact.from
  source_is = ap (λ o. option_map_or (λ (e : ℕ × ℕ). e.0) o 0) ends_is

  target_is : target_of g fact.id ≡ fact.to
  target_is = ap (λ o. option_map_or (λ (e : ℕ × ℕ). e.1) o 0) ends_is

  still_source : IsLaid g.by_source fact.id fact.from_at g.by_source
  still_source = laid_still g.by_source fact.id fact.from_at
      (told_parts fact.id (fin.get g.ends fact.id) (stamp_of g.by_source fact.id)
      (stamp_of g.by_target fact.id) fact told).2

  still_target : IsLaid g.by_target fact.id fact.to_at g.by_target
  still_target = laid_still g.by_target fact.id fact.to_at
      (told_parts fact.id (fin.get g.ends fact.id) (stamp_of g.by_source fact.id)
      (stamp_of g.by_target fact.id) fact told).3

pub moved_source_tells : MovedSourceTells
moved_source_tells g fact node told =
    let sources : List Place = in_front g.by_source fact.id g.stamps in
    subst (λ to.
    Tells g (with_source fact node g.stamps)
    (relaid g fact.id node to sources g.by_target (g.stamps + 1)))
    (sym (target_is g fact told))
    (tells g (with_source fact node g.stamps) sources g.by_target (g.stamps + 1)
    (laid_in_front g.by_source fact.id g.stamps) (still_target g fact told))

pub moved_target_tells : MovedTargetTells
moved_target_tells g fact node told =
    let targets : List Place = in_front g.by_target fact.id g.stamps in
    subst (λ from.
    Tells g (with_target fact node g.stamps)
    (relaid g fact.id from node g.by_source targets (g.stamps + 1)))
    (sym (source_is g fact told))
    (tells g (with_target fact node g.stamps) g.by_source targets (g.stamps + 1)
    (still_source g fact told) (laid_in_front g.by_target fact.id g.stamps))

pub turned_tells : TurnedTells
turned_tells g fact told =
    let sources : List Place = in_front g.by_source fact.id g.stamps in
    let targets : List Place = in_front g.by_target fact.id g.stamps in
    let from : fact.to ≡ target_of g fact.id = sym (target_is g fact told) in
    let to : fact.from ≡ source_of g fact.id = sym (source_is g fact told) in
    let is : relaid g fact.id fact.to fact.from sources targets (g.stamps + 1)
    ≡ relaid g fact.id (target_of g fact.id) (source_of g fact.id) sources targets
    (g.stamps + 1) =
    λ i. relaid g fact.id (from i) (to i) sources targets (g.stamps + 1) in
    subst (Tells g (turned fact g.stamps)) is
    (tells g (turned fact g.stamps) sources targets (g.stamps + 1)
    (laid_in_front g.by_source fact.id g.stamps) (laid_in_front g.by_target fact.id g.stamps))

pub placed_tells : PlacedTells
placed_tells g fact =
    tells g fact (by_stamp g.by_source fact.id fact.from_at)
    (by_stamp g.by_target fact.id fact.to_at) (g.stamps + 1)
    (laid_by_stamp g.by_source fact.id fact.from_at) (laid_by_stamp g.by_target fact.id fact.to_at)

-- ---- erasures

pub erased_arc_tells : ErasedArcTells
erased_arc_tells g arc id = (
  by_id (fact_of g sorts.Arc) (fact_of (erase_arc g arc) sorts.Arc) arc None
      (ap (λ o. arc_told arc o (stamp_of (unplaced g.by_source arc) arc)
      (stamp_of (unplaced g.by_target arc) arc)) (get_gone g.ends arc))
      (λ x other.
      let e = get_left g.ends arc x other in
      let f = stamp_of-unplaced g.by_source arc x other in
      let t = stamp_of-unplaced g.by_target arc x other in
      λ i. arc_told x (e i) (f i) (t i)) id,
  refl,
)

pub erased_node_tells : ErasedNodeTells
erased_node_tells g node id = (
  by_id (fact_of g sorts.Node) (fact_of (erase_node g node) sorts.Node) node None
      (ap (option_map (node_fact node)) (stamp_of-gone g.nodes node))
      (λ x other. ap (option_map (node_fact x)) (stamp_of-unplaced g.nodes node x other)) id,
  refl,
)
