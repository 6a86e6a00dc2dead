-- What a tower over a valid digraph shows comes from live items, also when it is listed by number.
use Rattle.std.proofs.Common.{◌≡◌, ℕ, zero, suc, ◌<◌, Bool, true, List, [], ◌∷◌, length, All}
use Rattle.std.proofs.Common.{refl, sym, ap, ◌∙◌, subst, arith, get_or}
use Rattle.std.specs.Prelude.{◌==◌, ◌||◌}
use Rattle.std.specs.List.{flat_map}
use Rattle.std.proofs.lemmas.Bool.{eq-eqb, or_right}
use Rattle.std.proofs.Math.ListN.{get_or-map}
use Rattle.std.proofs.lemmas.List.{length-map}
use Rattle.std.proofs.lemmas.List.Elements.{All-nil, All-append, All-filter}
use Rattle.base_items.specs.declared.items.ItemSort.{ItemSort}
use Rattle.base_items.specs.declared.items.ItemSort.TheVariants as sorts
use Rattle.plain_digraph.specs.Digraph.{Digraph}
use Rattle.plain_digraph.specs.Items.{IsLive}
use Rattle.plain_digraph.specs.Lists.{has}
use Rattle.plain_digraph.specs.Valid.{IsValid}
use Rattle.plain_certificates.specs.Numbering.{arc_at}
use Rattle.plain_certificates.specs.Tables.{at}
use Rattle.plain_views.specs.Marks.{Origin, FromArc, FromNode, arc_origin}
use Rattle.plain_views.specs.Shown.{Shown, ShownArc, arc_ids, arcs_from, arcs_in_order, has_arc}
use Rattle.plain_views.specs.TowerLaws.{IsLiveOrigin}
use Rattle.plain_views.specs.Towers.{Layer, Values, base_node, shown}
use Rattle.plain_views.proofs.Towered.{base_node_live, origin_live}
use Rattle.static_digraph.specs.Fixed.{FixedOf}
use Rattle.view_numbers.specs.Listed.{Numbers}
use Rattle.view_tower.specs.Origins.{is_live_origin}
use Rattle.tower_numbers.specs.Live.{AreLiveArcs, AreLiveNodes}

-- a list has what stands in it
pub has_at : (xs : List ℕ) (k d : ℕ) → k < length xs → has xs (get_or xs k d) ≡ true
has_at [] k d below = absurd (omega (arith, below))
has_at (x ∷ xs) zero d below = ap (λ b. b || has xs x) (eq-eqb x x refl)
has_at (x ∷ xs) (suc k) d below =
    or_right (x == get_or xs k d) (has xs (get_or xs k d)) (has_at xs k d (omega (arith, below)))

all_flat : {X : Type 0} (P : X → Type 0) (f : ℕ → List X) (ns : List ℕ)
    → ((n : ℕ) → All P (f n)) → All P (flat_map f ns)
all_flat P f [] so = All-nil P
all_flat P f (n ∷ ns) so = All-append P (f n) (flat_map f ns) (so n) (all_flat P f ns so)

module _ (p : Shown) where
  -- each arc in order is shown
  in_order : All (λ arc. has_arc p arc.id ≡ true) (arcs_in_order p)
  in_order =
      let P : ShownArc → Type 0 = λ arc. has_arc p arc.id ≡ true in
      let own : All P p.by_source = λ k d below.
      (let size = length-map p.by_source (λ (arc : ShownArc). arc.id) in
      subst (λ id. has (arc_ids p.by_source) id ≡ true)
      (get_or-map (λ (arc : ShownArc). arc.id) p.by_source k d)
      (has_at (arc_ids p.by_source) k d.id (omega (arith, below, size)))) in
      all_flat P (arcs_from p) p.nodes
      (λ node. All-filter (λ arc. arc.from == node) P p.by_source own)

module _ {M : Type 0} (values : Values M) (g : Digraph) (tower : List (Layer M)) (ok : IsValid g)
    (live : ItemSort → ℕ → Bool)
    (lives : (sort : ItemSort) (id : ℕ) → IsLive g sort id → live sort id ≡ true)
    (f : FixedOf) (numbers : Numbers (shown values g tower) f) where
  pub live_nodes : AreLiveNodes live tower f.nodes
  live_nodes k below =
      lives sorts.Node (base_node tower (at 0 f.nodes k))
      (base_node_live M values g ok tower (at 0 f.nodes k)
      (subst (λ ids. has ids (at 0 f.nodes k) ≡ true) numbers.nodes (has_at f.nodes k 0 below)))

  by_origin : (origin : Origin) → IsLiveOrigin g origin → is_live_origin live origin ≡ true
  by_origin (FromArc arc) is = lives sorts.Arc arc is
  by_origin (FromNode node) is = lives sorts.Node node is

  pub live_arcs : AreLiveArcs live tower f.arcs
  live_arcs k below =
      let p = shown values g tower in
      let none : ShownArc = record { id = 0; from = 0; to = 0 } in
      let size = ap length numbers.arcs
      ∙ length-map (arcs_in_order p) (λ (arc : ShownArc). arc.id) in
      let id : at 0 f.arcs k ≡ (arc_at p k).id =
      ap (λ ids. at 0 ids k) numbers.arcs
      ∙ get_or-map (λ (arc : ShownArc). arc.id) (arcs_in_order p) k none in
      by_origin (arc_origin tower (at 0 f.arcs k))
      (origin_live M values g ok tower (at 0 f.arcs k)
      (subst (λ id. has_arc p id ≡ true) (sym id)
      (in_order p k none (omega (arith, below, size)))))
