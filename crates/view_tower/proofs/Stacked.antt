-- One more level: what it asks comes from live items, and what it shows is the tower with one more
-- layer.
use Rattle.std.proofs.Common.{◌≡◌, ℕ, suc, ◌+◌, ◌<◌, Bool, true, List, [], ◌∷◌, ℤ, map}
use Rattle.std.proofs.Common.{reverse}
use Rattle.std.proofs.Common.{length, take, get_or, ap, sym, ◌∙◌, arith}
use Rattle.std.proofs.Math.Seq.{take-suc}
use Rattle.std.proofs.lemmas.List.{reverse-append, map-append}
use Rattle.base_items.specs.declared.items.ItemSort.{ItemSort}
use Rattle.base_items.specs.declared.items.ItemSort.TheVariants as sorts
use Rattle.plain_digraph.specs.Lists.{has}
use Rattle.plain_digraph.specs.Digraph.{Digraph}
use Rattle.plain_digraph.specs.Items.{IsLive}
use Rattle.plain_digraph.specs.Valid.{IsValid}
use Rattle.plain_views.specs.Shown.{Shown, has_arc}
use Rattle.plain_views.specs.Adaptors.{sub, residual}
use Rattle.plain_views.specs.Towers as plain
use Rattle.plain_views.specs.Towers.{Values, shown, base_node}
use Rattle.plain_views.specs.Marks.{Origin, FromArc, FromNode, arc_origin}
use Rattle.plain_views.specs.TowerLaws.{IsLiveOrigin}
use Rattle.plain_views.proofs.Towered.{base_node_live, origin_live}
use Rattle.view_tower.specs.declared.layers.Layer.{Layer}
use Rattle.view_tower.specs.declared.level.How.{How}
use Rattle.view_tower.specs.declared.level.How.TheVariants.{Sub, Residual}
use Rattle.view_tower.specs.Layers.{layer_of, tower_of}
use Rattle.view_tower.specs.Levels.{level_of}
use Rattle.view_tower.specs.Origins.{is_live_origin}

-- ---- what is asked is live

module _ (values : Values ℕ) (g : Digraph) (is_live : ItemSort → ℕ → Bool) (valid : IsValid g)
    (live : (sort : ItemSort) (id : ℕ) → IsLive g sort id → is_live sort id ≡ true) where
  pub node_is_live : (p : Shown) (tower : List (plain.Layer ℕ)) → p ≡ shown values g tower
      → (node : ℕ) → has p.nodes node ≡ true
      → is_live sorts.Node (base_node tower node) ≡ true
  node_is_live p tower shows node at =
      live sorts.Node (base_node tower node)
      (base_node_live ℕ values g valid tower node
      (sym (ap (λ (q : Shown). has q.nodes node) shows) ∙ at))

  by_origin : (origin : Origin) → IsLiveOrigin g origin → is_live_origin is_live origin ≡ true
  by_origin (FromArc arc) from = live sorts.Arc arc from
  by_origin (FromNode node) from = live sorts.Node node from

  pub origin_is_live : (p : Shown) (tower : List (plain.Layer ℕ)) → p ≡ shown values g tower
      → (arc : ℕ) → has_arc p arc ≡ true
      → is_live_origin is_live (arc_origin tower arc) ≡ true
  origin_is_live p tower shows arc at =
      by_origin (arc_origin tower arc)
      (origin_live ℕ values g valid tower arc
      (sym (ap (λ (q : Shown). has_arc q arc) shows) ∙ at))

-- ---- what is shown

module _ {F C : Type 0} (node arc : F → ℕ → Bool) (cap flow : C → ℕ → ℤ) (how : How F C)
    (q p : Shown) (same : q ≡ p) where
  pub sub_level : (filter : F) (n a : ℕ → Bool) → how ≡ Sub filter → node filter ≡ n
      → arc filter ≡ a → level_of node arc cap flow how q ≡ sub n a p
  sub_level filter n a is nodes arcs =
      ap (λ h. level_of node arc cap flow h q) is ∙ (λ i. sub (nodes i) (arcs i) (same i))

  pub residual_level : (rooms : C) (c f : ℕ → ℤ) → how ≡ Residual rooms → cap rooms ≡ c
      → flow rooms ≡ f → level_of node arc cap flow how q ≡ residual c f p
  residual_level rooms c f is caps flows =
      ap (λ h. level_of node arc cap flow h q) is ∙ (λ i. residual (caps i) (flows i) (same i))

-- the tower with one more layer
pub tower_step : (layers : List Layer) (at : ℕ) (layer other : Layer) → at < length layers
    → get_or layers at other ≡ layer
    → tower_of (take (at + 1) layers) ≡ layer_of layer ∷ tower_of (take at layers)
tower_step layers at layer other below is =
    let next : at + 1 ≡ suc at = omega arith in
    ap (λ n. tower_of (take n layers)) next ∙ ap tower_of (take-suc layers at other below)
    ∙ ap reverse (map-append layer_of (take at layers) (get_or layers at other ∷ []))
    ∙ reverse-append (map layer_of (take at layers)) (layer_of (get_or layers at other) ∷ [])
    ∙ ap (λ l. layer_of l ∷ tower_of (take at layers)) is
