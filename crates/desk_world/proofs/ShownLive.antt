-- What a tower shows comes from live items, and so does what is listed of it.
use Rattle.std.proofs.Common.{◌≡◌, ℕ, Bool, true, false, cond, not, List, [], ◌∷◌, map}
use Rattle.std.proofs.Common.{refl, sym, ap, subst, ◌∙◌, Some, length, take, ◌≤◌}
use Rattle.std.specs.Prelude.{◌==◌, ◌||◌, ◌&&◌, filter}
use Rattle.std.specs.List.{flat_map, list_any}
use Rattle.std.specs.Str.{bytes_eq}
use Rattle.std.proofs.lemmas.Bool.{eq-eqb, or_right}
use Rattle.std.proofs.lemmas.List.{take_all}
use Rattle.base_items.specs.declared.items.Fact.{Fact}
use Rattle.base_items.specs.declared.items.ItemSort.TheVariants.{Node}
use Rattle.script_words.specs.declared.commands.Direction.{Direction}
use Rattle.script_words.specs.declared.commands.Direction.TheVariants.{In, Out}
use Rattle.plain_digraph.specs.Digraph.{Digraph}
use Rattle.plain_digraph.specs.Items.{IsLive}
use Rattle.plain_digraph.specs.Lists.{AllOf, has}
use Rattle.plain_digraph.specs.Valid.{IsValid}
use Rattle.plain_views.specs.Shown.{Shown, ShownArc, IsShown, arc_ids, arcs_from, arcs_in_order}
use Rattle.plain_views.specs.Shown.{has_arc, has_ends}
use Rattle.plain_views.specs.Towers.{Layer, Values, base_node, shown}
use Rattle.plain_views.proofs.Towered.{base_node_live, origin_live}
use Rattle.plain_views.proofs.Walks.{and_left, and_right}
use Rattle.view_numbers.specs.Listed.{fact_shown, facts_of}
use Rattle.view_tower.specs.declared.layers.Layer as code
use Rattle.view_tower.specs.Layers.{tower_of}
use Rattle.plain_world.specs.Tables.{Name}
use Rattle.plain_world.specs.World.{World}
use Rattle.desk_world.specs.Naming.{ComesFromLive, ShowsLive, node_called}
use Rattle.desk_world.specs.NodeWords.{node_called_so}
use Rattle.desk_world.specs.Shown.{arcs_at}
use Rattle.desk_world.proofs.WordsRead.{listed}
use Rattle.desk_world.proofs.Seated.{all_both}

-- ---- lists

all_listed : (P : ℕ → Type 0) (xs : List ℕ) → ((x : ℕ) → has xs x ≡ true → P x) → AllOf P xs
all_listed P [] so = tt
all_listed P (x ∷ xs) so = (
  so x (ap (λ b. b || has xs x) (eq-eqb x x refl)),
  all_listed P xs (λ y there. so y (or_right (x == y) (has xs y) there)),
)

module _ {X : Type 0} where
  all_by_any : (test : X → Bool) (xs : List X) → list_any (λ x. not (test x)) xs ≡ false
      → AllOf (λ x. test x ≡ true) xs
  all_by_any test [] none = tt
  all_by_any test (x ∷ xs) none =
      let parts = both (test x) (list_any (λ y. not (test y)) xs) none in
      (parts.0, all_by_any test xs parts.1)
    where
      both : (a b : Bool) → (not a || b) ≡ false → (a ≡ true) × (b ≡ false)
      both true b e = (refl, e)
      both false b e = absurd cc

  any_by_all : (test : X → Bool) (xs : List X) → AllOf (λ x. test x ≡ true) xs
      → list_any (λ x. not (test x)) xs ≡ false
  any_by_all test [] all = refl
  any_by_all test (x ∷ xs) all =
      let rest = any_by_all test xs all.1 in λ i. not (all.0 i) || rest i

  all_kept : (P : X → Type 0) (keep : X → Bool) (xs : List X) → AllOf P xs
      → AllOf P (filter keep xs)
  all_kept P keep [] all = tt
  all_kept P keep (x ∷ xs) all =
      let rest = all_kept P keep xs all.1 in
      let own = all.0 in
      elim (keep x) as (λ b. AllOf P (cond b (x ∷ filter keep xs) (filter keep xs))) [
        | true ↦ (own, rest)
        | false ↦ rest
      ]

  all_flat : (P : X → Type 0) (f : ℕ → List X) (ns : List ℕ) → ((n : ℕ) → AllOf P (f n))
      → AllOf P (flat_map f ns)
  all_flat P f [] all = tt
  all_flat P f (n ∷ ns) all = all_both P (f n) (flat_map f ns) (all n) (all_flat P f ns all)

all_facts : (P : Fact → Type 0) (arcs : List ShownArc) → AllOf (λ arc. P (fact_shown arc)) arcs
    → AllOf P (map fact_shown arcs)
all_facts P [] all = tt
all_facts P (arc ∷ arcs) all = (all.0, all_facts P arcs all.1)

-- ---- arcs

module _ (p : Shown) (ok : IsShown p) where
  -- the arc and both its ends are shown
  abbrev is_whole : ShownArc → Bool
  is_whole arc = has_ends p.nodes arc && has_arc p arc.id

  own_ids : (arcs : List ShownArc)
      → ((id : ℕ) → has (arc_ids arcs) id ≡ true → has_arc p id ≡ true)
      → AllOf (λ arc. has_ends p.nodes arc ≡ true) arcs → AllOf (λ arc. is_whole arc ≡ true) arcs
  own_ids [] among ends = tt
  own_ids (arc ∷ arcs) among ends = (
    λ i. ends.0 i && among arc.id (ap (λ b. b || has (arc_ids arcs) arc.id)
        (eq-eqb arc.id arc.id refl)) i,
    own_ids arcs (λ id there. among id (or_right (arc.id == id) (has (arc_ids arcs) id) there))
        ends.1,
  )

  by_source : AllOf (λ arc. is_whole arc ≡ true) p.by_source
  by_source =
      own_ids p.by_source (λ id there. there)
      (all_by_any (has_ends p.nodes) p.by_source ok.ends_shown)

  by_target : AllOf (λ arc. is_whole arc ≡ true) p.by_target
  by_target =
      all_by_any is_whole p.by_target
      (sym (ok.same_arcs (λ arc. not (is_whole arc)))
      ∙ any_by_all is_whole p.by_source by_source)

  in_order : AllOf (λ arc. is_whole arc ≡ true) (arcs_in_order p)
  in_order =
      all_flat (λ arc. is_whole arc ≡ true) (arcs_from p) p.nodes
      (λ node. all_kept (λ arc. is_whole arc ≡ true) (λ arc. arc.from == node) p.by_source
      by_source)

  at_node : (way : Direction) (node : ℕ) → AllOf (λ arc. is_whole arc ≡ true) (arcs_at way p node)
  at_node Out node =
      all_kept (λ arc. is_whole arc ≡ true) (λ arc. arc.from == node) p.by_source by_source
  at_node In node =
      all_kept (λ arc. is_whole arc ≡ true) (λ arc. arc.to == node) p.by_target by_target

  module _ {M : Type 0} (g : Digraph) (tower : List (Layer M)) (live : ShowsLive g tower p) where
    comes : (arc : ShownArc) → is_whole arc ≡ true → ComesFromLive g tower (fact_shown arc)
    comes arc is =
        let ends = and_left (has_ends p.nodes arc) (has_arc p arc.id) is in
        record {
          origin = live.arcs arc.id (and_right (has_ends p.nodes arc) (has_arc p arc.id) is);
          from = live.nodes arc.from
              (and_left (has p.nodes arc.from) (has p.nodes arc.to) ends);
          to = live.nodes arc.to (and_right (has p.nodes arc.from) (has p.nodes arc.to) ends);
        }

    all_come : (arcs : List ShownArc) → AllOf (λ arc. is_whole arc ≡ true) arcs
        → AllOf (ComesFromLive g tower) (map fact_shown arcs)
    all_come arcs all = all_facts (ComesFromLive g tower) arcs (each arcs all)
      where
        each : (arcs : List ShownArc) → AllOf (λ arc. is_whole arc ≡ true) arcs
            → AllOf (λ arc. ComesFromLive g tower (fact_shown arc)) arcs
        each [] all = tt
        each (arc ∷ arcs) all = (comes arc all.0, each arcs all.1)

    pub facts_live : AllOf (ComesFromLive g tower) (facts_of p)
    facts_live = all_come (arcs_in_order p) in_order

    pub facts_live_at : (way : Direction) (node : ℕ)
        → AllOf (ComesFromLive g tower) (map fact_shown (arcs_at way p node))
    facts_live_at way node = all_come (arcs_at way p node) (at_node way node)

module _ {M : Type 0} (g : Digraph) (tower : List (Layer M)) (p : Shown)
    (live : ShowsLive g tower p) where
  pub nodes_live : AllOf (λ node. IsLive g Node (base_node tower node)) p.nodes
  nodes_live =
      all_listed (λ node. IsLive g Node (base_node tower node)) p.nodes live.nodes

-- a node that is found by its name is shown
pub found_there : {M : Type 0} (world : World) (tower : List (Layer M)) (p : Shown) (name : Name)
    (node : ℕ) → node_called_so world tower p name ≡ Some node → has p.nodes node ≡ true
found_there world tower p name node found =
    listed (λ other. bytes_eq (node_called world tower other) name) p.nodes node found

-- all that a tower over a valid digraph shows comes from live items
pub tower_lives : {M : Type 0} (values : Values M) (g : Digraph) (valid : IsValid g)
    (tower : List (Layer M)) (p : Shown) → p ≡ shown values g tower → ShowsLive g tower p
tower_lives {M} values g valid tower p shows =
    subst (ShowsLive g tower) (sym shows)
    (record {
      nodes = base_node_live M values g valid tower;
      arcs = origin_live M values g valid tower;
    })

-- eight levels are all of a tower of at most eight layers
pub all_eight : (values : Values ℕ) (g h : Digraph) (layers : List code.Layer) (p : Shown)
    → length layers ≤ 8 → h ≡ g → p ≡ shown values h (tower_of (take 8 layers))
    → p ≡ shown values g (tower_of layers)
all_eight values g h layers p few same shows =
    shows ∙ (λ i. shown values (same i) (tower_of (take_all 8 layers few i)))
