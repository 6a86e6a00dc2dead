-- The rows of a document may be put to a world in two passes: first the items, and then their
-- labels and texts.
use Rattle.std.proofs.Common.{◌≡◌, ℕ, ◌+◌, ◌<◌, List, [], ◌∷◌, map, refl, sym, ap, ◌∙◌, subst}
use Rattle.std.proofs.Common.{Option, arith, inl, inr}
use Rattle.std.specs.Prelude.{fold, pos, false}
use Rattle.std.specs.Cmp.{nat_cmp_total}
use Rattle.std.specs.FinMap as fin
use Rattle.std.proofs.lemmas.Bool.{cases_eq}
use Rattle.base_items.specs.declared.items.ItemSort.TheVariants.{Node, Arc}
use Rattle.lgf_file.specs.Rows.{Cells}
use Rattle.lgf_file.specs.declared.documents.Link.{Link}
use Rattle.plain_digraph.specs.Digraph.{Digraph}
use Rattle.plain_digraph.specs.Steps.{new_node, new_arc, next_id, used_after}
use Rattle.plain_digraph.specs.Lists.{all_but_first}
use Rattle.plain_digraph.specs.PlainSteps.{Change, Untouched, Added, AddNode, AddArc}
use Rattle.plain_digraph.proofs.Keys.{get_new, get_other}
use Rattle.plain_world.specs.Tables.{Named, under}
use Rattle.plain_world.specs.World.{World, Column, Held, Ints, Bools, Texts, Degrees}
use Rattle.plain_world.specs.World.{Trues}
use Rattle.plain_world.specs.Values.{written_at}
use Rattle.plain_world.specs.Following.{follow, held_after}
use Rattle.plain_world.specs.Documents.{described, with_texts, with_row, with_link}
use Rattle.desk_world.specs.Loading.{with_nodes, with_arcs, values_of, all_described, in_two}

-- ---- columns

-- values that are put to two items may be put in either order
insert_apart : {X : Type 0} (m : Column X) (a b : ℕ) (x y : X) → (a ≡ b → ⊥)
    → fin.insert (fin.insert m a x) b y ≡ fin.insert (fin.insert m b y) a x
insert_apart {X} m a b x y apart =
    fin.same_map nat_cmp_total fin.nat_cmp-IsAntisymmetric
    (fin.insert (fin.insert m a x) b y) (fin.insert (fin.insert m b y) a x) at
  where
    at : (q : ℕ) → fin.get (fin.insert (fin.insert m a x) b y) q
        ≡ fin.get (fin.insert (fin.insert m b y) a x) q
    at q = elim (cases_eq q b) [
      | inl here ↦
          subst (λ n. fin.get (fin.insert (fin.insert m a x) b y) n
          ≡ fin.get (fin.insert (fin.insert m b y) a x) n) (sym here)
          (get_new (fin.insert m a x) b y
          ∙ sym (get_other (fin.insert m b y) a x b (λ e. apart (sym e)) ∙ get_new m b y))
      | inr other ↦ elim (cases_eq q a) [
        | inl here ↦
            subst (λ n. fin.get (fin.insert (fin.insert m a x) b y) n
            ≡ fin.get (fin.insert (fin.insert m b y) a x) n) (sym here)
            (get_other (fin.insert m a x) b y a apart ∙ get_new m a x
            ∙ sym (get_new (fin.insert m b y) a x))
        | inr further ↦
            get_other (fin.insert m a x) b y q other ∙ get_other m a x q further
            ∙ sym (get_other (fin.insert m b y) a x q further ∙ get_other m b y q other)
      ]
    ]

-- ---- one item's description, and a step that doesn't touch the item

-- the change may come before what is written at the item, or behind it
abbrev Passes : Change → ℕ → Type 0
Passes change id = (held : Held) (text : List ℕ)
    → held_after change (written_at held id text) ≡ written_at (held_after change held) id text

added_passes : (new id : ℕ) → (id ≡ new → ⊥) → Passes (Added new) id
added_passes new id apart (Ints column) text =
    ap Ints (insert_apart column id new _ (pos 0) apart)
added_passes new id apart (Bools column) text =
    ap Bools (insert_apart column id new _ false apart)
added_passes new id apart (Texts column) text =
    ap Texts (insert_apart column id new text [] apart)
added_passes new id apart (Degrees way) text = refl
added_passes new id apart (Trues of) text = refl

untouched_passes : (id : ℕ) → Passes Untouched id
untouched_passes id (Ints column) text = refl
untouched_passes id (Bools column) text = refl
untouched_passes id (Texts column) text = refl
untouched_passes id (Degrees way) text = refl
untouched_passes id (Trues of) text = refl

abbrev told : Change → List (Named Held) → List (Named Held)
told change maps = map (λ e. under e.name (held_after change e.value)) maps

texts_pass : (change : Change) (id : ℕ) → Passes change id → (maps : List (Named Held))
    (texts : Cells)
    → told change (with_texts maps id texts) ≡ with_texts (told change maps) id texts
texts_pass change id passes [] texts = refl
texts_pass change id passes (e ∷ maps) [] = refl
texts_pass change id passes (e ∷ maps) (text ∷ texts) =
    let rest = texts_pass change id passes maps texts in
    let here = passes e.value text in
    λ i. under e.name (here i) ∷ rest i

module _ (place : Option ℕ) (id : ℕ) (cells : Cells) (world : World) where
  -- a node's description, and a node more
  node_passes : (id ≡ new_node world.graph → ⊥)
      → follow (described world Node id place cells) AddNode
      ≡ described (follow world AddNode) Node id place cells
  node_passes apart =
      let new = new_node world.graph in
      let now = described (follow world AddNode) Node id place cells in
      let maps = texts_pass (Added new) id (added_passes new id apart) world.nodes.maps _ in
      λ i. record now { nodes = record now.nodes { maps = maps i } }

  -- a node's description, and an arc more
  arc_passes : (from to : ℕ) → follow (described world Node id place cells) (AddArc from to)
      ≡ described (follow world (AddArc from to)) Node id place cells
  arc_passes from to =
      let now = described (follow world (AddArc from to)) Node id place cells in
      let maps = texts_pass Untouched id (untouched_passes id) world.nodes.maps _ in
      λ i. record now { nodes = record now.nodes { maps = maps i } }

  -- an arc's description, and an arc more
  link_passes : (from to : ℕ) → (id ≡ new_arc world.graph → ⊥)
      → follow (described world Arc id place cells) (AddArc from to)
      ≡ described (follow world (AddArc from to)) Arc id place cells
  link_passes from to apart =
      let new = new_arc world.graph in
      let now = described (follow world (AddArc from to)) Arc id place cells in
      let maps = texts_pass (Added new) id (added_passes new id apart) world.arcs.maps _ in
      λ i. record now { arcs = record now.arcs { maps = maps i } }

-- ---- all items first

module _ (place : Option ℕ) where
  -- ids so far are fresh ones
  abbrev Fresh : List ℕ → ℕ → ℕ → Type 0
  Fresh free used id = (free ≡ []) × (used ≡ id)

  next_is : (free : List ℕ) (used id : ℕ) → Fresh free used id → next_id free used ≡ id
  next_is free used id fresh =
      subst (λ f. next_id f used ≡ id) (sym fresh.0) fresh.1

  more_fresh : (free : List ℕ) (used id : ℕ) → Fresh free used id
      → Fresh (all_but_first free) (used_after free used) (id + 1)
  more_fresh free used id fresh = (
    ap all_but_first fresh.0,
    subst (λ f. used_after f used ≡ id + 1) (sym fresh.0) (ap (λ n. n + 1) fresh.1),
  )

  nodes_pass : (rows : List Cells) (world : World) (id next : ℕ) (cells : Cells)
      → Fresh world.graph.free_nodes world.graph.used_nodes next → id < next
      → with_nodes (described world Node id place cells) rows
      ≡ described (with_nodes world rows) Node id place cells
  nodes_pass [] world id next cells fresh below = refl
  nodes_pass (other ∷ rows) world id next cells fresh below =
      let g = world.graph in
      let new : new_node g ≡ next = next_is g.free_nodes g.used_nodes next fresh in
      let apart : id ≡ new_node g → ⊥ = λ e. omega (arith, e, new, below) in
      ap (λ w. with_nodes w rows) (node_passes place id cells world apart)
      ∙ nodes_pass rows (follow world AddNode) id (next + 1) cells
      (more_fresh g.free_nodes g.used_nodes next fresh) (omega (arith, below))

  -- the nodes first, and then what their rows say
  pub rows_in_two : (rows : List Cells) (world : World) (id : ℕ)
      → Fresh world.graph.free_nodes world.graph.used_nodes id
      → fold (with_row place) world rows
      ≡ all_described Node place (with_nodes world rows) id rows
  rows_in_two [] world id fresh = refl
  rows_in_two (cells ∷ rows) world id fresh =
      let g = world.graph in
      let new : new_node g ≡ id = next_is g.free_nodes g.used_nodes id fresh in
      let next = more_fresh g.free_nodes g.used_nodes id fresh in
      let told = follow world AddNode in
      let here = described told Node id place cells in
      ap (λ n. fold (with_row place) (described told Node n place cells) rows) new
      ∙ rows_in_two rows here (id + 1) next
      ∙ ap (λ w. all_described Node place w (id + 1) rows)
      (nodes_pass rows told id (id + 1) cells next (omega arith))

  arcs_pass : (links : List Link) (world : World) (id next : ℕ) (cells : Cells)
      → Fresh world.graph.free_arcs world.graph.used_arcs next → id < next
      → with_arcs (described world Arc id place cells) links
      ≡ described (with_arcs world links) Arc id place cells
  arcs_pass [] world id next cells fresh below = refl
  arcs_pass (link ∷ links) world id next cells fresh below =
      let g = world.graph in
      let new : new_arc g ≡ next = next_is g.free_arcs g.used_arcs next fresh in
      let apart : id ≡ new_arc g → ⊥ = λ e. omega (arith, e, new, below) in
      ap (λ w. with_arcs w links) (link_passes place id cells world link.from link.to apart)
      ∙ arcs_pass links (follow world (AddArc link.from link.to)) id (next + 1) cells
      (more_fresh g.free_arcs g.used_arcs next fresh) (omega (arith, below))

  -- the arcs first, and then what their rows say
  pub links_in_two : (links : List Link) (world : World) (id : ℕ)
      → Fresh world.graph.free_arcs world.graph.used_arcs id
      → fold (with_link place) world links
      ≡ all_described Arc place (with_arcs world links) id (values_of links)
  links_in_two [] world id fresh = refl
  links_in_two (link ∷ links) world id fresh =
      let g = world.graph in
      let new : new_arc g ≡ id = next_is g.free_arcs g.used_arcs id fresh in
      let next = more_fresh g.free_arcs g.used_arcs id fresh in
      let told = follow world (AddArc link.from link.to) in
      let here = described told Arc id place link.values in
      ap (λ n. fold (with_link place) (described told Arc n place link.values) links) new
      ∙ links_in_two links here (id + 1) next
      ∙ ap (λ w. all_described Arc place w (id + 1) (values_of links))
      (arcs_pass links told id (id + 1) link.values next (omega arith))

  -- what the rows of nodes say, and an arc more
  rows_pass : (rows : List Cells) (world : World) (id from to : ℕ)
      → follow (all_described Node place world id rows) (AddArc from to)
      ≡ all_described Node place (follow world (AddArc from to)) id rows
  rows_pass [] world id from to = refl
  rows_pass (cells ∷ rows) world id from to =
      rows_pass rows (described world Node id place cells) (id + 1) from to
      ∙ ap (λ w. all_described Node place w (id + 1) rows)
      (arc_passes place id cells world from to)

  all_pass : (links : List Link) (rows : List Cells) (world : World) (id : ℕ)
      → with_arcs (all_described Node place world id rows) links
      ≡ all_described Node place (with_arcs world links) id rows
  all_pass [] rows world id = refl
  all_pass (link ∷ links) rows world id =
      ap (λ w. with_arcs w links) (rows_pass rows world id link.from link.to)
      ∙ all_pass links rows (follow world (AddArc link.from link.to)) id

-- ---- a document

module _ (place arc_place : Option ℕ) (rows : List Cells) (links : List Link) where
  described_arcs : (rows : List Cells) (world : World) (id : ℕ)
      → ((all_described Node place world id rows).graph ≡ world.graph)
  described_arcs [] world id = refl
  described_arcs (cells ∷ rows) world id =
      described_arcs rows (described world Node id place cells) (id + 1)

  noded : (rows : List Cells) (world : World)
      → ((with_nodes world rows).graph.free_arcs ≡ world.graph.free_arcs)
      × ((with_nodes world rows).graph.used_arcs ≡ world.graph.used_arcs)
  noded [] world = (refl, refl)
  noded (cells ∷ rows) world = noded rows (follow world AddNode)

  pub put_in_two : (world : World) → (world.graph.free_nodes ≡ []) → (world.graph.used_nodes ≡ 0)
      → (world.graph.free_arcs ≡ []) → (world.graph.used_arcs ≡ 0)
      → fold (with_link arc_place) (fold (with_row place) world rows) links
      ≡ in_two place arc_place rows links world
  put_in_two world no_node none no_arc nothing =
      let first = rows_in_two place rows world 0 (no_node, none) in
      let middle = all_described Node place (with_nodes world rows) 0 rows in
      let graph = described_arcs rows (with_nodes world rows) 0 in
      let arcs = noded rows world in
      let fresh : (middle.graph.free_arcs ≡ []) × (middle.graph.used_arcs ≡ 0) = (
        ap (λ (g : Digraph). g.free_arcs) graph ∙ arcs.0 ∙ no_arc,
        ap (λ (g : Digraph). g.used_arcs) graph ∙ arcs.1 ∙ nothing,
      ) in
      ap (λ w. fold (with_link arc_place) w links) first
      ∙ links_in_two arc_place links middle 0 fresh
      ∙ ap (λ w. all_described Arc arc_place w 0 (values_of links))
      (all_pass place links rows (with_nodes world rows) 0)
