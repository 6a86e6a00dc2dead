-- What the calls of a step ask of the fields.
use Rattle.std.proofs.Common.{◌≡◌, ℕ, ◌<◌, List, length, get_or, set, sym, ap, subst, ◌∙◌, arith}
use Rattle.std.proofs.lemmas.List.{length-map}
use Rattle.base_items.specs.declared.items.ItemSort.TheVariants as sorts
use Rattle.linked_lists.specs.declared.lists.Link.{Link}
use Rattle.linked_lists.specs.Links.{HasPlaces, IsPlace, link_at, removed, head_removed}
use Rattle.linked_lists.proofs.Changes.{removed-length}
use Rattle.plain_digraph.specs.Digraph.{Digraph}
use Rattle.plain_digraph.specs.Items.{IsLive}
use Rattle.plain_digraph.proofs.Changes.{live_ends}
use Rattle.list_digraph.specs.declared.graph.ListDigraph.TheInside.{Inside}
use Rattle.list_digraph.specs.declared.rows.NodeRow.{NodeRow}
use Rattle.list_digraph.specs.declared.rows.ArcRow.{ArcRow}
use Rattle.list_digraph.specs.Roomy.{Roomy}
use Rattle.list_digraph.specs.Rows.{node_at, node_stamps, out_heads, in_heads, head_at, SetsOut}
use Rattle.list_digraph.specs.Rows.{SetsIn}
use Rattle.list_digraph.specs.Tables.{Shows}
use Rattle.list_digraph.specs.Inside.{tables_of, seen, Fits}
use Rattle.list_digraph.proofs.Seen.{seen_shows, node_below, arc_below, row_source, row_target}
use Rattle.list_digraph.proofs.ArcSteps.{out_placed, in_placed, outs_left, ins_left}
use Rattle.list_digraph.proofs.ArcMoves.{out_head_placed, in_head_placed}

-- A live node has a row, whatever its columns are now.
pub node_inside : (f : Inside) {g : Digraph} → Shows (tables_of f) g
    → (node : ℕ) (nodes : List NodeRow)
    → IsLive g sorts.Node node → node_stamps nodes ≡ node_stamps f.nodes.items → node < length nodes
node_inside f s node nodes live same =
    let below = node_below s node live in
    let size = ap length same in
    omega (arith, below, size, length-map nodes node_at, s.nodes_used)

-- The row of a live arc.
pub record Row (f : Inside) (g : Digraph) (arc : ℕ) (row : ArcRow) : Type 0 where
  pub shows : Shows (tables_of f) g
  pub live : IsLive g sorts.Arc arc
  pub is : row ≡ get_or f.arcs.items arc row

pub row_of : (f : Inside) (v : Roomy) → Fits f → seen f ≡ v → (arc : ℕ) (row : ArcRow)
    → IsLive v.graph sorts.Arc arc → row ≡ get_or f.arcs.items arc row → Row f v.graph arc row
row_of f v fits is arc row live read =
    record { shows = seen_shows f v fits is; live = live; is = read }

-- The arc has left the list by source of a node.
pub record OutLeft (f : Inside) (arc from : ℕ) (nodes1 : List NodeRow) (links1 : List Link) : Type 0
  where
    pub leaves : SetsOut f.nodes.items nodes1 from
        (head_removed (head_at (out_heads f.nodes.items) from) f.out_links.items arc)
    pub left : links1 ≡ removed f.out_links.items arc

-- The arc has left the list by target of a node. Only the lists by source may have changed before.
pub record InLeft (f : Inside) (arc to : ℕ) (nodes0 nodes1 : List NodeRow)
    (links1 : List Link) : Type 0 where
  pub stamps : node_stamps nodes0 ≡ node_stamps f.nodes.items
  pub same : in_heads nodes0 ≡ in_heads f.nodes.items
  pub leaves : SetsIn nodes0 nodes1 to (head_removed (head_at (in_heads nodes0) to) f.in_links.items
      arc)
  pub left : links1 ≡ removed f.in_links.items arc

module _ {f : Inside} {g : Digraph} {arc : ℕ} {row : ArcRow} (r : Row f g arc row) where
  pub row_inside : arc < length f.arcs.items
  row_inside = let below = arc_below r.shows arc r.live in omega (arith, below, r.shows.arcs_used)

  pub out_inside : arc < length f.out_links.items
  out_inside =
      let below = arc_below r.shows arc r.live in
      omega (arith, below, r.shows.out_links_used)

  pub in_inside : arc < length f.in_links.items
  in_inside =
      let below = arc_below r.shows arc r.live in
      omega (arith, below, r.shows.in_links_used)

  -- ---- the ends in the row

  pub source_live : IsLive g sorts.Node row.from
  source_live = subst (IsLive g sorts.Node) (sym (row_source r.shows arc row r.live r.is))
      (live_ends g arc r.shows.valid r.live).0

  pub target_live : IsLive g sorts.Node row.to
  target_live = subst (IsLive g sorts.Node) (sym (row_target r.shows arc row r.live r.is))
      (live_ends g arc r.shows.valid r.live).1

  pub source_inside : (nodes : List NodeRow) → node_stamps nodes ≡ node_stamps f.nodes.items
      → row.from < length nodes
  source_inside nodes same = node_inside f r.shows row.from nodes source_live same

  pub target_inside : (nodes : List NodeRow) → node_stamps nodes ≡ node_stamps f.nodes.items
      → row.to < length nodes
  target_inside nodes same = node_inside f r.shows row.to nodes target_live same

  -- ---- the arc leaves its lists

  pub out_leaves : HasPlaces (length f.out_links.items) (link_at f.out_links.items arc)
  out_leaves = out_placed r.shows arc r.live

  pub in_leaves : HasPlaces (length f.in_links.items) (link_at f.in_links.items arc)
  in_leaves = in_placed r.shows arc r.live

  pub out_left : {nodes1 : List NodeRow} {links1 : List Link}
      → SetsOut f.nodes.items nodes1 row.from
      (head_removed (head_at (out_heads f.nodes.items) row.from) f.out_links.items arc)
      → links1 ≡ removed f.out_links.items arc → OutLeft f arc row.from nodes1 links1
  out_left leaves left = record { leaves = leaves; left = left }

  pub in_left : {nodes0 nodes1 : List NodeRow} {links1 : List Link}
      → node_stamps nodes0 ≡ node_stamps f.nodes.items
      → in_heads nodes0 ≡ in_heads f.nodes.items
      → SetsIn nodes0 nodes1 row.to
      (head_removed (head_at (in_heads nodes0) row.to) f.in_links.items arc)
      → links1 ≡ removed f.in_links.items arc → InLeft f arc row.to nodes0 nodes1 links1
  in_left stamps same leaves left =
      record { stamps = stamps; same = same; leaves = leaves; left = left }

  -- ---- and may enter the list of a node, in front

  module _ {nodes1 : List NodeRow} {links1 : List Link} (out : OutLeft f arc row.from nodes1 links1)
    where
      pub out_stays : arc < length links1
      out_stays =
          let size = ap length out.left ∙ removed-length f.out_links.items arc in
          omega (arith, out_inside, size)

      pub outs_are_left : out_heads nodes1 ≡ outs_left r.shows arc r.live
      outs_are_left = out.leaves.outs
          ∙ ap (λ from.
          set (out_heads f.nodes.items) from
          (head_removed (head_at (out_heads f.nodes.items) from) f.out_links.items arc))
          (row_source r.shows arc row r.live r.is)

      pub out_enters : (node : ℕ) → IsLive g sorts.Node node
          → IsPlace (length links1) (head_at (out_heads nodes1) node)
      out_enters node live =
          let below = node_below r.shows node live in
          subst (λ h. IsPlace (length links1) (head_at h node)) (sym outs_are_left)
          (subst (λ (l : List Link). IsPlace (length l) (head_at (outs_left r.shows arc r.live) node))
          (sym out.left)
          (out_head_placed r.shows arc r.live node (omega (arith, below, r.shows.outs_used))))

  module _ {nodes0 nodes1 : List NodeRow} {links1 : List Link}
      (into : InLeft f arc row.to nodes0 nodes1 links1) where
    pub in_stays : arc < length links1
    in_stays =
        let size = ap length into.left ∙ removed-length f.in_links.items arc in
        omega (arith, in_inside, size)

    pub ins_are_left : in_heads nodes1 ≡ ins_left r.shows arc r.live
    ins_are_left = into.leaves.ins
        ∙ ap (λ h. set h row.to (head_removed (head_at h row.to) f.in_links.items arc)) into.same
        ∙ ap (λ to. set (in_heads f.nodes.items) to
        (head_removed (head_at (in_heads f.nodes.items) to) f.in_links.items arc))
        (row_target r.shows arc row r.live r.is)

    pub in_enters : (node : ℕ) → IsLive g sorts.Node node
        → IsPlace (length links1) (head_at (in_heads nodes1) node)
    in_enters node live =
        let below = node_below r.shows node live in
        subst (λ h. IsPlace (length links1) (head_at h node)) (sym ins_are_left)
        (subst (λ (l : List Link). IsPlace (length l) (head_at (ins_left r.shows arc r.live) node))
        (sym into.left)
        (in_head_placed r.shows arc r.live node (omega (arith, below, r.shows.ins_used))))
