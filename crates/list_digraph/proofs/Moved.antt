-- What the calls of a move make of the fields.
use Rattle.std.proofs.Common.{◌≡◌, ℕ, ◌+◌, ◌-◌, ◌<◌, true, false, List, length, get_or, set, Some}
use Rattle.std.proofs.Common.{None, Option, sym, ap, subst, ◌∙◌, arith}
use Rattle.std.specs.Prelude.{slice_set}
use Rattle.std.proofs.lemmas.List.{length-set, get_or-set_same}
use Rattle.base_items.specs.declared.items.ItemSort.TheVariants as sorts
use Rattle.linked_lists.specs.declared.lists.Link.{Link}
use Rattle.linked_lists.specs.Links.{removed, head_removed, inserted, head_inserted}
use Rattle.plain_digraph.specs.Digraph.{Digraph}
use Rattle.plain_digraph.specs.Items.{IsLive, fact_of, arc_fact, source_of, target_of}
use Rattle.plain_digraph.specs.Steps.{erase_arc, move_from, move_to, turn}
use Rattle.plain_digraph.specs.ValidLaws.{HasStampLeft}
use Rattle.list_digraph.specs.declared.graph.ListDigraph.TheInside.{Inside}
use Rattle.list_digraph.specs.declared.rows.NodeRow.{NodeRow}
use Rattle.list_digraph.specs.declared.rows.ArcRow.{ArcRow}
use Rattle.list_digraph.specs.Rows.{node_stamps, out_heads, in_heads, head_at, SetsOut, SetsIn}
use Rattle.list_digraph.specs.Tables.{Tables, Shows}
use Rattle.list_digraph.specs.Inside.{tables_of}
use Rattle.list_digraph.proofs.Seen.{row_source, row_target, row_stamps, fact_is}
use Rattle.list_digraph.proofs.Calls.{Row, OutLeft, InLeft, outs_are_left, ins_are_left}
use Rattle.list_digraph.proofs.Erasures.{erased_arc_shows}
use Rattle.list_digraph.proofs.ArcMoves.{source_moved, target_moved, arc_turned, outs_front}
use Rattle.list_digraph.proofs.ArcMoves.{out_links_front, ins_front, in_links_front}

-- The heads where an arc has entered a list in front.
abbrev pub entered_heads : List (Option ℕ) → ℕ → ℕ → List (Option ℕ)
entered_heads heads arc node = set heads node (head_inserted (head_at heads node) None arc)

-- An arc has left the list by source of a node, and then entered that of another.
pub record Out (f : Inside) (arc from node : ℕ) (nodes1 nodes2 : List NodeRow)
    (links1 links2 : List Link) : Type 0 where
  pub left : OutLeft f arc from nodes1 links1
  pub enters : SetsOut nodes1 nodes2 node (head_inserted (head_at (out_heads nodes1) node) None arc)
  pub entered : links2 ≡ inserted (head_at (out_heads nodes1) node) links1 None arc

-- The same by target.
pub record In (f : Inside) (arc to node : ℕ) (nodes0 nodes1 nodes2 : List NodeRow)
    (links1 links2 : List Link) : Type 0 where
  pub left : InLeft f arc to nodes0 nodes1 links1
  pub enters : SetsIn nodes1 nodes2 node (head_inserted (head_at (in_heads nodes1) node) None arc)
  pub entered : links2 ≡ inserted (head_at (in_heads nodes1) node) links1 None arc

module _ {f : Inside} {g : Digraph} {arc : ℕ} {old : ArcRow} (r : Row f g arc old)
    (left : HasStampLeft g) where
  abbrev source : ℕ
  source = source_of g arc

  abbrev target : ℕ
  target = target_of g arc

  module _ {node : ℕ} {nodes1 nodes2 : List NodeRow} {links1 links2 : List Link}
      (out : Out f arc old.from node nodes1 nodes2 links1 links2) where
    outs_are : out_heads nodes2 ≡ outs_front (tables_of f) arc source node
    outs_are = out.enters.outs ∙ ap (λ h. entered_heads h arc node) (outs_are_left r out.left)

    out_links_are : links2 ≡ out_links_front (tables_of f) arc source node
    out_links_are = out.entered
        ∙ (λ i. inserted (head_at (outs_are_left r out.left i) node) (out.left.left i) None arc)

  module _ {node : ℕ} {nodes0 nodes1 nodes2 : List NodeRow} {links1 links2 : List Link}
      (into : In f arc old.to node nodes0 nodes1 nodes2 links1 links2) where
    ins_are : in_heads nodes2 ≡ ins_front (tables_of f) arc target node
    ins_are = into.enters.ins ∙ ap (λ h. entered_heads h arc node) (ins_are_left r into.left)

    in_links_are : links2 ≡ in_links_front (tables_of f) arc target node
    in_links_are = into.entered
        ∙ (λ i. inserted (head_at (ins_are_left r into.left i) node) (into.left.left i) None arc)

  pub shows_moved_from : {node : ℕ} {nodes1 nodes2 : List NodeRow} {links1 links2 : List Link}
      → Out f arc old.from node nodes1 nodes2 links1 links2
      → IsLive g sorts.Node node
      → Shows (record (tables_of f) {
        node_stamps = node_stamps nodes2;
        first_outs = out_heads nodes2;
        first_ins =
            in_heads nodes2;
        out_links = links2;
        arcs =
            slice_set f.arcs.items arc
            (record { live = true; from = node; to = old.to; from_at = f.stamps; to_at = old.to_at });
        stamps = f.stamps + 1;
      })
      (move_from g arc node)
  shows_moved_from {node = node} {nodes1 = nodes1} {nodes2 = nodes2} {links1 = links1}
      {links2 = links2} out node_live =
      let stamps : node_stamps nodes2 ≡ node_stamps f.nodes.items = out.enters.stamps
      ∙ out.left.leaves.stamps in
      let ins : in_heads nodes2 ≡ in_heads f.nodes.items = out.enters.ins ∙ out.left.leaves.ins in
      let outs = outs_are out in
      let links = out_links_are out in
      let to = row_target r.shows arc old r.live r.is in
      let now = r.shows.stamps_used in
      subst (λ t. Shows t (move_from g arc node))
      (λ j. record (tables_of f) {
        node_stamps = sym stamps j;
        first_outs = sym outs j;
        first_ins = sym ins j;
        out_links =
            sym links j;
        arcs =
            slice_set f.arcs.items arc
            (record {
              live = true;
              from = node;
              to = sym to j;
              from_at = sym now j;
              to_at =
                  old.to_at;
            });
        stamps = sym now j + 1;
      })
      (source_moved r.shows arc r.live node old.to_at node_live left
      (row_stamps r.shows arc old r.live r.is).1)

  pub shows_moved_to : {node : ℕ} {nodes1 nodes2 : List NodeRow} {links1 links2 : List Link}
      → In f arc old.to node f.nodes.items nodes1 nodes2 links1 links2
      → IsLive g sorts.Node node
      → Shows (record (tables_of f) {
        node_stamps = node_stamps nodes2;
        first_outs = out_heads nodes2;
        first_ins =
            in_heads nodes2;
        in_links = links2;
        arcs =
            slice_set f.arcs.items arc
            (record {
              live = true;
              from = old.from;
              to = node;
              from_at = old.from_at;
              to_at =
                  f.stamps;
            });
        stamps = f.stamps + 1;
      })
      (move_to g arc node)
  shows_moved_to {node = node} {nodes1 = nodes1} {nodes2 = nodes2} {links1 = links1}
      {links2 = links2} into node_live =
      let stamps : node_stamps nodes2 ≡ node_stamps f.nodes.items = into.enters.stamps
      ∙ into.left.leaves.stamps in
      let outs : out_heads nodes2 ≡ out_heads f.nodes.items = into.enters.outs
      ∙ into.left.leaves.outs in
      let ins = ins_are into in
      let links = in_links_are into in
      let from = row_source r.shows arc old r.live r.is in
      let now = r.shows.stamps_used in
      subst (λ t. Shows t (move_to g arc node))
      (λ j. record (tables_of f) {
        node_stamps = sym stamps j;
        first_outs = sym outs j;
        first_ins = sym ins j;
        in_links =
            sym links j;
        arcs =
            slice_set f.arcs.items arc
            (record {
              live = true;
              from = sym from j;
              to = node;
              from_at = old.from_at;
              to_at =
                  sym now j;
            });
        stamps = sym now j + 1;
      })
      (target_moved r.shows arc r.live node old.from_at node_live left
      (row_stamps r.shows arc old r.live r.is).0)

  pub shows_turned : {nodes1 nodes2 nodes3 nodes4 : List NodeRow} {links1 links2 links3
      links4 : List Link}
      → Out f arc old.from old.to nodes1 nodes2 links1 links2
      → In f arc old.to old.from nodes2 nodes3 nodes4 links3 links4
      → Shows (record (tables_of f) {
        node_stamps = node_stamps nodes4;
        first_outs = out_heads nodes4;
        first_ins =
            in_heads nodes4;
        out_links = links2;
        in_links = links4;
        arcs =
            slice_set f.arcs.items arc
            (record {
              live = true;
              from = old.to;
              to = old.from;
              from_at = f.stamps;
              to_at =
                  f.stamps;
            });
        stamps = f.stamps + 1;
      })
      (turn g arc)
  shows_turned {nodes1 = nodes1} {nodes2 = nodes2} {nodes3 = nodes3} {nodes4 = nodes4}
      {links1 = links1} {links2 = links2} {links3 = links3} {links4 = links4} out into =
      let from = row_source r.shows arc old r.live r.is in
      let to = row_target r.shows arc old r.live r.is in
      let now = r.shows.stamps_used in
      let stamps : node_stamps nodes4 ≡ node_stamps f.nodes.items = into.enters.stamps
      ∙ into.left.leaves.stamps ∙ out.enters.stamps ∙ out.left.leaves.stamps in
      let outs : out_heads nodes4 ≡ outs_front (tables_of f) arc source target =
      into.enters.outs ∙ into.left.leaves.outs ∙ outs_are out
      ∙ ap (outs_front (tables_of f) arc source) to in
      let out_links : links2 ≡ out_links_front (tables_of f) arc source target = out_links_are out
      ∙ ap (out_links_front (tables_of f) arc source) to in
      let ins : in_heads nodes4 ≡ ins_front (tables_of f) arc target source = ins_are into
      ∙ ap (ins_front (tables_of f) arc target) from in
      let in_links : links4 ≡ in_links_front (tables_of f) arc target source = in_links_are into
      ∙ ap (in_links_front (tables_of f) arc target) from in
      subst (λ t. Shows t (turn g arc))
      (λ j. record (tables_of f) {
        node_stamps = sym stamps j;
        first_outs = sym outs j;
        first_ins = sym ins j;
        out_links =
            sym out_links j;
        in_links = sym in_links j;
        arcs =
            slice_set f.arcs.items arc
            (record {
              live = true;
              from = sym to j;
              to = sym from j;
              from_at = sym now j;
              to_at =
                  sym now j;
            });
        stamps = sym now j + 1;
      })
      (arc_turned r.shows arc r.live left)

-- An arc has left both lists, its id stands in front of the free ones, and its row is dead.
pub shows_erased_arc : {f : Inside} {g : Digraph} {arc : ℕ} {old : ArcRow} (r : Row f g arc old)
    {nodes1 nodes2 : List NodeRow} {links1 links2 links3 : List Link} {free : Option ℕ}
    (row : ArcRow) → row.live ≡ false
    → OutLeft f arc old.from nodes1 links1 → InLeft f arc old.to nodes1 nodes2 links2
    → links3 ≡ inserted f.free_arc links1 None arc → free ≡ head_inserted f.free_arc None arc
    → Shows (record (tables_of f) {
      node_stamps = node_stamps nodes2;
      first_outs = out_heads nodes2;
      first_ins = in_heads nodes2;
      arcs = slice_set f.arcs.items arc row;
      out_links = links3;
      in_links = links2;
      free_arc = free;
      live_arcs = f.live_arcs - 1;
    })
    (erase_arc g arc)
shows_erased_arc {f = f} {g = g} {arc = arc} {old = old} r {nodes2 = nodes2} {links2 = links2}
    {links3 = links3} {free = free} row dead out into freed first =
    let stamps : node_stamps nodes2 ≡ node_stamps f.nodes.items = into.leaves.stamps
    ∙ into.stamps in
    let outs : out_heads nodes2
    ≡ set (out_heads f.nodes.items) old.from
    (head_removed (head_at (out_heads f.nodes.items) old.from) f.out_links.items arc) =
    into.leaves.outs ∙ out.leaves.outs in
    let ins : in_heads nodes2
    ≡ set (in_heads f.nodes.items) old.to
    (head_removed (head_at (in_heads f.nodes.items) old.to) f.in_links.items arc) =
    into.leaves.ins
    ∙ (λ i. set (into.same i) old.to
    (head_removed (head_at (into.same i) old.to) f.in_links.items arc)) in
    let links : links3 ≡ inserted f.free_arc (removed f.out_links.items arc) None arc =
    freed ∙ ap (λ l. inserted f.free_arc l None arc) out.left in
    subst (λ t. Shows t (erase_arc g arc))
    (λ j. record (tables_of f) {
      node_stamps = sym stamps j;
      first_outs = sym outs j;
      first_ins = sym ins j;
      arcs = slice_set f.arcs.items arc row;
      out_links = sym links j;
      in_links = sym into.left j;
      free_arc = sym first j;
      live_arcs = f.live_arcs - 1;
    })
    (erased_arc_shows r.shows arc old.from old.to row r.live
    (row_source r.shows arc old r.live r.is)
    (row_target r.shows arc old r.live r.is) dead)

-- what is told of an arc whose row was written
pub written_fact : {t : Tables} {g : Digraph} (s : Shows t g) (arcs : List
    ArcRow) (arc : ℕ) (row : ArcRow) → t.arcs ≡ slice_set arcs arc row → arc < length arcs
    → row.live ≡ true
    → fact_of g sorts.Arc arc ≡ Some (arc_fact arc (row.from, row.to) row.from_at row.to_at)
written_fact {t = t} s arcs arc row same below live =
    let size = ap length same ∙ length-set arcs arc row in
    fact_is s arc row (omega (arith, below, size))
    (sym (ap (λ l. get_or l arc row) same ∙ get_or-set_same arcs arc row row below)) live
