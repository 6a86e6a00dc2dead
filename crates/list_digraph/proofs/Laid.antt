-- What the calls make of the fields where an arc is laid at given places.
use Rattle.std.proofs.Common.{◌≡◌, ℕ, ◌<◌, ◌≤◌, true, List, length, get_or, set, None, Option, sym}
use Rattle.std.proofs.Common.{ap, subst, ◌∙◌, arith}
use Rattle.std.specs.Prelude.{slice_set}
use Rattle.base_items.specs.declared.items.Fact.{Fact}
use Rattle.base_items.specs.declared.items.ItemSort.TheVariants as sorts
use Rattle.linked_lists.specs.declared.lists.Link.{Link}
use Rattle.linked_lists.specs.Links.{IsPlace, AreWithin, next_from, removed, inserted}
use Rattle.linked_lists.specs.Links.{head_inserted}
use Rattle.plain_digraph.specs.Digraph.{Digraph}
use Rattle.plain_digraph.specs.Items.{IsLive}
use Rattle.plain_digraph.specs.Steps.{laid_by}
use Rattle.plain_digraph.specs.Undo.{before_move}
use Rattle.plain_digraph.specs.Valid.{IsValid}
use Rattle.plain_digraph.specs.UndoLaws.{MovesTo}
use Rattle.plain_digraph.proofs.Keys.{get_new}
use Rattle.plain_digraph.proofs.Listed.{moved_live}
use Rattle.list_digraph.specs.declared.graph.ListDigraph.TheInside.{Inside}
use Rattle.list_digraph.specs.declared.rows.NodeRow.{NodeRow}
use Rattle.list_digraph.specs.declared.rows.ArcRow.{ArcRow}
use Rattle.list_digraph.specs.declared.rows.Side.TheVariants.{Source, Target}
use Rattle.list_digraph.specs.Rows.{node_stamps, out_heads, in_heads, head_at, SetsOut, SetsIn}
use Rattle.list_digraph.specs.Tables.{Shows, chain}
use Rattle.list_digraph.specs.Places.{stamp_in, last_newer}
use Rattle.list_digraph.specs.Inside.{tables_of}
use Rattle.list_digraph.proofs.Columns.{out_head as read_out_head, in_head as read_in_head}
use Rattle.list_digraph.proofs.ArcSteps.{outs_left, ins_left}
use Rattle.list_digraph.proofs.Calls.{Row, OutLeft, InLeft, node_inside, outs_are_left}
use Rattle.list_digraph.proofs.Calls.{ins_are_left}
use Rattle.list_digraph.proofs.Relaid.{out_head, in_head, out_behind, in_behind, out_chain_within}
use Rattle.list_digraph.proofs.Relaid.{in_chain_within, out_behind_placed, in_behind_placed}
use Rattle.list_digraph.proofs.Relaid.{out_next_placed, in_next_placed, laid_shows}

module _ {f : Inside} {g : Digraph} (fact : Fact) {old : ArcRow} (r : Row f g fact.id old)
    (from_live : IsLive g sorts.Node fact.from) (to_live : IsLive g sorts.Node fact.to) where
  abbrev arc : ℕ
  arc = fact.id

  abbrev o_head : Option ℕ
  o_head = out_head r.shows arc r.live fact.from fact.from_at from_live

  abbrev i_head : Option ℕ
  i_head = in_head r.shows arc r.live fact.to fact.to_at to_live

  abbrev o_behind : Option ℕ
  o_behind = out_behind r.shows arc r.live fact.from fact.from_at from_live

  abbrev i_behind : Option ℕ
  i_behind = in_behind r.shows arc r.live fact.to fact.to_at to_live

  -- ---- by source

  module _ {nodes1 : List NodeRow} {links1 : List Link} (out : OutLeft f arc old.from nodes1 links1)
    where
      pub from_inside : fact.from < length nodes1
      from_inside = node_inside f r.shows fact.from nodes1 from_live out.leaves.stamps

      out_head_read : (row : NodeRow) → row ≡ get_or nodes1 fact.from row → row.first_out ≡ o_head
      out_head_read row read =
          ap (λ (r : NodeRow). r.first_out) read ∙ read_out_head nodes1 fact.from row from_inside
          ∙ ap (λ h. head_at h fact.from) (outs_are_left r out)

      -- The walk that looks for the place.
      pub out_walk : (row : NodeRow) → row ≡ get_or nodes1 fact.from row
          → AreWithin (length links1) (chain links1 (length links1) row.first_out)
      out_walk row read =
          let links = removed f.out_links.items arc in
          subst (λ (l : List Link). AreWithin (length l) (chain l (length l) row.first_out))
          (sym out.left)
          (subst (λ o. AreWithin (length links) (chain links (length links) o))
          (sym (out_head_read row read))
          (out_chain_within r.shows arc r.live fact.from fact.from_at from_live))

      pub out_found : (row : NodeRow) (behind : Option ℕ) → row ≡ get_or nodes1 fact.from row
          → behind ≡ last_newer (stamp_in Source f.arcs.items) fact.from_at None
          (chain links1 (length links1) row.first_out)
          → behind ≡ o_behind
      out_found row behind read walked =
          let head = out_head_read row read in
          walked ∙ (λ i. last_newer (stamp_in Source f.arcs.items) fact.from_at None
          (chain (out.left i) (length (out.left i)) (head i)))

      pub out_behind_fits : (behind : Option ℕ) → behind ≡ o_behind → IsPlace (length links1) behind
      out_behind_fits behind found = subst (IsPlace (length links1)) (sym found)
          (subst (λ (l : List Link). IsPlace (length l) o_behind) (sym out.left)
          (out_behind_placed r.shows arc r.live fact.from fact.from_at from_live))

      pub out_next_fits : (behind : Option ℕ) → behind ≡ o_behind
          → IsPlace (length links1) (next_from (head_at (out_heads nodes1) fact.from) links1 behind)
      out_next_fits behind found =
          subst (λ h. IsPlace (length links1) (next_from (head_at h fact.from) links1 behind))
          (sym (outs_are_left r out))
          (subst (λ o. IsPlace (length links1) (next_from o_head links1 o)) (sym found)
          (subst (λ (l : List Link). IsPlace (length l) (next_from o_head l o_behind)) (sym out.left)
          (out_next_placed r.shows arc r.live fact.from fact.from_at from_live)))

  -- ---- by target

  module _ {nodes0 nodes1 : List NodeRow} {links1 : List Link}
      (into : InLeft f arc old.to nodes0 nodes1 links1) where
    pub to_inside : fact.to < length nodes1
    to_inside = node_inside f r.shows fact.to nodes1 to_live (into.leaves.stamps ∙ into.stamps)

    in_head_read : (row : NodeRow) → row ≡ get_or nodes1 fact.to row → row.first_in ≡ i_head
    in_head_read row read =
        ap (λ (r : NodeRow). r.first_in) read ∙ read_in_head nodes1 fact.to row to_inside
        ∙ ap (λ h. head_at h fact.to) (ins_are_left r into)

    pub in_walk : (row : NodeRow) → row ≡ get_or nodes1 fact.to row
        → AreWithin (length links1) (chain links1 (length links1) row.first_in)
    in_walk row read =
        let links = removed f.in_links.items arc in
        subst (λ (l : List Link). AreWithin (length l) (chain l (length l) row.first_in))
        (sym into.left)
        (subst (λ o. AreWithin (length links) (chain links (length links) o))
        (sym (in_head_read row read))
        (in_chain_within r.shows arc r.live fact.to fact.to_at to_live))

    pub in_found : (row : NodeRow) (behind : Option ℕ) → row ≡ get_or nodes1 fact.to row
        → behind ≡ last_newer (stamp_in Target f.arcs.items) fact.to_at None
        (chain links1 (length links1) row.first_in)
        → behind ≡ i_behind
    in_found row behind read walked =
        let head = in_head_read row read in
        walked ∙ (λ i. last_newer (stamp_in Target f.arcs.items) fact.to_at None
        (chain (into.left i) (length (into.left i)) (head i)))

    pub in_behind_fits : (behind : Option ℕ) → behind ≡ i_behind → IsPlace (length links1) behind
    in_behind_fits behind found = subst (IsPlace (length links1)) (sym found)
        (subst (λ (l : List Link). IsPlace (length l) i_behind) (sym into.left)
        (in_behind_placed r.shows arc r.live fact.to fact.to_at to_live))

    pub in_next_fits : (behind : Option ℕ) → behind ≡ i_behind
        → IsPlace (length links1) (next_from (head_at (in_heads nodes1) fact.to) links1 behind)
    in_next_fits behind found =
        subst (λ h. IsPlace (length links1) (next_from (head_at h fact.to) links1 behind))
        (sym (ins_are_left r into))
        (subst (λ o. IsPlace (length links1) (next_from i_head links1 o)) (sym found)
        (subst (λ (l : List Link). IsPlace (length l) (next_from i_head l i_behind)) (sym into.left)
        (in_next_placed r.shows arc r.live fact.to fact.to_at to_live)))

  -- ---- the whole

  pub shows_laid : (stamps : ℕ) {nodes1 nodes2 nodes3 nodes4 : List NodeRow} {links1 links2 links3
      links4 : List Link} {behind1 behind2 : Option ℕ}
      → IsValid (laid_by g fact stamps)
      → OutLeft f arc old.from nodes1 links1 → behind1 ≡ o_behind
      → SetsOut nodes1 nodes2 fact.from
      (head_inserted (head_at (out_heads nodes1) fact.from) behind1 arc)
      → links2 ≡ inserted (head_at (out_heads nodes1) fact.from) links1 behind1 arc
      → InLeft f arc old.to nodes2 nodes3 links3 → behind2 ≡ i_behind
      → SetsIn nodes3 nodes4 fact.to (head_inserted (head_at (in_heads nodes3) fact.to) behind2 arc)
      → links4 ≡ inserted (head_at (in_heads nodes3) fact.to) links3 behind2 arc
      → Shows (record (tables_of f) {
        node_stamps = node_stamps nodes4;
        first_outs = out_heads nodes4;
        first_ins = in_heads nodes4;
        out_links = links2;
        in_links = links4;
        arcs = slice_set f.arcs.items arc
            (record {
              live = true;
              from = fact.from;
              to = fact.to;
              from_at = fact.from_at;
              to_at =
                  fact.to_at;
            });
        stamps = stamps;
      })
      (laid_by g fact stamps)
  shows_laid stamps {nodes2 = nodes2} {nodes3 = nodes3} {nodes4 = nodes4} {links2 = links2}
      {links4 = links4} valid out1 is1 out2 entered2 in3 is2 in4 entered4 =
      let heads1 = outs_are_left r out1 in
      let heads3 = ins_are_left r in3 in
      let stamps_are : node_stamps nodes4 ≡ node_stamps f.nodes.items = in4.stamps
      ∙ in3.leaves.stamps ∙ in3.stamps in
      let outs : out_heads nodes4
      ≡ set (outs_left r.shows arc r.live) fact.from (head_inserted o_head o_behind arc) =
      in4.outs ∙ in3.leaves.outs ∙ out2.outs
      ∙ (λ i. set (heads1 i) fact.from
      (head_inserted (head_at (heads1 i) fact.from) (is1 i) arc)) in
      let ins : in_heads nodes4
      ≡ set (ins_left r.shows arc r.live) fact.to (head_inserted i_head i_behind arc) =
      in4.ins ∙ (λ i.
      set (heads3 i) fact.to (head_inserted (head_at (heads3 i) fact.to) (is2 i) arc)) in
      let out_links : links2 ≡ inserted o_head (removed f.out_links.items arc) o_behind arc =
      entered2 ∙ (λ i. inserted (head_at (heads1 i) fact.from) (out1.left i) (is1 i) arc) in
      let in_links : links4 ≡ inserted i_head (removed f.in_links.items arc) i_behind arc =
      entered4 ∙ (λ i. inserted (head_at (heads3 i) fact.to) (in3.left i) (is2 i) arc) in
      subst (λ t. Shows t (laid_by g fact stamps))
      (λ j. record (tables_of f) {
        node_stamps = sym stamps_are j;
        first_outs = sym outs j;
        first_ins = sym ins j;
        out_links = sym out_links j;
        in_links = sym in_links j;
        arcs = slice_set f.arcs.items arc
            (record {
              live = true;
              from = fact.from;
              to = fact.to;
              from_at = fact.from_at;
              to_at =
                  fact.to_at;
            });
        stamps = stamps;
      })
      (laid_shows r.shows fact stamps r.live from_live to_live valid)

-- ---- a move that is undone

pub moved_facts : (g : Digraph) (old : Fact) → IsValid (before_move g old)
    → MovesTo (before_move g old) old.id g
    → IsLive g sorts.Arc old.id × IsLive g sorts.Node old.from × IsLive g sorts.Node old.to
    × (1 ≤ g.stamps)
moved_facts g old valid moves =
    let after = moved_live (before_move g old) g old.id moves in
    let ends = valid.ends_live old.id old.from old.to (get_new g.ends old.id (old.from, old.to)) in
    let stamps = after.1 in
    (after.0, ends.0, ends.1, omega (arith, stamps))
