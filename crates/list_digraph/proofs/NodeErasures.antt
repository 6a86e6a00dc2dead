-- An erased node, and cleared tables.
use Rattle.std.proofs.Common.{Option, ◌≡◌, ℕ, ◌-◌, ◌<◌, ◌≤◌, false, List, [], ◌∷◌, length, get_or}
use Rattle.std.proofs.Common.{set, Some, None, inl, inr, sym, ap, subst, ◌∙◌, arith}
use Rattle.std.specs.Prelude.{◌==◌, slice_set}
use Rattle.std.proofs.lemmas.Bool.{cases_eq, or_cases, eqb-true}
use Rattle.std.proofs.lemmas.List.{length-set, length-map, map-set, get_or-set_same}
use Rattle.std.proofs.lemmas.List.{get_or-set_other}
use Rattle.base_items.specs.declared.items.ItemSort.TheVariants as sorts
use Rattle.linked_lists.specs.declared.lists.Link.{Link}
use Rattle.linked_lists.specs.Links.{IsList, IsPlace, HasPlaces, AreWithin, link_at, removed}
use Rattle.linked_lists.specs.Links.{head_removed, head_inserted, inserted}
use Rattle.linked_lists.proofs.Ids.{in_both}
use Rattle.linked_lists.proofs.Changes.{list_more, others_more, removed-length, inserted-length}
use Rattle.linked_lists.proofs.Changes.{first_place}
use Rattle.plain_digraph.specs.Lists.{has, without}
use Rattle.plain_digraph.specs.Digraph.{Digraph}
use Rattle.plain_digraph.specs.Items.{ids, stamp_of, IsLive}
use Rattle.plain_digraph.specs.Steps.{unplaced, erase_node, clear_arcs, clear_nodes}
use Rattle.plain_digraph.specs.ValidLaws.{HasNoArc}
use Rattle.plain_digraph.proofs.Tallies.{copies, has-some}
use Rattle.plain_digraph.proofs.Shares.{shared_once, free_not_live}
use Rattle.plain_digraph.proofs.Places.{ids-unplaced, stamp_of-gone, stamp_of-unplaced}
use Rattle.plain_digraph.proofs.Places.{length-unplaced}
use Rattle.plain_digraph.proofs.Changes.{valid_without_node, valid_nothing}
use Rattle.list_digraph.specs.declared.graph.ListDigraph.TheInside.{Inside}
use Rattle.list_digraph.specs.declared.rows.NodeRow.{NodeRow}
use Rattle.list_digraph.specs.Rows.{node_at, node_stamps, out_heads, in_heads}
use Rattle.list_digraph.specs.Tables.{Tables, Shows}
use Rattle.list_digraph.specs.Inside.{tables_of}
use Rattle.list_digraph.proofs.Columns.{column_kept}
use Rattle.list_digraph.proofs.Lists.{lacks_or, gone-without, has-without, list_without}
use Rattle.list_digraph.proofs.Lists.{others_without, placed_without}
use Rattle.list_digraph.proofs.Seen.{node_below}
use Rattle.list_digraph.proofs.NodeAdditions.{nodes_apart, nodes_within, free_nodes_apart}
use Rattle.list_digraph.proofs.NodeAdditions.{free_nodes_within, free_nodes_elsewhere}
use Rattle.list_digraph.proofs.Empty.{no_tables, none_show}

module _ {t : Tables} {g : Digraph} (s : Shows t g) (node : ℕ) (live : IsLive g sorts.Node node)
  where
    within_links : AreWithin (length t.node_links) (ids g.nodes)
    within_links = nodes_within s t.node_links s.node_links_used

    pub node_placed : HasPlaces (length t.node_links) (link_at t.node_links node)
    node_placed = placed_without (ids g.nodes) node s.node_list (nodes_apart s) within_links live

    free_list : IsList t.free_node (removed t.node_links node) g.free_nodes
    free_list = others_without (ids g.nodes) node s.node_list (nodes_apart s) within_links live
        g.free_nodes t.free_node
        (λ x free. free_not_live (ids g.nodes) g.free_nodes g.used_nodes x s.valid.node_ids free)
        s.free_node_list

    not_free : has g.free_nodes node ≡ false
    not_free = free_nodes_elsewhere s node live

    pub free_node_placed : (links : List Link) → links ≡ removed t.node_links node
        → IsPlace (length links) t.free_node
    free_node_placed links is =
        let size = ap length is ∙ removed-length t.node_links node in
        subst (λ n. IsPlace n t.free_node) (sym size)
        (first_place g.free_nodes s.free_node_list (free_nodes_within s))

    once : copies (ids g.nodes) node ≡ 1
    once = omega (
      arith,
      has-some (ids g.nodes) node live,
      shared_once (ids g.nodes) g.free_nodes g.used_nodes node s.valid.node_ids,
    )

    pub some_nodes : 1 ≤ t.live_nodes
    some_nodes =
        let less = length-unplaced g.nodes node once in
        let count = s.nodes_counted in
        omega (arith, less, count)

    pub node_erased : HasNoArc g node
        → Shows (record t {
          node_stamps = set t.node_stamps node None;
          node_links = inserted t.free_node (removed t.node_links node) None node;
          first_node = head_removed t.first_node t.node_links node;
          free_node = Some node;
          live_nodes = t.live_nodes - 1;
        })
        (erase_node g node)
    node_erased alone =
        let links = removed t.node_links node in
        let below = node_below s node live in
        let size = removed-length t.node_links node in
        let size2 = inserted-length t.free_node links None node in
        let frees : IsList (Some node) (inserted t.free_node links None node) (node ∷ g.free_nodes) =
        list_more [] g.free_nodes node free_list (free_nodes_apart s) not_free
        (omega (arith, below, size, s.node_links_used))
        (λ x at. let inside = free_nodes_within s x at in omega (arith, inside, size)) in
        let nodes : IsList (head_removed t.first_node t.node_links node)
        (inserted t.free_node links None node) (without (ids g.nodes) node) =
        others_more [] g.free_nodes node free_list (without (ids g.nodes) node)
        (head_removed t.first_node t.node_links node)
        (λ x at. lacks_or (node ∷ g.free_nodes) x
        (λ there. elim (or_cases (node == x) (has g.free_nodes x) there) [
          | inl here ↦
              in_both (has (without (ids g.nodes) node) x) at
              (ap (has (without (ids g.nodes) node)) (sym (eqb-true node x here))
              ∙ gone-without (ids g.nodes) node)
          | inr free ↦
              in_both (has (ids g.nodes) x) (has-without (ids g.nodes) node x at)
              (free_not_live (ids g.nodes) g.free_nodes g.used_nodes x s.valid.node_ids free)
        ]))
        (list_without (ids g.nodes) node s.node_list (nodes_apart s) within_links live) in
        record {
          valid = valid_without_node g node s.valid live alone;
          node_told = λ id. elim (cases_eq id node) [
            | inl same ↦
                ap (λ x. get_or (set t.node_stamps node None) x None) same
                ∙ get_or-set_same t.node_stamps node None None
                (omega (arith, below, s.nodes_used))
                ∙ sym (ap (stamp_of (unplaced g.nodes node)) same ∙ stamp_of-gone g.nodes node)
            | inr other ↦ get_or-set_other t.node_stamps node id None None other ∙ s.node_told id
                ∙ sym (stamp_of-unplaced g.nodes node id other)
          ];
          ends_told = s.ends_told;
          source_told = s.source_told;
          target_told = s.target_told;
          nodes_used = length-set t.node_stamps node None ∙ s.nodes_used;
          outs_used = s.outs_used;
          ins_used = s.ins_used;
          arcs_used = s.arcs_used;
          node_links_used = size2 ∙ size ∙ s.node_links_used;
          out_links_used = s.out_links_used;
          in_links_used = s.in_links_used;
          node_list = subst
              (IsList (head_removed t.first_node t.node_links node)
              (inserted t.free_node links None node)) (sym (ids-unplaced g.nodes node)) nodes;
          free_node_list = frees;
          free_arc_list = s.free_arc_list;
          out_lists = record { each = s.out_lists.each };
          in_lists = record { each = s.in_lists.each };
          nodes_counted =
              let less = length-unplaced g.nodes node once in
              let count = s.nodes_counted in
              omega (arith, less, count);
          arcs_counted = s.arcs_counted;
          stamps_used = s.stamps_used;
        }

-- the fields after the calls
module _ (f : Inside) {g : Digraph} (s : Shows (tables_of f) g) (node : ℕ)
    (live : IsLive g sorts.Node node) where
  pub shows_erased_node : (old : NodeRow) {links1 links2 : List Link} {head free : Option ℕ}
      → HasNoArc g node → old ≡ get_or f.nodes.items node old
      → links1 ≡ removed f.node_links.items node
      → head ≡ head_removed f.first_node f.node_links.items node
      → links2 ≡ inserted f.free_node links1 None node → free ≡ head_inserted f.free_node None node
      → Shows (record (tables_of f) {
        node_stamps =
            node_stamps (slice_set f.nodes.items node
            (record {
              live = false;
              at = old.at;
              first_out = old.first_out;
              first_in =
                  old.first_in;
            }));
        first_outs =
            out_heads (slice_set f.nodes.items node
            (record {
              live = false;
              at = old.at;
              first_out = old.first_out;
              first_in =
                  old.first_in;
            }));
        first_ins = in_heads
            (slice_set f.nodes.items node
            (record {
              live = false;
              at = old.at;
              first_out = old.first_out;
              first_in =
                  old.first_in;
            }));
        node_links = links2;
        first_node = head;
        free_node = free;
        live_nodes = f.live_nodes - 1;
      })
      (erase_node g node)
  shows_erased_node old {links2 = links2} alone is one head_is two free_is =
      let row : NodeRow =
      record {
        live = false;
        at = old.at;
        first_out = old.first_out;
        first_in =
            old.first_in;
      } in
      let below = node_below s node live in
      let inside : node < length f.nodes.items =
      omega (arith, below, s.nodes_used, length-map f.nodes.items node_at) in
      let stamps : node_stamps (slice_set f.nodes.items node row)
      ≡ set (node_stamps f.nodes.items) node None = map-set node_at f.nodes.items node row in
      let outs : out_heads (slice_set f.nodes.items node row) ≡ out_heads f.nodes.items =
      column_kept (λ r. r.first_out) f.nodes.items node old row None inside
      (ap (λ (r : NodeRow). r.first_out) is) in
      let ins : in_heads (slice_set f.nodes.items node row) ≡ in_heads f.nodes.items =
      column_kept (λ r. r.first_in) f.nodes.items node old row None inside
      (ap (λ (r : NodeRow). r.first_in) is) in
      let links : links2 ≡ inserted f.free_node (removed f.node_links.items node) None node = two
      ∙ ap (λ l. inserted f.free_node l None node) one in
      subst (λ t. Shows t (erase_node g node))
      (λ j. record (tables_of f) {
        node_stamps = sym stamps j;
        first_outs = sym outs j;
        first_ins = sym ins j;
        node_links = sym links j;
        first_node = sym head_is j;
        free_node = sym free_is j;
        live_nodes = f.live_nodes - 1;
      })
      (node_erased s node live alone)

-- tables that were cleared
pub shows_cleared : {t : Tables} {g : Digraph} → Shows t g
    → Shows (no_tables t.stamps) (clear_nodes (clear_arcs g))
shows_cleared {t = t} {g = g} s =
    subst (λ n. Shows (no_tables n) (clear_nodes (clear_arcs g))) (sym s.stamps_used)
    (none_show g.stamps (valid_nothing g s.valid))
