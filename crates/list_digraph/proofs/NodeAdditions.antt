-- A node is added under a free id, or under a fresh one.
use Rattle.std.proofs.Common.{◌≡◌, ℕ, ◌+◌, ◌<◌, false, List, [], ◌∷◌, ◌++◌, length, get_or, set}
use Rattle.std.proofs.Common.{Some, None, inl, inr, refl, sym, ap, subst, ◌∙◌, arith}
use Rattle.std.specs.Prelude.{◌==◌}
use Rattle.std.proofs.lemmas.Bool.{cases_eq, cases_lt, or_cases, eqb-true}
use Rattle.std.proofs.lemmas.List.{length-set, get_or-set_same, get_or-set_other}
use Rattle.std.proofs.lemmas.List.{get_or_append_left, get_or_push, get_or_past, length_push}
use Rattle.linked_lists.specs.declared.lists.Link.{Link}
use Rattle.linked_lists.specs.Links.{loose, IsList, AreApart, AreWithin, AreElsewhere, IsPlace}
use Rattle.linked_lists.specs.Links.{HasPlaces, link_at, removed, head_removed, inserted}
use Rattle.linked_lists.proofs.Ids.{in_both, has_here, has_later}
use Rattle.linked_lists.proofs.Changes.{list_less, others_less, list_more, others_more, list_pushed}
use Rattle.linked_lists.proofs.Changes.{removed-length, inserted-length, neighbours_placed}
use Rattle.linked_lists.proofs.Changes.{first_place}
use Rattle.plain_digraph.specs.Lists.{has, first, all_but_first}
use Rattle.plain_digraph.specs.Digraph.{Digraph}
use Rattle.plain_digraph.specs.Items.{ids, stamp_of, out_arcs, in_arcs}
use Rattle.plain_digraph.specs.Steps.{add_node, new_node, next_id, used_after}
use Rattle.plain_digraph.specs.ValidLaws.{HasRoomForNode}
use Rattle.plain_digraph.proofs.Shares.{free_not_live, free_below, free_once, live_once, live_below}
use Rattle.plain_digraph.proofs.Rows.{stamp_new, stamp_other}
use Rattle.plain_digraph.proofs.Additions.{valid_with_node, new_node_apart}
use Rattle.list_digraph.specs.Tables.{Tables, Shows, AreLinked}
use Rattle.list_digraph.proofs.Lists.{lacks_or}
use Rattle.list_digraph.proofs.Owned.{apart_once, no_outs, no_ins}

module _ {t : Tables} {g : Digraph} (s : Shows t g) where
  pub nodes_apart : AreApart (ids g.nodes)
  nodes_apart =
      apart_once (ids g.nodes) (live_once (ids g.nodes) g.free_nodes g.used_nodes s.valid.node_ids)

  pub nodes_within : (links : List Link) → length links ≡ g.used_nodes
      → AreWithin (length links) (ids g.nodes)
  nodes_within links size id at = let below =
      live_below (ids g.nodes) g.free_nodes g.used_nodes id s.valid.node_ids at in omega
      (arith, below, size)

  pub free_nodes_apart : AreApart g.free_nodes
  free_nodes_apart =
      apart_once g.free_nodes (free_once (ids g.nodes) g.free_nodes g.used_nodes s.valid.node_ids)

  pub free_nodes_within : AreWithin (length t.node_links) g.free_nodes
  free_nodes_within id at = let below =
      free_below (ids g.nodes) g.free_nodes g.used_nodes id s.valid.node_ids at in omega
      (arith, below, s.node_links_used)

  pub free_nodes_elsewhere : AreElsewhere g.free_nodes (ids g.nodes)
  free_nodes_elsewhere id at =
      lacks_or g.free_nodes id
      (λ free. in_both (has (ids g.nodes) id) at
      (free_not_live (ids g.nodes) g.free_nodes g.used_nodes id s.valid.node_ids free))

  -- ---- the columns where a node has no arcs yet

  -- of a dead row that is used again
  pub outs_again : (node : ℕ) → has (ids g.nodes) node ≡ false → node < length t.first_outs
      → AreLinked (set t.first_outs node None) t.out_links (out_arcs g)
  outs_again node dead below = record {
    each = λ v within.
        let size = length-set t.first_outs node None in
        elim (cases_eq v node) [
          | inl same ↦
              let headed : None ≡ get_or (set t.first_outs node None) v None =
              sym (ap (λ w. get_or (set t.first_outs node None) w None) same
              ∙ get_or-set_same t.first_outs node None None below) in
              subst (λ h. IsList h t.out_links (out_arcs g v)) headed
              (subst (IsList None t.out_links)
              (sym (ap (out_arcs g) same ∙ no_outs g node s.valid dead))
              (record { begins = refl; linked = tt }))
          | inr other ↦
              subst (λ h. IsList h t.out_links (out_arcs g v))
              (sym (get_or-set_other t.first_outs node v None None other))
              (s.out_lists.each v (omega (arith, within, size)))
        ];
  }

  pub ins_again : (node : ℕ) → has (ids g.nodes) node ≡ false → node < length t.first_ins
      → AreLinked (set t.first_ins node None) t.in_links (in_arcs g)
  ins_again node dead below = record {
    each = λ v within.
        let size = length-set t.first_ins node None in
        elim (cases_eq v node) [
          | inl same ↦
              let headed : None ≡ get_or (set t.first_ins node None) v None =
              sym (ap (λ w. get_or (set t.first_ins node None) w None) same
              ∙ get_or-set_same t.first_ins node None None below) in
              subst (λ h. IsList h t.in_links (in_arcs g v)) headed
              (subst (IsList None t.in_links)
              (sym (ap (in_arcs g) same ∙ no_ins g node s.valid dead))
              (record { begins = refl; linked = tt }))
          | inr other ↦
              subst (λ h. IsList h t.in_links (in_arcs g v))
              (sym (get_or-set_other t.first_ins node v None None other))
              (s.in_lists.each v (omega (arith, within, size)))
        ];
  }

  -- of a row that is new
  pub outs_more : has (ids g.nodes) (length t.first_outs) ≡ false
      → AreLinked (t.first_outs ++ None ∷ []) t.out_links (out_arcs g)
  outs_more dead = record {
    each = λ v within.
        let size = length_push t.first_outs None in
        elim (cases_lt v (length t.first_outs)) [
          | inl below ↦
              subst (λ h. IsList h t.out_links (out_arcs g v))
              (sym (get_or_append_left t.first_outs (None ∷ []) None v below))
              (s.out_lists.each v below)
          | inr above ↦
              let last : length t.first_outs ≡ v = omega (arith, within, size, above) in
              subst (λ h. IsList h t.out_links (out_arcs g v))
              (sym (get_or_push t.first_outs None None v last))
              (subst (IsList None t.out_links)
              (sym (ap (out_arcs g) (sym last) ∙ no_outs g (length t.first_outs) s.valid dead))
              (record { begins = refl; linked = tt }))
        ];
  }

  pub ins_more : has (ids g.nodes) (length t.first_ins) ≡ false
      → AreLinked (t.first_ins ++ None ∷ []) t.in_links (in_arcs g)
  ins_more dead = record {
    each = λ v within.
        let size = length_push t.first_ins None in
        elim (cases_lt v (length t.first_ins)) [
          | inl below ↦
              subst (λ h. IsList h t.in_links (in_arcs g v))
              (sym (get_or_append_left t.first_ins (None ∷ []) None v below))
              (s.in_lists.each v below)
          | inr above ↦
              let last : length t.first_ins ≡ v = omega (arith, within, size, above) in
              subst (λ h. IsList h t.in_links (in_arcs g v))
              (sym (get_or_push t.first_ins None None v last))
              (subst (IsList None t.in_links)
              (sym (ap (in_arcs g) (sym last) ∙ no_ins g (length t.first_ins) s.valid dead))
              (record { begins = refl; linked = tt }))
        ];
  }

  -- ---- what is told of the nodes

  told_again : (node at : ℕ) → node < length t.node_stamps → (id : ℕ)
      → get_or (set t.node_stamps node (Some at)) id None ≡ stamp_of ((node, at) ∷ g.nodes) id
  told_again node at below id = elim (cases_eq id node) [
    | inl same ↦
        ap (λ x. get_or (set t.node_stamps node (Some at)) x None) same
        ∙ get_or-set_same t.node_stamps node (Some at) None below
        ∙ sym (ap (stamp_of ((node, at) ∷ g.nodes)) same ∙ stamp_new g.nodes node at)
    | inr other ↦ get_or-set_other t.node_stamps node id (Some at) None other ∙ s.node_told id
        ∙ sym (stamp_other g.nodes node id at other)
  ]

  told_more : (at : ℕ) (id : ℕ)
      → get_or (t.node_stamps ++ Some at ∷ []) id None
      ≡ stamp_of ((length t.node_stamps, at) ∷ g.nodes) id
  told_more at id =
      let size = length_push t.node_stamps (Some at) in
      elim (cases_eq id (length t.node_stamps)) [
        | inl same ↦
            get_or_push t.node_stamps (Some at) None id (sym same)
            ∙ sym (ap (stamp_of ((length t.node_stamps, at) ∷ g.nodes)) same
            ∙ stamp_new g.nodes (length t.node_stamps) at)
        | inr other ↦
            let others : stamp_of ((length t.node_stamps, at) ∷ g.nodes) id ≡ stamp_of g.nodes id =
            stamp_other g.nodes (length t.node_stamps) id at other in
            elim (cases_lt id (length t.node_stamps)) [
              | inl below ↦ get_or_append_left t.node_stamps (Some at ∷ []) None id below
                  ∙ s.node_told id ∙ sym others
              | inr above ↦
                  get_or_past (t.node_stamps ++ Some at ∷ []) id None
                  (omega (arith, above, other, size))
                  ∙ sym (get_or_past t.node_stamps id None above) ∙ s.node_told id ∙ sym others
            ]
      ]

  -- ---- the whole

  -- a node under the id that was given back last
  pub node_reused : (id : ℕ) (rest : List ℕ) → g.free_nodes ≡ id ∷ rest → HasRoomForNode g
      → Shows (record t {
        node_stamps = set t.node_stamps id (Some g.stamps);
        first_outs = set t.first_outs id None;
        first_ins = set t.first_ins id None;
        node_links = inserted t.first_node (removed t.node_links id) None id;
        first_node = Some id;
        free_node = head_removed t.free_node t.node_links id;
        live_nodes = t.live_nodes + 1;
        stamps = g.stamps + 1;
      })
      (add_node g)
  node_reused id rest free room =
      let dead : has (ids g.nodes) id ≡ false =
      free_not_live (ids g.nodes) g.free_nodes g.used_nodes id s.valid.node_ids
      (ap (λ l. has l id) free ∙ has_here rest id) in
      let below : id < g.used_nodes =
      free_below (ids g.nodes) g.free_nodes g.used_nodes id s.valid.node_ids
      (ap (λ l. has l id) free ∙ has_here rest id) in
      let list : IsList t.free_node t.node_links (id ∷ rest) =
      subst (IsList t.free_node t.node_links) free s.free_node_list in
      let apart : AreApart (id ∷ rest) = subst AreApart free free_nodes_apart in
      let within : AreWithin (length t.node_links) (id ∷ rest) =
      subst (AreWithin (length t.node_links)) free free_nodes_within in
      let elsewhere : AreElsewhere (id ∷ rest) (ids g.nodes) =
      subst (λ l. AreElsewhere l (ids g.nodes)) free free_nodes_elsewhere in
      let less : IsList (head_removed t.free_node t.node_links id) (removed t.node_links id) rest =
      list_less [] rest id list apart within in
      let nodes_less : IsList t.first_node (removed t.node_links id) (ids g.nodes) =
      others_less [] rest id list (ids g.nodes) t.first_node elsewhere s.node_list in
      let links = removed t.node_links id in
      let size = removed-length t.node_links id in
      let size2 = inserted-length t.first_node links None id in
      let nodes : IsList (Some id) (inserted t.first_node links None id) (id ∷ ids g.nodes) =
      list_more [] (ids g.nodes) id nodes_less nodes_apart dead
      (omega (arith, below, size, s.node_links_used))
      (nodes_within links (size ∙ s.node_links_used)) in
      let frees : IsList (head_removed t.free_node t.node_links id)
      (inserted t.first_node links None id) rest =
      others_more [] (ids g.nodes) id nodes_less rest (head_removed t.free_node t.node_links id)
      (λ x at. lacks_or (id ∷ ids g.nodes) x
      (λ there. elim (or_cases (id == x) (has (ids g.nodes) x) there) [
        | inl here ↦ in_both (has rest x) at (ap (has rest) (sym (eqb-true id x here)) ∙ apart.0)
        | inr live ↦ in_both (has (id ∷ rest) x) (has_later rest id x at) (elsewhere x live)
      ])) less in
      let used : used_after g.free_nodes g.used_nodes ≡ g.used_nodes =
      ap (λ l. used_after l g.used_nodes) free in
      let new : new_node g ≡ id = ap (λ l. next_id l g.used_nodes) free in
      record {
        valid = valid_with_node g s.valid room;
        node_told = λ x. told_again id g.stamps (omega (arith, below, s.nodes_used)) x
            ∙ ap (λ n. stamp_of ((n, g.stamps) ∷ g.nodes) x) (sym new);
        ends_told = s.ends_told;
        source_told = s.source_told;
        target_told = s.target_told;
        nodes_used = length-set t.node_stamps id (Some g.stamps) ∙ s.nodes_used ∙ sym used;
        outs_used = length-set t.first_outs id None ∙ s.outs_used ∙ sym used;
        ins_used = length-set t.first_ins id None ∙ s.ins_used ∙ sym used;
        arcs_used = s.arcs_used;
        node_links_used = size2 ∙ size ∙ s.node_links_used ∙ sym used;
        out_links_used = s.out_links_used;
        in_links_used = s.in_links_used;
        node_list = subst
            (λ n. IsList (Some id) (inserted t.first_node links None id) (n ∷ ids g.nodes))
            (sym new) nodes;
        free_node_list =
            subst (IsList (head_removed t.free_node t.node_links id)
            (inserted t.first_node links None id)) (sym (ap all_but_first free)) frees;
        free_arc_list = s.free_arc_list;
        out_lists = outs_again id dead (omega (arith, below, s.outs_used));
        in_lists = ins_again id dead (omega (arith, below, s.ins_used));
        nodes_counted = let count = s.nodes_counted in omega (arith, count);
        arcs_counted = s.arcs_counted;
        stamps_used = refl;
      }

  -- a node under a fresh id
  pub node_fresh : g.free_nodes ≡ [] → HasRoomForNode g
      → Shows (record t {
        node_stamps = t.node_stamps ++ Some g.stamps ∷ [];
        first_outs = t.first_outs ++ None ∷ [];
        first_ins = t.first_ins ++ None ∷ [];
        node_links = inserted t.first_node (t.node_links ++ loose ∷ []) None (length t.node_stamps);
        first_node = Some (length t.node_stamps);
        live_nodes = t.live_nodes + 1;
        stamps = g.stamps + 1;
      })
      (add_node g)
  node_fresh free room =
      let id = length t.node_stamps in
      let new : new_node g ≡ id = ap (λ l. next_id l g.used_nodes) free ∙ sym s.nodes_used in
      let used : used_after g.free_nodes g.used_nodes ≡ g.used_nodes + 1 =
      ap (λ l. used_after l g.used_nodes) free in
      let dead : has (ids g.nodes) id ≡ false = ap (has (ids g.nodes)) (sym new)
      ∙ new_node_apart g s.valid in
      let links = t.node_links ++ loose ∷ [] in
      let size = length_push t.node_links loose in
      let size2 = inserted-length t.first_node links None id in
      let within : AreWithin (length t.node_links) (ids g.nodes) =
      nodes_within t.node_links s.node_links_used in
      let pushed : IsList t.first_node links (ids g.nodes) =
      list_pushed t.first_node t.node_links loose (ids g.nodes) within s.node_list in
      let nodes : IsList (Some id) (inserted t.first_node links None id) (id ∷ ids g.nodes) =
      list_more [] (ids g.nodes) id pushed nodes_apart dead
      (omega (arith, size, s.nodes_used, s.node_links_used))
      (λ x at. let below = within x at in omega (arith, below, size)) in
      record {
        valid = valid_with_node g s.valid room;
        node_told = λ x. told_more g.stamps x
            ∙ ap (λ n. stamp_of ((n, g.stamps) ∷ g.nodes) x) (sym new);
        ends_told = s.ends_told;
        source_told = s.source_told;
        target_told = s.target_told;
        nodes_used = omega (arith, length_push t.node_stamps (Some g.stamps), s.nodes_used, used);
        outs_used = omega (arith, length_push t.first_outs None, s.outs_used, used);
        ins_used = omega (arith, length_push t.first_ins None, s.ins_used, used);
        arcs_used = s.arcs_used;
        node_links_used = omega (arith, size, size2, s.node_links_used, used);
        out_links_used = s.out_links_used;
        in_links_used = s.in_links_used;
        node_list = subst
            (λ n. IsList (Some id) (inserted t.first_node links None id) (n ∷ ids g.nodes))
            (sym new) nodes;
        free_node_list =
            subst (IsList t.free_node (inserted t.first_node links None id))
            (sym (ap all_but_first free))
            (record { begins = s.free_node_list.begins ∙ ap first free; linked = tt });
        free_arc_list = s.free_arc_list;
        out_lists = outs_more (ap (has (ids g.nodes)) (s.outs_used ∙ sym s.nodes_used) ∙ dead);
        in_lists = ins_more (ap (has (ids g.nodes)) (s.ins_used ∙ sym s.nodes_used) ∙ dead);
        nodes_counted = let count = s.nodes_counted in omega (arith, count);
        arcs_counted = s.arcs_counted;
        stamps_used = refl;
      }

  -- ---- what the calls ask

  pub reused_placed : (id : ℕ) (rest : List ℕ) → g.free_nodes ≡ id ∷ rest
      → HasPlaces (length t.node_links) (link_at t.node_links id)
  reused_placed id rest free =
      neighbours_placed [] rest id (subst (IsList t.free_node t.node_links) free s.free_node_list)
      (subst (AreWithin (length t.node_links)) free free_nodes_within)

  pub first_node_placed : (links : List Link) → length links ≡ length t.node_links
      → IsPlace (length links) t.first_node
  first_node_placed links size =
      subst (λ n. IsPlace n t.first_node) (sym size)
      (first_place (ids g.nodes) s.node_list (nodes_within t.node_links s.node_links_used))

  pub first_node_placed_more : (links : List Link) → length links ≡ length t.node_links + 1
      → IsPlace (length links) t.first_node
  first_node_placed_more links size =
      let within : AreWithin (length t.node_links) (ids g.nodes) =
      nodes_within t.node_links s.node_links_used in
      let more : List Link = t.node_links ++ loose ∷ [] in
      let pushed : IsList t.first_node more (ids g.nodes) =
      list_pushed t.first_node t.node_links loose (ids g.nodes) within s.node_list in
      let grown = length_push t.node_links loose in
      let within_more : AreWithin (length more) (ids g.nodes) = λ x at. let below =
      within x at in omega (arith, below, grown) in
      subst (λ n. IsPlace n t.first_node) (grown ∙ sym size)
      (first_place (ids g.nodes) pushed within_more)
