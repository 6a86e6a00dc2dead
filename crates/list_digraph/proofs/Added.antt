-- What the calls of an addition make of the fields.
use Rattle.std.proofs.Common.{◌≡◌, ℕ, ◌+◌, ◌<◌, ◌≤◌, true, inl, inr, List, [], ◌∷◌, ◌++◌, length}
use Rattle.std.proofs.Common.{set, Some, None, Option, Ok, Err, Result, refl, sym, ap, subst, ◌∙◌}
use Rattle.std.proofs.Common.{arith}
use Rattle.std.specs.Prelude.{slice_set, OnOk, OnErr, is_err, vec_capacity, vec_len, ◌⊎◌}
use Rattle.std.specs.FinMap as fin
use Rattle.plain_digraph.proofs.Shares.{shared_length}
use Rattle.plain_digraph.proofs.Live.{live_counted}
use Rattle.std.proofs.lemmas.Option.{none-some, same_Some}
use Rattle.std.proofs.lemmas.Bool.{true≢false}
use Rattle.std.proofs.lemmas.List.{length-map, map-set, map_push}
use Rattle.base_items.specs.declared.limits.TheConstants.{MAX_NODES, MAX_ARCS, MAX_STAMP}
use Rattle.base_items.specs.declared.items.ItemSort.TheVariants as sorts
use Rattle.linked_lists.specs.declared.lists.Link.{Link}
use Rattle.linked_lists.specs.Links.{loose, IsList, AreWithin, IsPlace, HasPlaces, link_at, removed}
use Rattle.linked_lists.specs.Links.{head_removed, inserted, head_inserted}
use Rattle.linked_lists.proofs.Changes.{first_place, neighbours_placed}
use Rattle.linked_lists.proofs.Ids.{has_here}
use Rattle.plain_digraph.specs.Lists.{first, has, all_but_first}
use Rattle.plain_digraph.specs.Digraph.{Digraph}
use Rattle.plain_digraph.specs.Items.{ids, IsLive, out_arcs, in_arcs}
use Rattle.plain_digraph.specs.Steps.{add_node, add_arc}
use Rattle.plain_digraph.specs.ValidLaws.{HasRoomForNode, HasRoomForArc}
use Rattle.list_digraph.specs.declared.graph.ListDigraph.TheInside.{Inside}
use Rattle.list_digraph.specs.declared.rows.NodeRow.{NodeRow}
use Rattle.list_digraph.specs.declared.rows.ArcRow.{ArcRow}
use Rattle.list_digraph.specs.Rows.{node_at, node_stamps, out_heads, in_heads, head_at, SetsOut}
use Rattle.list_digraph.specs.Rows.{SetsIn}
use Rattle.list_digraph.specs.Tables.{Tables, Shows}
use Rattle.list_digraph.specs.Inside.{tables_of, spare_nodes_of, spare_arcs_of}
use Rattle.list_digraph.proofs.Seen.{node_below}
use Rattle.list_digraph.proofs.ArcSteps.{owned_in, owned_out, free_within}
use Rattle.list_digraph.proofs.NodeAdditions.{node_reused, node_fresh, reused_placed}
use Rattle.list_digraph.proofs.NodeAdditions.{first_node_placed, free_nodes_within}
use Rattle.list_digraph.proofs.ArcAdditions.{heads_with, links_with, arc_reused, arc_fresh}

pub first_some : {X : Type 0} (xs : List X) (x : X) → first xs ≡ Some x → xs ≡ x ∷ all_but_first xs
first_some [] x e = absurd (none-some x e)
first_some (y ∷ xs) x e = ap (λ z. z ∷ xs) (same_Some y x e)

pub first_none : {X : Type 0} (xs : List X) → first xs ≡ None → xs ≡ []
first_none [] e = refl
first_none (x ∷ xs) e = absurd (none-some x (sym e))

-- a place in a table is one in a larger table
place_more : (m n : ℕ) (at : Option ℕ) → m ≤ n → IsPlace m at → IsPlace n at
place_more m n None h place = tt
place_more m n (Some id) h place = omega (arith, h, place)

module _ (f : Inside) {g : Digraph} (s : Shows (tables_of f) g) where
  abbrev new_row : NodeRow
  new_row = record { live = true; at = f.stamps; first_out = None; first_in = None }

  pub shows_reused_node : (id : ℕ) {links1 links2 : List Link} {head free : Option ℕ}
      → first g.free_nodes ≡ Some id → HasRoomForNode g
      → links1 ≡ removed f.node_links.items id
      → free ≡ head_removed f.free_node f.node_links.items id
      → links2 ≡ inserted f.first_node links1 None id → head ≡ head_inserted f.first_node None id
      → Shows (record (tables_of f) {
        node_stamps = node_stamps (slice_set f.nodes.items id new_row);
        first_outs = out_heads (slice_set f.nodes.items id new_row);
        first_ins = in_heads (slice_set f.nodes.items id new_row);
        node_links = links2;
        first_node = head;
        free_node = free;
        live_nodes = f.live_nodes + 1;
        stamps = f.stamps + 1;
      })
      (add_node g)
  shows_reused_node id {links2 = links2} {head = head} {free = free} is_free room one rest two
      first_is =
      let now = s.stamps_used in
      let stamps : node_stamps (slice_set f.nodes.items id new_row)
      ≡ set (node_stamps f.nodes.items) id (Some g.stamps) =
      map-set node_at f.nodes.items id new_row
      ∙ ap (λ n. set (node_stamps f.nodes.items) id (Some n)) now in
      let outs : out_heads (slice_set f.nodes.items id new_row)
      ≡ set (out_heads f.nodes.items) id None =
      map-set (λ r. r.first_out) f.nodes.items id new_row in
      let ins : in_heads (slice_set f.nodes.items id new_row)
      ≡ set (in_heads f.nodes.items) id None =
      map-set (λ r. r.first_in) f.nodes.items id new_row in
      let links : links2 ≡ inserted f.first_node (removed f.node_links.items id) None id = two
      ∙ ap (λ l. inserted f.first_node l None id) one in
      subst (λ t. Shows t (add_node g))
      (λ j. record (tables_of f) {
        node_stamps = sym stamps j;
        first_outs = sym outs j;
        first_ins = sym ins j;
        node_links = sym links j;
        first_node = sym first_is j;
        free_node = sym rest j;
        live_nodes = f.live_nodes + 1;
        stamps = sym now j + 1;
      })
      (node_reused s id (all_but_first g.free_nodes) (first_some g.free_nodes id is_free) room)

  pub shows_fresh_node : {id : ℕ} {nodes : List NodeRow} {links1 links2 : List Link} {head : Option
      ℕ} → first g.free_nodes ≡ None → HasRoomForNode g
      → id ≡ length f.nodes.items → nodes ≡ f.nodes.items ++ new_row ∷ []
      → links1 ≡ f.node_links.items ++ loose ∷ [] → links2 ≡ inserted f.first_node links1 None id
      → head ≡ head_inserted f.first_node None id
      → Shows (record (tables_of f) {
        node_stamps = node_stamps nodes;
        first_outs = out_heads nodes;
        first_ins = in_heads nodes;
        node_links = links2;
        first_node = head;
        live_nodes = f.live_nodes + 1;
        stamps = f.stamps + 1;
      })
      (add_node g)
  shows_fresh_node {id = id} {nodes = nodes} {links2 = links2} free room is pushed one two
      first_is =
      let now = s.stamps_used in
      let stamps : node_stamps nodes ≡ node_stamps f.nodes.items ++ Some g.stamps ∷ [] =
      ap node_stamps pushed ∙ map_push node_at f.nodes.items new_row
      ∙ ap (λ n. node_stamps f.nodes.items ++ Some n ∷ []) now in
      let outs : out_heads nodes ≡ out_heads f.nodes.items ++ None ∷ [] = ap out_heads pushed
      ∙ map_push (λ r. r.first_out) f.nodes.items new_row in
      let ins : in_heads nodes ≡ in_heads f.nodes.items ++ None ∷ [] = ap in_heads pushed
      ∙ map_push (λ r. r.first_in) f.nodes.items new_row in
      let id_is : id ≡ length (node_stamps f.nodes.items) = is
      ∙ sym (length-map f.nodes.items node_at) in
      let links : links2
      ≡ inserted f.first_node (f.node_links.items ++ loose ∷ []) None
      (length (node_stamps f.nodes.items)) =
      two ∙ (λ j. inserted f.first_node (one j) None (id_is j)) in
      subst (λ t. Shows t (add_node g))
      (λ j. record (tables_of f) {
        node_stamps = sym stamps j;
        first_outs = sym outs j;
        first_ins = sym ins j;
        node_links = sym links j;
        first_node = sym (first_is ∙ ap Some id_is) j;
        live_nodes = f.live_nodes + 1;
        stamps = sym now j + 1;
      })
      (node_fresh s (first_none g.free_nodes free) room)

  -- ---- arcs

  module _ (from to : ℕ) (from_live : IsLive g sorts.Node from) (to_live : IsLive g sorts.Node to)
    where
      abbrev row : ArcRow
      row = record { live = true; from = from; to = to; from_at = f.stamps; to_at = f.stamps }

      pub shows_reused_arc : {id : ℕ} {nodes1 nodes2 : List NodeRow} {links1 links2 links3 : List
          Link} {rest : Option ℕ} → first g.free_arcs ≡ Some id → HasRoomForArc g
          → links1 ≡ removed f.out_links.items id
          → rest ≡ head_removed f.free_arc f.out_links.items id
          → SetsOut f.nodes.items nodes1 from
          (head_inserted (head_at (out_heads f.nodes.items) from) None id)
          → links2 ≡ inserted (head_at (out_heads f.nodes.items) from) links1 None id
          → SetsIn nodes1 nodes2 to (head_inserted (head_at (in_heads nodes1) to) None id)
          → links3 ≡ inserted (head_at (in_heads nodes1) to) f.in_links.items None id
          → Shows (record (tables_of f) {
            node_stamps = node_stamps nodes2;
            first_outs = out_heads nodes2;
            first_ins = in_heads nodes2;
            arcs = slice_set f.arcs.items id row;
            out_links = links2;
            in_links = links3;
            free_arc = rest;
            live_arcs = f.live_arcs + 1;
            stamps = f.stamps + 1;
          })
          (add_arc g from to)
      shows_reused_arc {id = id} {nodes2 = nodes2} {links2 = links2} {links3 = links3} free room one
          rest_is out two into three =
          let now = s.stamps_used in
          let stamps : node_stamps nodes2 ≡ node_stamps f.nodes.items = into.stamps ∙ out.stamps in
          let outs : out_heads nodes2 ≡ heads_with (out_heads f.nodes.items) from id = into.outs
          ∙ out.outs in
          let ins : in_heads nodes2 ≡ heads_with (in_heads f.nodes.items) to id = into.ins
          ∙ ap (λ h. heads_with h to id) out.ins in
          let out_links : links2
          ≡ links_with (out_heads f.nodes.items) (removed f.out_links.items id) from id =
          two ∙ ap (λ l. links_with (out_heads f.nodes.items) l from id) one in
          let in_links : links3 ≡ links_with (in_heads f.nodes.items) f.in_links.items to id = three
          ∙ ap (λ h. links_with h f.in_links.items to id) out.ins in
          subst (λ t. Shows t (add_arc g from to))
          (λ j. record (tables_of f) {
            node_stamps = sym stamps j;
            first_outs = sym outs j;
            first_ins = sym ins j;
            arcs = slice_set f.arcs.items id
                (record {
                  live = true;
                  from = from;
                  to = to;
                  from_at = sym now j;
                  to_at =
                      sym now j;
                });
            out_links = sym out_links j;
            in_links = sym in_links j;
            free_arc = sym rest_is j;
            live_arcs = f.live_arcs + 1;
            stamps = sym now j + 1;
          })
          (arc_reused s from to id (all_but_first g.free_arcs) from_live to_live
          (first_some g.free_arcs id free) room)

      pub shows_fresh_arc : {id : ℕ} {arcs : List ArcRow} {nodes1 nodes2 : List NodeRow} {links0
          links1 links2 links3 : List Link} → first g.free_arcs ≡ None → HasRoomForArc g
          → id ≡ length f.arcs.items → arcs ≡ f.arcs.items ++ row ∷ []
          → links0 ≡ f.out_links.items ++ loose ∷ [] → links1 ≡ f.in_links.items ++ loose ∷ []
          → SetsOut f.nodes.items nodes1 from
          (head_inserted (head_at (out_heads f.nodes.items) from) None id)
          → links2 ≡ inserted (head_at (out_heads f.nodes.items) from) links0 None id
          → SetsIn nodes1 nodes2 to (head_inserted (head_at (in_heads nodes1) to) None id)
          → links3 ≡ inserted (head_at (in_heads nodes1) to) links1 None id
          → Shows (record (tables_of f) {
            node_stamps = node_stamps nodes2;
            first_outs = out_heads nodes2;
            first_ins = in_heads nodes2;
            arcs = arcs;
            out_links = links2;
            in_links = links3;
            live_arcs = f.live_arcs + 1;
            stamps = f.stamps + 1;
          })
          (add_arc g from to)
      shows_fresh_arc {id = id} {arcs = arcs} {nodes2 = nodes2} {links2 = links2} {links3 = links3}
          free room is pushed zero_is one out two into three =
          let now = s.stamps_used in
          let stamps : node_stamps nodes2 ≡ node_stamps f.nodes.items = into.stamps ∙ out.stamps in
          let outs : out_heads nodes2
          ≡ heads_with (out_heads f.nodes.items) from (length f.arcs.items) = into.outs ∙ out.outs
          ∙ ap (heads_with (out_heads f.nodes.items) from) is in
          let ins : in_heads nodes2 ≡ heads_with (in_heads f.nodes.items) to (length f.arcs.items) =
          into.ins ∙ ap (λ h. heads_with h to id) out.ins
          ∙ ap (heads_with (in_heads f.nodes.items) to) is in
          let out_links : links2
          ≡ links_with (out_heads f.nodes.items) (f.out_links.items ++ loose ∷ []) from
          (length f.arcs.items) =
          two ∙ (λ j. links_with (out_heads f.nodes.items) (zero_is j) from (is j)) in
          let in_links : links3
          ≡ links_with (in_heads f.nodes.items) (f.in_links.items ++ loose ∷ []) to
          (length f.arcs.items) =
          three ∙ (λ j. links_with (out.ins j) (one j) to (is j)) in
          subst (λ t. Shows t (add_arc g from to))
          (λ j. record (tables_of f) {
            node_stamps = sym stamps j;
            first_outs = sym outs j;
            first_ins = sym ins j;
            arcs = (sym pushed ∙ refl) j;
            out_links = sym out_links j;
            in_links = sym in_links j;
            live_arcs = f.live_arcs + 1;
            stamps = sym now j + 1;
          })
          (subst (λ n. Shows (record (tables_of f) {
            first_outs = heads_with (out_heads f.nodes.items) from (length f.arcs.items);
            first_ins = heads_with (in_heads f.nodes.items) to (length f.arcs.items);
            arcs = f.arcs.items
                ++ record { live = true; from = from; to = to; from_at = n; to_at = n } ∷ [];
            out_links = links_with (out_heads f.nodes.items) (f.out_links.items ++ loose ∷ []) from
                (length f.arcs.items);
            in_links = links_with (in_heads f.nodes.items) (f.in_links.items ++ loose ∷ []) to
                (length f.arcs.items);
            live_arcs = f.live_arcs + 1;
            stamps = g.stamps + 1;
          }) (add_arc g from to)) (sym now)
          (arc_fresh s from to from_live to_live (first_none g.free_arcs free) room))

  -- ---- what the calls ask

  pub free_id : (id : ℕ) → first g.free_nodes ≡ Some id → id < length f.node_links.items
  free_id id free = let below =
      free_nodes_within s id
      (ap (λ l. has l id) (first_some g.free_nodes id free)
      ∙ has_here (all_but_first g.free_nodes) id) in below

  pub free_arc_id : (id : ℕ) → first g.free_arcs ≡ Some id → id < length f.out_links.items
  free_arc_id id free =
      free_within s id
      (ap (λ l. has l id) (first_some g.free_arcs id free)
      ∙ has_here (all_but_first g.free_arcs) id)

  pub free_placed : (id : ℕ) → first g.free_nodes ≡ Some id
      → HasPlaces (length f.node_links.items) (link_at f.node_links.items id)
  free_placed id free =
      reused_placed s id (all_but_first g.free_nodes) (first_some g.free_nodes id free)

  pub free_arc_placed : (id : ℕ) → first g.free_arcs ≡ Some id
      → HasPlaces (length f.out_links.items) (link_at f.out_links.items id)
  free_arc_placed id free = neighbours_placed [] (all_but_first g.free_arcs) id
      (subst (IsList f.free_arc f.out_links.items) (first_some g.free_arcs id free) s.free_arc_list)
      (subst (AreWithin (length f.out_links.items)) (first_some g.free_arcs id free)
      (free_within s))

  -- the head of a node's list
  pub out_head_fits : (node : ℕ) (links : List Link) → IsLive g sorts.Node node
      → length f.out_links.items ≤ length links
      → IsPlace (length links) (head_at (out_heads f.nodes.items) node)
  out_head_fits node links live more =
      let below = node_below s node live in
      place_more (length f.out_links.items) (length links) (head_at (out_heads f.nodes.items) node)
      more
      (first_place (out_arcs g node) (s.out_lists.each node (omega (arith, below, s.outs_used)))
      ((owned_out s).within node))

  pub in_head_fits : (node : ℕ) (links : List Link) → IsLive g sorts.Node node
      → length f.in_links.items ≤ length links
      → IsPlace (length links) (head_at (in_heads f.nodes.items) node)
  in_head_fits node links live more =
      let below = node_below s node live in
      place_more (length f.in_links.items) (length links) (head_at (in_heads f.nodes.items) node)
      more
      (first_place (in_arcs g node) (s.in_lists.each node (omega (arith, below, s.ins_used)))
      ((owned_in s).within node))

  pub first_node_fits : (links : List Link) → length f.node_links.items ≤ length links
      → IsPlace (length links) f.first_node
  first_node_fits links more =
      place_more (length f.node_links.items) (length links) f.first_node more
      (first_node_placed s f.node_links.items refl)

-- ---- room for one more

pub room_for_node : {t : Tables} {g : Digraph} → Shows t g → (t.live_nodes ≡ MAX_NODES → ⊥)
    → (t.stamps ≡ MAX_STAMP → ⊥) → HasRoomForNode g
room_for_node {g = g} s few left =
    let whole = shared_length (ids g.nodes) g.free_nodes g.used_nodes s.valid.node_ids in
    let size = length-map g.nodes (λ p. p.0) in
    let most = s.valid.few_nodes in
    let count = s.nodes_counted in
    let last = s.valid.few_stamps in
    let now = s.stamps_used in
    (omega (arith, whole, size, most, count, few), omega (arith, last, now, left))

pub few_nodes_live : {t : Tables} {g : Digraph} → Shows t g → (t.live_nodes ≡ MAX_NODES → ⊥)
    → length g.nodes < MAX_NODES
few_nodes_live {g = g} s few =
    let whole = shared_length (ids g.nodes) g.free_nodes g.used_nodes s.valid.node_ids in
    let size = length-map g.nodes (λ p. p.0) in
    let most = s.valid.few_nodes in
    let count = s.nodes_counted in
    omega (arith, whole, size, most, count, few)

pub few_arcs_live : {t : Tables} {g : Digraph} → Shows t g → (t.live_arcs ≡ MAX_ARCS → ⊥)
    → length g.by_source < MAX_ARCS
few_arcs_live {g = g} s few =
    let whole = shared_length (fin.keys g.ends) g.free_arcs g.used_arcs s.valid.arc_ids in
    let size = live_counted g sorts.Arc s.valid in
    let most = s.valid.few_arcs in
    let count = s.arcs_counted in
    omega (arith, whole, size, most, count, few)

pub room_for_arc : {t : Tables} {g : Digraph} → Shows t g → (t.live_arcs ≡ MAX_ARCS → ⊥)
    → (t.stamps ≡ MAX_STAMP → ⊥) → HasRoomForArc g
room_for_arc s few left =
    let last = s.valid.few_stamps in
    let now = s.stamps_used in
    (few_arcs_live s few, omega (arith, last, now, left))

pub on_ok : {T E : Type 0} (r : Result T E) (P : Type 0) → P → OnOk r P
on_ok (Ok x) P p = p
on_ok (Err e) P p = tt

-- ---- spare numbers

pub from_err : {T E : Type 0} (r : Result T E) (P : Type 0) → is_err r ≡ true → OnErr r P → P
from_err (Ok x) P e p = absurd (true≢false (sym e))
from_err (Err x) P e p = p

module _ (f : Inside) {g : Digraph} (s : Shows (tables_of f) g) where
  pub live_nodes_within : f.live_nodes ≤ length f.nodes.items
  live_nodes_within =
      let whole = shared_length (ids g.nodes) g.free_nodes g.used_nodes s.valid.node_ids in
      let size = length-map g.nodes (λ p. p.0) in
      omega (arith, whole, size, s.nodes_counted, s.nodes_used, length-map f.nodes.items node_at)

  pub live_arcs_within : f.live_arcs ≤ length f.arcs.items
  live_arcs_within =
      let whole = shared_length (fin.keys g.ends) g.free_arcs g.used_arcs s.valid.arc_ids in
      let size = live_counted g sorts.Arc s.valid in
      omega (arith, whole, size, s.arcs_counted, s.arcs_used)

  -- where no id is free, all rows are live
  pub nodes_full : first g.free_nodes ≡ None → f.live_nodes ≡ length f.nodes.items
  nodes_full free =
      let whole = shared_length (ids g.nodes) g.free_nodes g.used_nodes s.valid.node_ids in
      let size = length-map g.nodes (λ p. p.0) in
      let nothing = ap length (first_none g.free_nodes free) in
      omega (
        arith,
        whole,
        size,
        nothing,
        s.nodes_counted,
        s.nodes_used,
        length-map f.nodes.items node_at,
      )

  pub arcs_full : first g.free_arcs ≡ None → f.live_arcs ≡ length f.arcs.items
  arcs_full free =
      let whole = shared_length (fin.keys g.ends) g.free_arcs g.used_arcs s.valid.arc_ids in
      let size = live_counted g sorts.Arc s.valid in
      let nothing = ap length (first_none g.free_arcs free) in
      omega (arith, whole, size, nothing, s.arcs_counted, s.arcs_used)

  pub no_spare_nodes : first g.free_nodes ≡ None
      → (vec_capacity f.nodes < vec_len f.nodes + 1)
      ⊎ (vec_capacity f.node_links < vec_len f.node_links + 1) → spare_nodes_of f ≡ 0
  no_spare_nodes free full =
      let all = nodes_full free in
      let size = f.nodes.ok.0 in
      let size2 = f.node_links.ok.0 in
      let rows = length-map f.nodes.items node_at in
      elim full [
        | inl one ↦ omega (arith, all, size, one)
        | inr two ↦ omega (arith, all, size, size2, two, rows, s.nodes_used, s.node_links_used)
      ]

  pub no_spare_arcs : first g.free_arcs ≡ None
      → (vec_capacity f.arcs < vec_len f.arcs + 1)
      ⊎ ((vec_capacity f.out_links < vec_len f.out_links + 1)
      ⊎ (vec_capacity f.in_links < vec_len f.in_links + 1)) → spare_arcs_of f ≡ 0
  no_spare_arcs free full =
      let all = arcs_full free in
      let size = f.arcs.ok.0 in
      let size2 = f.out_links.ok.0 in
      let size3 = f.in_links.ok.0 in
      elim full [
        | inl one ↦ omega (arith, all, size, one)
        | inr more ↦ elim more [
          | inl two ↦ omega (arith, all, size, size2, two, s.arcs_used, s.out_links_used)
          | inr three ↦ omega (arith, all, size, size3, three, s.arcs_used, s.in_links_used)
        ]
      ]
