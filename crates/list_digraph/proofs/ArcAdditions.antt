-- An arc is added under a free id, or under a fresh one.
use Rattle.std.proofs.Common.{◌≡◌, ℕ, ◌+◌, ◌<◌, true, false, cond, List, [], ◌∷◌, ◌++◌, length, map}
use Rattle.std.proofs.Common.{get_or, set, IsPermutation, None, Option, inl, inr, refl, sym, ap}
use Rattle.std.proofs.Common.{subst, ◌∙◌, arith}
use Rattle.std.specs.Prelude.{◌==◌}
use Rattle.std.specs.FinMap as fin
use Rattle.std.proofs.lemmas.Bool.{cases_eq, cases_lt, true≢false}
use Rattle.std.proofs.lemmas.List.Sorted.{list_any-IsPermutation}
use Rattle.std.proofs.lemmas.List.{length-set, length-map, map_push, get_or_append_left}
use Rattle.std.proofs.lemmas.List.{get_or_push, get_or_past, length_push}
use Rattle.base_items.specs.declared.items.ItemSort.TheVariants as sorts
use Rattle.linked_lists.specs.declared.lists.Link.{Link}
use Rattle.linked_lists.specs.Links.{loose, IsList, AreApart, AreWithin, AreElsewhere, HasPlaces}
use Rattle.linked_lists.specs.Links.{link_at, removed, head_removed, inserted, head_inserted}
use Rattle.linked_lists.proofs.Ids.{in_both, has_here, has_later}
use Rattle.linked_lists.proofs.Changes.{list_less, others_less, list_pushed, removed-length}
use Rattle.linked_lists.proofs.Changes.{inserted-length, neighbours_placed}
use Rattle.plain_digraph.specs.Lists.{has, first, all_but_first}
use Rattle.plain_digraph.specs.Digraph.{Digraph}
use Rattle.plain_digraph.specs.Items.{ids, IsLive, stamp_of, out_arcs, in_arcs}
use Rattle.plain_digraph.specs.Steps.{add_arc, new_arc, next_id, used_after}
use Rattle.plain_digraph.specs.ValidLaws.{HasRoomForArc}
use Rattle.plain_digraph.proofs.Shares.{free_below}
use Rattle.plain_digraph.proofs.Keys.{get_new, get_other}
use Rattle.plain_digraph.proofs.Rows.{stamp_new, stamp_other}
use Rattle.plain_digraph.proofs.Live.{live_listed}
use Rattle.plain_digraph.proofs.Orders.{out_arc_own, in_arc_own}
use Rattle.plain_digraph.proofs.Additions.{valid_with_arc, new_arc_apart, first_of_end}
use Rattle.list_digraph.specs.declared.rows.ArcRow.{ArcRow}
use Rattle.list_digraph.specs.Rows.{read, ends_at, source_at, target_at, head_at}
use Rattle.list_digraph.specs.Tables.{Tables, Shows, AreLinked}
use Rattle.list_digraph.proofs.Lists.{Owned, lacks_or, at_node, linked_entered, others_entered}
use Rattle.list_digraph.proofs.Lists.{linked_as}
use Rattle.list_digraph.proofs.Owned.{free_elsewhere}
use Rattle.list_digraph.proofs.Seen.{node_below}
use Rattle.list_digraph.proofs.ArcSteps.{owned_out, owned_in, free_apart, free_within, told_set}
use Rattle.list_digraph.proofs.ArcSteps.{linked_kept}
use Rattle.list_digraph.proofs.ArcMoves.{at_node-front}

-- what is told of all ids where one more row is there
told_push : {X : Type 0} (at : ArcRow → Option X) (arcs : List ArcRow) (row : ArcRow) (old new : ℕ
    → Option X)
    → ((id : ℕ) → read at arcs id ≡ old id) → at row ≡ new (length arcs)
    → ((id : ℕ) → (id ≡ length arcs → ⊥) → new id ≡ old id)
    → (id : ℕ) → read at (arcs ++ row ∷ []) id ≡ new id
told_push at arcs row old new was here others id =
    let column = map_push at arcs row in
    let size = length-map arcs at in
    let size2 = length_push (map at arcs) (at row) in
    ap (λ l. get_or l id None) column ∙ elim (cases_eq id (length arcs)) [
      | inl same ↦ get_or_push (map at arcs) (at row) None id (size ∙ sym same) ∙ here
          ∙ ap new (sym same)
      | inr other ↦ elim (cases_lt id (length arcs)) [
        | inl below ↦
            get_or_append_left (map at arcs) (at row ∷ []) None id (omega (arith, below, size))
            ∙ was id ∙ sym (others id other)
        | inr above ↦
            get_or_past (map at arcs ++ at row ∷ []) id None
            (omega (arith, above, other, size, size2))
            ∙ sym (get_or_past (map at arcs) id None (omega (arith, above, size))) ∙ was id
            ∙ sym (others id other)
      ]
    ]

-- the heads and the links where an arc has entered the list of a node in front
abbrev pub heads_with : List (Option ℕ) → ℕ → ℕ → List (Option ℕ)
heads_with heads node arc = set heads node (head_inserted (head_at heads node) None arc)

abbrev pub links_with : List (Option ℕ) → List Link → ℕ → ℕ → List Link
links_with heads links node arc = inserted (head_at heads node) links None arc

module _ {t : Tables} {g : Digraph} (s : Shows t g) where
  -- an id that isn't live is at no node
  dead_out : (id : ℕ) → has (fin.keys g.ends) id ≡ false → (v : ℕ) → has (out_arcs g v) id ≡ false
  dead_out id dead v = lacks_or (out_arcs g v) id (λ at.
      in_both (has (fin.keys g.ends) id) (live_listed g sorts.Arc id (out_arc_own g v id at).0)
      dead)

  dead_in : (id : ℕ) → has (fin.keys g.ends) id ≡ false → (v : ℕ) → has (in_arcs g v) id ≡ false
  dead_in id dead v = lacks_or (in_arcs g v) id (λ at.
      in_both (has (fin.keys g.ends) id) (live_listed g sorts.Arc id (in_arc_own g v id at).0) dead)

  -- ---- the whole, where the table has a link for the new arc

  module _ (from to id : ℕ) (rest : List ℕ) (used : ℕ) (from_live : IsLive g sorts.Node from)
      (to_live : IsLive g sorts.Node to)
      (new : new_arc g ≡ id) (left : all_but_first g.free_arcs ≡ rest)
      (now_used : used_after g.free_arcs g.used_arcs ≡ used) (room : HasRoomForArc g)
      (out_links in_links : List Link) (free_arc : Option ℕ) (arcs : List ArcRow) where
    abbrev row : ArcRow
    row = record { live = true; from = from; to = to; from_at = g.stamps; to_at = g.stamps }

    dead : has (fin.keys g.ends) id ≡ false
    dead = ap (has (fin.keys g.ends)) (sym new) ∙ new_arc_apart g s.valid

    out_below : from < length t.first_outs
    out_below = let below = node_below s from from_live in omega (arith, below, s.outs_used)

    in_below : to < length t.first_ins
    in_below = let below = node_below s to to_live in omega (arith, below, s.ins_used)

    lacks_list : (xs : List ℕ) → IsPermutation xs (fin.keys g.ends) → has xs (new_arc g) ≡ false
    lacks_list xs whole =
        list_any-IsPermutation (λ other. other == new_arc g) xs (fin.keys g.ends) whole
        ∙ new_arc_apart g s.valid

    out_is : (v : ℕ)
        → at_node (out_arcs g) from (id ∷ out_arcs g from) v ≡ out_arcs (add_arc g from to) v
    out_is v = at_node-front (out_arcs g) from id v
        ∙ ap (λ n. cond (from == v) (n ∷ out_arcs g v) (out_arcs g v)) (sym new)
        ∙ sym (first_of_end (λ e. e.0) g.ends (new_arc g) (from, to) v (ids g.by_source)
        (lacks_list (ids g.by_source) s.valid.sources_whole))

    in_is : (v : ℕ) → at_node (in_arcs g) to (id ∷ in_arcs g to) v ≡ in_arcs (add_arc g from to) v
    in_is v = at_node-front (in_arcs g) to id v
        ∙ ap (λ n. cond (to == v) (n ∷ in_arcs g v) (in_arcs g v)) (sym new)
        ∙ sym (first_of_end (λ e. e.1) g.ends (new_arc g) (from, to) v (ids g.by_target)
        (lacks_list (ids g.by_target) s.valid.targets_whole))

    pub arc_added : Owned (length out_links) (out_arcs g) → Owned (length in_links) (in_arcs g)
        → AreLinked t.first_outs out_links (out_arcs g) → AreLinked t.first_ins in_links (in_arcs g)
        → IsList free_arc out_links rest → AreElsewhere (out_arcs g from) rest → has rest id ≡ false
        → id < used → length out_links ≡ used → length in_links ≡ used → length arcs ≡ used
        → ((x : ℕ) → read ends_at arcs x ≡ fin.get (fin.insert g.ends id (from, to)) x)
        → ((x : ℕ) → read source_at arcs x ≡ stamp_of ((id, g.stamps) ∷ g.by_source) x)
        → ((x : ℕ) → read target_at arcs x ≡ stamp_of ((id, g.stamps) ∷ g.by_target) x)
        → Shows (record t {
          first_outs = heads_with t.first_outs from id;
          first_ins = heads_with t.first_ins to id;
          arcs = arcs;
          out_links = links_with t.first_outs out_links from id;
          in_links = links_with t.first_ins in_links to id;
          free_arc = free_arc;
          live_arcs = t.live_arcs + 1;
          stamps = g.stamps + 1;
        })
        (add_arc g from to)
    arc_added owned_o owned_i outs ins free free_apart_from free_lacks below out_size in_size
        arcs_size ends sources targets = record {
          valid = valid_with_arc g from to s.valid room from_live to_live;
          node_told = s.node_told;
          ends_told = λ x. ends x ∙ ap (λ n. fin.get (fin.insert g.ends n (from, to)) x) (sym new);
          source_told = λ x. sources x ∙ ap (λ n. stamp_of ((n, g.stamps) ∷ g.by_source) x) (sym new);
          target_told = λ x. targets x ∙ ap (λ n. stamp_of ((n, g.stamps) ∷ g.by_target) x) (sym new);
          nodes_used = s.nodes_used;
          outs_used = length-set t.first_outs from _ ∙ s.outs_used;
          ins_used = length-set t.first_ins to _ ∙ s.ins_used;
          arcs_used = arcs_size ∙ sym now_used;
          node_links_used = s.node_links_used;
          out_links_used = inserted-length (head_at t.first_outs from) out_links None id ∙ out_size
              ∙ sym now_used;
          in_links_used = inserted-length (head_at t.first_ins to) in_links None id ∙ in_size
              ∙ sym now_used;
          node_list = s.node_list;
          free_node_list = s.free_node_list;
          free_arc_list = subst (IsList free_arc (links_with t.first_outs out_links from id)) (sym left)
              (others_entered owned_o outs from id out_below [] (out_arcs g from) refl
              (dead_out id dead) (omega (arith, below, out_size))
              rest free_arc free_apart_from free_lacks free);
          out_lists = linked_as
              (linked_entered owned_o outs from id out_below [] (out_arcs g from) refl
              (dead_out id dead) (omega (arith, below, out_size))) out_is;
          in_lists = linked_as
              (linked_entered owned_i ins to id in_below [] (in_arcs g to) refl (dead_in id dead)
              (omega (arith, below, in_size))) in_is;
          nodes_counted = s.nodes_counted;
          arcs_counted = let count = s.arcs_counted in omega (arith, count);
          stamps_used = refl;
        }

  -- ---- under the id that was given back last

  module _ (from to id : ℕ) (rest : List ℕ) (from_live : IsLive g sorts.Node from)
      (to_live : IsLive g sorts.Node to) (free : g.free_arcs ≡ id ∷ rest) where
    free_list : IsList t.free_arc t.out_links (id ∷ rest)
    free_list = subst (IsList t.free_arc t.out_links) free s.free_arc_list

    free_whole_apart : AreApart (id ∷ rest)
    free_whole_apart = subst AreApart free (free_apart s)

    free_whole_within : AreWithin (length t.out_links) (id ∷ rest)
    free_whole_within = subst (AreWithin (length t.out_links)) free (free_within s)

    free_at : (v : ℕ) → AreElsewhere (out_arcs g v) (id ∷ rest)
    free_at v = subst (AreElsewhere (out_arcs g v)) free (free_elsewhere g s.valid v)

    again_below : id < g.used_arcs
    again_below =
        free_below (fin.keys g.ends) g.free_arcs g.used_arcs id s.valid.arc_ids
        (ap (λ l. has l id) free ∙ has_here rest id)

    pub again_placed : HasPlaces (length t.out_links) (link_at t.out_links id)
    again_placed = neighbours_placed [] rest id free_list free_whole_within

    pub outs_again_linked : AreLinked t.first_outs (removed t.out_links id) (out_arcs g)
    outs_again_linked = linked_kept (removed t.out_links id) s.out_lists (λ v h list.
        others_less [] rest id free_list (out_arcs g v) h
        (λ x at. lacks_or (id ∷ rest) x
        (λ there. in_both (has (out_arcs g v) x) at (free_at v x there))) list)

    pub owned_again : Owned (length (removed t.out_links id)) (out_arcs g)
    owned_again =
        subst (λ n. Owned n (out_arcs g)) (sym (removed-length t.out_links id)) (owned_out s)

    pub arc_reused : HasRoomForArc g
        → Shows (record t {
          first_outs = heads_with t.first_outs from id;
          first_ins = heads_with t.first_ins to id;
          arcs = set t.arcs id
              (record { live = true; from = from; to = to; from_at = g.stamps; to_at = g.stamps });
          out_links = links_with t.first_outs (removed t.out_links id) from id;
          in_links = links_with t.first_ins t.in_links to id;
          free_arc = head_removed t.free_arc t.out_links id;
          live_arcs = t.live_arcs + 1;
          stamps = g.stamps + 1;
        })
        (add_arc g from to)
    arc_reused room =
        let r : ArcRow =
        record { live = true; from = from; to = to; from_at = g.stamps; to_at = g.stamps } in
        let inside : id < length t.arcs = omega (arith, again_below, s.arcs_used) in
        arc_added from to id rest g.used_arcs from_live to_live
        (ap (λ l. next_id l g.used_arcs) free) (ap all_but_first free)
        (ap (λ l. used_after l g.used_arcs) free) room
        (removed t.out_links id) t.in_links (head_removed t.free_arc t.out_links id)
        (set t.arcs id r)
        owned_again (owned_in s) outs_again_linked s.in_lists
        (list_less [] rest id free_list free_whole_apart free_whole_within)
        (λ x at. free_at from x (has_later rest id x at)) free_whole_apart.0
        again_below (removed-length t.out_links id ∙ s.out_links_used) s.in_links_used
        (length-set t.arcs id r ∙ s.arcs_used)
        (told_set ends_at t.arcs id r (fin.get g.ends) (fin.get (fin.insert g.ends id (from, to)))
        inside s.ends_told
        (sym (get_new g.ends id (from, to))) (λ x other. get_other g.ends id (from, to) x other))
        (told_set source_at t.arcs id r (stamp_of g.by_source)
        (stamp_of ((id, g.stamps) ∷ g.by_source)) inside s.source_told
        (sym (stamp_new g.by_source id g.stamps))
        (λ x other. stamp_other g.by_source id x g.stamps other))
        (told_set target_at t.arcs id r (stamp_of g.by_target)
        (stamp_of ((id, g.stamps) ∷ g.by_target)) inside s.target_told
        (sym (stamp_new g.by_target id g.stamps))
        (λ x other. stamp_other g.by_target id x g.stamps other))

  -- ---- under a fresh id

  module _ (from to : ℕ) (from_live : IsLive g sorts.Node from) (to_live : IsLive g sorts.Node to)
      (free : g.free_arcs ≡ []) where
    more_owned : {lists : ℕ → List ℕ} (links : List Link) → Owned (length links) lists
        → Owned (length (links ++ loose ∷ [])) lists
    more_owned links owned = record {
      apart = owned.apart;
      within = λ v x at. let below =
          owned.within v x at in omega (arith, below, length_push links loose);
      alone = owned.alone;
    }

    more_linked : {heads : List (Option ℕ)} {lists : ℕ → List ℕ} (links : List Link)
        → Owned (length links) lists → AreLinked heads links lists
        → AreLinked heads (links ++ loose ∷ []) lists
    more_linked {lists = lists} links owned linked =
        linked_kept (links ++ loose ∷ []) linked
        (λ v h list. list_pushed h links loose (lists v) (owned.within v) list)

    pub outs_more_linked : AreLinked t.first_outs (t.out_links ++ loose ∷ []) (out_arcs g)
    outs_more_linked = more_linked t.out_links (owned_out s) s.out_lists

    pub ins_more_linked : AreLinked t.first_ins (t.in_links ++ loose ∷ []) (in_arcs g)
    ins_more_linked = more_linked t.in_links (owned_in s) s.in_lists

    pub owned_out_more : Owned (length (t.out_links ++ loose ∷ [])) (out_arcs g)
    owned_out_more = more_owned t.out_links (owned_out s)

    pub owned_in_more : Owned (length (t.in_links ++ loose ∷ [])) (in_arcs g)
    owned_in_more = more_owned t.in_links (owned_in s)

    pub arc_fresh : HasRoomForArc g
        → Shows (record t {
          first_outs = heads_with t.first_outs from (length t.arcs);
          first_ins = heads_with t.first_ins to (length t.arcs);
          arcs = t.arcs
              ++ record { live = true; from = from; to = to; from_at = g.stamps; to_at = g.stamps }
              ∷ [];
          out_links = links_with t.first_outs (t.out_links ++ loose ∷ []) from (length t.arcs);
          in_links = links_with t.first_ins (t.in_links ++ loose ∷ []) to (length t.arcs);
          live_arcs = t.live_arcs + 1;
          stamps = g.stamps + 1;
        })
        (add_arc g from to)
    arc_fresh room =
        let id = length t.arcs in
        let r : ArcRow =
        record { live = true; from = from; to = to; from_at = g.stamps; to_at = g.stamps } in
        let out_size = length_push t.out_links loose in
        let in_size = length_push t.in_links loose in
        let arcs_size = length_push t.arcs r in
        arc_added from to id [] (g.used_arcs + 1) from_live to_live
        (ap (λ l. next_id l g.used_arcs) free ∙ sym s.arcs_used) (ap all_but_first free)
        (ap (λ l. used_after l g.used_arcs) free) room
        (t.out_links ++ loose ∷ []) (t.in_links ++ loose ∷ []) t.free_arc (t.arcs ++ r ∷ [])
        owned_out_more owned_in_more outs_more_linked ins_more_linked
        (record { begins = s.free_arc_list.begins ∙ ap first free; linked = tt })
        (λ x at. absurd (true≢false (sym at))) refl
        (omega (arith, s.arcs_used)) (omega (arith, out_size, s.out_links_used))
        (omega (arith, in_size, s.in_links_used)) (omega (arith, arcs_size, s.arcs_used))
        (told_push ends_at t.arcs r (fin.get g.ends) (fin.get (fin.insert g.ends id (from, to)))
        s.ends_told
        (sym (get_new g.ends id (from, to))) (λ x other. get_other g.ends id (from, to) x other))
        (told_push source_at t.arcs r (stamp_of g.by_source)
        (stamp_of ((id, g.stamps) ∷ g.by_source)) s.source_told
        (sym (stamp_new g.by_source id g.stamps))
        (λ x other. stamp_other g.by_source id x g.stamps other))
        (told_push target_at t.arcs r (stamp_of g.by_target)
        (stamp_of ((id, g.stamps) ∷ g.by_target)) s.target_told
        (sym (stamp_new g.by_target id g.stamps))
        (λ x other. stamp_other g.by_target id x g.stamps other))
