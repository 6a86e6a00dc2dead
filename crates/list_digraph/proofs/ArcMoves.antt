-- An arc that is laid anew.
use Rattle.std.proofs.Common.{◌≡◌, ℕ, ◌+◌, ◌<◌, true, cond, List, [], ◌∷◌, ◌++◌, length, set, Some}
use Rattle.std.proofs.Common.{None, Option, inl, inr, refl, sym, ap, ◌∙◌, arith}
use Rattle.std.specs.Prelude.{◌==◌, slice_set}
use Rattle.std.specs.FinMap as fin
use Rattle.std.proofs.lemmas.Bool.{ne_eqb, cases_eq}
use Rattle.std.proofs.lemmas.List.{length-set}
use Rattle.base_items.specs.declared.items.ItemSort.TheVariants as sorts
use Rattle.linked_lists.specs.declared.lists.Link.{Link}
use Rattle.linked_lists.specs.Links.{IsList, IsPlace, last_or, removed, head_removed, inserted}
use Rattle.linked_lists.specs.Links.{head_inserted}
use Rattle.linked_lists.proofs.Changes.{removed-length, inserted-length, first_place}
use Rattle.plain_digraph.specs.Lists.{has, without}
use Rattle.plain_digraph.specs.Digraph.{Digraph, Place}
use Rattle.plain_digraph.specs.Items.{ids, stamp_of, IsLive, out_arcs, in_arcs, source_of}
use Rattle.plain_digraph.specs.Items.{target_of}
use Rattle.plain_digraph.specs.Steps.{relaid, in_front, unplaced}
use Rattle.plain_digraph.specs.Valid.{IsValid}
use Rattle.plain_digraph.proofs.Keys.{get_new, get_other}
use Rattle.list_digraph.specs.declared.rows.ArcRow.{ArcRow}
use Rattle.list_digraph.specs.Rows.{ends_at, source_at, target_at, head_at}
use Rattle.list_digraph.specs.Tables.{Tables, Shows, AreLinked}
use Rattle.list_digraph.proofs.Lists.{linked_as, at_node, gone-without, has-without, linked_entered}
use Rattle.list_digraph.proofs.Lists.{others_entered, lacks_or}
use Rattle.list_digraph.proofs.Owned.{free_elsewhere}
use Rattle.linked_lists.proofs.Ids.{in_both}
use Rattle.plain_digraph.specs.Steps.{move_from, move_to, turn}
use Rattle.plain_digraph.specs.ValidLaws.{HasStampLeft}
use Rattle.plain_digraph.proofs.Rows.{stamp_new}
use Rattle.plain_digraph.proofs.Places.{stamp_of-in_front, length-unplaced}
use Rattle.plain_digraph.proofs.Changes.{valid_moved_source, valid_moved_target, valid_turned}
use Rattle.plain_digraph.proofs.Changes.{live_ends, source_once}
use Rattle.plain_digraph.proofs.Listed.{at_front, at_kept}
use Rattle.list_digraph.proofs.Seen.{arc_below, node_below}
use Rattle.list_digraph.proofs.ArcSteps.{told_set, outs_left, ins_left, out_left, in_left}
use Rattle.list_digraph.proofs.ArcSteps.{owned_out_left, owned_in_left, free_left, not_free}

-- ---- the lists where an arc has left one and entered another

-- in front of the list of a node
abbrev pub outs_front : Tables → ℕ → ℕ → ℕ → List (Option ℕ)
outs_front t arc from node =
    let heads = set t.first_outs from (head_removed (head_at t.first_outs from) t.out_links arc) in
    set heads node (head_inserted (head_at heads node) None arc)

abbrev pub out_links_front : Tables → ℕ → ℕ → ℕ → List Link
out_links_front t arc from node =
    let heads = set t.first_outs from (head_removed (head_at t.first_outs from) t.out_links arc) in
    inserted (head_at heads node) (removed t.out_links arc) None arc

abbrev pub ins_front : Tables → ℕ → ℕ → ℕ → List (Option ℕ)
ins_front t arc to node =
    let heads = set t.first_ins to (head_removed (head_at t.first_ins to) t.in_links arc) in
    set heads node (head_inserted (head_at heads node) None arc)

abbrev pub in_links_front : Tables → ℕ → ℕ → ℕ → List Link
in_links_front t arc to node =
    let heads = set t.first_ins to (head_removed (head_at t.first_ins to) t.in_links arc) in
    inserted (head_at heads node) (removed t.in_links arc) None arc

-- the list of the node, and those of the others
pub at_node-front : (lists : ℕ → List ℕ) (node id v : ℕ)
    → at_node lists node (id ∷ lists node) v ≡ cond (node == v) (id ∷ lists v) (lists v)
at_node-front lists node id v = elim (cases_eq node v) [
  | inl same ↦ ap (λ w. cond (node == v) (id ∷ lists w) (lists v)) same
  | inr other ↦ ap (λ b. cond b (id ∷ lists node) (lists v)) (ne_eqb node v other)
      ∙ sym (ap (λ b. cond b (id ∷ lists v) (lists v)) (ne_eqb node v other))
]

module _ {t : Tables} {g : Digraph} (s : Shows t g) (arc : ℕ) (live : IsLive g sorts.Arc arc) where
  arc_out : arc < length (removed t.out_links arc)
  arc_out = let below =
      arc_below s arc live in omega (arith, below, removed-length t.out_links arc, s.out_links_used)

  arc_in : arc < length (removed t.in_links arc)
  arc_in = let below =
      arc_below s arc live in omega (arith, below, removed-length t.in_links arc, s.in_links_used)

  outs_size : length (outs_left s arc live) ≡ length t.first_outs
  outs_size = length-set t.first_outs (source_of g arc) _

  ins_size : length (ins_left s arc live) ≡ length t.first_ins
  ins_size = length-set t.first_ins (target_of g arc) _

  module _ (node : ℕ) (front back : List ℕ) where
    pub out_entered : node < length t.first_outs → without (out_arcs g node) arc ≡ front ++ back
        → AreLinked (set (outs_left s arc live) node
        (head_inserted (head_at (outs_left s arc live) node) (last_or None front) arc))
        (inserted (head_at (outs_left s arc live) node) (removed t.out_links arc)
        (last_or None front) arc)
        (at_node (λ v. without (out_arcs g v) arc) node (front ++ arc ∷ back))
    out_entered below split =
        linked_entered (owned_out_left s arc live) (out_left s arc live) node arc
        (omega (arith, below, outs_size)) front back split
        (λ v. gone-without (out_arcs g v) arc) arc_out

    pub free_entered : node < length t.first_outs → without (out_arcs g node) arc ≡ front ++ back
        → IsList t.free_arc
        (inserted (head_at (outs_left s arc live) node) (removed t.out_links arc)
        (last_or None front) arc) g.free_arcs
    free_entered below split =
        others_entered (owned_out_left s arc live) (out_left s arc live) node arc
        (omega (arith, below, outs_size)) front back split
        (λ v. gone-without (out_arcs g v) arc) arc_out g.free_arcs t.free_arc
        (λ x free. lacks_or (without (out_arcs g node) arc) x (λ at.
        in_both (has (out_arcs g node) x) (has-without (out_arcs g node) arc x at)
        (free_elsewhere g s.valid node x free)))
        (not_free s arc live) (free_left s arc live)

    pub in_entered : node < length t.first_ins → without (in_arcs g node) arc ≡ front ++ back
        → AreLinked (set (ins_left s arc live) node
        (head_inserted (head_at (ins_left s arc live) node) (last_or None front) arc))
        (inserted (head_at (ins_left s arc live) node) (removed t.in_links arc) (last_or None front)
        arc)
        (at_node (λ v. without (in_arcs g v) arc) node (front ++ arc ∷ back))
    in_entered below split =
        linked_entered (owned_in_left s arc live) (in_left s arc live) node arc
        (omega (arith, below, ins_size)) front back split
        (λ v. gone-without (in_arcs g v) arc) arc_in

  -- the first arc that an arc in front is joined to
  pub out_head_placed : (node : ℕ) → node < length t.first_outs
      → IsPlace (length (removed t.out_links arc)) (head_at (outs_left s arc live) node)
  out_head_placed node below =
      first_place (without (out_arcs g node) arc)
      ((out_left s arc live).each node (omega (arith, below, outs_size)))
      ((owned_out_left s arc live).within node)

  pub in_head_placed : (node : ℕ) → node < length t.first_ins
      → IsPlace (length (removed t.in_links arc)) (head_at (ins_left s arc live) node)
  in_head_placed node below =
      first_place (without (in_arcs g node) arc)
      ((in_left s arc live).each node (omega (arith, below, ins_size)))
      ((owned_in_left s arc live).within node)

  -- ---- the whole

  -- what an arc that is laid anew leaves to be shown
  pub relaid_shows : (from to from_at to_at : ℕ) (sources targets : List Place) (stamps : ℕ) (outs
      ins : List (Option ℕ)) (out_links in_links : List Link)
      → IsValid (relaid g arc from to sources targets stamps)
      → AreLinked outs out_links (out_arcs (relaid g arc from to sources targets stamps))
      → AreLinked ins in_links (in_arcs (relaid g arc from to sources targets stamps))
      → IsList t.free_arc out_links g.free_arcs
      → length outs ≡ length t.first_outs → length ins ≡ length t.first_ins
      → length out_links ≡ length t.out_links → length in_links ≡ length t.in_links
      → stamp_of sources arc ≡ Some from_at → stamp_of targets arc ≡ Some to_at
      → ((id : ℕ) → (id ≡ arc → ⊥) → stamp_of sources id ≡ stamp_of g.by_source id)
      → ((id : ℕ) → (id ≡ arc → ⊥) → stamp_of targets id ≡ stamp_of g.by_target id)
      → length sources ≡ length g.by_source
      → Shows (record t {
        first_outs = outs;
        first_ins = ins;
        out_links = out_links;
        in_links = in_links;
        stamps =
            stamps;
        arcs =
            slice_set t.arcs arc
            (record { live = true; from = from; to = to; from_at = from_at; to_at = to_at });
      })
      (relaid g arc from to sources targets stamps)
  relaid_shows from to from_at to_at sources targets stamps outs ins out_links in_links valid
      out_lists in_lists free outs_size ins_size out_size in_size source_is target_is source_others
      target_others size =
      let row : ArcRow =
      record { live = true; from = from; to = to; from_at = from_at; to_at = to_at } in
      let below = arc_below s arc live in
      let inside : arc < length t.arcs = omega (arith, below, s.arcs_used) in
      record {
        valid = valid;
        node_told = s.node_told;
        ends_told = told_set ends_at t.arcs arc row (fin.get g.ends)
            (fin.get (fin.insert g.ends arc (from, to))) inside s.ends_told
            (sym (get_new g.ends arc (from, to)))
            (λ id other. get_other g.ends arc (from, to) id other);
        source_told =
            told_set source_at t.arcs arc row (λ id. stamp_of g.by_source id)
            (λ id. stamp_of sources id) inside s.source_told (sym source_is) source_others;
        target_told =
            told_set target_at t.arcs arc row (λ id. stamp_of g.by_target id)
            (λ id. stamp_of targets id) inside s.target_told (sym target_is) target_others;
        nodes_used = s.nodes_used;
        outs_used = outs_size ∙ s.outs_used;
        ins_used = ins_size ∙ s.ins_used;
        arcs_used = length-set t.arcs arc row ∙ s.arcs_used;
        node_links_used = s.node_links_used;
        out_links_used = out_size ∙ s.out_links_used;
        in_links_used = in_size ∙ s.in_links_used;
        node_list = s.node_list;
        free_node_list = s.free_node_list;
        free_arc_list = free;
        out_lists = out_lists;
        in_lists = in_lists;
        nodes_counted = s.nodes_counted;
        arcs_counted = s.arcs_counted ∙ sym size;
        stamps_used = refl;
      }

-- ---- the three moves

module _ {t : Tables} {g : Digraph} (s : Shows t g) (arc : ℕ) (live : IsLive g sorts.Arc arc) where
  module _ (node : ℕ) (node_live : IsLive g sorts.Node node) where
    out_below : node < length t.first_outs
    out_below = let below = node_below s node node_live in omega (arith, below, s.outs_used)

    in_below : node < length t.first_ins
    in_below = let below = node_below s node node_live in omega (arith, below, s.ins_used)

    -- an arc in front of the list by source of a node
    pub out_fronted : (to at stamps : ℕ) (targets : List Place)
        → AreLinked (outs_front t arc (source_of g arc) node)
        (out_links_front t arc (source_of g arc) node)
        (out_arcs (relaid g arc node to (in_front g.by_source arc at) targets stamps))
    out_fronted to at stamps targets =
        linked_as (out_entered s arc live node [] (without (out_arcs g node) arc) out_below refl)
        (λ v. at_node-front (λ w. without (out_arcs g w) arc) node arc v
        ∙ sym (at_front (λ e. e.0) g.ends arc v (node, to) g.by_source at))

    pub free_fronted : IsList t.free_arc (out_links_front t arc (source_of g arc) node) g.free_arcs
    free_fronted = free_entered s arc live node [] (without (out_arcs g node) arc) out_below refl

    pub outs_front_size : length (outs_front t arc (source_of g arc) node) ≡ length t.first_outs
    outs_front_size = length-set (outs_left s arc live) node _
        ∙ length-set t.first_outs (source_of g arc) _

    pub out_links_front_size : length (out_links_front t arc (source_of g arc) node)
        ≡ length t.out_links
    out_links_front_size =
        inserted-length (head_at (outs_left s arc live) node) (removed t.out_links arc) None arc
        ∙ removed-length t.out_links arc

    -- and by target
    pub in_fronted : (from at stamps : ℕ) (sources : List Place)
        → AreLinked (ins_front t arc (target_of g arc) node)
        (in_links_front t arc (target_of g arc) node)
        (in_arcs (relaid g arc from node sources (in_front g.by_target arc at) stamps))
    in_fronted from at stamps sources =
        linked_as (in_entered s arc live node [] (without (in_arcs g node) arc) in_below refl)
        (λ v. at_node-front (λ w. without (in_arcs g w) arc) node arc v
        ∙ sym (at_front (λ e. e.1) g.ends arc v (from, node) g.by_target at))

    pub ins_front_size : length (ins_front t arc (target_of g arc) node) ≡ length t.first_ins
    ins_front_size = length-set (ins_left s arc live) node _
        ∙ length-set t.first_ins (target_of g arc) _

    pub in_links_front_size : length (in_links_front t arc (target_of g arc) node)
        ≡ length t.in_links
    in_links_front_size =
        inserted-length (head_at (ins_left s arc live) node) (removed t.in_links arc) None arc
        ∙ removed-length t.in_links arc

  fronted_size : length (in_front g.by_source arc g.stamps) ≡ length g.by_source
  fronted_size = let less =
      length-unplaced g.by_source arc (source_once g arc s.valid live) in omega (arith, less)

  pub source_moved : (node to_at : ℕ) → IsLive g sorts.Node node → HasStampLeft g
      → stamp_of g.by_target arc ≡ Some to_at
      → Shows (record t {
        first_outs = outs_front t arc (source_of g arc) node;
        out_links =
            out_links_front t arc (source_of g arc) node;
        stamps = g.stamps + 1;
        arcs =
            slice_set t.arcs arc
            (record {
              live = true;
              from = node;
              to = target_of g arc;
              from_at = g.stamps;
              to_at =
                  to_at;
            });
      })
      (move_from g arc node)
  source_moved node to_at node_live left told =
      relaid_shows s arc live node (target_of g arc) g.stamps to_at
      (in_front g.by_source arc g.stamps) g.by_target (g.stamps + 1)
      (outs_front t arc (source_of g arc) node) t.first_ins
      (out_links_front t arc (source_of g arc) node) t.in_links
      (valid_moved_source g arc s.valid live node node_live left)
      (out_fronted node node_live (target_of g arc) g.stamps (g.stamps + 1) g.by_target)
      (linked_as s.in_lists
      (λ v. sym (at_kept (λ e. e.1) g.ends arc v (node, target_of g arc) (ids g.by_target) live
      refl)))
      (free_fronted node node_live) (outs_front_size node node_live) refl
      (out_links_front_size node node_live) refl
      (stamp_new (unplaced g.by_source arc) arc g.stamps) told
      (λ id other. stamp_of-in_front g.by_source arc g.stamps id other) (λ id other. refl)
      fronted_size

  pub target_moved : (node from_at : ℕ) → IsLive g sorts.Node node → HasStampLeft g
      → stamp_of g.by_source arc ≡ Some from_at
      → Shows (record t {
        first_ins = ins_front t arc (target_of g arc) node;
        in_links =
            in_links_front t arc (target_of g arc) node;
        stamps = g.stamps + 1;
        arcs =
            slice_set t.arcs arc
            (record {
              live = true;
              from = source_of g arc;
              to = node;
              from_at = from_at;
              to_at =
                  g.stamps;
            });
      })
      (move_to g arc node)
  target_moved node from_at node_live left told =
      relaid_shows s arc live (source_of g arc) node from_at g.stamps g.by_source
      (in_front g.by_target arc g.stamps) (g.stamps + 1)
      t.first_outs (ins_front t arc (target_of g arc) node) t.out_links
      (in_links_front t arc (target_of g arc) node)
      (valid_moved_target g arc s.valid live node node_live left)
      (linked_as s.out_lists
      (λ v. sym (at_kept (λ e. e.0) g.ends arc v (source_of g arc, node) (ids g.by_source) live
      refl)))
      (in_fronted node node_live (source_of g arc) g.stamps (g.stamps + 1) g.by_source)
      s.free_arc_list refl (ins_front_size node node_live) refl (in_links_front_size node node_live)
      told (stamp_new (unplaced g.by_target arc) arc g.stamps)
      (λ id other. refl) (λ id other. stamp_of-in_front g.by_target arc g.stamps id other) refl

  pub arc_turned : HasStampLeft g
      → Shows (record t {
        first_outs = outs_front t arc (source_of g arc) (target_of g arc);
        out_links =
            out_links_front t arc (source_of g arc) (target_of g arc);
        first_ins =
            ins_front t arc (target_of g arc) (source_of g arc);
        in_links =
            in_links_front t arc (target_of g arc) (source_of g arc);
        stamps = g.stamps + 1;
        arcs =
            slice_set t.arcs arc
            (record {
              live = true;
              from = target_of g arc;
              to = source_of g arc;
              from_at =
                  g.stamps;
              to_at = g.stamps;
            });
      })
      (turn g arc)
  arc_turned left =
      let source = source_of g arc in
      let target = target_of g arc in
      let ends = live_ends g arc s.valid live in
      relaid_shows s arc live target source g.stamps g.stamps (in_front g.by_source arc g.stamps)
      (in_front g.by_target arc g.stamps) (g.stamps + 1)
      (outs_front t arc source target) (ins_front t arc target source)
      (out_links_front t arc source target) (in_links_front t arc target source)
      (valid_turned g arc s.valid live left)
      (out_fronted target ends.1 source g.stamps (g.stamps + 1) (in_front g.by_target arc g.stamps))
      (in_fronted source ends.0 target g.stamps (g.stamps + 1) (in_front g.by_source arc g.stamps))
      (free_fronted target ends.1) (outs_front_size target ends.1) (ins_front_size source ends.0)
      (out_links_front_size target ends.1) (in_links_front_size source ends.0)
      (stamp_new (unplaced g.by_source arc) arc g.stamps)
      (stamp_new (unplaced g.by_target arc) arc g.stamps)
      (λ id other. stamp_of-in_front g.by_source arc g.stamps id other)
      (λ id other. stamp_of-in_front g.by_target arc g.stamps id other) fronted_size
