-- An arc that is laid at the places of given stamps.
use Rattle.std.proofs.Common.{◌≡◌, ℕ, ◌<◌, ◌≤◌, Bool, true, false, is_some, map, inl, inr, List}
use Rattle.std.proofs.Common.{◌++◌, length, get_or, set, Some, None, Option, sym, ap, subst, ◌∙◌}
use Rattle.std.proofs.Common.{arith}
use Rattle.std.specs.Prelude.{slice_set}
use Rattle.std.specs.FinMap as fin
use Rattle.std.proofs.lemmas.Bool.{cases_lt}
use Rattle.std.proofs.lemmas.Option.{none-some, same_Some}
use Rattle.std.proofs.lemmas.List.{length-set, get_or-map, get_or_past, length-map}
use Rattle.base_items.specs.declared.items.Fact.{Fact}
use Rattle.base_items.specs.declared.items.ItemSort.TheVariants as sorts
use Rattle.linked_lists.specs.Links.{IsList, IsPlace, AreWithin, last_or, next_from, removed}
use Rattle.linked_lists.specs.Links.{inserted, head_inserted}
use Rattle.linked_lists.proofs.Changes.{removed-length, inserted-length, next_from-read, last_place}
use Rattle.linked_lists.proofs.Changes.{first_back_place}
use Rattle.plain_digraph.specs.Lists.{without}
use Rattle.plain_digraph.specs.Digraph.{Digraph, Place}
use Rattle.plain_digraph.specs.Items.{stamp_of, IsLive, out_arcs, in_arcs, source_of, target_of}
use Rattle.plain_digraph.specs.Steps.{relaid, by_stamp, unplaced}
use Rattle.plain_digraph.specs.Valid.{IsValid}
use Rattle.plain_digraph.proofs.Places.{stamp_of-by_stamp, stamp_of-by_stamp_other, length-unplaced}
use Rattle.plain_digraph.proofs.Places.{length-placed, fall-unplaced}
use Rattle.plain_digraph.proofs.Changes.{source_once, source_counts, target_counts}
use Rattle.plain_digraph.proofs.Listed.{ToldBy, told_by, told-unplaced, at_by_stamp}
use Rattle.list_digraph.specs.declared.rows.ArcRow.{ArcRow}
use Rattle.list_digraph.specs.declared.rows.Side.TheVariants.{Source, Target}
use Rattle.list_digraph.specs.Rows.{told, read, source_at, target_at, head_at}
use Rattle.list_digraph.specs.Tables.{Tables, Shows, AreLinked, chain}
use Rattle.list_digraph.specs.Places.{no_arc, stamp_in, last_newer}
use Rattle.list_digraph.proofs.Shown.{list_is, one_few}
use Rattle.list_digraph.proofs.Lists.{linked_as, few_within}
use Rattle.list_digraph.proofs.Newer.{newer, older, parts, newer_are, older_is, last_is}
use Rattle.list_digraph.proofs.Seen.{node_below}
use Rattle.list_digraph.proofs.ArcSteps.{outs_left, ins_left, out_left, in_left, owned_out_left}
use Rattle.list_digraph.proofs.ArcSteps.{owned_in_left}
use Rattle.list_digraph.proofs.ArcMoves.{out_entered, in_entered, free_entered, relaid_shows}

-- what a live row tells is in its column
told_is : (live : Bool) (x : ℕ) (at : ℕ) → told live x ≡ Some at → at ≡ x
told_is true x at e = sym (same_Some x at e)
told_is false x at e = absurd (none-some at e)

module _ {t : Tables} {g : Digraph} (s : Shows t g) where
  abbrev from_stamp : ℕ → ℕ
  from_stamp = stamp_in Source t.arcs

  abbrev to_stamp : ℕ → ℕ
  to_stamp = stamp_in Target t.arcs

  -- the rows have the stamps of the places
  row_told : (at : ArcRow → Option ℕ) (column : ArcRow → ℕ)
      → ((row : ArcRow) (x : ℕ) → at row ≡ Some x → x ≡ column row)
      → (places : List Place) → ((id : ℕ) → read at t.arcs id ≡ stamp_of places id) → (id x : ℕ)
      → stamp_of places id ≡ Some x → x ≡ column (get_or t.arcs id no_arc)
  row_told at column is places all id x e = elim (cases_lt id (length t.arcs)) [
    | inl below ↦
        is (get_or t.arcs id no_arc) x
        (sym (get_or-map at t.arcs id no_arc None below) ∙ all id ∙ e)
    | inr above ↦
        absurd (none-some x
        (sym (get_or_past (map at t.arcs) id None (omega (arith, above, length-map t.arcs at)))
        ∙ all id ∙ e))
  ]

  sources_told : ToldBy from_stamp g.by_source
  sources_told =
      told_by from_stamp g.by_source
      (λ id. omega (arith, source_counts g id s.valid, one_few (is_some (fin.get g.ends id))))
      (row_told source_at (λ row. row.from_at) (λ row x e. told_is row.live row.from_at x e)
      g.by_source s.source_told)

  targets_told : ToldBy to_stamp g.by_target
  targets_told =
      told_by to_stamp g.by_target
      (λ id. omega (arith, target_counts g id s.valid, one_few (is_some (fin.get g.ends id))))
      (row_told target_at (λ row. row.to_at) (λ row x e. told_is row.live row.to_at x e) g.by_target
      s.target_told)

  module _ (arc : ℕ) (live : IsLive g sorts.Arc arc) (node at : ℕ)
      (node_live : IsLive g sorts.Node node) where
    abbrev outs_without : List ℕ
    outs_without = without (out_arcs g node) arc

    abbrev ins_without : List ℕ
    ins_without = without (in_arcs g node) arc

    abbrev out_newer : List ℕ
    out_newer = newer from_stamp at outs_without

    abbrev in_newer : List ℕ
    in_newer = newer to_stamp at ins_without

    out_here : node < length t.first_outs
    out_here = let below = node_below s node node_live in omega (arith, below, s.outs_used)

    in_here : node < length t.first_ins
    in_here = let below = node_below s node node_live in omega (arith, below, s.ins_used)

    outs_size : length (outs_left s arc live) ≡ length t.first_outs
    outs_size = length-set t.first_outs (source_of g arc) _

    ins_size : length (ins_left s arc live) ≡ length t.first_ins
    ins_size = length-set t.first_ins (target_of g arc) _

    abbrev pub out_head : Option ℕ
    out_head = head_at (outs_left s arc live) node

    abbrev pub in_head : Option ℕ
    in_head = head_at (ins_left s arc live) node

    out_list : IsList out_head (removed t.out_links arc) outs_without
    out_list = (out_left s arc live).each node (omega (arith, out_here, outs_size))

    in_list : IsList in_head (removed t.in_links arc) ins_without
    in_list = (in_left s arc live).each node (omega (arith, in_here, ins_size))

    -- ---- the walk

    out_few : length outs_without ≤ length (removed t.out_links arc)
    out_few = few_within (length (removed t.out_links arc)) outs_without
        ((owned_out_left s arc live).apart node) ((owned_out_left s arc live).within node)

    in_few : length ins_without ≤ length (removed t.in_links arc)
    in_few = few_within (length (removed t.in_links arc)) ins_without
        ((owned_in_left s arc live).apart node) ((owned_in_left s arc live).within node)

    pub out_chain : chain (removed t.out_links arc) (length (removed t.out_links arc)) out_head
        ≡ outs_without
    out_chain = list_is (removed t.out_links arc) (length (removed t.out_links arc)) out_head
        outs_without out_list out_few

    pub in_chain : chain (removed t.in_links arc) (length (removed t.in_links arc)) in_head
        ≡ ins_without
    in_chain = list_is (removed t.in_links arc) (length (removed t.in_links arc)) in_head
        ins_without in_list in_few

    pub out_chain_within : AreWithin (length (removed t.out_links arc)) (chain
        (removed t.out_links arc) (length (removed t.out_links arc)) out_head)
    out_chain_within =
        subst (AreWithin (length (removed t.out_links arc))) (sym out_chain)
        ((owned_out_left s arc live).within node)

    pub in_chain_within : AreWithin (length (removed t.in_links arc)) (chain
        (removed t.in_links arc) (length (removed t.in_links arc)) in_head)
    in_chain_within =
        subst (AreWithin (length (removed t.in_links arc))) (sym in_chain)
        ((owned_in_left s arc live).within node)

    abbrev pub out_behind : Option ℕ
    out_behind =
        last_newer from_stamp at None
        (chain (removed t.out_links arc) (length (removed t.out_links arc)) out_head)

    abbrev pub in_behind : Option ℕ
    in_behind = last_newer to_stamp at None
        (chain (removed t.in_links arc) (length (removed t.in_links arc)) in_head)

    pub out_behind_is : out_behind ≡ last_or None out_newer
    out_behind_is = ap (last_newer from_stamp at None) out_chain
        ∙ last_is from_stamp at outs_without None

    pub in_behind_is : in_behind ≡ last_or None in_newer
    in_behind_is = ap (last_newer to_stamp at None) in_chain ∙ last_is to_stamp at ins_without None

    -- ---- what entering asks

    out_split_list : IsList out_head (removed t.out_links arc) (out_newer
        ++ older from_stamp at outs_without)
    out_split_list =
        subst (IsList out_head (removed t.out_links arc)) (parts from_stamp at outs_without)
        out_list

    in_split_list : IsList in_head (removed t.in_links arc) (in_newer
        ++ older to_stamp at ins_without)
    in_split_list =
        subst (IsList in_head (removed t.in_links arc)) (parts to_stamp at ins_without) in_list

    out_split_within : AreWithin (length (removed t.out_links arc)) (out_newer
        ++ older from_stamp at outs_without)
    out_split_within =
        subst (AreWithin (length (removed t.out_links arc))) (parts from_stamp at outs_without)
        ((owned_out_left s arc live).within node)

    in_split_within : AreWithin (length (removed t.in_links arc)) (in_newer
        ++ older to_stamp at ins_without)
    in_split_within =
        subst (AreWithin (length (removed t.in_links arc))) (parts to_stamp at ins_without)
        ((owned_in_left s arc live).within node)

    pub out_behind_placed : IsPlace (length (removed t.out_links arc)) out_behind
    out_behind_placed =
        subst (IsPlace (length (removed t.out_links arc))) (sym out_behind_is)
        (last_place _ out_newer (older from_stamp at outs_without) out_split_within)

    pub in_behind_placed : IsPlace (length (removed t.in_links arc)) in_behind
    in_behind_placed =
        subst (IsPlace (length (removed t.in_links arc))) (sym in_behind_is)
        (last_place _ in_newer (older to_stamp at ins_without) in_split_within)

    pub out_next_placed : IsPlace (length (removed t.out_links arc)) (next_from out_head
        (removed t.out_links arc) out_behind)
    out_next_placed = subst (IsPlace (length (removed t.out_links arc)))
        (sym (ap (next_from out_head (removed t.out_links arc)) out_behind_is
        ∙ next_from-read out_head (removed t.out_links arc) out_newer
        (older from_stamp at outs_without) out_split_list))
        (first_back_place _ out_newer (older from_stamp at outs_without) out_split_within)

    pub in_next_placed : IsPlace (length (removed t.in_links arc)) (next_from in_head
        (removed t.in_links arc) in_behind)
    in_next_placed = subst (IsPlace (length (removed t.in_links arc)))
        (sym (ap (next_from in_head (removed t.in_links arc)) in_behind_is
        ∙ next_from-read in_head (removed t.in_links arc) in_newer
        (older to_stamp at ins_without) in_split_list))
        (first_back_place _ in_newer (older to_stamp at ins_without) in_split_within)

    -- ---- the lists

    pub out_laid : (to stamps : ℕ) (targets : List Place)
        → AreLinked (set (outs_left s arc live) node (head_inserted out_head out_behind arc))
        (inserted out_head (removed t.out_links arc) out_behind arc)
        (out_arcs (relaid g arc node to (by_stamp g.by_source arc at) targets stamps))
    out_laid to stamps targets =
        subst (λ b. AreLinked (set (outs_left s arc live) node (head_inserted out_head b arc))
        (inserted out_head (removed t.out_links arc) b arc)
        (out_arcs (relaid g arc node to (by_stamp g.by_source arc at) targets stamps)))
        (sym out_behind_is)
        (linked_as (out_entered s arc live node out_newer (older from_stamp at outs_without)
        out_here (parts from_stamp at outs_without))
        (λ v. sym (at_by_stamp (λ e. e.0) g.ends arc from_stamp (node, to) g.by_source g.stamps at
        out_newer (older from_stamp at outs_without) v
        (fall-unplaced g.stamps g.by_source arc s.valid.sources_fall)
        (told-unplaced from_stamp g.by_source arc sources_told)
        (parts from_stamp at outs_without) (newer_are from_stamp at outs_without)
        (older_is from_stamp at outs_without))))

    pub free_laid : IsList t.free_arc (inserted out_head (removed t.out_links arc) out_behind
        arc) g.free_arcs
    free_laid = subst
        (λ b. IsList t.free_arc (inserted out_head (removed t.out_links arc) b arc) g.free_arcs)
        (sym out_behind_is)
        (free_entered s arc live node out_newer (older from_stamp at outs_without) out_here
        (parts from_stamp at outs_without))

    pub in_laid : (from stamps : ℕ) (sources : List Place)
        → AreLinked (set (ins_left s arc live) node (head_inserted in_head in_behind arc))
        (inserted in_head (removed t.in_links arc) in_behind arc)
        (in_arcs (relaid g arc from node sources (by_stamp g.by_target arc at) stamps))
    in_laid from stamps sources =
        subst (λ b. AreLinked (set (ins_left s arc live) node (head_inserted in_head b arc))
        (inserted in_head (removed t.in_links arc) b arc)
        (in_arcs (relaid g arc from node sources (by_stamp g.by_target arc at) stamps)))
        (sym in_behind_is)
        (linked_as (in_entered s arc live node in_newer (older to_stamp at ins_without) in_here
        (parts to_stamp at ins_without))
        (λ v. sym (at_by_stamp (λ e. e.1) g.ends arc to_stamp (from, node) g.by_target g.stamps at
        in_newer (older to_stamp at ins_without) v
        (fall-unplaced g.stamps g.by_target arc s.valid.targets_fall)
        (told-unplaced to_stamp g.by_target arc targets_told)
        (parts to_stamp at ins_without) (newer_are to_stamp at ins_without)
        (older_is to_stamp at ins_without))))

  -- ---- the whole

  pub laid_shows : (f : Fact) (stamps : ℕ) (live : IsLive g sorts.Arc f.id) (from_live : IsLive g
      sorts.Node f.from) (to_live : IsLive g sorts.Node f.to)
      → IsValid (relaid g f.id f.from f.to (by_stamp g.by_source f.id f.from_at)
      (by_stamp g.by_target f.id f.to_at) stamps)
      → Shows (record t {
        first_outs =
            set (outs_left s f.id live) f.from
            (head_inserted (out_head f.id live f.from f.from_at from_live)
            (out_behind f.id live f.from f.from_at from_live) f.id);
        out_links = inserted (out_head f.id live f.from f.from_at from_live)
            (removed t.out_links f.id) (out_behind f.id live f.from f.from_at from_live) f.id;
        first_ins = set (ins_left s f.id live) f.to
            (head_inserted (in_head f.id live f.to f.to_at to_live)
            (in_behind f.id live f.to f.to_at to_live) f.id);
        in_links = inserted (in_head f.id live f.to f.to_at to_live) (removed t.in_links f.id)
            (in_behind f.id live f.to f.to_at to_live) f.id;
        stamps = stamps;
        arcs = slice_set t.arcs f.id
            (record {
              live = true;
              from = f.from;
              to = f.to;
              from_at = f.from_at;
              to_at =
                  f.to_at;
            });
      })
      (relaid g f.id f.from f.to (by_stamp g.by_source f.id f.from_at)
      (by_stamp g.by_target f.id f.to_at) stamps)
  laid_shows f stamps live from_live to_live valid =
      let arc = f.id in
      let sources = by_stamp g.by_source arc f.from_at in
      let targets = by_stamp g.by_target arc f.to_at in
      let less = length-unplaced g.by_source arc (source_once g arc s.valid live) in
      let more = length-placed (unplaced g.by_source arc) arc f.from_at in
      relaid_shows s arc live f.from f.to f.from_at f.to_at sources targets stamps
      _ _ _ _ valid
      (out_laid arc live f.from f.from_at from_live f.to stamps targets)
      (in_laid arc live f.to f.to_at to_live f.from stamps sources)
      (free_laid arc live f.from f.from_at from_live)
      (length-set (outs_left s arc live) f.from _ ∙ length-set t.first_outs (source_of g arc) _)
      (length-set (ins_left s arc live) f.to _ ∙ length-set t.first_ins (target_of g arc) _)
      (inserted-length (out_head arc live f.from f.from_at from_live) (removed t.out_links arc)
      (out_behind arc live f.from f.from_at from_live) arc ∙ removed-length t.out_links arc)
      (inserted-length (in_head arc live f.to f.to_at to_live) (removed t.in_links arc)
      (in_behind arc live f.to f.to_at to_live) arc ∙ removed-length t.in_links arc)
      (stamp_of-by_stamp g.by_source arc f.from_at) (stamp_of-by_stamp g.by_target arc f.to_at)
      (λ id other. stamp_of-by_stamp_other g.by_source arc f.from_at id other)
      (λ id other. stamp_of-by_stamp_other g.by_target arc f.to_at id other)
      (omega (arith, less, more))
