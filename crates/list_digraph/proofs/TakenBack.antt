-- An addition that is taken back.
use Rattle.std.proofs.Common.{◌≡◌, ℕ, zero, suc, ◌+◌, ◌-◌, ◌<◌, ◌≤◌, Bool, true, false, cond, List}
use Rattle.std.proofs.Common.{[], ◌∷◌, length, map, get_or, take, None, Option, is_some, inl, inr}
use Rattle.std.proofs.Common.{refl, sym, ap, subst, ◌∙◌, arith}
use Rattle.std.specs.Prelude.{◌⊎◌, IsSome}
use Rattle.std.specs.FinMap as fin
use Rattle.std.proofs.lemmas.Bool.{cases_lt, eq-eqb, ne_eqb}
use Rattle.std.proofs.lemmas.List.{length-map, length-take-le, get_or-take, get_or_past}
use Rattle.base_items.specs.declared.items.Fact.{Fact}
use Rattle.base_items.specs.declared.items.ItemSort.TheVariants as sorts
use Rattle.linked_lists.specs.declared.lists.Link.{Link}
use Rattle.linked_lists.specs.Links.{IsList}
use Rattle.linked_lists.proofs.Changes.{list_taken}
use Rattle.linked_lists.proofs.Ids.{has_here}
use Rattle.plain_digraph.specs.Lists.{has, all_but_first}
use Rattle.plain_digraph.specs.Digraph.{Digraph}
use Rattle.plain_digraph.specs.Items.{ids, stamp_of, IsLive, out_arcs, in_arcs}
use Rattle.plain_digraph.specs.Steps.{new_node, new_arc, next_id, used_after, erase_arc, erase_node}
use Rattle.plain_digraph.specs.Undo.{unstamped, forget_arc, forget_node, before_addition}
use Rattle.plain_digraph.specs.Undo.{free_before}
use Rattle.plain_digraph.specs.Valid.{IsValid}
use Rattle.plain_digraph.specs.UndoLaws.{AddsTo}
use Rattle.plain_digraph.specs.ValidLaws.{HasNoArc}
use Rattle.plain_digraph.proofs.Tallies.{one_if, has-none}
use Rattle.plain_digraph.proofs.Rows.{none_from}
use Rattle.plain_digraph.proofs.Keys.{get_new}
use Rattle.plain_digraph.proofs.Live.{live_listed, listed_below}
use Rattle.plain_digraph.proofs.Places.{stamp_of-lacks, ids-unplaced}
use Rattle.plain_digraph.proofs.Changes.{source_counts, target_counts}
use Rattle.list_digraph.specs.declared.rows.ArcRow.{ArcRow}
use Rattle.list_digraph.specs.Rows.{read, ends_at, source_at, target_at}
use Rattle.list_digraph.specs.Tables.{Tables, Shows, AreLinked}
use Rattle.list_digraph.proofs.Lists.{gone-without}
use Rattle.list_digraph.proofs.Owned.{out_within, in_within, no_outs, no_ins}

-- what is told where the last rows are cut off
cut_told : {X : Type 0} (column : List (Option X)) (n : ℕ) (told : ℕ → Option X) → n ≤ length column
    → ((id : ℕ) → get_or column id None ≡ told id) → ((id : ℕ) → n ≤ id → told id ≡ None) → (id : ℕ)
    → get_or (take n column) id None ≡ told id
cut_told column n told few was gone id = elim (cases_lt id n) [
  | inl below ↦ get_or-take n column id None below ∙ was id
  | inr above ↦
      get_or_past (take n column) id None (omega (arith, above, length-take-le n column few))
      ∙ sym (gone id above)
]

pub map_cut : {R X : Type 0} (f : R → X) (n : ℕ) (rows : List R)
    → map f (take n rows) ≡ take n (map f rows)
map_cut f zero rows = refl
map_cut f (suc n) [] = refl
map_cut f (suc n) (row ∷ rows) = ap (λ l. f row ∷ l) (map_cut f n rows)

cut_read : {X : Type 0} (at : ArcRow → Option X) (arcs : List ArcRow) (n : ℕ) (told : ℕ → Option X)
    → n ≤ length arcs
    → ((id : ℕ) → read at arcs id ≡ told id) → ((id : ℕ) → n ≤ id → told id ≡ None) → (id : ℕ)
    → read at (take n arcs) id ≡ told id
cut_read at arcs n told few was gone id =
    ap (λ l. get_or l id None) (map_cut at n arcs)
    ∙ cut_told (map at arcs) n told (omega (arith, few, length-map arcs at)) was gone id

dead_if : (b : Bool) → (b ≡ true → ⊥) → b ≡ false
dead_if true isnt = absurd (isnt refl)
dead_if false isnt = refl

module _ {t : Tables} {g : Digraph} (s : Shows t g) where
  -- ---- the last arc

  module _ (valid : IsValid (forget_arc g)) (some : 1 ≤ g.used_arcs) where
    abbrev last : ℕ
    last = g.used_arcs - 1

    no_ends : (id : ℕ) → last ≤ id → fin.get g.ends id ≡ None
    no_ends id past = none_from (fin.get g.ends id) (dead_if (is_some (fin.get g.ends id)) (λ live.
        let below = listed_below (forget_arc g) sorts.Arc id valid
        (live_listed (forget_arc g) sorts.Arc id live) in omega (arith, below, past)))

    no_source : (id : ℕ) → last ≤ id → stamp_of g.by_source id ≡ None
    no_source id past =
        stamp_of-lacks g.by_source id
        (has-none (ids g.by_source) id
        (source_counts g id s.valid ∙ ap (λ o. one_if (is_some o)) (no_ends id past)))

    no_target : (id : ℕ) → last ≤ id → stamp_of g.by_target id ≡ None
    no_target id past =
        stamp_of-lacks g.by_target id
        (has-none (ids g.by_target) id
        (target_counts g id s.valid ∙ ap (λ o. one_if (is_some o)) (no_ends id past)))

    pub arc_forgotten : Shows (record t {
      arcs = take last t.arcs;
      out_links = take last t.out_links;
      in_links =
          take last t.in_links;
      free_arc = None;
      stamps = g.stamps - 1;
    }) (forget_arc g)
    arc_forgotten = record {
      valid = valid;
      node_told = s.node_told;
      ends_told = cut_read ends_at t.arcs last (fin.get g.ends) (omega (arith, s.arcs_used))
          s.ends_told no_ends;
      source_told =
          cut_read source_at t.arcs last (stamp_of g.by_source) (omega (arith, s.arcs_used))
          s.source_told no_source;
      target_told =
          cut_read target_at t.arcs last (stamp_of g.by_target) (omega (arith, s.arcs_used))
          s.target_told no_target;
      nodes_used = s.nodes_used;
      outs_used = s.outs_used;
      ins_used = s.ins_used;
      arcs_used = length-take-le last t.arcs (omega (arith, s.arcs_used));
      node_links_used = s.node_links_used;
      out_links_used = length-take-le last t.out_links (omega (arith, s.out_links_used));
      in_links_used = length-take-le last t.in_links (omega (arith, s.in_links_used));
      node_list = s.node_list;
      free_node_list = s.free_node_list;
      free_arc_list = record { begins = refl; linked = tt };
      out_lists = record {
        each = λ v below.
            list_taken (get_or t.first_outs v None) t.out_links last (out_arcs g v)
            (out_within (forget_arc g) valid v) (s.out_lists.each v below);
      };
      in_lists = record {
        each = λ v below.
            list_taken (get_or t.first_ins v None) t.in_links last (in_arcs g v)
            (in_within (forget_arc g) valid v) (s.in_lists.each v below);
      };
      nodes_counted = s.nodes_counted;
      arcs_counted = s.arcs_counted;
      stamps_used = refl;
    }

  -- ---- the last node

  module _ (valid : IsValid (forget_node g)) (some : 1 ≤ g.used_nodes) where
    abbrev last_node : ℕ
    last_node = g.used_nodes - 1

    nodes_below : (id : ℕ) → has (ids g.nodes) id ≡ true → id < last_node
    nodes_below id at = listed_below (forget_node g) sorts.Node id valid at

    no_node : (id : ℕ) → last_node ≤ id → stamp_of g.nodes id ≡ None
    no_node id past =
        stamp_of-lacks g.nodes id
        (dead_if (has (ids g.nodes) id)
        (λ at. let below = nodes_below id at in omega (arith, below, past)))

    cut_heads : {lists : ℕ → List ℕ} (heads : List (Option ℕ)) (links : List Link)
        → length heads ≡ g.used_nodes → AreLinked heads links lists
        → AreLinked (take last_node heads) links lists
    cut_heads {lists = lists} heads links size linked = record {
      each = λ v below.
          let fits = length-take-le last_node heads (omega (arith, size)) in
          let inside : v < last_node = omega (arith, below, fits) in
          subst (λ h. IsList h links (lists v)) (sym (get_or-take last_node heads v None inside))
          (linked.each v (omega (arith, inside, size)));
    }

    pub node_forgotten : Shows (record t {
      node_stamps = take last_node t.node_stamps;
      first_outs = take last_node t.first_outs;
      first_ins = take last_node t.first_ins;
      node_links = take last_node t.node_links;
      free_node = None;
      stamps = g.stamps - 1;
    }) (forget_node g)
    node_forgotten = record {
      valid = valid;
      node_told = cut_told t.node_stamps last_node (stamp_of g.nodes) (omega (arith, s.nodes_used))
          s.node_told no_node;
      ends_told = s.ends_told;
      source_told = s.source_told;
      target_told = s.target_told;
      nodes_used = length-take-le last_node t.node_stamps (omega (arith, s.nodes_used));
      outs_used = length-take-le last_node t.first_outs (omega (arith, s.outs_used));
      ins_used = length-take-le last_node t.first_ins (omega (arith, s.ins_used));
      arcs_used = s.arcs_used;
      node_links_used = length-take-le last_node t.node_links (omega (arith, s.node_links_used));
      out_links_used = s.out_links_used;
      in_links_used = s.in_links_used;
      node_list = list_taken t.first_node t.node_links last_node (ids g.nodes) nodes_below
          s.node_list;
      free_node_list = record { begins = refl; linked = tt };
      free_arc_list = s.free_arc_list;
      out_lists = cut_heads t.first_outs t.out_links s.outs_used s.out_lists;
      in_lists = cut_heads t.first_ins t.in_links s.ins_used s.in_lists;
      nodes_counted = s.nodes_counted;
      arcs_counted = s.arcs_counted;
      stamps_used = refl;
    }

  -- ---- one stamp less

  pub stamp_forgotten : IsValid (unstamped g)
      → Shows (record t { stamps = g.stamps - 1 }) (unstamped g)
  stamp_forgotten valid = record {
    valid = valid;
    node_told = s.node_told;
    ends_told = s.ends_told;
    source_told = s.source_told;
    target_told = s.target_told;
    nodes_used = s.nodes_used;
    outs_used = s.outs_used;
    ins_used = s.ins_used;
    arcs_used = s.arcs_used;
    node_links_used = s.node_links_used;
    out_links_used = s.out_links_used;
    in_links_used = s.in_links_used;
    node_list = s.node_list;
    free_node_list = s.free_node_list;
    free_arc_list = s.free_arc_list;
    out_lists = record { each = s.out_lists.each };
    in_lists = record { each = s.in_lists.each };
    nodes_counted = s.nodes_counted;
    arcs_counted = s.arcs_counted;
    stamps_used = refl;
  }

-- ---- what an addition says of the digraph before it

-- with so many ids used before, either the id was free or it was the next
pub fresh_or_free : (free : List ℕ) (used now id : ℕ) (rest : List ℕ) → used_after free used ≡ now
    → next_id free used ≡ id → all_but_first free ≡ rest
    → ((used ≡ now) × (free ≡ id ∷ rest))
    ⊎ ((now ≡ used + 1) × (free ≡ []) × (rest ≡ []) × (id ≡ used))
fresh_or_free [] used now id rest after new left = inr (sym after, refl, sym left, sym new)
fresh_or_free (x ∷ free) used now id rest after new left = inl (after, λ i. new i ∷ left i)

module _ (g : Digraph) (f : Fact) (used : ℕ) where
  -- ---- arcs

  module _ (added : AddsTo (before_addition g sorts.Arc f.id used) sorts.Arc f g) where
    abbrev arc_before : Digraph
    arc_before = before_addition g sorts.Arc f.id used

    arc_ways : ((used ≡ g.used_arcs) × (arc_before.free_arcs ≡ f.id ∷ g.free_arcs))
        ⊎ ((g.used_arcs ≡ used + 1) × (arc_before.free_arcs ≡ []) × (g.free_arcs ≡ [])
        × (f.id ≡ used))
    arc_ways = fresh_or_free arc_before.free_arcs used g.used_arcs f.id g.free_arcs
        (ap (λ (d : Digraph). d.used_arcs) added.0)
        (sym (ap (λ (x : Fact). x.id) added.1)) (ap (λ (d : Digraph). d.free_arcs) added.0)

    pub added_arc_live : IsLive g sorts.Arc f.id
    added_arc_live =
        let new = new_arc arc_before in
        subst (λ a. IsSome (fin.get g.ends a)) (sym (ap (λ (x : Fact). x.id) added.1))
        (subst (λ (d : Digraph). IsSome (fin.get d.ends new)) added.0
        (ap is_some (get_new arc_before.ends new (f.from, f.to))))

    pub arc_stamped : 1 ≤ g.stamps
    arc_stamped = let h = ap (λ (d : Digraph). d.stamps) added.0 in omega (arith, h)

    pub arc_reused_before : used ≡ g.used_arcs
        → before_addition g sorts.Arc f.id used ≡ unstamped (erase_arc g f.id)
    arc_reused_before same =
        let frees : free_before g.free_arcs f.id used g.used_arcs ≡ f.id ∷ g.free_arcs =
        ap (λ b. cond b (f.id ∷ g.free_arcs) g.free_arcs) (eq-eqb used g.used_arcs same) in
        λ i. record (erase_arc g f.id)
        { free_arcs = frees i; used_arcs = same i; stamps = g.stamps - 1 }

    pub arc_fresh_before : (used ≡ g.used_arcs → ⊥)
        → (before_addition g sorts.Arc f.id used ≡ forget_arc (erase_arc g f.id))
        × (1 ≤ g.used_arcs) × (used ≡ g.used_arcs - 1)
    arc_fresh_before other = elim arc_ways [
      | inl free ↦ absurd (other free.0)
      | inr fresh ↦
          let frees : free_before g.free_arcs f.id used g.used_arcs ≡ [] =
          ap (λ b. cond b (f.id ∷ g.free_arcs) g.free_arcs) (ne_eqb used g.used_arcs other)
          ∙ fresh.2 in
          let more = fresh.0 in
          let less : used ≡ g.used_arcs - 1 = omega (arith, more) in (
            (λ i. record (erase_arc g f.id)
                { free_arcs = frees i; used_arcs = less i; stamps = g.stamps - 1 }),
            omega (arith, more),
            less,
          )
    ]

  -- ---- nodes

  module _ (valid : IsValid (before_addition g sorts.Node f.id used))
      (added : AddsTo (before_addition g sorts.Node f.id used) sorts.Node f g) where
    abbrev node_before : Digraph
    node_before = before_addition g sorts.Node f.id used

    node_ways : ((used ≡ g.used_nodes) × (node_before.free_nodes ≡ f.id ∷ g.free_nodes))
        ⊎ ((g.used_nodes ≡ used + 1) × (node_before.free_nodes ≡ []) × (g.free_nodes ≡ [])
        × (f.id ≡ used))
    node_ways = fresh_or_free node_before.free_nodes used g.used_nodes f.id g.free_nodes
        (ap (λ (d : Digraph). d.used_nodes) added.0)
        (sym (ap (λ (x : Fact). x.id) added.1)) (ap (λ (d : Digraph). d.free_nodes) added.0)

    pub added_node_live : IsLive g sorts.Node f.id
    added_node_live =
        let new = new_node node_before in
        subst (λ n. has (ids g.nodes) n ≡ true) (sym (ap (λ (x : Fact). x.id) added.1))
        (subst (λ (d : Digraph). has (ids d.nodes) new ≡ true) added.0
        (has_here (ids node_before.nodes) new))

    pub added_node_alone : HasNoArc g f.id
    added_node_alone =
        let dead : has (ids node_before.nodes) f.id ≡ false =
        ap (λ l. has l f.id) (ids-unplaced g.nodes f.id) ∙ gone-without (ids g.nodes) f.id in
        (no_outs node_before f.id valid dead, no_ins node_before f.id valid dead)

    pub node_stamped : 1 ≤ g.stamps
    node_stamped = let h = ap (λ (d : Digraph). d.stamps) added.0 in omega (arith, h)

    pub node_reused_before : used ≡ g.used_nodes
        → before_addition g sorts.Node f.id used ≡ unstamped (erase_node g f.id)
    node_reused_before same =
        let frees : free_before g.free_nodes f.id used g.used_nodes ≡ f.id ∷ g.free_nodes =
        ap (λ b. cond b (f.id ∷ g.free_nodes) g.free_nodes) (eq-eqb used g.used_nodes same) in
        λ i. record (erase_node g f.id)
        { free_nodes = frees i; used_nodes = same i; stamps = g.stamps - 1 }

    pub node_fresh_before : (used ≡ g.used_nodes → ⊥)
        → (before_addition g sorts.Node f.id used ≡ forget_node (erase_node g f.id))
        × (1 ≤ g.used_nodes) × (used ≡ g.used_nodes - 1)
    node_fresh_before other = elim node_ways [
      | inl free ↦ absurd (other free.0)
      | inr fresh ↦
          let frees : free_before g.free_nodes f.id used g.used_nodes ≡ [] =
          ap (λ b. cond b (f.id ∷ g.free_nodes) g.free_nodes) (ne_eqb used g.used_nodes other)
          ∙ fresh.2 in
          let more = fresh.0 in
          let less : used ≡ g.used_nodes - 1 = omega (arith, more) in (
            (λ i. record (erase_node g f.id)
                { free_nodes = frees i; used_nodes = less i; stamps = g.stamps - 1 }),
            omega (arith, more),
            less,
          )
    ]
