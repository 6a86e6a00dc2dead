-- The facts determine all lists.
use Rattle.std.proofs.Common.{◌≡◌, ℕ, ◌<◌, true, false, List, IsPermutation, Some, None, Option}
use Rattle.std.proofs.Common.{option_map, is_some, refl, sym, ap, subst, ◌∙◌, arith, zero, suc, ◌+◌}
use Rattle.std.proofs.Common.{◌≤◌, add-zero}
use Rattle.std.specs.Prelude.{◌==◌, Contains}
use Rattle.std.specs.List.{filter_map, range_with_len}
use Rattle.std.specs.Cmp.{nat_cmp_total}
use Rattle.std.specs.FinMap as fin
use Rattle.std.specs.FinMap.{nat_cmp-IsAntisymmetric}
use Rattle.std.proofs.lemmas.Option.{none-some, same_Some}
use Rattle.std.proofs.lemmas.List.Sorted.{list_any-IsPermutation}
use Rattle.base_items.specs.declared.items.Fact.{Fact}
use Rattle.base_items.specs.declared.items.ItemSort.{ItemSort}
use Rattle.base_items.specs.declared.items.ItemSort.TheVariants as sorts
use Rattle.plain_digraph.specs.Lists.{has}
use Rattle.plain_digraph.specs.Digraph.{Digraph}
use Rattle.plain_digraph.specs.Items.{ids, stamp_of, fact_of, facts, node_fact, used_of}
use Rattle.plain_digraph.specs.Falling.{by_falling, source_places, target_places}
use Rattle.plain_digraph.specs.Valid.{IsValid}
use Rattle.plain_digraph.specs.Laws.{FactsAreWhole}
use Rattle.plain_digraph.specs.FallingLaws.{ListsAreFalling, SameFactsSameLists, SameToldSameLists}
use Rattle.plain_digraph.proofs.Shares.{shared_once}
use Rattle.plain_digraph.proofs.Keys.{keys-has}
use Rattle.plain_digraph.proofs.Rows.{none_from, fact_of-id}
use Rattle.plain_digraph.proofs.Live.{live_ids, fact_of-has, listed_below}
use Rattle.plain_digraph.proofs.Facts.{told_if_listed, listed_if_told}
use Rattle.plain_digraph.proofs.Changes.{source_counts, target_counts}
use Rattle.plain_digraph.proofs.Undone.{one_few, told_parts}
use Rattle.plain_digraph.proofs.Tellings.{told_alike, told_longer}
use Rattle.plain_digraph.proofs.Fallen.{fallen}

-- ---- each list is what the facts tell of

node_stamped : (id : ℕ) (at : Option ℕ) (fact : Fact) → option_map (node_fact id) at ≡ Some fact
    → at ≡ Some fact.from_at
node_stamped id None fact e = absurd (none-some fact e)
node_stamped id (Some at) fact e =
    ap (λ (f : Fact). Some f.from_at) (same_Some (node_fact id at) fact e)

-- an item of which nothing is told isn't listed
pub untold : (g : Digraph) (sort : ItemSort) (id : ℕ) → IsValid g → fact_of g sort id ≡ None
    → has (live_ids g sort) id ≡ false
untold g sort id valid none = sym (fact_of-has g sort id valid) ∙ ap is_some none

module _ (g : Digraph) (valid : IsValid g) where
  -- a list of all arcs has what the keys have
  pub as_keys : (xs : List ℕ) (id : ℕ) → IsPermutation xs (fin.keys g.ends)
      → has xs id ≡ has (fin.keys g.ends) id
  as_keys xs id whole = list_any-IsPermutation (λ other. other == id) xs (fin.keys g.ends) whole

  arc_below : (xs : List ℕ) (id : ℕ) → IsPermutation xs (fin.keys g.ends) → has xs id ≡ true
      → id < g.used_arcs
  arc_below xs id whole at = listed_below g sorts.Arc id valid (sym (as_keys xs id whole) ∙ at)

  nodes_fallen : g.nodes ≡ by_falling (source_places (facts g sorts.Node))
  nodes_fallen =
      fallen (fact_of g sorts.Node) (λ fact. fact.from_at) g.stamps g.nodes
      (fact_of-id g sorts.Node)
      (λ id fact told. node_stamped id (stamp_of g.nodes id) fact told)
      (λ id none. untold g sorts.Node id valid none)
      valid.nodes_fall
      (λ id. let h =
      shared_once (ids g.nodes) g.free_nodes g.used_nodes id valid.node_ids in omega (arith, h))
      g.used_nodes (λ id at. listed_below g sorts.Node id valid at)

  sources_fallen : g.by_source ≡ by_falling (source_places (facts g sorts.Arc))
  sources_fallen =
      fallen (fact_of g sorts.Arc) (λ fact. fact.from_at) g.stamps g.by_source
      (fact_of-id g sorts.Arc)
      (λ id fact told.
      (told_parts id (fin.get g.ends id) (stamp_of g.by_source id) (stamp_of g.by_target id)
      fact told).2)
      (λ id none. as_keys (ids g.by_source) id valid.sources_whole
      ∙ untold g sorts.Arc id valid none)
      valid.sources_fall
      (λ id. let h = source_counts g id valid in let few =
      one_few (is_some (fin.get g.ends id)) in omega (arith, h, few))
      g.used_arcs (λ id at. arc_below (ids g.by_source) id valid.sources_whole at)

  targets_fallen : g.by_target ≡ by_falling (target_places (facts g sorts.Arc))
  targets_fallen =
      fallen (fact_of g sorts.Arc) (λ fact. fact.to_at) g.stamps g.by_target
      (fact_of-id g sorts.Arc)
      (λ id fact told.
      (told_parts id (fin.get g.ends id) (stamp_of g.by_source id) (stamp_of g.by_target id)
      fact told).3)
      (λ id none. as_keys (ids g.by_target) id valid.targets_whole
      ∙ untold g sorts.Arc id valid none)
      valid.targets_fall
      (λ id. let h = target_counts g id valid in let few =
      one_few (is_some (fin.get g.ends id)) in omega (arith, h, few))
      g.used_arcs (λ id at. arc_below (ids g.by_target) id valid.targets_whole at)

pub lists_are_falling : ListsAreFalling
lists_are_falling g valid = record {
  nodes = nodes_fallen g valid;
  by_source = sources_fallen g valid;
  by_target = targets_fallen g valid;
}

-- ---- the same facts

pub facts_are_whole : FactsAreWhole
facts_are_whole g sort fact valid = (
  told_if_listed (fact_of g sort) (fact_of-id g sort) (range_with_len 0 (used_of g sort)) fact,
  λ told.
      let live : has (live_ids g sort) fact.id ≡ true = sym (fact_of-has g sort fact.id valid)
      ∙ ap is_some told in
      let below : fact.id < used_of g sort = listed_below g sort fact.id valid live in
      listed_if_told (fact_of g sort) 0 (used_of g sort) fact.id fact (omega arith)
      (omega (arith, below)) told,
)

-- what is told in one is told in the other
told_too : (g h : Digraph) (sort : ItemSort) (id : ℕ) (fact : Fact) → IsValid g → IsValid h
    → facts g sort ≡ facts h sort
    → fact_of g sort id ≡ Some fact → fact_of h sort id ≡ Some fact
told_too g h sort id fact valid_g valid_h same told =
    let own = fact_of-id g sort id fact told in
    let listed = (facts_are_whole g sort fact valid_g).1 (ap (fact_of g sort) own ∙ told) in
    ap (fact_of h sort) (sym own)
    ∙ (facts_are_whole h sort fact valid_h).0 (subst (λ fs. Contains fs fact) same listed)

told_same : (g h : Digraph) (sort : ItemSort) (id : ℕ) → IsValid g → IsValid h
    → facts g sort ≡ facts h sort
    → fact_of g sort id ≡ fact_of h sort id
told_same g h sort id valid_g valid_h same =
    elim (fact_of g sort id) as (λ o. fact_of g sort id ≡ o → o ≡ fact_of h sort id) [
      | Some fact ↦ λ e. sym (told_too g h sort id fact valid_g valid_h same e)
      | None ↦ λ none. elim (fact_of h sort id) as (λ o. fact_of h sort id ≡ o → None ≡ o) [
        | None ↦ λ e. refl
        | Some fact ↦ λ e.
            absurd (none-some fact
            (sym none ∙ told_too h g sort id fact valid_h valid_g (sym same) e))
      ] refl
    ] refl

-- the ends of an arc are those that are told
pub ends_told : (g : Digraph) (id : ℕ) → IsValid g
    → fin.get g.ends id ≡ option_map (λ (f : Fact). (f.from, f.to)) (fact_of g sorts.Arc id)
ends_told g id valid =
    elim (fact_of g sorts.Arc id) as (λ o. fact_of g sorts.Arc id ≡ o
    → fin.get g.ends id ≡ option_map (λ (f : Fact). (f.from, f.to)) o) [
      | Some fact ↦ λ e.
          (told_parts id (fin.get g.ends id) (stamp_of g.by_source id) (stamp_of g.by_target id)
          fact e).1
      | None ↦ λ e.
          none_from (fin.get g.ends id) (keys-has g.ends id ∙ untold g sorts.Arc id valid e)
    ] refl

pub same_facts_same_lists : SameFactsSameLists
same_facts_same_lists c g valid_c valid_g same =
    let nodes : g.nodes ≡ c.nodes =
    nodes_fallen g valid_g ∙ ap (λ fs. by_falling (source_places fs)) (same sorts.Node)
    ∙ sym (nodes_fallen c valid_c) in
    let sources : g.by_source ≡ c.by_source =
    sources_fallen g valid_g ∙ ap (λ fs. by_falling (source_places fs)) (same sorts.Arc)
    ∙ sym (sources_fallen c valid_c) in
    let targets : g.by_target ≡ c.by_target =
    targets_fallen g valid_g ∙ ap (λ fs. by_falling (target_places fs)) (same sorts.Arc)
    ∙ sym (targets_fallen c valid_c) in
    let ends : g.ends ≡ c.ends =
    fin.same_map nat_cmp_total nat_cmp-IsAntisymmetric g.ends c.ends (λ id.
    ends_told g id valid_g
    ∙ ap (option_map (λ (f : Fact). (f.from, f.to)))
    (told_same g c sorts.Arc id valid_g valid_c (same sorts.Arc))
    ∙ sym (ends_told c id valid_c)) in
    λ i. record { nodes = nodes i; ends = ends i; by_source = sources i; by_target = targets i }

-- ---- the same told of each id

-- ids of which nothing is told add no facts
told_further : (told : ℕ → Option Fact) (m k : ℕ) → ((id : ℕ) → m ≤ id → told id ≡ None)
    → filter_map told (range_with_len 0 (m + k)) ≡ filter_map told (range_with_len 0 m)
told_further told m zero none = ap (λ n. filter_map told (range_with_len 0 n)) (add-zero m)
told_further told m (suc k) none =
    let last : m + suc k ≡ suc (m + k) = omega arith in
    ap (λ n. filter_map told (range_with_len 0 n)) last
    ∙ told_longer told 0 (m + k) (none (0 + (m + k)) (omega arith)) ∙ told_further told m k none

-- nothing is told of an id that wasn't used
none_unused : (g : Digraph) (sort : ItemSort) (id : ℕ) → IsValid g → used_of g sort ≤ id
    → fact_of g sort id ≡ None
none_unused g sort id valid unused =
    elim (fact_of g sort id) as (λ o. fact_of g sort id ≡ o → o ≡ None) [
      | None ↦ λ e. refl
      | Some fact ↦ λ e.
          let below = listed_below g sort id valid
          (sym (fact_of-has g sort id valid) ∙ ap is_some e) in
          absurd (omega (arith, below, unused))
    ] refl

same_facts : (g h : Digraph) (sort : ItemSort) → IsValid g → IsValid h
    → ((id : ℕ) → fact_of g sort id ≡ fact_of h sort id)
    → facts g sort ≡ facts h sort
same_facts g h sort valid_g valid_h same =
    let m = used_of g sort in
    let n = used_of h sort in
    sym (told_further (fact_of g sort) m n (λ id unused. none_unused g sort id valid_g unused))
    ∙ told_alike (fact_of h sort) (fact_of g sort) same (range_with_len 0 (m + n))
    ∙ ap (λ k. filter_map (fact_of h sort) (range_with_len 0 k)) (omega arith)
    ∙ told_further (fact_of h sort) n m (λ id unused. none_unused h sort id valid_h unused)

pub same_told_same_lists : SameToldSameLists
same_told_same_lists c g valid_c valid_g same =
    same_facts_same_lists c g valid_c valid_g
    (λ sort. same_facts g c sort valid_g valid_c (same sort))
