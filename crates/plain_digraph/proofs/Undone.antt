-- Undone steps.
use Rattle.std.proofs.Common.{◌≡◌, ℕ, ◌+◌, ◌-◌, ◌≤◌, Bool, true, false, cond, ltb, List, [], ◌∷◌}
use Rattle.std.proofs.Common.{IsPermutation, Some, None, Option, is_some, option_map}
use Rattle.std.proofs.Common.{option_and_then, inl, inr, refl, sym, ap, subst, ◌∙◌, arith}
use Rattle.std.specs.Prelude.{◌==◌, not}
use Rattle.std.specs.Cmp.{nat_cmp_total}
use Rattle.std.specs.FinMap as fin
use Rattle.std.specs.FinMap.{nat_cmp-IsAntisymmetric}
use Rattle.std.proofs.lemmas.Bool.{eq-eqb, ne_eqb, cases_eq}
use Rattle.std.proofs.lemmas.Option.{none-some, same_Some}
use Rattle.std.proofs.lemmas.List.Sorted.{list_any-IsPermutation}
use Rattle.base_items.specs.declared.items.Fact.{Fact}
use Rattle.base_items.specs.declared.items.ItemSort.{ItemSort}
use Rattle.base_items.specs.declared.items.ItemSort.TheVariants as sorts
use Rattle.plain_digraph.specs.Lists.{has, all_but_first}
use Rattle.plain_digraph.specs.Digraph.{Digraph, Place, Ends}
use Rattle.plain_digraph.specs.Items.{ids, stamp_of, fact_of, arc_fact, used_of, source_of}
use Rattle.plain_digraph.specs.Items.{target_of}
use Rattle.plain_digraph.specs.Steps.{unplaced, placed, in_front, by_stamp, relaid, laid_by}
use Rattle.plain_digraph.specs.Steps.{new_node, new_arc, next_id, used_after, add_node, add_arc}
use Rattle.plain_digraph.specs.Undo.{before_move, before_addition, free_before}
use Rattle.plain_digraph.specs.Valid.{IsValid}
use Rattle.plain_digraph.specs.UndoLaws.{MovesTo, AddsTo}
use Rattle.plain_digraph.proofs.Tallies.{one_if}
use Rattle.plain_digraph.proofs.Keys.{get_new, get_other}
use Rattle.plain_digraph.proofs.Additions.{new_node_apart, new_arc_apart, new_arc_endless}
use Rattle.plain_digraph.proofs.Places.{unplaced-same, unplaced-lacks, by_stamp-back}
use Rattle.plain_digraph.proofs.Changes.{source_counts, target_counts, get_gone, get_left}

pub one_few : (b : Bool) → one_if b ≤ 1
one_few true = omega arith
one_few false = omega arith

-- the head of a list goes, if it has the id
unplaced-head : (places : List Place) (id at : ℕ)
    → unplaced ((id, at) ∷ places) id ≡ unplaced places id
unplaced-head places id at =
    ap (λ b. cond (not b) ((id, at) ∷ unplaced places id) (unplaced places id)) (eq-eqb id id refl)

unplaced-front : (places : List Place) (id at : ℕ)
    → unplaced (in_front places id at) id ≡ unplaced places id
unplaced-front places id at = unplaced-head (unplaced places id) id at
    ∙ unplaced-same (unplaced places id) id (unplaced-lacks places id)

unplaced-placed : (places : List Place) (id at : ℕ)
    → unplaced (placed places id at) id ≡ unplaced places id
unplaced-placed [] id at = unplaced-head [] id at
unplaced-placed (p ∷ places) id at =
    let rest = unplaced-placed places id at in
    elim (ltb p.1 at) as (λ b.
    unplaced (cond b ((id, at) ∷ p ∷ places) (p ∷ placed places id at)) id
    ≡ unplaced (p ∷ places) id) [
      | true ↦ unplaced-head (p ∷ places) id at
      | false ↦ ap (λ l. cond (not (p.0 == id)) (p ∷ l) l) rest
    ]

unplaced-by_stamp : (places : List Place) (id at : ℕ)
    → unplaced (by_stamp places id at) id ≡ unplaced places id
unplaced-by_stamp places id at = unplaced-placed (unplaced places id) id at
    ∙ unplaced-same (unplaced places id) id (unplaced-lacks places id)

-- what is told of an arc, in its parts
pub told_parts : (arc : ℕ) (ends : Option (ℕ × ℕ)) (from_at to_at : Option ℕ) (f : Fact)
    → option_and_then (λ e. option_and_then (λ at. option_map (arc_fact arc e at) to_at) from_at)
    ends ≡ Some f
    → (f.id ≡ arc) × (ends ≡ Some (f.from, f.to)) × (from_at ≡ Some f.from_at)
    × (to_at ≡ Some f.to_at)
told_parts arc None from_at to_at f h = absurd (none-some f h)
told_parts arc (Some e) None to_at f h = absurd (none-some f h)
told_parts arc (Some e) (Some a) None f h = absurd (none-some f h)
told_parts arc (Some e) (Some a) (Some b) f h =
    let is = same_Some (arc_fact arc e a b) f h in (
      sym (ap (λ (x : Fact). x.id) is),
      (λ i. Some ((is i).from, (is i).to)),
      ap (λ (x : Fact). Some x.from_at) is,
      ap (λ (x : Fact). Some x.to_at) is,
    )

-- an arc that was laid anew is laid back
laid_back : (g : Digraph) (f : Fact) (from to : ℕ) (sources targets : List Place) → IsValid g
    → fact_of g sorts.Arc f.id ≡ Some f
    → unplaced sources f.id ≡ unplaced g.by_source f.id
    → unplaced targets f.id ≡ unplaced g.by_target f.id
    → before_move (relaid g f.id from to sources targets (g.stamps + 1)) f ≡ g
laid_back g f from to sources targets valid told same_sources same_targets =
    let arc = f.id in
    let parts = told_parts arc (fin.get g.ends arc) (stamp_of g.by_source arc)
    (stamp_of g.by_target arc) f told in
    let back : Ends = fin.insert (fin.insert g.ends arc (from, to)) arc (f.from, f.to) in
    let ends : back ≡ g.ends =
    fin.same_map nat_cmp_total nat_cmp-IsAntisymmetric back g.ends (λ q. elim (cases_eq q arc) [
      | inl same ↦ ap (fin.get back) same
          ∙ get_new (fin.insert g.ends arc (from, to)) arc (f.from, f.to) ∙ sym parts.1
          ∙ ap (fin.get g.ends) (sym same)
      | inr other ↦ get_other (fin.insert g.ends arc (from, to)) arc (f.from, f.to) q other
          ∙ get_other g.ends arc (from, to) q other
    ]) in
    let by_source : by_stamp sources arc f.from_at ≡ g.by_source =
    ap (λ l. placed l arc f.from_at) same_sources
    ∙ by_stamp-back g.stamps g.by_source arc f.from_at valid.sources_fall
    (omega (arith, source_counts g arc valid, one_few (is_some (fin.get g.ends arc)))) parts.2 in
    let by_target : by_stamp targets arc f.to_at ≡ g.by_target =
    ap (λ l. placed l arc f.to_at) same_targets
    ∙ by_stamp-back g.stamps g.by_target arc f.to_at valid.targets_fall
    (omega (arith, target_counts g arc valid, one_few (is_some (fin.get g.ends arc)))) parts.3 in
    let stamps : g.stamps + 1 - 1 ≡ g.stamps = omega arith in
    λ i. record g
    { ends = ends i; by_source = by_source i; by_target = by_target i; stamps = stamps i }

pub move_undone : (g h : Digraph) (arc : ℕ) (f : Fact) → IsValid g
    → fact_of g sorts.Arc arc ≡ Some f → MovesTo g arc h → before_move h f ≡ g
move_undone g h arc f valid told moves =
    let is : f.id ≡ arc =
    (told_parts arc (fin.get g.ends arc) (stamp_of g.by_source arc) (stamp_of g.by_target arc) f
    told).0 in
    let own : fact_of g sorts.Arc f.id ≡ Some f = ap (fact_of g sorts.Arc) is ∙ told in
    let at : MovesTo g f.id h = subst (λ a. MovesTo g a h) (sym is) moves in
    elim at [
      | inl by_source ↦ subst (λ d. before_move d f ≡ g) by_source.1
          (laid_back g f by_source.0 (target_of g f.id) (in_front g.by_source f.id g.stamps)
          g.by_target valid own (unplaced-front g.by_source f.id g.stamps) refl)
      | inr others ↦ elim others [
        | inl by_target ↦ subst (λ d. before_move d f ≡ g) by_target.1
            (laid_back g f (source_of g f.id) by_target.0 g.by_source
            (in_front g.by_target f.id g.stamps) valid own refl
            (unplaced-front g.by_target f.id g.stamps))
        | inr more ↦ elim more [
          | inl turned ↦ subst (λ d. before_move d f ≡ g) turned
              (laid_back g f (target_of g f.id) (source_of g f.id)
              (in_front g.by_source f.id g.stamps) (in_front g.by_target f.id g.stamps) valid
              own
              (unplaced-front g.by_source f.id g.stamps) (unplaced-front g.by_target f.id g.stamps))
          | inr put ↦
              let p = put.0 in
              subst (λ d. before_move d f ≡ g)
              (ap (λ a. laid_by g (record p { id = a }) (g.stamps + 1)) (sym put.1) ∙ put.2)
              (laid_back g f p.from p.to (by_stamp g.by_source f.id p.from_at)
              (by_stamp g.by_target f.id p.to_at) valid own
              (unplaced-by_stamp g.by_source f.id p.from_at)
              (unplaced-by_stamp g.by_target f.id p.to_at))
        ]
      ]
    ]

-- ---- additions

frees_before : (free : List ℕ) (used : ℕ)
    → free_before (all_but_first free) (next_id free used) used (used_after free used) ≡ free
frees_before [] used =
    ap (λ b. cond b (used ∷ []) []) (ne_eqb used (used + 1) (λ e. omega (arith, e)))
frees_before (x ∷ free) used = ap (λ b. cond b (x ∷ free) free) (eq-eqb used used refl)

node_undone : (g : Digraph) → IsValid g
    → before_addition (add_node g) sorts.Node (new_node g) g.used_nodes ≡ g
node_undone g valid =
    let new = new_node g in
    let nodes : unplaced ((new, g.stamps) ∷ g.nodes) new ≡ g.nodes =
    unplaced-head g.nodes new g.stamps ∙ unplaced-same g.nodes new (new_node_apart g valid) in
    let frees = frees_before g.free_nodes g.used_nodes in
    let stamps : g.stamps + 1 - 1 ≡ g.stamps = omega arith in
    λ i. record g { nodes = nodes i; free_nodes = frees i; stamps = stamps i }

arc_undone : (g : Digraph) (from to : ℕ) → IsValid g
    → before_addition (add_arc g from to) sorts.Arc (new_arc g) g.used_arcs ≡ g
arc_undone g from to valid =
    let new = new_arc g in
    let back : Ends = fin.remove (fin.insert g.ends new (from, to)) new in
    let ends : back ≡ g.ends =
    fin.same_map nat_cmp_total nat_cmp-IsAntisymmetric back g.ends (λ q. elim (cases_eq q new) [
      | inl same ↦ ap (fin.get back) same ∙ get_gone (fin.insert g.ends new (from, to)) new
          ∙ sym (new_arc_endless g valid) ∙ ap (fin.get g.ends) (sym same)
      | inr other ↦ get_left (fin.insert g.ends new (from, to)) new q other
          ∙ get_other g.ends new (from, to) q other
    ]) in
    let apart : (xs : List ℕ) → IsPermutation xs (fin.keys g.ends) → has xs new ≡ false =
    λ xs whole. list_any-IsPermutation (λ other. other == new) xs (fin.keys g.ends) whole
    ∙ new_arc_apart g valid in
    let sources : unplaced ((new, g.stamps) ∷ g.by_source) new ≡ g.by_source =
    unplaced-head g.by_source new g.stamps
    ∙ unplaced-same g.by_source new (apart (ids g.by_source) valid.sources_whole) in
    let targets : unplaced ((new, g.stamps) ∷ g.by_target) new ≡ g.by_target =
    unplaced-head g.by_target new g.stamps
    ∙ unplaced-same g.by_target new (apart (ids g.by_target) valid.targets_whole) in
    let frees = frees_before g.free_arcs g.used_arcs in
    let stamps : g.stamps + 1 - 1 ≡ g.stamps = omega arith in
    λ i. record g {
      ends = ends i;
      by_source = sources i;
      by_target = targets i;
      free_arcs = frees i;
      stamps =
          stamps i;
    }

pub addition_undone : (g h : Digraph) (sort : ItemSort) (f : Fact) → IsValid g → AddsTo g sort f h
    → before_addition h sort f.id (used_of g sort) ≡ g
addition_undone g h sorts.Node f valid adds =
    subst (λ d. before_addition d sorts.Node f.id g.used_nodes ≡ g) adds.0
    (ap (λ n. before_addition (add_node g) sorts.Node n g.used_nodes)
    (ap (λ (x : Fact). x.id) adds.1) ∙ node_undone g valid)
addition_undone g h sorts.Arc f valid adds =
    subst (λ d. before_addition d sorts.Arc f.id g.used_arcs ≡ g) adds.0
    (ap (λ n. before_addition (add_arc g f.from f.to) sorts.Arc n g.used_arcs)
    (ap (λ (x : Fact). x.id) adds.1) ∙ arc_undone g f.from f.to valid)
