-- Facts by rising id are told by the lists that they give.
use Rattle.std.proofs.Common.{◌≡◌, ℕ, ◌+◌, ◌<◌, ◌≤◌, true, false, cond, List, [], ◌∷◌, map}
use Rattle.std.proofs.Common.{Option, Some, None, refl, sym, ap, ◌∙◌, subst, inl, inr, arith}
use Rattle.std.proofs.Common.{Bool, IsTrue, nat_le}
use Rattle.std.specs.Prelude.{◌==◌, ◌||◌, option_map, option_and_then}
use Rattle.std.specs.Cmp.{nat_cmp_total}
use Rattle.std.specs.Ordering.{nat_cmp}
use Rattle.std.specs.FinMap as fin
use Rattle.std.proofs.lemmas.Bool.{cases_eq, cases_lt, eq-eqb, ne_eqb}
use Rattle.std.proofs.lemmas.Grind.{common_steps}
use Rattle.std.proofs.lemmas.Option.{none-some, same_Some}
use Rattle.base_items.specs.declared.items.Fact.{Fact}
use Rattle.plain_digraph.specs.Copies.{Copy}
use Rattle.plain_digraph.specs.Digraph.{Place}
use Rattle.plain_digraph.specs.Facts.{fact_id}
use Rattle.plain_digraph.specs.Falling.{by_falling}
use Rattle.plain_digraph.specs.Items.{stamp_of, node_fact, arc_fact, ids}
use Rattle.plain_digraph.specs.Lists.{AllOf, has}
use Rattle.plain_digraph.specs.Steps.{placed}
use Rattle.plain_digraph.proofs.Keys.{ties_same, ties_other}
use Rattle.plain_digraph.proofs.Places.{stamp_of-placed, stamp_of-placed_other}
use Rattle.observe_core.specs.Items.{has_id, rises_from}
use Rattle.observe_core.proofs.ItemLemmas.{and_left, and_right}
use Rattle.desk_world.specs.Copies.{copy_of_facts}
use Rattle.desk_world.proofs.SnapsFollow.{has_placed}

-- ---- the fact of an id

-- the first fact that has the id
abbrev pub fact_in : List Fact → ℕ → Option Fact
fact_in [] id = None
fact_in (f ∷ fs) id = cond (f.id == id) (Some f) (fact_in fs id)

abbrev pub Rises : ℕ → List Fact → Type 0
Rises low fs = IsTrue (rises_from fact_id low fs)

-- what is true of all facts is true of the one that has an id, and it has that id
in_id : (P : Fact → Type 0) (fs : List Fact) (id : ℕ) (f : Fact) → AllOf P fs
    → fact_in fs id ≡ Some f → P f × (f.id ≡ id)
in_id P [] id f all is = absurd (none-some f is)
in_id P (g ∷ fs) id f all is =
    elim (cases_eq g.id id) [
      | inl same ↦
          let own : g ≡ f = same_Some g f
          (sym (ap (λ b. cond b (Some g) (fact_in fs id)) (eq-eqb g.id id same)) ∙ is) in
          (subst P own all.0, sym (ap fact_id own) ∙ same)
      | inr other ↦ in_id P fs id f all.1
          (sym (ap (λ b. cond b (Some g) (fact_in fs id)) (ne_eqb g.id id other)) ∙ is)
    ]

-- ids below are those of none
none_below : (low id : ℕ) (fs : List Fact) → Rises low fs → id < low → fact_in fs id ≡ None
none_below low id [] rise less = refl
none_below low id (f ∷ fs) rise less =
    let a = and_left (nat_le low f.id) (rises_from fact_id (f.id + 1) fs) rise in
    let b = and_right (nat_le low f.id) (rises_from fact_id (f.id + 1) fs) rise in
    let above : low ≤ f.id = grind (arith, common_steps, a) in
    ap (λ b. cond b (Some f) (fact_in fs id)) (ne_eqb f.id id (λ e. omega (arith, e, less, above)))
    ∙ none_below (f.id + 1) id fs b (omega (arith, less, above))

-- those that rise and are told alike are the same
pub told_same : (low : ℕ) (xs ys : List Fact) → Rises low xs → Rises low ys
    → ((id : ℕ) → fact_in xs id ≡ fact_in ys id) → xs ≡ ys
told_same low [] [] rx ry same = refl
told_same low [] (y ∷ ys) rx ry same =
    absurd (none-some y (same y.id ∙ ap (λ b. cond b (Some y) (fact_in ys y.id))
    (eq-eqb y.id y.id refl)))
told_same low (x ∷ xs) [] rx ry same =
    absurd (none-some x (sym (same x.id) ∙ ap (λ b. cond b (Some x) (fact_in xs x.id))
    (eq-eqb x.id x.id refl)))
told_same low (x ∷ xs) (y ∷ ys) rx ry same =
    let bx = and_right (nat_le low x.id) (rises_from fact_id (x.id + 1) xs) rx in
    let by = and_right (nat_le low y.id) (rises_from fact_id (y.id + 1) ys) ry in
    let own_x : fact_in (x ∷ xs) x.id ≡ Some x =
    ap (λ b. cond b (Some x) (fact_in xs x.id)) (eq-eqb x.id x.id refl) in
    let own_y : fact_in (y ∷ ys) y.id ≡ Some y =
    ap (λ b. cond b (Some y) (fact_in ys y.id)) (eq-eqb y.id y.id refl) in
    elim (cases_eq x.id y.id) [
      | inl at ↦
          let first : x ≡ y = same_Some x y
          (sym own_x ∙ same x.id ∙ ap (fact_in (y ∷ ys)) at ∙ own_y) in
          let rest = told_same (x.id + 1) xs ys bx
          (subst (λ n. Rises (n + 1) ys) (sym at) by)
          (λ id. elim (cases_lt id (x.id + 1)) [
            | inl less ↦
                none_below (x.id + 1) id xs bx less
                ∙ sym (none_below (y.id + 1) id ys by (omega (arith, less, at)))
            | inr more ↦
                sym (ap (λ b. cond b (Some x) (fact_in xs id))
                (ne_eqb x.id id (λ e. omega (arith, e, more))))
                ∙ same id
                ∙ ap (λ b. cond b (Some y) (fact_in ys id))
                (ne_eqb y.id id (λ e. omega (arith, e, at, more)))
          ]) in
          λ i. first i ∷ rest i
      | inr apart ↦ elim (cases_lt x.id y.id) [
        | inl less ↦
            absurd (none-some x (sym (ap (λ b. cond b (Some y) (fact_in ys x.id))
            (ne_eqb y.id x.id (λ e. apart (sym e)))
            ∙ none_below (y.id + 1) x.id ys by (omega (arith, less)))
            ∙ sym (same x.id) ∙ own_x))
        | inr more ↦
            absurd (none-some y (sym (ap (λ b. cond b (Some x) (fact_in xs y.id))
            (ne_eqb x.id y.id apart)
            ∙ none_below (x.id + 1) y.id xs bx (omega (arith, more, apart)))
            ∙ same y.id ∙ own_y))
      ]
    ]

-- ---- the lists tell the facts

module _ (at : Fact → ℕ) where
  abbrev places : List Fact → List Place
  places fs = by_falling (map (λ f. (f.id, at f)) fs)

  places_have : (fs : List Fact) (id : ℕ) → has (ids (places fs)) id ≡ has_id fact_id id fs
  places_have [] id = refl
  places_have (f ∷ fs) id =
      has_placed (places fs) f.id (at f) id
      ∙ ap (λ b. (f.id == id) || b) (places_have fs id)
      ∙ by (f.id == id) (has_id fact_id id fs)
    where
      by : (a b : Bool) → (a || b) ≡ cond a true b
      by true b = refl
      by false b = refl

  lacks_below : (low id : ℕ) (fs : List Fact) → Rises low fs → id < low
      → has_id fact_id id fs ≡ false
  lacks_below low id [] rise less = refl
  lacks_below low id (f ∷ fs) rise less =
      let a = and_left (nat_le low f.id) (rises_from fact_id (f.id + 1) fs) rise in
      let b = and_right (nat_le low f.id) (rises_from fact_id (f.id + 1) fs) rise in
      let above : low ≤ f.id = grind (arith, common_steps, a) in
      ap (λ b. cond b true (has_id fact_id id fs))
      (ne_eqb f.id id (λ e. omega (arith, e, less, above)))
      ∙ lacks_below (f.id + 1) id fs b (omega (arith, less, above))

  pub stamp_told : (low : ℕ) (fs : List Fact) (id : ℕ) → Rises low fs
      → stamp_of (places fs) id ≡ option_map at (fact_in fs id)
  stamp_told low [] id rise = refl
  stamp_told low (f ∷ fs) id rise =
      let b = and_right (nat_le low f.id) (rises_from fact_id (f.id + 1) fs) rise in
      elim (cases_eq f.id id) [
        | inl same ↦
            ap (stamp_of (placed (places fs) f.id (at f))) (sym same)
            ∙ stamp_of-placed (places fs) f.id (at f)
            (places_have fs f.id ∙ lacks_below (f.id + 1) f.id fs b (omega arith))
            ∙ sym (ap (λ b. option_map at (cond b (Some f) (fact_in fs id)))
            (eq-eqb f.id id same))
        | inr other ↦
            stamp_of-placed_other (places fs) f.id (at f) id (λ e. other (sym e))
            ∙ stamp_told (f.id + 1) fs id b
            ∙ sym (ap (λ b. option_map at (cond b (Some f) (fact_in fs id)))
            (ne_eqb f.id id other))
      ]

abbrev ends_of : Fact → ℕ × ℕ
ends_of f = (f.from, f.to)

abbrev entry_of : Fact → ℕ × (ℕ × ℕ)
entry_of f = (f.id, ends_of f)

ends_told : (fs : List Fact) (id : ℕ)
    → fin.find nat_cmp id (map entry_of fs) ≡ option_map ends_of (fact_in fs id)
ends_told [] id = refl
ends_told (f ∷ fs) id =
    let rest = ends_told fs id in
    elim (cases_eq id f.id) [
      | inl same ↦
          ap (λ t. cond t (Some (ends_of f)) (fin.find nat_cmp id (map entry_of fs)))
          (ties_same id f.id same)
          ∙ sym (ap (λ b. option_map ends_of (cond b (Some f) (fact_in fs id)))
          (eq-eqb f.id id (sym same)))
      | inr other ↦
          ap (λ t. cond t (Some (ends_of f)) (fin.find nat_cmp id (map entry_of fs)))
          (ties_other id f.id other)
          ∙ rest
          ∙ sym (ap (λ b. option_map ends_of (cond b (Some f) (fact_in fs id)))
          (ne_eqb f.id id (λ e. other (sym e))))
    ]

-- a node is both of its own ends, and has one stamp
abbrev pub IsNodeFact : Fact → Type 0
IsNodeFact f = f ≡ node_fact f.id f.from_at

-- what a copy tells of an id
abbrev node_told : Copy → ℕ → Option Fact
node_told copy id = option_map (node_fact id) (stamp_of copy.nodes id)

abbrev arc_told : Copy → ℕ → Option Fact
arc_told copy id =
    option_and_then (λ ends. option_and_then
    (λ from_at. option_map (arc_fact id ends from_at) (stamp_of copy.by_target id))
    (stamp_of copy.by_source id)) (fin.get copy.ends id)

module _ (nodes arcs : List Fact) (rise_nodes : Rises 0 nodes) (rise_arcs : Rises 0 arcs)
    (are_nodes : AllOf IsNodeFact nodes) where
  abbrev copy : Copy
  copy = copy_of_facts nodes arcs

  node_is : (id : ℕ) → node_told copy id ≡ fact_in nodes id
  node_is id =
      ap (option_map (node_fact id)) (stamp_told (λ f. f.from_at) 0 nodes id rise_nodes)
      ∙ by (fact_in nodes id) refl
    where
      by : (o : Option Fact) → fact_in nodes id ≡ o
          → option_map (node_fact id) (option_map (λ f. f.from_at) o) ≡ o
      by None is = refl
      by (Some f) is =
          let own = in_id IsNodeFact nodes id f are_nodes is in
          ap (λ n. Some (node_fact n f.from_at)) (sym own.1) ∙ sym (ap Some own.0)

  arc_is : (id : ℕ) → arc_told copy id ≡ fact_in arcs id
  arc_is id =
      (λ i. option_and_then (λ ends. option_and_then
      (λ from_at. option_map (arc_fact id ends from_at) (target i)) (source i)) (ends i))
      ∙ by (fact_in arcs id) refl
    where
      source : stamp_of copy.by_source id ≡ option_map (λ f. f.from_at) (fact_in arcs id)
      source = stamp_told (λ f. f.from_at) 0 arcs id rise_arcs

      target : stamp_of copy.by_target id ≡ option_map (λ f. f.to_at) (fact_in arcs id)
      target = stamp_told (λ f. f.to_at) 0 arcs id rise_arcs

      ends : fin.get copy.ends id ≡ option_map ends_of (fact_in arcs id)
      ends = fin.get-from_entries nat_cmp_total (map entry_of arcs) id ∙ ends_told arcs id

      by : (o : Option Fact) → fact_in arcs id ≡ o
          → option_and_then (λ (e : ℕ × ℕ). option_and_then
          (λ (from_at : ℕ). option_map (arc_fact id e from_at)
          (option_map (λ (f : Fact). f.to_at) o))
          (option_map (λ (f : Fact). f.from_at) o)) (option_map ends_of o) ≡ o
      by None is = refl
      by (Some f) is =
          let own = in_id (λ (g : Fact). Unit {0}) arcs id f (all arcs) is in
          ap (λ n. Some (arc_fact n (ends_of f) f.from_at f.to_at)) (sym own.1)
        where
          all : (fs : List Fact) → AllOf (λ (g : Fact). Unit {0}) fs
          all [] = tt
          all (g ∷ fs) = (tt, all fs)

-- the facts of nodes and of arcs, by rising id
pub record AreFacts (nodes arcs : List Fact) : Type 0 where
  pub rise_nodes : Rises 0 nodes
  pub rise_arcs : Rises 0 arcs
  pub are_nodes : AllOf IsNodeFact nodes

-- they are told by the lists that they give
pub facts_told : (nodes arcs others more : List Fact) → AreFacts nodes arcs
    → AreFacts others more → copy_of_facts nodes arcs ≡ copy_of_facts others more
    → (nodes ≡ others) × (arcs ≡ more)
facts_told nodes arcs others more a b same = (
  told_same 0 nodes others a.rise_nodes b.rise_nodes
      (λ id. sym (node_is nodes arcs a.rise_nodes a.rise_arcs a.are_nodes id)
      ∙ ap (λ c. node_told c id) same
      ∙ node_is others more b.rise_nodes b.rise_arcs b.are_nodes id),
  told_same 0 arcs more a.rise_arcs b.rise_arcs
      (λ id. sym (arc_is nodes arcs a.rise_nodes a.rise_arcs a.are_nodes id)
      ∙ ap (λ c. arc_told c id) same
      ∙ arc_is others more b.rise_nodes b.rise_arcs b.are_nodes id),
)
