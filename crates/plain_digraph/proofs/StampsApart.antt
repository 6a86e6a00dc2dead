-- The stamps of the copied arcs stay apart from those of other arcs.
use Rattle.std.proofs.Common.{◌≡◌, ◌≢◌, ◌⊎◌, ℕ, ◌<◌, ◌≤◌, cond, Some, None, inl, inr, refl, sym, ap}
use Rattle.std.proofs.Common.{subst, ◌∙◌, arith}
use Rattle.std.specs.Ordering.{nat_cmp}
use Rattle.std.specs.FinMap as fin
use Rattle.std.proofs.lemmas.Bool.{eq-eqb, ne_eqb, cases_eq}
use Rattle.std.proofs.lemmas.Option.{none-some, same_Some}
use Rattle.base_items.specs.declared.items.Fact.{Fact}
use Rattle.base_items.specs.declared.items.ItemSort.TheVariants as sorts
use Rattle.plain_digraph.specs.Digraph.{Digraph}
use Rattle.plain_digraph.specs.Items.{IsLive, fact_of, arc_fact}
use Rattle.plain_digraph.specs.Facts.{with_source, with_target, turned}
use Rattle.plain_digraph.specs.Steps.{new_arc, add_node, add_arc, move_from, move_to, turn, place}
use Rattle.plain_digraph.specs.Steps.{erase_arc, erase_node, clear_arcs, clear_nodes}
use Rattle.plain_digraph.specs.PlainSteps.{AddNode, AddArc, MoveFrom, MoveTo, Turn, PlaceBack}
use Rattle.plain_digraph.specs.PlainSteps.{EraseArc, EraseNode, ClearArcs, ClearNodes}
use Rattle.plain_digraph.specs.Valid.{IsValid}
use Rattle.plain_digraph.specs.ToldLaws.{Tells}
use Rattle.plain_digraph.specs.RestoreLaws.{StampsApart, StampsStayApart}
use Rattle.plain_digraph.proofs.Keys.{get_new, get_other}
use Rattle.plain_digraph.proofs.Rows.{stamp_new, stamp_other, arc_told, fact_of-id}
use Rattle.plain_digraph.proofs.Live.{fact_of-has, live_listed}
use Rattle.plain_digraph.proofs.StepTold.{moved_source_tells, moved_target_tells, turned_tells}
use Rattle.plain_digraph.proofs.StepTold.{placed_tells, erased_arc_tells}
use Rattle.plain_digraph.proofs.StepFacts.{told_of}
use Rattle.plain_digraph.proofs.Bounded.{facts_are_bounded}

-- each arc's stamp is the next one, or that which it had
abbrev IsNextOrOld : (Fact → ℕ) → Digraph → Digraph → Type 0
IsNextOrOld at g h = (other : ℕ) (fact : Fact) → fact_of h sorts.Arc other ≡ Some fact
    → (at fact ≡ g.stamps)
    ⊎ ((old : Fact) × (fact_of g sorts.Arc other ≡ Some old) × (at fact ≡ at old))

-- no arc has another one's stamp of the copy
abbrev AreApart : (Fact → ℕ) → Digraph → Digraph → Type 0
AreApart at c g = (arc other : ℕ) (was fact : Fact) → fact_of c sorts.Arc arc ≡ Some was
    → fact_of g sorts.Arc other ≡ Some fact → other ≢ arc → at fact ≢ at was

apart_on : (at : Fact → ℕ) (c g h : Digraph) → AreApart at c g
    → ((arc : ℕ) (was : Fact) → fact_of c sorts.Arc arc ≡ Some was → at was < g.stamps)
    → IsNextOrOld at g h → AreApart at c h
apart_on at c g h apart below sourced arc other was fact copied now differ same =
    elim (sourced other fact now) [
      | inl next ↦ let low = below arc was copied in absurd (omega (arith, low, next, same))
      | inr old ↦ apart arc other was old.0 copied old.1 differ (sym old.2 ∙ same)
    ]

module _ (c g : Digraph) (valid_c : IsValid c) (valid_g : IsValid g) (apart : StampsApart c g) where
  stay_apart : (h : Digraph) → g.stamps ≤ h.stamps → IsNextOrOld (λ f. f.from_at) g h
      → IsNextOrOld (λ f. f.to_at) g h → StampsApart c h
  stay_apart h later sources targets =
      let earlier = apart.earlier in
      record {
        sources = apart_on (λ f. f.from_at) c g h apart.sources
            (λ arc was e. let low =
            (facts_are_bounded c sorts.Arc arc was valid_c e).from_at in omega
            (arith, low, earlier)) sources;
        targets = apart_on (λ f. f.to_at) c g h apart.targets
            (λ arc was e. let low =
            (facts_are_bounded c sorts.Arc arc was valid_c e).to_at in omega
            (arith, low, earlier)) targets;
        earlier = omega (arith, earlier, later);
      }

-- what is told of an arc is what is told now, or what was told
told_either : (g : Digraph) (now : Fact) (h : Digraph) → Tells g now h → (other : ℕ) (fact : Fact)
    → fact_of h sorts.Arc other ≡ Some fact
    → ((other ≡ now.id) × (now ≡ fact)) ⊎ (fact_of g sorts.Arc other ≡ Some fact)
told_either g now h tells other fact e = elim (cases_eq other now.id) [
  | inl same ↦ inl (
    same,
    same_Some now fact
        (ap (λ b. cond b (Some now) (fact_of g sorts.Arc other)) (sym (eq-eqb other now.id same))
        ∙ sym (tells.arcs other) ∙ e),
  )
  | inr apart ↦
      inr (ap (λ b. cond b (Some now) (fact_of g sorts.Arc other)) (sym (ne_eqb other now.id apart))
      ∙ sym (tells.arcs other) ∙ e)
]

-- after a move whose stamp at this end is the next one
next_stamp : (at : Fact → ℕ) (g : Digraph) (now : Fact) (h : Digraph) → Tells g now h
    → at now ≡ g.stamps → IsNextOrOld at g h
next_stamp at g now h tells next other fact e = elim (told_either g now h tells other fact e) [
  | inl moved ↦ inl (ap at (sym moved.1) ∙ next)
  | inr old ↦ inr (fact, old, refl)
]

-- after a move that leaves it
old_stamp : (at : Fact → ℕ) (g : Digraph) (was now : Fact) (h : Digraph) → Tells g now h
    → fact_of g sorts.Arc now.id ≡ Some was
    → at now ≡ at was → IsNextOrOld at g h
old_stamp at g was now h tells told stays other fact e =
    elim (told_either g now h tells other fact e) [
      | inl moved ↦ inr (was, ap (fact_of g sorts.Arc) moved.0 ∙ told, ap at (sym moved.1) ∙ stays)
      | inr old ↦ inr (fact, old, refl)
    ]

-- after an addition
added_stamp : (at : Fact → ℕ) (g : Digraph) (from to : ℕ)
    → at (arc_fact (new_arc g) (from, to) g.stamps g.stamps) ≡ g.stamps
    → IsNextOrOld at g (add_arc g from to)
added_stamp at g from to next other fact e =
    let new = new_arc g in
    elim (cases_eq other new) [
      | inl same ↦
          let ends = get_new g.ends new (from, to) in
          let from_at = stamp_new g.by_source new g.stamps in
          let to_at = stamp_new g.by_target new g.stamps in
          let told : fact_of (add_arc g from to) sorts.Arc new
          ≡ Some (arc_fact new (from, to) g.stamps g.stamps) =
          λ i. arc_told new (ends i) (from_at i) (to_at i) in
          let is = same_Some (arc_fact new (from, to) g.stamps g.stamps) fact
          (sym told ∙ ap (fact_of (add_arc g from to) sorts.Arc) (sym same) ∙ e) in
          inl (ap at (sym is) ∙ next)
      | inr apart ↦
          let ends = get_other g.ends new (from, to) other apart in
          let from_at = stamp_other g.by_source new other g.stamps apart in
          let to_at = stamp_other g.by_target new other g.stamps apart in
          let told : fact_of (add_arc g from to) sorts.Arc other ≡ fact_of g sorts.Arc other = λ i.
          arc_told other (ends i) (from_at i) (to_at i) in
          inr (fact, sym told ∙ e, refl)
    ]

erased_stamp : (at : Fact → ℕ) (g : Digraph) (arc : ℕ) → IsNextOrOld at g (erase_arc g arc)
erased_stamp at g arc other fact e =
    let told = sym (erased_arc_tells g arc other).0 ∙ e in
    elim (cases_eq other arc) [
      | inl same ↦
          absurd (none-some fact
          (ap (λ b. cond b None (fact_of g sorts.Arc other)) (sym (eq-eqb other arc same)) ∙ told))
      | inr apart ↦
          inr (
            fact,
            ap (λ b. cond b None (fact_of g sorts.Arc other))
                (sym (ne_eqb other arc apart)) ∙ told,
            refl,
          )
    ]

cleared_stamp : (at : Fact → ℕ) (g : Digraph) → IsNextOrOld at g (clear_arcs g)
cleared_stamp at g other fact e =
    absurd (none-some fact
    (sym (ap (λ o. arc_told other o None None) (fin.get-empty nat_cmp other)) ∙ e))

was_told : (g : Digraph) (arc : ℕ) → IsValid g → IsLive g sorts.Arc arc → (was : Fact)
    × (was.id ≡ arc) × (fact_of g sorts.Arc was.id ≡ Some was)
was_told g arc valid live =
    let was = told_of (fact_of g sorts.Arc arc)
    (fact_of-has g sorts.Arc arc valid ∙ live_listed g sorts.Arc arc live) in
    let own = fact_of-id g sorts.Arc arc was.0 was.1 in
    (was.0, own, ap (fact_of g sorts.Arc) own ∙ was.1)

pub stamps_stay_apart : StampsStayApart
stamps_stay_apart c g AddNode valid_c valid_g apart leaves =
    stay_apart c g valid_c valid_g apart (add_node g) (omega arith)
    (λ other fact e. inr (fact, e, refl)) (λ other fact e. inr (fact, e, refl))
stamps_stay_apart c g (AddArc from to) valid_c valid_g apart leaves =
    stay_apart c g valid_c valid_g apart (add_arc g from to) (omega arith)
    (added_stamp (λ f. f.from_at) g from to refl) (added_stamp (λ f. f.to_at) g from to refl)
stamps_stay_apart c g (MoveFrom arc node) valid_c valid_g apart live =
    let was = was_told g arc valid_g live in
    let h : Digraph = move_from g was.0.id node in
    let now : Fact = with_source was.0 node g.stamps in
    let tells : Tells g now h = moved_source_tells g was.0 node was.2 in
    subst (λ a. StampsApart c (move_from g a node)) was.1
    (stay_apart c g valid_c valid_g apart h (omega arith)
    (next_stamp (λ f. f.from_at) g now h tells refl)
    (old_stamp (λ f. f.to_at) g was.0 now h tells was.2 refl))
stamps_stay_apart c g (MoveTo arc node) valid_c valid_g apart live =
    let was = was_told g arc valid_g live in
    let h : Digraph = move_to g was.0.id node in
    let now : Fact = with_target was.0 node g.stamps in
    let tells : Tells g now h = moved_target_tells g was.0 node was.2 in
    subst (λ a. StampsApart c (move_to g a node)) was.1
    (stay_apart c g valid_c valid_g apart h (omega arith)
    (old_stamp (λ f. f.from_at) g was.0 now h tells was.2 refl)
    (next_stamp (λ f. f.to_at) g now h tells refl))
stamps_stay_apart c g (Turn arc) valid_c valid_g apart live =
    let was = was_told g arc valid_g live in
    let h : Digraph = turn g was.0.id in
    let now : Fact = turned was.0 g.stamps in
    let tells : Tells g now h = turned_tells g was.0 was.2 in
    subst (λ a. StampsApart c (turn g a)) was.1
    (stay_apart c g valid_c valid_g apart h (omega arith)
    (next_stamp (λ f. f.from_at) g now h tells refl) (next_stamp (λ f. f.to_at) g now h tells refl))
stamps_stay_apart c g (PlaceBack placed) valid_c valid_g apart leaves =
    let tells : Tells g placed (place g placed) = placed_tells g placed in
    let earlier = apart.earlier in
    record {
      sources = λ arc other was fact copied now differ same.
          elim (told_either g placed (place g placed) tells other fact now) [
            | inl back ↦
                (leaves arc was copied (λ e. differ (back.0 ∙ e))).0
                (ap (λ (f : Fact). f.from_at) back.1 ∙ same)
            | inr old ↦ apart.sources arc other was fact copied old differ same
          ];
      targets = λ arc other was fact copied now differ same.
          elim (told_either g placed (place g placed) tells other fact now) [
            | inl back ↦
                (leaves arc was copied (λ e. differ (back.0 ∙ e))).1
                (ap (λ (f : Fact). f.to_at) back.1 ∙ same)
            | inr old ↦ apart.targets arc other was fact copied old differ same
          ];
      earlier = omega (arith, earlier);
    }
stamps_stay_apart c g (EraseArc arc) valid_c valid_g apart leaves =
    stay_apart c g valid_c valid_g apart (erase_arc g arc) (omega arith)
    (erased_stamp (λ f. f.from_at) g arc) (erased_stamp (λ f. f.to_at) g arc)
stamps_stay_apart c g (EraseNode node) valid_c valid_g apart leaves =
    stay_apart c g valid_c valid_g apart (erase_node g node) (omega arith)
    (λ other fact e. inr (fact, e, refl)) (λ other fact e. inr (fact, e, refl))
stamps_stay_apart c g ClearArcs valid_c valid_g apart leaves =
    stay_apart c g valid_c valid_g apart (clear_arcs g) (omega arith)
    (cleared_stamp (λ f. f.from_at) g) (cleared_stamp (λ f. f.to_at) g)
stamps_stay_apart c g ClearNodes valid_c valid_g apart leaves =
    stay_apart c g valid_c valid_g apart (clear_nodes g) (omega arith)
    (λ other fact e. inr (fact, e, refl)) (λ other fact e. inr (fact, e, refl))
