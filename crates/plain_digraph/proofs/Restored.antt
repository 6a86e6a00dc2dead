-- A restored digraph has the lists of the copy.
use Rattle.std.proofs.Common.{◌≡◌, ℕ, ◌<◌, Bool, true, false, cond, List, [], ◌∷◌, ◌++◌, map}
use Rattle.std.proofs.Common.{filter, Some, None, Option, is_some, inl, inr, refl, sym, ap, subst}
use Rattle.std.proofs.Common.{◌∙◌, arith}
use Rattle.std.specs.Prelude.{◌==◌, ◌&&◌, ◌||◌, not}
use Rattle.std.specs.Option.{option_map_or}
use Rattle.std.specs.List.{filter_map, cons_option, range_with_len}
use Rattle.std.proofs.lemmas.Bool.{eq-eqb, ne_eqb, eqb-true, cases_eq, cases_Bool, lt-ltb}
use Rattle.std.proofs.lemmas.Bool.{and_parts, true≢false}
use Rattle.std.proofs.lemmas.Option.{none-some}
use Rattle.base_items.specs.declared.items.Fact.{Fact}
use Rattle.base_items.specs.declared.items.ItemSort.{ItemSort}
use Rattle.base_items.specs.declared.items.ItemSort.TheVariants as sorts
use Rattle.plain_digraph.specs.Lists.{has}
use Rattle.plain_digraph.specs.Digraph.{Digraph}
use Rattle.plain_digraph.specs.Items.{ids, fact_of, used_of, rising}
use Rattle.plain_digraph.specs.Steps.{place}
use Rattle.plain_digraph.specs.PlainSteps.{PlainStep, PlaceBack, EraseArc, EraseNode, after_step}
use Rattle.plain_digraph.specs.PlainSteps.{after_steps}
use Rattle.plain_digraph.specs.Copies.{copy_of, ids_in, added, is_placed_as, is_moved, moved}
use Rattle.plain_digraph.specs.Alterations.{places_back, arcs_out, nodes_out, restoring, all_steps}
use Rattle.plain_digraph.specs.Valid.{IsValid}
use Rattle.plain_digraph.specs.RestoreLaws.{Keeps, RestoredIsCopied, after_part}
use Rattle.plain_digraph.proofs.Tallies.{one_if}
use Rattle.plain_digraph.proofs.Counts.{some-has, copies-range}
use Rattle.plain_digraph.proofs.Filters.{filter_has}
use Rattle.plain_digraph.proofs.Rows.{fact_of-id}
use Rattle.plain_digraph.proofs.Live.{fact_of-has, live_ids, live_listed, listed_live, listed_below}
use Rattle.plain_digraph.proofs.Facts.{named_ids}
use Rattle.plain_digraph.proofs.Changes.{filter_keeps}
use Rattle.plain_digraph.proofs.StepTold.{placed_tells, erased_arc_tells, erased_node_tells}
use Rattle.plain_digraph.proofs.SameLists.{as_keys, same_told_same_lists}
use Rattle.plain_digraph.proofs.Unrolled.{steps_lead_on}

-- ---- arcs that are placed back

module _ (copied : Digraph) (is_back : Fact → Bool) where
  abbrev told : ℕ → Option Fact
  told id = fact_of copied sorts.Arc id

  abbrev all_back : List ℕ → List PlainStep
  all_back xs = map PlaceBack (filter is_back (filter_map told xs))

  -- the arc is as it was copied
  abbrev IsBack : Digraph → ℕ → Type 0
  IsBack g id = fact_of g sorts.Arc id ≡ told id

  -- one of them
  back_itself : (g : Digraph) (x : ℕ) (fact : Fact) → told x ≡ Some fact → IsBack (place g fact) x
  back_itself g x fact e =
      let own = fact_of-id copied sorts.Arc x fact e in
      (placed_tells g fact).arcs x
      ∙ ap (λ b. cond b (Some fact) (fact_of g sorts.Arc x)) (eq-eqb x fact.id (sym own))
      ∙ sym e

  back_other : (g : Digraph) (x id : ℕ) (fact : Fact) → told x ≡ Some fact → (x ≡ id → ⊥)
      → fact_of (place g fact) sorts.Arc id ≡ fact_of g sorts.Arc id
  back_other g x id fact e other =
      let own = fact_of-id copied sorts.Arc x fact e in
      (placed_tells g fact).arcs id
      ∙ ap (λ b. cond b (Some fact) (fact_of g sorts.Arc id))
      (ne_eqb id fact.id (λ h. other (sym own ∙ sym h)))

  -- an arc that is back stays so
  back_stays : (xs : List ℕ) (g : Digraph) (id : ℕ) → IsBack g id
      → IsBack (after_steps g (all_back xs)) id
  back_stays [] g id back = back
  back_stays (x ∷ xs) g id back =
      elim (told x) as (λ o. told x ≡ o
      → IsBack (after_steps g
      (map PlaceBack (filter is_back (cons_option o (filter_map told xs))))) id) [
        | None ↦ λ e. back_stays xs g id back
        | Some fact ↦ λ e.
            elim (is_back fact) as (λ b.
            IsBack (after_steps g
            (map PlaceBack
            (cond b (fact ∷ filter is_back (filter_map told xs))
            (filter is_back (filter_map told xs))))) id) [
              | true ↦ back_stays xs (place g fact) id (elim (cases_eq x id) [
                | inl same ↦ ap (fact_of (place g fact) sorts.Arc) (sym same) ∙ back_itself g x fact e
                    ∙ ap told same
                | inr other ↦ back_other g x id fact e other ∙ back
              ])
              | false ↦ back_stays xs g id back
            ]
      ] refl

  -- an arc of the list is back in the end
  back_if_listed : (xs : List ℕ) (g : Digraph) (id : ℕ) (fact : Fact) → has xs id ≡ true
      → told id ≡ Some fact → is_back fact ≡ true
      → IsBack (after_steps g (all_back xs)) id
  back_if_listed [] g id fact at e back = absurd (true≢false (sym at))
  back_if_listed (x ∷ xs) g id fact at e back = elim (cases_eq x id) [
    | inl same ↦
        let rest : List Fact = filter is_back (filter_map told xs) in
        subst (λ o. IsBack
        (after_steps g (map PlaceBack (filter is_back (cons_option o (filter_map told xs)))))
        id)
        (sym (ap told same ∙ e))
        (subst (λ b. IsBack (after_steps g (map PlaceBack (cond b (fact ∷ rest) rest))) id)
        (sym back)
        (back_stays xs (place g fact) id (back_itself g id fact e)))
    | inr other ↦
        let later : has xs id ≡ true = sym (ap (λ b. b || has xs id) (ne_eqb x id other)) ∙ at in
        elim (told x) as (λ o.
        IsBack (after_steps g
        (map PlaceBack (filter is_back (cons_option o (filter_map told xs))))) id) [
          | None ↦ back_if_listed xs g id fact later e back
          | Some first ↦
              elim (is_back first) as (λ b.
              IsBack (after_steps g
              (map PlaceBack
              (cond b (first ∷ filter is_back (filter_map told xs))
              (filter is_back (filter_map told xs))))) id) [
                | true ↦ back_if_listed xs (place g first) id fact later e back
                | false ↦ back_if_listed xs g id fact later e back
              ]
        ]
  ]

  -- an arc that wasn't copied stays as it is
  others_stay : (xs : List ℕ) (g : Digraph) (id : ℕ) → told id ≡ None
      → fact_of (after_steps g (all_back xs)) sorts.Arc id ≡ fact_of g sorts.Arc id
  others_stay [] g id none = refl
  others_stay (x ∷ xs) g id none =
      elim (told x) as (λ o. told x ≡ o
      → fact_of (after_steps g
      (map PlaceBack (filter is_back (cons_option o (filter_map told xs))))) sorts.Arc id
      ≡ fact_of g sorts.Arc id) [
        | None ↦ λ e. others_stay xs g id none
        | Some fact ↦ λ e.
            elim (is_back fact) as (λ b.
            fact_of (after_steps g
            (map PlaceBack
            (cond b (fact ∷ filter is_back (filter_map told xs))
            (filter is_back (filter_map told xs))))) sorts.Arc id ≡ fact_of g sorts.Arc id) [
              | true ↦ others_stay xs (place g fact) id none
                  ∙ back_other g x id fact e (λ same. none-some fact (sym (ap told same ∙ none) ∙ e))
              | false ↦ others_stay xs g id none
            ]
      ] refl

-- placing back changes no node
nodes_stay : (facts : List Fact) (g : Digraph) (id : ℕ)
    → fact_of (after_steps g (map PlaceBack facts)) sorts.Node id ≡ fact_of g sorts.Node id
nodes_stay [] g id = refl
nodes_stay (fact ∷ facts) g id = nodes_stay facts (place g fact) id

-- ---- items that are erased one after the other

abbrev no_fact : Option Fact
no_fact = None

gone_still : (b : Bool) → cond b no_fact no_fact ≡ no_fact
gone_still true = refl
gone_still false = refl

-- an id that is taken out, and then others
out_of_both : (later : Bool) (x id : ℕ) (o : Option Fact)
    → cond later None (cond (id == x) None o) ≡ cond ((x == id) || later) None o
out_of_both later x id o = elim (cases_eq x id) [
  | inl same ↦
      ap (λ b. cond later None (cond b None o)) (eq-eqb id x (sym same)) ∙ gone_still later
      ∙ ap (λ b. cond (b || later) None o) (sym (eq-eqb x id same))
  | inr other ↦
      ap (λ b. cond later None (cond b None o)) (ne_eqb id x (λ e. other (sym e)))
      ∙ ap (λ b. cond (b || later) None o) (sym (ne_eqb x id other))
]

-- nothing is told of them, and of the others what was told before
pub arcs_erased : (xs : List ℕ) (g : Digraph) (id : ℕ)
    → fact_of (after_steps g (map EraseArc xs)) sorts.Arc id
    ≡ cond (has xs id) None (fact_of g sorts.Arc id)
arcs_erased [] g id = refl
arcs_erased (x ∷ xs) g id =
    arcs_erased xs (after_step g (EraseArc x)) id
    ∙ ap (cond (has xs id) None) (erased_arc_tells g x id).0
    ∙ out_of_both (has xs id) x id (fact_of g sorts.Arc id)

nodes_erased : (xs : List ℕ) (g : Digraph) (id : ℕ)
    → fact_of (after_steps g (map EraseNode xs)) sorts.Node id
    ≡ cond (has xs id) None (fact_of g sorts.Node id)
nodes_erased [] g id = refl
nodes_erased (x ∷ xs) g id =
    nodes_erased xs (after_step g (EraseNode x)) id
    ∙ ap (cond (has xs id) None) (erased_node_tells g x id).0
    ∙ out_of_both (has xs id) x id (fact_of g sorts.Node id)

-- the other sort stays
nodes_left : (xs : List ℕ) (g : Digraph) (id : ℕ)
    → fact_of (after_steps g (map EraseArc xs)) sorts.Node id ≡ fact_of g sorts.Node id
nodes_left [] g id = refl
nodes_left (x ∷ xs) g id = nodes_left xs (after_step g (EraseArc x)) id

arcs_left : (xs : List ℕ) (g : Digraph) (id : ℕ)
    → fact_of (after_steps g (map EraseNode xs)) sorts.Arc id ≡ fact_of g sorts.Arc id
arcs_left [] g id = refl
arcs_left (x ∷ xs) g id = arcs_left xs (after_step g (EraseNode x)) id

-- ---- the items outside the copy

-- the copy has the items that are told of
pub in_copy : (c : Digraph) (sort : ItemSort) (id : ℕ) → IsValid c
    → has (ids_in (copy_of c) sort) id ≡ is_some (fact_of c sort id)
in_copy c sorts.Node id valid = sym (fact_of-has c sorts.Node id valid)
in_copy c sorts.Arc id valid = as_keys c valid (ids c.by_source) id valid.sources_whole
    ∙ sym (fact_of-has c sorts.Arc id valid)

in_range : (n id : ℕ) → id < n → has (range_with_len 0 n) id ≡ true
in_range n id below =
    let once = copies-range n id ∙ ap one_if (lt-ltb id n below) in
    some-has (range_with_len 0 n) id (omega (arith, once))

-- a told item is among the live ones by rising id
rising_has : (g : Digraph) (sort : ItemSort) (id : ℕ) → IsValid g
    → is_some (fact_of g sort id) ≡ true → has (rising g sort) id ≡ true
rising_has g sort id valid some =
    let below = listed_below g sort id valid (sym (fact_of-has g sort id valid) ∙ some) in
    ap (λ l. has l id)
    (named_ids (fact_of g sort) (fact_of-id g sort) (range_with_len 0 (used_of g sort)))
    ∙ filter_keeps (λ x. is_some (fact_of g sort x)) (range_with_len 0 (used_of g sort)) id
    (in_range (used_of g sort) id below) some

-- once the added items are out, of each id is told what was copied
pub copied_again : (c g : Digraph) (sort : ItemSort) (id : ℕ) → IsValid c → IsValid g
    → ((fact : Fact) → fact_of c sort id ≡ Some fact → fact_of g sort id ≡ Some fact)
    → cond (has (added (copy_of c) g sort) id) None (fact_of g sort id) ≡ fact_of c sort id
copied_again c g sort id valid_c valid_g back =
    let out : ℕ → Bool = λ x. not (has (ids_in (copy_of c) sort) x) in
    elim (fact_of c sort id) as (λ o. fact_of c sort id ≡ o
    → cond (has (added (copy_of c) g sort) id) None (fact_of g sort id) ≡ o) [
      | Some fact ↦ λ e.
          let copied : has (ids_in (copy_of c) sort) id ≡ true = in_copy c sort id valid_c
          ∙ ap is_some e in
          let stays : has (added (copy_of c) g sort) id ≡ false =
          elim (cases_Bool (has (added (copy_of c) g sort) id)) [
            | inl at ↦ absurd
                (true≢false (sym (filter_has out (rising g sort) id at).1 ∙ ap not copied))
            | inr lacks ↦ lacks
          ] in
          ap (λ b. cond b None (fact_of g sort id)) stays ∙ back fact e
      | None ↦ λ e.
          elim (fact_of g sort id) as (λ o. fact_of g sort id ≡ o
          → cond (has (added (copy_of c) g sort) id) None o ≡ None) [
            | None ↦ λ none. gone_still (has (added (copy_of c) g sort) id)
            | Some fact ↦ λ some.
                let goes = filter_keeps out (rising g sort) id
                (rising_has g sort id valid_g (ap is_some some))
                (ap not (in_copy c sort id valid_c ∙ ap is_some e)) in
                ap (λ b. cond b None (Some fact)) goes
          ] refl
    ] refl

-- ---- an arc that hasn't moved is as it was copied

not_false : (b : Bool) → not b ≡ false → b ≡ true
not_false true e = refl
not_false false e = absurd (true≢false e)

same_fact : (now fact : Fact) → now.id ≡ fact.id → is_placed_as now fact ≡ true → now ≡ fact
same_fact now fact id placed =
    let a = and_parts (now.from == fact.from && now.to == fact.to && now.from_at == fact.from_at)
    (now.to_at == fact.to_at) placed in
    let b = and_parts (now.from == fact.from && now.to == fact.to) (now.from_at == fact.from_at)
    a.0 in
    let d = and_parts (now.from == fact.from) (now.to == fact.to) b.0 in
    let from = eqb-true now.from fact.from d.0 in
    let to = eqb-true now.to fact.to d.1 in
    let from_at = eqb-true now.from_at fact.from_at b.1 in
    let to_at = eqb-true now.to_at fact.to_at a.1 in
    λ i. record { id = id i; from = from i; to = to i; from_at = from_at i; to_at = to_at i }

unmoved_is : (o : Option Fact) (fact : Fact) → is_some o ≡ true
    → ((now : Fact) → o ≡ Some now → now.id ≡ fact.id)
    → option_map_or (λ now. not (is_placed_as now fact)) o false ≡ false → o ≡ Some fact
unmoved_is None fact live own still = absurd (true≢false (sym live))
unmoved_is (Some now) fact live own still =
    ap Some (same_fact now fact (own now refl) (not_false (is_placed_as now fact) still))

-- ---- the whole

module _ (c g : Digraph) (valid_c : IsValid c) (valid_g : IsValid g) (keeps : Keeps c g) where
  abbrev pub placed_g : Digraph
  placed_g = after_part (places_back (copy_of c)) g

  pub arcs_placed : (id : ℕ) (fact : Fact) → fact_of c sorts.Arc id ≡ Some fact
      → fact_of placed_g sorts.Arc id ≡ Some fact
  arcs_placed id fact e =
      let own : fact.id ≡ id = fact_of-id c sorts.Arc id fact e in
      let live : has (live_ids g sorts.Arc) id ≡ true =
      live_listed g sorts.Arc id
      (keeps.arcs id
      (listed_live c sorts.Arc id (sym (fact_of-has c sorts.Arc id valid_c) ∙ ap is_some e))) in
      let range = range_with_len 0 g.used_arcs in
      elim (cases_Bool (is_moved g fact)) [
        | inl back ↦
            back_if_listed c (is_moved g) range g id fact
            (in_range g.used_arcs id (listed_below g sorts.Arc id valid_g live)) e back
        | inr still ↦
            let is = unmoved_is (fact_of g sorts.Arc id) fact
            (fact_of-has g sorts.Arc id valid_g ∙ live)
            (λ now h. fact_of-id g sorts.Arc id now h ∙ sym own)
            (ap (λ x. option_map_or (λ now. not (is_placed_as now fact)) (fact_of g sorts.Arc x)
            false) (sym own) ∙ still) in
            back_stays c (is_moved g) range g id (is ∙ sym e)
      ] ∙ e

  abbrev arcs_gone_g : Digraph
  arcs_gone_g = after_part (arcs_out (copy_of c)) placed_g

  abbrev restored_g : Digraph
  restored_g = after_part (nodes_out (copy_of c)) arcs_gone_g

  is_restored : after_steps g (all_steps g (restoring (copy_of c))) ≡ restored_g
  is_restored =
      let places = places_back (copy_of c) g in
      let arcs = arcs_out (copy_of c) placed_g in
      let nodes = nodes_out (copy_of c) arcs_gone_g in
      steps_lead_on g places (arcs ++ (nodes ++ [])) ∙ steps_lead_on placed_g arcs (nodes ++ [])
      ∙ steps_lead_on arcs_gone_g nodes []

  node_kept : (id : ℕ) (fact : Fact) → fact_of c sorts.Node id ≡ Some fact
      → fact_of arcs_gone_g sorts.Node id ≡ Some fact
  node_kept id fact e =
      nodes_left (added (copy_of c) placed_g sorts.Arc) placed_g id
      ∙ nodes_stay (moved (copy_of c) g) g id
      ∙ keeps.nodes id
      (listed_live c sorts.Node id (sym (fact_of-has c sorts.Node id valid_c) ∙ ap is_some e)) ∙ e

  told_again : IsValid placed_g → IsValid arcs_gone_g → (sort : ItemSort) (id : ℕ)
      → fact_of restored_g sort id ≡ fact_of c sort id
  told_again valid_1 valid_2 sorts.Arc id =
      arcs_left (added (copy_of c) arcs_gone_g sorts.Node) arcs_gone_g id
      ∙ arcs_erased (added (copy_of c) placed_g sorts.Arc) placed_g id
      ∙ copied_again c placed_g sorts.Arc id valid_c valid_1 (arcs_placed id)
  told_again valid_1 valid_2 sorts.Node id =
      nodes_erased (added (copy_of c) arcs_gone_g sorts.Node) arcs_gone_g id
      ∙ copied_again c arcs_gone_g sorts.Node id valid_c valid_2 (node_kept id)

pub restored_is_copied : RestoredIsCopied
restored_is_copied c g valid_c valid_g keeps stays =
    subst (λ h. IsValid h → copy_of h ≡ copy_of c) (sym (is_restored c g valid_c valid_g keeps))
    (λ valid_h. same_told_same_lists c (restored_g c g valid_c valid_g keeps) valid_c valid_h
    (told_again c g valid_c valid_g keeps stays.placed stays.arcs_gone))
    stays.restored
