-- The arcs that are listed at a node after a step.
use Rattle.std.proofs.Common.{◌≡◌, ℕ, ◌+◌, ◌<◌, ◌≤◌, Bool, true, false, cond, ltb, List, [], ◌∷◌}
use Rattle.std.proofs.Common.{◌++◌, filter, Some, None, Option, is_some, inl, inr, refl, sym, ap}
use Rattle.std.proofs.Common.{subst, ◌∙◌, arith}
use Rattle.std.specs.Prelude.{◌==◌, not, IsSome}
use Rattle.std.specs.Option.{option_map_or}
use Rattle.std.specs.FinMap as fin
use Rattle.std.proofs.lemmas.Bool.{eq-eqb, ne_eqb, eqb-true, cases_eq, cases_lt, lt-ltb, le-ltb}
use Rattle.std.proofs.lemmas.Bool.{or_cases, or_left, or_right, true≢false}
use Rattle.plain_digraph.specs.Lists.{has, first, without}
use Rattle.plain_digraph.specs.Digraph.{Digraph, Place, Ends}
use Rattle.plain_digraph.specs.Items.{ids, stamp_of, source_of, target_of}
use Rattle.plain_digraph.specs.Steps.{unplaced, placed, in_front, by_stamp}
use Rattle.plain_digraph.proofs.Keys.{get_new, get_other}
use Rattle.plain_digraph.proofs.Additions.{arcs_at}
use Rattle.plain_digraph.specs.Valid.{FallBelow}
use Rattle.plain_digraph.specs.UndoLaws.{MovesTo}
use Rattle.plain_digraph.proofs.Tallies.{one_if, copies, has-some}
use Rattle.plain_digraph.proofs.Filters.{filter_has}
use Rattle.plain_digraph.proofs.Rows.{stamp_new, stamp_other, stamp_of-has}
use Rattle.plain_digraph.proofs.Places.{ids-unplaced}
use Rattle.plain_digraph.proofs.Changes.{get_left}

-- a filter by a test that differs at one id alone, of the list without that id
filter_less : (p q : ℕ → Bool) (id : ℕ) → ((x : ℕ) → (x ≡ id → ⊥) → q x ≡ p x) → (xs : List ℕ)
    → filter q (without xs id) ≡ without (filter p xs) id
filter_less p q id alike [] = refl
filter_less p q id alike (x ∷ xs) =
    let rest = filter_less p q id alike xs in
    let less : List ℕ = without xs id in
    let kept : List ℕ = filter p xs in
    elim (cases_eq x id) [
      | inl same ↦
          let gone : without (x ∷ kept) id ≡ without kept id =
          ap (λ b. cond (not b) (x ∷ without kept id) (without kept id)) (eq-eqb x id same) in
          let both : without (cond (p x) (x ∷ kept) kept) id ≡ without kept id =
          elim (p x) as (λ b. without (cond b (x ∷ kept) kept) id ≡ without kept id)
          [ true ↦ gone | false ↦ refl ] in
          ap (λ b. filter q (cond (not b) (x ∷ less) less)) (eq-eqb x id same) ∙ rest ∙ sym both
      | inr other ↦
          let stays : without (x ∷ kept) id ≡ x ∷ without kept id =
          ap (λ b. cond (not b) (x ∷ without kept id) (without kept id)) (ne_eqb x id other) in
          let both : (b : Bool)
          → cond b (x ∷ without kept id) (without kept id)
          ≡ without (cond b (x ∷ kept) kept) id =
          λ b. elim b as (λ b. cond b (x ∷ without kept id) (without kept id)
          ≡ without (cond b (x ∷ kept) kept) id) [ true ↦ sym stays | false ↦ refl ] in
          ap (λ b. filter q (cond (not b) (x ∷ less) less)) (ne_eqb x id other)
          ∙ ap (λ b. cond b (x ∷ filter q less) (filter q less)) (alike x other)
          ∙ ap (λ l. cond (p x) (x ∷ l) l) rest ∙ both (p x)
    ]

pub filter_alike : (p q : ℕ → Bool) → ((x : ℕ) → p x ≡ q x) → (xs : List ℕ)
    → filter p xs ≡ filter q xs
filter_alike p q alike [] = refl
filter_alike p q alike (x ∷ xs) = λ i.
    cond (alike x i) (x ∷ filter_alike p q alike xs i) (filter_alike p q alike xs i)

module _ (end : ℕ × ℕ → ℕ) (ends : Ends) (arc : ℕ) (node : ℕ) where
  abbrev tested : Option (ℕ × ℕ) → Bool
  tested o = option_map_or (λ p. end p == node) o false

  -- where the arc is erased
  pub at_erased : (places : List Place)
      → arcs_at end (fin.remove ends arc) node (ids (unplaced places arc))
      ≡ without (arcs_at end ends node (ids places)) arc
  at_erased places =
      ap (arcs_at end (fin.remove ends arc) node) (ids-unplaced places arc)
      ∙ filter_less (λ a. tested (fin.get ends a)) (λ a. tested (fin.get (fin.remove ends arc) a))
      arc
      (λ x other. ap tested (get_left ends arc x other)) (ids places)

  -- where the arc has other ends, of the others
  pub at_others : (e : ℕ × ℕ) (places : List Place)
      → arcs_at end (fin.insert ends arc e) node (ids (unplaced places arc))
      ≡ without (arcs_at end ends node (ids places)) arc
  at_others e places =
      ap (arcs_at end (fin.insert ends arc e) node) (ids-unplaced places arc)
      ∙ filter_less (λ a. tested (fin.get ends a)) (λ a. tested (fin.get (fin.insert ends arc e) a))
      arc
      (λ x other. ap tested (get_other ends arc e x other)) (ids places)

  -- where the arc has other ends and stands in front
  pub at_front : (e : ℕ × ℕ) (places : List Place) (at : ℕ)
      → arcs_at end (fin.insert ends arc e) node (ids (in_front places arc at))
      ≡ cond (end e == node) (arc ∷ without (arcs_at end ends node (ids places)) arc)
      (without (arcs_at end ends node (ids places)) arc)
  at_front e places at =
      let less : List ℕ = arcs_at end (fin.insert ends arc e) node (ids (unplaced places arc)) in
      ap (λ o. cond (tested o) (arc ∷ less) less) (get_new ends arc e)
      ∙ ap (λ l. cond (end e == node) (arc ∷ l) l) (at_others e places)

  kept : (e : ℕ × ℕ) (o : Option (ℕ × ℕ)) → IsSome o → end e ≡ option_map_or end o 0
      → (end e == node) ≡ tested o
  kept e None live same = absurd (true≢false (sym live))
  kept e (Some p) live same = ap (λ n. n == node) same

  -- where the arc keeps this end
  pub at_kept : (e : ℕ × ℕ) (xs : List ℕ) → IsSome (fin.get ends arc)
      → end e ≡ option_map_or end (fin.get ends arc) 0
      → arcs_at end (fin.insert ends arc e) node xs ≡ arcs_at end ends node xs
  at_kept e xs live same = filter_alike _ _ (λ x. elim (cases_eq x arc) [
    | inl is ↦
        ap (λ y. tested (fin.get (fin.insert ends arc e) y)) is ∙ ap tested (get_new ends arc e)
        ∙ kept e (fin.get ends arc) live same ∙ ap (λ y. tested (fin.get ends y)) (sym is)
    | inr other ↦ ap tested (get_other ends arc e x other)
  ]) xs

-- ---- an arc at the place of its stamp

-- each place has the stamp that is told of its id
abbrev pub ToldBy : (ℕ → ℕ) → List Place → Type 0
ToldBy stamp [] = Unit {0}
ToldBy stamp (p ∷ places) = (p.1 ≡ stamp p.0) × ToldBy stamp places

pub told_by : (stamp : ℕ → ℕ) (places : List Place) → ((id : ℕ) → copies (ids places) id ≤ 1)
    → ((id at : ℕ) → stamp_of places id ≡ Some at → at ≡ stamp id) → ToldBy stamp places
told_by stamp [] few told = tt
told_by stamp (p ∷ places) few told = (
  told p.0 p.1 (stamp_new places p.0 p.1),
  told_by stamp places (λ id. let h = few id in omega (arith, h))
      (λ id at e. elim (cases_eq id p.0) [
        | inl same ↦
            let some : has (ids places) p.0 ≡ true = sym (stamp_of-has places p.0)
            ∙ ap is_some (ap (stamp_of places) (sym same) ∙ e) in
            absurd (omega
            (arith, few p.0, has-some (ids places) p.0 some, ap one_if (eq-eqb p.0 p.0 refl)))
        | inr other ↦ told id at (stamp_other places p.0 id p.1 other ∙ e)
      ]),
)

pub told-unplaced : (stamp : ℕ → ℕ) (places : List Place) (id : ℕ) → ToldBy stamp places
    → ToldBy stamp (unplaced places id)
told-unplaced stamp [] id told = tt
told-unplaced stamp (p ∷ places) id told =
    let rest = told-unplaced stamp places id told.1 in
    elim (p.0 == id) as (λ b.
    ToldBy stamp (cond (not b) (p ∷ unplaced places id) (unplaced places id))) [
      | true ↦ rest
      | false ↦ (told.0, rest)
    ]

-- the stamps of listed ids are below the bound
told_below : (stamp : ℕ → ℕ) (bound : ℕ) (places : List Place) (id : ℕ) → FallBelow bound places
    → ToldBy stamp places → has (ids places) id ≡ true
    → stamp id < bound
told_below stamp bound [] id fall told at = absurd (true≢false (sym at))
told_below stamp bound (p ∷ places) id fall told at =
    let head = fall.0 in
    elim (or_cases (p.0 == id) (has (ids places) id) at) [
      | inl here ↦ let is = ap stamp (eqb-true p.0 id here) in omega (arith, is, head, told.0)
      | inr later ↦ let below =
          told_below stamp p.1 places id fall.1 told.1 later in omega (arith, below, head)
    ]

pub no_front : (front : List ℕ) → ((x : ℕ) → has front x ≡ true → ⊥) → front ≡ []
no_front [] lacks = refl
no_front (x ∷ front) lacks = absurd (lacks x (or_left (x == x) (has front x) (eq-eqb x x refl)))

has_in_front : (front back : List ℕ) (x : ℕ) → has front x ≡ true → has (front ++ back) x ≡ true
has_in_front [] back x at = absurd (true≢false (sym at))
has_in_front (y ∷ front) back x at = elim (or_cases (y == x) (has front x) at) [
  | inl here ↦ or_left (y == x) (has (front ++ back) x) here
  | inr later ↦ or_right (y == x) (has (front ++ back) x) (has_in_front front back x later)
]

same_head : (x y : ℕ) (xs ys : List ℕ) → x ∷ xs ≡ y ∷ ys → (x ≡ y) × (xs ≡ ys)
same_head x y xs ys e = (cc, cc)

-- a place that comes first is that of the first id, and the rest goes on
goes_on : (stamp : ℕ → ℕ) (at id x : ℕ) (kept later front back : List ℕ) → at ≤ stamp x
    → ((y : ℕ) → first back ≡ Some y → stamp y < at)
    → x ∷ kept ≡ front ++ back → ((y : ℕ) → has front y ≡ true → at ≤ stamp y)
    → ((front : List ℕ) → kept ≡ front ++ back → ((y : ℕ) → has front y ≡ true → at ≤ stamp y)
    → later ≡ front ++ id ∷ back)
    → x ∷ later ≡ front ++ id ∷ back
goes_on stamp at id x kept later [] back higher older e newer go =
    let below = older x (ap first (sym e)) in absurd (omega (arith, below, higher))
goes_on stamp at id x kept later (y ∷ front) back higher older e newer go =
    let parts = same_head x y kept (front ++ back) e in
    ap (λ z. z ∷ later) parts.0
    ∙ ap (λ l. y ∷ l) (go front parts.1 (λ z h. newer z (or_right (y == z) (has front z) h)))

module _ (stamp : ℕ → ℕ) (q : ℕ → Bool) (id at : ℕ) where
  pub at_placed : (bound : ℕ) (places : List Place) (front back : List ℕ) → FallBelow bound places
      → ToldBy stamp places → q id ≡ true
      → filter q (ids places) ≡ front ++ back
      → ((x : ℕ) → has front x ≡ true → at ≤ stamp x)
      → ((x : ℕ) → first back ≡ Some x → stamp x < at)
      → filter q (ids (placed places id at)) ≡ front ++ id ∷ back
  at_placed bound [] [] back fall told passes is newer older = ap (λ b. cond b (id ∷ []) []) passes
      ∙ ap (λ l. id ∷ l) is
  at_placed bound [] (x ∷ front) back fall told passes is newer older = absurd (cc)
  at_placed bound (p ∷ places) front back fall told passes is newer older =
      let kept : List ℕ = filter q (ids (p ∷ places)) in
      let later : List ℕ = filter q (ids (placed places id at)) in
      elim (cases_lt p.1 at) [
        | inl lower ↦
            let nothing : front ≡ [] = no_front front (λ x has_x.
            let listed =
            (filter_has q (ids (p ∷ places)) x
            (ap (λ l. has l x) is ∙ has_in_front front back x has_x)).0 in
            let below = told_below stamp (p.1 + 1) (p ∷ places) x (omega arith, fall.1) told
            listed in
            let above = newer x has_x in
            omega (arith, below, above, lower)) in
            ap (λ b. filter q (ids (cond b ((id, at) ∷ p ∷ places) (p ∷ placed places id at))))
            (lt-ltb p.1 at lower)
            ∙ ap (λ b. cond b (id ∷ kept) kept) passes
            ∙ ap (λ l. id ∷ l) (is ∙ ap (λ f. f ++ back) nothing)
            ∙ ap (λ f. f ++ id ∷ back) (sym nothing)
        | inr higher ↦
            ap (λ b. filter q (ids (cond b ((id, at) ∷ p ∷ places) (p ∷ placed places id at))))
            (le-ltb p.1 at higher)
            ∙ elim (q p.0) as (λ b. cond b (p.0 ∷ filter q (ids places)) (filter q (ids places))
            ≡ front ++ back → cond b (p.0 ∷ later) later ≡ front ++ id ∷ back) [
              | true ↦ λ e.
                  goes_on stamp at id p.0 (filter q (ids places)) later front back
                  (omega (arith, higher, told.0)) older e newer
                  (λ f is_f newer_f.
                  at_placed p.1 places f back fall.1 told.1 passes is_f newer_f older)
              | false ↦ λ e. at_placed p.1 places front back fall.1 told.1 passes e newer older
            ] is
      ]

  -- an id that fails the test
  pub at_placed_none : (places : List Place) → q id ≡ false
      → filter q (ids (placed places id at)) ≡ filter q (ids places)
  at_placed_none [] fails = ap (λ b. cond b (id ∷ []) []) fails
  at_placed_none (p ∷ places) fails =
      let rest = at_placed_none places fails in
      elim (ltb p.1 at) as (λ b.
      filter q (ids (cond b ((id, at) ∷ p ∷ places) (p ∷ placed places id at)))
      ≡ filter q (ids (p ∷ places))) [
        | true ↦ ap (λ b. cond b (id ∷ filter q (ids (p ∷ places))) (filter q (ids (p ∷ places))))
            fails
        | false ↦ ap (λ l. cond (q p.0) (p.0 ∷ l) l) rest
      ]

module _ (end : ℕ × ℕ → ℕ) (ends : Ends) (arc : ℕ) where
  -- where the arc has other ends and stands at the place of its stamp
  pub at_by_stamp : (stamp : ℕ → ℕ) (e : ℕ
      × ℕ) (places : List Place) (bound at : ℕ) (front back : List ℕ) (node : ℕ)
      → FallBelow bound (unplaced places arc) → ToldBy stamp (unplaced places arc)
      → without (arcs_at end ends (end e) (ids places)) arc ≡ front ++ back
      → ((x : ℕ) → has front x ≡ true → at ≤ stamp x)
      → ((x : ℕ) → first back ≡ Some x → stamp x < at)
      → arcs_at end (fin.insert ends arc e) node (ids (by_stamp places arc at))
      ≡ cond (end e == node) (front ++ arc ∷ back)
      (without (arcs_at end ends node (ids places)) arc)
  at_by_stamp stamp e places bound at front back node fall told split newer older =
      let test : ℕ → ℕ → Bool = λ v a.
      option_map_or (λ p. end p == v) (fin.get (fin.insert ends arc e) a) false in
      let own : test node arc ≡ (end e == node) =
      ap (λ o. option_map_or (λ p. end p == node) o false) (get_new ends arc e) in
      elim (cases_eq (end e) node) [
        | inl same ↦
            let passes : test (end e) arc ≡ true =
            ap (λ o. option_map_or (λ p. end p == end e) o false) (get_new ends arc e)
            ∙ eq-eqb (end e) (end e) refl in
            let is = at_placed stamp (test (end e)) arc at bound (unplaced places arc) front back
            fall told passes
            (at_others end ends arc (end e) e places ∙ split) newer older in
            ap (λ v. arcs_at end (fin.insert ends arc e) v (ids (by_stamp places arc at)))
            (sym same) ∙ is
            ∙ sym (ap (λ b.
            cond b (front ++ arc ∷ back) (without (arcs_at end ends node (ids places)) arc))
            (eq-eqb (end e) node same))
        | inr other ↦
            at_placed_none stamp (test node) arc at (unplaced places arc)
            (own ∙ ne_eqb (end e) node other)
            ∙ at_others end ends arc node e places
            ∙ sym (ap (λ b.
            cond b (front ++ arc ∷ back) (without (arcs_at end ends node (ids places)) arc))
            (ne_eqb (end e) node other))
      ]

-- ---- what a move leaves: the arc has ends, and one stamp more was used

laid : (g : Digraph) (arc from to : ℕ) (ends : Ends) → fin.insert g.ends arc (from, to) ≡ ends
    → IsSome (fin.get ends arc)
laid g arc from to ends is = ap (λ (e : Ends). is_some (fin.get e arc)) (sym is)
    ∙ ap is_some (get_new g.ends arc (from, to))

pub moved_live : (g h : Digraph) (arc : ℕ) → MovesTo g arc h → IsSome (fin.get h.ends arc)
    × (h.stamps ≡ g.stamps + 1)
moved_live g h arc moves = elim moves [
  | inl by_source ↦ (
    laid g arc by_source.0 (target_of g arc) h.ends (ap (λ (d : Digraph). d.ends) by_source.1),
    sym (ap (λ (d : Digraph). d.stamps) by_source.1),
  )
  | inr others ↦ elim others [
    | inl by_target ↦ (
      laid g arc (source_of g arc) by_target.0 h.ends (ap (λ (d : Digraph). d.ends) by_target.1),
      sym (ap (λ (d : Digraph). d.stamps) by_target.1),
    )
    | inr more ↦ elim more [
      | inl turned ↦ (
        laid g arc (target_of g arc) (source_of g arc) h.ends
            (ap (λ (d : Digraph). d.ends) turned),
        sym (ap (λ (d : Digraph). d.stamps) turned),
      )
      | inr put ↦
          let f = put.0 in (
            subst (λ a. IsSome (fin.get h.ends a)) put.1
                (laid g f.id f.from f.to h.ends (ap (λ (d : Digraph). d.ends) put.2)),
            sym (ap (λ (d : Digraph). d.stamps) put.2),
          )
    ]
  ]
]
