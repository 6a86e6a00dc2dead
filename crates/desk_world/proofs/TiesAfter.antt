-- What becomes of ties, and of the attributes that have them, at a change of the items.
use Rattle.std.proofs.Common.{◌≡◌, ℕ, ◌+◌, true, false, cond, List, [], ◌∷◌, Option, Some, None}
use Rattle.std.proofs.Common.{refl, sym, ap, ◌∙◌, subst, inl, inr, arith}
use Rattle.std.specs.Prelude.{IsTrue, ◌==◌, ◌-◌, nat_le, Bool, find, option_map, option_and_then}
use Rattle.std.proofs.lemmas.Bool.{cases_eq, eq-eqb, ne_eqb}
use Rattle.std.proofs.lemmas.Grind.{common_steps}
use Rattle.base_items.specs.declared.items.ItemSort.{ItemSort}
use Rattle.plain_digraph.specs.Facts.{fact_id}
use Rattle.plain_digraph.specs.Lists.{AllOf}
use Rattle.plain_digraph.specs.Rising.{without_item}
use Rattle.plain_digraph.specs.PlainSteps.{Change, Untouched, Added, Moved, Erased, Cleared}
use Rattle.observe_core.specs.declared.changes.Change.TheVariants.{Add, Shift, Build}
use Rattle.observe_core.specs.declared.losses.Loss.TheVariants.{Erase, Clear}
use Rattle.observe_core.specs.Held.{Held, Nothing, Values, Degree, Half, Kept, Ties, Tie, tie_id}
use Rattle.observe_core.specs.Held.{tied_id}
use Rattle.observe_core.specs.Items.{rises_from, Lacks, has_id, number_id}
use Rattle.observe_core.specs.Seen.{Seen}
use Rattle.observe_core.proofs.ItemLemmas.{and_left, and_right, rises_higher, rises-lacks}
use Rattle.alter_graph.specs.Steps.{Notice, Tells, Loses}
use Rattle.alter_graph.proofs.Saving.{held_noticed}
use Rattle.plain_world.specs.World as plain
use Rattle.plain_world.specs.Following.{attribute_after, tied_after}
use Rattle.desk_seats.specs.Contents.{ties_held}
use Rattle.desk_world.specs.declared.tables.AttributeRow.{AttributeRow}
use Rattle.desk_world.specs.declared.tables.AttributeRow.TheVariants as rows
use Rattle.desk_world.specs.Columns.{tied_item}
use Rattle.desk_world.specs.Derived.{ties_at}
use Rattle.desk_world.specs.Plain.{attribute_seen}
use Rattle.desk_world.proofs.Noticed.{change_by}

-- the ties that are left: an item that is gone has none
abbrev pub ties_after : Change → List Tie → List Tie
ties_after (Erased id) ties = without_item tied_id id ties
ties_after (Cleared count) ties = []
ties_after _ ties = ties

-- ---- at a notice

pub ties_noticed : (n : Notice) (count : ℕ) (h : Held)
    → ties_held (held_noticed n h) ≡ ties_after (change_by n count) (ties_held h)
ties_noticed (Tells (Add f)) count Nothing = refl
ties_noticed (Tells (Add f)) count (Values t es) = refl
ties_noticed (Tells (Add f)) count (Degree out ends) = refl
ties_noticed (Tells (Add f)) count (Half added others kept valid) = refl
ties_noticed (Tells (Add f)) count (Kept role all items) = refl
ties_noticed (Tells (Add f)) count (Ties ties) = refl
ties_noticed (Tells (Shift old now)) count Nothing = refl
ties_noticed (Tells (Shift old now)) count (Values t es) = refl
ties_noticed (Tells (Shift old now)) count (Degree out ends) = refl
ties_noticed (Tells (Shift old now)) count (Half added others kept valid) = refl
ties_noticed (Tells (Shift old now)) count (Kept role all items) = refl
ties_noticed (Tells (Shift old now)) count (Ties ties) = refl
ties_noticed (Tells (Build all)) count h = refl
ties_noticed (Loses (Erase f)) count Nothing = refl
ties_noticed (Loses (Erase f)) count (Values t es) = refl
ties_noticed (Loses (Erase f)) count (Degree out ends) = refl
ties_noticed (Loses (Erase f)) count (Half added others kept valid) =
    elim (has_id number_id f.id added) as (λ b. ties_held (cond b
    (Half (without_item number_id f.id added) others (without_item fact_id f.id kept) valid)
    (Half added (others - 1) (without_item fact_id f.id kept) false)) ≡ []) [
      | true ↦ refl
      | false ↦ refl
    ]
ties_noticed (Loses (Erase f)) count (Kept role all items) = refl
ties_noticed (Loses (Erase f)) count (Ties ties) = refl
ties_noticed (Loses Clear) count Nothing = refl
ties_noticed (Loses Clear) count (Values t es) = refl
ties_noticed (Loses Clear) count (Degree out ends) = refl
ties_noticed (Loses Clear) count (Half added others kept valid) = refl
ties_noticed (Loses Clear) count (Kept role all items) = refl
ties_noticed (Loses Clear) count (Ties ties) = refl

-- ---- what stays so

rise_without : (id low : ℕ) (ties : List Tie) → IsTrue (rises_from tie_id low ties)
    → IsTrue (rises_from tie_id low (without_item tied_id id ties))
rise_without id low [] rise = rise
rise_without id low (t ∷ ts) rise =
    let more = rise_without id (t.tie + 1) ts
    (and_right (nat_le low t.tie) (rises_from tie_id (t.tie + 1) ts) rise) in
    let here = and_left (nat_le low t.tie) (rises_from tie_id (t.tie + 1) ts) rise in
    elim (t.item == id) as (λ b. IsTrue (rises_from tie_id low
    (cond b (without_item tied_id id ts) (t ∷ without_item tied_id id ts)))) [
      | true ↦
          rises_higher tie_id low (t.tie + 1) (without_item tied_id id ts) more
          (grind (arith, common_steps, here))
      | false ↦ grind (arith, common_steps, here, more)
    ]

-- the numbers of the ties rise
rise_after : (change : Change) (ties : List Tie) → IsTrue (rises_from tie_id 0 ties)
    → IsTrue (rises_from tie_id 0 (ties_after change ties))
rise_after Untouched ties rise = rise
rise_after (Added id) ties rise = rise
rise_after Moved ties rise = rise
rise_after (Erased id) ties rise = rise_without id 0 ties rise
rise_after (Cleared count) ties rise = refl

pub rise_noticed : (n : Notice) (h : Held) → IsTrue (rises_from tie_id 0 (ties_held h))
    → IsTrue (rises_from tie_id 0 (ties_held (held_noticed n h)))
rise_noticed n h rise =
    subst (λ ties. IsTrue (rises_from tie_id 0 ties)) (sym (ties_noticed n 0 h))
    (rise_after (change_by n 0) (ties_held h) rise)

module _ (P : Tie → Type 0) where
  all_without : (id : ℕ) (ties : List Tie) → AllOf P ties → AllOf P (without_item tied_id id ties)
  all_without id [] all = tt
  all_without id (t ∷ ts) all =
      let rest = all_without id ts all.1 in
      elim (t.item == id) as (λ b.
      AllOf P (cond b (without_item tied_id id ts) (t ∷ without_item tied_id id ts))) [
        | true ↦ rest
        | false ↦ (all.0, rest)
      ]

  -- what is so of all ties is so of those that are left
  pub all_after : (change : Change) (ties : List Tie) → AllOf P ties
      → AllOf P (ties_after change ties)
  all_after Untouched ties all = all
  all_after (Added id) ties all = all
  all_after Moved ties all = all
  all_after (Erased id) ties all = all_without id ties all
  all_after (Cleared count) ties all = tt

-- ---- the item of a tie

-- the item that has the tie of the number
abbrev item_among : ℕ → List Tie → Option ℕ
item_among number ties =
    option_map (λ (t : Tie). t.item) (find (λ (t : Tie). t.tie == number) ties)

-- the item, unless it is this one
abbrev unless : ℕ → Option ℕ → Option ℕ
unless gone item = option_and_then (λ id. cond (gone == id) None (Some id)) item

-- the item after the change, unless it is gone
abbrev item_after : Change → Option ℕ → Option ℕ
item_after (Erased other) item = unless other item
item_after (Cleared count) item = None
item_after _ item = item

none_among : (number : ℕ) (ties : List Tie) → Lacks tie_id number ties
    → item_among number ties ≡ None
none_among number [] lacks = refl
none_among number (t ∷ ts) lacks =
    ap (λ b. option_map (λ (u : Tie). u.item)
    (cond b (Some t) (find (λ (u : Tie). u.tie == number) ts))) (ne_eqb t.tie number lacks.0)
    ∙ none_among number ts lacks.1

item_without : (number id low : ℕ) (ties : List Tie) → IsTrue (rises_from tie_id low ties)
    → item_among number (without_item tied_id id ties) ≡ unless id (item_among number ties)
item_without number id low [] rise = refl
item_without number id low (t ∷ ts) rise =
    let more = and_right (nat_le low t.tie) (rises_from tie_id (t.tie + 1) ts) rise in
    let rest = item_without number id (t.tie + 1) ts more in
    elim (cases_eq t.item id) [
      | inl gone ↦
          ap (λ b. item_among number
          (cond b (without_item tied_id id ts) (t ∷ without_item tied_id id ts)))
          (eq-eqb t.item id gone)
          ∙ rest
          ∙ sym (elim (cases_eq t.tie number) [
            | inl here ↦
                ap (λ b. unless id (shown b)) (eq-eqb t.tie number here)
                ∙ ap (λ b. cond b None (Some t.item)) (eq-eqb id t.item (sym gone))
                ∙ sym (ap (unless id) (none_among number ts
                (subst (λ n. Lacks tie_id n ts) here
                (rises-lacks tie_id (t.tie + 1) t.tie ts more (omega arith)))))
            | inr other ↦ ap (λ b. unless id (shown b)) (ne_eqb t.tie number other)
          ])
      | inr stays ↦
          ap (λ b. item_among number
          (cond b (without_item tied_id id ts) (t ∷ without_item tied_id id ts)))
          (ne_eqb t.item id stays)
          ∙ elim (cases_eq t.tie number) [
            | inl here ↦
                ap kept (eq-eqb t.tie number here)
                ∙ sym (ap (λ b. unless id (shown b)) (eq-eqb t.tie number here)
                ∙ ap (λ b. cond b None (Some t.item)) (ne_eqb id t.item (λ e. stays (sym e))))
            | inr other ↦
                ap kept (ne_eqb t.tie number other)
                ∙ rest
                ∙ sym (ap (λ b. unless id (shown b)) (ne_eqb t.tie number other))
          ]
    ]
  where
    -- the item where this is whether the first tie is that of the number
    shown : Bool → Option ℕ
    shown b = option_map (λ (u : Tie). u.item)
        (cond b (Some t) (find (λ (u : Tie). u.tie == number) ts))

    kept : Bool → Option ℕ
    kept b = option_map (λ (u : Tie). u.item)
        (cond b (Some t) (find (λ (u : Tie). u.tie == number) (without_item tied_id id ts)))

among_after : (number : ℕ) (change : Change) (ties : List Tie)
    → IsTrue (rises_from tie_id 0 ties)
    → item_among number (ties_after change ties) ≡ item_after change (item_among number ties)
among_after number Untouched ties rise = refl
among_after number (Added id) ties rise = refl
among_after number Moved ties rise = refl
among_after number (Erased id) ties rise = item_without number id 0 ties rise
among_after number (Cleared count) ties rise = refl

-- ---- the attribute of a tie

-- it goes with its item
tied_follows : (sort : ItemSort) (change : Change) (item : Option ℕ)
    → option_map (plain.Tied sort) (item_after change item)
    ≡ option_and_then (tied_after change sort) item
tied_follows sort Untouched None = refl
tied_follows sort Untouched (Some id) = refl
tied_follows sort (Added new) None = refl
tied_follows sort (Added new) (Some id) = refl
tied_follows sort Moved None = refl
tied_follows sort Moved (Some id) = refl
tied_follows sort (Erased other) None = refl
tied_follows sort (Erased other) (Some id) =
    elim (other == id) as (λ b. option_map (plain.Tied sort) (cond b None (Some id))
    ≡ cond b None (Some (plain.Tied sort id))) [
      | true ↦ refl
      | false ↦ refl
    ]
tied_follows sort (Cleared count) None = refl
tied_follows sort (Cleared count) (Some id) = refl

tied_attribute : (number : ℕ) (sort : ItemSort) (change : ItemSort → Change)
    (ties : List Tie) → IsTrue (rises_from tie_id 0 ties)
    → option_map (plain.Tied sort) (item_among number (ties_after (change sort) ties))
    ≡ option_and_then (attribute_after change)
    (option_map (plain.Tied sort) (item_among number ties))
tied_attribute number sort change ties rise =
    ap (option_map (plain.Tied sort)) (among_after number (change sort) ties rise)
    ∙ tied_follows sort (change sort) (item_among number ties)
    ∙ tied_under (item_among number ties)
  where
    tied_under : (item : Option ℕ) → option_and_then (tied_after (change sort) sort) item
        ≡ option_and_then (attribute_after change) (option_map (plain.Tied sort) item)
    tied_under None = refl
    tied_under (Some id) = refl

-- the item that is seen to have the tie
item_seen : (number : ℕ) (o : Option Seen)
    → option_and_then (λ (s : Seen). tied_item number s.held) o ≡ item_among number (ties_at o)
item_seen number None = refl
item_seen number (Some s) = refl

-- what an attribute's row leads to follows the changes of the items of both sorts
pub row_follows : (change : ItemSort → Change) (ties later : ItemSort → Option Seen)
    → ((sort : ItemSort) → ties_at (later sort) ≡ ties_after (change sort) (ties_at (ties sort)))
    → ((sort : ItemSort) → IsTrue (rises_from tie_id 0 (ties_at (ties sort))))
    → (row : AttributeRow)
    → attribute_seen later row ≡ option_and_then (attribute_after change) (attribute_seen ties row)
row_follows change ties later left rise (rows.Plain text) = refl
row_follows change ties later left rise (rows.Tied sort number) =
    ap (option_map (plain.Tied sort)) (item_seen number (later sort))
    ∙ ap (λ ts. option_map (plain.Tied sort) (item_among number ts)) (left sort)
    ∙ tied_attribute number sort change (ties_at (ties sort)) (rise sort)
    ∙ sym (ap (λ item. option_and_then (attribute_after change)
    (option_map (plain.Tied sort) item)) (item_seen number (ties sort)))
