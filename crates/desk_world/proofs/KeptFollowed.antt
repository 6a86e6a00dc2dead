-- What kept views hold after a notice, and the values that they are placed by.
use Rattle.std.proofs.Common.{◌≡◌, ℕ, ◌==◌, Bool, true, false, cond, if◌then◌else◌, List, [], ◌∷◌}
use Rattle.std.proofs.Common.{map, Some, None, refl, sym, ap, ◌∙◌, subst, inl, inr}
use Rattle.std.specs.Prelude.{unwrap_or}
use Rattle.std.specs.FinMap as fin
use Rattle.std.specs.Cmp.{nat_cmp_total}
use Rattle.std.proofs.lemmas.Bool.{true≢false, cases_eq, eqb-true}
use Rattle.base_items.specs.declared.items.Fact.{Fact}
use Rattle.plain_digraph.specs.Lists.{AllOf}
use Rattle.plain_digraph.specs.PlainSteps.{Change, Untouched, Added, Moved, Erased, Cleared}
use Rattle.plain_digraph.specs.Rising.{with_item, without_item}
use Rattle.plain_digraph.proofs.Keys.{ties_same, ties_other}
use Rattle.observe_core.specs.declared.changes.Change.TheVariants.{Add, Shift, Build}
use Rattle.observe_core.specs.declared.losses.Loss.TheVariants.{Erase, Clear}
use Rattle.observe_core.specs.Held as held
use Rattle.observe_core.specs.Held.{Held, Kept, Values, Entry, KeptRole, Marked, entry_id}
use Rattle.observe_core.specs.Held.{making_of, Making}
use Rattle.observe_core.specs.Items.{Lacks}
use Rattle.observe_core.specs.Told.{marked_moved, new_marked}
use Rattle.observe_core.proofs.ItemLemmas.{map-place, map-without, all-place, all-without, all_more}
use Rattle.observe_core.proofs.Undone.{entries_lack}
use Rattle.alter_graph.specs.Steps.{Notice, Tells, Loses}
use Rattle.alter_graph.proofs.Saving.{held_noticed}
use Rattle.alter_graph.proofs.Telling.{CanHear}
use Rattle.kept_views.specs.declared.items.Marks.{Marks}
use Rattle.kept_views.specs.ItemViews.{marks}
use Rattle.kept_walks.specs.Present.{AreMarked, marks_at, items_in}
use Rattle.desk_world.specs.Columns.{column}
use Rattle.desk_world.proofs.Columns.{value_at, get_column, column_with, column_without, ties}
use Rattle.desk_world.proofs.Noticed.{change_by, entries_after}

-- ---- marks, as the values of a map

abbrev pub mark_entry : Marked → Entry Marks
mark_entry x = record { id = x.fact.id; value = marks_at x }

abbrev pub marks_held : Held → List (Entry Marks)
marks_held h = map mark_entry (items_in h)

-- the mark is what is said of the id
abbrev pub Says : (Marks → Bool) → (ℕ → Bool) → Entry Marks → Type 0
Says mark says e = mark e.value ≡ says e.id

pub to_marks : (mark : Marks → Bool) (says : ℕ → Bool) (items : List Marked)
    → AreMarked mark says items → AllOf (Says mark says) (map mark_entry items)
to_marks mark says [] all = tt
to_marks mark says (x ∷ xs) all = (all.0, to_marks mark says xs all.1)

pub of_marks : (mark : Marks → Bool) (says : ℕ → Bool) (items : List Marked)
    → AllOf (Says mark says) (map mark_entry items) → AreMarked mark says items
of_marks mark says [] all = tt
of_marks mark says (x ∷ xs) all = (all.0, of_marks mark says xs all.1)

moved_marks : (now : Fact) (items : List Marked)
    → map mark_entry (marked_moved now items) ≡ map mark_entry items
moved_marks now [] = refl
moved_marks now (x ∷ xs) =
    let rest = moved_marks now xs in
    elim (x.fact.id == now.id) as (λ b. (x.fact.id == now.id) ≡ b
    → map mark_entry ((if b then record x { fact = now } else x) ∷ marked_moved now xs)
    ≡ mark_entry x ∷ map mark_entry xs) [
      | true ↦ λ is.
          let same = sym (eqb-true x.fact.id now.id is) in
          λ i. record { id = same i; value = marks_at x } ∷ rest i
      | false ↦ λ is. ap (λ l. mark_entry x ∷ l) rest
    ] refl

-- ---- what is held of a kept view, by how it was made

abbrev is_kept : Making → Bool
is_kept held.OfGuard = false
is_kept (held.OfValues t) = false
is_kept (held.OfDegree out) = false
is_kept held.OfHalf = false
is_kept (held.OfKept role all) = true
is_kept held.OfTies = false

abbrev shows_made : Making → Bool
shows_made held.OfGuard = false
shows_made (held.OfValues t) = false
shows_made (held.OfDegree out) = false
shows_made held.OfHalf = false
shows_made (held.OfKept role all) = all
shows_made held.OfTies = false

abbrev role_made : Making → KeptRole
role_made held.OfGuard = held.KeptNodes
role_made (held.OfValues t) = held.KeptNodes
role_made (held.OfDegree out) = held.KeptNodes
role_made held.OfHalf = held.KeptNodes
role_made (held.OfKept role all) = role
role_made held.OfTies = held.KeptNodes

pub record AreKeptItems (role : KeptRole) (all : Bool) (h : Held) : Type 0 where
  pub items : List Marked
  pub is : h ≡ Kept role all items

pub as_kept : (role : KeptRole) (all : Bool) (h : Held) → making_of h ≡ held.OfKept role all
    → AreKeptItems role all h
as_kept role all held.Nothing m = absurd (true≢false (sym (ap is_kept m)))
as_kept role all (Values t es) m = absurd (true≢false (sym (ap is_kept m)))
as_kept role all (held.Degree out ends) m = absurd (true≢false (sym (ap is_kept m)))
as_kept role all (held.Half added others kept valid) m = absurd (true≢false (sym (ap is_kept m)))
as_kept role all (Kept own shows items) m = record {
  items = items;
  is = λ i. Kept (role_made (m i)) (shows_made (m i)) items;
}
as_kept role all (held.Ties ties) m = absurd (true≢false (sym (ap is_kept m)))

module _ (n : Notice) (count : ℕ) where
  -- marks follow as the values of a map do, whose default is that of a new item
  pub marks_follow : (role : KeptRole) (all : Bool) (live : List Fact) → CanHear n live
      → (h : Held) → making_of h ≡ held.OfKept role all
      → marks_held (held_noticed n h)
      ≡ entries_after (marks all false false) (change_by n count) (marks_held h)
  marks_follow role all live can h made =
      let kept = as_kept role all h made in
      subst (λ x. marks_held (held_noticed n x)
      ≡ entries_after (marks all false false) (change_by n count) (marks_held x)) (sym kept.is)
      (by n can kept.items)
    where
      by : (n : Notice) → CanHear n live → (items : List Marked)
          → marks_held (held_noticed n (Kept role all items))
          ≡ entries_after (marks all false false) (change_by n count) (map mark_entry items)
      by (Tells (Add f)) can items = map-place mark_entry entry_id (new_marked all f) items
      by (Tells (Shift old now)) can items = moved_marks now items
      by (Tells (Build fs)) can items = absurd can
      by (Loses (Erase f)) can items = map-without mark_entry entry_id f.id items
      by (Loses Clear) can items = refl

-- ---- values of a map by the ids, the default where there is none

module _ {V : Type 0} (default : V) where
  abbrev pub value_of : List (Entry V) → ℕ → V
  value_of es id = unwrap_or (fin.get (column es) id) default

  -- a change keeps the values of all items but those that go
  abbrev pub values_after : Change → (ℕ → V) → (ℕ → V)
  values_after Untouched f = f
  values_after (Added new) f = f
  values_after Moved f = f
  values_after (Erased gone) f = λ id. cond (ties id gone) default (f id)
  values_after (Cleared count) f = λ id. default

  -- and a new item has the default
  abbrev pub with_new : Change → (ℕ → V) → (ℕ → V)
  with_new Untouched f = f
  with_new (Added new) f = λ id. cond (ties id new) default (f id)
  with_new Moved f = f
  with_new (Erased gone) f = λ id. cond (ties id gone) default (f id)
  with_new (Cleared count) f = λ id. default

  lacks_value : (q : ℕ) (es : List (Entry V)) → Lacks entry_id q es → value_at q es ≡ None
  lacks_value q [] lacks = refl
  lacks_value q (e ∷ es) lacks =
      ap (λ t. cond t (Some e.value) (value_at q es)) (ties_other q e.id (λ is. lacks.0 (sym is)))
      ∙ lacks_value q es lacks.1

  value_with : (new : ℕ) (es : List (Entry V)) → Lacks entry_id new es → (id : ℕ)
      → value_of (with_item entry_id (record { id = new; value = default }) es) id
      ≡ cond (ties id new) default (value_of es id)
  value_with new es lacks id =
      ap (λ c. unwrap_or (fin.get c id) default)
      (column_with (record { id = new; value = default }) es lacks)
      ∙ ap (λ o. unwrap_or o default) (fin.get-insert nat_cmp_total (column es) new default id)
      ∙ elim (ties id new) as (λ t. unwrap_or (cond t (Some default) (fin.get (column es) id))
      default ≡ cond t default (value_of es id)) [
        | true ↦ refl
        | false ↦ refl
      ]

  none_new : (new : ℕ) (es : List (Entry V)) → Lacks entry_id new es → (id : ℕ)
      → cond (ties id new) default (value_of es id) ≡ value_of es id
  none_new new es lacks id = elim (cases_eq id new) [
    | inl same ↦
        ap (λ t. cond t default (value_of es id)) (ties_same id new same)
        ∙ sym (ap (value_of es) same
        ∙ ap (λ o. unwrap_or o default) (get_column es new ∙ lacks_value new es lacks))
    | inr other ↦ ap (λ t. cond t default (value_of es id)) (ties_other id new other)
  ]

  value_without : (gone : ℕ) (es : List (Entry V)) (id : ℕ)
      → value_of (without_item entry_id gone es) id ≡ cond (ties id gone) default (value_of es id)
  value_without gone es id =
      ap (λ c. unwrap_or (fin.get c id) default) (column_without gone es)
      ∙ ap (λ o. unwrap_or o default) (fin.get-remove nat_cmp_total (column es) gone id)
      ∙ elim (ties id gone) as (λ t. unwrap_or (cond t None (fin.get (column es) id)) default
      ≡ cond t default (value_of es id)) [
        | true ↦ refl
        | false ↦ refl
      ]

  empty_value : (id : ℕ) → value_of [] id ≡ default
  empty_value id = ap (λ o. unwrap_or o default) (get_column [] id)

  -- so it is with the entries after a notice
  pub value_kept : (n : Notice) (live : List Fact) (count : ℕ) → CanHear n live
      → (es : List (Entry V)) → map entry_id es ≡ map (λ (f : Fact). f.id) live
      → value_of (entries_after default (change_by n count) es)
      ≡ values_after (change_by n count) (value_of es)
  value_kept (Tells (Add f)) live count can es fits =
      let lacks = entries_lack f.id es live fits can.untracked in
      λ i id. (value_with f.id es lacks id ∙ none_new f.id es lacks id) i
  value_kept (Tells (Shift old now)) live count can es fits = refl
  value_kept (Tells (Build all)) live count can es fits = absurd can
  value_kept (Loses (Erase f)) live count can es fits = λ i id. value_without f.id es id i
  value_kept (Loses Clear) live count can es fits = λ i id. empty_value id i

  pub value_new : (n : Notice) (live : List Fact) (count : ℕ) → CanHear n live
      → (es : List (Entry V)) → map entry_id es ≡ map (λ (f : Fact). f.id) live
      → value_of (entries_after default (change_by n count) es)
      ≡ with_new (change_by n count) (value_of es)
  value_new (Tells (Add f)) live count can es fits =
      λ i id. value_with f.id es (entries_lack f.id es live fits can.untracked) id i
  value_new (Tells (Shift old now)) live count can es fits = refl
  value_new (Tells (Build all)) live count can es fits = absurd can
  value_new (Loses (Erase f)) live count can es fits = λ i id. value_without f.id es id i
  value_new (Loses Clear) live count can es fits = λ i id. empty_value id i

-- ---- what a change keeps

-- the later values are those from before at each item that stays, and the default at a new one
abbrev pub Keeps : {V : Type 0} → V → Change → (ℕ → V) → (ℕ → V) → Type 0
Keeps default Untouched f g = (id : ℕ) → g id ≡ f id
Keeps default (Added new) f g = ((id : ℕ) → g id ≡ f id) × (g new ≡ default)
Keeps default Moved f g = (id : ℕ) → g id ≡ f id
Keeps default (Erased gone) f g = (id : ℕ) → (id ≡ gone → ⊥) → g id ≡ f id
Keeps default (Cleared count) f g = Unit {0}

pub keeps_same : {V : Type 0} (default : V) (change : Change) (f g : ℕ → V)
    → g ≡ values_after default change f → g ≡ with_new default change f
    → Keeps default change f g
keeps_same default Untouched f g one two = λ id i. one i id
keeps_same default (Added new) f g one two = (
  λ id i. one i id,
  (λ i. two i new) ∙ ap (λ t. cond t default (f new)) (ties_same new new refl),
)
keeps_same default Moved f g one two = λ id i. one i id
keeps_same default (Erased gone) f g one two =
    λ id other. (λ i. one i id) ∙ ap (λ t. cond t default (f id)) (ties_other id gone other)
keeps_same default (Cleared count) f g one two = tt

-- values that always are the default
pub keeps_fixed : {V : Type 0} (default : V) (change : Change)
    → Keeps default change (λ id. default) (λ id. default)
keeps_fixed default Untouched = λ id. refl
keeps_fixed default (Added new) = ((λ id. refl), refl)
keeps_fixed default Moved = λ id. refl
keeps_fixed default (Erased gone) = λ id other. refl
keeps_fixed default (Cleared count) = tt

-- what is said of two values
pub keeps_both : {V B : Type 0} (both : V → V → B) (default : V) (change : Change)
    (f g h k : ℕ → V) → Keeps default change f g → Keeps default change h k
    → Keeps (both default default) change (λ id. both (f id) (h id)) (λ id. both (g id) (k id))
keeps_both both default Untouched f g h k one two = λ id i. both (one id i) (two id i)
keeps_both both default (Added new) f g h k one two = (
  (λ id i. both (one.0 id i) (two.0 id i)),
  (λ i. both (one.1 i) (two.1 i)),
)
keeps_both both default Moved f g h k one two = λ id i. both (one id i) (two id i)
keeps_both both default (Erased gone) f g h k one two =
    λ id other i. both (one id other i) (two id other i)
keeps_both both default (Cleared count) f g h k one two = tt

-- so marks that told the values tell the later ones
pub marks_then : (mark : Marks → Bool) (default : Marks) (change : Change) (says now : ℕ → Bool)
    → Keeps (mark default) change says now → (es : List (Entry Marks))
    → AllOf (Says mark says) es → AllOf (Says mark now) (entries_after default change es)
marks_then mark default Untouched says now keeps es all =
    all_more (λ e is. is ∙ sym (keeps e.id)) es all
marks_then mark default (Added new) says now keeps es all =
    all-place (Says mark now) entry_id (record { id = new; value = default }) es (sym keeps.1)
    (all_more (λ e is. is ∙ sym (keeps.0 e.id)) es all)
marks_then mark default Moved says now keeps es all =
    all_more (λ e is. is ∙ sym (keeps e.id)) es all
marks_then mark default (Erased gone) says now keeps es all =
    all_more (λ e is. is.1 ∙ sym (keeps e.id is.0)) (without_item entry_id gone es)
    (all-without (Says mark says) entry_id gone es all)
marks_then mark default (Cleared count) says now keeps es all = tt
