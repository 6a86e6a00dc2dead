-- The lines of guards.
use Rattle.std.proofs.Common.{◌≡◌, ◌≤◌, ◌+◌, ℕ, zero, suc, List, [], ◌∷◌, ◌++◌, map, take, sym, ap}
use Rattle.std.proofs.Common.{◌∙◌, subst, Option, Some, None, length, arith}
use Rattle.std.specs.Prelude.{option_map, slice_get}
use Rattle.std.specs.List.{cons_option}
use Rattle.std.proofs.lemmas.List.{take_all, length-map}
use Rattle.std.proofs.lemmas.Option.{none-some, same_Some, slice_get-map}
use Rattle.base_items.specs.declared.items.ItemSort.{ItemSort}
use Rattle.report_text.specs.declared.replies.GuardNumbers.{GuardNumbers}
use Rattle.report_text.specs.declared.replies.GuardNumbers.TheVariants as numbers
use Rattle.plain_digraph.specs.Items.{count_of}
use Rattle.observe_core.specs.declared.kinds.Kind.{Kind}
use Rattle.observe_core.specs.declared.kinds.Kind.TheVariants as kinds
use Rattle.observe_core.specs.declared.kinds.Readout.{Readout}
use Rattle.observe_core.specs.Seen.{Seen, Watched, Reads}
use Rattle.plain_world.specs.Tables.{Name, Named, under}
use Rattle.plain_world.specs.World as plain
use Rattle.plain_world.specs.Replies.{guard_line, numbers_of}
use Rattle.desk_world.specs.declared.tables.GuardRow.{GuardRow}
use Rattle.desk_world.specs.declared.world.World.{World}
use Rattle.desk_world.specs.Claims.{Plays, Guard}
use Rattle.desk_world.specs.InStep.{AreInStep}
use Rattle.desk_world.specs.Lines.{numbers_by}
use Rattle.desk_world.specs.Looks.{looked}
use Rattle.desk_world.specs.Plain.{plain_of, look_of, guard_seen, guard_by, word_of}
use Rattle.desk_world.proofs.GuardsFound.{Leads, rows_lead, rows_seen, looked_place, row_at}
use Rattle.desk_world.proofs.GuardsFound.{all_values, guard_counts}

-- the numbers that are read are those of the plain guard
module _ (sort : ItemSort) (s : Seen) (r : Readout) (items : ℕ) (reads : Reads s r)
    (counted : length s.facts ≡ items) where
  abbrev all : r.items ≡ items
  all = reads.items ∙ counted

  numbers_read : (kind : Kind)
      → numbers_by kind r ≡ numbers_of (word_of kind) (guard_by sort s) items
  numbers_read kinds.Map =
      λ i. numbers.Tally (reads.added i) (reads.erased i) (reads.moved i)
  numbers_read kinds.Quota = λ i. numbers.Quota (reads.k i) (all i)
  numbers_read kinds.Loopless = λ i. numbers.Loopless (all i)
  numbers_read kinds.Simple = λ i. numbers.Simple (all i)
  numbers_read kinds.OutCap = λ i. numbers.OutCap (reads.k i) (all i)
  numbers_read kinds.Fuse = λ i. numbers.Fuse (reads.left i)
  numbers_read kinds.Tally =
      λ i. numbers.Tally (reads.added i) (reads.erased i) (reads.moved i)

module _ {O : Type 0} (watch : O → Watched) (w : World O) (in_step : AreInStep watch w)
    (place : ℕ) (row : GuardRow)
    (valued : slice_get (map (λ (e : Named GuardRow). e.value) w.guards.rows) place ≡ Some row)
  where
    -- there is a guard in the seat of the row
    pub row_leads : Leads (look_of watch w) row
    row_leads =
        all_values (Leads (look_of watch w)) w.guards.rows place row (rows_lead watch w in_step)
        valued

    pub row_line : (name : Name)
        → slice_get (map (λ (e : Named GuardRow). e.name) w.guards.rows) place ≡ Some name
        → (s : Seen) → look_of watch w row.sort row.key.0 ≡ Some s → (kind : Kind)
        → kind ≡ s.kind → (r : Readout) → Reads s r → (told : Name) → told ≡ name
        → (shown : GuardNumbers) → shown ≡ numbers_by kind r
        → slice_get (map (guard_line (plain_of watch w)) (plain_of watch w).guards) place
        ≡ Some (record { name = told; sort = row.sort; numbers = shown })
    row_line name named s seen kind same r reads told own shown read =
        let world = plain_of watch w in
        let at = row_at w.guards.rows place name row named valued in
        let is : row_leads.seen ≡ s = same_Some row_leads.seen s (sym row_leads.there ∙ seen) in
        let counted = guard_counts watch w.graph in_step.graph row.sort row.key.0 s seen
        (subst (Plays Guard) is row_leads.plays) in
        let there = looked_place (guard_seen (look_of watch w)) w.guards.rows place (under name row)
        (guard_by row.sort s) (rows_seen watch w in_step) at
        (ap (option_map (guard_by row.sort)) seen) in
        let right = read ∙ ap (λ k. numbers_by k r) same
        ∙ numbers_read row.sort s r (count_of world.graph row.sort) reads counted s.kind in
        slice_get-map (guard_line world) world.guards place
        ∙ ap (option_map (guard_line world)) there
        ∙ (λ i. Some (record { name = sym own i; sort = row.sort; numbers = sym right i }))

-- a line more
pub lines_next : {X : Type 0} (lines whole : List X) (place : ℕ) (line : X)
    → lines ≡ take place whole → slice_get whole place ≡ Some line
    → lines ++ line ∷ [] ≡ take (place + 1) whole
lines_next {X = X} lines whole place line were is =
    let one : place + 1 ≡ suc place = omega arith in
    ap (λ xs. xs ++ line ∷ []) were ∙ next whole place is
    ∙ ap (λ n. take n whole) (sym one)
  where
    next : (xs : List X) (n : ℕ) → slice_get xs n ≡ Some line
        → take n xs ++ line ∷ [] ≡ take (suc n) xs
    next [] n here = absurd (none-some line here)
    next (x ∷ xs) zero here = ap (λ y. y ∷ []) (sym (same_Some x line here))
    next (x ∷ xs) (suc n) here = ap (λ more. x ∷ more) (next xs n here)

-- all lines
looked_few : {X Y : Type 0} (look : X → Option Y) (table : List (Named X))
    → length (looked look table) ≤ length table
looked_few look [] = omega arith
looked_few {X} {Y} look (e ∷ es) = by (look e.value) (looked_few look es)
  where
    by : (o : Option Y) → length (looked look es) ≤ length es
        → length (cons_option (option_map (under e.name) o) (looked look es)) ≤ suc (length es)
    by None rest = omega (arith, rest)
    by (Some y) rest = omega (arith, rest)

pub looked_whole : {X Y Z : Type 0} (look : X → Option Y) (table : List (Named X))
    (f : Named Y → Z) (lines : List Z) (place : ℕ)
    → lines ≡ take place (map f (looked look table)) → length table ≤ place
    → lines ≡ map f (looked look table)
looked_whole look table f lines place were past =
    let few = looked_few look table in
    let counted = length-map (looked look table) f in
    were ∙ take_all place (map f (looked look table)) (omega (arith, few, past, counted))

pub lines_whole : {O X : Type 0} (watch : O → Watched) (w : World O) (f : Named plain.Guard → X)
    (lines : List X) (place : ℕ) → lines ≡ take place (map f (plain_of watch w).guards)
    → length w.guards.rows ≤ place → lines ≡ map f (plain_of watch w).guards
lines_whole watch w = looked_whole (guard_seen (look_of watch w)) w.guards.rows
