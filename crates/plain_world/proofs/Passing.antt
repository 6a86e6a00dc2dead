-- Steps that all guards let through.
use Rattle.std.proofs.Common.{◌≡◌, ◌-◌, Bool, true, false, cond, not, refl, sym, ◌∙◌}
use Rattle.std.proofs.Common.{subst, List, [], ◌∷◌, ◌++◌, Option, None, Some}
use Rattle.std.specs.Prelude.{find, ◌==◌, ◌&&◌}
use Rattle.std.specs.Option.{option_or}
use Rattle.std.proofs.lemmas.Option.{none-some, same_Some}
use Rattle.base_items.specs.declared.items.ItemSort.{ItemSort}
use Rattle.script_words.specs.declared.commands.GuardWord.{GuardWord}
use Rattle.script_words.specs.declared.commands.GuardWord.TheVariants as kinds
use Rattle.plain_digraph.specs.Digraph.{Digraph}
use Rattle.plain_digraph.specs.Items.{facts}
use Rattle.plain_digraph.specs.PlainSteps.{PlainStep}
use Rattle.plain_digraph.specs.PlainSteps.{Change, Untouched, Added, Moved, Erased, Cleared}
use Rattle.plain_digraph.specs.PlainSteps.{sort_of, after_step, after_steps}
use Rattle.plain_digraph.specs.Alterations.{vetoer}
use Rattle.plain_world.specs.Tables.{Named, each_changed}
use Rattle.plain_world.specs.World.{Guard}
use Rattle.plain_world.specs.Following.{by_kind, guard_after, tally_after}
use Rattle.plain_world.specs.Refusals.{law_holds, is_sort, refuses}
use Rattle.plain_world.proofs.TableChanges.{all_changed, all_fail}
use Rattle.plain_world.proofs.LawsKept.{LetThrough}

-- what a guard refuses doesn't change
abbrev Asks : Guard → Guard → Type 0
Asks guard next = (guard.sort ≡ next.sort) × (guard.kind ≡ next.kind)
    × (guard.limit ≡ next.limit)

asks_itself : (guard next : Guard) → Some guard ≡ Some next → Asks guard next
asks_itself guard next same = subst (Asks guard) (same_Some guard next same) (refl, refl, refl)

tally_asks : (change : Change) (guard : Guard) → Asks guard (tally_after change guard)
tally_asks (Added id) guard = (refl, refl, refl)
tally_asks Moved guard = (refl, refl, refl)
tally_asks (Erased id) guard = (refl, refl, refl)
tally_asks (Cleared count) guard = (refl, refl, refl)
tally_asks Untouched guard = (refl, refl, refl)

fuse_asks : (guard next : Guard) (b : Bool)
    → cond b None (Some (record guard { left = guard.left - 1 })) ≡ Some next → Asks guard next
fuse_asks guard next true goes = absurd (none-some next goes)
fuse_asks guard next false goes =
    subst (Asks guard) (same_Some (record guard { left = guard.left - 1 }) next goes)
    (refl, refl, refl)

asks_same : (kind : GuardWord) (change : Change) (guard next : Guard)
    → by_kind kind change guard ≡ Some next → Asks guard next
asks_same kinds.Fuse (Erased id) guard next goes = fuse_asks guard next (guard.left == 1) goes
asks_same kinds.Fuse (Cleared count) guard next goes = absurd (none-some next goes)
asks_same kinds.Fuse (Added id) guard next goes = asks_itself guard next goes
asks_same kinds.Fuse Moved guard next goes = asks_itself guard next goes
asks_same kinds.Fuse Untouched guard next goes = asks_itself guard next goes
asks_same kinds.Tally change guard next goes =
    subst (Asks guard) (same_Some (tally_after change guard) next goes) (tally_asks change guard)
asks_same kinds.Quota change guard next goes = asks_itself guard next goes
asks_same kinds.Loopless change guard next goes = asks_itself guard next goes
asks_same kinds.Simple change guard next goes = asks_itself guard next goes
asks_same kinds.OutCap change guard next goes = asks_itself guard next goes

-- ---- steps in turn

-- no guard refuses one of the steps
abbrev pub Passes : List (Named Guard) → Digraph → List PlainStep → Type 0
Passes guards g [] = Unit {0}
Passes guards g (step ∷ steps) = LetThrough g step guards × Passes guards (after_step g step) steps

let_through_still : (g : Digraph) (step : PlainStep) (change : ItemSort → Change)
    (guards : List (Named Guard)) → LetThrough g step guards
    → LetThrough g step (each_changed (guard_after change) guards)
let_through_still g step change guards passed =
    let sort = sort_of step in
    let h = after_step g step in
    let P : Named Guard → Type 0 = λ guard. refuses guard sort h ≡ false in
    all_changed P P (guard_after change) guards passed
    (λ e next passes goes.
    let same = asks_same e.value.kind (change e.value.sort) e.value next goes in
    sym (λ i. is_sort (same.0 i) sort && not (law_holds (same.1 i) (same.2 i) (facts h sort)))
    ∙ passes)

pub passes_still : (change : ItemSort → Change) (guards : List (Named Guard)) (g : Digraph)
    (steps : List PlainStep) → Passes guards g steps
    → Passes (each_changed (guard_after change) guards) g steps
passes_still change guards g [] passes = tt
passes_still change guards g (step ∷ steps) passes = (
  let_through_still g step change guards passes.0,
  passes_still change guards (after_step g step) steps passes.1,
)

pub passes_parts : (guards : List (Named Guard)) (g : Digraph) (front back : List PlainStep)
    → Passes guards g (front ++ back)
    → Passes guards g front × Passes guards (after_steps g front) back
passes_parts guards g [] back passes = (tt, passes)
passes_parts guards g (step ∷ front) back passes =
    let rest = passes_parts guards (after_step g step) front back passes.1 in
    ((passes.0, rest.0), rest.1)

none_of_both : {X : Type 0} (o p : Option X) → option_or o p ≡ None → (o ≡ None) × (p ≡ None)
none_of_both None p none = (refl, none)
none_of_both (Some x) p none = absurd (none-some x (sym none))

pub none_vetoes : (guards : List (Named Guard)) (g : Digraph) (steps : List PlainStep)
    → vetoer refuses guards g steps ≡ None → Passes guards g steps
none_vetoes guards g [] none = tt
none_vetoes guards g (step ∷ steps) none =
    let h = after_step g step in
    let test : Named Guard → Bool = λ guard. refuses guard (sort_of step) h in
    let parts = none_of_both (find test guards) (vetoer refuses guards h steps) none in
    (all_fail test guards parts.0, none_vetoes guards h steps parts.1)
