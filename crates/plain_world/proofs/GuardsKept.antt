-- Guards after a plain step.
use Rattle.std.proofs.Common.{◌≡◌, ◌-◌, Bool, true, false, cond, refl, sym, ◌∙◌}
use Rattle.std.proofs.Common.{subst, List, None, Some, All, arith}
use Rattle.std.specs.Prelude.{◌==◌}
use Rattle.std.proofs.lemmas.Bool.{true≢false, eq-eqb}
use Rattle.std.proofs.lemmas.Option.{none-some, same_Some}
use Rattle.base_items.specs.declared.items.ItemSort.{ItemSort}
use Rattle.script_words.specs.declared.commands.GuardWord.{GuardWord}
use Rattle.script_words.specs.declared.commands.GuardWord.TheVariants as kinds
use Rattle.plain_digraph.specs.Digraph.{Digraph}
use Rattle.plain_digraph.specs.PlainSteps.{Change, Untouched, Added, Moved, Erased, Cleared}
use Rattle.plain_world.specs.Tables.{Named, each_changed}
use Rattle.plain_world.specs.World.{Guard}
use Rattle.plain_world.specs.Following.{by_kind, guard_after, tally_after}
use Rattle.plain_world.specs.Valid.{HasLeft}
use Rattle.plain_world.proofs.TableChanges.{all_changed}
use Rattle.plain_world.proofs.WorldParts.{GuardOk}
use Rattle.plain_world.proofs.LawsKept.{LawsHold}

left_nothing : (guard next : Guard) → guard.kind ≡ kinds.Tally → guard.kind ≡ next.kind
    → guard.left ≡ next.left → HasLeft guard.kind guard → HasLeft next.kind next
left_nothing guard next kind same left has =
    subst (λ k. HasLeft k next) (sym kind ∙ same)
    (sym left ∙ subst (λ k. HasLeft k guard) kind has)

tally_ok : (h : Digraph) (change : Change) (guard : Guard) → guard.kind ≡ kinds.Tally
    → GuardOk h guard → GuardOk h (tally_after change guard)
tally_ok h (Added id) guard kind ok = (ok.0, left_nothing guard _ kind refl refl ok.1)
tally_ok h Moved guard kind ok = (ok.0, left_nothing guard _ kind refl refl ok.1)
tally_ok h (Erased id) guard kind ok = (ok.0, left_nothing guard _ kind refl refl ok.1)
tally_ok h (Cleared count) guard kind ok = (ok.0, left_nothing guard _ kind refl refl ok.1)
tally_ok h Untouched guard kind ok = ok

fuse_ok : (h : Digraph) (guard next : Guard) (b : Bool) → (guard.left == 1) ≡ b
    → guard.kind ≡ kinds.Fuse → GuardOk h guard
    → cond b None (Some (record guard { left = guard.left - 1 })) ≡ Some next → GuardOk h next
fuse_ok h guard next true is kind ok goes = absurd (none-some next goes)
fuse_ok h guard next false is kind ok goes =
    let lower : Guard = record guard { left = guard.left - 1 } in
    let has : HasLeft kinds.Fuse guard = subst (λ k. HasLeft k guard) kind ok.1 in
    let some = has.0 in
    let few = has.1 in
    let apart : guard.left ≡ 1 → ⊥ = λ e. true≢false (sym (eq-eqb guard.left 1 e) ∙ is) in
    subst (GuardOk h) (same_Some lower next goes) (
      ok.0,
      subst (λ k. HasLeft k lower) (sym kind)
          (omega (arith, some, apart), omega (arith, few, some)),
    )

-- a guard that doesn't go is as it should be
guard_ok : (h : Digraph) (kind : GuardWord) (change : Change) (guard next : Guard)
    → guard.kind ≡ kind → GuardOk h guard → by_kind kind change guard ≡ Some next → GuardOk h next
guard_ok h kinds.Fuse (Erased id) guard next kind ok goes =
    fuse_ok h guard next (guard.left == 1) refl kind ok goes
guard_ok h kinds.Fuse (Cleared count) guard next kind ok goes = absurd (none-some next goes)
guard_ok h kinds.Fuse (Added id) guard next kind ok goes =
    subst (GuardOk h) (same_Some guard next goes) ok
guard_ok h kinds.Fuse Moved guard next kind ok goes =
    subst (GuardOk h) (same_Some guard next goes) ok
guard_ok h kinds.Fuse Untouched guard next kind ok goes =
    subst (GuardOk h) (same_Some guard next goes) ok
guard_ok h kinds.Tally change guard next kind ok goes =
    subst (GuardOk h) (same_Some (tally_after change guard) next goes)
    (tally_ok h change guard kind ok)
guard_ok h kinds.Quota change guard next kind ok goes =
    subst (GuardOk h) (same_Some guard next goes) ok
guard_ok h kinds.Loopless change guard next kind ok goes =
    subst (GuardOk h) (same_Some guard next goes) ok
guard_ok h kinds.Simple change guard next kind ok goes =
    subst (GuardOk h) (same_Some guard next goes) ok
guard_ok h kinds.OutCap change guard next kind ok goes =
    subst (GuardOk h) (same_Some guard next goes) ok

pub guards_after : (h : Digraph) (change : ItemSort → Change) (guards : List (Named Guard))
    → LawsHold h guards → All (λ e. HasLeft e.value.kind e.value) guards
    → All (λ e. GuardOk h e.value) (each_changed (guard_after change) guards)
guards_after h change guards laws left =
    let P : Named Guard → Type 0 = λ e. GuardOk h e.value in
    all_changed P P (guard_after change) guards (λ k d within. (laws k d within, left k d within))
    (λ e next ok goes.
    guard_ok h e.value.kind (change e.value.sort) e.value next refl ok goes)
