-- Each moved arc was copied as its fact says, and is told of otherwise now.
use Rattle.std.proofs.Common.{◌≡◌, ℕ, Bool, true, false, cond, List, [], ◌∷◌, filter, Some, None}
use Rattle.std.proofs.Common.{Option, refl, sym, ap, ◌∙◌}
use Rattle.std.specs.Prelude.{◌&&◌, not}
use Rattle.std.specs.Option.{option_map_or}
use Rattle.std.specs.List.{filter_map, cons_option, range_with_len}
use Rattle.std.proofs.lemmas.Bool.{eq-eqb, true≢false}
use Rattle.base_items.specs.declared.items.Fact.{Fact}
use Rattle.base_items.specs.declared.items.ItemSort.TheVariants as sorts
use Rattle.plain_digraph.specs.Lists.{AllOf}
use Rattle.plain_digraph.specs.Items.{fact_of}
use Rattle.plain_digraph.specs.Copies.{is_placed_as, is_moved}
use Rattle.plain_digraph.specs.RestoreLaws.{MovedAreCopied}
use Rattle.plain_digraph.proofs.Rows.{fact_of-id}
use Rattle.plain_digraph.proofs.Facts.{IsNamed}

-- what holds of each told fact that passes the test holds of all that are kept
all_kept : (told : ℕ → Option Fact) → IsNamed told → (test : Fact → Bool) (P : Fact → Type 0)
    → ((fact : Fact) → told fact.id ≡ Some fact → test fact ≡ true → P fact)
    → (xs : List ℕ) → AllOf P (filter test (filter_map told xs))
all_kept told named test P each [] = tt
all_kept told named test P each (x ∷ xs) =
    let rest = all_kept told named test P each xs in
    let kept : List Fact = filter test (filter_map told xs) in
    elim (told x) as (λ o. told x ≡ o → AllOf P (filter test (cons_option o (filter_map told xs)))) [
      | None ↦ λ e. rest
      | Some fact ↦ λ e.
          elim (test fact) as (λ b. test fact ≡ b → AllOf P (cond b (fact ∷ kept) kept)) [
            | true ↦ λ passes. (each fact (ap told (named x fact e) ∙ e) passes, rest)
            | false ↦ λ fails. rest
          ] refl
    ] refl

placed_as_itself : (fact : Fact) → is_placed_as fact fact ≡ true
placed_as_itself fact =
    let from = eq-eqb fact.from fact.from refl in
    let to = eq-eqb fact.to fact.to refl in
    let from_at = eq-eqb fact.from_at fact.from_at refl in
    let to_at = eq-eqb fact.to_at fact.to_at refl in
    λ i. from i && to i && from_at i && to_at i

pub moved_are_copied : MovedAreCopied
moved_are_copied c g =
    all_kept (fact_of c sorts.Arc) (fact_of-id c sorts.Arc) (is_moved g) _ (λ was told moved. (
      told,
      λ now e same.
          let apart : not (is_placed_as now was) ≡ true =
          sym (ap (λ o. option_map_or (λ other. not (is_placed_as other was)) o false) e) ∙ moved in
          true≢false (sym apart ∙ ap (λ fact. not (is_placed_as fact was)) (sym same)
          ∙ ap not (placed_as_itself was)),
    )) (range_with_len 0 g.used_arcs)
