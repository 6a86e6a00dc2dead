-- Steps and parts behind others begin where those lead.
use Rattle.std.proofs.Common.{◌≡◌, Bool, refl, sym, ◌∙◌, ap, List, [], ◌∷◌, ◌++◌, Option, None}
use Rattle.std.proofs.Common.{Some}
use Rattle.std.specs.Prelude.{find}
use Rattle.std.specs.Option.{option_or}
use Rattle.base_items.specs.declared.items.ItemSort.{ItemSort}
use Rattle.plain_digraph.specs.Digraph.{Digraph}
use Rattle.plain_digraph.specs.PlainSteps.{PlainStep, sort_of, after_step, after_steps}
use Rattle.plain_digraph.specs.Alterations.{unrolled, vetoer}
use Rattle.plain_digraph.specs.AlterationLaws.{StepsInTurn, PartsInTurn, StepsLeadOn}

pub steps_lead_on : StepsLeadOn
steps_lead_on g [] back = refl
steps_lead_on g (step ∷ front) back = steps_lead_on (after_step g step) front back

append_assoc : {X : Type 0} (xs ys zs : List X) → (xs ++ ys) ++ zs ≡ xs ++ (ys ++ zs)
append_assoc [] ys zs = refl
append_assoc (x ∷ xs) ys zs = ap (λ rest. x ∷ rest) (append_assoc xs ys zs)

pub parts_in_turn : PartsInTurn
parts_in_turn g [] back = refl
parts_in_turn g (part ∷ front) back =
    let steps = part g in
    let next = after_steps g steps in
    ap (λ rest. steps ++ rest) (parts_in_turn next front back)
    ∙ (sym (append_assoc steps (unrolled next front)
    (unrolled (after_steps next (unrolled next front)) back))
    ∙ ap (λ h. (steps ++ unrolled next front) ++ unrolled h back)
    (sym (steps_lead_on g steps (unrolled next front))))

pub steps_in_turn : StepsInTurn
steps_in_turn g alteration = parts_in_turn g alteration.refusable alteration.sure

option_or_assoc : {X : Type 0} (a b c : Option X)
    → option_or (option_or a b) c ≡ option_or a (option_or b c)
option_or_assoc None b c = refl
option_or_assoc (Some x) b c = refl

-- the first veto of some steps behind others: one of the others, or else one from where those lead
pub vetoes_in_turn : {W : Type 0} (refuses : W → ItemSort → Digraph
    → Bool) (guards : List W) (g : Digraph) (front back : List PlainStep)
    → vetoer refuses guards g (front ++ back)
    ≡ option_or (vetoer refuses guards g front) (vetoer refuses guards (after_steps g front) back)
vetoes_in_turn refuses guards g [] back = refl
vetoes_in_turn refuses guards g (step ∷ front) back =
    let here = find (λ guard. refuses guard (sort_of step) (after_step g step)) guards in
    ap (option_or here) (vetoes_in_turn refuses guards (after_step g step) front back)
    ∙ sym (option_or_assoc here (vetoer refuses guards (after_step g step) front)
    (vetoer refuses guards (after_steps (after_step g step) front) back))
