use Rattle.std.proofs.Common.{◌≡◌, ℤ, Bool, true, sym, ap, ◌∙◌, subst, is_some, Some}
use Rattle.std.specs.Int.{w64}
use Rattle.std.proofs.lemmas.Int.{to_z-of_z}
use Rattle.report_text.specs.declared.faults.Fault.TheVariants as faults
use Rattle.token_text.specs.Numbers.{IsInt, IsBool}
use Rattle.plain_world.specs.Refusals.{unless}
use Rattle.plain_world.specs.Values.{spells}
use Rattle.desk_world.specs.Faults.{Is}
use Rattle.desk_world.proofs.Spelled.{int_told, no_int, no_bool}
use Rattle.desk_world.proofs.values.read_value.Goals as goal

pub returns-in-Some-clause-spells : goal.returns-in-Some-clause-spells
returns-in-Some-clause-spells c =
    let text = c.args.text.now in
    let told = subst (λ bytes. IsInt bytes c.in-Some.value) c.as_bytes.ensures
    c.in-Some.ensures.some in
    subst (λ k. spells k text ≡ true) (sym c.in-Ints.is)
    (ap is_some (int_told text c.in-Some.value told))

pub returns-in-Some-clause-value : goal.returns-in-Some-clause-value
returns-in-Some-clause-value c =
    let told = subst (λ bytes. IsInt bytes c.in-Some.value) c.as_bytes.ensures
    c.in-Some.ensures.some in
    int_told c.args.text.now c.in-Some.value told
    ∙ ap Some (sym (to_z-of_z w64 c.in-Some.value told.fits))

pub returns-in-None-clause-refused : goal.returns-in-None-clause-refused
returns-in-None-clause-refused c =
    let text = c.args.text.now in
    let fault = faults.BadValue c.args.item.now text in
    let none = no_int text (subst (λ bytes. (value : ℤ) → IsInt bytes value → ⊥) c.as_bytes.ensures
    c.in-None.ensures.none) in
    subst (λ o. Is o c.bad_value.result)
    (sym (ap (λ k. unless (spells k text) fault) c.in-Ints.is
    ∙ ap (λ o. unless (is_some o) fault) none)) c.bad_value.ensures

pub returns-in-None-read_bool-clause-refused : goal.returns-in-None-read_bool-clause-refused
returns-in-None-read_bool-clause-refused c =
    let text = c.args.text.now in
    let fault = faults.BadValue c.args.item.now text in
    let none = no_bool text (subst (λ bytes. (value : Bool) → IsBool bytes value → ⊥)
    c.as_bytes-in-Bools.ensures c.in-None-read_bool.ensures.none) in
    subst (λ o. Is o c.bad_value-in-None-read_bool.result)
    (sym (ap (λ k. unless (spells k text) fault) c.in-Bools.is
    ∙ ap (λ o. unless (is_some o) fault) none)) c.bad_value-in-None-read_bool.ensures
