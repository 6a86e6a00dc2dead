-- A line that says no command goes wrong somewhere.
use Rattle.std.proofs.Common.{◌≡◌, ℕ, zero, suc, ◌+◌, ◌<◌, false, Option, Some, None, inl, inr}
use Rattle.std.proofs.Common.{List, [], ◌∷◌, length, get_or, refl, subst, arith}
use Rattle.std.proofs.lemmas.Bool.{cases_order}
use Rattle.token_text.specs.declared.tokens.Token.{Token}
use Rattle.token_text.specs.Lines.{is_passed_over}
use Rattle.token_text.specs.LineTokens.{HasTokens}
use Rattle.token_text.proofs.SomeReading.{some_tokens}
use Rattle.script_words.specs.declared.commands.Command.{Command}
use Rattle.script_words.specs.declared.forms.TheConstants.{FORMS}
use Rattle.script_words.specs.Code.{reach}
use Rattle.script_words.specs.Lines.{Says, GoesOn, IsBad, command_of}
use Rattle.script_words.proofs.Farthest.{Farthest, slots_at, farthest_none, farthest_more}
use Rattle.script_words.proofs.Farthest.{farthest_less, farthest_stuck}
use Rattle.script_words.proofs.Verdicts.{all_goes, wrong_token, unread_token, missing_token}

-- Of the first forms of the table one goes on farthest.
farthest_of : (tokens : List Token) (i : ℕ) → (most : ℕ) × Farthest tokens i most
farthest_of tokens zero = (0, farthest_none tokens)
farthest_of tokens (suc i) =
    let before = farthest_of tokens i in
    let reached = reach (slots_at i) tokens in
    let next : i + 1 ≡ suc i = omega arith in
    elim (cases_order before.0 reached) [
      | inl e ↦ (
        before.0,
        subst (λ n. Farthest tokens n before.0) next
            (farthest_less tokens i before.0 reached refl before.1 (omega arith)),
      )
      | inr order ↦
          elim order [
            | inl more ↦ (
              reached,
              subst (λ n. Farthest tokens n reached) next
                  (farthest_more tokens i before.0 reached refl before.1 more),
            )
            | inr less ↦ (
              before.0,
              subst (λ n. Farthest tokens n before.0) next
                  (farthest_less tokens i before.0 reached refl before.1 (omega arith)),
            )
          ]
    ]

-- A token for where there is none.
abbrev no_token : Token
no_token = record { start = 0; end = 0; bytes = [] }

-- The token at a place of a list, whatever stands for a lack.
at_place : (tokens : List Token) (n : ℕ) (d e : Token) → n < length tokens
    → get_or tokens n d ≡ get_or tokens n e
at_place [] n d e h = absurd (omega arith)
at_place (t ∷ ts) zero d e h = refl
at_place (t ∷ ts) (suc n) d e h = at_place ts n d e (omega arith)

module _ (line : List ℕ) (read : is_passed_over line ≡ false)
    (unsaid : (command : Command) → Says line command → ⊥) (tokens : List Token) where
  -- A line whose tokens go on.
  going : (fault : Option ℕ) → HasTokens line 0 tokens fault → GoesOn tokens
      → (column : ℕ) × IsBad line column
  going (Some place) has goes = (place + 1, unread_token line tokens read place has goes)
  going None has goes = (
    length line + 1,
    missing_token line tokens read has goes (λ form matches.
        unsaid (command_of form tokens) (record {
          read = read;
          tokens = tokens;
          tokens_are = has;
          form = form;
          matches = matches;
          command_is = refl;
        })),
  )

  -- A line with these tokens.
  column_of : (fault : Option ℕ) → HasTokens line 0 tokens fault → (column : ℕ) × IsBad line column
  column_of fault has =
      let most = farthest_of tokens (length FORMS) in
      elim (cases_order most.0 (length tokens)) [
        | inl e ↦ going fault has (all_goes tokens most.0 (omega arith) most.1.reached)
        | inr order ↦
            elim order [
              | inl h ↦
                  let wrong : Token = get_or tokens most.0 no_token in (
                    wrong.start + 1,
                    wrong_token line tokens read fault most.0 wrong has h
                        (at_place tokens most.0 no_token wrong h) most.1.reached
                        (farthest_stuck tokens (length FORMS) most.0 most.1 (omega arith) h),
                  )
              | inr h ↦ going fault has (all_goes tokens most.0 (omega arith) most.1.reached)
            ]
      ]

-- A line that is neither passed over nor says a command goes wrong in some column.
pub some_column : (line : List ℕ) → is_passed_over line ≡ false
    → ((command : Command) → Says line command → ⊥) → (column : ℕ) × IsBad line column
some_column line read unsaid =
    let has = some_tokens line in
    column_of line read unsaid has.0 has.1 has.2
