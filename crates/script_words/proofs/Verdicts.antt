-- What a line's tokens say of the line.
use Rattle.std.proofs.Common.{◌≡◌, ℕ, zero, suc, ◌+◌, ◌<◌, ◌≤◌, false, Option, Some, None, inl, inr}
use Rattle.std.proofs.Common.{List, [], ◌∷◌, ◌++◌, length, take, drop, get_or, refl, ap, sym, ◌∙◌}
use Rattle.std.proofs.Common.{subst, arith, add-one}
use Rattle.std.proofs.lemmas.List.{take_all}
use Rattle.token_text.specs.declared.tokens.Token.{Token}
use Rattle.token_text.specs.Lines.{is_passed_over}
use Rattle.token_text.specs.LineTokens.{HasTokens}
use Rattle.token_text.proofs.TokensAlone.{tokens_alone}
use Rattle.script_words.specs.declared.commands.Command.{Command}
use Rattle.script_words.specs.declared.forms.Form.{Form}
use Rattle.script_words.specs.Lines.{Matches, GoesOn, Says, IsWrong, IsBad, IsBadPlace, command_of}
use Rattle.script_words.specs.Valid.{IsValid}
use Rattle.script_words.proofs.ValidForms.{valid_form}
use Rattle.script_words.proofs.Apart.{matches_alone}
use Rattle.script_words.proofs.WrongAlone.{take_goes, place_alone}

-- Where a front has all the tokens, they go on with it.
pub all_goes : (tokens : List Token) (n : ℕ) → length tokens ≤ n → GoesOn (take n tokens)
    → GoesOn tokens
all_goes tokens n h goes = rw (take_all n tokens h) at goes

-- The tokens are those before a place, the one at the place and those behind it.
pub parted : (tokens : List Token) (n : ℕ) (d : Token) → n < length tokens
    → tokens ≡ take n tokens ++ get_or tokens n d ∷ drop (suc n) tokens
parted [] n d h = absurd (omega arith)
parted (t ∷ ts) zero d h = refl
parted (t ∷ ts) (suc n) d h = ap (λ rest. t ∷ rest) (parted ts n d (omega arith))

-- A front and the token behind it are a front of one more.
pub one_more : (tokens : List Token) (n : ℕ) (d : Token) → n < length tokens
    → take n tokens ++ get_or tokens n d ∷ [] ≡ take (suc n) tokens
one_more [] n d h = absurd (omega arith)
one_more (t ∷ ts) zero d h = refl
one_more (t ∷ ts) (suc n) d h = ap (λ rest. t ∷ rest) (one_more ts n d (omega arith))

-- The tokens of a line that says a command match its form, and no fault stands behind them.
said_whole : (line : List ℕ) (tokens : List Token) (fault : Option ℕ)
    → HasTokens line 0 tokens fault
    → (command : Command) (says : Says line command) → Matches says.form tokens × (fault ≡ None)
said_whole line tokens fault reads command says =
    let same = tokens_alone line 0 says.tokens tokens None fault says.tokens_are reads in
    (rw same.tokens at says.matches, sym same.fault)

module _ (line : List ℕ) (tokens : List Token) (read : is_passed_over line ≡ false) where
  -- A line goes wrong at the first token with which no form goes on.
  pub wrong_token : (fault : Option ℕ) (n : ℕ) (wrong : Token) → HasTokens line 0 tokens fault
      → n < length tokens → wrong ≡ get_or tokens n wrong → GoesOn (take n tokens)
      → (GoesOn (take (n + 1) tokens) → ⊥) → IsBad line (wrong.start + 1)
  wrong_token fault n wrong reads h w goes stuck =
      let front = take n tokens in
      let rest = drop (suc n) tokens in
      let more : front ++ wrong ∷ [] ≡ take (n + 1) tokens =
      rw add-one (subst (λ (own : Token). front ++ own ∷ [] ≡ take (suc n) tokens) (sym w)
      (one_more tokens n wrong h)) in
      let is_wrong : IsWrong tokens wrong = record {
        front = front;
        rest = rest;
        parts = rw w (parted tokens n wrong h);
        before = goes;
        here = λ on. stuck (rw more at on);
      } in
      record {
        read = read;
        unsaid = λ command says.
            let whole = said_whole line tokens fault reads command says in
            stuck (take_goes tokens (n + 1) (says.form, whole.0.begins));
        tokens = tokens;
        fault = fault;
        tokens_are = reads;
        place = wrong.start;
        place_is = inl (wrong, is_wrong, refl);
        column_is = refl;
      }

  -- A line whose tokens go on goes wrong at the fault of the token behind them.
  pub unread_token : (place : ℕ) → HasTokens line 0 tokens (Some place) → GoesOn tokens
      → IsBad line (place + 1)
  unread_token place reads goes = record {
    read = read;
    unsaid = λ command says.
        let fault : Some place ≡ None =
        (said_whole line tokens (Some place) reads command says).1 in cc;
    tokens = tokens;
    fault = Some place;
    tokens_are = reads;
    place = place;
    place_is = inr (goes, refl);
    column_is = refl;
  }

  -- A line whose tokens go on and are no form goes wrong behind its last byte.
  pub missing_token : HasTokens line 0 tokens None → GoesOn tokens
      → ((form : Form) → Matches form tokens → ⊥) → IsBad line (length line + 1)
  missing_token reads goes none = record {
    read = read;
    unsaid = λ command says. none says.form (said_whole line tokens None reads command says).0;
    tokens = tokens;
    fault = None;
    tokens_are = reads;
    place = length line;
    place_is = inr (goes, refl);
    column_is = refl;
  }

-- What tokens that match a form say is valid.
pub says_valid : (tokens : List Token) (form : Form) (command : Command) → Matches form tokens
    → command ≡ command_of form tokens → IsValid command
says_valid tokens form command matches is =
    rw is (valid_form form tokens matches)

-- A line says one command at most.
pub one_command : (line : List ℕ) (one other : Command) → Says line one → Says line other
    → one ≡ other
one_command line one other says says' =
    let whole = said_whole line says'.tokens None says'.tokens_are one says in
    let same = tokens_alone line 0 says.tokens says'.tokens None None says.tokens_are
    says'.tokens_are in
    let form = matches_alone says.form says'.form says'.tokens whole.0 says'.matches in
    says.command_is ∙ (λ i. command_of (form i) (same.tokens i)) ∙ sym says'.command_is

-- A line goes wrong in one column at most.
pub one_column : (line : List ℕ) (one other : ℕ) → IsBad line one → IsBad line other → one ≡ other
one_column line one other bad bad' =
    let same =
    tokens_alone line 0 bad.tokens bad'.tokens bad.fault bad'.fault bad.tokens_are
    bad'.tokens_are in
    let here : IsBadPlace line bad'.tokens bad'.fault bad.place =
    rw (same.fault, same.tokens) at bad.place_is in
    let places = place_alone line bad'.tokens bad'.fault bad.place bad'.place here bad'.place_is in
    bad.column_is ∙ ap (λ place. place + 1) places ∙ sym bad'.column_is
