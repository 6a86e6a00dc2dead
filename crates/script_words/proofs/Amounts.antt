-- What is known of the word at a place of a form.
use Rattle.std.proofs.Common.{◌≡◌, ℕ, zero, suc, ◌<◌, true, false, Some, List, [], ◌∷◌, length}
use Rattle.std.proofs.Common.{get_or, ap, arith}
use Rattle.std.proofs.lemmas.Bool.{and_parts}
use Rattle.token_text.specs.declared.tokens.Token.{Token}
use Rattle.base_items.specs.declared.items.ItemSort.{ItemSort}
use Rattle.script_words.specs.declared.commands.Command.{Command}
use Rattle.script_words.specs.declared.commands.Command.TheVariants.{Guard}
use Rattle.script_words.specs.declared.commands.GuardWord.{GuardWord}
use Rattle.script_words.specs.declared.forms.Form.{Form}
use Rattle.script_words.specs.Slots.{Slot, Name, Amount, fits, begins, word_at, is_amount}
use Rattle.script_words.specs.Slots.{number_of}
use Rattle.script_words.specs.Forms.{shape}
use Rattle.script_words.specs.Lines.{Matches, command_of}

-- The word at a place of a form whose first tokens these are fits there.
pub fits_at : (slots : List Slot) (tokens : List Token) (place : ℕ)
    → begins slots tokens ≡ true → place < length tokens
    → fits (get_or slots place Name) (word_at tokens place) ≡ true
fits_at slots [] place first within = absurd (omega arith)
fits_at [] (token ∷ tokens) place first within = absurd (let never : false ≡ true = first in cc)
fits_at (slot ∷ slots) (token ∷ tokens) zero first within =
    (and_parts (fits slot token.bytes) (begins slots tokens) first).0
fits_at (slot ∷ slots) (token ∷ tokens) (suc place) first within =
    fits_at slots tokens place (and_parts (fits slot token.bytes) (begins slots tokens) first).1
    (omega arith)

-- What `numbered` makes of a form of five words that ends with an amount is the command of the
-- form.
pub guard_said : (form known : Form) (words : List Token) (low high : ℕ) (sort : ItemSort)
    (kind : GuardWord)
    (name number : List ℕ) (said : Command) → form ≡ known → Matches form words
    → length (shape known).slots ≡ 5 → get_or (shape known).slots 4 Name ≡ Amount low high
    → command_of known words ≡ Guard (word_at words 1) sort kind
    (Some (number_of (word_at words 4)))
    → name ≡ word_at words 1 → number ≡ word_at words 4
    → ((low high : ℕ) → is_amount low high number ≡ true
    → said ≡ Guard name sort kind (Some (number_of number)))
    → said ≡ command_of form words
guard_said form known words low high sort kind name number said is matches five last says name_is
    number_is given =
    let there = rw is at matches in
    let whole : length words ≡ length (shape known).slots = there.whole in
    let fit = fits_at (shape known).slots words 4 there.begins (omega arith) in
    let amount : is_amount low high (word_at words 4) ≡ true = rw last at fit in
    let given_says = given low high (rw number_is amount) in
    let same = ap (λ form. command_of form words) is in
    cc
