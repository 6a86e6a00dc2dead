-- The command of a form's words is valid.
use Rattle.std.proofs.Common.{◌≡◌, ℕ, ◌<◌, ◌≤◌, Bool, true, false, not, ◌&&◌, List, length, get_or}
use Rattle.std.proofs.Common.{nat_le, refl, sym, arith, lit<}
use Rattle.std.specs.List.{list_all}
use Rattle.std.proofs.lemmas.Bool.{and_parts, leb-true}
use Rattle.token_text.specs.declared.tokens.Token.{Token}
use Rattle.script_words.specs.declared.forms.Form.{Form}
use Rattle.script_words.specs.declared.forms.Form.TheVariants as form
use Rattle.script_words.specs.Slots.{Name, Amount, fits, word_at, is_amount, is_dash}
use Rattle.script_words.specs.Slots.{is_digit, map_of, number_of}
use Rattle.script_words.specs.Forms.{shape}
use Rattle.script_words.specs.Lines.{Matches, command_of}
use Rattle.script_words.specs.Valid.{IsOptional, IsValid}
use Rattle.script_words.proofs.Amounts.{fits_at}
use Rattle.script_words.proofs.Reach.{by_test}

-- What is not true is false.
not_true : (b : Bool) → not b ≡ true → b ≡ false
not_true true e = sym e
not_true false e = refl

-- A map that may be absent is valid.
optional : (bytes : List ℕ) → IsOptional (map_of bytes)
optional bytes =
    by_test (is_dash bytes) (IsOptional (map_of bytes)) (λ dash. rw dash tt) (λ name. rw name name)

-- The word at a place of a form fits there.
fit : (known : Form) (tokens : List Token) (place : ℕ)
    → Matches known tokens → place < length (shape known).slots
    → fits (get_or (shape known).slots place Name) (word_at tokens place) ≡ true
fit known tokens place matches within =
    let whole : length tokens ≡ length (shape known).slots = matches.whole in
    fits_at (shape known).slots tokens place matches.begins (omega arith)

-- The number lies between the two.
record Within (low high number : ℕ) : Type 0 where
  above : low ≤ number
  below : number ≤ high

-- The number of an amount lies between the two.
within : (low high : ℕ) (bytes : List ℕ) → is_amount low high bytes ≡ true
    → Within low high (number_of bytes)
within low high bytes e =
    let front = nat_le 1 (length bytes) && nat_le (length bytes) 7 && list_all is_digit bytes in
    let upper = and_parts (front && nat_le low (number_of bytes)) (nat_le (number_of bytes) high)
    e in
    let lower = and_parts front (nat_le low (number_of bytes)) upper.0 in
    record { above = leb-true _ _ lower.1; below = leb-true _ _ upper.1 }

-- The number at the fifth place of a form lies in its range.
ranged : (known : Form) (tokens : List Token) (low high : ℕ)
    → Matches known tokens → length (shape known).slots ≡ 5
    → get_or (shape known).slots 4 Name ≡ Amount low high
    → Within low high (number_of (word_at tokens 4))
ranged known tokens low high matches five last =
    within low high (word_at tokens 4) (rw last at (fit known tokens 4 matches (omega arith)))

-- The command of the words that match a form is valid.
pub valid_form : (known : Form) (tokens : List Token) → Matches known tokens
    → IsValid (command_of known tokens)
valid_form form.NodeMap tokens matches = not_true _ (fit form.NodeMap tokens 1 matches (lit< tt))
valid_form form.ArcMap tokens matches = not_true _ (fit form.ArcMap tokens 1 matches (lit< tt))
valid_form form.Degree tokens matches = not_true _ (fit form.Degree tokens 1 matches (lit< tt))
valid_form form.Trues tokens matches = not_true _ (fit form.Trues tokens 2 matches (lit< tt))
valid_form form.NodeQuota tokens matches =
    (ranged form.NodeQuota tokens 0 4194304 matches refl refl).below
valid_form form.NodeFuse tokens matches =
    let range = ranged form.NodeFuse tokens 1 4194304 matches refl refl in
    (range.above, range.below)
valid_form form.ArcQuota tokens matches =
    (ranged form.ArcQuota tokens 0 4194304 matches refl refl).below
valid_form form.ArcOutCap tokens matches =
    (ranged form.ArcOutCap tokens 0 4194304 matches refl refl).below
valid_form form.ArcFuse tokens matches =
    let range = ranged form.ArcFuse tokens 1 4194304 matches refl refl in (range.above, range.below)
valid_form form.ViewSub tokens matches = (optional (word_at tokens 4), optional (word_at tokens 5))
valid_form form.Circulate tokens matches =
    (optional (word_at tokens 2), optional (word_at tokens 3), optional (word_at tokens 4))
valid_form form.CirculateInto tokens matches =
    (optional (word_at tokens 2), optional (word_at tokens 3), optional (word_at tokens 4))
valid_form form.MinCost tokens matches =
    (optional (word_at tokens 2), optional (word_at tokens 3), optional (word_at tokens 5))
valid_form form.MinCostInto tokens matches =
    (optional (word_at tokens 2), optional (word_at tokens 3), optional (word_at tokens 5))
valid_form form.Simplex tokens matches =
    (optional (word_at tokens 2), optional (word_at tokens 3), optional (word_at tokens 5))
valid_form form.SimplexInto tokens matches =
    (optional (word_at tokens 2), optional (word_at tokens 3), optional (word_at tokens 5))
valid_form _ tokens matches = tt
