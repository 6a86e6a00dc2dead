-- Each form stands in the table.
use Rattle.std.proofs.Common.{◌≡◌, ℕ, ◌+◌, ◌<◌, cond, List, [], ◌∷◌, length, get_or, refl, lit<}
use Rattle.script_words.specs.declared.forms.Form.{Form}
use Rattle.script_words.specs.declared.forms.Form.TheVariants as form
use Rattle.script_words.specs.declared.forms.TheConstants.{FORMS}
use Rattle.script_words.specs.Forms.{shape}
use Rattle.script_words.proofs.Clash.{clash}

-- The place of a form in a list: that of the first one whose places don't clash with its own.
abbrev pub place_in : List Form → Form → ℕ
place_in [] form = 0
place_in (first ∷ others) form =
    cond (clash (shape first).slots (shape form).slots) (place_in others form + 1) 0

-- The place of a form in the table.
abbrev pub number : Form → ℕ
number form = place_in FORMS form

-- At a form's place stands the form.
pub listed : (f : Form) → get_or FORMS (number f) form.AddNode ≡ f
listed form.AddNode = refl
listed _ = refl

-- A form's place is in the table.
pub number_within : (f : Form) → number f < length FORMS
number_within form.AddNode = lit< tt
number_within _ = lit< tt
