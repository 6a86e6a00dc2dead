-- The form that goes on farthest.
use Rattle.std.proofs.Common.{◌≡◌, ℕ, ◌+◌, ◌<◌, ◌≤◌, true, List, length, take, get_or, refl, sym}
use Rattle.std.proofs.Common.{subst, arith, below_more, nat_eq}
use Rattle.std.proofs.lemmas.Bool.{and_parts, and_from, eqb-true}
use Rattle.std.proofs.lemmas.List.{take_all}
use Rattle.token_text.specs.declared.tokens.Token.{Token}
use Rattle.script_words.specs.declared.forms.Form.{Form}
use Rattle.script_words.specs.declared.forms.Form.TheVariants as form
use Rattle.script_words.specs.declared.forms.TheConstants.{FORMS}
use Rattle.script_words.specs.Slots.{Slot, begins}
use Rattle.script_words.specs.Code.{reach, is_whole}
use Rattle.script_words.specs.Forms.{shape}
use Rattle.script_words.specs.Lines.{GoesOn, Matches}
use Rattle.script_words.proofs.Listed.{number, listed, number_within}
use Rattle.script_words.proofs.Reach.{begins_reach, reach_begins, reach_within}

-- The form at this place of the table.
abbrev pub form_at : ℕ → Form
form_at k = get_or FORMS k form.AddNode

-- The places of the form at this place of the table.
abbrev pub slots_at : ℕ → List Slot
slots_at k = (shape (form_at k)).slots

-- Some form goes on so far with these tokens, and of the first forms of the table none goes on
-- farther.
pub record Farthest (tokens : List Token) (i most : ℕ) : Type 0 where
  pub within : most ≤ length tokens
  pub reached : GoesOn (take most tokens)
  pub below : (k : ℕ) → k < i → reach (slots_at k) tokens ≤ most

-- Of no forms none goes on.
pub farthest_none : (tokens : List Token) → Farthest tokens 0 0
farthest_none tokens = record {
  within = omega arith;
  reached = (form.AddNode, refl);
  below = λ k h. absurd (omega arith);
}

-- One more form goes on farther.
pub farthest_more : (tokens : List Token) (i most reached : ℕ) → reached ≡ reach (slots_at i) tokens
    → Farthest tokens i most → most < reached → Farthest tokens (i + 1) reached
farthest_more tokens i most reached e f more = record {
  within = omega (arith, reach_within (slots_at i) tokens);
  reached = (
    form_at i,
    subst (λ n. begins (slots_at i) (take n tokens) ≡ true) (sym e)
        (begins_reach (slots_at i) tokens),
  );
  below = below_more (λ k. reach (slots_at k) tokens ≤ reached) i
      (λ k h. let old : reach (slots_at k) tokens ≤ most = f.below k h in omega arith)
      (omega arith);
}

-- One more form goes on no farther.
pub farthest_less : (tokens : List Token) (i most reached : ℕ) → reached ≡ reach (slots_at i) tokens
    → Farthest tokens i most → reached ≤ most → Farthest tokens (i + 1) most
farthest_less tokens i most reached e f less = record {
  within = f.within;
  reached = f.reached;
  below = below_more (λ k. reach (slots_at k) tokens ≤ most) i (λ k h. f.below k h) (omega arith);
}

-- No form goes on farther than the farthest of all.
pub farthest_stuck : (tokens : List Token) (i most : ℕ) → Farthest tokens i most → length FORMS ≤ i
    → most < length tokens → GoesOn (take (most + 1) tokens) → ⊥
farthest_stuck tokens i most f all more goes =
    let P : Form → Type 0 = λ g. reach (shape g).slots tokens ≤ most in
    let slots = (shape goes.0).slots in
    let within = number_within goes.0 in
    let low : reach slots tokens ≤ most =
    subst P (listed goes.0) (f.below (number goes.0) (omega arith)) in
    let high : most + 1 ≤ reach slots tokens =
    reach_begins slots tokens (most + 1) (omega arith) goes.1 in
    omega arith

-- Tokens that the code finds to be a form are one.
pub matches_whole : (form : Form) (tokens : List Token) → is_whole (shape form).slots tokens ≡ true
    → Matches form tokens
matches_whole form tokens e =
    let slots = (shape form).slots in
    let parts =
    and_parts (nat_eq (length slots) (length tokens)) (nat_eq (reach slots tokens) (length tokens))
    e in
    let wide : length slots ≡ length tokens = eqb-true _ _ parts.0 in
    let far : reach slots tokens ≡ length tokens = eqb-true _ _ parts.1 in
    record {
      begins =
          rw (take_all (reach slots tokens) tokens (omega arith)) at (begins_reach slots tokens);
      whole = sym wide;
    }

-- Equal numbers test as equal.
eqb_same : (a b : ℕ) → a ≡ b → nat_eq a b ≡ true
eqb_same a b e = grind arith

-- Tokens that are a form are found to be one.
pub whole_matches : (form : Form) (tokens : List Token) → Matches form tokens
    → is_whole (shape form).slots tokens ≡ true
whole_matches form tokens m =
    let slots = (shape form).slots in
    let wide : length tokens ≡ length slots = m.whole in
    let most : reach slots tokens ≤ length tokens = reach_within slots tokens in
    let all : begins slots (take (length tokens) tokens) ≡ true =
    rw (take_all (length tokens) tokens (omega arith)) m.begins in
    let far : length tokens ≤ reach slots tokens =
    reach_begins slots tokens (length tokens) (omega arith) all in
    let same : reach slots tokens ≡ length tokens = omega arith in
    and_from _ _ (eqb_same _ _ (sym wide)) (eqb_same _ _ same)
