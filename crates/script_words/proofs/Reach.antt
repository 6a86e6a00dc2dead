-- How far a form goes on, and whether it goes on with given tokens.
use Rattle.std.proofs.Common.{◌≡◌, ℕ, zero, suc, ◌≤◌, Bool, true, false, List, [], ◌∷◌, length}
use Rattle.std.proofs.Common.{take, refl, arith, add-one}
use Rattle.std.proofs.lemmas.Bool.{and_parts}
use Rattle.token_text.specs.declared.tokens.Token.{Token}
use Rattle.script_words.specs.Slots.{Slot, fits, begins}
use Rattle.script_words.specs.Code.{reach}

-- What follows from either answer of a test holds.
pub by_test : (b : Bool) (P : Type 0) → (b ≡ true → P) → (b ≡ false → P) → P
by_test true P so so_not = so refl
by_test false P so so_not = so_not refl

-- The form goes on with the tokens that it reaches.
pub begins_reach : (slots : List Slot) (tokens : List Token)
    → begins slots (take (reach slots tokens) tokens) ≡ true
begins_reach [] tokens = refl
begins_reach (slot ∷ slots) [] = refl
begins_reach (slot ∷ slots) (token ∷ tokens) =
    let rest = begins_reach slots tokens in
    let all = token ∷ tokens in
    by_test (fits slot token.bytes)
    (begins (slot ∷ slots) (take (reach (slot ∷ slots) all) all) ≡ true)
    (λ e. rw (e, add-one, e) rest)
    (λ e. rw e refl)

-- A form reaches each token up to which it goes on.
pub reach_begins : (slots : List Slot) (tokens : List Token) (n : ℕ)
    → n ≤ length tokens → begins slots (take n tokens) ≡ true → n ≤ reach slots tokens
reach_begins slots tokens zero h b = omega arith
reach_begins [] [] (suc n) h b = absurd (omega arith)
reach_begins [] (token ∷ tokens) (suc n) h b = absurd (let e : false ≡ true = b in cc)
reach_begins (slot ∷ slots) [] (suc n) h b = absurd (omega arith)
reach_begins (slot ∷ slots) (token ∷ tokens) (suc n) h b =
    let both = and_parts (fits slot token.bytes) (begins slots (take n tokens)) b in
    let more : n ≤ reach slots tokens = reach_begins slots tokens n (omega arith) both.1 in
    rw both.0 (omega arith)

-- No more tokens are reached than there are.
pub reach_within : (slots : List Slot) (tokens : List Token) → reach slots tokens ≤ length tokens
reach_within [] tokens = omega arith
reach_within (slot ∷ slots) [] = omega arith
reach_within (slot ∷ slots) (token ∷ tokens) =
    let more : reach slots tokens ≤ length tokens = reach_within slots tokens in
    by_test (fits slot token.bytes)
    (reach (slot ∷ slots) (token ∷ tokens) ≤ length (token ∷ tokens))
    (λ e. rw e (omega arith))
    (λ e. rw e (omega arith))
