-- The first token with which no form goes on is one alone.
use Rattle.std.proofs.Common.{◌≡◌, ℕ, true, false, Option, inl, inr, List, [], ◌∷◌, ◌++◌, take}
use Rattle.std.proofs.Common.{drop, refl, sym, ◌∙◌, append_assoc}
use Rattle.std.proofs.lemmas.Bool.{and_parts, and_from}
use Rattle.std.proofs.lemmas.List.{take-append-drop}
use Rattle.token_text.specs.declared.tokens.Token.{Token}
use Rattle.script_words.specs.Slots.{Slot, fits, begins}
use Rattle.script_words.specs.Forms.{shape}
use Rattle.script_words.specs.Lines.{GoesOn, IsWrong, IsBadPlace}

-- A front of what goes on in a form goes on in it.
begins_front : (slots : List Slot) (front more : List Token) → begins slots (front ++ more) ≡ true
    → begins slots front ≡ true
begins_front slots [] more begun = refl
begins_front [] (token ∷ front) more begun = absurd (let no : false ≡ true = begun in cc)
begins_front (slot ∷ slots) (token ∷ front) more begun =
    let both = and_parts (fits slot token.bytes) (begins slots (front ++ more)) begun in
    and_from _ _ both.0 (begins_front slots front more both.1)

-- A front of what goes on goes on.
front_goes : (front more : List Token) → GoesOn (front ++ more) → GoesOn front
front_goes front more goes = (goes.0, begins_front (shape goes.0).slots front more goes.1)

-- The first of the tokens that go on go on.
pub take_goes : (tokens : List Token) (n : ℕ) → GoesOn tokens → GoesOn (take n tokens)
take_goes tokens n goes = front_goes (take n tokens) (drop n tokens) (rw take-append-drop goes)

-- Of a fact that holds of each front of what it holds of: one token at most is the first with which
-- it doesn't hold.
split_alone : (P : List Token → Type 0) → ((front more : List Token) → P (front ++ more) → P front)
    → (front other rest other_rest : List Token) (one two : Token)
    → front ++ one ∷ rest ≡ other ++ two ∷ other_rest
    → P front → (P (front ++ one ∷ []) → ⊥) → P other → (P (other ++ two ∷ []) → ⊥) → one ≡ two
split_alone P shorter [] [] rest other_rest one two same has lacks has' lacks' = cc
split_alone P shorter [] (first ∷ other) rest other_rest one two same has lacks has' lacks' =
    let heads : first ≡ one = cc in
    absurd (lacks (rw heads at (shorter (first ∷ []) other has')))
split_alone P shorter (first ∷ front) [] rest other_rest one two same has lacks has' lacks' =
    let heads : first ≡ two = cc in
    absurd (lacks' (rw heads at (shorter (first ∷ []) front has)))
split_alone P shorter (first ∷ front) (head ∷ other) rest other_rest one two same has lacks has'
    lacks' =
    let heads : head ≡ first = cc in
    let tails : front ++ one ∷ rest ≡ other ++ two ∷ other_rest = cc in
    split_alone (λ own. P (first ∷ own)) (λ own more. shorter (first ∷ own) more) front other
    rest other_rest one two tails has lacks (rw heads at has')
    (λ on. lacks' (rw heads on))

-- One token at most is the first with which no form goes on.
wrong_alone : (tokens : List Token) (one other : Token) → IsWrong tokens one → IsWrong tokens other
    → one ≡ other
wrong_alone tokens one other wrong wrong' =
    split_alone GoesOn front_goes wrong.front wrong'.front wrong.rest wrong'.rest one other
    (sym wrong.parts ∙ wrong'.parts) wrong.before wrong.here wrong'.before wrong'.here

-- Tokens of which one is wrong don't go on.
wrong_stuck : (tokens : List Token) (wrong : Token) → IsWrong tokens wrong → GoesOn tokens → ⊥
wrong_stuck tokens wrong is goes =
    let parts = is.parts ∙ sym (append_assoc is.front (wrong ∷ []) is.rest) in
    is.here (front_goes (is.front ++ wrong ∷ []) is.rest (rw parts at goes))

-- A line with these tokens and this fault goes wrong at one place at most.
pub place_alone : (line : List ℕ) (tokens : List Token) (fault : Option ℕ) (one other : ℕ)
    → IsBadPlace line tokens fault one → IsBadPlace line tokens fault other → one ≡ other
place_alone line tokens fault one other (inl bad) (inl bad') =
    let same : bad.0 ≡ bad'.0 = wrong_alone tokens bad.0 bad'.0 bad.1 bad'.1 in
    bad.2 ∙ (λ i. (same i).start) ∙ sym bad'.2
place_alone line tokens fault one other (inl bad) (inr goes) =
    absurd (wrong_stuck tokens bad.0 bad.1 goes.0)
place_alone line tokens fault one other (inr goes) (inl bad) =
    absurd (wrong_stuck tokens bad.0 bad.1 goes.0)
place_alone line tokens fault one other (inr goes) (inr goes') = goes.1 ∙ sym goes'.1
