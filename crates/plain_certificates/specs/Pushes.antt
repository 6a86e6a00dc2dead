-- Flows along trails: what is sent more over one arc after another.
use Rattle.std.specs.Prelude.{ℕ, ◌==◌, cond, ℤ, pos, neg_ℤ, ◌+ℤ◌, List, [], ◌∷◌, map, true}
use Rattle.plain_certificates.specs.Walks.{Pace}
use Rattle.plain_certificates.specs.Tables.{set_at}

-- a value as a pace counts it: turned round where the arc is walked against
abbrev pub by_pace : Pace → ℤ → ℤ
by_pace pace value = cond pace.onward value (neg_ℤ value)

-- the flow once this much more is sent along the paces
abbrev pub pushed : ℤ → List Pace → (ℕ → ℤ) → ℕ → ℤ
pushed step [] flow = flow
pushed step (pace ∷ paces) flow =
    pushed step paces (set_at flow pace.arc (flow pace.arc +ℤ by_pace pace step))

-- the sum of a value along the paces
abbrev pub along_trail : (ℕ → ℤ) → List Pace → ℤ
along_trail value [] = pos 0
along_trail value (pace ∷ paces) = by_pace pace (value pace.arc) +ℤ along_trail value paces

-- a list of arcs, each walked as it goes
abbrev pub all_onward : List ℕ → List Pace
all_onward arcs = map (λ arc. record { arc = arc; onward = true }) arcs

-- a value at one node, and 0 elsewhere
abbrev pub at_node : ℕ → ℤ → ℕ → ℤ
at_node node value other = cond (node == other) value (pos 0)
