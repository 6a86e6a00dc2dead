-- Each adaptor shows a valid digraph where it is given one, and what bounds its ids.
use Rattle.std.specs.Prelude.{ℕ, Bool, ℤ}
use Rattle.plain_views.specs.Shown.{Shown, IsShown, AreBelow}
use Rattle.plain_views.specs.Adaptors.{reversed, sub, undirected, residual, split, twice}

-- the adaptor shows a valid digraph wherever it is given one
abbrev pub ShowsValid : (Shown → Shown) → Type 0
ShowsValid adaptor = (p : Shown) → IsShown p → IsShown (adaptor p)

-- its ids are below what the bound of the ids below becomes
abbrev pub BoundsIds : (Shown → Shown) → (ℕ → ℕ) → Type 0
BoundsIds adaptor grown = (p : Shown) (bound : ℕ) → IsShown p → AreBelow p bound
    → AreBelow (adaptor p) (grown bound)

-- reverse keeps the bound
abbrev pub ReversedIsShown : Type 0
ReversedIsShown = ShowsValid reversed × BoundsIds reversed (λ bound. bound)

-- sub keeps the bound, whatever its filters are
abbrev pub SubIsShown : Type 0
SubIsShown = (keeps_node keeps_arc : ℕ → Bool)
    → ShowsValid (sub keeps_node keeps_arc) × BoundsIds (sub keeps_node keeps_arc) (λ bound. bound)

-- undirect doubles the bound
abbrev pub UndirectedIsShown : Type 0
UndirectedIsShown = ShowsValid undirected × BoundsIds undirected twice

-- residual doubles the bound, whatever capacity and flow are
abbrev pub ResidualIsShown : Type 0
ResidualIsShown = (cap flow : ℕ → ℤ)
    → ShowsValid (residual cap flow) × BoundsIds (residual cap flow) twice

-- split doubles the bound
abbrev pub SplitIsShown : Type 0
SplitIsShown = ShowsValid split × BoundsIds split twice
