-- Which items of a view may be asked.
use Rattle.std.specs.Prelude.{◌≡◌, ℕ, Bool, true}
use Rattle.plain_digraph.specs.Lists.{has}
use Rattle.plain_views.specs.Shown.{Shown, has_arc}

-- the test admits each node that is shown
abbrev pub AdmitsNodes : (ℕ → Bool) → Shown → Type 0
AdmitsNodes admits p = (node : ℕ) → has p.nodes node ≡ true → admits node ≡ true

-- the test admits each arc that is shown
abbrev pub AdmitsArcs : (ℕ → Bool) → Shown → Type 0
AdmitsArcs admits p = (arc : ℕ) → has_arc p arc ≡ true → admits arc ≡ true
