use Rattle.std.proofs.Common.{ℕ, List}
use Rattle.plain_views.proofs.Towered.{tower_is_shown, tower_below}
use Rattle.plain_views.proofs.stacking.tower_is_shown.Goals as goal

pub returns-clause-named : goal.returns-clause-named
returns-clause-named c = λ values g tower valid. (
  tower_is_shown (List ℕ) values g valid tower,
  tower_below (List ℕ) values g valid tower,
)

pub returns-clause-numbered : goal.returns-clause-numbered
returns-clause-numbered c = λ values g tower valid.
    (tower_is_shown ℕ values g valid tower, tower_below ℕ values g valid tower)
