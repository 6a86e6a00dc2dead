use Rattle.std.proofs.Common.{ℕ, List}
use Rattle.plain_views.proofs.Towered.{shows_live}
use Rattle.plain_views.proofs.stacking.tower_shows_live_items.Goals as goal

pub returns-clause-named : goal.returns-clause-named
returns-clause-named c = λ values g tower valid. shows_live (List ℕ) values g valid tower

pub returns-clause-numbered : goal.returns-clause-numbered
returns-clause-numbered c = λ values g tower valid. shows_live ℕ values g valid tower
