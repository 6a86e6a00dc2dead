use Rattle.std.proofs.Common.{ℕ, List}
use Rattle.plain_views.proofs.Renamed.{same_ints}
use Rattle.plain_views.proofs.renaming.numbered_maps_pull_alike.Goals as goal

pub returns : goal.returns
returns c = λ number old new tower name arc agrees.
    same_ints (List ℕ) ℕ number old new tower name arc agrees
