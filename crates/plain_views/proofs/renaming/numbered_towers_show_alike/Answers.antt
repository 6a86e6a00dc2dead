use Rattle.std.proofs.Common.{ℕ, List}
use Rattle.plain_views.proofs.Renamed.{same_shown}
use Rattle.plain_views.proofs.renaming.numbered_towers_show_alike.Goals as goal

pub returns : goal.returns
returns c = λ number old new g tower agrees. same_shown (List ℕ) ℕ number old new g tower agrees
