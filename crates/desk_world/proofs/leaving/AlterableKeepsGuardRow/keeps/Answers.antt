use Rattle.std.proofs.Common.{◌≡◌, Option, Some, None, refl, is_some, ◌∙◌, Bor}
use Rattle.std.specs.Option.{option_copied}
use Rattle.alter_graph.specs.Chains.{chains_seen}
use Rattle.desk_world.proofs.Left.{found_there}
use Rattle.desk_world.proofs.leaving.AlterableKeepsGuardRow.keeps.Goals as goal

pub returns : goal.returns
returns g c =
    c.is_some.ensures ∙ of c.seat.result
    ∙ found_there g.O.Observer.watch
    (chains_seen g.O.Observer.watch c.args.self.now.chains) c.args.row.now.sort
    c.args.row.now.key.0 (option_copied c.seat.result) c.seat.ensures
  where
    of : {X : Type 0} (r : Option (Bor X)) → is_some r ≡ is_some (option_copied r)
    of None = refl
    of (Some x) = refl
