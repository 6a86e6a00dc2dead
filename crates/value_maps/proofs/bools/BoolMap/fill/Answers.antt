use Rattle.value_maps.proofs.BlankValues.{ids_below}
use Rattle.value_maps.proofs.bools.BoolMap.fill.Goals as goal

pub invariant_of-self : goal.invariant_of-self
invariant_of-self c = record {
  blank = c.fill.ensures.blank c.args.self.now.blank;
  small = c.fill.ensures.extent 4194304 c.args.self.now.small
      (ids_below c.args.all.now c.requires.bounded);
}
