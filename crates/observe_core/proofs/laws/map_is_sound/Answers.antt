use Rattle.observe_core.proofs.SoundLemmas.{map_sound}
use Rattle.observe_core.proofs.laws.map_is_sound.Goals as goal

pub returns : goal.returns
returns c = map_sound
