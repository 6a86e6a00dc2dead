use Rattle.std.proofs.Common.{◌≡◌, take}
use Rattle.view_tower.specs.Layers.{tower_of}
use Rattle.desk_world.specs.NodeWords.{letters_of}
use Rattle.desk_world.proofs.node_words.count_letters.Given as goal

abbrev pub invariant-loop-layer : goal.invariant-loop-layer
invariant-loop-layer l =
    l.count ≡ letters_of (tower_of (take l.layer-index l.layers))
