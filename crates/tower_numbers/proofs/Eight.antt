-- Eight levels are all of a tower of at most eight layers.
use Rattle.std.proofs.Common.{◌≡◌, ℕ, ◌≤◌, List, length, take}
use Rattle.std.proofs.lemmas.List.{take_all}
use Rattle.plain_digraph.specs.Digraph.{Digraph}
use Rattle.plain_views.specs.Towers.{Values, shown}
use Rattle.view_tower.specs.declared.layers.Layer.{Layer}
use Rattle.view_tower.specs.Layers.{tower_of}

pub all_eight : (values : Values ℕ) (g : Digraph) (layers : List Layer) → length layers ≤ 8
    → shown values g (tower_of (take 8 layers)) ≡ shown values g (tower_of layers)
all_eight values g layers few i = shown values g (tower_of (take_all 8 layers few i))
