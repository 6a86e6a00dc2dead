-- Facts that go into a table one after the other.
use Rattle.std.specs.Prelude.{List, [], ◌∷◌}
use Rattle.base_items.specs.declared.items.Fact.{Fact}
use Rattle.plain_digraph.specs.Facts.{fact_id}
use Rattle.observe_core.specs.Items.{Lacks}
use Rattle.observe_core.specs.Facts.{IsInBounds}

-- facts that can be put into a table beside those that are there
abbrev pub Fresh : List Fact → List Fact → Type 0
Fresh [] there = Unit {0}
Fresh (f ∷ fs) there = Lacks fact_id f.id there
    × (Lacks fact_id f.id fs × (IsInBounds f × Fresh fs there))
