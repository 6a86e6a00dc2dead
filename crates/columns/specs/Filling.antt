-- Facts whose entries can be put beside those that are there.
use Rattle.std.specs.Prelude.{List, [], ◌∷◌}
use Rattle.base_items.specs.declared.items.Fact.{Fact}
use Rattle.plain_digraph.specs.Facts.{fact_id}
use Rattle.observe_core.specs.Held.{Entry, entry_id}
use Rattle.observe_core.specs.Items.{Lacks}

abbrev pub FreshEntries : {V : Type 0} → List Fact → List (Entry V) → Type 0
FreshEntries [] there = Unit {0}
FreshEntries (f ∷ fs) there = Lacks entry_id f.id there
    × (Lacks fact_id f.id fs × FreshEntries fs there)
