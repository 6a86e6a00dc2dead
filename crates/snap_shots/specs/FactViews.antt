-- What contracts see of facts by rising id.
use Rattle.std.specs.Prelude.{ℕ, List}
use Rattle.std.specs.Vec.{vec_capacity}
use Rattle.base_items.specs.declared.items.Fact.{Fact}
use Rattle.snap_shots.specs.declared.facts.RisingFacts.{RisingFacts}

abbrev pub facts_in : RisingFacts → List Fact
facts_in f = f.facts.items

-- so many facts can be there without memory
abbrev pub room_of : RisingFacts → ℕ
room_of f = vec_capacity f.facts
