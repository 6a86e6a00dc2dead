-- Tests of slots that hold facts.
use Rattle.std.specs.Prelude.{Bool, ◌&&◌, nat_lt, List}
use Rattle.base_items.specs.declared.items.Fact.{Fact}
use Rattle.plain_digraph.specs.Facts.{fact_id}
use Rattle.observe_core.specs.Slots.{well_placed}
use Rattle.std.specs.Prelude.{Option}

-- the id and the ends are those of an item
abbrev pub is_in_bounds : Fact → Bool
is_in_bounds f = nat_lt f.id 4194304 && nat_lt f.from 4194304 && nat_lt f.to 4194304

-- each fact stands in the slot of its id
abbrev pub facts_placed : List (Option Fact) → Bool
facts_placed slots = well_placed fact_id is_in_bounds 0 slots
