-- What comes of a fact that a guard is to track.
use Rattle.std.specs.Prelude.{◌≡◌, ℕ, ◌<◌, List, Result, Ok, Err}
use Rattle.base_items.specs.declared.items.Fact.{Fact}
use Rattle.observe_core.specs.declared.kinds.Veto.{Veto}
use Rattle.observe_core.specs.declared.kinds.Veto.TheVariants.{Refused, Memory}
use Rattle.plain_digraph.specs.Rising.{with_item}
use Rattle.plain_digraph.specs.Facts.{fact_id}
use Rattle.observe_core.specs.Seen.{Seen}
use Rattle.guard_kinds.specs.Keys.{with_key, limit_of}

-- the facts, in place of those that are tracked
abbrev pub tracking : List Fact → Seen → Seen
tracking facts s = record s { facts = facts }

-- it is tracked, or a key would pass its limit, or there is no memory
abbrev pub Puts : {E : Type 0} → Result E Veto → Fact → Seen → Seen → Type 0
Puts (Ok _) f old new = new ≡ tracking (with_item fact_id f old.facts) old
Puts (Err Refused) f old new = (new ≡ old)
    × ((n : ℕ) × (limit_of old.kind old.k < with_key old.kind n (with_item fact_id f old.facts)))
Puts (Err Memory) f old new = new ≡ old
