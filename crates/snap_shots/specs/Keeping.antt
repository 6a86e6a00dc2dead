-- A half with other kept facts.
use Rattle.std.specs.Prelude.{List}
use Rattle.base_items.specs.declared.items.Fact.{Fact}
use Rattle.observe_core.specs.Held.{Held, Nothing, Values, Degree, Half, Kept, Ties}
use Rattle.observe_core.specs.Seen.{Seen}
use Rattle.snap_shots.specs.declared.half.Half.{Half as TheHalf}
use Rattle.snap_shots.specs.HalfViews.{half_seen, stepped}

abbrev pub held_keeping : List Fact → Held → Held
held_keeping kept Nothing = Nothing
held_keeping kept (Values t es) = Values t es
held_keeping kept (Degree out ends) = Degree out ends
held_keeping kept (Half added others was valid) = Half added others kept valid
held_keeping kept (Kept role all items) = Kept role all items
held_keeping kept (Ties ties) = Ties ties

abbrev pub keeping : List Fact → Seen → Seen
keeping kept s = record s { held = held_keeping kept s.held }

-- a half after a move
abbrev pub after_step : TheHalf → Fact → Fact → Seen
after_step h old now = keeping (stepped h old now) (half_seen h)
