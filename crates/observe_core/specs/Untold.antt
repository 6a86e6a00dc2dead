-- From the present record, the one from before an accepted notice.
use Rattle.std.specs.Prelude.{◌≡◌, ◌-◌, []}
use Rattle.base_items.specs.declared.items.Fact.{Fact}
use Rattle.plain_digraph.specs.Rising.{without_item, swapped}
use Rattle.observe_core.specs.Items.{number_id, drop_number}
use Rattle.plain_digraph.specs.Facts.{fact_id}
use Rattle.observe_core.specs.Facts.{end_of}
use Rattle.observe_core.specs.Held.{Held, Nothing, Values, Degree, Half, Kept, Ties, entry_id}
use Rattle.observe_core.specs.Held.{marked_id}
use Rattle.observe_core.specs.Guards.{tally_part}
use Rattle.observe_core.specs.Seen.{Seen}
use Rattle.observe_core.specs.Told.{held_shifted}

abbrev pub held_unadded : Fact → Held → Held
held_unadded f Nothing = Nothing
held_unadded f (Values t es) = Values t (without_item entry_id f.id es)
held_unadded f (Degree out ends) = Degree out (drop_number (end_of out f) ends)
held_unadded f (Half added others kept valid) =
    Half (without_item number_id f.id added) others kept valid
held_unadded f (Kept role all items) = Kept role all (without_item marked_id f.id items)
held_unadded f (Ties ties) = Ties ties

abbrev pub unadded : Fact → Seen → Seen
unadded f s =
    record s {
      added = s.added - tally_part s.kind 1;
      facts =
          without_item fact_id f.id s.facts;
      held = held_unadded f s.held;
    }

-- what is held goes back by the move that leads back
abbrev pub unshifted : Fact → Fact → Seen → Seen
unshifted old now s =
    record s {
      moved = s.moved - tally_part s.kind 1;
      facts = swapped fact_id old s.facts;
      held =
          held_shifted now old s.held;
    }

abbrev pub held_unbuilt : Held → Held
held_unbuilt Nothing = Nothing
held_unbuilt (Values t es) = Values t []
held_unbuilt (Degree out ends) = Degree out []
held_unbuilt (Half added others kept valid) = Half [] 0 [] valid
held_unbuilt (Kept role all items) = Kept role all []
held_unbuilt (Ties ties) = Ties []

abbrev pub unbuilt : Seen → Seen
unbuilt s = record s { facts = []; held = held_unbuilt s.held }

-- the observer tracks nothing
abbrev pub TracksNothing : Seen → Type 0
TracksNothing s = s ≡ unbuilt s
