-- What each accepted notice gives.
use Rattle.std.specs.Prelude.{ℕ, ◌+◌, ◌-◌, Bool, false, ◌&&◌, ◌==◌, if◌then◌else◌, List, [], ◌∷◌}
use Rattle.std.specs.Prelude.{map, length}
use Rattle.base_items.specs.declared.items.Fact.{Fact}
use Rattle.plain_digraph.specs.Rising.{with_item, without_item, swapped}
use Rattle.observe_core.specs.Items.{place_all, has_id, number_id, put_number, drop_number}
use Rattle.plain_digraph.specs.Facts.{fact_id}
use Rattle.observe_core.specs.Facts.{end_of, has_fact}
use Rattle.observe_core.specs.Held.{Held, Nothing, Values, Degree, Half, Kept, Ties, MapType}
use Rattle.observe_core.specs.Held.{ValueOf, default_of, Entry, entry_id, Marked, marked_id}
use Rattle.observe_core.specs.Held.{tied_id}
use Rattle.observe_core.specs.Guards.{by_kind, fuse_part, tally_part}
use Rattle.observe_core.specs.Seen.{Seen}

-- a new item
abbrev pub new_entry : (t : MapType) → ℕ → Entry (ValueOf t)
new_entry t i = record { id = i; value = default_of t }

abbrev pub new_marked : Bool → Fact → Marked
new_marked all f = record { fact = f; shown = all; forward = false; backward = false }

-- an addition
abbrev pub held_added : Fact → Held → Held
held_added f Nothing = Nothing
held_added f (Values t es) = Values t (with_item entry_id (new_entry t f.id) es)
held_added f (Degree out ends) = Degree out (put_number (end_of out f) ends)
held_added f (Half added others kept valid) =
    Half (with_item number_id f.id added) others kept valid
held_added f (Kept role all items) = Kept role all (with_item marked_id (new_marked all f) items)
held_added f (Ties ties) = Ties ties

abbrev pub added : Fact → Seen → Seen
added f s =
    record s {
      added = s.added + tally_part s.kind 1;
      facts =
          by_kind s.facts (with_item fact_id f s.facts) s.kind;
      held = held_added f s.held;
    }

-- the facts that a half keeps, after a move of an item that was there at its making: it keeps the
-- old fact, where it has none of the item, and gives up the one to which the move leads back
abbrev pub kept_moved : Fact → Fact → List Fact → List Fact
kept_moved old now kept =
    if has_id fact_id old.id kept then
    (if has_fact now kept then without_item fact_id old.id kept else kept) else with_item
    fact_id old kept

-- the item's marks stay
abbrev pub marked_moved : Fact → List Marked → List Marked
marked_moved now [] = []
marked_moved now (m ∷ ms) =
    (if m.fact.id == now.id then record m { fact = now } else m) ∷ marked_moved now ms

-- a move
abbrev pub held_shifted : Fact → Fact → Held → Held
held_shifted old now Nothing = Nothing
held_shifted old now (Values t es) = Values t es
held_shifted old now (Degree out ends) =
    Degree out (put_number (end_of out now) (drop_number (end_of out old) ends))
held_shifted old now (Half added others kept valid) =
    Half added others (if has_id number_id old.id added then kept else kept_moved old now kept)
    valid
held_shifted old now (Kept role all items) = Kept role all (marked_moved now items)
held_shifted old now (Ties ties) = Ties ties

abbrev pub shifted : Fact → Fact → Seen → Seen
shifted old now s =
    record s {
      moved = s.moved + tally_part s.kind 1;
      facts = swapped fact_id now s.facts;
      held =
          held_shifted old now s.held;
    }

-- a build
abbrev pub held_built : List Fact → Held → Held
held_built all Nothing = Nothing
held_built all (Values t es) = Values t (place_all entry_id (map (λ f. new_entry t f.id) all) [])
held_built all (Degree out ends) = Degree out (place_all number_id (map (end_of out) all) [])
held_built all (Half added others kept valid) = Half [] (length all) [] valid
held_built all (Kept role shows items) =
    Kept role shows (place_all marked_id (map (new_marked shows) all) [])
held_built all (Ties ties) = Ties []

abbrev pub built : List Fact → Seen → Seen
built all s =
    record s {
      facts = by_kind s.facts (place_all fact_id all []) s.kind;
      held =
          held_built all s.held;
    }

-- an erasure
abbrev pub held_erased : Fact → Held → Held
held_erased f Nothing = Nothing
held_erased f (Values t es) = Values t (without_item entry_id f.id es)
held_erased f (Degree out ends) = Degree out (drop_number (end_of out f) ends)
held_erased f (Half added others kept valid) =
    if has_id number_id f.id added then Half (without_item number_id f.id added) others
    (without_item fact_id f.id kept) valid
    else Half added (others - 1) (without_item fact_id f.id kept) false
held_erased f (Kept role all items) = Kept role all (without_item marked_id f.id items)
held_erased f (Ties ties) = Ties (without_item tied_id f.id ties)

abbrev pub erased : Fact → Seen → Seen
erased f s =
    record s {
      left = s.left - fuse_part s.kind 1;
      erased = s.erased + tally_part s.kind 1;
      facts =
          without_item fact_id f.id s.facts;
      held = held_erased f s.held;
    }

-- a clear
abbrev pub held_cleared : Held → Held
held_cleared Nothing = Nothing
held_cleared (Values t es) = Values t []
held_cleared (Degree out ends) = Degree out []
held_cleared (Half added others kept valid) = Half [] 0 [] (valid && others == 0)
held_cleared (Kept role all items) = Kept role all []
held_cleared (Ties ties) = Ties []

abbrev pub cleared : Seen → Seen
cleared s = record s {
  erased = s.erased + tally_part s.kind (length s.facts);
  facts = [];
  held =
      held_cleared s.held;
}

-- a guard is armed: its counts begin anew
abbrev pub armed : ℕ → Seen → Seen
armed k s = record s { k = k; left = fuse_part s.kind k; added = 0; erased = 0; moved = 0 }
