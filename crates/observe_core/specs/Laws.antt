-- The laws of notices.
use Rattle.std.specs.Prelude.{◌≡◌, ◌≢◌, ◌↔◌, ℕ, ◌≤◌, List, [], Contains}
use Rattle.base_items.specs.declared.items.Fact.{Fact}
use Rattle.observe_core.specs.declared.changes.Change.{Change}
use Rattle.observe_core.specs.declared.losses.Loss.{Loss}
use Rattle.observe_core.specs.Held.{Held, IsHeldSound, making_of}
use Rattle.observe_core.specs.Guards.{Law}
use Rattle.observe_core.specs.Losses.{lost}
use Rattle.plain_digraph.specs.Rising.{with_item, without_item, swapped}
use Rattle.observe_core.specs.Items.{place_all, Lacks}
use Rattle.plain_digraph.specs.Facts.{fact_id}
use Rattle.observe_core.specs.Facts.{IsInBounds, AllInBounds, HasDistinctIds, IsLive}
use Rattle.observe_core.specs.Seen.{Seen, Lawful, HasOwnNumbers, IsSound, map_seen, need}
use Rattle.observe_core.specs.Told.{added, shifted, built, erased, cleared}
use Rattle.observe_core.specs.Fits.{Fits}
use Rattle.observe_core.specs.Changes.{told, untold, CanTell, CanUntell}

-- what is computed from the record that an accepted change gave is the record from before
abbrev pub BackAgain : Type 0
BackAgain = (c : Change) (s : Seen) → CanTell c s → IsSound s → untold c (told c s) ≡ s

-- an accepted change may be taken back
abbrev pub MayGoBack : Type 0
MayGoBack = (c : Change) (s : Seen) (reach : ℕ) → CanTell c s → IsSound s → need s ≤ reach
    → CanUntell c (told c s) reach

-- the kind, the parameter, the form and the arguments of the making stay
pub record IsMadeAs (old new : Seen) : Type 0 where
  pub kind : new.kind ≡ old.kind
  pub k : new.k ≡ old.k
  pub form : new.form ≡ old.form
  pub making : making_of new.held ≡ making_of old.held

-- no notice changes how an observer was made
abbrev pub StaysAsMade : Type 0
StaysAsMade = (s : Seen)
    → ((c : Change) → IsMadeAs s (told c s) × IsMadeAs s (untold c s))
    × ((l : Loss) → IsMadeAs s (lost l s))

-- a map is sound where what it holds is
abbrev pub MapIsSound : Type 0
MapIsSound = (held : Held) → IsHeldSound held → IsSound (map_seen held)

-- no accepted notice gives an observer a number that its kind doesn't have, or more than a fuse's
-- parameter
abbrev pub NumbersStayOwn : Type 0
NumbersStayOwn = (s : Seen) → HasOwnNumbers s
    → ((c : Change) → HasOwnNumbers (told c s)) × ((l : Loss) → HasOwnNumbers (lost l s))

-- an observer is lawful exactly where the facts that it stands for keep its law
abbrev pub LawIsOfLive : Type 0
LawIsOfLive = (s : Seen) (live : List Fact) → Fits s live → Lawful s ↔ Law s.kind s.k live

-- what stood for some facts stands for these and the new one
abbrev pub AddedFits : Type 0
AddedFits = (f : Fact) (s : Seen) (live : List Fact) → Fits s live → Lacks fact_id f.id live
    → Fits (added f s) (with_item fact_id f live)

-- and for the new fact in place of the old
abbrev pub ShiftedFits : Type 0
ShiftedFits = (old now : Fact) (s : Seen) (live : List Fact) → Fits s live → IsLive live
    → Contains live old → now.id ≡ old.id → now ≢ old
    → Fits (shifted old now s) (swapped fact_id now live)

-- what stood for nothing stands for all that was told
abbrev pub BuiltFits : Type 0
BuiltFits = (all : List Fact) (s : Seen) → Fits s [] → Fits (built all s) (place_all fact_id all [])

abbrev pub ErasedFits : Type 0
ErasedFits = (f : Fact) (s : Seen) (live : List Fact) → Fits s live → IsLive live → IsSound s
    → Contains live f → Fits (erased f s) (without_item fact_id f.id live)

abbrev pub ClearedFits : Type 0
ClearedFits = (s : Seen) (live : List Fact) → Fits s live → Fits (cleared s) []

-- lists of live facts stay such lists
abbrev pub LiveAdded : Type 0
LiveAdded = (f : Fact) (live : List Fact) → IsLive live → Lacks fact_id f.id live → IsInBounds f
    → IsLive (with_item fact_id f live)

abbrev pub LiveShifted : Type 0
LiveShifted = (now : Fact) (live : List Fact) → IsLive live → IsInBounds now
    → IsLive (swapped fact_id now live)

abbrev pub LiveErased : Type 0
LiveErased = (i : ℕ) (live : List Fact) → IsLive live → IsLive (without_item fact_id i live)

abbrev pub LiveBuilt : Type 0
LiveBuilt = (all : List Fact) → HasDistinctIds all → AllInBounds all
    → IsLive (place_all fact_id all [])
