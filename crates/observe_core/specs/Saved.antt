-- What a half saves: the facts that its items had at the making.
use Rattle.std.specs.Prelude.{◌≡◌, ℕ, Bool, true, ◌==◌, if◌then◌else◌, IsTrue, List, [], ◌∷◌}
use Rattle.std.specs.Prelude.{Contains}
use Rattle.base_items.specs.declared.items.Fact.{Fact}
use Rattle.plain_digraph.specs.Rising.{with_item, without_item, swapped}
use Rattle.observe_core.specs.Items.{Lacks, has_id, number_id}
use Rattle.plain_digraph.specs.Facts.{fact_id}
use Rattle.observe_core.specs.Facts.{IsLive}
use Rattle.observe_core.specs.Held.{Held, Nothing, Values, Degree, Half, Kept, Ties}
use Rattle.observe_core.specs.Seen.{Seen, IsSound}
use Rattle.observe_core.specs.Told.{added, shifted, erased, cleared}
use Rattle.observe_core.specs.Fits.{Fits}

-- the kept fact of an item, or else the present one
abbrev pub was_of : List Fact → Fact → Fact
was_of [] f = f
was_of (k ∷ ks) f = if k.id == f.id then k else was_of ks f

-- without the added items, and with the kept facts in place of the present ones
abbrev pub saved : List ℕ → List Fact → List Fact → List Fact
saved added kept [] = []
saved added kept (f ∷ fs) =
    if has_id number_id f.id added then saved added kept fs else was_of kept f ∷ saved added kept fs

abbrev pub saved_of : Held → List Fact → List Fact
saved_of Nothing live = []
saved_of (Values t es) live = []
saved_of (Degree out ends) live = []
saved_of (Half added others kept valid) live = saved added kept live
saved_of (Kept role all items) live = []
saved_of (Ties ties) live = []

abbrev pub is_valid : Held → Bool
is_valid Nothing = true
is_valid (Values t es) = true
is_valid (Degree out ends) = true
is_valid (Half added others kept valid) = valid
is_valid (Kept role all items) = true
is_valid (Ties ties) = true

-- no notice but a build changes what a half saves that is valid afterwards
abbrev pub AddedSaves : Type 0
AddedSaves = (f : Fact) (s : Seen) (live : List Fact) → Lacks fact_id f.id live
    → saved_of (added f s).held (with_item fact_id f live) ≡ saved_of s.held live

abbrev pub ShiftedSaves : Type 0
ShiftedSaves = (old now : Fact) (s : Seen) (live : List Fact) → IsLive live → IsSound s
    → Contains live old → now.id ≡ old.id
    → saved_of (shifted old now s).held (swapped fact_id now live) ≡ saved_of s.held live

abbrev pub ErasedSaves : Type 0
ErasedSaves = (f : Fact) (s : Seen) (live : List Fact) → IsTrue (is_valid (erased f s).held)
    → saved_of (erased f s).held (without_item fact_id f.id live) ≡ saved_of s.held live

abbrev pub ClearedSaves : Type 0
ClearedSaves = (s : Seen) (live : List Fact) → Fits s live → IsLive live → IsSound s
    → IsTrue (is_valid (cleared s).held) → saved_of (cleared s).held [] ≡ saved_of s.held live
