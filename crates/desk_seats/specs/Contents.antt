-- What a seat holds, for the calls that read it and write to it.
use Rattle.std.specs.Prelude.{ℕ, ℤ, Bool, false, List, [], Option}
use Rattle.base_items.specs.declared.items.Fact.{Fact}
use Rattle.observe_core.specs.Held.{Held, Nothing, Values, Degree, Half, Kept, Ties, KeptRole}
use Rattle.observe_core.specs.Held.{KeptNodes, MapType, ValueOf, Ints, Bools, Texts}
use Rattle.observe_core.specs.Held.{Labels, Trues, Entry, Marked, Tie}
use Rattle.observe_core.specs.Seen.{Seen}
use Rattle.observe_core.specs.Fits.{HeldFits}

-- the same record, but for what is held
abbrev pub holding : Held → Seen → Seen
holding held s = record s { held = held }

-- ---- the entries of each type; none where the values are of another

abbrev pub ints_among : (t : MapType) → List (Entry (ValueOf t)) → List (Entry ℤ)
ints_among Ints es = es
ints_among Bools es = []
ints_among Texts es = []
ints_among Labels es = []
ints_among Trues es = []

abbrev pub bools_among : (t : MapType) → List (Entry (ValueOf t)) → List (Entry Bool)
bools_among Ints es = []
bools_among Bools es = es
bools_among Texts es = []
bools_among Labels es = []
bools_among Trues es = []

abbrev pub texts_among : (t : MapType) → List (Entry (ValueOf t)) → List (Entry (List ℕ))
texts_among Ints es = []
texts_among Bools es = []
texts_among Texts es = es
texts_among Labels es = []
texts_among Trues es = []

abbrev pub labels_among : (t : MapType) → List (Entry (ValueOf t))
    → List (Entry (Option (List ℕ)))
labels_among Ints es = []
labels_among Bools es = []
labels_among Texts es = []
labels_among Labels es = es
labels_among Trues es = []

abbrev pub trues_among : (t : MapType) → List (Entry (ValueOf t)) → List (Entry Bool)
trues_among Ints es = []
trues_among Bools es = []
trues_among Texts es = []
trues_among Labels es = []
trues_among Trues es = es

-- what is read of values; none where something else is held
abbrev pub among : {V : Type 0} → ((t : MapType) → List (Entry (ValueOf t)) → List (Entry V))
    → Held → List (Entry V)
among read Nothing = []
among read (Values t es) = read t es
among read (Degree out ends) = []
among read (Half added others kept valid) = []
among read (Kept role all items) = []
among read (Ties ties) = []

-- ---- what is held; none where something else is

abbrev pub ints_in : Seen → List (Entry ℤ)
ints_in s = among ints_among s.held

abbrev pub bools_in : Seen → List (Entry Bool)
bools_in s = among bools_among s.held

abbrev pub texts_in : Seen → List (Entry (List ℕ))
texts_in s = among texts_among s.held

abbrev pub labels_in : Seen → List (Entry (Option (List ℕ)))
labels_in s = among labels_among s.held

abbrev pub trues_in : Seen → List (Entry Bool)
trues_in s = among trues_among s.held

-- for each arc the end by which it is counted
abbrev pub ends_held : Held → List ℕ
ends_held Nothing = []
ends_held (Values t es) = []
ends_held (Degree out ends) = ends
ends_held (Half added others kept valid) = []
ends_held (Kept role all items) = []
ends_held (Ties ties) = []

abbrev pub ends_in : Seen → List ℕ
ends_in s = ends_held s.held

-- the nodes or the arcs of a kept view
abbrev pub marked_held : Held → List Marked
marked_held Nothing = []
marked_held (Values t es) = []
marked_held (Degree out ends) = []
marked_held (Half added others kept valid) = []
marked_held (Kept role all items) = items
marked_held (Ties ties) = []

abbrev pub marked_in : Seen → List Marked
marked_in s = marked_held s.held

-- whether a kept view has no filter
abbrev pub all_held : Held → Bool
all_held Nothing = false
all_held (Values t es) = false
all_held (Degree out ends) = false
all_held (Half added others kept valid) = false
all_held (Kept role all items) = all
all_held (Ties ties) = false

abbrev pub shows_all : Seen → Bool
shows_all s = all_held s.held

-- whose items a kept view's observer holds
abbrev pub role_held : Held → KeptRole
role_held Nothing = KeptNodes
role_held (Values t es) = KeptNodes
role_held (Degree out ends) = KeptNodes
role_held (Half added others kept valid) = KeptNodes
role_held (Kept role all items) = role
role_held (Ties ties) = KeptNodes

abbrev pub role_in : Seen → KeptRole
role_in s = role_held s.held

abbrev pub ties_held : Held → List Tie
ties_held Nothing = []
ties_held (Values t es) = []
ties_held (Degree out ends) = []
ties_held (Half added others kept valid) = []
ties_held (Kept role all items) = []
ties_held (Ties ties) = ties

abbrev pub ties_in : Seen → List Tie
ties_in s = ties_held s.held

-- ---- writes

-- what is held stands for all items that it stood for
abbrev pub StillFits : Seen → Seen → Type 0
StillFits old new = (live : List Fact) → HeldFits old.held live → HeldFits new.held live
