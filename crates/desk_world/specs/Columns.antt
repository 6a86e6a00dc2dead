-- Columns of a plain world, from what observers hold.
use Rattle.std.specs.Prelude.{ℕ, ℤ, Bool, List, map, find, ◌==◌, Option, option_map}
use Rattle.std.specs.List.{filter_map}
use Rattle.std.specs.FinMap as fin
use Rattle.observe_core.specs.Held.{Held, Entry, Tie}
use Rattle.plain_world.specs.Tables.{Name}
use Rattle.plain_world.specs.World.{Column}
use Rattle.desk_seats.specs.Contents.{among, ints_among, bools_among, texts_among, labels_among}
use Rattle.desk_seats.specs.Contents.{ties_held}

-- the column of some entries
abbrev pub column : {X : Type 0} → List (Entry X) → Column X
column es = fin.from_entries (map (λ e. (e.id, e.value)) es)

-- the column of the items that have a label
abbrev pub labelled : List (Entry (Option Name)) → Column Name
labelled es = fin.from_entries (filter_map (λ e. option_map (λ name. (e.id, name)) e.value) es)

-- the ints, the bools, the texts and the labels that an observer holds
abbrev pub ints_of : Held → Column ℤ
ints_of h = column (among ints_among h)

abbrev pub bools_of : Held → Column Bool
bools_of h = column (among bools_among h)

abbrev pub texts_of : Held → Column (List ℕ)
texts_of h = column (among texts_among h)

abbrev pub labels_of : Held → Column Name
labels_of h = labelled (among labels_among h)

-- the item of a tie
abbrev pub tied_item : ℕ → Held → Option ℕ
tied_item number h =
    option_map (λ (t : Tie). t.item) (find (λ (t : Tie). t.tie == number) (ties_held h))
