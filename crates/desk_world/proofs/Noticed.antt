-- What maps hold after a notice, as columns.
use Rattle.std.proofs.Common.{◌≡◌, ℕ, true, false, cond, List, [], map, refl, sym, ap}
use Rattle.std.proofs.Common.{◌∙◌}
use Rattle.std.proofs.Common.{subst, Option, Some, None}
use Rattle.std.specs.Prelude.{nat_eq, ◌&&◌, ◌-◌, option_and_then, option_map}
use Rattle.std.proofs.lemmas.Bool.{true≢false}
use Rattle.base_items.specs.declared.items.Fact.{Fact}
use Rattle.plain_digraph.specs.Rising.{with_item, without_item}
use Rattle.plain_digraph.specs.PlainSteps.{Change, Untouched, Added, Moved, Erased, Cleared}
use Rattle.observe_core.specs.declared.changes.Change.TheVariants.{Add, Shift, Build}
use Rattle.observe_core.specs.declared.losses.Loss.{Loss}
use Rattle.observe_core.specs.declared.losses.Loss.TheVariants.{Erase, Clear}
use Rattle.observe_core.specs.declared.kinds.Kind.{Kind}
use Rattle.observe_core.specs.declared.kinds.Kind.TheVariants as kinds
use Rattle.observe_core.specs.declared.kinds.After.TheVariants.{Keep, Detach}
use Rattle.observe_core.specs.Held as held
use Rattle.observe_core.specs.Held.{Held, Values, entry_id, making_of, OfValues}
use Rattle.observe_core.specs.Guards.{fuse_part}
use Rattle.plain_digraph.specs.Facts.{fact_id}
use Rattle.observe_core.specs.Seen.{Seen}
use Rattle.observe_core.specs.Told.{new_entry}
use Rattle.observe_core.specs.Changes.{told as told_of}
use Rattle.observe_core.specs.Losses.{lost}
use Rattle.observe_core.specs.Laws.{IsMadeAs}
use Rattle.observe_core.proofs.MadeLemmas.{told-made, lost-made}
use Rattle.observe_core.proofs.Undone.{entries_lack}
use Rattle.notify_chain.specs.Seats.{SeatSeen, seat_key}
use Rattle.notify_chain.specs.Leaving.{goes}
use Rattle.alter_graph.specs.Steps.{Notice, Tells, Loses, seats_noticed}
use Rattle.alter_graph.proofs.Telling.{CanHear}
use Rattle.alter_graph.proofs.Saving.{held_noticed}
use Rattle.plain_world.specs.Tables.{Name}
use Rattle.plain_world.specs.World as plain
use Rattle.plain_world.specs.Following.{column_after, labels_after, held_after}
use Rattle.desk_seats.specs.Contents.{among, bools_among, trues_among}
use Rattle.desk_world.specs.declared.tables.MapKind.{MapKind}
use Rattle.desk_world.specs.declared.tables.MapKind.TheVariants as maps
use Rattle.desk_world.specs.Claims.{is_map, made_for, role_of}
use Rattle.desk_world.specs.Columns.{labels_of, column, labelled}
use Rattle.desk_world.specs.Plain.{held_by}
use Rattle.desk_world.specs.Looks.{seen_at}
use Rattle.desk_world.specs.InStep.{Differ}
use Rattle.desk_world.proofs.Columns.{column_with, column_without}
use Rattle.desk_world.proofs.LabelColumns.{labels_with, labels_without}
use Rattle.desk_world.proofs.Looks.{seen_heard, seen_lost, after_loss}
use Rattle.desk_world.proofs.AsMade.{as_values}

-- ---- who hears a notice

abbrev pub heard_by : Notice → Seen → Option Seen
heard_by (Tells change) s = Some (told_of change s)
heard_by (Loses loss) s = after_loss loss s

as_mapped : {X Y : Type 0} (g : X → Y) (o : Option X)
    → option_map g o ≡ option_and_then (λ x. Some (g x)) o
as_mapped g None = refl
as_mapped g (Some x) = refl

pub seen_noticed : (n : Notice) (key : ℕ) (ss : List SeatSeen) → Differ (map seat_key ss)
    → seen_at key (seats_noticed n ss) ≡ option_and_then (heard_by n) (seen_at key ss)
seen_noticed (Tells change) key ss differ =
    seen_heard (told_of change) key ss ∙ as_mapped (told_of change) (seen_at key ss)
seen_noticed (Loses loss) key ss differ = seen_lost loss key ss differ

-- ---- a map stays, and holds what the notice makes of it

pub map_kind : (kind : Kind) → is_map kind ≡ true → kind ≡ kinds.Map
map_kind kinds.Map is = refl
map_kind kinds.Quota is = absurd (true≢false (sym is))
map_kind kinds.Loopless is = absurd (true≢false (sym is))
map_kind kinds.Simple is = absurd (true≢false (sym is))
map_kind kinds.OutCap is = absurd (true≢false (sym is))
map_kind kinds.Fuse is = absurd (true≢false (sym is))
map_kind kinds.Tally is = absurd (true≢false (sym is))

pub record HearsAsMap (n : Notice) (s : Seen) : Type 0 where
  pub later : Seen
  pub hears : heard_by n s ≡ Some later
  pub held : later.held ≡ held_noticed n s.held
  pub made : IsMadeAs s later

pub map_stays : (loss : Loss) (s : Seen) → s.kind ≡ kinds.Map
    → after_loss loss s ≡ Some (lost loss s)
map_stays (Erase f) s is =
    ap (λ k. cond (goes (cond (nat_eq (fuse_part k 1) 1 && nat_eq (s.left - fuse_part k 1) 0)
    Detach Keep)) None (Some (lost (Erase f) s))) is
map_stays Clear s is =
    ap (λ k. cond (goes (cond (nat_eq (fuse_part k 1) 1 && nat_eq 0 0) Detach Keep)) None
    (Some (lost Clear s))) is

pub map_hears : (n : Notice) (live : List Fact) (s : Seen) → CanHear n live → s.kind ≡ kinds.Map
    → HearsAsMap n s
map_hears (Tells (Add f)) live s can is =
    record { later = told_of (Add f) s; hears = refl; held = refl; made = told-made s (Add f) }
map_hears (Tells (Shift old now)) live s can is = record {
  later = told_of (Shift old now) s;
  hears = refl;
  held = refl;
  made = told-made s (Shift old now);
}
map_hears (Tells (Build all)) live s can is = absurd can
map_hears (Loses (Erase f)) live s can is = record {
  later = lost (Erase f) s;
  hears = map_stays (Erase f) s is;
  held = refl;
  made = lost-made s (Erase f);
}
map_hears (Loses Clear) live s can is = record {
  later = lost Clear s;
  hears = map_stays Clear s is;
  held = refl;
  made = lost-made s Clear;
}

-- ---- columns

-- what a notice does to the items; a build isn't one of them
abbrev pub change_by : Notice → ℕ → Change
change_by (Tells (Add f)) count = Added f.id
change_by (Tells (Shift old now)) count = Moved
change_by (Tells (Build all)) count = Untouched
change_by (Loses (Erase f)) count = Erased f.id
change_by (Loses Clear) count = Cleared count

-- the values are those of these items
abbrev pub ValuesFit : Held → List Fact → Type 0
ValuesFit held.Nothing live = Unit {0}
ValuesFit (Values t es) live = map entry_id es ≡ map fact_id live
ValuesFit (held.Degree out ends) live = Unit {0}
ValuesFit (held.Half added others kept valid) live = Unit {0}
ValuesFit (held.Kept role all items) live = Unit {0}
ValuesFit (held.Ties ties) live = Unit {0}

module _ (t : held.MapType) where
  abbrev pub entries_noticed : Notice → List (held.Entry (held.ValueOf t))
      → List (held.Entry (held.ValueOf t))
  entries_noticed (Tells (Add f)) es = with_item entry_id (new_entry t f.id) es
  entries_noticed (Tells (Shift old now)) es = es
  entries_noticed (Tells (Build all)) es = es
  entries_noticed (Loses (Erase f)) es = without_item entry_id f.id es
  entries_noticed (Loses Clear) es = []

  values_noticed : (n : Notice) (es : List (held.Entry (held.ValueOf t)))
      → held_noticed n (Values t es) ≡ Values t (entries_noticed n es)
  values_noticed (Tells (Add f)) es = refl
  values_noticed (Tells (Shift old now)) es = refl
  values_noticed (Tells (Build all)) es = refl
  values_noticed (Loses (Erase f)) es = refl
  values_noticed (Loses Clear) es = refl

  column_noticed : (n : Notice) (live : List Fact) (count : ℕ)
      (es : List (held.Entry (held.ValueOf t))) → CanHear n live → ValuesFit (Values t es) live
      → column (entries_noticed n es)
      ≡ column_after (held.default_of t) (change_by n count) (column es)
  column_noticed (Tells (Add f)) live count es can fits =
      column_with (new_entry t f.id) es (entries_lack f.id es live fits can.untracked)
  column_noticed (Tells (Shift old now)) live count es can fits = refl
  column_noticed (Tells (Build all)) live count es can fits = absurd can
  column_noticed (Loses (Erase f)) live count es can fits = column_without f.id es
  column_noticed (Loses Clear) live count es can fits = refl

-- the entries after a change of the items
abbrev pub entries_after : {V : Type 0} → V → Change → List (held.Entry V) → List (held.Entry V)
entries_after default (Added id) es = with_item entry_id (record { id = id; value = default }) es
entries_after default (Erased id) es = without_item entry_id id es
entries_after default (Cleared count) es = []
entries_after default _ es = es

pub entries_changed : (t : held.MapType) (n : Notice) (count : ℕ)
    (es : List (held.Entry (held.ValueOf t)))
    → entries_noticed t n es ≡ entries_after (held.default_of t) (change_by n count) es
entries_changed t (Tells (Add f)) count es = refl
entries_changed t (Tells (Shift old now)) count es = refl
entries_changed t (Tells (Build all)) count es = refl
entries_changed t (Loses (Erase f)) count es = refl
entries_changed t (Loses Clear) count es = refl

labels_noticed : (n : Notice) (live : List Fact) (count : ℕ)
    (es : List (held.Entry (Option Name))) → CanHear n live
    → labelled (entries_noticed held.Labels n es) ≡ labels_after (change_by n count) (labelled es)
labels_noticed (Tells (Add f)) live count es can = labels_with f.id es
labels_noticed (Tells (Shift old now)) live count es can = refl
labels_noticed (Tells (Build all)) live count es can = absurd can
labels_noticed (Loses (Erase f)) live count es can = labels_without f.id es
labels_noticed (Loses Clear) live count es can = refl

module _ (n : Notice) (live : List Fact) (count : ℕ) (can : CanHear n live) where
  pub of_values : {Y : Type 0} (t : held.MapType) (read : Held → Y) (after : Y → Y) (h : Held)
      → making_of h ≡ OfValues t → ValuesFit h live
      → ((es : List (held.Entry (held.ValueOf t))) → ValuesFit (Values t es) live
      → read (Values t (entries_noticed t n es)) ≡ after (read (Values t es)))
      → read (held_noticed n h) ≡ after (read h)
  of_values {Y} t read after h made fits goes =
      let v = as_values t h made in
      subst (λ x. ValuesFit x live → read (held_noticed n x) ≡ after (read x)) (sym v.is)
      (λ fit. ap read (values_noticed t n v.entries) ∙ goes v.entries fit) fits

  -- the values of a map, or its degrees or true items, follow the change
  pub held_follows : (kind : MapKind) (h : Held) → making_of h ≡ made_for (role_of kind)
      → ValuesFit h live
      → held_by kind (held_noticed n h) ≡ held_after (change_by n count) (held_by kind h)
  held_follows maps.Ints h made fits =
      of_values held.Ints (held_by maps.Ints) (held_after (change_by n count)) h made fits
      (λ es fit. ap plain.Ints (column_noticed held.Ints n live count es can fit))
  held_follows maps.Bools h made fits =
      of_values held.Bools (held_by maps.Bools) (held_after (change_by n count)) h made fits
      (λ es fit. ap plain.Bools (column_noticed held.Bools n live count es can fit))
  held_follows maps.Texts h made fits =
      of_values held.Texts (held_by maps.Texts) (held_after (change_by n count)) h made fits
      (λ es fit. ap plain.Texts (column_noticed held.Texts n live count es can fit))
  held_follows (maps.Degrees way) h made fits = refl
  held_follows (maps.Trues map) h made fits = refl

  -- the entries of a map of bools and those of an index change alike
  pub bools_follow : (h : Held) → making_of h ≡ OfValues held.Bools → ValuesFit h live
      → among bools_among (held_noticed n h)
      ≡ entries_after false (change_by n count) (among bools_among h)
  bools_follow h made fits =
      of_values held.Bools (among bools_among) (entries_after false (change_by n count)) h made
      fits (λ es fit. entries_changed held.Bools n count es)

  pub trues_follow : (h : Held) → making_of h ≡ OfValues held.Trues → ValuesFit h live
      → among trues_among (held_noticed n h)
      ≡ entries_after false (change_by n count) (among trues_among h)
  trues_follow h made fits =
      of_values held.Trues (among trues_among) (entries_after false (change_by n count)) h made
      fits (λ es fit. entries_changed held.Trues n count es)

  -- and so do the labels
  pub labels_follow : (h : Held) → making_of h ≡ OfValues held.Labels → ValuesFit h live
      → labels_of (held_noticed n h) ≡ labels_after (change_by n count) (labels_of h)
  labels_follow h made fits =
      of_values held.Labels labels_of (labels_after (change_by n count)) h made fits
      (λ es fit. labels_noticed n live count es can)
