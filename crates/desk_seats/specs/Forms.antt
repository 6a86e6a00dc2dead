-- The form of a seat is the place of its variant.
use Rattle.std.specs.Prelude.{◌≡◌, ℕ}
use Rattle.observe_core.specs.Seen.{Watched}

abbrev pub half_form : ℕ
half_form = 0

abbrev pub ints_form : ℕ
ints_form = 1

abbrev pub bools_form : ℕ
bools_form = 2

abbrev pub texts_form : ℕ
texts_form = 3

abbrev pub labels_form : ℕ
labels_form = 4

abbrev pub degrees_form : ℕ
degrees_form = 5

abbrev pub trues_form : ℕ
trues_form = 6

abbrev pub nodes_form : ℕ
nodes_form = 7

abbrev pub arcs_form : ℕ
arcs_form = 8

abbrev pub ties_form : ℕ
ties_form = 9

abbrev pub boxed_form : ℕ
boxed_form = 10

-- what contracts see of a seat, from what they see of what it holds
abbrev pub formed : ℕ → Watched → Watched
formed n w = record {
  seen = record w.seen { form = n };
  room = w.room;
  reach = w.reach;
  sound = record {
    lawful = w.sound.lawful;
    numbers = record {
      items = w.sound.numbers.items;
      least = w.sound.numbers.least;
      greatest = w.sound.numbers.greatest;
      left = w.sound.numbers.left;
      added = w.sound.numbers.added;
      erased = w.sound.numbers.erased;
      moved = w.sound.numbers.moved;
    };
    rising = w.sound.rising;
    held = w.sound.held;
  };
  reaches = w.reaches;
}

-- the seat is of the variant at this place
abbrev pub HasForm : ℕ → Watched → Type 0
HasForm n w = w.seen.form ≡ n
