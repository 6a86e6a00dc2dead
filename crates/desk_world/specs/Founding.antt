-- The seats of the labels and of the ties of a sort are attached.
use Rattle.std.specs.Prelude.{◌≡◌, []}
use Rattle.base_items.specs.declared.items.ItemSort.{ItemSort}
use Rattle.observe_core.specs.Held as held
use Rattle.observe_core.specs.Seen.{Seen, Watched, map_seen}
use Rattle.alter_graph.specs.State.{State}
use Rattle.alter_graph.specs.Attaching.{Attaches}
use Rattle.desk_seats.specs.Forms as forms
use Rattle.desk_world.specs.declared.tables.ItemTables.{ItemTables}

-- what is seen of a seat of labels, and of one of ties, that was told nothing
abbrev pub new_labels : Seen
new_labels = record (map_seen (held.Values held.Labels [])) { form = forms.labels_form }

abbrev pub new_ties : Seen
new_ties = record (map_seen (held.Ties [])) { form = forms.ties_form }

-- the seat of the labels came, and then that of the ties; there is no map
pub record Founds (sort : ItemSort) (items : ItemTables) (old new : State) : Type 0 where
  pub mid : State
  pub labels : Watched
  pub ties : Watched
  pub labels_are : labels.seen ≡ new_labels
  pub ties_are : ties.seen ≡ new_ties
  pub first : Attaches sort items.labels.0 labels old mid
  pub second : Attaches sort items.ties.0 ties mid new
  pub no_maps : items.maps.rows ≡ []
