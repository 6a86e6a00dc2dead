-- A world whose labels were written to by the key of their seat.
use Rattle.std.proofs.Common.{◌≡◌, ℕ, false, refl, sym, ap, subst, Some, ◌∙◌}
use Rattle.std.specs.Prelude.{IsTrue}
use Rattle.std.proofs.lemmas.Bool.{true≢false}
use Rattle.base_items.specs.declared.items.ItemSort.{ItemSort}
use Rattle.base_items.specs.declared.items.ItemSort.TheVariants as sorts
use Rattle.observe_core.specs.Held.{Values, Labels, entry_id}
use Rattle.observe_core.specs.Items.{has_id}
use Rattle.observe_core.specs.Fits.{HeldFits}
use Rattle.observe_core.specs.Seen.{Watched}
use Rattle.notify_chain.specs.Seats.{SeatSeen, find_seat, seat_from, seat_seen}
use Rattle.alter_graph.specs.Chains.{ChainsSeen, chains_seen, seats_in}
use Rattle.alter_graph.specs.Verdict.{is_sort}
use Rattle.alter_graph.specs.Lending.{MayWrite, graph_with}
use Rattle.plain_digraph.specs.Rising.{swapped}
use Rattle.index_maps.specs.RefViews.{with_label}
use Rattle.plain_world.specs.Tables.{Name}
use Rattle.plain_world.specs.Following.{labelled}
use Rattle.desk_seats.specs.Contents.{labels_in, holding, StillFits}
use Rattle.desk_world.specs.declared.tables.ItemTables.{ItemTables}
use Rattle.desk_world.specs.declared.world.World.{World}
use Rattle.desk_world.specs.Entries.{labels_at, room_for_labels}
use Rattle.desk_world.specs.InStep.{AreInStep}
use Rattle.desk_world.specs.Looks.{room_at}
use Rattle.desk_world.specs.Plain.{plain_of, tables_of}
use Rattle.desk_world.proofs.Adding.{room_put, room_found}
use Rattle.desk_world.proofs.Labelled.{HasLabels, labels_found}
use Rattle.desk_world.proofs.Writing.{written_in_step, labels_put, plain_kept, labels_kept}
use Rattle.desk_world.proofs.Written.{reseated, seats_here}

-- the same labels, and as much room for labels as the seat has
pub record Readies {O : Type 0} (watch : O → Watched) (w later : World O) (sort : ItemSort)
    (now : O) : Type 0 where
  pub in_step : AreInStep watch later
  pub plain : plain_of watch later ≡ plain_of watch w
  pub labels : labels_at watch later sort ≡ labels_at watch w sort
  pub room : room_for_labels watch later sort ≡ (watch now).room

-- the item has the label
pub record GivesLabel {O : Type 0} (watch : O → Watched) (w later : World O) (sort : ItemSort)
    (id : ℕ) (name : Name) : Type 0 where
  pub in_step : AreInStep watch later
  pub plain : plain_of watch later ≡ labelled (plain_of watch w) sort id name

-- the room of the seat that was found
pub room_there : {O : Type 0} (watch : O → Watched) (w : World O) (sort : ItemSort)
    (items : ItemTables) (old : O) → items ≡ tables_of w sort
    → seat_seen watch items.labels.0 (Some old)
    ≡ find_seat items.labels.0 (seats_in sort (chains_seen watch w.graph.chains))
    → room_for_labels watch w sort ≡ (watch old).room
room_there watch w sort items old is found =
    let ss = seats_in sort (chains_seen watch w.graph.chains) in
    subst (λ (x : ItemTables). room_at x.labels.0 ss ≡ (watch old).room) is
    (room_found items.labels.0 ss (seat_from watch items.labels.0 (Some old)) found)

-- the seats of the other sort
elsewhere : (sort other : ItemSort) (t : SeatSeen) (c : ChainsSeen) → is_sort sort other ≡ false
    → seats_in other (reseated sort t c) ≡ seats_in other c
elsewhere sorts.Node sorts.Node t c apart = absurd (true≢false apart)
elsewhere sorts.Node sorts.Arc t c apart = refl
elsewhere sorts.Arc sorts.Node t c apart = refl
elsewhere sorts.Arc sorts.Arc t c apart = absurd (true≢false apart)

module _ {O : Type 0} (watch : O → Watched) (w : World O) (sort : ItemSort) (items : ItemTables)
    (old now : O) (in_step : AreInStep watch w) (is : items ≡ tables_of w sort)
    (found : seat_seen watch items.labels.0 (Some old)
    ≡ find_seat items.labels.0 (seats_in sort (chains_seen watch w.graph.chains)))
    (may : MayWrite watch sort items.labels.0 w.graph old) where
  has : HasLabels watch w sort old
  has = labels_found watch w sort items old in_step is found

  may_here : MayWrite watch sort (tables_of w sort).labels.0 w.graph old
  may_here = subst (λ (x : ItemTables). MayWrite watch sort x.labels.0 w.graph old) is may

  abbrev pub written : ItemTables → World O
  written x = record w { graph = graph_with sort x.labels.0 now w.graph }

  room_here : room_for_labels watch (written (tables_of w sort)) sort ≡ (watch now).room
  room_here =
      let key = (tables_of w sort).labels.0 in
      let c = chains_seen watch w.graph.chains in
      let t : SeatSeen = seat_from watch key (Some now) in
      same_key sort
      ∙ ap (λ (d : ChainsSeen). room_at key (seats_in sort d)) (may_here now).seats
      ∙ ap (room_at key) (seats_here sort t c)
      ∙ room_put t (seats_in sort c) (watch old).seen has.seen
    where
      same_key : (x : ItemSort)
          → room_at (tables_of (written (tables_of w sort)) x).labels.0
          (seats_in sort (chains_seen watch (written (tables_of w sort)).graph.chains))
          ≡ room_at (tables_of w x).labels.0
          (seats_in sort (chains_seen watch (written (tables_of w sort)).graph.chains))
      same_key sorts.Node = refl
      same_key sorts.Arc = refl

  -- the room for labels of the other sort
  pub others_room : (other : ItemSort) → is_sort sort other ≡ false
      → room_for_labels watch (written items) other ≡ room_for_labels watch w other
  others_room other apart =
      let key = (tables_of w other).labels.0 in
      let c = chains_seen watch w.graph.chains in
      let t : SeatSeen = seat_from watch items.labels.0 (Some now) in
      same_key other
      ∙ ap (λ (d : ChainsSeen). room_at key (seats_in other d)) (may now).seats
      ∙ ap (room_at key) (elsewhere sort other t c apart)
    where
      same_key : (x : ItemSort)
          → room_at (tables_of (written items) x).labels.0
          (seats_in x (chains_seen watch (written items).graph.chains))
          ≡ room_at (tables_of w x).labels.0
          (seats_in x (chains_seen watch (written items).graph.chains))
      same_key sorts.Node = refl
      same_key sorts.Arc = refl

  pub readies : (watch now).seen ≡ (watch old).seen → Readies watch w (written items) sort now
  readies same =
      let held = (watch old).seen.held in
      let fits : StillFits (watch old).seen (watch now).seen = λ live fit.
      subst (λ s. HeldFits s.held live) (sym same) fit in
      subst (λ x. Readies watch w (written x) sort now) (sym is) (record {
        in_step = written_in_step watch w sort old now in_step has may_here held has.plays.making
            same fits;
        plain = plain_kept watch w sort old now in_step has may_here held has.plays.making same fits
            same;
        labels = labels_kept watch w sort old now in_step has may_here held has.plays.making same
            fits same;
        room = room_here;
      })

  pub gives_label : (id : ℕ) (name : Name)
      → (watch now).seen ≡ holding (Values Labels (swapped entry_id (with_label id (Some name))
      (labels_in (watch old).seen))) (watch old).seen
      → StillFits (watch old).seen (watch now).seen
      → IsTrue (has_id entry_id id (labels_in (watch old).seen))
      → GivesLabel watch w (written items) sort id name
  gives_label id name wrote fits has_item =
      let held = Values Labels (swapped entry_id (with_label id (Some name))
      (labels_in (watch old).seen)) in
      subst (λ x. GivesLabel watch w (written x) sort id name) (sym is) (record {
        in_step = written_in_step watch w sort old now in_step has may_here held refl wrote fits;
        plain = labels_put watch w sort old now in_step has may_here held refl wrote fits id name
            refl has_item;
      })
