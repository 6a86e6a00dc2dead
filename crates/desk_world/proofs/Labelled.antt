-- The items of a world by their labels.
use Rattle.std.proofs.Common.{◌≡◌, ℕ, [], sym, ap, subst}
use Rattle.std.proofs.Common.{Option}
use Rattle.std.proofs.Common.{Some, None, ◌∙◌}
use Rattle.std.specs.Prelude.{IsTrue, unwrap_or, MatchOption, IsSome}
use Rattle.std.specs.Option.{option_map_or}
use Rattle.std.specs.FinMap as fin
use Rattle.std.proofs.lemmas.Bool.{true≢false}
use Rattle.std.proofs.lemmas.Option.{none-some}
use Rattle.base_items.specs.declared.items.ItemSort.{ItemSort}
use Rattle.base_items.specs.declared.items.ItemSort.TheVariants as sorts
use Rattle.plain_digraph.specs.Items.{IsLive}
use Rattle.observe_core.specs.Held.{Held, Labels, OfValues, making_of, entry_id}
use Rattle.observe_core.specs.Held.{IsHeldSound}
use Rattle.observe_core.specs.Items.{rises_from}
use Rattle.observe_core.specs.Seen.{Seen, Watched}
use Rattle.notify_chain.specs.Seats.{find_seat, seat_seen}
use Rattle.alter_graph.specs.Chains.{chains_seen, seats_in}
use Rattle.index_maps.specs.RefViews.{HasLabel, IsFreeLabel, HasNoLabel}
use Rattle.plain_world.specs.Tables.{Name}
use Rattle.plain_world.specs.World as plain
use Rattle.plain_world.specs.World.{attached, label_of}
use Rattle.plain_world.specs.Valid.{IsWorld, IsAttached}
use Rattle.plain_world.specs.Demands.{item_named}
use Rattle.plain_world.proofs.Named.{items_named, names_free}
use Rattle.desk_seats.specs.Contents.{labels_in, among, labels_among}
use Rattle.desk_world.specs.declared.tables.ItemTables.{ItemTables}
use Rattle.desk_world.specs.declared.world.World.{World}
use Rattle.desk_world.specs.Claims as claims
use Rattle.desk_world.specs.Claims.{Plays}
use Rattle.desk_world.specs.Columns.{labelled}
use Rattle.desk_world.specs.Entries.{labels_at}
use Rattle.desk_world.specs.InStep.{AreInStep, IsInStep}
use Rattle.desk_world.specs.Plain.{plain_of, look_of, tables_of, labels_seen}
use Rattle.desk_world.proofs.AsMade.{as_values}
use Rattle.desk_world.proofs.Found.{has_label, label_free, no_label}
use Rattle.desk_world.proofs.Seated.{labels_sit, plays_seen, no_empty_seat, seen_there, none_there}

pub attached_ok : (world : plain.World) → IsWorld world → (sort : ItemSort) → IsAttached world sort
attached_ok world ok sorts.Node = ok.nodes_ok
attached_ok world ok sorts.Arc = ok.arcs_ok

-- labels rise by id
pub labels_rise : (h : Held) → making_of h ≡ OfValues Labels → IsHeldSound h
    → IsTrue (rises_from entry_id 0 (among labels_among h))
labels_rise h made sound =
    let v = as_values Labels h made in
    subst (λ x. IsHeldSound x → IsTrue (rises_from entry_id 0 (among labels_among x))) (sym v.is)
    (λ own. own.0) sound

module _ {O : Type 0} (watch : O → Watched) (w : World O) (sort : ItemSort) where
  abbrev key : ℕ
  key = (tables_of w sort).labels.0

  -- the seat that was found under the key of the labels
  pub record HasLabels (seat : O) : Type 0 where
    pub plays : Plays claims.Labels (watch seat).seen
    pub seen : look_of watch w sort key ≡ Some (watch seat).seen

  pub labels_found : (items : ItemTables) (seat : O) → AreInStep watch w → items ≡ tables_of w sort
      → seat_seen watch items.labels.0 (Some seat)
      ≡ find_seat items.labels.0 (seats_in sort (chains_seen watch w.graph.chains))
      → HasLabels seat
  labels_found items seat in_step is found =
      let c = chains_seen watch w.graph.chains in
      let seen = seen_there watch c sort key seat
      (subst (λ (x : ItemTables). seat_seen watch x.labels.0 (Some seat)
      ≡ find_seat x.labels.0 (seats_in sort c)) is found) in
      record {
        plays = plays_seen claims.Labels (look_of watch w sort key) (watch seat).seen seen
            (labels_sit w c in_step.seated sort);
        seen = seen;
      }

  pub labels_there : (items : ItemTables) → AreInStep watch w → items ≡ tables_of w sort
      → None ≡ find_seat items.labels.0 (seats_in sort (chains_seen watch w.graph.chains)) → ⊥
  labels_there items in_step is found =
      let c = chains_seen watch w.graph.chains in
      no_empty_seat claims.Labels (look_of watch w sort key)
      (none_there watch c sort key (subst (λ (x : ItemTables). None
      ≡ find_seat x.labels.0 (seats_in sort c)) is found))
      (labels_sit w c in_step.seated sort)

  pub labels_from : (seat : O) → AreInStep watch w
      → look_of watch w sort key ≡ Some (watch seat).seen → HasLabels seat
  labels_from seat in_step seen = record {
    plays = plays_seen claims.Labels (look_of watch w sort key) (watch seat).seen seen
        (labels_sit w (chains_seen watch w.graph.chains) in_step.seated sort);
    seen = seen;
  }

  -- the labels of the plain world
  pub labels_of_plain : (s : Seen) → look_of watch w sort key ≡ Some s
      → (attached (plain_of watch w) sort).labels ≡ labelled (labels_in s)
  labels_of_plain s is = by sort is
    where
      by : (x : ItemSort) → look_of watch w x (tables_of w x).labels.0 ≡ Some s
          → (attached (plain_of watch w) x).labels ≡ labelled (labels_in s)
      by sorts.Node is = ap labels_seen is
      by sorts.Arc is = ap labels_seen is

  pub entries_here : (s : Seen) → look_of watch w sort key ≡ Some s
      → labels_at watch w sort ≡ labels_in s
  entries_here s is = ap (λ o. option_map_or labels_in o []) is

  module _ (seat : O) (has : HasLabels seat) (ok : IsInStep watch w) where
    abbrev s : Seen
    s = (watch seat).seen

    rise : IsTrue (rises_from entry_id 0 (labels_in s))
    rise = labels_rise s.held has.plays.making (watch seat).sound.held

    column : (attached (plain_of watch w) sort).labels ≡ labelled (labels_in s)
    column = labels_of_plain s has.seen

    -- what the seat finds is the item of the name
    pub found_named : (name : Name) (id : ℕ) → HasLabel id (Some name) (labels_in s)
        → item_named (plain_of watch w) sort name ≡ Some id
    found_named name id at =
        items_named (plain_of watch w) sort id name ok.valid
        (ap (λ m. fin.get m id) column ∙ has_label id name (labels_in s) rise at)

    pub free_named : (name : Name) → IsFreeLabel name (labels_in s)
        → item_named (plain_of watch w) sort name ≡ None
    free_named name free =
        names_free (plain_of watch w) sort name ok.valid
        (λ id at. label_free name (labels_in s) free id (sym (ap (λ m. fin.get m id) column) ∙ at))

    pub found_label : (name : Name) (id : ℕ) → HasLabel id (Some name) (labels_in s)
        → name ≡ label_of (plain_of watch w) sort id
    found_label name id at =
        sym (ap (λ o. unwrap_or o [])
        (ap (λ m. fin.get m id) column ∙ has_label id name (labels_in s) rise at))

    -- whatever the look-up of a name gave is the item of the name
    pub named_is : (name : Name) (found : Option ℕ)
        → MatchOption found (IsFreeLabel name (labels_in s))
        (λ id. HasLabel id (Some name) (labels_in s))
        → found ≡ item_named (plain_of watch w) sort name
    named_is name None free = sym (free_named name free)
    named_is name (Some id) at = sym (found_named name id at)

    -- a live item has a label
    pub none_unlabelled : (id : ℕ) → IsLive w.graph.graph.graph sort id
        → HasNoLabel id (labels_in s) → ⊥
    none_unlabelled id live none =
        no_some (fin.get (attached (plain_of watch w) sort).labels id)
        (ap (λ m. fin.get m id) column ∙ no_label id (labels_in s) rise none)
        ((attached_ok (plain_of watch w) ok.valid sort).labelled id).0 live
      where
        no_some : (o : Option Name) → o ≡ None → (IsLive w.graph.graph.graph sort id → IsSome o)
            → IsLive w.graph.graph.graph sort id → ⊥
        no_some None is whole live = true≢false (sym (whole live))
        no_some (Some name) is whole live = none-some name (sym is)
