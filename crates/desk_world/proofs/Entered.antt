-- What is known of the entries of labels from the plain world.
use Rattle.std.proofs.Common.{◌≡◌, ◌≢◌, ℕ, suc, List, [], ◌∷◌, refl, sym}
use Rattle.std.proofs.Common.{ap, ◌∙◌, subst, Option, Some, None, Contains, arith}
use Rattle.std.specs.Prelude.{IsTrue}
use Rattle.std.specs.FinMap as fin
use Rattle.std.proofs.lemmas.Option.{none-some}
use Rattle.base_items.specs.declared.items.ItemSort.{ItemSort}
use Rattle.plain_digraph.specs.Items.{IsLive}
use Rattle.plain_digraph.specs.Lists.{AllOf}
use Rattle.observe_core.specs.Held.{Labels, Entry, entry_id}
use Rattle.observe_core.specs.Items.{has_id, rises_from}
use Rattle.observe_core.specs.Seen.{Seen, Watched, IsSound}
use Rattle.index_maps.specs.RefViews.{HasLabel, IsFreeLabel, with_label}
use Rattle.alter_graph.proofs.Listing.{contained}
use Rattle.alter_graph.proofs.Taking.{steady_in}
use Rattle.alter_graph.specs.Chains.{chains_seen, seats_in}
use Rattle.plain_world.specs.Tables.{Name}
use Rattle.plain_world.specs.World.{attached}
use Rattle.desk_seats.specs.Contents.{labels_in, among, labels_among}
use Rattle.desk_world.specs.declared.world.World.{World}
use Rattle.desk_world.specs.Claims as claims
use Rattle.desk_world.specs.Claims.{Plays, Sits}
use Rattle.desk_world.specs.Columns.{labelled}
use Rattle.desk_world.specs.Entries.{labels_at}
use Rattle.desk_world.specs.InStep.{AreInStep}
use Rattle.desk_world.specs.Plain.{plain_of, look_of, tables_of}
use Rattle.desk_world.proofs.AsMade.{as_values}
use Rattle.desk_world.proofs.Carried.{seen_sound}
use Rattle.desk_world.proofs.Found.{has_label}
use Rattle.desk_world.proofs.LiveEntries.{live_entry}
use Rattle.desk_world.proofs.Labelled.{labels_of_plain, entries_here, labels_rise}
use Rattle.desk_world.proofs.Seated.{labels_sit}

abbrev Named : Type 0
Named = Entry (Option Name)

-- ---- lists of entries

all_from : {X : Type 0} (P : X → Type 0) (xs : List X) → ((x : X) → Contains xs x → P x)
    → AllOf P xs
all_from P [] each = tt
all_from P (x ∷ xs) each = (
  each x (0, omega arith, refl),
  all_from P xs (λ y has.
      let within = has.1 in
      each y (suc has.0, omega (arith, within), has.2)),
)

module _ (es : List Named) (rises : IsTrue (rises_from entry_id 0 es)) where
  -- an item with an entry that has no label in the column has none in the entry
  entry_unlabelled : (id : ℕ) → IsTrue (has_id entry_id id es)
      → fin.get (labelled es) id ≡ None → HasLabel id None es
  entry_unlabelled id has none =
      let found = contained entry_id id es has in
      let e = found.0 in
      let there : Contains es (with_label id e.value) =
      subst (λ n. Contains es (with_label n e.value)) found.2 found.1 in
      by e.value there
    where
      by : (v : Option Name) → Contains es (with_label id v) → HasLabel id None es
      by None there = there
      by (Some name) there =
          absurd (none-some name (sym none ∙ has_label id name es rises there))

  -- a label that no item has in the column is in no entry
  entry_free : (name : Name) → ((id : ℕ) → fin.get (labelled es) id ≡ Some name → ⊥)
      → IsFreeLabel name es
  entry_free name unused =
      all_from (λ (e : Named). e.value ≢ Some name) es (λ e has is.
      unused e.id (has_label e.id name es rises
      (subst (λ v. Contains es (with_label e.id v)) is has)))

-- ---- the entries of a world

module _ {O : Type 0} (watch : O → Watched) (w : World O) (sort : ItemSort)
    (in_step : AreInStep watch w) where
  abbrev key : ℕ
  key = (tables_of w sort).labels.0

  record LabelsSit : Type 0 where
    seen : Seen
    at : look_of watch w sort key ≡ Some seen
    plays : Plays claims.Labels seen

  sit : LabelsSit
  sit =
      by (look_of watch w sort key) refl
      (labels_sit w (chains_seen watch w.graph.chains) in_step.seated sort)
    where
      by : (o : Option Seen) → look_of watch w sort key ≡ o → Sits claims.Labels o → LabelsSit
      by None at sits = absurd sits
      by (Some s) at sits = record { seen = s; at = at; plays = sits }

  sound : IsSound sit.seen
  sound =
      seen_sound key (seats_in sort (chains_seen watch w.graph.chains)) sit.seen
      (steady_in watch sort w.graph.chains) sit.at

  rises : IsTrue (rises_from entry_id 0 (labels_in sit.seen))
  rises = labels_rise sit.seen.held sit.plays.making sound.held

  column : (attached (plain_of watch w) sort).labels ≡ labelled (labels_in sit.seen)
  column = labels_of_plain watch w sort sit.seen sit.at

  here : labels_at watch w sort ≡ labels_in sit.seen
  here = entries_here watch w sort sit.seen sit.at

  -- a live item that has no label in the plain world has an entry without one
  pub unlabelled_there : (id : ℕ) → IsLive w.graph.graph.graph sort id
      → fin.get (attached (plain_of watch w) sort).labels id ≡ None
      → HasLabel id None (labels_at watch w sort)
  unlabelled_there id live none =
      let es = labels_in sit.seen in
      let v = as_values Labels sit.seen.held sit.plays.making in
      let has : IsTrue (has_id entry_id id es) =
      subst (λ h. IsTrue (has_id entry_id id (among labels_among h))) (sym v.is)
      (live_entry watch w in_step sort key sit.seen sit.at Labels v.entries v.is id live) in
      subst (HasLabel id None) (sym here)
      (entry_unlabelled es rises id has (ap (λ m. fin.get m id) (sym column) ∙ none))

  -- a label that no item has there is in no entry
  pub free_there : (name : Name)
      → ((id : ℕ) → fin.get (attached (plain_of watch w) sort).labels id ≡ Some name → ⊥)
      → IsFreeLabel name (labels_at watch w sort)
  free_there name unused =
      subst (IsFreeLabel name) (sym here)
      (entry_free (labels_in sit.seen) rises name
      (λ id at. unused id (ap (λ m. fin.get m id) column ∙ at)))
