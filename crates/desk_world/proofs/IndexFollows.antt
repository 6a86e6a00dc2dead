-- A world after an index was written.
use Rattle.std.proofs.Common.{◌≡◌, ℕ, ◌+◌, Bool, true, false, cond, List, [], ◌∷◌, ◌++◌, map}
use Rattle.std.proofs.Common.{refl, sym, ap, subst, Option, Some, ◌∙◌}
use Rattle.std.specs.Prelude.{option_map, slice_get}
use Rattle.std.specs.Str.{bytes_eq}
use Rattle.std.proofs.lemmas.Bool.{true≢false}
use Rattle.base_items.specs.declared.items.ItemSort.{ItemSort}
use Rattle.plain_digraph.specs.Lists.{AllOf}
use Rattle.plain_digraph.specs.Rising.{swapped}
use Rattle.observe_core.specs.Held.{Entry, entry_id}
use Rattle.observe_core.specs.Seen.{Seen, Watched}
use Rattle.columns.specs.Views.{entry as with_value}
use Rattle.alter_graph.specs.Chains.{ChainsSeen, chains_seen}
use Rattle.alter_graph.specs.State as states
use Rattle.alter_graph.specs.State.{AlterOf, state_of}
use Rattle.plain_world.specs.Tables.{Name, Named, entry}
use Rattle.plain_world.specs.World as plain
use Rattle.desk_world.specs.declared.tables.MapKind.{MapKind}
use Rattle.desk_world.specs.declared.tables.MapKind.TheVariants as maps
use Rattle.desk_world.specs.declared.tables.MapRow.{MapRow}
use Rattle.desk_world.specs.declared.values.Value.TheVariants as values
use Rattle.desk_world.specs.declared.world.World.{World}
use Rattle.desk_world.specs.Claims as claims
use Rattle.desk_world.specs.Claims.{Plays, Sits, ClaimsDiffer, claims_of, role_of}
use Rattle.desk_world.specs.Derived.{IsIndexed, bools_seen, trues_seen}
use Rattle.desk_world.specs.Indexes.{is_index_kind, trues_with}
use Rattle.desk_world.specs.InStep.{AreInStep}
use Rattle.desk_world.specs.Looks.{Look, look_in}
use Rattle.desk_world.specs.Plain.{look_of, tables_of, seat_sort}
use Rattle.desk_world.specs.Plain.{held_by}
use Rattle.desk_world.specs.Seating.{Puts}
use Rattle.desk_world.proofs.MapTables.{claims_with}
use Rattle.desk_world.proofs.MapsComing.{own_indexes}
use Rattle.desk_world.proofs.MapsWritten.{RowShows, Shows}
use Rattle.desk_world.proofs.MapFollows.{AreKept}
use Rattle.desk_world.proofs.MapsWritten.{rows_stay}
use Rattle.desk_world.proofs.MapFollows.{front_same, back_same, others_same}
use Rattle.desk_world.proofs.Putting.{seen_put, seated_put}
use Rattle.desk_world.proofs.Relabelled.{Agrees}
use Rattle.desk_world.proofs.Seated.{all_right, all_so, all_and, maps_sit}
use Rattle.desk_world.proofs.SnapTables.{snaps_stay}
use Rattle.alter_graph.specs.Attaching.{with_seats}
use Rattle.alter_graph.specs.Chains.{seats_in}
use Rattle.notify_chain.specs.Seats.{put_seat}
use Rattle.desk_world.proofs.Seated.{all_right, all_so, all_and, maps_sit}
use Rattle.desk_world.proofs.IndexesWritten.{Next, IsWriting, same_source, next, split}
use Rattle.desk_world.proofs.IndexesWritten.{back_now, onward}

-- ---- an index is written

pub record IsTruesOf (name : Name) (kind : MapKind) : Type 0 where
  pub source : Name
  pub is : kind ≡ maps.Trues source
  pub same : bytes_eq source name ≡ true

pub as_index : (name : Name) (kind : MapKind) → is_index_kind name kind ≡ true → IsTruesOf name kind
as_index name maps.Ints is = absurd (true≢false (sym is))
as_index name maps.Bools is = absurd (true≢false (sym is))
as_index name maps.Texts is = absurd (true≢false (sym is))
as_index name (maps.Degrees way) is = absurd (true≢false (sym is))
as_index name (maps.Trues source) is = record { source = source; is = refl; same = is }

plays_there : (role : claims.Role) (o : Option Seen) (s : Seen) → o ≡ Some s → Sits role o
    → Plays role s
plays_there role o s is sits = subst (Sits role) is sits

module _ {O : Type 0} (watch : O → Watched) (w : World O) (in_step : AreInStep watch w)
    (sort : ItemSort) (name : Name) (row : MapRow)
    (found : entry (tables_of w sort).maps.rows name ≡ Some row) (v : Bool) (id place : ℕ)
    (a : AlterOf O) (writing : IsWriting watch w sort name row.key.0 (values.Bool v) id place a)
    (r : MapRow)
    (at : slice_get (map (λ (e : Named MapRow). e.value) (tables_of w sort).maps.rows) place
    ≡ Some r) (index : is_index_kind name r.kind ≡ true) where
  abbrev table : List (Named MapRow)
  table = (tables_of w sort).maps.rows

  abbrev c : ChainsSeen
  c = chains_seen watch a.chains

  abbrev ahead : Next writing.ahead r
  ahead = next watch w in_step sort name row found (values.Bool v) id place a writing r at

  abbrev e : Named MapRow
  e = ahead.e

  parted : table ≡ writing.done ++ e ∷ ahead.rest
  parted = split watch w in_step sort name row found (values.Bool v) id place a writing r at

  abbrev of : IsTruesOf name r.kind
  of = as_index name r.kind index

  kind_is : e.value.kind ≡ maps.Trues of.source
  kind_is = ap (λ (x : MapRow). x.kind) ahead.has ∙ of.is

  key_is : e.value.key.0 ≡ r.key.0
  key_is = ap (λ (x : MapRow). x.key.0) ahead.has

  -- its seat is there
  pub index_sits : Sits claims.Trues (look_in c sort r.key.0)
  index_sits =
      let Seated : Named MapRow → Type 0 = λ x. Sits (role_of x.value.kind)
      (look_in c (seat_sort sort x.value.kind) x.value.key.0) in
      let there : Seated e = (all_right Seated writing.done (e ∷ ahead.rest)
      (subst (AllOf Seated) parted (maps_sit w c writing.kept.seated sort))).0 in
      subst (λ k. Sits claims.Trues (look_in c sort k)) key_is
      (subst (λ kind. Sits (role_of kind) (look_in c (seat_sort sort kind) e.value.key.0)) kind_is
      there)

  module _ (b : AlterOf O)
      (puts : Puts sort r.key.0 (trues_with id v) c (chains_seen watch b.chains))
      (same : b.graph ≡ a.graph) (then : states.IsInStep (state_of watch b)) where
    abbrev d : ChainsSeen
    d = chains_seen watch b.chains

    abbrev first : Look
    first = look_of watch w

    abbrev bools : List (Entry Bool)
    bools = bools_seen (first sort row.key.0)

    abbrev bools_now : List (Entry Bool)
    bools_now = swapped entry_id (with_value id v) bools

    plays : Plays claims.Trues puts.was
    plays = plays_there claims.Trues (look_in c sort r.key.0) puts.was puts.found index_sits

    moved : Puts (seat_sort sort e.value.kind) e.value.key.0 (trues_with id v) c d
    moved =
        subst (λ kind. Puts (seat_sort sort kind) e.value.key.0 (trues_with id v) c d) (sym kind_is)
        (subst (λ k. Puts sort k (trues_with id v) c d) (sym key_is) puts)

    abbrev differ : ClaimsDiffer (claims_of w)
    differ = writing.kept.seated.claims_differ

    kept : AreKept watch w sort b
    kept = record {
      graph = same ∙ writing.kept.graph;
      then = then;
      seated = seated_put sort r.key.0 (trues_with id v) c d puts (sym plays.making) (claims_of w)
          writing.kept.seated;
      others = all_so (λ x. Agrees first (look_in c) x × Agrees (look_in c) (look_in d) x)
          (Agrees first (look_in d)) (λ x both. both.1 ∙ both.0) (claims_with w sort [])
          (all_and (Agrees first (look_in c)) (Agrees (look_in c) (look_in d))
          (claims_with w sort []) writing.kept.others
          (others_same watch w sort writing.done e ahead.rest parted differ c d (trues_with id v)
          moved));
      snaps = ap (λ x. x.snaps) puts.is
          ∙ snaps_stay sort (with_seats (put_seat puts.seat (seats_in sort c))) c
          ∙ writing.kept.snaps;
    }

    -- what the index shows now
    trues_row : (own source : Name) (key : ℕ) → key ≡ r.key.0 → bytes_eq source name ≡ true
        → IsIndexed (first sort) table (maps.Trues source) key
        → RowShows first sort name (values.Bool v) id bools_now false (look_in c) own
        (maps.Trues source) key
        → RowShows first sort name (values.Bool v) id bools_now true (look_in d) own
        (maps.Trues source) key
    trues_row own source key here one is shows =
        let was_there = ap (look_in c sort) here ∙ puts.found in
        let there = ap (look_in d sort) here
        ∙ seen_put sort r.key.0 (trues_with id v) c d puts in
        let held : Option Seen → Option plain.Held = option_map
        (λ (s : Seen). held_by (maps.Trues source) s.held) in
        record {
          plain = ap held there ∙ sym (ap held was_there) ∙ shows.plain;
          entries = ap trues_seen there
              ∙ ap (swapped entry_id (with_value id v))
              (sym (ap trues_seen was_there) ∙ shows.entries ∙ is.same
              ∙ ap (λ (x : MapRow). bools_seen (first sort x.key.0))
              (same_source watch w in_step sort name row found (values.Bool v) id source is.source
              is.found one))
              ∙ sym (ap (λ b. cond b bools_now (trues_seen (first sort key))) one);
        }

    abbrev back : AllOf (Shows first sort name (values.Bool v) id bools_now false (look_in c))
        (e ∷ ahead.rest)
    back = back_now watch w in_step sort name row found (values.Bool v) id place a writing r at

    own_row : Shows first sort name (values.Bool v) id bools_now true (look_in d) e
    own_row =
        let Was : MapKind → Type 0 = λ k. RowShows first sort name (values.Bool v) id bools_now
        false (look_in c) e.name k e.value.key.0 in
        let Is : MapKind → Type 0 = λ k. RowShows first sort name (values.Bool v) id bools_now true
        (look_in d) e.name k e.value.key.0 in
        let Indexed : Named MapRow → Type 0 = λ x. IsIndexed (first sort) table x.value.kind
        x.value.key.0 in
        let one : Indexed e = (all_right Indexed writing.done (e ∷ ahead.rest)
        (subst (AllOf Indexed) parted (own_indexes w sort first in_step.derived))).0 in
        subst Is (sym kind_is)
        (trues_row e.name of.source e.value.key.0 key_is of.same
        (subst (λ k. IsIndexed (first sort) table k e.value.key.0) kind_is one)
        (subst Was kind_is back.0))

    pub writing_steps : IsWriting watch w sort name row.key.0 (values.Bool v) id (place + 1) b
    writing_steps =
        onward watch w in_step sort name row found (values.Bool v) id place a writing r at b kept
        (rows_stay first sort name (values.Bool v) id bools_now true (look_in c) (look_in d)
        writing.done
        (front_same watch w sort writing.done e ahead.rest parted differ c d (trues_with id v)
        moved) writing.front)
        own_row
        (rows_stay first sort name (values.Bool v) id bools_now false (look_in c) (look_in d)
        ahead.rest
        (back_same watch w sort writing.done e ahead.rest parted differ c d (trues_with id v)
        moved) back.1)
