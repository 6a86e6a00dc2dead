-- A world after the seat of a map was written.
use Rattle.std.proofs.Common.{◌≡◌, ℕ, Bool, true, false, cond, List, ◌∷◌, ◌++◌, map, refl, sym, ap}
use Rattle.std.proofs.Common.{[]}
use Rattle.std.proofs.Common.{subst, Some, ◌∙◌}
use Rattle.std.specs.Prelude.{option_map}
use Rattle.std.specs.Str.{bytes_eq}
use Rattle.std.proofs.lemmas.Slice.Eq.{bytes_eq-Decides}
use Rattle.base_items.specs.declared.items.ItemSort.{ItemSort}
use Rattle.plain_digraph.specs.Lists.{AllOf}
use Rattle.plain_digraph.specs.Rising.{swapped}
use Rattle.observe_core.specs.Held.{Entry, Held, entry_id}
use Rattle.observe_core.specs.Seen.{Seen, Watched}
use Rattle.columns.specs.Views.{entry as with_value}
use Rattle.alter_graph.specs.Chains.{ChainsSeen, chains_seen}
use Rattle.alter_graph.specs.State as states
use Rattle.alter_graph.specs.State.{AlterOf, state_of}
use Rattle.plain_world.specs.Tables.{Name, Named, under}
use Rattle.desk_seats.specs.Contents.{holding}
use Rattle.desk_world.specs.declared.tables.MapRow.{MapRow}
use Rattle.desk_world.specs.declared.values.Value.{Value}
use Rattle.desk_world.specs.declared.values.Value.TheVariants as values
use Rattle.desk_world.specs.declared.world.World.{World}
use Rattle.desk_world.specs.Claims.{Claim, Plays, claims_of, map_claim, ClaimsDiffer}
use Rattle.desk_world.specs.Derived.{bools_seen}
use Rattle.desk_world.specs.InStep.{AreInStep, AreSeated, has_values}
use Rattle.desk_world.specs.Looks.{Look, look_in}
use Rattle.desk_world.specs.Plain.{look_of, tables_of, map_seen, held_by, seat_sort}
use Rattle.desk_world.specs.Seating.{Puts}
use Rattle.desk_world.specs.Values.{HasItem, kind_for, type_for, put_at, held_with}
use Rattle.desk_world.proofs.Claimed.{apart_all}
use Rattle.desk_world.proofs.MapTables.{before, behind, claims_with, claims_are, claims_midst}
use Rattle.desk_world.proofs.MapsComing.{for_values}
use Rattle.desk_world.proofs.MapsFound.{own_sort}
use Rattle.desk_world.proofs.NamedRows.{Stands}
use Rattle.desk_world.proofs.Putting.{seen_put, all_elsewhere, seated_put}
use Rattle.desk_world.proofs.Relabelled.{Agrees}
use Rattle.desk_world.proofs.Seated.{all_left, all_right, all_both}
use Rattle.desk_world.proofs.SnapTables.{snaps_stay}
use Rattle.alter_graph.specs.Attaching.{with_seats}
use Rattle.alter_graph.specs.Chains.{seats_in}
use Rattle.notify_chain.specs.Seats.{put_seat}
use Rattle.desk_world.proofs.MapsWritten.{own_role, made_values, made_with, held_put, bools_with}
use Rattle.desk_world.proofs.MapsWritten.{EntriesShow, Shows, rows_unwritten}

-- ---- the seat of the map was written to

module _ {O : Type 0} (watch : O → Watched) (w : World O) (sort : ItemSort) where
  -- all but what the rows show is as in a world in step
  pub record AreKept (a : AlterOf O) : Type 0 where
    pub graph : a.graph ≡ w.graph.graph
    pub then : states.IsInStep (state_of watch a)
    pub seated : AreSeated (claims_of w) (chains_seen watch a.chains)
    pub others : AllOf (Agrees (look_of watch w) (look_in (chains_seen watch a.chains)))
        (claims_with w sort [])
    pub snaps : (chains_seen watch a.chains).snaps ≡ (chains_seen watch w.graph.chains).snaps

  -- a row among those of the sort
  module _ (front : List (Named MapRow)) (e : Named MapRow) (back : List (Named MapRow))
      (is : (tables_of w sort).maps.rows ≡ front ++ e ∷ back)
      (differ : ClaimsDiffer (claims_of w)) (c d : ChainsSeen) (change : Seen → Held)
      (puts : Puts (seat_sort sort e.value.kind) e.value.key.0 change c d) where
    abbrev front_claims : List Claim
    front_claims = before w sort ++ map (map_claim sort) front

    abbrev back_claims : List Claim
    back_claims = map (map_claim sort) back ++ behind w sort

    abbrev Same : Claim → Type 0
    Same = Agrees (look_in c) (look_in d)

    all_but : AllOf Same (front_claims ++ back_claims)
    all_but =
        all_elsewhere (seat_sort sort e.value.kind) e.value.key.0 change c d puts
        (front_claims ++ back_claims)
        (apart_all front_claims (map_claim sort e) back_claims
        (subst ClaimsDiffer
        (claims_are w sort ∙ ap (claims_with w sort) is ∙ claims_midst w sort front e back) differ))

    -- all other rows show what they showed, and so does all else
    pub front_same : AllOf Same (map (map_claim sort) front)
    front_same = all_right Same (before w sort) (map (map_claim sort) front)
        (all_left Same front_claims back_claims all_but)

    pub back_same : AllOf Same (map (map_claim sort) back)
    back_same = all_left Same (map (map_claim sort) back) (behind w sort)
        (all_right Same front_claims back_claims all_but)

    pub others_same : AllOf Same (claims_with w sort [])
    others_same =
        all_both Same (before w sort) (behind w sort)
        (all_left Same (before w sort) (map (map_claim sort) front)
        (all_left Same front_claims back_claims all_but))
        (all_right Same (map (map_claim sort) back) (behind w sort)
        (all_right Same front_claims back_claims all_but))

module _ {O : Type 0} (watch : O → Watched) (w : World O) (sort : ItemSort) (name : Name)
    (row : MapRow) (value : Value) (id : ℕ) (a : AlterOf O) (in_step : AreInStep watch w)
    (at : Stands (tables_of w sort).maps.rows name row)
    (kind : row.kind ≡ kind_for (type_for value))
    (puts : Puts sort row.key.0 (held_with value id) (chains_seen watch w.graph.chains)
    (chains_seen watch a.chains))
    (plays : Plays (own_role value) puts.was) (live : HasItem value id puts.was)
    (same_graph : a.graph ≡ w.graph.graph) (then : states.IsInStep (state_of watch a)) where
  abbrev key : ℕ
  key = row.key.0

  abbrev c : ChainsSeen
  c = chains_seen watch w.graph.chains

  abbrev d : ChainsSeen
  d = chains_seen watch a.chains

  abbrev was : Look
  was = look_of watch w

  abbrev next : Look
  next = look_in d

  -- the bools that the map has now
  abbrev pub now : List (Entry Bool)
  now = bools_with value id (bools_seen (was sort key))

  own_chain : seat_sort sort row.kind ≡ sort
  own_chain = own_sort sort row.kind (ap has_values kind ∙ for_values (type_for value))

  moved : Puts (seat_sort sort row.kind) key (held_with value id) c d
  moved = subst (λ s. Puts s key (held_with value id) c d) (sym own_chain) puts

  pub kept : AreKept watch w sort a
  kept = record {
    graph = same_graph;
    then = then;
    seated = seated_put sort key (held_with value id) c d puts
        (made_with value id puts.was ∙ sym (made_values value puts.was plays)) (claims_of w)
        in_step.seated;
    others = others_same watch w sort at.front (under name row) at.back at.is
        in_step.seated.claims_differ c d (held_with value id) moved;
    snaps = ap (λ x. x.snaps) puts.is
        ∙ snaps_stay sort (with_seats (put_seat puts.seat (seats_in sort c))) c;
  }

  -- what the map's own row shows
  held_now : (look : Look) (s : Seen) → look sort key ≡ Some s
      → option_map (λ (x : Seen). held_by row.kind x.held) (look (seat_sort sort row.kind) key)
      ≡ Some (held_by (kind_for (type_for value)) s.held)
  held_now look s there =
      ap (λ x. option_map (λ (y : Seen). held_by row.kind y.held) (look x key)) own_chain
      ∙ ap (option_map (λ (y : Seen). held_by row.kind y.held)) there
      ∙ ap (λ k. Some (held_by k s.held)) kind

  here : next sort key ≡ Some (holding (held_with value id puts.was) puts.was)
  here = seen_put sort key (held_with value id) c d puts

  itself : bytes_eq name name ≡ true
  itself = (bytes_eq-Decides name name).1 refl

  own_entries : EntriesShow was sort name value id now false next name row.kind key
  own_entries = subst (λ k. EntriesShow was sort name value id now false next name k key) (sym kind)
      (by value here puts.found)
    where
      by : (v : Value) → next sort key ≡ Some (holding (held_with v id puts.was) puts.was)
          → was sort key ≡ Some puts.was
          → EntriesShow was sort name value id (bools_with v id (bools_seen (was sort key))) false
          next name (kind_for (type_for v)) key
      by (values.Int v) there before = tt
      by (values.Bool v) there before =
          ap bools_seen there
          ∙ ap (λ o. swapped entry_id (with_value id v) (bools_seen o)) (sym before)
          ∙ ap (λ b. cond b (swapped entry_id (with_value id v) (bools_seen (was sort key)))
          (bools_seen (was sort key))) (sym itself)
      by (values.Text v) there before = tt

  -- each row shows what it should, but for indexes of the map, which aren't written yet
  pub rows_begin : AllOf (Shows was sort name value id now false next) (tables_of w sort).maps.rows
  rows_begin =
      let front = at.front in
      let back = at.back in
      let same = front_same watch w sort front (under name row) back at.is
      in_step.seated.claims_differ c d (held_with value id) moved in
      let same_behind = back_same watch w sort front (under name row) back at.is
      in_step.seated.claims_differ c d (held_with value id) moved in
      subst (AllOf (Shows was sort name value id now false next)) (sym at.is)
      (all_both (Shows was sort name value id now false next) front (under name row ∷ back)
      (rows_unwritten was sort name value id now next front at.before same) (
        record {
          plain = held_now next (holding (held_with value id puts.was) puts.was) here
              ∙ ap Some (held_put value id puts.was live)
              ∙ ap (option_map (put_at value id)) (sym (held_now was puts.was puts.found))
              ∙ ap (λ b. cond b (option_map (put_at value id) (map_seen was sort row))
              (map_seen was sort row)) (sym itself);
          entries = own_entries;
        },
        rows_unwritten was sort name value id now next back at.behind same_behind,
      ))
