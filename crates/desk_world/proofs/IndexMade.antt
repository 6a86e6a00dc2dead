-- The call by which an index is attached and filled.
use Rattle.std.proofs.Common.{◌≡◌, ℕ, ◌+◌, ◌<◌, ◌≤◌, arith, Bool, false, List, map, refl, sym, ap}
use Rattle.std.proofs.Common.{[]}
use Rattle.std.proofs.Common.{subst, Option, Some, None, ◌∙◌}
use Rattle.base_items.specs.declared.items.Fact.{Fact}
use Rattle.base_items.specs.declared.items.ItemSort.{ItemSort}
use Rattle.plain_digraph.specs.Facts.{fact_id}
use Rattle.plain_digraph.specs.Items.{fact_of, facts, used_of}
use Rattle.plain_digraph.specs.Rising.{swapped}
use Rattle.observe_core.specs.Fits.{HeldFits}
use Rattle.observe_core.specs.Held as held
use Rattle.observe_core.specs.Held.{Entry, entry_id}
use Rattle.observe_core.specs.Items.{place_all}
use Rattle.observe_core.specs.Seen.{Seen, Watched}
use Rattle.observe_core.specs.Told.{built, held_built}
use Rattle.columns.specs.Views.{entry as with_value}
use Rattle.value_maps.specs.Entries.{HasValue}
use Rattle.alter_graph.specs.Attaching.{Attaches}
use Rattle.alter_graph.specs.Chains.{ChainsSeen, chains_seen}
use Rattle.alter_graph.specs.State as states
use Rattle.alter_graph.specs.State.{AlterOf, state_of}
use Rattle.desk_seats.specs.Contents.{among, bools_among, trues_among, trues_in, holding}
use Rattle.desk_world.specs.Claims as claims
use Rattle.desk_world.specs.Claims.{Plays, Sits}
use Rattle.desk_world.specs.Derived.{bools_seen}
use Rattle.desk_world.specs.Indexes.{Indexes, trues_with}
use Rattle.desk_world.specs.Looks.{look_in}
use Rattle.desk_world.specs.Seating.{Comes, Puts}
use Rattle.desk_world.proofs.AsMade.{as_values}
use Rattle.desk_world.proofs.BuiltMaps.{same_place, news_same}
use Rattle.desk_world.proofs.ClaimsCame.{comes_attached, look_comes, look_stays}
use Rattle.desk_world.proofs.IndexFilled.{filled, fill_starts, fill_passes, fill_steps, fill_ends}
use Rattle.desk_world.proofs.IndexFilled.{ids_below, ids_apart, one_value}
use Rattle.desk_world.proofs.LiveEntries.{stands_in}
use Rattle.desk_world.proofs.MapsComing.{built_plays}
use Rattle.desk_world.proofs.Putting.{comes_put}
use Rattle.desk_world.proofs.Seated.{all_so}

module _ {O : Type 0} (watch : O → Watched) (sort : ItemSort) (key source : ℕ) (old : AlterOf O)
  where
    -- the seat came, and its index has the bools of the items below the id
    pub record IsFilling (n : ℕ) (a : AlterOf O) : Type 0 where
      pub graph : a.graph.graph ≡ old.graph.graph
      pub then : states.IsInStep (state_of watch a)
      pub index : Seen
      pub comes : Comes sort key index (chains_seen watch old.chains) (chains_seen watch a.chains)
      pub plays : Plays claims.Trues index
      pub has : trues_in index
          ≡ filled n (bools_seen (look_in (chains_seen watch old.chains) sort source))

module _ {O : Type 0} (watch : O → Watched) (sort : ItemSort) (key source : ℕ) (old : AlterOf O)
    (in_step : states.IsInStep (state_of watch old)) where
  abbrev c : ChainsSeen
  c = chains_seen watch old.chains

  abbrev bools : List (Entry Bool)
  bools = bools_seen (look_in c sort source)

  -- what is seen in the seat of the map
  pub record HasBools : Type 0 where
    pub map : Seen
    pub there : look_in c sort source ≡ Some map
    pub plays : Plays claims.Bools map

  has_bools : (o : Option Seen) → look_in c sort source ≡ o → Sits claims.Bools o → HasBools
  has_bools None is sits = absurd sits
  has_bools (Some s) is sits = record { map = s; there = is; plays = sits }

  module _ (sits : Sits claims.Bools (look_in c sort source)) where
    abbrev found : HasBools
    found = has_bools (look_in c sort source) refl sits

    -- there is one for each live item
    ids : map entry_id bools ≡ map fact_id (facts old.graph.graph sort)
    ids =
        let v = as_values held.Bools found.map.held found.plays.making in
        ap (λ o. map entry_id (bools_seen o)) found.there
        ∙ ap (λ h. map entry_id (among bools_among h)) v.is
        ∙ subst (λ h. HeldFits h (facts old.graph.graph sort)) v.is
        (stands_in watch old in_step sort source found.map found.there).held

    -- it was attached
    pub filling_begins : (a : AlterOf O) (came : Watched)
        → Attaches sort key came (state_of watch old) (state_of watch a)
        → states.IsInStep (state_of watch a) → Plays claims.Trues came.seen
        → IsFilling watch sort key source old 0 a
    filling_begins a came attaches then plays =
        let all = facts old.graph.graph sort in
        let comes = comes_attached sort key came (state_of watch old) (state_of watch a) attaches in
        let role = built_plays claims.Trues all came.seen plays in
        let v = as_values held.Trues came.seen.held plays.making in
        let made : held_built all came.seen.held ≡ held_built all (held.Values held.Trues v.entries)
        = ap (held_built all) v.is in
        let placed = place_all entry_id (map (λ (f : Fact). entry_of f) all) [] in
        let seen = look_comes sort key claims.Trues [] [] (built all came.seen) c
        (chains_seen watch a.chains) comes role in
        let same : map entry_id placed ≡ map fact_id all =
        subst (λ h. HeldFits h all) made
        (subst (λ g. HeldFits (held_built all came.seen.held) (facts g sort)) attaches.graph
        (stands_in watch a then sort key (built all came.seen) seen).held) in
        record {
          graph = attaches.graph;
          then = then;
          index = built all came.seen;
          comes = comes;
          plays = role;
          has = ap (among trues_among) made
              ∙ fill_starts placed bools (same ∙ sym ids)
              (same_place false (map (λ (f : Fact). entry_of f) all) [] (news_same held.Trues all)
              tt);
        }
      where
        entry_of : Fact → Entry Bool
        entry_of f = record { id = f.id; value = false }

    module _ (n : ℕ) (a : AlterOf O) (was : IsFilling watch sort key source old n a) where
      abbrev d : ChainsSeen
      d = chains_seen watch a.chains

      -- both seats are there
      source_stays : look_in d sort source ≡ look_in c sort source
      source_stays =
          look_stays sort key claims.Trues [] [] was.index c d was.comes was.plays sort source
          found.map found.there ∙ sym found.there

      pub source_sits : Sits claims.Bools (look_in d sort source)
      source_sits = subst (Sits claims.Bools) (sym source_stays) sits

      pub index_sits : Sits claims.Trues (look_in d sort key)
      index_sits = subst (Sits claims.Trues)
          (sym (look_comes sort key claims.Trues [] [] was.index c d was.comes was.plays)) was.plays

      -- nothing is told of the item
      pub filling_passes : fact_of a.graph.graph sort n ≡ None
          → IsFilling watch sort key source old (n + 1) a
      filling_passes none = record {
        graph = was.graph;
        then = was.then;
        index = was.index;
        comes = was.comes;
        plays = was.plays;
        has = was.has ∙ fill_passes n bools
            (ids_apart old.graph.graph sort in_step.valid bools ids n
            (ap (λ g. fact_of g sort n) (sym was.graph) ∙ none));
      }

      -- its bool was written
      pub filling_steps : (b : AlterOf O) (value : Bool)
          → HasValue n value (bools_seen (look_in d sort source))
          → Puts sort key (trues_with n value) d (chains_seen watch b.chains)
          → states.IsInStep (state_of watch b) → b.graph ≡ a.graph
          → IsFilling watch sort key source old (n + 1) b
      filling_steps b value at puts then same = record {
        graph = ap (λ r. r.graph) same ∙ was.graph;
        then = then;
        index = holding (trues_with n value was.index) was.index;
        comes = comes_put sort key was.index claims.Trues (trues_with n value) c d
            (chains_seen watch b.chains) was.comes was.plays puts;
        plays = record { form = was.plays.form; making = refl; kind = was.plays.kind };
        has = ap (swapped entry_id (with_value n value)) was.has
            ∙ fill_steps n value bools
            (one_value old.graph.graph sort in_step.valid bools ids n value
            (subst (λ o. HasValue n value (bools_seen o)) source_stays at));
      }

      -- all items were written
      pub filling_ends : used_of a.graph.graph sort ≤ n
          → Indexes sort key source (state_of watch old) (state_of watch a)
      filling_ends all = record {
        index = was.index;
        graph = was.graph;
        comes = was.comes;
        plays = was.plays;
        same = was.has ∙ fill_ends n bools
            (all_so (λ (e : Entry Bool). e.id < used_of old.graph.graph sort)
            (λ (e : Entry Bool). e.id < n)
            (λ e below. omega (arith, below, ap (λ g. used_of g sort) was.graph, all)) bools
            (ids_below old.graph.graph sort in_step.valid bools ids));
      }
