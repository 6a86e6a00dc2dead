-- The calls by which a guard comes to a world, goes from it, or is refused.
use Rattle.std.proofs.Common.{◌≡◌, ℕ, refl, sym, ap, ◌∙◌}
use Rattle.std.proofs.Common.{subst, Some}
use Rattle.std.specs.Prelude.{slice_get}
use Rattle.std.specs.List.{insert, remove}
use Rattle.base_items.specs.declared.items.ItemSort.{ItemSort}
use Rattle.plain_digraph.specs.Items.{facts}
use Rattle.observe_core.specs.declared.kinds.Veto.{Veto}
use Rattle.observe_core.specs.declared.kinds.Veto.TheVariants.{Refused}
use Rattle.observe_core.specs.Guards.{Law}
use Rattle.observe_core.specs.Fits.{Fits}
use Rattle.observe_core.specs.Held.{Held, making_of}
use Rattle.observe_core.specs.Held as held
use Rattle.observe_core.specs.Seen.{Seen, Watched}
use Rattle.observe_core.specs.Told.{armed, built, cleared, held_cleared}
use Rattle.observe_core.specs.Untold.{TracksNothing, held_unbuilt}
use Rattle.observe_core.proofs.LawLemmas.{live-lawful}
use Rattle.notify_chain.specs.Seats.{SeatSeen, IsAsItCame}
use Rattle.alter_graph.specs.Attaching.{HasNoCounts}
use Rattle.alter_graph.specs.Chains.{chains_seen}
use Rattle.alter_graph.specs.State as graph
use Rattle.alter_graph.specs.State.{AlterOf, state_of, IsSame}
use Rattle.alter_graph.proofs.Attached.{built_stands}
use Rattle.desk_world.specs.declared.world.World.{World}
use Rattle.desk_world.specs.Boxes.{WentBack}
use Rattle.desk_world.specs.Claims.{Plays, Guard}
use Rattle.desk_world.specs.InStep.{AreInStep, AreBoxes, IsBox}
use Rattle.desk_world.specs.Looks.{look_in}
use Rattle.desk_world.specs.Plain.{kinds_of, word_of, world_seen}
use Rattle.desk_world.proofs.Boxes.{all_at, all_back, seen_back}
use Rattle.desk_world.proofs.Unchanged.{still_in_step, plain_still}

-- ---- boxes

-- a box that was armed has counted nothing, tracks nothing and is a guard still
pub armed_none : (limit : ℕ) (s : Seen) → TracksNothing s → TracksNothing (armed limit s)
armed_none limit s none = ap (armed limit) none

pub armed_counts : (limit : ℕ) (s : Seen) → HasNoCounts (armed limit s)
armed_counts limit s = record { added = refl; erased = refl; moved = refl }

pub armed_box : (limit : ℕ) (s back : Seen) → back ≡ armed limit s → IsBox s → IsBox back
armed_box limit s back is box = subst IsBox (sym is) (record {
  guard = record {
    form = box.guard.form;
    making = box.guard.making;
    kind = box.guard.kind;
  };
  empty = armed_none limit s box.empty;
})

-- a guard holds nothing
cleared_twice : (h : Held) → making_of h ≡ held.OfGuard
    → (held_cleared h ≡ held_unbuilt (held_cleared h)) × (making_of (held_cleared h) ≡ held.OfGuard)
cleared_twice held.Nothing is = (refl, refl)
cleared_twice (held.Values t es) is = absurd (cc)
cleared_twice (held.Degree out ends) is = absurd (cc)
cleared_twice (held.Half added others kept valid) is = absurd (cc)
cleared_twice (held.Kept role all items) is = absurd (cc)
cleared_twice (held.Ties ties) is = absurd (cc)

-- a guard that was told that all items go is a box
pub cleared_box : (was s : Seen) → s ≡ cleared was → Plays Guard was → IsBox s
cleared_box was s is plays =
    let twice = cleared_twice was.held plays.making in
    subst IsBox (sym is) (record {
      guard = record { form = plays.form; making = twice.1; kind = plays.kind };
      empty = λ i. record (cleared was) { held = twice.0 i };
    })

module _ {O : Type 0} (watch : O → Watched) where
  -- ---- a box is refused

  module _ (w : World O) (in_step : AreInStep watch w) (place : ℕ) (sort : ItemSort) (limit : ℕ)
      (box : O) (at : slice_get w.pool.items place ≡ Some box)
      (boxes : World O) (a : AlterOf O) (veto : Veto) (back : O) (came : Watched)
      (armed_by : came.seen ≡ armed limit (watch box).seen)
      (same : IsSame (state_of watch w.graph) (state_of watch a))
      (then : graph.IsInStep (state_of watch a))
      (as_it_came : IsAsItCame came (watch back) veto (built (facts w.graph.graph.graph sort)
      came.seen))
      (pool : boxes.pool.items ≡ insert (remove w.pool.items place) place back) where
    abbrev later : World O
    later = record w { graph = a; pool = boxes.pool }

    is_box : IsBox (watch box).seen
    is_box = all_at (λ o. IsBox (watch o).seen) w.pool.items place box at in_step.boxes

    back_seen : (watch back).seen ≡ armed limit (watch box).seen
    back_seen = as_it_came.seen ∙ armed_by

    kinds_stay : kinds_of watch boxes.pool.items ≡ kinds_of watch w.pool.items
    kinds_stay =
        ap (kinds_of watch) pool
        ∙ seen_back (λ o. word_of (watch o).seen.kind) w.pool.items place box back at
        (ap (λ (s : Seen). word_of s.kind) back_seen)

    boxes_again : AreBoxes watch boxes.pool.items
    boxes_again =
        subst (AreBoxes watch) (sym pool)
        (all_back (λ o. IsBox (watch o).seen) w.pool.items place back
        (armed_box limit (watch box).seen (watch back).seen back_seen is_box) in_step.boxes)

    fits : Fits (built (facts w.graph.graph.graph sort) came.seen) (facts w.graph.graph.graph sort)
    fits =
        let g = w.graph.graph.graph in
        let seat : SeatSeen = record {
          key = 0;
          seen = built (facts g sort) came.seen;
          room = 0;
          reach = 0;
        } in
        (built_stands g sort in_step.graph.valid came.seen
        (subst TracksNothing (sym armed_by) (armed_none limit (watch box).seen is_box.empty))
        (subst HasNoCounts (sym armed_by) (armed_counts limit (watch box).seen)) seat refl).fits

    law_fails : veto ≡ Refused
        → Law (watch box).seen.kind limit (facts w.graph.graph.graph sort) → ⊥
    law_fails refused law =
        let live = facts w.graph.graph.graph sort in
        as_it_came.law refused
        (live-lawful (built live came.seen) live fits
        (subst (λ (x : Seen). Law x.kind x.k live) (sym armed_by) law))

    pub went_back : WentBack watch place sort limit veto w later
    went_back = record {
      box = box;
      at = at;
      law = law_fails;
      plain = ap (λ kinds. world_seen a.graph.graph (look_in (chains_seen watch a.chains)) kinds
          (record w { graph = a })) kinds_stay ∙ plain_still watch w a in_step same then;
      in_step = let still = still_in_step watch w a in_step same then in record {
        graph = still.graph;
        seated = still.seated;
        boxes = boxes_again;
        snaps = still.snaps;
        derived = still.derived;
        kept = still.kept;
      };
      stamps = same.graph;
    }
