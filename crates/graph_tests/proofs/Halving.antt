-- What half a snapshot may be told, and how it stands after an undo.
use Rattle.std.proofs.Common.{◌≡◌, ◌≢◌, ◌≤◌, Contains, sym, subst, ◌∙◌, ap, arith, le_trans, refl}
use Rattle.std.proofs.Common.{[]}
use Rattle.base_items.specs.declared.items.Fact.{Fact}
use Rattle.plain_digraph.specs.Facts.{fact_id}
use Rattle.observe_core.specs.declared.changes.Change.{Change}
use Rattle.observe_core.specs.Items.{Lacks}
use Rattle.observe_core.specs.Facts.{IsInBounds}
use Rattle.observe_core.specs.Fits.{Fits}
use Rattle.observe_core.specs.Changes.{told, untold, CanTell, CanUntell}
use Rattle.observe_core.specs.Conditions.{HasSmallCounts, CanAdd, CanShift, CanErase}
use Rattle.observe_core.proofs.ItemLemmas.{all_at}
use Rattle.observe_core.proofs.ChangeLaws.{untold-told, can_untell}
use Rattle.fact_table.specs.declared.table.FactTable.{FactTable}
use Rattle.fact_table.specs.Table.{facts_of}
use Rattle.fact_table.specs.TableFacts.{table-bounded}
use Rattle.snap_shots.specs.declared.half.Half.{Half}
use Rattle.snap_shots.specs.FactViews.{room_of}
use Rattle.snap_shots.specs.HalfViews.{half_seen, fresh}
use Rattle.snap_shots.specs.Sound.{half-sound, half-reaches}
use Rattle.graph_tests.proofs.Guarding.{live_table}

pub no_counts : (h : Half) → HasSmallCounts (half_seen h)
no_counts h = record { added = omega arith; erased = omega arith; moved = omega arith }

module _ (h : Half) (t : FactTable) (fits : Fits (half_seen h) (facts_of t)) where
  pub can_add : (f : Fact) → Lacks fact_id f.id (facts_of t) → IsInBounds f → CanAdd f (half_seen h)
  can_add f lacks bounded = record {
    live = facts_of t;
    is_live = live_table t;
    fits = fits;
    untracked = lacks;
    bounded = bounded;
    counts = no_counts h;
  }

  pub can_shift : (old now : Fact) → Contains (facts_of t) old → old.id ≡ now.id → now ≢ old
      → IsInBounds now → CanShift old now (half_seen h)
  can_shift old now there same differs bounded = record {
    live = facts_of t;
    is_live = live_table t;
    fits = fits;
    tracked = there;
    same_id = sym same;
    differs = differs;
    old_bounded = all_at IsInBounds old (facts_of t) (table-bounded t) there;
    bounded = bounded;
    counts = no_counts h;
  }

  pub can_erase : (f : Fact) → Contains (facts_of t) f → CanErase f (half_seen h)
  can_erase f there = record {
    live = facts_of t;
    is_live = live_table t;
    fits = fits;
    tracked = there;
    bounded = all_at IsInBounds f (facts_of t) (table-bounded t) there;
    counts = no_counts h;
  }

-- what a half accepted it may be told to undo, and then it is as before
module _ (g h : Half) (c : Change) (can : CanTell c (half_seen g))
    (now : half_seen h ≡ told c (half_seen g)) where
  pub may_undo : room_of g.kept ≤ room_of h.kept → CanUntell c (half_seen h) (room_of h.kept)
  may_undo room = subst (λ s. CanUntell c s (room_of h.kept)) (sym now)
      (can_untell c (half_seen g) (room_of h.kept) can (half-sound g)
      (le_trans (half-reaches g) room))

  pub undone : (k : Half) → half_seen k ≡ untold c (half_seen h) → half_seen k ≡ half_seen g
  undone k e = e ∙ ap (untold c) now ∙ untold-told c (half_seen g) can (half-sound g)

-- a half that was told of nothing may be told of any addition
pub can_add_first : (f : Fact) → IsInBounds f → CanAdd f fresh
can_add_first f bounded = record {
  live = [];
  is_live = record { rising = refl; bounded = tt };
  fits = record { guard = refl; held = record { counted = refl; among = tt; moved = tt } };
  untracked = tt;
  bounded = bounded;
  counts = record { added = omega arith; erased = omega arith; moved = omega arith };
}
