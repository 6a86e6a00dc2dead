-- What a guard may be told, and how it stands after an undo.
use Rattle.std.proofs.Common.{◌≡◌, ◌≢◌, Contains, sym, subst, ◌∙◌, ap}
use Rattle.base_items.specs.declared.items.Fact.{Fact}
use Rattle.plain_digraph.specs.Facts.{fact_id}
use Rattle.observe_core.specs.declared.changes.Change.{Change}
use Rattle.observe_core.specs.Items.{Lacks}
use Rattle.observe_core.specs.Facts.{IsInBounds, IsLive}
use Rattle.observe_core.specs.Fits.{Fits}
use Rattle.observe_core.specs.Changes.{told, untold, CanTell, CanUntell}
use Rattle.observe_core.specs.Conditions.{HasSmallCounts, CanAdd, CanShift, CanErase}
use Rattle.observe_core.proofs.ItemLemmas.{all_at}
use Rattle.observe_core.proofs.ChangeLaws.{untold-told, can_untell}
use Rattle.fact_table.specs.declared.table.FactTable.{FactTable}
use Rattle.fact_table.specs.Table.{facts_of}
use Rattle.fact_table.specs.TableFacts.{table-rises, table-bounded}
use Rattle.guard_kinds.specs.declared.guard.Guard.{Guard}
use Rattle.guard_kinds.specs.GuardViews.{guard_seen}
use Rattle.guard_kinds.specs.Sound.{guard-sound, guard-reaches}

pub live_table : (t : FactTable) → IsLive (facts_of t)
live_table t = record { rising = table-rises t; bounded = table-bounded t }

module _ (g : Guard) (t : FactTable) (fits : Fits (guard_seen g) (facts_of t))
    (counts : HasSmallCounts (guard_seen g)) where
  pub can_add : (f : Fact) → Lacks fact_id f.id (facts_of t) → IsInBounds f
      → CanAdd f (guard_seen g)
  can_add f lacks bounded = record {
    live = facts_of t;
    is_live = live_table t;
    fits = fits;
    untracked = lacks;
    bounded = bounded;
    counts = counts;
  }

  pub can_shift : (old now : Fact) → Contains (facts_of t) old → old.id ≡ now.id → now ≢ old
      → IsInBounds now → CanShift old now (guard_seen g)
  can_shift old now there same differs bounded = record {
    live = facts_of t;
    is_live = live_table t;
    fits = fits;
    tracked = there;
    same_id = sym same;
    differs = differs;
    old_bounded = all_at IsInBounds old (facts_of t) (table-bounded t) there;
    bounded = bounded;
    counts = counts;
  }

  pub can_erase : (f : Fact) → Contains (facts_of t) f → CanErase f (guard_seen g)
  can_erase f there = record {
    live = facts_of t;
    is_live = live_table t;
    fits = fits;
    tracked = there;
    bounded = all_at IsInBounds f (facts_of t) (table-bounded t) there;
    counts = counts;
  }

-- what a guard accepted it may be told to undo, and then it is as before
module _ (g h : Guard) (c : Change) (can : CanTell c (guard_seen g))
    (now : guard_seen h ≡ told c (guard_seen g)) where
  pub may_undo : CanUntell c (guard_seen h) 4194304
  may_undo = subst (λ s. CanUntell c s 4194304) (sym now)
      (can_untell c (guard_seen g) 4194304 can (guard-sound g) (guard-reaches g))

  pub undone : (k : Guard) → guard_seen k ≡ untold c (guard_seen h) → guard_seen k ≡ guard_seen g
  undone k e = e ∙ ap (untold c) now ∙ untold-told c (guard_seen g) can (guard-sound g)
