-- When an observer may be told of a change, and how it answers.
use Rattle.std.specs.Prelude.{◌≡◌, ◌≢◌, ℕ, ◌^◌, ◌<◌, ◌≤◌, ◌&&◌, nat_eq, if◌then◌else◌, List}
use Rattle.std.specs.Prelude.{Contains, Result, Ok, Err}
use Rattle.base_items.specs.declared.items.Fact.{Fact}
use Rattle.observe_core.specs.declared.kinds.Veto.{Veto}
use Rattle.observe_core.specs.declared.kinds.Veto.TheVariants.{Refused, Memory}
use Rattle.observe_core.specs.declared.kinds.After.{After}
use Rattle.observe_core.specs.declared.kinds.After.TheVariants.{Keep, Detach}
use Rattle.observe_core.specs.Items.{Lacks}
use Rattle.plain_digraph.specs.Facts.{fact_id}
use Rattle.observe_core.specs.Facts.{IsInBounds, AllInBounds, HasDistinctIds, IsLive}
use Rattle.observe_core.specs.Guards.{fuse_part, greatest_k}
use Rattle.observe_core.specs.Seen.{Seen, Lawful, IsSound, need}
use Rattle.observe_core.specs.Fits.{Fits}
use Rattle.observe_core.specs.Told.{added, shifted, built}
use Rattle.observe_core.specs.Untold.{unadded, unshifted, unbuilt, TracksNothing}

-- the counts leave room for one more
pub record HasSmallCounts (s : Seen) : Type 0 where
  pub added : s.added < 2 ^ 63
  pub erased : s.erased < 2 ^ 63
  pub moved : s.moved < 2 ^ 63

-- live is the list of facts that the caller has in mind
pub record CanAdd (f : Fact) (s : Seen) : Type 0 where
  pub live : List Fact
  pub is_live : IsLive live
  pub fits : Fits s live
  pub untracked : Lacks fact_id f.id live
  pub bounded : IsInBounds f
  pub counts : HasSmallCounts s

pub record CanShift (old now : Fact) (s : Seen) : Type 0 where
  pub live : List Fact
  pub is_live : IsLive live
  pub fits : Fits s live
  pub tracked : Contains live old
  pub same_id : now.id ≡ old.id
  pub differs : now ≢ old
  pub old_bounded : IsInBounds old
  pub bounded : IsInBounds now
  pub counts : HasSmallCounts s

pub record CanBuild (all : List Fact) (s : Seen) : Type 0 where
  pub empty : TracksNothing s
  pub distinct : HasDistinctIds all
  pub bounded : AllInBounds all

pub record CanErase (f : Fact) (s : Seen) : Type 0 where
  pub live : List Fact
  pub is_live : IsLive live
  pub fits : Fits s live
  pub tracked : Contains live f
  pub bounded : IsInBounds f
  pub counts : HasSmallCounts s

-- the record s came by an accepted notice from the one before, which is sound and within reach
pub record CanUndoAdd (f : Fact) (s : Seen) (reach : ℕ) : Type 0 where
  pub could : CanAdd f (unadded f s)
  pub sound : IsSound (unadded f s)
  pub same : added f (unadded f s) ≡ s
  pub reached : need (unadded f s) ≤ reach

pub record CanUndoShift (old now : Fact) (s : Seen) (reach : ℕ) : Type 0 where
  pub could : CanShift old now (unshifted old now s)
  pub sound : IsSound (unshifted old now s)
  pub same : shifted old now (unshifted old now s) ≡ s
  pub reached : need (unshifted old now s) ≤ reach

pub record CanUndoBuild (s : Seen) (reach : ℕ) : Type 0 where
  pub all : List Fact
  pub could : CanBuild all (unbuilt s)
  pub sound : IsSound (unbuilt s)
  pub same : built all (unbuilt s) ≡ s
  pub reached : need (unbuilt s) ≤ reach

-- an observer that tracks nothing, and a parameter of its kind
pub record IsArmable (k : ℕ) (s : Seen) : Type 0 where
  pub empty : TracksNothing s
  pub small : k ≤ greatest_k s.kind
  pub fuse : fuse_part s.kind 1 ≤ k

-- the answer to a notice that may be refused: the next record, or the old one, and Refused exactly
-- where the law of the kind fails of the next
abbrev pub Answers : {E : Type 0} → Result E Veto → Seen → Seen → Seen → Type 0
Answers (Ok _) old new next = new ≡ next
Answers (Err Refused) old new next = (new ≡ old) × (Lawful next → ⊥)
Answers (Err Memory) old new next = new ≡ old

-- a fuse that has nothing left leaves
abbrev pub leaves : Seen → After
leaves s = if nat_eq (fuse_part s.kind 1) 1 && nat_eq s.left 0 then Detach else Keep
