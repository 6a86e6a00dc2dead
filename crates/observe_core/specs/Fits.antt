-- That an observer stands for the facts of the live items.
use Rattle.std.specs.Prelude.{◌≡◌, ◌≢◌, ℕ, ◌+◌, IsTrue, ◌==◌, List, [], map, length, count_by}
use Rattle.base_items.specs.declared.items.Fact.{Fact}
use Rattle.plain_digraph.specs.Lists.{AllOf}
use Rattle.observe_core.specs.Items.{Lacks, has_id, number_id}
use Rattle.plain_digraph.specs.Facts.{fact_id}
use Rattle.observe_core.specs.Facts.{end_of}
use Rattle.observe_core.specs.Held.{Held, Nothing, Values, Degree, Half, Kept, Ties, entry_id}
use Rattle.observe_core.specs.Held.{tied_id}
use Rattle.observe_core.specs.Guards.{by_kind}
use Rattle.observe_core.specs.Seen.{Seen, facts_of_marked}

-- a fact that a half keeps: of a live item that isn't added, and another than the present one
pub record IsKept (added : List ℕ) (live : List Fact) (f : Fact) : Type 0 where
  pub live_id : IsTrue (has_id fact_id f.id live)
  pub older : Lacks number_id f.id added
  pub moved : AllOf (λ g. g ≢ f) live

pub record HalfFits (added : List ℕ) (others : ℕ) (kept live : List Fact) : Type 0 where
  pub counted : length added + others ≡ length live
  pub among : AllOf (λ i. IsTrue (has_id fact_id i live)) added
  pub moved : AllOf (IsKept added live) kept

abbrev pub HeldFits : Held → List Fact → Type 0
HeldFits Nothing live = Unit {0}
HeldFits (Values t es) live = map entry_id es ≡ map fact_id live
HeldFits (Degree out ends) live = (v : ℕ)
    → count_by (λ n. n == v) ends ≡ count_by (λ f. end_of out f == v) live
HeldFits (Half added others kept valid) live = HalfFits added others kept live
HeldFits (Kept role all items) live = facts_of_marked items ≡ live
HeldFits (Ties ties) live = AllOf (λ t. IsTrue (has_id fact_id (tied_id t) live)) ties

-- the observer stands for these facts, by rising id
pub record Fits (s : Seen) (live : List Fact) : Type 0 where
  pub guard : s.facts ≡ by_kind [] live s.kind
  pub held : HeldFits s.held live
