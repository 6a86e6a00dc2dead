-- What contracts see of an observer.
use Rattle.std.specs.Prelude.{◌≡◌, ℕ, ◌+◌, ◌≤◌, IsTrue, List, [], map, length}
use Rattle.base_items.specs.declared.items.Fact.{Fact}
use Rattle.observe_core.specs.declared.kinds.Kind.{Kind}
use Rattle.observe_core.specs.declared.kinds.Kind.TheVariants.{Map}
use Rattle.observe_core.specs.declared.kinds.Readout.{Readout}
use Rattle.observe_core.specs.Items.{rises_from, above_all}
use Rattle.plain_digraph.specs.Facts.{fact_id}
use Rattle.observe_core.specs.Facts.{ends_of}
use Rattle.observe_core.specs.Held.{Held, Nothing, Values, Degree, Half, Kept, Ties, KeptRole}
use Rattle.observe_core.specs.Held.{KeptNodes, KeptArcs, Marked, IsHeldSound}
use Rattle.observe_core.specs.Guards.{Law, greatest_k, fuse_part, tally_part, by_kind}

pub record Seen : Type 0 where
  pub kind : Kind
  -- a guard's parameter, and its numbers; what a kind doesn't have is 0
  pub k : ℕ
  pub left : ℕ
  pub added : ℕ
  pub erased : ℕ
  pub moved : ℕ
  -- the facts that a guard tracks, by rising id
  pub facts : List Fact
  pub held : Held
  -- the place of the variant that holds it
  pub form : ℕ

-- what contracts see of a map
abbrev pub map_seen : Held → Seen
map_seen held = record {
  kind = Map;
  k = 0;
  left = 0;
  added = 0;
  erased = 0;
  moved = 0;
  facts = [];
  held = held;
  form = 0;
}

abbrev pub Lawful : Seen → Type 0
Lawful s = Law s.kind s.k s.facts

-- the parameter is one of the kind, a fuse has no more left than that, and a number that the kind
-- doesn't have is 0
pub record HasOwnNumbers (s : Seen) : Type 0 where
  pub items : length s.facts ≡ by_kind 0 (length s.facts) s.kind
  pub least : fuse_part s.kind 1 ≤ s.k
  pub greatest : s.k ≤ greatest_k s.kind
  pub left : s.left ≤ fuse_part s.kind s.k
  pub added : s.added ≡ tally_part s.kind s.added
  pub erased : s.erased ≡ tally_part s.kind s.erased
  pub moved : s.moved ≡ tally_part s.kind s.moved

-- what is so of every observer
pub record IsSound (s : Seen) : Type 0 where
  pub lawful : Lawful s
  pub numbers : HasOwnNumbers s
  pub rising : IsTrue (rises_from fact_id 0 s.facts)
  pub held : IsHeldSound s.held

abbrev pub facts_of_marked : List Marked → List Fact
facts_of_marked = map (λ m. m.fact)

abbrev pub need_of_kept : KeptRole → List Marked → ℕ
need_of_kept KeptNodes items = 0
need_of_kept (KeptArcs shape) items = above_all (ends_of (facts_of_marked items))

abbrev pub need_of_held : Held → ℕ
need_of_held Nothing = 0
need_of_held (Values t es) = 0
need_of_held (Degree out ends) = above_all ends
need_of_held (Half added others kept valid) = length kept
need_of_held (Kept role all items) = need_of_kept role items
need_of_held (Ties ties) = 0

-- how far an undo has to reach: past the ends of what it counts or keeps by ends, and for a half as
-- many facts as it keeps
abbrev pub need : Seen → ℕ
need s = above_all (ends_of s.facts) + need_of_held s.held

-- what contracts see of an observer, with what is always so of it
pub record Watched : Type 0 where
  pub seen : Seen
  -- how many labels there is room for
  pub room : ℕ
  -- how far an undo may reach without memory
  pub reach : ℕ
  pub sound : IsSound seen
  pub reaches : need seen ≤ reach

pub record Reads (s : Seen) (r : Readout) : Type 0 where
  pub items : r.items ≡ length s.facts
  pub k : r.k ≡ s.k
  pub left : r.left ≡ s.left
  pub added : r.added ≡ s.added
  pub erased : r.erased ≡ s.erased
  pub moved : r.moved ≡ s.moved
