-- The laws of guards, and what differs from kind to kind.
use Rattle.std.specs.Prelude.{ℕ, Bool, true, IsTrue, List}
use Rattle.base_items.specs.declared.items.Fact.{Fact}
use Rattle.plain_digraph.specs.Guards.{has_at_most, has_no_loop, is_simple, has_few_from_each}
use Rattle.observe_core.specs.declared.kinds.Kind.{Kind}
use Rattle.observe_core.specs.declared.kinds.Kind.TheVariants.{Map, Quota, Loopless, Simple, OutCap}
use Rattle.observe_core.specs.declared.kinds.Kind.TheVariants.{Fuse, Tally}

-- whether these facts keep the law of the kind
abbrev pub keeps_law : Kind → ℕ → List Fact → Bool
keeps_law Map k facts = true
keeps_law Quota k facts = has_at_most k facts
keeps_law Loopless k facts = has_no_loop facts
keeps_law Simple k facts = is_simple facts
keeps_law OutCap k facts = has_few_from_each k facts
keeps_law Fuse k facts = true
keeps_law Tally k facts = true

abbrev pub Law : Kind → ℕ → List Fact → Type 0
Law kind k facts = IsTrue (keeps_law kind k facts)

-- the greatest parameter of a kind
abbrev pub greatest_k : Kind → ℕ
greatest_k Map = 0
greatest_k Quota = 4194304
greatest_k Loopless = 0
greatest_k Simple = 0
greatest_k OutCap = 4194304
greatest_k Fuse = 4194304
greatest_k Tally = 0

-- n for a fuse, and 0 for every other kind
abbrev pub fuse_part : Kind → ℕ → ℕ
fuse_part Map n = 0
fuse_part Quota n = 0
fuse_part Loopless n = 0
fuse_part Simple n = 0
fuse_part OutCap n = 0
fuse_part Fuse n = n
fuse_part Tally n = 0

-- n for a tally, and 0 for every other kind
abbrev pub tally_part : Kind → ℕ → ℕ
tally_part Map n = 0
tally_part Quota n = 0
tally_part Loopless n = 0
tally_part Simple n = 0
tally_part OutCap n = 0
tally_part Fuse n = 0
tally_part Tally n = n

-- b for a guard, a for every other kind
abbrev pub by_kind : {A : Type 0} → A → A → Kind → A
by_kind a b Map = a
by_kind a b Quota = b
by_kind a b Loopless = b
by_kind a b Simple = b
by_kind a b OutCap = b
by_kind a b Fuse = b
by_kind a b Tally = b
