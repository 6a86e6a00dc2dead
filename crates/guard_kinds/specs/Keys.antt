-- What a guard counts: the law of each kind as a limit on how many facts have one key.
use Rattle.observe_core.specs.Guards.{fuse_part, tally_part, greatest_k}
use Rattle.std.specs.Prelude.{◌≡◌, ℕ, ◌+◌, ◌*◌, ◌≤◌, Bool, true, false, ◌==◌, if◌then◌else◌, List}
use Rattle.std.specs.Prelude.{Option, Some, None, count_by, nat_lt}
use Rattle.base_items.specs.declared.items.Fact.{Fact}
use Rattle.observe_core.specs.declared.kinds.Kind.{Kind}
use Rattle.observe_core.specs.declared.kinds.Kind.TheVariants.{Map, Quota, Loopless, Simple, OutCap}
use Rattle.observe_core.specs.declared.kinds.Kind.TheVariants.{Fuse, Tally}

-- the key by which a kind counts a fact, if it counts it
abbrev pub key_of : Kind → Fact → Option ℕ
key_of Map f = None
key_of Quota f = Some 0
key_of Loopless f = if f.from == f.to then Some 0 else None
key_of Simple f = Some (f.from * 4294967296 + f.to)
key_of OutCap f = Some f.from
key_of Fuse f = None
key_of Tally f = None

-- how many facts may have one key
abbrev pub limit_of : Kind → ℕ → ℕ
limit_of Map k = 0
limit_of Quota k = k
limit_of Loopless k = 0
limit_of Simple k = 1
limit_of OutCap k = k
limit_of Fuse k = 0
limit_of Tally k = 0

-- how many keys may stand among so many facts
abbrev pub room_of : Kind → ℕ → ℕ
room_of Map facts = 0
room_of Quota facts = if nat_lt 0 facts then 1 else 0
room_of Loopless facts = 0
room_of Simple facts = facts
room_of OutCap facts = facts
room_of Fuse facts = 0
room_of Tally facts = 0

-- whether this is the key
abbrev pub is_key : ℕ → Option ℕ → Bool
is_key n None = false
is_key n (Some m) = m == n

abbrev pub is_keyed : Option ℕ → Bool
is_keyed None = false
is_keyed (Some m) = true

-- 1 where the test passes
abbrev pub one : Bool → ℕ
one b = if b then 1 else 0

-- how many facts have the key, and how many have any
abbrev pub with_key : Kind → ℕ → List Fact → ℕ
with_key kind n facts = count_by (λ f. is_key n (key_of kind f)) facts

abbrev pub keyed : Kind → List Fact → ℕ
keyed kind facts = count_by (λ f. is_keyed (key_of kind f)) facts

-- no key stands above its limit
abbrev pub IsWithin : Kind → ℕ → List Fact → Type 0
IsWithin kind k facts = (n : ℕ) → with_key kind n facts ≤ limit_of kind k

-- the parameter is one of the kind, a fuse has no more left than that, and a number that the kind
-- doesn't have is 0
pub record FitsKind (kind : Kind) (k left added erased moved : ℕ) : Type 0 where
  pub least : fuse_part kind 1 ≤ k
  pub greatest : k ≤ greatest_k kind
  pub own_left : left ≤ fuse_part kind k
  pub own_added : added ≡ tally_part kind added
  pub own_erased : erased ≡ tally_part kind erased
  pub own_moved : moved ≡ tally_part kind moved
