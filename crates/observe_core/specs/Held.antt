-- What observers other than guards hold, with the arguments that they were made with.
use Rattle.std.specs.Prelude.{◌≢◌, ℕ, Bool, false, IsTrue, ℤ, pos, List, [], ◌∷◌, Option, Some}
use Rattle.std.specs.Prelude.{None}
use Rattle.base_items.specs.declared.items.Fact.{Fact}
use Rattle.observe_core.specs.declared.kinds.KeptShape.{KeptShape}
use Rattle.plain_digraph.specs.Lists.{AllOf}
use Rattle.observe_core.specs.Items.{rises_from, never_falls, number_id}
use Rattle.plain_digraph.specs.Facts.{fact_id}

-- what an item's value is: an int, a bool or a text, a label that it may have, or whether it is a
-- true item
pub data MapType : Type 0 where
  Ints : MapType
  Bools : MapType
  Texts : MapType
  Labels : MapType
  Trues : MapType

abbrev pub ValueOf : MapType → Type 0
ValueOf Ints = ℤ
ValueOf Bools = Bool
ValueOf Texts = List ℕ
ValueOf Labels = Option (List ℕ)
ValueOf Trues = Bool

-- the value of a new item
abbrev pub default_of : (t : MapType) → ValueOf t
default_of Ints = pos 0
default_of Bools = false
default_of Texts = []
default_of Labels = None
default_of Trues = false

-- an item's value, by its id
pub record Entry (V : Type 0) : Type 0 where
  pub id : ℕ
  pub value : V

abbrev pub entry_id : {V : Type 0} → Entry V → ℕ
entry_id e = e.id

-- an item of a kept view, with its present marks
pub record Marked : Type 0 where
  pub fact : Fact
  pub shown : Bool
  pub forward : Bool
  pub backward : Bool

abbrev pub marked_id : Marked → ℕ
marked_id m = m.fact.id

-- whose items a kept view's observer holds
pub data KeptRole : Type 0 where
  KeptNodes : KeptRole
  KeptArcs : (shape : KeptShape) → KeptRole

-- an attribute's number, and the item that it is tied to
pub record Tie : Type 0 where
  pub tie : ℕ
  pub item : ℕ

abbrev pub tie_id : Tie → ℕ
tie_id t = t.tie

abbrev pub tied_id : Tie → ℕ
tied_id t = t.item

pub data Held : Type 0 where
  -- a guard
  Nothing : Held
  -- a map's values, a table of labels, or the true items, by rising id
  Values : (type : MapType) (entries : List (Entry (ValueOf type))) → Held
  -- for each arc the end by which it is counted; the ends don't fall
  Degree : (out : Bool) (ends : List ℕ) → Held
  -- half a snapshot: the ids added since, how many other items there are, the facts that moved
  -- items had at its making, and whether it is valid
  Half : (added : List ℕ) (others : ℕ) (kept : List Fact) (valid : Bool) → Held
  -- a kept view's nodes or arcs
  Kept : (role : KeptRole) (all : Bool) (items : List Marked) → Held
  -- ties by rising number
  Ties : (ties : List Tie) → Held

-- the arguments that it was made with
pub data Making : Type 0 where
  OfGuard : Making
  OfValues : (type : MapType) → Making
  OfDegree : (out : Bool) → Making
  OfHalf : Making
  OfKept : (role : KeptRole) (all : Bool) → Making
  OfTies : Making

abbrev pub making_of : Held → Making
making_of Nothing = OfGuard
making_of (Values t es) = OfValues t
making_of (Degree out ends) = OfDegree out
making_of (Half added others kept valid) = OfHalf
making_of (Kept role all items) = OfKept role all
making_of (Ties ties) = OfTies

-- no other entry has this label
abbrev pub LacksLabel : Option (List ℕ) → List (Entry (Option (List ℕ))) → Type 0
LacksLabel None es = Unit {0}
LacksLabel (Some text) es = AllOf (λ e. e.value ≢ Some text) es

abbrev pub HasOwnLabels : List (Entry (Option (List ℕ))) → Type 0
HasOwnLabels [] = Unit {0}
HasOwnLabels (e ∷ es) = LacksLabel e.value es × HasOwnLabels es

-- labels are one-to-one; other values are free
abbrev pub AreFair : (t : MapType) → List (Entry (ValueOf t)) → Type 0
AreFair Ints es = Unit {0}
AreFair Bools es = Unit {0}
AreFair Texts es = Unit {0}
AreFair Labels es = HasOwnLabels es
AreFair Trues es = Unit {0}

-- what is so of all that is held
abbrev pub IsHeldSound : Held → Type 0
IsHeldSound Nothing = Unit {0}
IsHeldSound (Values t es) = IsTrue (rises_from entry_id 0 es) × AreFair t es
IsHeldSound (Degree out ends) = IsTrue (never_falls ends)
IsHeldSound (Half added others kept valid) = IsTrue (rises_from number_id 0 added)
    × IsTrue (rises_from fact_id 0 kept)
IsHeldSound (Kept role all items) = IsTrue (rises_from marked_id 0 items)
IsHeldSound (Ties ties) = IsTrue (rises_from tie_id 0 ties)
