-- What a table of links says of the lists that run through it.
use Rattle.std.specs.Prelude.{◌≡◌, ℕ, ◌<◌, true, false, List, [], ◌∷◌, Option, None, Some, IfSome, slice_index_or, slice_set}
use Rattle.plain_digraph.specs.Lists.{first, has}
use Rattle.linked_lists.specs.declared.lists.Link.{Link}

-- ---- reading the table

abbrev pub loose : Link
loose = record { prev = None; next = None }

abbrev pub link_at : List Link → ℕ → Link
link_at links id = slice_index_or links id loose

-- The place, if there is one, is in a table of this size.
abbrev pub IsPlace : ℕ → Option ℕ → Type 0
IsPlace size at = IfSome at (λ id. id < size)

abbrev pub HasPlaces : ℕ → Link → Type 0
HasPlaces size link = IsPlace size link.prev × IsPlace size link.next

-- What follows the id, or begins the list.
abbrev pub next_from : Option ℕ → List Link → Option ℕ → Option ℕ
next_from head links None = head
next_from head links (Some id) = (link_at links id).next

-- ---- lists in the table

-- The first id, or what follows where there is none.
abbrev pub first_or : List ℕ → Option ℕ → Option ℕ
first_or [] after = after
first_or (id ∷ ids) after = Some id

-- The last id, or what stands before where there is none.
abbrev pub last_or : Option ℕ → List ℕ → Option ℕ
last_or before [] = before
last_or before (id ∷ ids) = last_or (Some id) ids

-- Each id of the list is linked to its neighbours; at its ends it has these two.
abbrev pub IsChain : List Link → Option ℕ → List ℕ → Option ℕ → Type 0
IsChain links before [] after = Unit {0}
IsChain links before (id ∷ ids) after =
    ((link_at links id).prev ≡ before) × ((link_at links id).next ≡ first_or ids after)
    × IsChain links (Some id) ids after

-- The list begins at the head.
pub record IsList (head : Option ℕ) (links : List Link) (ids : List ℕ) : Type 0 where
  pub begins : head ≡ first ids
  pub linked : IsChain links None ids None

-- No id stands twice.
abbrev pub AreApart : List ℕ → Type 0
AreApart [] = Unit {0}
AreApart (id ∷ ids) = (has ids id ≡ false) × AreApart ids

-- Each id has a row in a table of this size.
abbrev pub AreWithin : ℕ → List ℕ → Type 0
AreWithin size ids = (id : ℕ) → has ids id ≡ true → id < size

-- No id stands in both.
abbrev pub AreElsewhere : List ℕ → List ℕ → Type 0
AreElsewhere ids others = (id : ℕ) → has others id ≡ true → has ids id ≡ false

-- ---- changing the table

abbrev pub with_next : List Link → Option ℕ → Option ℕ → List Link
with_next links None next = links
with_next links (Some id) next = slice_set links id (record { prev = (link_at links id).prev; next = next })

abbrev pub with_prev : List Link → Option ℕ → Option ℕ → List Link
with_prev links None prev = links
with_prev links (Some id) prev = slice_set links id (record { prev = prev; next = (link_at links id).next })

-- The two are neighbours.
abbrev pub joined : List Link → Option ℕ → Option ℕ → List Link
joined links prev next = with_prev (with_next links prev next) next prev

-- Nothing in front makes it the head.
abbrev pub head_joined : Option ℕ → Option ℕ → Option ℕ → Option ℕ
head_joined head None next = next
head_joined head (Some id) next = head

-- The neighbours of the id are joined.
abbrev pub removed : List Link → ℕ → List Link
removed links id = joined links (link_at links id).prev (link_at links id).next

abbrev pub head_removed : Option ℕ → List Link → ℕ → Option ℕ
head_removed head links id = head_joined head (link_at links id).prev (link_at links id).next

-- The id is joined to the one that it stands behind, and to what followed that one.
abbrev pub inserted : Option ℕ → List Link → Option ℕ → ℕ → List Link
inserted head links behind id = joined (joined links behind (Some id)) (Some id) (next_from head links behind)

abbrev pub head_inserted : Option ℕ → Option ℕ → ℕ → Option ℕ
head_inserted head behind id = head_joined head behind (Some id)
