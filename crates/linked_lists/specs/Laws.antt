-- What a removal and an insertion make of the lists in a table, each said whole.
use Rattle.std.specs.Prelude.{◌≡◌, ℕ, ◌<◌, false, List, ◌∷◌, ◌++◌, Option, None, length}
use Rattle.plain_digraph.specs.Lists.{has}
use Rattle.linked_lists.specs.declared.lists.Link.{Link}
use Rattle.linked_lists.specs.Links.{IsList, AreApart, AreWithin, AreElsewhere, last_or}
use Rattle.linked_lists.specs.Links.{removed, head_removed, inserted, head_inserted}

-- The list has the id no more.
abbrev pub RemovedFromList : Type 0
RemovedFromList = (head : Option ℕ) (links : List Link) (front back : List ℕ) (id : ℕ)
    → IsList head links (front ++ id ∷ back) → AreApart (front ++ id ∷ back)
    → AreWithin (length links) (front ++ id ∷ back)
    → IsList (head_removed head links id) (removed links id) (front ++ back)

-- A list that has no id with it stays.
abbrev pub RemovalKeeps : Type 0
RemovalKeeps = (head other : Option ℕ) (links : List Link) (front back others : List ℕ) (id : ℕ)
    → IsList head links (front ++ id ∷ back) → AreElsewhere (front ++ id ∷ back) others
    → IsList other links others → IsList other (removed links id) others

-- The id stands behind the front part.
abbrev pub InsertedInList : Type 0
InsertedInList = (head : Option ℕ) (links : List Link) (front back : List ℕ) (id : ℕ)
    → IsList head links (front ++ back) → AreApart (front ++ back) → has (front ++ back) id ≡ false
    → id < length links → AreWithin (length links) (front ++ back)
    → IsList (head_inserted head (last_or None front) id) (inserted head links (last_or None front) id)
    (front ++ id ∷ back)

-- A list that has no id with the one that grows stays.
abbrev pub InsertionKeeps : Type 0
InsertionKeeps = (head other : Option ℕ) (links : List Link) (front back others : List ℕ) (id : ℕ)
    → IsList head links (front ++ back) → AreElsewhere (front ++ id ∷ back) others
    → IsList other links others → IsList other (inserted head links (last_or None front) id) others
