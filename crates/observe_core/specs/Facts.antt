-- Facts: their bounds, their ends, and lists of the facts of live items.
use Rattle.std.specs.Prelude.{ℕ, ◌<◌, Bool, true, false, ◌&&◌, ◌==◌, if◌then◌else◌, IsTrue, List}
use Rattle.std.specs.Prelude.{[], ◌∷◌}
use Rattle.base_items.specs.declared.items.Fact.{Fact}
use Rattle.plain_digraph.specs.Lists.{AllOf}
use Rattle.plain_digraph.specs.Facts.{fact_id}
use Rattle.observe_core.specs.Items.{Lacks, rises_from}

-- the id and the ends are those of an item
abbrev pub IsInBounds : Fact → Type 0
IsInBounds f = (f.id < 4194304) × (f.from < 4194304) × (f.to < 4194304)

abbrev pub AllInBounds : List Fact → Type 0
AllInBounds = AllOf IsInBounds

abbrev pub HasDistinctIds : List Fact → Type 0
HasDistinctIds [] = Unit {0}
HasDistinctIds (f ∷ fs) = Lacks fact_id f.id fs × HasDistinctIds fs

-- the facts of live items, by rising id
pub record IsLive (facts : List Fact) : Type 0 where
  pub rising : IsTrue (rises_from fact_id 0 facts)
  pub bounded : AllInBounds facts

-- both ends of each
abbrev pub ends_of : List Fact → List ℕ
ends_of [] = []
ends_of (f ∷ fs) = f.from ∷ f.to ∷ ends_of fs

-- the end by which arcs are counted
abbrev pub end_of : Bool → Fact → ℕ
end_of out f = if out then f.from else f.to

-- f and g are the same fact, as `==` says it
abbrev pub same_fact : Fact → Fact → Bool
same_fact f g = (f.id == g.id)
    && ((f.from == g.from)
    && ((f.to == g.to) && ((f.from_at == g.from_at) && (f.to_at == g.to_at))))

abbrev pub has_fact : Fact → List Fact → Bool
has_fact f [] = false
has_fact f (g ∷ gs) = if same_fact f g then true else has_fact f gs
