-- The least value of an item, with the least id on a tie.
use Rattle.std.specs.Prelude.{◌≡◌, ℕ, ◌≤◌, ℤ, ◌≤ℤ◌, List}
use Rattle.observe_core.specs.Held.{Entry}
use Rattle.plain_digraph.specs.Lists.{AllOf}
use Rattle.value_maps.specs.Entries.{HasValue}

pub record IsLeastEntry (entries : List (Entry ℤ)) (id : ℕ) (value : ℤ) : Type 0 where
  pub has : HasValue id value entries
  pub least : AllOf (λ e. value ≤ℤ e.value) entries
  pub first : AllOf (λ e. e.value ≡ value → id ≤ e.id) entries
