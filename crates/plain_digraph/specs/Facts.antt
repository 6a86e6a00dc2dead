-- What is told of an arc once it has moved, by what was told of it.
use Rattle.std.specs.Prelude.{ℕ}
use Rattle.base_items.specs.declared.items.Fact.{Fact}

-- the id of the item that the fact is about
abbrev pub fact_id : Fact → ℕ
fact_id fact = fact.id

-- with this source, and this stamp by source
abbrev pub with_source : Fact → ℕ → ℕ → Fact
with_source fact node at = record fact { from = node; from_at = at }

-- with this target, and this stamp by target
abbrev pub with_target : Fact → ℕ → ℕ → Fact
with_target fact node at = record fact { to = node; to_at = at }

-- with its ends exchanged, and this stamp in both lists
abbrev pub turned : Fact → ℕ → Fact
turned fact at = record fact { from = fact.to; to = fact.from; from_at = at; to_at = at }
