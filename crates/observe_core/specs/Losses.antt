-- What happens for good, as one type.
use Rattle.std.specs.Prelude.{List, []}
use Rattle.base_items.specs.declared.items.Fact.{Fact}
use Rattle.observe_core.specs.declared.losses.Loss.{Loss}
use Rattle.observe_core.specs.declared.losses.Loss.TheVariants.{Erase, Clear}
use Rattle.observe_core.specs.declared.kinds.After.{After}
use Rattle.observe_core.specs.Seen.{Seen}
use Rattle.plain_digraph.specs.Facts.{fact_id}
use Rattle.plain_digraph.specs.Rising.{without_item}
use Rattle.observe_core.specs.Told.{erased, cleared}
use Rattle.observe_core.specs.Conditions.{CanErase, HasSmallCounts, leaves}

abbrev pub lost : Loss → Seen → Seen
lost (Erase f) s = erased f s
lost Clear s = cleared s

abbrev pub leaves_at : Loss → Seen → After
leaves_at (Erase f) s = leaves (erased f s)
leaves_at Clear s = leaves (record s { left = 0 })

abbrev pub CanLose : Loss → Seen → Type 0
CanLose (Erase f) s = CanErase f s
CanLose Clear s = HasSmallCounts s

-- the live facts afterwards
abbrev pub facts_left : Loss → List Fact → List Fact
facts_left (Erase f) facts = without_item fact_id f.id facts
facts_left Clear facts = []
