-- Where a text keeps its bytes. No public clause cites this module.
use Rattle.std.specs.Prelude.{◌≡◌, ◌≤◌, ◌<◌, ℕ, List, take, length}
use Rattle.token_text.specs.declared.kept.Kept.{Kept}
use Rattle.token_text.specs.declared.kept.Kept.TheVariants.{Short, Long}

-- The bytes that are kept: of those in place as many as are counted.
abbrev pub kept_bytes : Kept → List ℕ
kept_bytes (Short count bytes) = take count bytes
kept_bytes (Long bytes) = bytes.value.items

-- No more bytes are counted than there are places, and an allocation has more than these.
abbrev pub IsKept : Kept → Type 0
IsKept (Short count bytes) = (length bytes ≡ 22) × (count ≤ 22)
IsKept (Long bytes) = 22 < length bytes.value.items
