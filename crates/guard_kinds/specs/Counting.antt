-- Counts by key: what they are, and how they are found.
use Rattle.std.specs.Prelude.{◌≡◌, ℕ, zero, suc, ◌*◌, ◌/◌, ◌%◌, ◌<◌, Bool, true, not, ◌&&◌, ◌==◌}
use Rattle.std.specs.Prelude.{if◌then◌else◌, List, [], ◌∷◌, map, get_or}
use Rattle.std.specs.List.{sum_by}
use Rattle.observe_core.specs.Items.{number_id, has_id}
use Rattle.guard_kinds.specs.declared.counts.KeyCount.{KeyCount}

abbrev pub keys_of : List KeyCount → List ℕ
keys_of = map (λ e. e.key)

-- the count of a key, and that of all keys
abbrev pub count_at : List KeyCount → ℕ → ℕ
count_at es n = sum_by (λ e. if e.key == n then e.count else 0) es

abbrev pub total_of : List KeyCount → ℕ
total_of = sum_by (λ e. e.count)

-- no key stands twice
abbrev pub own_keys : List ℕ → Bool
own_keys [] = true
own_keys (k ∷ ks) = not (has_id number_id k ks) && own_keys ks

-- the last of the first so many keys that passes, counted from 1, or 0
abbrev pub last_where : (ℕ → Bool) → List ℕ → ℕ → ℕ
last_where test ks zero = 0
last_where test ks (suc i) = if test (get_or ks i 0) then suc i else last_where test ks i

-- the bucket of a key, of so many
abbrev pub bucket : ℕ → ℕ → ℕ
bucket size key = key * 11400714819323198485 % 18446744073709551616 / 4294967296 % size

abbrev pub in_bucket : ℕ → ℕ → ℕ → Bool
in_bucket size b key = bucket size key == b

abbrev pub no_count : KeyCount
no_count = record { key = 0; count = 0; next = 0 }

-- each of the first so many entries names the one before it in its bucket
abbrev pub IsLinked : ℕ → List KeyCount → ℕ → Type 0
IsLinked size es n = (i : ℕ) → i < n
    → (get_or es i no_count).next
    ≡ last_where (in_bucket size (bucket size (get_or (keys_of es) i 0))) (keys_of es) i

-- each bucket names the last of the first so many entries in it
abbrev pub IsHeaded : ℕ → List ℕ → List KeyCount → ℕ → Type 0
IsHeaded size heads es n = (b : ℕ) → b < size
    → get_or heads b 0 ≡ last_where (in_bucket size b) (keys_of es) n

-- an entry without its link
abbrev pub unlink : KeyCount → KeyCount
unlink e = record e { next = 0 }

abbrev pub unlinked : List KeyCount → List KeyCount
unlinked = map unlink
