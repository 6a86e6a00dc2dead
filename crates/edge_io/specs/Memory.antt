-- A shelf and a sink in memory, as contracts see them.
use Rattle.std.specs.Prelude.{ℕ, ◌==◌, Bool, List, refl}
use Rattle.std.specs.List.{list_any}
use Rattle.std.specs.FinMap as map
use Rattle.std.specs.Coded.{Coded, code_by, coded×, coded_ℕ, coded_list}
use Rattle.edge_io.specs.Files.{Files}

-- the files, the numbers of the calls that fail, the calls so far, those that failed, and the
-- stores that failed at want of memory
pub record ShelfInMemory : Type 0 where
  pub files : Files
  pub bad_reads : List ℕ
  pub bad_stores : List ℕ
  pub reads : ℕ
  pub stores : ℕ
  pub read_faults : ℕ
  pub store_faults : ℕ
  pub memory_faults : ℕ

abbrev pub files_code : Coded Files
files_code = map.code (coded_list coded_ℕ) (coded_list coded_ℕ)

-- a shelf is stored as the tuple of its fields
abbrev pub shelf_code : Coded ShelfInMemory
shelf_code = code_by
    (Files × (List ℕ × (List ℕ × (ℕ × (ℕ × (ℕ × (ℕ × ℕ)))))))
    (coded× files_code (coded× (coded_list coded_ℕ) (coded× (coded_list coded_ℕ) (coded× coded_ℕ
    (coded× coded_ℕ (coded× coded_ℕ (coded× coded_ℕ coded_ℕ)))))))
    (λ h. (
      h.files,
      (
        h.bad_reads,
        (
          h.bad_stores,
          (h.reads, (h.stores, (h.read_faults, (h.store_faults, h.memory_faults)))),
        ),
      ),
    ))
    (λ p. record {
      files = p.0;
      bad_reads = p.1.0;
      bad_stores = p.1.1.0;
      reads = p.1.1.1.0;
      stores = p.1.1.1.1.0;
      read_faults = p.1.1.1.1.1.0;
      store_faults = p.1.1.1.1.1.1.0;
      memory_faults = p.1.1.1.1.1.1.1;
    })
    (λ _. refl)

-- the bytes taken, the numbers of the calls that fail, the calls so far, those that failed, and
-- those that failed at want of memory
pub record SinkInMemory : Type 0 where
  pub taken : List ℕ
  pub bad_puts : List ℕ
  pub puts : ℕ
  pub faults : ℕ
  pub memory_faults : ℕ

abbrev pub is_listed : List ℕ → ℕ → Bool
is_listed numbers number = list_any (λ n. n == number) numbers

-- a file in memory, by its two lists
abbrev pub entry_of : {V : Type 0} → (V → List ℕ) → V × V → List ℕ × List ℕ
entry_of items e = (items e.0, items e.1)
