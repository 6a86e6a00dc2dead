-- What a failed call leaves that stores and then reports.
use Rattle.std.specs.Prelude.{◌≡◌, ℕ, List, [], ◌∷◌, ◌⊎◌}
use Rattle.edge_io.specs.Files.{Files, KeepsPart}
use Rattle.plain_machine.specs.Texts.{Saved, overwritten}
use Rattle.plain_machine.specs.Outcome.{Left, IsPrefixOf, WriteRose, StoreRose}

-- A write to the report failed: a prefix of the text went out, and what was to be saved stands
-- whole.
abbrev pub Unwritten : Files → List Saved → List ℕ → Left → Type 0
Unwritten files saves text left =
    IsPrefixOf left.out text × (left.files ≡ overwritten files saves) × WriteRose left

-- The store failed: nothing of the text went out, and of the file stands a part at most.
abbrev pub Unstored : Files → List Saved → Left → Type 0
Unstored files saves left =
    (name : List ℕ) × (bytes : List ℕ) × (saves ≡ (name, bytes) ∷ []) × (left.out ≡ [])
    × KeepsPart files name bytes left.files × StoreRose left name

-- One of the two.
abbrev pub Unhanded : Files → List Saved → List ℕ → Left → Type 0
Unhanded files saves text left = Unwritten files saves text left ⊎ Unstored files saves left
