-- Lists of numbers that begin at another place.
use Rattle.std.specs.Prelude.{◌≡◌, ℕ, ◌<◌, ◌≤◌, List, length, ◌++◌, take, drop}
use Rattle.plain_certificates.specs.Tables.{at}

-- the place of the least number among the first so many
pub record IsLeastOf (numbers : List ℕ) (count place : ℕ) : Type 0 where
  pub within : place < count
  pub least : (i : ℕ) → i < count → at 0 numbers place ≤ at 0 numbers i

-- the numbers from the place of the least one on, and then what stands before it
pub record BeginsLeast (numbers turned : List ℕ) : Type 0 where
  pub place : ℕ
  pub least : IsLeastOf numbers (length numbers) place
  pub is : turned ≡ drop place numbers ++ take place numbers
