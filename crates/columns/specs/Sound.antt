-- What is so of every column.
use Rattle.std.proofs.Common.{ℕ, ◌+◌, Bool, true, false, IsTrue, List, [], ◌∷◌, refl, arith}
use Rattle.std.proofs.lemmas.Grind.{common_steps}
use Rattle.observe_core.specs.Held.{Entry, entry_id}
use Rattle.observe_core.specs.Items.{rises_from}
use Rattle.observe_core.specs.Slots.{present, well_placed}
use Rattle.observe_core.proofs.SlotLemmas.{present-rises}
use Rattle.columns.specs.Slots.{slots_of}

abbrev pub any : {V : Type 0} → Entry V → Bool
any e = true

-- each entry stands at its id
pub slots-placed : {V : Type 0} (i : ℕ) (ls : List Bool) (vs : List V)
    → IsTrue (well_placed entry_id any i (slots_of i ls vs))
slots-placed i [] vs = refl
slots-placed i (l ∷ ls) [] = refl
slots-placed i (true ∷ ls) (v ∷ vs) = let r =
    slots-placed (i + 1) ls vs in grind (arith, common_steps, r)
slots-placed i (false ∷ ls) (v ∷ vs) = slots-placed (i + 1) ls vs

-- the ids rise
pub column-rises : {V : Type 0} (ls : List Bool) (vs : List V)
    → IsTrue (rises_from entry_id 0 (present (slots_of 0 ls vs)))
column-rises ls vs = present-rises entry_id any 0 (slots_of 0 ls vs) (slots-placed 0 ls vs)
