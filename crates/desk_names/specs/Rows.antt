-- What contracts see of a table of names.
use Rattle.std.specs.Prelude.{ℕ, List, map, refl}
use Rattle.std.specs.Coded.{Coded, code_by, coded×, coded_ℕ, coded_list}
use Rattle.plain_world.specs.Tables.{Named, under}

-- what stands under each name, in the order of making, and how many names more there is room for
pub record Rows (V : Type 0) : Type 0 where
  pub rows : List (Named V)
  pub room : ℕ

-- a row is stored as a pair, and a table as its rows and its room
abbrev pub named_code : {V : Type 0} → Coded V → Coded (Named V)
named_code {V} code =
    code_by (List ℕ × V) (coded× (coded_list coded_ℕ) code) (λ e. (e.name, e.value))
    (λ p. under p.0 p.1) (λ _. refl)

abbrev pub rows_code : {V : Type 0} → Coded V → Coded (Rows V)
rows_code {V} code =
    code_by (List (Named V) × ℕ) (coded× (coded_list (named_code code)) coded_ℕ)
    (λ t. (t.rows, t.room)) (λ p. record { rows = p.0; room = p.1 }) (λ _. refl)

-- the rows of pairs
abbrev pub rows_of : {V : Type 0} → List (List ℕ × V) → List (Named V)
rows_of entries = map (λ e. under e.0 e.1) entries
