-- The maps of the tests: values that the ids alone tell.
use Rattle.std.specs.Prelude.{◌≡◌, ℕ, ◌+◌, ◌==◌, Bool, true, false, not, cond, nat_lt, ℤ, pos}
use Rattle.std.specs.Prelude.{Option}
use Rattle.std.specs.Prelude.{None, Some, unwrap_or}
use Rattle.std.specs.Option.{option_map_or}
use Rattle.std.proofs.Common.{ap, sym, ◌∙◌}
use Rattle.base_items.specs.declared.items.ItemSort.{ItemSort}
use Rattle.base_items.specs.declared.items.ItemSort.TheVariants as sorts
use Rattle.plain_views.specs.Adaptors.{is_even}
use Rattle.plain_views.specs.Towers.{Values}

-- the maps of even numbers have ints, those of odd ones bools, of both sorts
abbrev pub has_int : ItemSort → ℕ → Bool
has_int sort map = is_even map

-- whether the map has bools
abbrev pub has_bool : ItemSort → ℕ → Bool
has_bool sort map = not (is_even map)

-- all arcs have 2 in map 0, the capacity, and their id in the others; nodes have their id and 5
abbrev pub int_at : ItemSort → ℕ → ℕ → ℤ
int_at sorts.Node map id = pos (id + 5)
int_at sorts.Arc map id = cond (map == 0) (pos 2) (pos id)

-- all pass but node 2 and arc 1
abbrev pub bool_at : ItemSort → ℕ → ℕ → Bool
bool_at sorts.Node map id = not (id == 2)
bool_at sorts.Arc map id = not (id == 1)

-- maps 0 and 1 of the arcs have a partner, which has their number
abbrev pub partner_of : ℕ → Option ℕ
partner_of map = cond (nat_lt map 2) (Some map) None

-- the values together
abbrev pub columns : Values ℕ
columns = record { int = int_at; bool = bool_at; partner = partner_of }

-- ---- laws

-- no map has ints and bools
pub types_differ : (sort : ItemSort) (map : ℕ) → has_int sort map ≡ true → has_bool sort map ≡ false
types_differ sort map is = ap not is

-- where the number passes, that of the partner passes, if there is one
pub partner_passes : (test : ℕ → Bool) (given : Bool) (map partner : ℕ) → test map ≡ true
    → cond given (Some map) None ≡ Some partner → test partner ≡ true
partner_passes test true map partner is of = ap (λ o. test (unwrap_or o 0)) (sym of) ∙ is
partner_passes test false map partner is of = sym (ap (λ o. option_map_or test o true) of)

-- the partner of an int map is one of the nodes
pub int_partner : (map partner : ℕ) → has_int sorts.Arc map ≡ true
    → partner_of map ≡ Some partner → has_int sorts.Node partner ≡ true
int_partner map partner is of = partner_passes is_even (nat_lt map 2) map partner is of

-- so is that of a bool map
pub bool_partner : (map partner : ℕ) → has_bool sorts.Arc map ≡ true
    → partner_of map ≡ Some partner → has_bool sorts.Node partner ≡ true
bool_partner map partner is of =
    partner_passes (λ m. not (is_even m)) (nat_lt map 2) map partner is of
