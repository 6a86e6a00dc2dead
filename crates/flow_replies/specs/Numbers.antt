-- The numbers that replies name.
use Rattle.std.specs.Prelude.{ℕ, ◌==◌, Bool, not, ℤ, pos, unsigned_abs, List}
use Rattle.plain_certificates.specs.Tables.{at}

-- whether the flow isn't 0
abbrev pub is_some_flow : ℤ → Bool
is_some_flow flow = not (unsigned_abs flow == 0)

-- whether the flow on the arc isn't 0
abbrev pub carries : List ℤ → ℕ → Bool
carries flow arc = is_some_flow (at (pos 0) flow arc)
