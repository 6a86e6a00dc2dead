use Rattle.std.proofs.Common.{◌≤◌, ◌^◌, All, sym, subst, arith}
use Rattle.pace_search.proofs.Shown.{shifted_short}
use Rattle.pace_search.proofs.search.negative_cycle.Goals as goal

pub search-requires-clause-short : goal.search-requires-clause-short
search-requires-clause-short c =
    subst (All (λ l. l ≤ 2 ^ 63)) (sym c.as_slice.ensures.value)
    (shifted_short (2 ^ 62) (2 ^ 63) c.args.len.now c.in_ok-lens.lens.items (omega arith)
    c.in_ok-lens.ensures c.requires.high)
