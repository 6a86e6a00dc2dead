use Rattle.std.proofs.Common.{◌≡◌, ◌∙◌, Some, get_or, ap, sym, arith}
use Rattle.snap_shots.specs.FactViews.{facts_in}
use Rattle.snap_shots.specs.Ranks.{rank}
use Rattle.snap_shots.proofs.RankLemmas.{from-rank, from-past, read, no_fact}
use Rattle.snap_shots.proofs.facts.RisingFacts.from.Goals as goal

pub returns-then-place-len : goal.returns-then-place-len
returns-then-place-len c =
    let fs = facts_in c.args.self.now in
    let low = c.args.low in
    let at : c.place_of-place.result ≡ rank low fs = c.place_of-place.ensures in
    let e = read c.place_of-place.result c.index.result.now no_fact fs (omega arith)
    c.index.ensures in
    ap Some (sym e ∙ ap (λ p. get_or fs p no_fact) at)
    ∙ sym (from-rank low no_fact fs (omega (arith, at)))

pub returns : goal.returns
returns c =
    let fs = facts_in c.args.self.now in
    let low = c.args.low in
    let at : c.place_of-place.result ≡ rank low fs = c.place_of-place.ensures in
    sym (from-past low fs (omega (arith, at)))
