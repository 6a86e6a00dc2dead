use Rattle.std.proofs.Common.{◌≡◌, ◌-◌, ◌∙◌, set, get_or, ap, sym, arith}
use Rattle.observe_core.specs.Held.{Degree}
use Rattle.index_maps.specs.Counted.{expand}
use Rattle.observe_core.specs.Seen.{map_seen}
use Rattle.index_maps.specs.Expanding.{expand-drop, expand-past}
use Rattle.index_maps.proofs.DegreeLemmas.{read-at}
use Rattle.index_maps.proofs.degree.Degree.lower.Goals as goal

pub returns-then-at-len-clause-seen : goal.returns-then-at-len-clause-seen
returns-then-at-len-clause-seen c =
    let self = c.args.self.now in
    let cs = self.counts.items in
    let n = c.args.node in
    let r = read-at n c.index.result.now 0 cs (omega arith) c.index.ensures in
    let e : c.saturating_sub.result ≡ get_or cs n 0 - 1 = c.saturating_sub.ensures
    ∙ ap (λ m. m - 1) (sym r) in
    ap (λ l. map_seen (Degree self.out l))
    (ap (λ m. expand 0 (set cs n m)) e ∙ sym (expand-drop 0 n n cs (omega arith) (omega arith)))

pub returns-else-at-len-clause-seen : goal.returns-else-at-len-clause-seen
returns-else-at-len-clause-seen c =
    let self = c.args.self.now in
    ap (λ l. map_seen (Degree self.out l))
    (sym (expand-past c.args.node self.counts.items (omega arith)))
