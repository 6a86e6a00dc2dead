use Rattle.std.proofs.Common.{◌≡◌, sym, ap, subst, is_some, None, Option, ℕ, ◌∙◌}
use Rattle.report_text.specs.declared.faults.Fault.TheVariants as faults
use Rattle.plain_world.specs.Refusals.{unless}
use Rattle.view_tower.specs.Layers.{tower_of}
use Rattle.desk_seats.specs.contracts.seat.SeatObserver.TheImpl.{watch-value}
use Rattle.desk_world.specs.Faults.{Is}
use Rattle.desk_world.specs.NodeWords.{Means}
use Rattle.desk_world.specs.Plain.{plain_of}
use Rattle.desk_world.proofs.WordsRead.{found_shown, hidden, none_meant}
use Rattle.desk_world.proofs.node_words.World+Seat+B.find_node.Goals as goal

pub returns-then-has_node-clause-found : goal.returns-then-has_node-clause-found
returns-then-has_node-clause-found g c =
    let w = (watch-value g.row.B g.B.Observer g.B.Observer-dict g.B.Destruct-dict).it in
    let world = plain_of w c.args.self.now in
    let tower = tower_of c.args.layers.now in
    let word = c.args.word.now in
    found_shown world tower c.requires.in_step.valid (g.G.Shown.graph c.args.g.now)
    c.requires.live word c.in-Some.node
    (subst (Means world tower word) c.in-Some.is c.in_ok-node.ensures)
    (sym c.has_node.ensures ∙ c.if-has_node.true)

pub returns-else-has_node-clause-unknown : goal.returns-else-has_node-clause-unknown
returns-else-has_node-clause-unknown g c =
    let w = (watch-value g.row.B g.B.Observer g.B.Observer-dict g.B.Destruct-dict).it in
    let world = plain_of w c.args.self.now in
    let tower = tower_of c.args.layers.now in
    let word = c.args.word.now in
    subst (λ (o : Option ℕ). Is (unless (is_some o) (faults.Unknown word)) c.unknown.result)
    (sym (hidden world tower c.requires.in_step.valid (g.G.Shown.graph c.args.g.now)
    c.requires.live word c.in-Some.node
    (subst (Means world tower word) c.in-Some.is c.in_ok-node.ensures)
    (sym c.has_node.ensures ∙ c.if-has_node.false)))
    c.unknown.ensures

pub returns-in-None-clause-unknown : goal.returns-in-None-clause-unknown
returns-in-None-clause-unknown g c =
    let w = (watch-value g.row.B g.B.Observer g.B.Observer-dict g.B.Destruct-dict).it in
    let world = plain_of w c.args.self.now in
    let tower = tower_of c.args.layers.now in
    let word = c.args.word.now in
    subst (λ (o : Option ℕ). Is (unless (is_some o) (faults.Unknown word))
    c.unknown-in-None.result)
    (sym (none_meant world tower c.requires.in_step.valid (g.G.Shown.graph c.args.g.now)
    c.requires.live word (subst (Means world tower word) c.in-None.is c.in_ok-node.ensures)))
    c.unknown-in-None.ensures
