use Rattle.std.proofs.Common.{◌≡◌, length, sym, ap, subst, ◌∙◌, arith, None}
use Rattle.std.specs.Prelude.{option_map}
use Rattle.base_items.specs.declared.items.ItemSort.TheVariants.{Node}
use Rattle.plain_world.specs.Demands.{item_named}
use Rattle.view_tower.specs.Layers.{tower_of}
use Rattle.desk_seats.specs.contracts.seat.SeatObserver.TheImpl.{watch-value}
use Rattle.desk_world.specs.NodeWords.{IsParted, letters_of}
use Rattle.desk_world.specs.Plain.{plain_of}
use Rattle.desk_world.proofs.NodesRaised.{letters_few}
use Rattle.desk_world.proofs.WordsRead.{own_low, no_label, meant_by}
use Rattle.desk_world.proofs.node_words.World+Seat+B.node_meant.Goals as goal

pub node_above-requires-clause-few : goal.node_above-requires-clause-few
node_above-requires-clause-few g c =
    let layers = c.args.layers.now in
    let counted = c.in-Some.ensures.parts.counted in
    let count = c.count_letters.ensures in
    let some = letters_few layers in
    let few = c.requires.few in
    omega (arith, counted, count, some, few)

pub node_above-requires-clause-low : goal.node_above-requires-clause-low
node_above-requires-clause-low g c =
    let w = (watch-value g.row.B g.B.Observer g.B.Observer-dict g.B.Destruct-dict).it in
    own_low (plain_of w c.args.self.now) (tower_of c.args.layers.now) c.requires.in_step.valid
    c.in_ok-label.label c.in-Some-item_named.node
    (sym c.item_named.ensures.named ∙ c.in-Some-item_named.is)

pub returns-in-Some-item_named : goal.returns-in-Some-item_named
returns-in-Some-item_named g c =
    let w = (watch-value g.row.B g.B.Observer g.B.Observer-dict g.B.Destruct-dict).it in
    let world = plain_of w c.args.self.now in
    let tower = tower_of c.args.layers.now in
    let word = c.args.word.now in
    let label = c.in-Some.label.now in
    let letters = c.in-Some.letters.now in
    let parted : IsParted (letters_of tower) word label letters =
    record {
      counted = c.in-Some.ensures.parts.counted ∙ c.count_letters.ensures;
      spelled = sym c.as_bytes.ensures ∙ c.in-Some.ensures.parts.spelled;
    } in
    meant_by world tower c.requires.in_step.valid word label letters parted
    c.in-Some-item_named.node
    (ap (item_named world Node) (sym c.in_ok-label.ensures)
    ∙ sym c.item_named.ensures.named ∙ c.in-Some-item_named.is)
    c.node_above.result c.node_above.ensures

pub returns : goal.returns
returns g c =
    let w = (watch-value g.row.B g.B.Observer g.B.Observer-dict g.B.Destruct-dict).it in
    let world = plain_of w c.args.self.now in
    let tower = tower_of c.args.layers.now in
    let word = c.args.word.now in
    let label = c.in-Some.label.now in
    let letters = c.in-Some.letters.now in
    let parted : IsParted (letters_of tower) word label letters =
    record {
      counted = c.in-Some.ensures.parts.counted ∙ c.count_letters.ensures;
      spelled = sym c.as_bytes.ensures ∙ c.in-Some.ensures.parts.spelled;
    } in
    no_label world tower c.requires.in_step.valid word label letters parted
    (ap (item_named world Node) (sym c.in_ok-label.ensures)
    ∙ sym c.item_named.ensures.named ∙ c.in-None.is)
