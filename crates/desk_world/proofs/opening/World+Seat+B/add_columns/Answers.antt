use Rattle.std.proofs.Common.{◌+◌, [], ◌∷◌, ◌++◌, take, drop, refl, sym, ap, ◌∙◌}
use Rattle.std.proofs.lemmas.List.{take_more}
use Rattle.token_text.specs.Names.{has_twice}
use Rattle.plain_world.specs.Effects.{with_maps}
use Rattle.desk_seats.specs.contracts.seat.SeatObserver.TheImpl.{watch-value}
use Rattle.desk_world.specs.Describing.{new_maps}
use Rattle.desk_world.specs.Plain.{plain_of}
use Rattle.desk_world.proofs.Described.{name_between}
use Rattle.desk_world.proofs.Opened.{none_made, may_make, one_made}
use Rattle.desk_world.proofs.opening.World+Seat+B.add_columns.Goals as goal

pub loop-name-init : goal.loop-name-init
loop-name-init g c =
    let w = (watch-value g.row.B g.B.Observer g.B.Observer-dict g.B.Destruct-dict).it in
    record {
      in_step = c.requires.in_step;
      made = none_made (plain_of w c.args.self.now) c.args.sort c.requires.no_maps;
      graph = refl;
      pool = refl;
    }

pub add_map-requires-clause-new : goal.add_map-requires-clause-new
add_map-requires-clause-new g c =
    let w = (watch-value g.row.B g.B.Observer g.B.Observer-dict g.B.Destruct-dict).it in
    let columns = c.args.columns.now in
    let i = c.loop-name.name-index in
    let name = c.name-item.result in
    let split = name_between columns i name c.loop-name-test.true c.name-item.is in
    may_make (plain_of w c.args.self.now) c.args.sort (plain_of w c.loop-name.self)
    (take i columns) name (drop (i + 1) columns) c.loop-name.invariant.made
    (sym (ap has_twice split) ∙ c.requires.differ)

pub loop-name-preserved : goal.loop-name-preserved
loop-name-preserved g c =
    let w = (watch-value g.row.B g.B.Observer g.B.Observer-dict g.B.Destruct-dict).it in
    let was = c.loop-name.invariant in
    let columns = c.args.columns.now in
    let i = c.loop-name.name-index in
    let name = c.name-item.result in
    let old = plain_of w c.args.self.now in
    let sort = c.args.sort in
    record {
      in_step = c.add_map.ensures.in_step;
      made = c.in_ok-add_map.ensures.made
          ∙ one_made old sort (plain_of w c.loop-name.self) (take i columns) name was.made
          ∙ ap (λ front. with_maps old sort (new_maps old sort front))
          (ap (λ n. take i columns ++ n ∷ []) c.name-item.is
          ∙ sym (take_more columns i name c.loop-name-test.true));
      graph = c.add_map.ensures.graph ∙ was.graph;
      pool = c.add_map.ensures.pool ∙ was.pool;
    }
