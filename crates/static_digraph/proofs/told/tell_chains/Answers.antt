use Rattle.observe_core.specs.declared.changes.Change.TheVariants.{Build}
use Rattle.observe_core.specs.Told.{built}
use Rattle.notify_chain.specs.Seats.{seats}
use Rattle.notify_chain.proofs.SeatLemmas.{all_steady, undo_ready, undo_back, each_same, ok_of}
use Rattle.static_digraph.proofs.Telling.{lawful_then, blames_arc}
use Rattle.static_digraph.proofs.told.tell_chains.Goals as goal

pub returns-in-Err-clause-arcs_kept : goal.returns-in-Err-clause-arcs_kept
returns-in-Err-clause-arcs_kept g c = each_same (seats g.O.Observer.watch c.args.on_arcs.now)

pub undo_build-requires : goal.undo_build-requires
undo_build-requires g c =
    let watch = g.O.Observer.watch in
    let old = c.args.on_nodes.now in
    let mid = c.announce_build.new.self in
    undo_ready (Build c.args.nodes) (seats watch old) (seats watch mid) c.requires.nodes
    (all_steady watch old.slots old.order)
    (ok_of c.announce_build.result c.in_default.not-Err c.announce_build.ensures.ok)

pub returns-in-Err-announce_build-clause-nodes_kept :
    goal.returns-in-Err-announce_build-clause-nodes_kept
returns-in-Err-announce_build-clause-nodes_kept g c =
    let watch = g.O.Observer.watch in
    let old = c.args.on_nodes.now in
    let mid = c.announce_build.new.self in
    let new = c.undo_build.new.self in
    undo_back (Build c.args.nodes) (seats watch old) (seats watch mid) (seats watch new)
    c.requires.nodes (all_steady watch old.slots old.order)
    (ok_of c.announce_build.result c.in_default.not-Err c.announce_build.ensures.ok)
    c.undo_build.ensures.untold

pub returns-in-Err-announce_build-clause-blamed : goal.returns-in-Err-announce_build-clause-blamed
returns-in-Err-announce_build-clause-blamed g c =
    let watch = g.O.Observer.watch in
    let old = c.args.on_nodes.now in
    let mid = c.announce_build.new.self in
    blames_arc (built c.args.nodes.now) (built c.args.arcs.now) (seats watch old)
    (seats watch c.args.on_arcs.now)
    c.in-Err-announce_build.key c.in-Err-announce_build.veto c.fault-in-Err-announce_build.result
    c.fault-in-Err-announce_build.ensures
    (lawful_then (built c.args.nodes.now) (seats watch old) (seats watch mid)
    (ok_of c.announce_build.result c.in_default.not-Err c.announce_build.ensures.ok)
    (all_steady watch mid.slots mid.order))
    c.in-Err-announce_build.ensures.refuser
