use Rattle.script_words.specs.declared.commands.Command.TheVariants as commands
use Rattle.script_words.specs.Valid.{IsValid}
use Rattle.std.proofs.Common.{refl, subst}
use Rattle.desk_seats.specs.contracts.seat.SeatObserver.TheImpl.{watch-value}
use Rattle.desk_world.specs.Plain.{plain_of}
use Rattle.desk_world.proofs.Answered.{same_stamps}
use Rattle.desk_world.proofs.Stepping.{answered_by, refused_by}
use Rattle.desk_world.proofs.steps.World+Seat+B.step.Goals as goal

pub new_map-requires-clause-name : goal.new_map-requires-clause-name
new_map-requires-clause-name g c = subst IsValid c.in-NodeMap.is c.requires.valid

pub new_map-requires-in-ArcMap-clause-name : goal.new_map-requires-in-ArcMap-clause-name
new_map-requires-in-ArcMap-clause-name g c = subst IsValid c.in-ArcMap.is c.requires.valid

pub new_degree-requires-clause-name : goal.new_degree-requires-clause-name
new_degree-requires-clause-name g c = subst IsValid c.in-Degree.is c.requires.valid

pub new_index-requires-clause-name : goal.new_index-requires-clause-name
new_index-requires-clause-name g c = subst IsValid c.in-Trues.is c.requires.valid

pub returns-in-AddNode : goal.returns-in-AddNode
returns-in-AddNode g c =
    let w = (watch-value g.row.B g.B.Observer g.B.Observer-dict g.B.Destruct-dict).it in
    let old = plain_of w c.args.self.now in
    let new = plain_of w c.add_node.new.self in
    let asked = commands.AddNode c.in-AddNode.label in
    record {
      answered = answered_by old new c.args.command.now asked c.in-AddNode.is c.add_node.result
          c.add_node.ensures.step;
      refused = refused_by old new c.args.command.now asked c.in-AddNode.is c.add_node.result
          c.add_node.ensures.step;
      in_step = c.add_node.ensures.in_step;
      stamps = c.add_node.ensures.stamps;
    }

pub returns-in-AddArc : goal.returns-in-AddArc
returns-in-AddArc g c =
    let w = (watch-value g.row.B g.B.Observer g.B.Observer-dict g.B.Destruct-dict).it in
    let old = plain_of w c.args.self.now in
    let new = plain_of w c.add_arc.new.self in
    let asked = commands.AddArc c.in-AddArc.label c.in-AddArc.from c.in-AddArc.to in
    record {
      answered = answered_by old new c.args.command.now asked c.in-AddArc.is c.add_arc.result
          c.add_arc.ensures.step;
      refused = refused_by old new c.args.command.now asked c.in-AddArc.is c.add_arc.result
          c.add_arc.ensures.step;
      in_step = c.add_arc.ensures.in_step;
      stamps = c.add_arc.ensures.stamps;
    }

pub returns-in-DelNode : goal.returns-in-DelNode
returns-in-DelNode g c =
    let w = (watch-value g.row.B g.B.Observer g.B.Observer-dict g.B.Destruct-dict).it in
    let old = plain_of w c.args.self.now in
    let new = plain_of w c.del_node.new.self in
    let asked = commands.DelNode c.in-DelNode.node in
    record {
      answered = answered_by old new c.args.command.now asked c.in-DelNode.is c.del_node.result
          c.del_node.ensures.step;
      refused = refused_by old new c.args.command.now asked c.in-DelNode.is c.del_node.result
          c.del_node.ensures.step;
      in_step = c.del_node.ensures.in_step;
      stamps = c.del_node.ensures.stamps;
    }

pub returns-in-DelArc : goal.returns-in-DelArc
returns-in-DelArc g c =
    let w = (watch-value g.row.B g.B.Observer g.B.Observer-dict g.B.Destruct-dict).it in
    let old = plain_of w c.args.self.now in
    let new = plain_of w c.del_arc.new.self in
    let asked = commands.DelArc c.in-DelArc.arc in
    record {
      answered = answered_by old new c.args.command.now asked c.in-DelArc.is c.del_arc.result
          c.del_arc.ensures.step;
      refused = refused_by old new c.args.command.now asked c.in-DelArc.is c.del_arc.result
          c.del_arc.ensures.step;
      in_step = c.del_arc.ensures.in_step;
      stamps = c.del_arc.ensures.stamps;
    }

pub returns-in-Source : goal.returns-in-Source
returns-in-Source g c =
    let w = (watch-value g.row.B g.B.Observer g.B.Observer-dict g.B.Destruct-dict).it in
    let old = plain_of w c.args.self.now in
    let new = plain_of w c.source.new.self in
    let asked = commands.Source c.in-Source.arc c.in-Source.node in
    record {
      answered = answered_by old new c.args.command.now asked c.in-Source.is c.source.result
          c.source.ensures.step;
      refused = refused_by old new c.args.command.now asked c.in-Source.is c.source.result
          c.source.ensures.step;
      in_step = c.source.ensures.in_step;
      stamps = c.source.ensures.stamps;
    }

pub returns-in-Target : goal.returns-in-Target
returns-in-Target g c =
    let w = (watch-value g.row.B g.B.Observer g.B.Observer-dict g.B.Destruct-dict).it in
    let old = plain_of w c.args.self.now in
    let new = plain_of w c.target.new.self in
    let asked = commands.Target c.in-Target.arc c.in-Target.node in
    record {
      answered = answered_by old new c.args.command.now asked c.in-Target.is c.target.result
          c.target.ensures.step;
      refused = refused_by old new c.args.command.now asked c.in-Target.is c.target.result
          c.target.ensures.step;
      in_step = c.target.ensures.in_step;
      stamps = c.target.ensures.stamps;
    }

pub returns-in-Turn : goal.returns-in-Turn
returns-in-Turn g c =
    let w = (watch-value g.row.B g.B.Observer g.B.Observer-dict g.B.Destruct-dict).it in
    let old = plain_of w c.args.self.now in
    let new = plain_of w c.turn.new.self in
    let asked = commands.Turn c.in-Turn.arc in
    record {
      answered = answered_by old new c.args.command.now asked c.in-Turn.is c.turn.result
          c.turn.ensures.step;
      refused = refused_by old new c.args.command.now asked c.in-Turn.is c.turn.result
          c.turn.ensures.step;
      in_step = c.turn.ensures.in_step;
      stamps = c.turn.ensures.stamps;
    }

pub returns-in-Contract : goal.returns-in-Contract
returns-in-Contract g c =
    let w = (watch-value g.row.B g.B.Observer g.B.Observer-dict g.B.Destruct-dict).it in
    let old = plain_of w c.args.self.now in
    let new = plain_of w c.contract.new.self in
    let asked = commands.Contract c.in-Contract.u c.in-Contract.v c.in-Contract.loops in
    record {
      answered = answered_by old new c.args.command.now asked c.in-Contract.is c.contract.result
          c.contract.ensures.step;
      refused = refused_by old new c.args.command.now asked c.in-Contract.is c.contract.result
          c.contract.ensures.step;
      in_step = c.contract.ensures.in_step;
      stamps = c.contract.ensures.stamps;
    }

pub returns-in-SplitNode : goal.returns-in-SplitNode
returns-in-SplitNode g c =
    let w = (watch-value g.row.B g.B.Observer g.B.Observer-dict g.B.Destruct-dict).it in
    let old = plain_of w c.args.self.now in
    let new = plain_of w c.split_node.new.self in
    let asked = commands.SplitNode c.in-SplitNode.node c.in-SplitNode.label c.in-SplitNode.arc in
    record {
      answered = answered_by old new c.args.command.now asked c.in-SplitNode.is c.split_node.result
          c.split_node.ensures.step;
      refused = refused_by old new c.args.command.now asked c.in-SplitNode.is c.split_node.result
          c.split_node.ensures.step;
      in_step = c.split_node.ensures.in_step;
      stamps = c.split_node.ensures.stamps;
    }

pub returns-in-SplitArc : goal.returns-in-SplitArc
returns-in-SplitArc g c =
    let w = (watch-value g.row.B g.B.Observer g.B.Observer-dict g.B.Destruct-dict).it in
    let old = plain_of w c.args.self.now in
    let new = plain_of w c.split_arc.new.self in
    let asked = commands.SplitArc c.in-SplitArc.arc c.in-SplitArc.label c.in-SplitArc.new in
    record {
      answered = answered_by old new c.args.command.now asked c.in-SplitArc.is c.split_arc.result
          c.split_arc.ensures.step;
      refused = refused_by old new c.args.command.now asked c.in-SplitArc.is c.split_arc.result
          c.split_arc.ensures.step;
      in_step = c.split_arc.ensures.in_step;
      stamps = c.split_arc.ensures.stamps;
    }

pub returns-in-Clear : goal.returns-in-Clear
returns-in-Clear g c =
    let w = (watch-value g.row.B g.B.Observer g.B.Observer-dict g.B.Destruct-dict).it in
    let old = plain_of w c.args.self.now in
    let new = plain_of w c.clear.new.self in
    let asked = commands.Clear in
    record {
      answered = answered_by old new c.args.command.now asked c.in-Clear.is c.clear.result
          c.clear.ensures.step;
      refused = refused_by old new c.args.command.now asked c.in-Clear.is c.clear.result
          c.clear.ensures.step;
      in_step = c.clear.ensures.in_step;
      stamps = c.clear.ensures.stamps;
    }

pub returns-in-NodeMap : goal.returns-in-NodeMap
returns-in-NodeMap g c =
    let w = (watch-value g.row.B g.B.Observer g.B.Observer-dict g.B.Destruct-dict).it in
    let old = plain_of w c.args.self.now in
    let new = plain_of w c.new_map.new.self in
    let asked = commands.NodeMap c.in-NodeMap.name c.in-NodeMap.kind in
    record {
      answered = answered_by old new c.args.command.now asked c.in-NodeMap.is c.new_map.result
          c.new_map.ensures.step;
      refused = refused_by old new c.args.command.now asked c.in-NodeMap.is c.new_map.result
          c.new_map.ensures.step;
      in_step = c.new_map.ensures.in_step;
      stamps = c.new_map.ensures.stamps;
    }

pub returns-in-ArcMap : goal.returns-in-ArcMap
returns-in-ArcMap g c =
    let w = (watch-value g.row.B g.B.Observer g.B.Observer-dict g.B.Destruct-dict).it in
    let old = plain_of w c.args.self.now in
    let new = plain_of w c.new_map-in-ArcMap.new.self in
    let asked = commands.ArcMap c.in-ArcMap.name c.in-ArcMap.kind in
    record {
      answered = answered_by old new c.args.command.now asked c.in-ArcMap.is
          c.new_map-in-ArcMap.result c.new_map-in-ArcMap.ensures.step;
      refused = refused_by old new c.args.command.now asked c.in-ArcMap.is
          c.new_map-in-ArcMap.result c.new_map-in-ArcMap.ensures.step;
      in_step = c.new_map-in-ArcMap.ensures.in_step;
      stamps = c.new_map-in-ArcMap.ensures.stamps;
    }

pub returns-in-Retype : goal.returns-in-Retype
returns-in-Retype g c =
    let w = (watch-value g.row.B g.B.Observer g.B.Observer-dict g.B.Destruct-dict).it in
    let old = plain_of w c.args.self.now in
    let new = plain_of w c.retype.new.self in
    let asked = commands.Retype c.in-Retype.sort c.in-Retype.map c.in-Retype.kind in
    record {
      answered = answered_by old new c.args.command.now asked c.in-Retype.is c.retype.result
          c.retype.ensures.step;
      refused = refused_by old new c.args.command.now asked c.in-Retype.is c.retype.result
          c.retype.ensures.step;
      in_step = c.retype.ensures.in_step;
      stamps = c.retype.ensures.stamps;
    }

pub returns-in-Set : goal.returns-in-Set
returns-in-Set g c =
    let w = (watch-value g.row.B g.B.Observer g.B.Observer-dict g.B.Destruct-dict).it in
    let old = plain_of w c.args.self.now in
    let new = plain_of w c.set.new.self in
    let asked = commands.Set c.in-Set.sort c.in-Set.map c.in-Set.item c.in-Set.value in
    record {
      answered = answered_by old new c.args.command.now asked c.in-Set.is c.set.result
          c.set.ensures.step;
      refused = refused_by old new c.args.command.now asked c.in-Set.is c.set.result
          c.set.ensures.step;
      in_step = c.set.ensures.in_step;
      stamps = c.set.ensures.stamps;
    }

pub returns-in-Get : goal.returns-in-Get
returns-in-Get g c =
    let w = (watch-value g.row.B g.B.Observer g.B.Observer-dict g.B.Destruct-dict).it in
    let old = plain_of w c.args.self.now in
    let new = plain_of w c.args.self.now in
    let asked = commands.Get c.in-Get.sort c.in-Get.map c.in-Get.item in
    record {
      answered = answered_by old new c.args.command.now asked c.in-Get.is c.get.result
          c.get.ensures;
      refused = refused_by old new c.args.command.now asked c.in-Get.is c.get.result
          c.get.ensures;
      in_step = c.requires.in_step;
      stamps = same_stamps _ _ refl;
    }

pub returns-in-Degree : goal.returns-in-Degree
returns-in-Degree g c =
    let w = (watch-value g.row.B g.B.Observer g.B.Observer-dict g.B.Destruct-dict).it in
    let old = plain_of w c.args.self.now in
    let new = plain_of w c.new_degree.new.self in
    let asked = commands.Degree c.in-Degree.name c.in-Degree.way in
    record {
      answered = answered_by old new c.args.command.now asked c.in-Degree.is c.new_degree.result
          c.new_degree.ensures.step;
      refused = refused_by old new c.args.command.now asked c.in-Degree.is c.new_degree.result
          c.new_degree.ensures.step;
      in_step = c.new_degree.ensures.in_step;
      stamps = c.new_degree.ensures.stamps;
    }

pub returns-in-Trues : goal.returns-in-Trues
returns-in-Trues g c =
    let w = (watch-value g.row.B g.B.Observer g.B.Observer-dict g.B.Destruct-dict).it in
    let old = plain_of w c.args.self.now in
    let new = plain_of w c.new_index.new.self in
    let asked = commands.Trues c.in-Trues.sort c.in-Trues.index c.in-Trues.map in
    record {
      answered = answered_by old new c.args.command.now asked c.in-Trues.is c.new_index.result
          c.new_index.ensures.step;
      refused = refused_by old new c.args.command.now asked c.in-Trues.is c.new_index.result
          c.new_index.ensures.step;
      in_step = c.new_index.ensures.in_step;
      stamps = c.new_index.ensures.stamps;
    }

pub returns-in-Items : goal.returns-in-Items
returns-in-Items g c =
    let w = (watch-value g.row.B g.B.Observer g.B.Observer-dict g.B.Destruct-dict).it in
    let old = plain_of w c.args.self.now in
    let new = plain_of w c.args.self.now in
    let asked = commands.Items c.in-Items.sort c.in-Items.index in
    record {
      answered = answered_by old new c.args.command.now asked c.in-Items.is c.items.result
          c.items.ensures;
      refused = refused_by old new c.args.command.now asked c.in-Items.is c.items.result
          c.items.ensures;
      in_step = c.requires.in_step;
      stamps = same_stamps _ _ refl;
    }

pub returns-in-DropMap : goal.returns-in-DropMap
returns-in-DropMap g c =
    let w = (watch-value g.row.B g.B.Observer g.B.Observer-dict g.B.Destruct-dict).it in
    let old = plain_of w c.args.self.now in
    let new = plain_of w c.drop_map.new.self in
    let asked = commands.DropMap c.in-DropMap.sort c.in-DropMap.name in
    record {
      answered = answered_by old new c.args.command.now asked c.in-DropMap.is c.drop_map.result
          c.drop_map.ensures.step;
      refused = refused_by old new c.args.command.now asked c.in-DropMap.is c.drop_map.result
          c.drop_map.ensures.step;
      in_step = c.drop_map.ensures.in_step;
      stamps = c.drop_map.ensures.stamps;
    }

pub returns-in-Total : goal.returns-in-Total
returns-in-Total g c =
    let w = (watch-value g.row.B g.B.Observer g.B.Observer-dict g.B.Destruct-dict).it in
    let old = plain_of w c.args.self.now in
    let new = plain_of w c.args.self.now in
    let asked = commands.Total c.in-Total.sort c.in-Total.map in
    record {
      answered = answered_by old new c.args.command.now asked c.in-Total.is c.total.result
          c.total.ensures;
      refused = refused_by old new c.args.command.now asked c.in-Total.is c.total.result
          c.total.ensures;
      in_step = c.requires.in_step;
      stamps = same_stamps _ _ refl;
    }

pub returns-in-Least : goal.returns-in-Least
returns-in-Least g c =
    let w = (watch-value g.row.B g.B.Observer g.B.Observer-dict g.B.Destruct-dict).it in
    let old = plain_of w c.args.self.now in
    let new = plain_of w c.args.self.now in
    let asked = commands.Least c.in-Least.sort c.in-Least.map in
    record {
      answered = answered_by old new c.args.command.now asked c.in-Least.is c.least.result
          c.least.ensures;
      refused = refused_by old new c.args.command.now asked c.in-Least.is c.least.result
          c.least.ensures;
      in_step = c.requires.in_step;
      stamps = same_stamps _ _ refl;
    }

pub returns-in-Count : goal.returns-in-Count
returns-in-Count g c =
    let w = (watch-value g.row.B g.B.Observer g.B.Observer-dict g.B.Destruct-dict).it in
    let old = plain_of w c.args.self.now in
    let new = plain_of w c.args.self.now in
    let asked = commands.Count c.in-Count.sort c.in-Count.map in
    record {
      answered = answered_by old new c.args.command.now asked c.in-Count.is c.count.result
          c.count.ensures;
      refused = refused_by old new c.args.command.now asked c.in-Count.is c.count.result
          c.count.ensures;
      in_step = c.requires.in_step;
      stamps = same_stamps _ _ refl;
    }

pub guard-requires-clause-valid : goal.guard-requires-clause-valid
guard-requires-clause-valid g c = subst IsValid c.in-Guard.is c.requires.valid

pub returns-in-Guard : goal.returns-in-Guard
returns-in-Guard g c =
    let w = (watch-value g.row.B g.B.Observer g.B.Observer-dict g.B.Destruct-dict).it in
    let old = plain_of w c.args.self.now in
    let new = plain_of w c.guard.new.self in
    let asked = commands.Guard c.in-Guard.name c.in-Guard.sort c.in-Guard.kind c.in-Guard.limit in
    record {
      answered = answered_by old new c.args.command.now asked c.in-Guard.is c.guard.result
          c.guard.ensures.step;
      refused = refused_by old new c.args.command.now asked c.in-Guard.is c.guard.result
          c.guard.ensures.step;
      in_step = c.guard.ensures.in_step;
      stamps = c.guard.ensures.stamps;
    }

pub returns-in-Unguard : goal.returns-in-Unguard
returns-in-Unguard g c =
    let w = (watch-value g.row.B g.B.Observer g.B.Observer-dict g.B.Destruct-dict).it in
    let old = plain_of w c.args.self.now in
    let new = plain_of w c.unguard.new.self in
    let asked = commands.Unguard c.in-Unguard.name in
    record {
      answered = answered_by old new c.args.command.now asked c.in-Unguard.is c.unguard.result
          c.unguard.ensures.step;
      refused = refused_by old new c.args.command.now asked c.in-Unguard.is c.unguard.result
          c.unguard.ensures.step;
      in_step = c.unguard.ensures.in_step;
      stamps = c.unguard.ensures.stamps;
    }

pub returns-in-Guards : goal.returns-in-Guards
returns-in-Guards g c =
    let w = (watch-value g.row.B g.B.Observer g.B.Observer-dict g.B.Destruct-dict).it in
    let old = plain_of w c.args.self.now in
    let new = plain_of w c.args.self.now in
    let asked = commands.Guards in
    record {
      answered = answered_by old new c.args.command.now asked c.in-Guards.is c.list_guards.result
          c.list_guards.ensures;
      refused = refused_by old new c.args.command.now asked c.in-Guards.is c.list_guards.result
          c.list_guards.ensures;
      in_step = c.requires.in_step;
      stamps = same_stamps _ _ refl;
    }

pub returns-in-Snap : goal.returns-in-Snap
returns-in-Snap g c =
    let w = (watch-value g.row.B g.B.Observer g.B.Observer-dict g.B.Destruct-dict).it in
    let old = plain_of w c.args.self.now in
    let new = plain_of w c.snap.new.self in
    let asked = commands.Snap c.in-Snap.name in
    record {
      answered = answered_by old new c.args.command.now asked c.in-Snap.is c.snap.result
          c.snap.ensures.step;
      refused = refused_by old new c.args.command.now asked c.in-Snap.is c.snap.result
          c.snap.ensures.step;
      in_step = c.snap.ensures.in_step;
      stamps = c.snap.ensures.stamps;
    }

pub returns-in-Restore : goal.returns-in-Restore
returns-in-Restore g c =
    let w = (watch-value g.row.B g.B.Observer g.B.Observer-dict g.B.Destruct-dict).it in
    let old = plain_of w c.args.self.now in
    let new = plain_of w c.restore.new.self in
    let asked = commands.Restore c.in-Restore.name in
    record {
      answered = answered_by old new c.args.command.now asked c.in-Restore.is c.restore.result
          c.restore.ensures.step;
      refused = refused_by old new c.args.command.now asked c.in-Restore.is c.restore.result
          c.restore.ensures.step;
      in_step = c.restore.ensures.in_step;
      stamps = c.restore.ensures.stamps;
    }

pub returns-in-Forget : goal.returns-in-Forget
returns-in-Forget g c =
    let w = (watch-value g.row.B g.B.Observer g.B.Observer-dict g.B.Destruct-dict).it in
    let old = plain_of w c.args.self.now in
    let new = plain_of w c.forget.new.self in
    let asked = commands.Forget c.in-Forget.name in
    record {
      answered = answered_by old new c.args.command.now asked c.in-Forget.is c.forget.result
          c.forget.ensures.step;
      refused = refused_by old new c.args.command.now asked c.in-Forget.is c.forget.result
          c.forget.ensures.step;
      in_step = c.forget.ensures.in_step;
      stamps = c.forget.ensures.stamps;
    }

pub returns-in-Snaps : goal.returns-in-Snaps
returns-in-Snaps g c =
    let w = (watch-value g.row.B g.B.Observer g.B.Observer-dict g.B.Destruct-dict).it in
    let old = plain_of w c.args.self.now in
    let new = plain_of w c.args.self.now in
    let asked = commands.Snaps in
    record {
      answered = answered_by old new c.args.command.now asked c.in-Snaps.is c.snaps.result
          c.snaps.ensures;
      refused = refused_by old new c.args.command.now asked c.in-Snaps.is c.snaps.result
          c.snaps.ensures;
      in_step = c.requires.in_step;
      stamps = same_stamps _ _ refl;
    }

pub view-requires-clause-valid : goal.view-requires-clause-valid
view-requires-clause-valid g c = subst IsValid c.in-View.is c.requires.valid

pub returns-in-View : goal.returns-in-View
returns-in-View g c =
    let w = (watch-value g.row.B g.B.Observer g.B.Observer-dict g.B.Destruct-dict).it in
    let old = plain_of w c.args.self.now in
    let new = plain_of w c.view.new.self in
    let asked = commands.View c.in-View.name c.in-View.layer c.in-View.below in
    record {
      answered = answered_by old new c.args.command.now asked c.in-View.is c.view.result
          c.view.ensures.step;
      refused = refused_by old new c.args.command.now asked c.in-View.is c.view.result
          c.view.ensures.step;
      in_step = c.view.ensures.in_step;
      stamps = c.view.ensures.stamps;
    }

pub returns-in-Keep : goal.returns-in-Keep
returns-in-Keep g c =
    let w = (watch-value g.row.B g.B.Observer g.B.Observer-dict g.B.Destruct-dict).it in
    let old = plain_of w c.args.self.now in
    let new = plain_of w c.keep.new.self in
    let asked = commands.Keep c.in-Keep.name in
    record {
      answered = answered_by old new c.args.command.now asked c.in-Keep.is c.keep.result
          c.keep.ensures.step;
      refused = refused_by old new c.args.command.now asked c.in-Keep.is c.keep.result
          c.keep.ensures.step;
      in_step = c.keep.ensures.in_step;
      stamps = c.keep.ensures.stamps;
    }

pub returns-in-Unview : goal.returns-in-Unview
returns-in-Unview g c =
    let w = (watch-value g.row.B g.B.Observer g.B.Observer-dict g.B.Destruct-dict).it in
    let old = plain_of w c.args.self.now in
    let new = plain_of w c.unview.new.self in
    let asked = commands.Unview c.in-Unview.name in
    record {
      answered = answered_by old new c.args.command.now asked c.in-Unview.is c.unview.result
          c.unview.ensures.step;
      refused = refused_by old new c.args.command.now asked c.in-Unview.is c.unview.result
          c.unview.ensures.step;
      in_step = c.unview.ensures.in_step;
      stamps = c.unview.ensures.stamps;
    }

pub returns-in-Nodes : goal.returns-in-Nodes
returns-in-Nodes g c =
    let w = (watch-value g.row.B g.B.Observer g.B.Observer-dict g.B.Destruct-dict).it in
    let old = plain_of w c.args.self.now in
    let new = plain_of w c.args.self.now in
    let asked = commands.Nodes c.in-Nodes.view in
    record {
      answered = answered_by old new c.args.command.now asked c.in-Nodes.is c.nodes_of.result
          c.nodes_of.ensures;
      refused = refused_by old new c.args.command.now asked c.in-Nodes.is c.nodes_of.result
          c.nodes_of.ensures;
      in_step = c.requires.in_step;
      stamps = same_stamps _ _ refl;
    }

pub returns-in-Arcs : goal.returns-in-Arcs
returns-in-Arcs g c =
    let w = (watch-value g.row.B g.B.Observer g.B.Observer-dict g.B.Destruct-dict).it in
    let old = plain_of w c.args.self.now in
    let new = plain_of w c.args.self.now in
    let asked = commands.Arcs c.in-Arcs.view in
    record {
      answered = answered_by old new c.args.command.now asked c.in-Arcs.is c.arcs_of.result
          c.arcs_of.ensures;
      refused = refused_by old new c.args.command.now asked c.in-Arcs.is c.arcs_of.result
          c.arcs_of.ensures;
      in_step = c.requires.in_step;
      stamps = same_stamps _ _ refl;
    }

pub returns-in-Out : goal.returns-in-Out
returns-in-Out g c =
    let w = (watch-value g.row.B g.B.Observer g.B.Observer-dict g.B.Destruct-dict).it in
    let old = plain_of w c.args.self.now in
    let new = plain_of w c.args.self.now in
    let asked = commands.Out c.in-Out.view c.in-Out.node in
    record {
      answered = answered_by old new c.args.command.now asked c.in-Out.is c.out_of.result
          c.out_of.ensures;
      refused = refused_by old new c.args.command.now asked c.in-Out.is c.out_of.result
          c.out_of.ensures;
      in_step = c.requires.in_step;
      stamps = same_stamps _ _ refl;
    }

pub returns-in-In : goal.returns-in-In
returns-in-In g c =
    let w = (watch-value g.row.B g.B.Observer g.B.Observer-dict g.B.Destruct-dict).it in
    let old = plain_of w c.args.self.now in
    let new = plain_of w c.args.self.now in
    let asked = commands.In c.in-In.view c.in-In.node in
    record {
      answered = answered_by old new c.args.command.now asked c.in-In.is c.in_of.result
          c.in_of.ensures;
      refused = refused_by old new c.args.command.now asked c.in-In.is c.in_of.result
          c.in_of.ensures;
      in_step = c.requires.in_step;
      stamps = same_stamps _ _ refl;
    }

pub returns-in-Dijkstra : goal.returns-in-Dijkstra
returns-in-Dijkstra g c =
    let w = (watch-value g.row.B g.B.Observer g.B.Observer-dict g.B.Destruct-dict).it in
    let old = plain_of w c.args.self.now in
    let new = plain_of w c.args.self.now in
    let asked = commands.Dijkstra c.in-Dijkstra.view c.in-Dijkstra.length c.in-Dijkstra.start in
    record {
      answered = answered_by old new c.args.command.now asked c.in-Dijkstra.is c.dijkstra.result
          c.dijkstra.ensures;
      refused = refused_by old new c.args.command.now asked c.in-Dijkstra.is c.dijkstra.result
          c.dijkstra.ensures;
      in_step = c.requires.in_step;
      stamps = same_stamps _ _ refl;
    }

pub returns-in-Bellman : goal.returns-in-Bellman
returns-in-Bellman g c =
    let w = (watch-value g.row.B g.B.Observer g.B.Observer-dict g.B.Destruct-dict).it in
    let old = plain_of w c.args.self.now in
    let new = plain_of w c.args.self.now in
    let asked = commands.Bellman c.in-Bellman.view c.in-Bellman.length c.in-Bellman.start in
    record {
      answered = answered_by old new c.args.command.now asked c.in-Bellman.is c.bellman.result
          c.bellman.ensures;
      refused = refused_by old new c.args.command.now asked c.in-Bellman.is c.bellman.result
          c.bellman.ensures;
      in_step = c.requires.in_step;
      stamps = same_stamps _ _ refl;
    }

pub returns-in-MaxFlow : goal.returns-in-MaxFlow
returns-in-MaxFlow g c =
    let w = (watch-value g.row.B g.B.Observer g.B.Observer-dict g.B.Destruct-dict).it in
    let old = plain_of w c.args.self.now in
    let new = plain_of w c.flow.new.self in
    let asked = commands.MaxFlow c.in-MaxFlow.view c.in-MaxFlow.cap c.in-MaxFlow.s
    c.in-MaxFlow.t c.in-MaxFlow.into in
    record {
      answered = answered_by old new c.args.command.now asked c.in-MaxFlow.is c.flow.result
          c.flow.ensures.step;
      refused = refused_by old new c.args.command.now asked c.in-MaxFlow.is c.flow.result
          c.flow.ensures.step;
      in_step = c.flow.ensures.in_step;
      stamps = c.flow.ensures.stamps;
    }

pub circulation-requires-clause-valid : goal.circulation-requires-clause-valid
circulation-requires-clause-valid g c = subst IsValid c.in-Circulate.is c.requires.valid

pub returns-in-Circulate : goal.returns-in-Circulate
returns-in-Circulate g c =
    let w = (watch-value g.row.B g.B.Observer g.B.Observer-dict g.B.Destruct-dict).it in
    let old = plain_of w c.args.self.now in
    let new = plain_of w c.circulation.new.self in
    let asked = commands.Circulate c.in-Circulate.view c.in-Circulate.low c.in-Circulate.up
    c.in-Circulate.supply c.in-Circulate.into in
    record {
      answered = answered_by old new c.args.command.now asked c.in-Circulate.is c.circulation.result
          c.circulation.ensures.step;
      refused = refused_by old new c.args.command.now asked c.in-Circulate.is c.circulation.result
          c.circulation.ensures.step;
      in_step = c.circulation.ensures.in_step;
      stamps = c.circulation.ensures.stamps;
    }

pub cheapest-requires-clause-valid : goal.cheapest-requires-clause-valid
cheapest-requires-clause-valid g c = subst IsValid c.in-MinCost.is c.requires.valid

pub returns-in-MinCost : goal.returns-in-MinCost
returns-in-MinCost g c =
    let w = (watch-value g.row.B g.B.Observer g.B.Observer-dict g.B.Destruct-dict).it in
    let old = plain_of w c.args.self.now in
    let new = plain_of w c.cheapest.new.self in
    let asked = commands.MinCost c.in-MinCost.view c.in-MinCost.low c.in-MinCost.up
    c.in-MinCost.cost c.in-MinCost.supply c.in-MinCost.into in
    record {
      answered = answered_by old new c.args.command.now asked c.in-MinCost.is c.cheapest.result
          c.cheapest.ensures.less;
      refused = refused_by old new c.args.command.now asked c.in-MinCost.is c.cheapest.result
          c.cheapest.ensures.less;
      in_step = c.cheapest.ensures.in_step;
      stamps = c.cheapest.ensures.stamps;
    }

pub cheapest-requires-in-Simplex-clause-valid : goal.cheapest-requires-in-Simplex-clause-valid
cheapest-requires-in-Simplex-clause-valid g c = subst IsValid c.in-Simplex.is c.requires.valid

pub returns-in-Simplex : goal.returns-in-Simplex
returns-in-Simplex g c =
    let w = (watch-value g.row.B g.B.Observer g.B.Observer-dict g.B.Destruct-dict).it in
    let old = plain_of w c.args.self.now in
    let new = plain_of w c.cheapest-in-Simplex.new.self in
    let asked = commands.Simplex c.in-Simplex.view c.in-Simplex.low c.in-Simplex.up
    c.in-Simplex.cost c.in-Simplex.supply c.in-Simplex.into in
    record {
      answered = answered_by old new c.args.command.now asked c.in-Simplex.is
          c.cheapest-in-Simplex.result c.cheapest-in-Simplex.ensures.step;
      refused = refused_by old new c.args.command.now asked c.in-Simplex.is
          c.cheapest-in-Simplex.result c.cheapest-in-Simplex.ensures.step;
      in_step = c.cheapest-in-Simplex.ensures.in_step;
      stamps = c.cheapest-in-Simplex.ensures.stamps;
    }

pub returns-in-Match : goal.returns-in-Match
returns-in-Match g c =
    let w = (watch-value g.row.B g.B.Observer g.B.Observer-dict g.B.Destruct-dict).it in
    let old = plain_of w c.args.self.now in
    let new = plain_of w c.args.self.now in
    let asked = commands.Match c.in-Match.view c.in-Match.left in
    record {
      answered = answered_by old new c.args.command.now asked c.in-Match.is c.pair.result
          c.pair.ensures;
      refused = refused_by old new c.args.command.now asked c.in-Match.is c.pair.result
          c.pair.ensures;
      in_step = c.requires.in_step;
      stamps = same_stamps _ _ refl;
    }

pub returns-in-Tie : goal.returns-in-Tie
returns-in-Tie g c =
    let w = (watch-value g.row.B g.B.Observer g.B.Observer-dict g.B.Destruct-dict).it in
    let old = plain_of w c.args.self.now in
    let new = plain_of w c.tie.new.self in
    let asked = commands.Tie c.in-Tie.attribute c.in-Tie.sort in
    record {
      answered = answered_by old new c.args.command.now asked c.in-Tie.is c.tie.result
          c.tie.ensures.step;
      refused = refused_by old new c.args.command.now asked c.in-Tie.is c.tie.result
          c.tie.ensures.step;
      in_step = c.tie.ensures.in_step;
      stamps = c.tie.ensures.stamps;
    }

pub returns-in-Untie : goal.returns-in-Untie
returns-in-Untie g c =
    let w = (watch-value g.row.B g.B.Observer g.B.Observer-dict g.B.Destruct-dict).it in
    let old = plain_of w c.args.self.now in
    let new = plain_of w c.untie.new.self in
    let asked = commands.Untie c.in-Untie.attribute in
    record {
      answered = answered_by old new c.args.command.now asked c.in-Untie.is c.untie.result
          c.untie.ensures.step;
      refused = refused_by old new c.args.command.now asked c.in-Untie.is c.untie.result
          c.untie.ensures.step;
      in_step = c.untie.ensures.in_step;
      stamps = c.untie.ensures.stamps;
    }

pub returns-in-Attr : goal.returns-in-Attr
returns-in-Attr g c =
    let w = (watch-value g.row.B g.B.Observer g.B.Observer-dict g.B.Destruct-dict).it in
    let old = plain_of w c.args.self.now in
    let new = plain_of w c.args.self.now in
    let asked = commands.Attr c.in-Attr.attribute in
    record {
      answered = answered_by old new c.args.command.now asked c.in-Attr.is c.attr.result
          c.attr.ensures;
      refused = refused_by old new c.args.command.now asked c.in-Attr.is c.attr.result
          c.attr.ensures;
      in_step = c.requires.in_step;
      stamps = same_stamps _ _ refl;
    }

pub returns-in-Relabel : goal.returns-in-Relabel
returns-in-Relabel g c =
    let w = (watch-value g.row.B g.B.Observer g.B.Observer-dict g.B.Destruct-dict).it in
    let old = plain_of w c.args.self.now in
    let new = plain_of w c.relabel.new.self in
    let asked = commands.Relabel c.in-Relabel.sort c.in-Relabel.old c.in-Relabel.new in
    record {
      answered = answered_by old new c.args.command.now asked c.in-Relabel.is c.relabel.result
          c.relabel.ensures.step;
      refused = refused_by old new c.args.command.now asked c.in-Relabel.is c.relabel.result
          c.relabel.ensures.step;
      in_step = c.relabel.ensures.in_step;
      stamps = c.relabel.ensures.stamps;
    }

pub returns-in-Save : goal.returns-in-Save
returns-in-Save g c =
    let w = (watch-value g.row.B g.B.Observer g.B.Observer-dict g.B.Destruct-dict).it in
    let old = plain_of w c.args.self.now in
    let new = plain_of w c.args.self.now in
    let asked = commands.Save c.in-Save.file in
    record {
      answered = answered_by old new c.args.command.now asked c.in-Save.is c.save.result
          c.save.ensures;
      refused = refused_by old new c.args.command.now asked c.in-Save.is c.save.result
          c.save.ensures;
      in_step = c.requires.in_step;
      stamps = same_stamps _ _ refl;
    }
