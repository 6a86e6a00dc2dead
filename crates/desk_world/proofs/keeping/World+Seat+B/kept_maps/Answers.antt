use Rattle.std.proofs.Common.{sym, ap, subst, ◌∙◌, Some, None, true}
use Rattle.std.specs.Option.{option_copied}
use Rattle.plain_world.specs.Valid.{IsLayer}
use Rattle.desk_seats.specs.contracts.seat.SeatObserver.TheImpl.{watch-value}
use Rattle.desk_world.specs.declared.tables.ViewRow.{ViewRow}
use Rattle.desk_world.specs.Faults.{Is}
use Rattle.desk_world.specs.KeptMaps.{OneSub, OneResidual, Both}
use Rattle.desk_world.specs.Plain.{plain_of}
use Rattle.desk_world.proofs.KeepCommands.{base_unkept, sub_can, sub_unkept, residual_can}
use Rattle.desk_world.proofs.KeepCommands.{both_can, three_unkept, over_unkept, reverse_unkept}
use Rattle.desk_world.proofs.KeepCommands.{undirect_unkept, split_unkept, sub_layers}
use Rattle.desk_world.proofs.KeepCommands.{residual_layers, both_layers, some_entry, none_entry}
use Rattle.desk_world.proofs.KeepMaps.{layer_known, of_none}
use Rattle.desk_world.proofs.KeptListed.{of_some}
use Rattle.desk_world.proofs.keeping.World+Seat+B.kept_maps.Goals as goal

pub returns-in_default-clause-meets : goal.returns-in_default-clause-meets
returns-in_default-clause-meets g c =
    let w = (watch-value g.row.B g.B.Observer g.B.Observer-dict g.B.Destruct-dict).it in
    let self = c.args.self.now in
    let name = c.args.view.now in
    let found = sym c.get.ensures.found ∙ ap option_copied c.in_default.is in
    subst (λ o. Is o c.wrong_type.result) (sym (base_unkept w self name found)) c.wrong_type.ensures

pub sub_maps-requires-clause-layer : goal.sub_maps-requires-clause-layer
sub_maps-requires-clause-layer g c =
    let w = (watch-value g.row.B g.B.Observer g.B.Observer-dict g.B.Destruct-dict).it in
    let self = c.args.self.now in
    let name = c.args.view.now in
    let row : ViewRow = c.in-Some.row.now in
    let found = sym c.get.ensures.found ∙ ap option_copied c.in-Some.is in
    subst (IsLayer (plain_of w self)) c.in-Sub.is
    (layer_known w self c.requires.valid name row found)

pub residual_maps-requires-clause-layer : goal.residual_maps-requires-clause-layer
residual_maps-requires-clause-layer g c =
    let w = (watch-value g.row.B g.B.Observer g.B.Observer-dict g.B.Destruct-dict).it in
    let self = c.args.self.now in
    let name = c.args.view.now in
    let row : ViewRow = c.in-Some.row.now in
    let found = sym c.get.ensures.found ∙ ap option_copied c.in-Some.is in
    subst (IsLayer (plain_of w self)) c.in-Residual.is
    (layer_known w self c.requires.valid name row found)

pub maps_over-requires-clause-own : goal.maps_over-requires-clause-own
maps_over-requires-clause-own g c =
    let w = (watch-value g.row.B g.B.Observer g.B.Observer-dict g.B.Destruct-dict).it in
    let self = c.args.self.now in
    let name = c.args.view.now in
    let row : ViewRow = c.in-Some.row.now in
    let found = sym c.get.ensures.found ∙ ap option_copied c.in-Some.is in
    subst (IsLayer (plain_of w self)) c.in-Residual.is
    (layer_known w self c.requires.valid name row found)

pub maps_over-requires-clause-layer : goal.maps_over-requires-clause-layer
maps_over-requires-clause-layer g c =
    let w = (watch-value g.row.B g.B.Observer g.B.Observer-dict g.B.Destruct-dict).it in
    let self = c.args.self.now in
    let name = c.args.view.now in
    let row : ViewRow = c.in-Some.row.now in
    let found = sym c.get.ensures.found ∙ ap option_copied c.in-Some.is in
    layer_known w self c.requires.valid row.below c.in-Some-below-2.below.now
    (sym c.get-below.ensures.found ∙ ap option_copied c.in-Some-below-2.is)

pub returns-in-None-clause-meets : goal.returns-in-None-clause-meets
returns-in-None-clause-meets g c =
    let w = (watch-value g.row.B g.B.Observer g.B.Observer-dict g.B.Destruct-dict).it in
    let self = c.args.self.now in
    let name = c.args.view.now in
    let row : ViewRow = c.in-Some.row.now in
    let found = sym c.get.ensures.found ∙ ap option_copied c.in-Some.is in
    sub_can w self name row found c.in-Sub.nodes c.in-Sub.arcs c.in-Sub.is
    (sym c.get-below.ensures.found ∙ ap option_copied c.in-None.is)

pub returns-in-None-clause-maps : goal.returns-in-None-clause-maps
returns-in-None-clause-maps g c =
    let w = (watch-value g.row.B g.B.Observer g.B.Observer-dict g.B.Destruct-dict).it in
    let self = c.args.self.now in
    let name = c.args.view.now in
    let row : ViewRow = c.in-Some.row.now in
    let found = sym c.get.ensures.found ∙ ap option_copied c.in-Some.is in
    record {
      layers = OneSub c.in-Sub.nodes c.in-Sub.arcs;
      are = sub_layers w self name row found c.in-Sub.nodes c.in-Sub.arcs c.in-Sub.is
          (sym c.get-below.ensures.found ∙ ap option_copied c.in-None.is);
      maps = c.sub_maps.ensures;
    }

pub returns-in-Some-below-clause-meets : goal.returns-in-Some-below-clause-meets
returns-in-Some-below-clause-meets g c =
    let w = (watch-value g.row.B g.B.Observer g.B.Observer-dict g.B.Destruct-dict).it in
    let self = c.args.self.now in
    let name = c.args.view.now in
    let row : ViewRow = c.in-Some.row.now in
    let found = sym c.get.ensures.found ∙ ap option_copied c.in-Some.is in
    let under_it = sym c.get-below.ensures.found ∙ ap option_copied c.in-Some-below.is in
    subst (λ o. Is o c.wrong_type-in-Some-below.result) (sym (sub_unkept w self name row found
    c.in-Sub.nodes c.in-Sub.arcs c.in-Sub.is _ under_it)) c.wrong_type-in-Some-below.ensures

pub returns-in-None-below-clause-meets : goal.returns-in-None-below-clause-meets
returns-in-None-below-clause-meets g c =
    let w = (watch-value g.row.B g.B.Observer g.B.Observer-dict g.B.Destruct-dict).it in
    let self = c.args.self.now in
    let name = c.args.view.now in
    let row : ViewRow = c.in-Some.row.now in
    let found = sym c.get.ensures.found ∙ ap option_copied c.in-Some.is in
    residual_can w self name row found c.in-Residual.cap c.in-Residual.flow c.in-Residual.is
    (sym c.get-below.ensures.found ∙ ap option_copied c.in-None-below.is)

pub returns-in-None-below-clause-maps : goal.returns-in-None-below-clause-maps
returns-in-None-below-clause-maps g c =
    let w = (watch-value g.row.B g.B.Observer g.B.Observer-dict g.B.Destruct-dict).it in
    let self = c.args.self.now in
    let name = c.args.view.now in
    let row : ViewRow = c.in-Some.row.now in
    let found = sym c.get.ensures.found ∙ ap option_copied c.in-Some.is in
    record {
      layers = OneResidual c.in-Residual.cap c.in-Residual.flow;
      are = residual_layers w self name row found c.in-Residual.cap c.in-Residual.flow
          c.in-Residual.is (sym c.get-below.ensures.found ∙ ap option_copied c.in-None-below.is);
      maps = c.residual_maps.ensures;
    }

pub returns-then-has-clause-meets : goal.returns-then-has-clause-meets
returns-then-has-clause-meets g c =
    let w = (watch-value g.row.B g.B.Observer g.B.Observer-dict g.B.Destruct-dict).it in
    let self = c.args.self.now in
    let name = c.args.view.now in
    let row : ViewRow = c.in-Some.row.now in
    let found = sym c.get.ensures.found ∙ ap option_copied c.in-Some.is in
    let under_it = sym c.get-below.ensures.found ∙ ap option_copied c.in-Some-below-2.is in
    let third = some_entry self.views.rows c.in-Some-below-2.below.now.below
    (sym c.has.ensures ∙ c.if-has.true) in
    subst (λ o. Is o c.wrong_type-then-has.result) (sym (three_unkept w self name row found
    c.in-Residual.cap c.in-Residual.flow c.in-Residual.is _ under_it third.0 third.1))
    c.wrong_type-then-has.ensures

pub returns-in-None-maps_over-clause-meets : goal.returns-in-None-maps_over-clause-meets
returns-in-None-maps_over-clause-meets g c =
    let w = (watch-value g.row.B g.B.Observer g.B.Observer-dict g.B.Destruct-dict).it in
    let self = c.args.self.now in
    let name = c.args.view.now in
    let row : ViewRow = c.in-Some.row.now in
    let found = sym c.get.ensures.found ∙ ap option_copied c.in-Some.is in
    let under_it = sym c.get-below.ensures.found ∙ ap option_copied c.in-Some-below-2.is in
    let other = of_none _ c.maps_over.result c.in-None-maps_over.is c.maps_over.ensures.none in
    subst (λ o. Is o c.wrong_type-in-None-maps_over.result) (sym (over_unkept w self name row found
    c.in-Residual.cap c.in-Residual.flow c.in-Residual.is _ under_it other))
    c.wrong_type-in-None-maps_over.ensures

pub returns-in-Some-maps_over-clause-meets : goal.returns-in-Some-maps_over-clause-meets
returns-in-Some-maps_over-clause-meets g c =
    let w = (watch-value g.row.B g.B.Observer g.B.Observer-dict g.B.Destruct-dict).it in
    let self = c.args.self.now in
    let name = c.args.view.now in
    let row : ViewRow = c.in-Some.row.now in
    let found = sym c.get.ensures.found ∙ ap option_copied c.in-Some.is in
    let under_it = sym c.get-below.ensures.found ∙ ap option_copied c.in-Some-below-2.is in
    let last = none_entry self.views.rows c.in-Some-below-2.below.now.below
    (sym c.has.ensures ∙ c.if-has.false) in
    let over = of_some _ c.maps_over.result c.in-Some-maps_over.maps c.in-Some-maps_over.is
    c.maps_over.ensures.some in
    both_can w self name row found c.in-Residual.cap c.in-Residual.flow c.in-Residual.is _
    under_it over.0 over.1 over.2 last

pub returns-in-Some-maps_over-clause-maps : goal.returns-in-Some-maps_over-clause-maps
returns-in-Some-maps_over-clause-maps g c =
    let w = (watch-value g.row.B g.B.Observer g.B.Observer-dict g.B.Destruct-dict).it in
    let self = c.args.self.now in
    let name = c.args.view.now in
    let row : ViewRow = c.in-Some.row.now in
    let found = sym c.get.ensures.found ∙ ap option_copied c.in-Some.is in
    let under_it = sym c.get-below.ensures.found ∙ ap option_copied c.in-Some-below-2.is in
    let last = none_entry self.views.rows c.in-Some-below-2.below.now.below
    (sym c.has.ensures ∙ c.if-has.false) in
    let over = of_some _ c.maps_over.result c.in-Some-maps_over.maps c.in-Some-maps_over.is
    c.maps_over.ensures.some in
    record {
      layers = Both c.in-Residual.cap c.in-Residual.flow over.0 over.1;
      are = both_layers w self name row found c.in-Residual.cap c.in-Residual.flow
          c.in-Residual.is _ under_it over.0 over.1 over.2 last;
      maps = over.3;
    }

pub returns-in-Reverse-clause-meets : goal.returns-in-Reverse-clause-meets
returns-in-Reverse-clause-meets g c =
    let w = (watch-value g.row.B g.B.Observer g.B.Observer-dict g.B.Destruct-dict).it in
    let self = c.args.self.now in
    let name = c.args.view.now in
    let row : ViewRow = c.in-Some.row.now in
    let found = sym c.get.ensures.found ∙ ap option_copied c.in-Some.is in
    subst (λ o. Is o c.wrong_type-in-Reverse.result) (sym (reverse_unkept w self name row found
    c.in-Reverse.is)) c.wrong_type-in-Reverse.ensures

pub returns-in-Undirect-clause-meets : goal.returns-in-Undirect-clause-meets
returns-in-Undirect-clause-meets g c =
    let w = (watch-value g.row.B g.B.Observer g.B.Observer-dict g.B.Destruct-dict).it in
    let self = c.args.self.now in
    let name = c.args.view.now in
    let row : ViewRow = c.in-Some.row.now in
    let found = sym c.get.ensures.found ∙ ap option_copied c.in-Some.is in
    subst (λ o. Is o c.wrong_type-in-Undirect.result) (sym (undirect_unkept w self name row found
    c.in-Undirect.is)) c.wrong_type-in-Undirect.ensures

pub returns-in-Split-clause-meets : goal.returns-in-Split-clause-meets
returns-in-Split-clause-meets g c =
    let w = (watch-value g.row.B g.B.Observer g.B.Observer-dict g.B.Destruct-dict).it in
    let self = c.args.self.now in
    let name = c.args.view.now in
    let row : ViewRow = c.in-Some.row.now in
    let found = sym c.get.ensures.found ∙ ap option_copied c.in-Some.is in
    subst (λ o. Is o c.wrong_type-in-Split.result) (sym (split_unkept w self name row found
    c.in-Split.is)) c.wrong_type-in-Split.ensures
