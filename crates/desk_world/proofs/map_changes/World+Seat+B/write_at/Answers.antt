use Rattle.std.proofs.Common.{refl, sym, ap, ◌∙◌}
use Rattle.std.specs.Prelude.{map, slice_get}
use Rattle.desk_world.specs.declared.tables.ItemTables.{ItemTables}
use Rattle.desk_world.proofs.TableRows.{row_below, entry_at}
use Rattle.desk_world.proofs.map_changes.World+Seat+B.write_at.Goals as goal

pub value-requires : goal.value-requires
value-requires g c =
    row_below c.tables.result.now.maps.rows c.args.place c.args.name.now
    (ap (λ (x : ItemTables). slice_get (map (λ e. e.name) x.maps.rows) c.args.place)
    c.tables.ensures ∙ c.requires.named)

pub write_row-requires : goal.write_row-requires
write_row-requires g c =
    let place = c.args.place in
    record {
      in_step = c.requires.in_step;
      live = c.requires.live;
      of_type = c.requires.of_type;
      row = (
        c.value.result.now,
        entry_at _ place c.args.name.now c.value.result.now c.requires.differ c.requires.named
            (ap (λ (x : ItemTables). slice_get (map (λ e. e.value) x.maps.rows) place)
            (sym c.tables.ensures) ∙ c.value.ensures),
        refl,
      );
      differ = c.requires.differ;
    }
