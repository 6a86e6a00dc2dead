use Rattle.token_text.proofs.NamePlaces.{place_found}
use Rattle.token_text.proofs.label_table.LabelTable.find.Goals as goal

pub returns : goal.returns
returns c =
    let labels = c.self.inside.labels.keys in
    let found = c.get_index_of.ensures in
    let place = c.get_index_of.result in
    rw (← c.self.view_is) (place_found c.args.label.now labels place found.index found.found)
