use Rattle.std.proofs.Common.{◌≡◌, ◌∷◌, ◌++◌, [], refl, sym, ap, ◌∙◌}
use Rattle.std.specs.Prelude.{if◌then◌else◌}
use Rattle.std.proofs.lemmas.Bool.{not-true}
use Rattle.std.proofs.lemmas.List.{map_push}
use Rattle.lgf_file.specs.Documents.{label_in}
use Rattle.lgf_file.proofs.NodeLabels.{place_in_cells}
use Rattle.lgf_file.proofs.NodeTables.{node_right}
use Rattle.lgf_file.proofs.RowFaults.{width_is}
use Rattle.lgf_file.proofs.nodes.take_node.Goals as goal

pub copy_label-requires-clause-within : goal.copy_label-requires-clause-within
copy_label-requires-clause-within c =
    let row = c.as_slice-row.result.now in
    let wide = width_is c.len-2.result row (sym c.width_fault.ensures ∙ c.in_default.is) in
    place_in_cells c.args.head.now.columns row _ c.requires.head_ok (wide ∙ c.len-2.ensures)

-- ---- where the node's label isn't among the others

module _ (c : goal.In_ok-push) where
  label : c.in_ok-label.label ≡ label_in c.args.head.now.columns c.args.cells.items
  label = rw (← c.as_slice-row.ensures.value) c.in_ok-label.ensures

pub returns-clause-fault : goal.returns-clause-fault
returns-clause-fault c =
    let row = c.as_slice-row.result.now in
    let wide = width_is c.len-2.result row (sym c.width_fault.ensures ∙ c.in_default.is) in
    let fresh = rw (label c, c.requires.labels_are) at
    (not-true _ (sym c.in_ok-fresh.ensures.fresh ∙ c.if-not-fresh.false)) in
    sym (node_right c.args.head.now.columns c.args.rows.now.items c.args.cells.items
    (λ full. c.if-len.false (c.len.ensures ∙ c.args.rows.now.ok.0 ∙ full))
    (rw (← c.as_slice-row.ensures.value) (wide ∙ c.len-2.ensures)) fresh)

pub returns-clause-sound : goal.returns-clause-sound
returns-clause-sound c =
    let labels = c.args.labels.now in
    let columns = c.args.head.now.columns in
    record {
      head_ok = c.requires.head_ok;
      labels_are = c.in_ok-fresh.ensures.inserted
          ∙ ap (λ fresh. if fresh then labels ++ c.in_ok-label.label ∷ [] else labels)
          c.if-not-fresh.false
          ∙ rw (
            label c,
            c.requires.labels_are,
            c.in_ok-push.ensures.items,
            c.from_vec.ensures,
            map_push (label_in columns) c.args.rows.now.items c.args.cells.items,
          ) refl;
    }
