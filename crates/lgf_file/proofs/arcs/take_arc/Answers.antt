use Rattle.std.proofs.Common.{◌≡◌, ◌+◌, true, false, length, None, refl, ap, sym, ◌∙◌, arith}
use Rattle.std.proofs.lemmas.Bool.{OnFalse_at}
use Rattle.std.proofs.lemmas.List.{length-drop}
use Rattle.std.proofs.lemmas.List.Elements.{All-push}
use Rattle.base_items.specs.declared.limits.TheConstants.{MAX_ARCS}
use Rattle.lgf_file.specs.Documents.{IsLink}
use Rattle.lgf_file.specs.Faults.{width_fault}
use Rattle.lgf_file.specs.Readers.{IsEnds, is_label_among}
use Rattle.lgf_file.proofs.ArcRows.{arc_fault_is, arc_labels_push}
use Rattle.lgf_file.proofs.RowFaults.{width_is}
use Rattle.lgf_file.proofs.arcs.take_arc.Goals as goal

pub returns-then-branch-clause-fault : goal.returns-then-branch-clause-fault
returns-then-branch-clause-fault c =
    let columns = c.args.head.now.columns in
    let row = c.as_slice-row in
    let room = λ (full : length c.args.arcs.now.items ≡ MAX_ARCS).
    c.if-len.false (c.len.ensures ∙ c.args.arcs.now.ok.0 ∙ full) in
    let wide : width_fault (2 + length columns) c.args.cells.items ≡ None =
    rw (← c.as_slice-columns.ensures, ← row.ensures.value) (sym c.in_default.ensures) in
    let ends = rw row.ensures.value at c.in-Some-ends_of.ensures.found in
    let values = c.as_slice.ensures.value ∙ c.in_ok-values.ensures in
    let twice : is_label_among columns c.args.labels.now c.as_slice.result.now ≡ true =
    sym c.in_ok-insert_label.ensures.twice ∙ c.if-branch.true in
    rw (
      arc_fault_is c.args.nodes.now columns c.args.arcs.now.items c.args.labels.now
          c.args.cells.items _ _ c.requires.labels_are room wide ends,
      ← values,
      twice,
    ) refl

-- ---- where the arc's label isn't among the others

module _ (c : goal.In_ok-push) where
  wide : width_fault (2 + length c.args.head.now.columns) c.args.cells.items ≡ None
  wide = rw (← c.as_slice-columns.ensures, ← c.as_slice-row.ensures.value)
      (sym c.in_default.ensures)

  ends : IsEnds c.args.nodes.now c.args.cells.items c.in-Some-ends_of.from c.in-Some-ends_of.to
  ends = rw c.as_slice-row.ensures.value at c.in-Some-ends_of.ensures.found

  apart : is_label_among c.args.head.now.columns c.args.labels.now c.as_slice.result.now ≡ false
  apart = sym c.in_ok-insert_label.ensures.twice ∙ c.if-branch.false

pub returns-clause-fault : goal.returns-clause-fault
returns-clause-fault c =
    let room = λ (full : length c.args.arcs.now.items ≡ MAX_ARCS).
    c.if-len.false (c.len.ensures ∙ c.args.arcs.now.ok.0 ∙ full) in
    rw (
      arc_fault_is c.args.nodes.now c.args.head.now.columns c.args.arcs.now.items
          c.args.labels.now c.args.cells.items _ _ c.requires.labels_are room (wide c) (ends c),
      ← c.as_slice.ensures.value ∙ c.in_ok-values.ensures,
      apart c,
    ) refl

pub returns-clause-sound : goal.returns-clause-sound
returns-clause-sound c =
    let nodes = c.args.nodes.now in
    let columns = c.args.head.now.columns in
    let arcs = c.args.arcs.now.items in
    let values = c.from_vec-values.result in
    let count : length values ≡ length columns =
    ap length (c.from_vec-values.ensures ∙ c.in_ok-values.ensures)
    ∙ length-drop 2 c.args.cells.items
    ∙ omega (arith, width_is (2 + length columns) c.args.cells.items (wide c)) in
    rw c.in_ok-push.ensures.items
    (record {
      few_nodes = c.requires.few_nodes;
      head_ok = c.requires.head_ok;
      columns_ok = c.requires.columns_ok;
      links = All-push (IsLink nodes columns) arcs _ c.requires.links
          ((ends c).from_in, (ends c).to_in, count);
      labels_are = λ among. OnFalse_at c.if-branch.false c.in_ok-insert_label.ensures.labels among
          ∙ rw (
            c.requires.labels_are among,
            c.as_slice.ensures.value,
            ← c.from_vec-values.ensures,
          ) (sym (arc_labels_push columns arcs _));
    })
