-- A file spells a document or has a first fault.
use Rattle.std.proofs.Common.{◌≡◌, ℕ, ◌+◌, ◌≤◌, Bool, true, false, List, [], Some, None, Option, Ok}
use Rattle.std.proofs.Common.{◌⊎◌, inl, inr, refl, sym, ◌∙◌, arith}
use Rattle.std.specs.Prelude.{nat_lt}
use Rattle.std.proofs.lemmas.Bool.{ltb-false, le-ltb}
use Rattle.token_text.specs.Lines.{lines_of}
use Rattle.lgf_file.specs.Sections.{Line, Part, part, rows_in}
use Rattle.lgf_file.specs.Documents.{Spells, IsDoc, node_labels}
use Rattle.lgf_file.specs.Faults.{first_bad, fault_or, earlier, graph_fault, node_fault, arc_fault}
use Rattle.lgf_file.specs.Faults.{attribute_fault}
use Rattle.lgf_file.specs.Laws.{HasFault}
use Rattle.lgf_file.specs.Reading.{PartsSpell}
use Rattle.lgf_file.specs.declared.sections.Section.TheVariants.{Nodes, Arcs, Attributes}
use Rattle.lgf_file.specs.declared.documents.Doc.{Doc}
use Rattle.lgf_file.specs.declared.faults.LgfFault.{LgfFault}
use Rattle.lgf_file.proofs.LineTokens.{first_has_token}
use Rattle.lgf_file.proofs.SectionPlaces.{opened_at}
use Rattle.lgf_file.proofs.Readings.{some_readings, none_bad}
use Rattle.lgf_file.proofs.FirstFaults.{no_nodes, no_arcs, arcs_first, rows_first, parts_fault}
use Rattle.lgf_file.proofs.FirstFaults.{tells}
use Rattle.lgf_file.proofs.NodeTables.{nodes_said}
use Rattle.lgf_file.proofs.LinkLists.{arcs_said}
use Rattle.lgf_file.proofs.AttributeLists.{attributes_said}
use Rattle.lgf_file.proofs.SectionsRead.{spelled}

-- The bytes spell a document, or have a first fault.
abbrev pub SomeAnswer : List ℕ → Type 0
SomeAnswer bytes = ((doc : Doc) × Spells bytes doc) ⊎ ((fault : LgfFault) × HasFault bytes fault)

-- ---- two faults

neither_or : (one other : Option LgfFault) → fault_or one other ≡ None
    → (one ≡ None) × (other ≡ None)
neither_or None other none = (refl, none)
neither_or (Some fault) other none = absurd (cc)

neither_earlier : (one other : Option LgfFault) → earlier one other ≡ None
    → (one ≡ None) × (other ≡ None)
neither_earlier None other none = (refl, none)
neither_earlier (Some one) None none = absurd (cc)
neither_earlier (Some one) (Some other) none = absurd (cc)

-- ---- the file

module _ (bytes : List ℕ) (nodes arcs : Part) (nodes_is : part Nodes (lines_of bytes) ≡ Some nodes)
    (arcs_is : part Arcs (lines_of bytes) ≡ Some arcs) (order : nodes.at ≤ arcs.at) where
  abbrev attributes : List Line
  attributes = rows_in (part Attributes (lines_of bytes))

  -- Rows without a fault are those of a document.
  said : parts_fault nodes.rows arcs.rows attributes ≡ None → (doc : Doc) × Spells bytes doc
  said none =
      let first = some_readings nodes.rows in
      let second = some_readings arcs.rows in
      let third = some_readings attributes in
      let parts = neither_earlier (graph_fault first.0 second.0) _ none in
      let both = neither_or (first_bad node_fault [] first.0) _ parts.0 in
      let table = nodes_said nodes.rows _ (none_bad node_fault [] _ first.0 first.1 both.0) in
      let labels = node_labels table.table in
      let opened = opened_at 1 Arcs (lines_of bytes) arcs arcs_is in
      let links = arcs_said labels arcs.rows _ (λ line more cells split words.
      first_has_token (arcs.at + 1) opened.behind line more cells (sym opened.rows_are ∙ split)
      words) (none_bad (arc_fault labels) [] _ second.0 second.1 (rw table.labels_are at both.1)) in
      let pairs =
      attributes_said attributes _ (none_bad attribute_fault [] _ third.0 third.1 parts.1) in
      let doc : Doc = record {
        nodes = table.table;
        arc_columns = links.columns;
        arcs = links.arcs;
        attributes = pairs.attributes;
      } in
      let spells : PartsSpell nodes.rows arcs.rows attributes doc = record {
        nodes_are = table.spells;
        arcs_are = links.spells;
        attributes_are = pairs.spells;
      } in
      let valid : IsDoc doc = record {
        nodes_ok = table.right;
        arcs_ok = links.right;
        attributes_ok = pairs.right;
      } in
      (doc, spelled bytes nodes arcs attributes nodes_is arcs_is refl order (Ok doc) spells valid)

  -- Rows have a first fault or are those of a document.
  by_rows : (found : Option LgfFault) → parts_fault nodes.rows arcs.rows attributes ≡ found
      → SomeAnswer bytes
  by_rows None is = inl (said is)
  by_rows (Some fault) is = inr (
    fault,
    rows_first (lines_of bytes) nodes arcs nodes_is arcs_is fault (le-ltb arcs.at nodes.at order)
        (tells nodes.rows arcs.rows attributes fault is),
  )

module _ (bytes : List ℕ) where
  by_order : (nodes arcs : Part) → part Nodes (lines_of bytes) ≡ Some nodes
      → part Arcs (lines_of bytes) ≡ Some arcs → (test : Bool) → nat_lt arcs.at nodes.at ≡ test
      → SomeAnswer bytes
  by_order nodes arcs nodes_is arcs_is true tested =
      inr (_, arcs_first (lines_of bytes) nodes arcs nodes_is arcs_is tested)
  by_order nodes arcs nodes_is arcs_is false tested =
      by_rows bytes nodes arcs nodes_is arcs_is (omega (arith, ltb-false arcs.at nodes.at tested)) _
      refl

  by_parts : (nodes arcs : Option Part) → part Nodes (lines_of bytes) ≡ nodes
      → part Arcs (lines_of bytes) ≡ arcs → SomeAnswer bytes
  by_parts None arcs nodes_is arcs_is = inr (_, no_nodes (lines_of bytes) _ nodes_is refl)
  by_parts (Some nodes) None nodes_is arcs_is =
      inr (_, no_arcs (lines_of bytes) _ nodes nodes_is arcs_is refl)
  by_parts (Some nodes) (Some arcs) nodes_is arcs_is =
      by_order nodes arcs nodes_is arcs_is (nat_lt arcs.at nodes.at) refl

  pub some_answer : SomeAnswer bytes
  some_answer = by_parts (part Nodes (lines_of bytes)) (part Arcs (lines_of bytes)) refl refl
