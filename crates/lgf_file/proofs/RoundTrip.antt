-- The written document spells its document.
use Rattle.std.proofs.Common.{◌≡◌, ℕ, ◌+◌, ◌<◌, List, [], ◌∷◌, ◌++◌, map, length, true, Some, refl}
use Rattle.std.proofs.Common.{sym, ap, ◌∙◌, arith, append-nil, subst}
use Rattle.std.specs.Prelude.{codes, All}
use Rattle.std.proofs.lemmas.List.{map-id}
use Rattle.std.proofs.lemmas.List.Elements.{All-nil, All-cons, All-append}
use Rattle.token_text.specs.Lines.{IsInside, lines_of}
use Rattle.token_text.specs.Names.{is_among}
use Rattle.lgf_file.specs.Sections.{Line, rows_of, part, part_from, rows_in}
use Rattle.lgf_file.specs.Rows.{Cells, Rows}
use Rattle.lgf_file.specs.Documents.{Spells, IsDoc, label, node_labels, link_cells, arc_rows}
use Rattle.lgf_file.specs.Documents.{attribute_cells}
use Rattle.lgf_file.specs.Plain.{plain, plain_lines, row_text, head_text, attribute_lines}
use Rattle.lgf_file.specs.Plain.{attribute_text}
use Rattle.lgf_file.specs.declared.documents.Doc.{Doc}
use Rattle.lgf_file.specs.declared.documents.Link.{Link}
use Rattle.lgf_file.specs.declared.sections.Section.TheVariants.{Nodes, Arcs, Attributes}
use Rattle.lgf_file.proofs.WrittenLines.{row_right, head_right, attribute_right, inside_by_test}
use Rattle.lgf_file.proofs.WrittenLines.{RowTexts, texts_more, texts_of, numbered, lines_joined}
use Rattle.lgf_file.proofs.WrittenLines.{rows_numbered, part_behind}

-- Where a name is among others, there is one.
some_among : (name : List ℕ) (names : Cells) → is_among name names ≡ true → 0 < length names
some_among name [] among = absurd (cc)
some_among name (other ∷ names) among = omega arith

-- ---- attributes

-- The lines of attributes are rows with their tokens.
attribute_texts : (attributes : List (List ℕ × List ℕ))
    → RowTexts (map attribute_text attributes) (map attribute_cells attributes)
attribute_texts attributes =
    texts_of attribute_text attribute_cells attributes (λ k none within. attribute_right _)

-- The lines of attributes end a section in front of them.
attributes_end : (attributes : List (List ℕ × List ℕ)) (number : ℕ)
    → rows_of number (attribute_lines attributes) ≡ []
attributes_end [] number = refl
attributes_end (attribute ∷ attributes) number = refl

-- The lines of attributes have no line end.
attributes_inside : (attributes : List (List ℕ × List ℕ))
    → All IsInside (attribute_lines attributes)
attributes_inside [] = All-nil IsInside
attributes_inside (attribute ∷ attributes) =
    All-cons IsInside (codes "@attributes") (map attribute_text (attribute ∷ attributes))
    (inside_by_test (codes "@attributes") refl)
    (attribute_texts (attribute ∷ attributes)).inside

-- The rows of the attributes among their lines have the tokens of the attributes.
attribute_rows : (number : ℕ) (attributes : List (List ℕ × List ℕ))
    → Rows (rows_in (part_from number Attributes (attribute_lines attributes)))
    (map attribute_cells attributes)
attribute_rows number [] = tt
attribute_rows number (attribute ∷ attributes) =
    let own = attribute ∷ attributes in
    let texts = attribute_texts own in
    let all = ap (rows_of (number + 1)) (sym (append-nil (map attribute_text own)))
    ∙ rows_numbered [] (λ other. refl) (number + 1) (map attribute_text own) texts.are_rows in
    subst (λ found. Rows found (map attribute_cells own)) (sym all) (texts.words (number + 1))

-- ---- documents

module _ (doc : Doc) (valid : IsDoc doc) where
  -- The tokens and the text of an arc.
  abbrev cells_of : Link → Cells
  cells_of = link_cells (node_labels doc.nodes)

  abbrev text_of : Link → List ℕ
  text_of arc = row_text (cells_of arc)

  -- The lines of the nodes and those of the arcs, behind the lines that open their sections.
  abbrev node_texts : List (List ℕ)
  node_texts = row_text doc.nodes.columns ∷ map row_text doc.nodes.rows

  abbrev arc_texts : List (List ℕ)
  arc_texts = head_text doc.arc_columns ∷ map text_of doc.arcs

  -- The lines behind those of the arcs, and behind those of the nodes.
  abbrev last_lines : List (List ℕ)
  last_lines = attribute_lines doc.attributes

  abbrev arcs_on : List (List ℕ)
  arcs_on = codes "@arcs" ∷ (arc_texts ++ last_lines)

  -- The number of the line that opens the arcs.
  abbrev arcs_at : ℕ
  arcs_at = 2 + length node_texts

  -- The lines of the nodes are rows with their tokens.
  nodes_are : RowTexts node_texts (doc.nodes.columns ∷ doc.nodes.rows)
  nodes_are =
      let some = some_among label doc.nodes.columns valid.nodes_ok.labelled in
      let rows = texts_of row_text (λ cells. cells) doc.nodes.rows (λ k none within.
      row_right _ (omega (arith, some, valid.nodes_ok.wide k none within))) in
      texts_more _ _ _ _ (row_right doc.nodes.columns some) (rw map-id at rows)

  -- So are those of the arcs.
  arcs_are : RowTexts arc_texts (arc_rows (node_labels doc.nodes) doc.arc_columns doc.arcs)
  arcs_are =
      texts_more _ _ _ _ (head_right doc.arc_columns)
      (texts_of text_of cells_of doc.arcs (λ k none within. row_right _ (omega arith)))

  -- No line has a line end, so these are the lines of the written document.
  lines_are : lines_of (plain doc) ≡ plain_lines doc
  lines_are =
      let arcs_inside = All-cons IsInside (codes "@arcs") (arc_texts ++ last_lines)
      (inside_by_test (codes "@arcs") refl)
      (All-append IsInside arc_texts last_lines arcs_are.inside
      (attributes_inside doc.attributes)) in
      lines_joined (plain_lines doc)
      (All-cons IsInside (codes "@nodes") (node_texts ++ arcs_on)
      (inside_by_test (codes "@nodes") refl)
      (All-append IsInside node_texts arcs_on nodes_are.inside arcs_inside))

  -- The written document spells its document: the first section of nodes begins at the first line,
  -- that of arcs behind its rows, and that of attributes behind those of the arcs.
  pub plain_spells : Spells (plain doc) doc
  plain_spells = record {
    valid = valid;
    node_part = record { at = 1; rows = numbered 2 node_texts };
    arc_part = record { at = arcs_at; rows = numbered (arcs_at + 1) arc_texts };
    node_part_is = ap (part Nodes) lines_are
        ∙ ap (λ (rows : List Line). Some (record { at = 1; rows = rows }))
        (rows_numbered arcs_on (λ number. refl) 2 node_texts nodes_are.are_rows);
    arc_part_is = ap (part Arcs) lines_are
        ∙ part_behind arcs_on Arcs 2 node_texts nodes_are.are_rows
        ∙ ap (λ (rows : List Line). Some (record { at = arcs_at; rows = rows }))
        (rows_numbered last_lines (attributes_end doc.attributes) (arcs_at + 1) arc_texts
        arcs_are.are_rows);
    in_order = omega arith;
    nodes_are = nodes_are.words 2;
    arcs_are = arcs_are.words (arcs_at + 1);
    attributes_are =
        subst (λ found. Rows (rows_in found) (map attribute_cells doc.attributes))
        (sym (ap (part Attributes) lines_are
        ∙ part_behind arcs_on Attributes 2 node_texts nodes_are.are_rows
        ∙ part_behind last_lines Attributes (arcs_at + 1) arc_texts arcs_are.are_rows))
        (attribute_rows (arcs_at + 1 + length arc_texts) doc.attributes);
  }
