-- A graph from a seed is a valid document.
use Rattle.std.proofs.Common.{◌≡◌, ℕ, zero, suc, ◌+◌, ◌*◌, ◌<◌, ◌≤◌, true, false, List, [], ◌∷◌}
use Rattle.std.proofs.Common.{length, map, get_or, refl, sym, ap, ◌∙◌, subst, arith, None}
use Rattle.std.specs.Prelude.{◌^◌}
use Rattle.std.specs.List.{All, range_with_len}
use Rattle.std.specs.Fmt.{decimal}
use Rattle.std.proofs.lemmas.Bool.{true≢false}
use Rattle.std.proofs.lemmas.List.Elements.{All-map}
use Rattle.std.proofs.lemmas.List.FromFn.{length-map-range_with_len}
use Rattle.std.proofs.lemmas.Nat.{mod_below}
use Rattle.base_items.specs.declared.limits.TheConstants.{MAX_NODES, MAX_ARCS}
use Rattle.token_text.specs.Names.{has_twice}
use Rattle.lgf_file.specs.Rows.{Cells}
use Rattle.lgf_file.specs.Documents.{label, label_in, node_labels, arc_labels}
use Rattle.lgf_file.specs.Documents.{IsTable, IsLink, AreArcs, IsDoc}
use Rattle.plain_world.proofs.RowLabels.{row_labels, labels_apart}
use Rattle.plain_machine.specs.Generator.{state, made, made_arc}
use Rattle.graph_maker.proofs.Drawn.{mapped_twice}

-- Labels of rows that have none are their numbers.
numbered : (a n : ℕ) → row_labels None a (map (λ m. []) (range_with_len a n))
    ≡ map decimal (range_with_len a n)
numbered a zero = refl
numbered a (suc n) =
    let e : suc a ≡ a + 1 = omega arith in
    ap (λ xs. decimal a ∷ xs)
    (ap (λ b. row_labels None b (map (λ m. []) (range_with_len (a + 1) n))) e
    ∙ numbered (a + 1) n)

-- Numbers differ as labels.
numbers_differ : (n : ℕ) → n < 2 ^ 64 → has_twice (map decimal (range_with_len 0 n)) ≡ false
numbers_differ n small =
    let rows : List Cells = map (λ m. []) (range_with_len 0 n) in
    let count = length-map-range_with_len {X = Cells} (λ m. []) 0 n in
    ap has_twice (sym (numbered 0 n))
    ∙ labels_apart [] rows None refl (λ among. absurd (true≢false (sym among)))
    (omega (arith, count, small))

all_of : {X : Type 0} (P : X → Type 0) → ((x : X) → P x) → (xs : List X) → All P xs
all_of P each xs = λ place other below. each (get_or xs place other)

module _ (seed nodes arcs : ℕ) (some : 0 < nodes) (few : nodes ≤ MAX_NODES)
    (fewer : arcs ≤ MAX_ARCS) where
  abbrev labels : Cells
  labels = node_labels (made seed nodes arcs).nodes

  labels_are : labels ≡ map decimal (range_with_len 0 nodes)
  labels_are =
      mapped_twice (label_in (label ∷ [])) (λ node. decimal node ∷ []) (range_with_len 0 nodes)

  label_count : length labels ≡ nodes
  label_count = ap length labels_are ∙ length-map-range_with_len decimal 0 nodes

  nodes_valid : IsTable (made seed nodes arcs).nodes
  nodes_valid = record {
    columns_ok = record { differ = refl; no_dash = refl };
    labelled = refl;
    wide = All-map {X = Cells} (λ cells. length cells ≡ 1) (λ node. decimal node ∷ [])
        (range_with_len 0 nodes)
        (all_of (λ node. length {A = List ℕ} (decimal node ∷ []) ≡ 1) (λ node. refl)
        (range_with_len 0 nodes));
    labels_differ = ap has_twice labels_are ∙ numbers_differ nodes (omega (arith, few));
    few = subst (λ count. count ≤ MAX_NODES)
        (sym (length-map-range_with_len (λ node. decimal node ∷ []) 0 nodes)) few;
  }

  link_valid : (arc : ℕ)
      → IsLink labels (made seed nodes arcs).arc_columns (made_arc seed nodes arc)
  link_valid arc = (
    subst (λ count. (made_arc seed nodes arc).from < count) (sym label_count)
        (mod_below (state seed (4 * arc + 1)) nodes some),
    subst (λ count. (made_arc seed nodes arc).to < count) (sym label_count)
        (mod_below (state seed (4 * arc + 1 + 1)) nodes some),
    refl,
  )

  arc_labels_are : arc_labels (made seed nodes arcs).arc_columns (made seed nodes arcs).arcs
      ≡ map decimal (range_with_len 0 arcs)
  arc_labels_are =
      ap (map (label_in (made seed nodes arcs).arc_columns))
      (mapped_twice (λ arc. arc.values) (made_arc seed nodes) (range_with_len 0 arcs))
      ∙ mapped_twice (label_in (made seed nodes arcs).arc_columns)
      (λ arc. (made_arc seed nodes arc).values) (range_with_len 0 arcs)

  arcs_valid : AreArcs labels (made seed nodes arcs).arc_columns (made seed nodes arcs).arcs
  arcs_valid = record {
    columns_ok = record { differ = refl; no_dash = refl };
    links = All-map (IsLink labels (made seed nodes arcs).arc_columns) (made_arc seed nodes)
        (range_with_len 0 arcs) (all_of
        (λ arc. IsLink labels (made seed nodes arcs).arc_columns (made_arc seed nodes arc))
        link_valid (range_with_len 0 arcs));
    labels_differ = λ labelled.
        ap has_twice arc_labels_are ∙ numbers_differ arcs (omega (arith, fewer));
    few = subst (λ count. count ≤ MAX_ARCS)
        (sym (length-map-range_with_len (made_arc seed nodes) 0 arcs)) fewer;
  }

  pub made_valid : IsDoc (made seed nodes arcs)
  made_valid = record { nodes_ok = nodes_valid; arcs_ok = arcs_valid; attributes_ok = refl }
