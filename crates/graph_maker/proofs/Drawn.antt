-- The text of a graph from a seed, by its lines.
use Rattle.std.proofs.Common.{◌≡◌, ℕ, suc, ◌+◌, ◌*◌, ◌%◌, ◌<◌, List, [], ◌∷◌, ◌++◌, map, refl, sym}
use Rattle.std.proofs.Common.{ap, ◌∙◌, arith}
use Rattle.std.specs.Prelude.{codes}
use Rattle.std.specs.List.{flat_map, range_with_len}
use Rattle.std.specs.Fmt.{decimal}
use Rattle.std.proofs.lemmas.List.{append-nil, append_assoc}
use Rattle.std.proofs.lemmas.List.Concat.{flat_map-append}
use Rattle.std.proofs.lemmas.List.FromFn.{get_or-map-range_with_len}
use Rattle.token_text.specs.Lines.{ended}
use Rattle.lgf_file.specs.Rows.{Cells}
use Rattle.lgf_file.specs.Documents.{label, label_in, label_at, link_cells, node_labels}
use Rattle.lgf_file.specs.Plain.{cell_text, row_text, plain}
use Rattle.plain_machine.specs.Generator.{next, state, draw, made, made_arc}
use Rattle.graph_maker.specs.Cells.{after_four, values, arc_line}
use Rattle.graph_maker.specs.Cells.{nodes_text, arcs_text}

-- ---- states

one_on : (seed count : ℕ) → state seed (count + 1) ≡ next (state seed count)
one_on seed count = let e : count + 1 ≡ suc count = omega arith in ap (state seed) e

pub four_on : (seed arc : ℕ) → after_four (state seed (4 * arc)) ≡ state seed (4 * (arc + 1))
four_on seed arc =
    let e : suc (suc (suc (suc (4 * arc)))) ≡ 4 * (arc + 1) = omega arith in
    ap (state seed) e

module _ (seed arc : ℕ) where
  abbrev start : ℕ
  start = state seed (4 * arc)

  first : state seed (4 * arc + 1) ≡ next start
  first = one_on seed (4 * arc)

  second : state seed (4 * arc + 1 + 1) ≡ next (next start)
  second = one_on seed (4 * arc + 1) ∙ ap next first

  third : state seed (4 * arc + 2 + 1) ≡ next (next (next start))
  third =
      let e : 4 * arc + 2 + 1 ≡ 4 * arc + 1 + 1 + 1 = omega arith in
      ap (state seed) e ∙ one_on seed (4 * arc + 1 + 1) ∙ ap next second

  fourth : state seed (4 * arc + 3 + 1) ≡ after_four start
  fourth =
      let e : 4 * arc + 3 + 1 ≡ 4 * arc + 2 + 1 + 1 = omega arith in
      ap (state seed) e ∙ one_on seed (4 * arc + 2 + 1) ∙ ap next third

-- ---- lines

abbrev pub nodes_head : List ℕ
nodes_head = codes "@nodes\nlabel\t\n"

abbrev pub arcs_head : List ℕ
arcs_head = codes "@arcs\n\t\tlabel\tcap\tcost\t\n"

each : {X : Type 0} (f g : X → List ℕ) → ((x : X) → f x ≡ g x) → (xs : List X)
    → flat_map f xs ≡ flat_map g xs
each f g same [] = refl
each f g same (x ∷ xs) = let rest = each f g same xs in λ i. same x i ++ rest i

of_mapped : {X Y : Type 0} (f : Y → List ℕ) (g : X → Y) (xs : List X)
    → flat_map f (map g xs) ≡ flat_map (λ x. f (g x)) xs
of_mapped f g [] = refl
of_mapped f g (x ∷ xs) = ap (λ more. f (g x) ++ more) (of_mapped f g xs)

pub mapped_twice : {X Y Z : Type 0} (f : Y → Z) (g : X → Y) (xs : List X)
    → map f (map g xs) ≡ map (λ x. f (g x)) xs
mapped_twice f g [] = refl
mapped_twice f g (x ∷ xs) = ap (λ more. f (g x) ∷ more) (mapped_twice f g xs)

module _ (seed nodes arcs : ℕ) (some : (n : ℕ) → n % nodes < nodes) where
  abbrev labels : Cells
  labels = node_labels (made seed nodes arcs).nodes

  label_is : (place : ℕ) → place < nodes → label_at labels place ≡ decimal place
  label_is place below =
      ap (λ xs. label_at xs place)
      (mapped_twice (label_in (label ∷ [])) (λ node. decimal node ∷ []) (range_with_len 0 nodes))
      ∙ get_or-map-range_with_len (λ node. label_in (label ∷ []) (decimal node ∷ [])) 0 nodes
      place place [] below (omega arith)

  arc_is : (arc : ℕ) → ended (row_text (link_cells labels (made_arc seed nodes arc)))
      ≡ arc_line nodes arc (state seed (4 * arc))
  arc_is arc =
      let one = first seed arc in
      let two = second seed arc in
      let from = label_is (draw seed (4 * arc) nodes) (some (state seed (4 * arc + 1)))
      ∙ ap (λ s. decimal (s % nodes)) one in
      let to = label_is (draw seed (4 * arc + 1) nodes) (some (state seed (4 * arc + 1 + 1)))
      ∙ ap (λ s. decimal (s % nodes)) two in
      let cells : ◌≡◌ {A = Cells} (made_arc seed nodes arc).values
      (values arc (next (next (state seed (4 * arc))))) =
      λ i. decimal arc ∷ decimal (third seed arc i % 1000)
      ∷ decimal (fourth seed arc i % 1000) ∷ [] in
      (λ i. ended (row_text (from i ∷ to i ∷ cells i)))
      ∙ shape (cell_text (decimal (next (state seed (4 * arc)) % nodes)))
      (cell_text (decimal (next (next (state seed (4 * arc))) % nodes)))
      (row_text (values arc (next (next (state seed (4 * arc))))))
    where
      shape : (a b c : List ℕ) → ended (a ++ (b ++ c)) ≡ (a ++ b) ++ ended c
      shape a b c = append_assoc a (b ++ c) (10 ∷ []) ∙ ap (λ xs. a ++ xs)
          (append_assoc b c (10 ∷ [])) ∙ sym (append_assoc a b (c ++ 10 ∷ []))

  node_part : flat_map ended (map row_text (made seed nodes arcs).nodes.rows) ≡ nodes_text nodes
  node_part =
      ap (flat_map ended) (mapped_twice row_text (λ node. decimal node ∷ [])
      (range_with_len 0 nodes))
      ∙ of_mapped ended (λ node. row_text (decimal node ∷ [])) (range_with_len 0 nodes)

  arc_part : flat_map ended (map (λ arc. row_text (link_cells labels arc))
      (made seed nodes arcs).arcs) ≡ arcs_text seed nodes arcs
  arc_part =
      ap (flat_map ended) (mapped_twice (λ arc. row_text (link_cells labels arc))
      (made_arc seed nodes) (range_with_len 0 arcs))
      ∙ of_mapped ended (λ arc. row_text (link_cells labels (made_arc seed nodes arc)))
      (range_with_len 0 arcs)
      ∙ each (λ arc. ended (row_text (link_cells labels (made_arc seed nodes arc))))
      (λ arc. arc_line nodes arc (state seed (4 * arc))) arc_is (range_with_len 0 arcs)

  -- the heads and the lines
  pub made_text : plain (made seed nodes arcs)
      ≡ nodes_head ++ (nodes_text nodes ++ (arcs_head ++ arcs_text seed nodes arcs))
  made_text =
      let texts = map row_text (made seed nodes arcs).nodes.rows in
      let lines = map (λ arc. row_text (link_cells labels arc)) (made seed nodes arcs).arcs in
      let head = row_text (made seed nodes arcs).arc_columns in
      ap (λ xs. nodes_head ++ xs)
      (flat_map-append ended texts (codes "@arcs" ∷ (9 ∷ 9 ∷ head) ∷ (lines ++ []))
      ∙ (λ i. node_part i ++ (arcs_head ++ flat_map ended (append-nil lines i)))
      ∙ ap (λ xs. nodes_text nodes ++ (arcs_head ++ xs)) arc_part)

  abbrev pub first_part : List ℕ
  first_part = nodes_head ++ nodes_text nodes

  abbrev pub second_part : List ℕ
  second_part = first_part ++ arcs_head

  pub in_two : plain (made seed nodes arcs)
      ≡ first_part ++ (arcs_head ++ arcs_text seed nodes arcs)
  in_two =
      made_text
      ∙ sym (append_assoc nodes_head (nodes_text nodes) (arcs_head ++ arcs_text seed nodes arcs))

  pub in_three : plain (made seed nodes arcs) ≡ second_part ++ arcs_text seed nodes arcs
  in_three = in_two ∙ sym (append_assoc first_part arcs_head (arcs_text seed nodes arcs))
