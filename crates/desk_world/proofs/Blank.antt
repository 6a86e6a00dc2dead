-- The world of a document before its rows are read: no item has a label, and each has an empty text
-- in each map.
use Rattle.std.proofs.Common.{◌≡◌, ℕ, Bool, true, false, cond, List, [], ◌∷◌, map, Some}
use Rattle.std.proofs.Common.{None}
use Rattle.std.proofs.Common.{refl, sym, ap, ◌∙◌, subst, inl, inr}
use Rattle.std.specs.Prelude.{◌==◌, nat_le}
use Rattle.std.specs.Ordering.{nat_cmp}
use Rattle.std.specs.Cmp.{nat_cmp_total}
use Rattle.std.specs.FinMap as fin
use Rattle.std.proofs.lemmas.Bool.{cases_eq, eq-eqb, ne_eqb}
use Rattle.base_items.specs.declared.items.Fact.{Fact}
use Rattle.base_items.specs.declared.items.ItemSort.TheVariants.{Node, Arc}
use Rattle.lgf_file.specs.Rows.{Cells}
use Rattle.lgf_file.specs.declared.documents.Doc.{Doc}
use Rattle.script_words.specs.declared.commands.GuardWord.{GuardWord}
use Rattle.plain_digraph.specs.Digraph as plain
use Rattle.plain_digraph.specs.Items.{facts, node_fact, arc_fact}
use Rattle.plain_digraph.specs.Steps.{new_node, new_arc}
use Rattle.plain_digraph.specs.PlainSteps.{Added, Untouched, AddNode, AddArc, change_of}
use Rattle.plain_digraph.specs.Facts.{fact_id}
use Rattle.plain_digraph.specs.Rising.{with_item}
use Rattle.plain_digraph.specs.Valid.{IsValid}
use Rattle.plain_digraph.proofs.Keys.{get_new, get_other}
use Rattle.plain_digraph.proofs.StepFacts.{added_node_facts, added_arc_facts}
use Rattle.observe_core.specs.Items.{has_id, place_all}
use Rattle.plain_world.specs.Tables.{Name, under, each_changed}
use Rattle.plain_world.specs.World.{World, Column, Texts, Plain}
use Rattle.plain_world.specs.Following.{follow, held_after, attribute_after}
use Rattle.plain_world.specs.Documents.{opened}
use Rattle.desk_world.specs.Blank.{AreBlank, blanks, plain_attributes, blank_world, IsBlank}
use Rattle.desk_world.specs.Blank.{own_columns}

-- ---- ids

module _ {X : Type 0} (id_of : X → ℕ) where
  -- the ids of a list to which an item came
  has_with : (x : X) (ys : List X) (q : ℕ)
      → has_id id_of q (with_item id_of x ys) ≡ cond (id_of x == q) true (has_id id_of q ys)
  has_with x [] q = refl
  has_with x (y ∷ ys) q =
      let rest = has_with x ys q in
      elim (nat_le (id_of x) (id_of y)) as (λ b.
      has_id id_of q (cond b (x ∷ y ∷ ys) (y ∷ with_item id_of x ys))
      ≡ cond (id_of x == q) true (has_id id_of q (y ∷ ys))) [
        | true ↦ refl
        | false ↦
            ap (cond (id_of y == q) true) rest
            ∙ either (id_of y == q) (id_of x == q) (has_id id_of q ys)
      ]
    where
      either : (a b c : Bool) → cond a true (cond b true c) ≡ cond b true (cond a true c)
      either true true c = refl
      either true false c = refl
      either false true c = refl
      either false false c = refl

  -- those of a list to which many came
  pub has_place : (xs ys : List X) (q : ℕ)
      → has_id id_of q (place_all id_of xs ys)
      ≡ cond (has_id id_of q xs) true (has_id id_of q ys)
  has_place [] ys q = refl
  has_place (x ∷ xs) ys q =
      has_place xs (with_item id_of x ys) q
      ∙ ap (cond (has_id id_of q xs) true) (has_with x ys q)
      ∙ both (has_id id_of q xs) (id_of x == q) (has_id id_of q ys)
    where
      both : (a b c : Bool) → cond a true (cond b true c) ≡ cond (cond b true a) true c
      both true true c = refl
      both true false c = refl
      both false true c = refl
      both false false c = refl

-- ---- columns of empty texts

-- there is one such column
blank_once : (live : List Fact) (m n : Column (List ℕ)) → AreBlank live m → AreBlank live n → m ≡ n
blank_once live m n one other =
    fin.same_map nat_cmp_total fin.nat_cmp-IsAntisymmetric m n (λ q. one q ∙ sym (other q))

no_blank : AreBlank [] fin.empty
no_blank q = fin.get-empty nat_cmp q

-- one item more
more_blank : (f : Fact) (live : List Fact) (m : Column (List ℕ)) → AreBlank live m
    → AreBlank (with_item fact_id f live) (fin.insert m f.id [])
more_blank f live m are q =
    let ids = has_with fact_id f live q in
    elim (cases_eq q f.id) [
      | inl same ↦
          ap (fin.get (fin.insert m f.id [])) same ∙ get_new m f.id []
          ∙ sym (ap (λ b. cond b (Some []) None) ids
          ∙ ap (λ b. cond (cond b true (has_id fact_id q live)) (Some []) None)
          (eq-eqb f.id q (sym same)))
      | inr other ↦
          get_other m f.id [] q other ∙ are q
          ∙ sym (ap (λ b. cond b (Some []) None) ids
          ∙ ap (λ b. cond (cond b true (has_id fact_id q live)) (Some []) None)
          (ne_eqb f.id q (λ e. other (sym e))))
    ]

-- ---- worlds

told_blanks : (new : ℕ) (names : Cells) (m : Column (List ℕ))
    → map (λ e. under e.name (held_after (Added new) e.value)) (blanks names m)
    ≡ blanks names (fin.insert m new [])
told_blanks new [] m = refl
told_blanks new (name ∷ names) m =
    ap (λ rest. under name (Texts (fin.insert m new [])) ∷ rest) (told_blanks new names m)

untold_blanks : (names : Cells) (m : Column (List ℕ))
    → map (λ e. under e.name (held_after Untouched e.value)) (blanks names m) ≡ blanks names m
untold_blanks [] m = refl
untold_blanks (name ∷ names) m = ap (λ rest. under name (Texts m) ∷ rest) (untold_blanks names m)

plain_stay : (w : World) (arc : Bool) (from to : ℕ) (attributes : List (Name × Name))
    → (each_changed (attribute_after (change_of w.graph AddNode)) (plain_attributes attributes)
    ≡ plain_attributes attributes)
    × (each_changed (attribute_after (change_of w.graph (AddArc from to)))
    (plain_attributes attributes) ≡ plain_attributes attributes)
plain_stay w arc from to [] = (refl, refl)
plain_stay w arc from to (a ∷ attributes) =
    let rest = plain_stay w arc from to attributes in (
      ap (λ more. under a.0 (Plain a.1) ∷ more) rest.0,
      ap (λ more. under a.0 (Plain a.1) ∷ more) rest.1,
    )

module _ (names arc_names : Cells) (pool : List GuardWord) (attributes : List (Name × Name)) where
  abbrev Blank : World → Type 0
  Blank = IsBlank names arc_names pool attributes

  abbrev start_world : plain.Digraph → Column (List ℕ) → Column (List ℕ) → World
  start_world = blank_world names arc_names pool attributes

  pub blank_node : (world : World) → Blank world → IsValid world.graph
      → Blank (follow world AddNode)
  blank_node world was valid =
      let g = world.graph in
      let new = new_node g in
      let told = added_node_facts g valid in
      let m = was.node_column in
      let n = was.arc_column in
      let fact = node_fact new g.stamps in
      let start = start_world g m n in
      let nodes = told_blanks new names m in
      let arcs = untold_blanks arc_names n in
      let stay = (plain_stay start false 0 0 attributes).0 in
      let there = follow start AddNode in
      let same : follow start AddNode ≡ start_world there.graph (fin.insert m new []) n =
      λ i. record there {
        nodes = record { labels = fin.empty; maps = nodes i };
        arcs = record { labels = fin.empty; maps = arcs i };
        attributes = stay i;
      } in
      record {
        node_column = fin.insert m new [];
        arc_column = n;
        node_texts = subst (λ live. AreBlank live (fin.insert m new [])) (sym told.0)
            (more_blank fact (facts g Node) m was.node_texts);
        arc_texts = subst (λ live. AreBlank live n) (sym told.1) was.arc_texts;
        is = ap (λ w. follow w AddNode) was.is ∙ same;
      }

  pub blank_arc : (world : World) (from to : ℕ) → Blank world → IsValid world.graph
      → Blank (follow world (AddArc from to))
  blank_arc world from to was valid =
      let g = world.graph in
      let new = new_arc g in
      let told = added_arc_facts g from to valid in
      let m = was.node_column in
      let n = was.arc_column in
      let fact = arc_fact new (from, to) g.stamps g.stamps in
      let start = start_world g m n in
      let nodes = untold_blanks names m in
      let arcs = told_blanks new arc_names n in
      let stay = (plain_stay start true from to attributes).1 in
      let there = follow start (AddArc from to) in
      let same : follow start (AddArc from to) ≡ start_world there.graph m (fin.insert n new []) =
      λ i. record there {
        nodes = record { labels = fin.empty; maps = nodes i };
        arcs = record { labels = fin.empty; maps = arcs i };
        attributes = stay i;
      } in
      record {
        node_column = m;
        arc_column = fin.insert n new [];
        node_texts = subst (λ live. AreBlank live m) (sym told.1) was.node_texts;
        arc_texts = subst (λ live. AreBlank live (fin.insert n new [])) (sym told.0)
            (more_blank fact (facts g Arc) n was.arc_texts);
        is = ap (λ w. follow w (AddArc from to)) was.is ∙ same;
      }

  -- whichever columns of empty texts it has
  pub blank_seen : (world : World) (m n : Column (List ℕ)) → Blank world
      → AreBlank (facts world.graph Node) m → AreBlank (facts world.graph Arc) n
      → world ≡ start_world world.graph m n
  blank_seen world m n was nodes arcs =
      let first = blank_once (facts world.graph Node) was.node_column m was.node_texts nodes in
      let other = blank_once (facts world.graph Arc) was.arc_column n was.arc_texts arcs in
      was.is ∙ (λ i. start_world world.graph (first i) (other i))

pub blank_opened : (doc : Doc) (pool : List GuardWord)
    → IsBlank (own_columns doc.nodes.columns) (own_columns doc.arc_columns) pool doc.attributes
    (opened doc pool)
blank_opened doc pool = record {
  node_column = fin.empty;
  arc_column = fin.empty;
  node_texts = no_blank;
  arc_texts = no_blank;
  is = refl;
}
