-- The node of a view that a word names.
use Rattle.std.proofs.Common.{◌≡◌, ℕ, ◌<◌, Bool, true, false, cond, List, [], ◌∷◌}
use Rattle.std.proofs.Common.{◌++◌, length, length-append, reverse, refl, sym, ap, ◌∙◌, arith}
use Rattle.std.proofs.Common.{Option, None, Some, is_some}
use Rattle.std.specs.Prelude.{◌==◌, ◌||◌, find, unwrap_or}
use Rattle.std.specs.FinMap as fin
use Rattle.std.specs.Str.{bytes_eq}
use Rattle.std.proofs.lemmas.Bool.{true≢false, eq-eqb, or_right}
use Rattle.std.proofs.lemmas.List.{append_cancel_right, length-reverse}
use Rattle.std.proofs.lemmas.List.{reverse-reverse}
use Rattle.std.proofs.lemmas.Option.{none-some, same_Some}
use Rattle.std.proofs.lemmas.Slice.Eq.{bytes_eq-Decides}
use Rattle.base_items.specs.declared.items.ItemSort.TheVariants.{Node}
use Rattle.plain_digraph.specs.Items.{IsLive, ids}
use Rattle.plain_digraph.specs.Lists.{has}
use Rattle.plain_views.specs.Marks.{marked, node_marks}
use Rattle.plain_views.specs.Shown.{Shown}
use Rattle.plain_views.specs.Towers.{Layer, base_node}
use Rattle.plain_views.proofs.Base.{base_below}
use Rattle.plain_world.specs.Demands.{item_named}
use Rattle.plain_world.specs.Tables.{Name}
use Rattle.plain_world.specs.Valid.{IsWorld}
use Rattle.plain_world.specs.World.{World, label_of}
use Rattle.plain_world.proofs.Found.{find_only, find_none}
use Rattle.plain_world.proofs.Named.{items_named, attached_ok}
use Rattle.desk_world.specs.Naming.{node_called, ShowsLive}
use Rattle.desk_world.specs.NodeWords.{IsParted, node_by, letters_of, ComesBy, Means}
use Rattle.desk_world.specs.NodeWords.{node_called_so}
use Rattle.desk_world.proofs.NodeWords.{marks_counted, comes_by_marks, marks_are}

-- ---- a word has one label and one row of letters

same_ends : (a b c d : List ℕ) → length b ≡ length d → a ++ b ≡ c ++ d → (a ≡ c) × (b ≡ d)
same_ends [] b [] d size is = (refl, is)
same_ends [] b (y ∷ c) d size is =
    let longer = ap length is in
    let both = length-append (y ∷ c) d in absurd (omega (arith, size, longer, both))
same_ends (x ∷ a) b [] d size is =
    let longer = ap length is in
    let both = length-append (x ∷ a) b in absurd (omega (arith, size, longer, both))
same_ends (x ∷ a) b (y ∷ c) d size is =
    let rest = same_ends a b c d size (ap tail is) in
    (λ i. ap head is i ∷ rest.0 i, rest.1)
  where
    tail : List ℕ → List ℕ
    tail [] = []
    tail (x ∷ xs) = xs

    head : List ℕ → ℕ
    head [] = x
    head (x ∷ xs) = x

pub parted_once : (count : ℕ) (word label letters other more : Name)
    → IsParted count word label letters → IsParted count word other more
    → (label ≡ other) × (letters ≡ more)
parted_once count word label [] other [] is too = (sym is.spelled ∙ too.spelled, refl)
parted_once count word label [] other (m ∷ more) is too =
    let none = is.counted in let some = too.counted in absurd (omega (arith, none, some))
parted_once count word label (l ∷ letters) other [] is too =
    let none = too.counted in let some = is.counted in absurd (omega (arith, none, some))
parted_once count word label (l ∷ letters) other (m ∷ more) is too =
    let size : length (l ∷ letters) ≡ length (m ∷ more) = is.counted ∙ sym too.counted in
    let both = same_ends (label ++ 47 ∷ []) (l ∷ letters) (other ++ 47 ∷ []) (m ∷ more) size
    (sym is.spelled ∙ too.spelled) in
    (append_cancel_right label other (47 ∷ []) both.0, both.1)

-- what is found stands in the list
pub listed : (test : ℕ → Bool) (xs : List ℕ) (x : ℕ) → find test xs ≡ Some x → has xs x ≡ true
listed test [] x is = absurd (none-some x is)
listed test (y ∷ ys) x is =
    let rest = listed test ys x in
    elim (test y) as (λ b. cond b (Some y) (find test ys) ≡ Some x
    → ((y == x) || has ys x) ≡ true) [
      | true ↦ λ found.
          ap (λ b. b || has ys x) (eq-eqb y x (same_Some y x found))
      | false ↦ λ found. or_right (y == x) (has ys x) (rest found)
    ] is

-- and passes the test
pub passes : (test : ℕ → Bool) (xs : List ℕ) (x : ℕ) → find test xs ≡ Some x → test x ≡ true
passes test [] x is = absurd (none-some x is)
passes test (y ∷ ys) x is =
    let rest = passes test ys x in
    elim (test y) as (λ b. test y ≡ b → cond b (Some y) (find test ys) ≡ Some x
    → test x ≡ true) [
      | true ↦ λ at found. ap test (sym (same_Some y x found)) ∙ at
      | false ↦ λ at found. rest found
    ] refl is

-- ---- words and nodes

module _ {M : Type 0} (world : World) (tower : List (Layer M)) (ok : IsWorld world) where
  -- a node that is found by a label has it
  label_found : (label : Name) (own : ℕ) → item_named world Node label ≡ Some own
      → label_of world Node own ≡ label
  label_found label own is =
      (bytes_eq-Decides (label_of world Node own) label).0
      (passes (λ id. bytes_eq (label_of world Node id) label) _ own is)

  -- the node that comes by the word has it as name
  pub named_so : (word : Name) (node : ℕ) → ComesBy world tower word node
      → node_called world tower node ≡ word
  named_so word node by =
      let is = marks_are tower (reverse by.letters) by.own node (length-reverse by.letters ∙ by.parted.counted)
      by.above in
      (λ i. marked (label_of world Node (is.0 i)) (back (node_marks tower node) by.letters is.1 i))
      ∙ ap (λ label. marked label by.letters) (label_found by.label by.own by.named)
      ∙ sym by.parted.spelled
    where
      back : (xs ys : List ℕ) → reverse xs ≡ reverse ys → xs ≡ ys
      back xs ys is = sym (reverse-reverse xs) ∙ ap reverse is ∙ reverse-reverse ys

  -- a node that has the name comes by it
  pub comes_so : (word : Name) (node : ℕ) → IsLive world.graph Node (base_node tower node)
      → node_called world tower node ≡ word → ComesBy world tower word node
  comes_so word node live is = record {
    label = label_of world Node (base_node tower node);
    letters = node_marks tower node;
    own = base_node tower node;
    parted = record { counted = marks_counted tower node; spelled = sym is };
    named = items_named world Node (base_node tower node)
        (label_of world Node (base_node tower node)) ok (has_label (base_node tower node) live);
    above = comes_by_marks tower node;
  }
    where
      own_label : (o : Option Name) → is_some o ≡ true → o ≡ Some (unwrap_or o [])
      own_label None some = absurd (true≢false (sym some))
      own_label (Some label) some = refl

      has_label : (id : ℕ) → IsLive world.graph Node id
          → fin.get world.nodes.labels id ≡ Some (label_of world Node id)
      has_label id live =
          own_label (fin.get world.nodes.labels id) (((attached_ok world Node ok).labelled id).0 live)

  -- where the label is that of no node, or its letters lead to none, none comes by the word
  module _ (word label letters : Name) (parted : IsParted (letters_of tower) word label letters)
    where
      pub no_label : item_named world Node label ≡ None → Means world tower word None
      no_label none node by =
          let same = parted_once (letters_of tower) word by.label by.letters label letters by.parted
          parted in
          none-some by.own (sym none ∙ ap (item_named world Node) (sym same.0) ∙ by.named)

      pub meant_by : (own : ℕ) → item_named world Node label ≡ Some own → (o : Option ℕ)
          → o ≡ node_by (reverse letters) own → Means world tower word o
      meant_by own named (Some node) is = record {
        label = label;
        letters = letters;
        own = own;
        parted = parted;
        named = named;
        above = sym is;
      }
      meant_by own named None is = λ node by.
          let same = parted_once (letters_of tower) word by.label by.letters label letters by.parted
          parted in
          let alike = same_Some by.own own
          (sym by.named ∙ ap (item_named world Node) same.0 ∙ named) in
          none-some node
          (is ∙ (λ i. node_by (reverse (sym same.1 i)) (sym alike i)) ∙ by.above)

  -- a node that is found is one of the base, whose ids are small
  pub own_low : (label : Name) (own : ℕ) → item_named world Node label ≡ Some own
      → own < 4194304
  own_low label own is =
      (base_below world.graph ok.graph_ok).nodes_below own
      (listed (λ id. bytes_eq (label_of world Node id) label) (ids world.graph.nodes) own is)

  -- no other node comes by it
  comes_once : (word : Name) (node other : ℕ) → ComesBy world tower word node
      → ComesBy world tower word other → node ≡ other
  comes_once word node other by too =
      let same = parted_once (letters_of tower) word by.label by.letters too.label too.letters by.parted
      too.parted in
      let own = same_Some by.own too.own
      (sym by.named ∙ ap (item_named world Node) same.0 ∙ too.named) in
      same_Some node other
      (sym by.above ∙ (λ i. node_by (reverse (same.1 i)) (own i)) ∙ too.above)

  module _ (p : Shown) (live : ShowsLive world.graph tower p) (word : Name) where
    abbrev has_name : ℕ → Bool
    has_name node = bytes_eq (node_called world tower node) word

    comes : (node : ℕ) → has p.nodes node ≡ true → has_name node ≡ true
        → ComesBy world tower word node
    comes node at same =
        comes_so word node (live.nodes node at)
        ((bytes_eq-Decides (node_called world tower node) word).0 same)

    -- the node that the word means is found, where it is shown
    pub found_shown : (node : ℕ) → ComesBy world tower word node → has p.nodes node ≡ true
        → node_called_so world tower p word ≡ Some node
    found_shown node by at =
        find_only has_name p.nodes node at
        ((bytes_eq-Decides (node_called world tower node) word).1 (named_so word node by))
        (λ other there same. comes_once word other node (comes other there same) by)

    to_false : (b : Bool) → (b ≡ true → ⊥) → b ≡ false
    to_false true never = absurd (never refl)
    to_false false never = refl

    pub hidden : (node : ℕ) → ComesBy world tower word node → has p.nodes node ≡ false
        → node_called_so world tower p word ≡ None
    hidden node by out =
        find_none has_name p.nodes
        (λ other there. to_false (has_name other) (λ same.
        true≢false (sym there ∙ ap (has p.nodes) (comes_once word other node
        (comes other there same) by) ∙ out)))

    pub none_meant : Means world tower word None → node_called_so world tower p word ≡ None
    none_meant none =
        find_none has_name p.nodes
        (λ other there. to_false (has_name other) (λ same. none other (comes other there same)))
