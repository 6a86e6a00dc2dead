-- The place of a node's row, counted on the way.
use Rattle.std.proofs.Common.{◌≡◌, ℕ, zero, suc, ◌+◌, ◌<◌, ◌≤◌, true, false, cond, not, List, []}
use Rattle.std.proofs.Common.{◌∷◌, ◌++◌, map, length, refl, sym, ap, Option, Some, None, ◌∙◌}
use Rattle.std.proofs.Common.{is_some, arith, get_or}
use Rattle.std.specs.Prelude.{◌==◌, unwrap_or, nat_lt}
use Rattle.std.specs.List.{filter_map, cons_option, range_with_len, position_or_len}
use Rattle.std.proofs.lemmas.Bool.{true≢false, eq-eqb, ne_eqb, lt-ltb}
use Rattle.std.proofs.lemmas.List.{length-map, map-append, append-nil}
use Rattle.std.proofs.lemmas.List.FromFn.{length-range_with_len, length-map-range_with_len}
use Rattle.std.proofs.lemmas.List.FromFn.{get_or-map-range_with_len}
use Rattle.base_items.specs.declared.items.Fact.{Fact}
use Rattle.base_items.specs.declared.items.ItemSort.{ItemSort}
use Rattle.base_items.specs.declared.items.ItemSort.TheVariants.{Node}
use Rattle.plain_digraph.specs.Digraph.{Digraph}
use Rattle.plain_digraph.specs.Items.{IsLive, fact_of}
use Rattle.plain_digraph.specs.Valid.{IsValid}
use Rattle.plain_digraph.proofs.Live.{fact_of-has, live_listed, listed_below}
use Rattle.plain_digraph.proofs.Rows.{fact_of-id}
use Rattle.alter_graph.proofs.Gathered.{told_more}
use Rattle.plain_world.specs.World.{World}
use Rattle.plain_world.specs.Documents.{row_of}
use Rattle.desk_world.specs.RowPlaces.{rising_below, row_places}

-- ---- ids that are told of

pub fewer_told : (told : ℕ → Option Fact) (ids : List ℕ)
    → length (filter_map told ids) ≤ length ids
fewer_told told [] = omega arith
fewer_told told (id ∷ ids) =
    let rest = fewer_told told ids in
    elim (told id) as (λ o. length (cons_option o (filter_map told ids)) ≤ suc (length ids)) [
      | None ↦ omega (arith, rest)
      | Some fact ↦ omega (arith, rest)
    ]

module _ (told : ℕ → Option Fact)
    (named : (id : ℕ) (fact : Fact) → told id ≡ Some fact → fact.id ≡ id) where
  abbrev ids_from : ℕ → ℕ → List ℕ
  ids_from a n = map (λ (fact : Fact). fact.id) (filter_map told (range_with_len a n))

  -- as many are told of before an id as stand before it
  place_from : (a n k node : ℕ) → node ≡ a + k → k < n → is_some (told node) ≡ true
      → position_or_len (λ other. other == node) (ids_from a n)
      ≡ length (filter_map told (range_with_len a k))
  place_from a zero k node is within some = absurd (omega (arith, within))
  place_from a (suc n) zero node is within some =
      let same : a ≡ node = omega (arith, is) in
      by (told a) refl (ap (λ id. is_some (told id)) same ∙ some) same
    where
      rest : List ℕ
      rest = ids_from (a + 1) n

      by : (o : Option Fact) → told a ≡ o → is_some o ≡ true → a ≡ node
          → position_or_len (λ other. other == node)
          (map (λ (fact : Fact). fact.id)
          (cons_option o (filter_map told (range_with_len (a + 1) n)))) ≡ 0
      by None told_a none same = absurd (true≢false (sym none))
      by (Some fact) told_a some same =
          let id : fact.id ≡ node = named a fact told_a ∙ same in
          ap (λ b. cond (not b) (1 + position_or_len (λ other. other == node) rest) 0)
          (eq-eqb fact.id node id)
  place_from a (suc n) (suc k) node is within some =
      let more = place_from (a + 1) n k node (omega (arith, is)) (omega (arith, within)) some in
      by (told a) refl more
    where
      rest : List ℕ
      rest = ids_from (a + 1) n

      by : (o : Option Fact) → told a ≡ o
          → position_or_len (λ other. other == node) rest
          ≡ length (filter_map told (range_with_len (a + 1) k))
          → position_or_len (λ other. other == node)
          (map (λ (fact : Fact). fact.id)
          (cons_option o (filter_map told (range_with_len (a + 1) n))))
          ≡ length (cons_option o (filter_map told (range_with_len (a + 1) k)))
      by None told_a more = more
      by (Some fact) told_a more =
          let id = named a fact told_a in
          let other : fact.id ≡ node → ⊥ = λ same. omega (arith, id, same, is) in
          ap (λ b. cond (not b) (1 + position_or_len (λ other. other == node) rest) 0)
          (ne_eqb fact.id node other)
          ∙ omega (arith, more)

  less_told : (a n k node : ℕ) → node ≡ a + k → k < n → is_some (told node) ≡ true
      → length (filter_map told (range_with_len a k))
      < length (filter_map told (range_with_len a n))
  less_told a zero k node is within some = absurd (omega (arith, within))
  less_told a (suc n) zero node is within some =
      let same : node ≡ a = omega (arith, is) in
      by (told a) (ap (λ id. is_some (told id)) (sym same) ∙ some)
    where
      by : (o : Option Fact) → is_some o ≡ true
          → 0 < length (cons_option o (filter_map told (range_with_len (a + 1) n)))
      by None none = absurd (true≢false (sym none))
      by (Some fact) some = omega arith
  less_told a (suc n) (suc k) node is within some =
      let more = less_told (a + 1) n k node (omega (arith, is)) (omega (arith, within)) some in
      elim (told a) as (λ o. length (cons_option o (filter_map told (range_with_len (a + 1) k)))
      < length (cons_option o (filter_map told (range_with_len (a + 1) n)))) [
        | None ↦ more
        | Some fact ↦ omega (arith, more)
      ]

pub some_told : (o : Option Fact) → is_some o ≡ true → (fact : Fact) × (o ≡ Some fact)
some_told None some = absurd (true≢false (sym some))
some_told (Some fact) some = (fact, refl)

pub none_told : (o : Option Fact) → is_some o ≡ false → o ≡ None
none_told None none = refl
none_told (Some fact) none = absurd (true≢false none)

-- ---- of a digraph

module _ (g : Digraph) (sort : ItemSort) where
  -- a live item more
  pub below_more : (id : ℕ) (fact : Fact) → fact_of g sort id ≡ Some fact
      → rising_below g sort (id + 1) ≡ rising_below g sort id ++ id ∷ []
  below_more id fact told =
      ap (map (λ (f : Fact). f.id)) (told_more (fact_of g sort) id)
      ∙ map-append (λ (f : Fact). f.id) (filter_map (fact_of g sort) (range_with_len 0 id))
      (cons_option (fact_of g sort id) [])
      ∙ ap (λ o. rising_below g sort id ++ map (λ (f : Fact). f.id) (cons_option o [])) told
      ∙ ap (λ own. rising_below g sort id ++ own ∷ []) (fact_of-id g sort id fact told)

  -- and one that isn't live
  pub below_same : (id : ℕ) → fact_of g sort id ≡ None
      → rising_below g sort (id + 1) ≡ rising_below g sort id
  below_same id told =
      ap (map (λ (f : Fact). f.id)) (told_more (fact_of g sort) id)
      ∙ map-append (λ (f : Fact). f.id) (filter_map (fact_of g sort) (range_with_len 0 id))
      (cons_option (fact_of g sort id) [])
      ∙ ap (λ o. rising_below g sort id ++ map (λ (f : Fact). f.id) (cons_option o [])) told
      ∙ append-nil (rising_below g sort id)

  -- what is read of the live items below an id, with one id more
  pub read_more : {X : Type 0} (read : ℕ → X) (id : ℕ) (fact : Fact)
      → fact_of g sort id ≡ Some fact → (made : List X) → made ≡ map read (rising_below g sort id)
      → (x : X) → x ≡ read id → made ++ x ∷ [] ≡ map read (rising_below g sort (id + 1))
  read_more read id fact told made are x is =
      (λ i. are i ++ is i ∷ [])
      ∙ sym (map-append read (rising_below g sort id) (id ∷ []))
      ∙ ap (map read) (sym (below_more id fact told))

  pub read_same : {X : Type 0} (read : ℕ → X) (id : ℕ) → fact_of g sort id ≡ None
      → (made : List X) → made ≡ map read (rising_below g sort id)
      → made ≡ map read (rising_below g sort (id + 1))
  read_same read id told made are = are ∙ ap (map read) (sym (below_same id told))

  pub few_below : (id : ℕ) → length (rising_below g sort id) ≤ id
  few_below id =
      let size = length-map (filter_map (fact_of g sort) (range_with_len 0 id))
      (λ (f : Fact). f.id) in
      let few = fewer_told (fact_of g sort) (range_with_len 0 id) in
      let all = length-range_with_len 0 id in
      omega (arith, size, few, all)

-- ---- the places

module _ (world : World) (valid : IsValid world.graph) (node : ℕ)
    (live : IsLive world.graph Node node) where
  abbrev g : Digraph
  g = world.graph

  used : node < g.used_nodes
  used = listed_below g Node node valid (live_listed g Node node live)

  told : is_some (fact_of g Node node) ≡ true
  told = fact_of-has g Node node valid ∙ live_listed g Node node live

  at : position_or_len (λ other. other == node) (rising_below g Node g.used_nodes)
      ≡ length (rising_below g Node node)
  at =
      place_from (fact_of g Node) (fact_of-id g Node) 0 g.used_nodes node node (omega arith) used
      told
      ∙ sym (length-map (filter_map (fact_of g Node) (range_with_len 0 node)) (λ (f : Fact). f.id))

  within : length (rising_below g Node node) < length (rising_below g Node g.used_nodes)
  within =
      let less = less_told (fact_of g Node) (fact_of-id g Node) 0 g.used_nodes node node
      (omega arith) used told in
      let here = length-map (filter_map (fact_of g Node) (range_with_len 0 node))
      (λ (f : Fact). f.id) in
      let all = length-map (filter_map (fact_of g Node) (range_with_len 0 g.used_nodes))
      (λ (f : Fact). f.id) in
      omega (arith, less, here, all)

  row_is : row_of world node ≡ length (rising_below g Node node)
  row_is =
      let size = length (rising_below g Node g.used_nodes) in
      ap (λ n. unwrap_or (cond (nat_lt n size) (Some n) None) 0) at
      ∙ ap (λ b. unwrap_or (cond b (Some (length (rising_below g Node node))) None) 0)
      (lt-ltb (length (rising_below g Node node)) size within)

  -- the place of the row of a live node stands at its id
  pub place_listed : node < length (row_places g)
  place_listed =
      let size = length-map-range_with_len (λ id. length (rising_below g Node id)) 0 g.used_nodes in
      omega (arith, size, used)

  pub place_is : (d : ℕ) → get_or (row_places g) node d ≡ row_of world node
  place_is d =
      get_or-map-range_with_len (λ id. length (rising_below g Node id)) 0 g.used_nodes node node d
      used (omega arith)
      ∙ sym row_is
