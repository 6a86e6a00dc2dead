-- The facts of a valid digraph: they rise, are in bounds, and are those of the live items.
use Rattle.std.proofs.Common.{◌≡◌, ◌≢◌, ℕ, zero, suc, ◌+◌, ◌≤◌, true, false, nat_le, ◌&&◌}
use Rattle.std.proofs.Common.{◌==◌, if◌then◌else◌, IsTrue, List, [], ◌∷◌, Some, None, Option}
use Rattle.std.proofs.Common.{Contains, is_some, refl, sym, ap, subst, ◌∙◌, arith}
use Rattle.std.proofs.lemmas.Grind.{common_steps}
use Rattle.std.specs.Option.{option_map_or}
use Rattle.std.specs.List.{filter_map, cons_option, range_with_len}
use Rattle.base_items.specs.declared.items.Fact.{Fact}
use Rattle.base_items.specs.declared.items.ItemSort.{ItemSort}
use Rattle.base_items.specs.declared.items.ItemSort.TheVariants as sorts
use Rattle.plain_digraph.specs.Lists.{AllOf}
use Rattle.plain_digraph.specs.Facts.{fact_id}
use Rattle.plain_digraph.specs.Digraph.{Digraph}
use Rattle.plain_digraph.specs.Items.{IsLive, fact_of, facts, used_of, node_fact}
use Rattle.plain_digraph.specs.Valid.{IsValid}
use Rattle.plain_digraph.proofs.Rows.{fact_of-id}
use Rattle.plain_digraph.proofs.Live.{fact_of-has, live_listed, listed_live}
use Rattle.plain_digraph.proofs.SameLists.{facts_are_whole}
use Rattle.plain_digraph.proofs.Bounded.{facts_are_bounded}
use Rattle.observe_core.specs.Items.{Lacks, has_id, rises_from}
use Rattle.observe_core.specs.Facts.{IsInBounds}
use Rattle.observe_core.specs.Facts as listed
use Rattle.observe_core.proofs.ItemLemmas.{contains-has}
use Rattle.alter_graph.specs.Present.{fact_at}

-- ---- lists

pub all_in : {X : Type 0} (P : X → Type 0) (xs : List X) → ((x : X) → Contains xs x → P x)
    → AllOf P xs
all_in P [] each = tt
all_in P (x ∷ xs) each = (
  each x (zero, omega arith, refl),
  all_in P xs (λ y c. let l = c.1 in each y (suc c.0, omega (arith, l), c.2)),
)

pub lacks_all : (id : ℕ) (fs : List Fact) → AllOf (λ f. f.id ≢ id) fs → Lacks fact_id id fs
lacks_all id [] all = tt
lacks_all id (f ∷ fs) all = (all.0, lacks_all id fs all.1)

-- an item with the id is there
pub contained : {X : Type 0} (id_of : X → ℕ) (id : ℕ) (xs : List X) → IsTrue (has_id id_of id xs)
    → (x : X) × (Contains xs x) × (id_of x ≡ id)
contained id_of id [] has = cc
contained {X} id_of id (x ∷ xs) has =
    elim (id_of x == id) as (λ b. (id_of x == id) ≡ b
    → IsTrue (if b then true else has_id id_of id xs)
    → (y : X) × (Contains (x ∷ xs) y) × (id_of y ≡ id)) [
      | true ↦ λ e _. (x, (zero, omega arith, refl), grind (arith, common_steps, e))
      | false ↦ λ e more.
          let r = contained id_of id xs more in
          let at = r.1 in
          let l = at.1 in
          (r.0, (suc at.0, omega (arith, l), at.2), r.2)
    ] refl has

rises_on : (low high : ℕ) (fs : List Fact) → low ≤ high → IsTrue (rises_from fact_id high fs)
    → IsTrue (rises_from fact_id low fs)
rises_on low high [] l h = refl
rises_on low high (f ∷ fs) l h = grind (arith, common_steps, l, h)

pub range_rises : (told : ℕ → Option Fact)
    → ((id : ℕ) (fact : Fact) → told id ≡ Some fact → fact.id ≡ id) → (a n : ℕ)
    → IsTrue (rises_from fact_id a (filter_map told (range_with_len a n)))
range_rises told named a zero = refl
range_rises told named a (suc n) =
    let rest = filter_map told (range_with_len (a + 1) n) in
    let r = range_rises told named (a + 1) n in
    elim (told a) as (λ o. told a ≡ o → IsTrue (rises_from fact_id a (cons_option o rest))) [
      | None ↦ λ e. rises_on a (a + 1) rest (omega arith) r
      | Some fact ↦ λ e.
          subst (λ id. IsTrue (nat_le a id && rises_from fact_id (id + 1) rest))
          (sym (named a fact e)) (grind (arith, common_steps, r))
    ] refl

-- ---- a live item

some_at : (o : Option Fact) (d : Fact) → is_some o ≡ true
    → o ≡ Some (option_map_or (λ fact. fact) o d)
some_at None d live = cc
some_at (Some fact) d live = refl

module _ (g : Digraph) (sort : ItemSort) (valid : IsValid g) where
  pub live_told : (id : ℕ) → IsLive g sort id → fact_of g sort id ≡ Some (fact_at g sort id)
  live_told id live = some_at (fact_of g sort id) (node_fact 0 0)
      (fact_of-has g sort id valid ∙ live_listed g sort id live)

  pub live_id : (id : ℕ) → IsLive g sort id → (fact_at g sort id).id ≡ id
  live_id id live = fact_of-id g sort id (fact_at g sort id) (live_told id live)

  pub live_contained : (id : ℕ) → IsLive g sort id → Contains (facts g sort) (fact_at g sort id)
  live_contained id live = (facts_are_whole g sort (fact_at g sort id) valid).1
      (ap (fact_of g sort) (live_id id live) ∙ live_told id live)

  pub live_has : (id : ℕ) → IsLive g sort id → IsTrue (has_id fact_id id (facts g sort))
  live_has id live = subst (λ i. IsTrue (has_id fact_id i (facts g sort))) (live_id id live)
      (contains-has fact_id (fact_at g sort id) (facts g sort) (live_contained id live))

  pub told_live : (id : ℕ) (fact : Fact) → fact_of g sort id ≡ Some fact → IsLive g sort id
  told_live id fact told =
      listed_live g sort id (sym (fact_of-has g sort id valid) ∙ ap is_some told)

  pub has_live : (id : ℕ) → IsTrue (has_id fact_id id (facts g sort)) → IsLive g sort id
  has_live id has =
      let found = contained fact_id id (facts g sort) has in
      told_live id found.0
      (sym (ap (fact_of g sort) found.2) ∙ (facts_are_whole g sort found.0 valid).0 found.1)

  -- ---- all of them

  pub bounded : (fact : Fact) → fact_of g sort fact.id ≡ Some fact → IsInBounds fact
  bounded fact told =
      let within = facts_are_bounded g sort fact.id fact valid told in
      let id = within.id in
      let from = within.from in
      let to = within.to in
      let nodes = valid.few_nodes in
      let used = few sort in
      (omega (arith, id, used), omega (arith, from, nodes), omega (arith, to, nodes))
    where
      few : (s : ItemSort) → used_of g s ≤ 4194304
      few sorts.Node = let n = valid.few_nodes in omega (arith, n)
      few sorts.Arc = let n = valid.few_arcs in omega (arith, n)

  pub told_bounded : (id : ℕ) → IsLive g sort id → IsInBounds (fact_at g sort id)
  told_bounded id live = bounded (fact_at g sort id)
      (ap (fact_of g sort) (live_id id live) ∙ live_told id live)

  pub facts_live : listed.IsLive (facts g sort)
  facts_live = record {
    rising = range_rises (fact_of g sort) (fact_of-id g sort) 0 (used_of g sort);
    bounded = all_in IsInBounds (facts g sort)
        (λ fact at. bounded fact ((facts_are_whole g sort fact valid).0 at));
  }

  -- nothing is told of an id that none of them has
  pub none_lacks : (id : ℕ) → fact_of g sort id ≡ None → Lacks fact_id id (facts g sort)
  none_lacks id none = lacks_all id (facts g sort) (all_in (λ f. f.id ≢ id) (facts g sort)
      (λ fact at same.
      let told = (facts_are_whole g sort fact valid).0 at in
      none_some (sym (ap (fact_of g sort) same ∙ none) ∙ told)))
    where
      none_some : {f : Fact} → None ≡ Some f → ⊥
      none_some e = cc
