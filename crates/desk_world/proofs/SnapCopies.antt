-- The copy that facts tell of.
use Rattle.std.proofs.Common.{◌≡◌, ℕ, true, false, cond, List, [], ◌∷◌, map, Option, Some}
use Rattle.std.proofs.Common.{None, refl, sym, ap, ◌∙◌, inl, inr}
use Rattle.std.specs.Prelude.{option_map}
use Rattle.std.specs.Cmp.{nat_cmp_total}
use Rattle.std.specs.Ordering.{nat_cmp}
use Rattle.std.specs.FinMap as fin
use Rattle.std.proofs.lemmas.Bool.{cases_eq, eq-eqb, ne_eqb}
use Rattle.base_items.specs.declared.items.Fact.{Fact}
use Rattle.base_items.specs.declared.items.ItemSort.{ItemSort}
use Rattle.base_items.specs.declared.items.ItemSort.TheVariants as sorts
use Rattle.plain_digraph.specs.Copies.{copy_of, ids_in}
use Rattle.plain_digraph.specs.Digraph.{Digraph}
use Rattle.plain_digraph.specs.Facts.{fact_id}
use Rattle.plain_digraph.specs.Items.{facts, fact_of}
use Rattle.plain_digraph.specs.Lists.{AllOf, has}
use Rattle.plain_digraph.specs.Valid.{IsValid}
use Rattle.plain_digraph.proofs.Keys.{ties_same, ties_other}
use Rattle.plain_digraph.proofs.SameLists.{lists_are_falling, ends_told, facts_are_whole}
use Rattle.observe_core.specs.Items.{has_id}
use Rattle.alter_graph.proofs.Listing.{all_in, live_has, told_live}
use Rattle.desk_world.specs.Copies.{copy_of_facts}
use Rattle.desk_world.proofs.SnapsFollow.{has_falling}

-- ---- its ids

-- the facts of the sort
abbrev pub of_sort : ItemSort → List Fact → List Fact → List Fact
of_sort sorts.Node nodes arcs = nodes
of_sort sorts.Arc nodes arcs = arcs

pub copy_has : (sort : ItemSort) (nodes arcs : List Fact) (i : ℕ)
    → has (ids_in (copy_of_facts nodes arcs) sort) i
    ≡ has_id fact_id i (of_sort sort nodes arcs)
copy_has sorts.Node nodes arcs i = has_falling nodes i
copy_has sorts.Arc nodes arcs i = has_falling arcs i

-- ---- a copy of what is there

abbrev ends_of : Fact → ℕ × ℕ
ends_of f = (f.from, f.to)

abbrev entry_of : Fact → ℕ × (ℕ × ℕ)
entry_of f = (f.id, ends_of f)

-- what stands at an id is what is told of it
found : (told : ℕ → Option Fact) (q : ℕ) (fs : List Fact)
    → AllOf (λ f. told f.id ≡ Some f) fs → fin.find nat_cmp q (map entry_of fs)
    ≡ cond (has_id fact_id q fs) (option_map ends_of (told q)) None
found told q [] all = refl
found told q (f ∷ fs) all =
    let rest = found told q fs all.1 in
    elim (cases_eq q f.id) [
      | inl same ↦
          ap (λ t. cond t (Some (ends_of f)) (fin.find nat_cmp q (map entry_of fs)))
          (ties_same q f.id same)
          ∙ sym (ap (option_map ends_of) (ap told same ∙ all.0))
          ∙ sym (ap (λ b. cond (cond b true (has_id fact_id q fs)) (option_map ends_of (told q))
          None) (eq-eqb f.id q (sym same)))
      | inr other ↦
          ap (λ t. cond t (Some (ends_of f)) (fin.find nat_cmp q (map entry_of fs)))
          (ties_other q f.id other)
          ∙ rest
          ∙ sym (ap (λ b. cond (cond b true (has_id fact_id q fs)) (option_map ends_of (told q))
          None) (ne_eqb f.id q (λ is. other (sym is))))
    ]

module _ (g : Digraph) (valid : IsValid g) where
  abbrev arcs_now : List Fact
  arcs_now = facts g sorts.Arc

  ends_found : (q : ℕ) → fin.find nat_cmp q (map entry_of arcs_now)
      ≡ option_map ends_of (fact_of g sorts.Arc q)
  ends_found q =
      found (fact_of g sorts.Arc) q arcs_now
      (all_in (λ f. fact_of g sorts.Arc f.id ≡ Some f) arcs_now
      (λ f there. (facts_are_whole g sorts.Arc f valid).0 there))
      ∙ elim (fact_of g sorts.Arc q) as (λ o. fact_of g sorts.Arc q ≡ o
      → cond (has_id fact_id q arcs_now) (option_map ends_of o) None ≡ option_map ends_of o) [
        | Some f ↦ λ e.
            ap (λ b. cond b (Some (ends_of f)) None)
            (live_has g sorts.Arc valid q (told_live g sorts.Arc valid q f e))
        | None ↦ λ e.
            elim (has_id fact_id q arcs_now) as (λ b.
            cond b (option_map ends_of None) None ≡ option_map ends_of None) [
              | true ↦ refl
              | false ↦ refl
            ]
      ] refl

  pub copy_now : copy_of_facts (facts g sorts.Node) arcs_now ≡ copy_of g
  copy_now =
      let lists = lists_are_falling g valid in
      let ends = fin.same_map nat_cmp_total fin.nat_cmp-IsAntisymmetric
      (fin.from_entries (map entry_of arcs_now)) g.ends
      (λ q. fin.get-from_entries nat_cmp_total (map entry_of arcs_now) q ∙ ends_found q
      ∙ sym (ends_told g q valid)) in
      λ i. record {
        nodes = sym lists.nodes i;
        ends = ends i;
        by_source = sym lists.by_source i;
        by_target = sym lists.by_target i;
      }
