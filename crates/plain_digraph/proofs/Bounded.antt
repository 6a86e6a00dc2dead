-- The facts of a valid digraph are in bounds.
use Rattle.std.proofs.Common.{◌≡◌, ℕ, ◌<◌, Some, None, Option, option_map, sym, ap, ◌∙◌, is_some}
use Rattle.std.proofs.Common.{arith}
use Rattle.std.specs.FinMap as fin
use Rattle.std.proofs.lemmas.Option.{none-some, same_Some}
use Rattle.base_items.specs.declared.items.Fact.{Fact}
use Rattle.base_items.specs.declared.items.ItemSort.{ItemSort}
use Rattle.base_items.specs.declared.items.ItemSort.TheVariants as sorts
use Rattle.plain_digraph.specs.Digraph.{Digraph}
use Rattle.plain_digraph.specs.Items.{stamp_of, fact_of, node_fact, used_of}
use Rattle.plain_digraph.specs.Valid.{IsValid}
use Rattle.plain_digraph.specs.BoundLaws.{FactsAreBounded, MovedFactsDiffer}
use Rattle.plain_digraph.proofs.Rows.{fact_of-id}
use Rattle.plain_digraph.proofs.Live.{fact_of-has, live_listed, listed_below}
use Rattle.plain_digraph.proofs.Places.{stamp_below}
use Rattle.plain_digraph.proofs.Undone.{told_parts}

-- a told id was used
id_used : (g : Digraph) (sort : ItemSort) (id : ℕ) (fact : Fact) → IsValid g
    → fact_of g sort id ≡ Some fact → id < used_of g sort
id_used g sort id fact valid e =
    listed_below g sort id valid (sym (fact_of-has g sort id valid) ∙ ap is_some e)

-- a node's fact, by its stamp
node_told : (id : ℕ) (at : Option ℕ) (fact : Fact) → option_map (node_fact id) at ≡ Some fact
    → (fact ≡ node_fact id fact.from_at) × (at ≡ Some fact.from_at)
node_told id None fact e = absurd (none-some fact e)
node_told id (Some at) fact e =
    let is : node_fact id at ≡ fact = same_Some (node_fact id at) fact e in
    let stamp : at ≡ fact.from_at = ap (λ (f : Fact). f.from_at) is in
    (sym is ∙ ap (node_fact id) stamp, ap Some stamp)

pub facts_are_bounded : FactsAreBounded
facts_are_bounded g sorts.Node id fact valid e =
    let told = node_told id (stamp_of g.nodes id) fact e in
    let used = id_used g sorts.Node id fact valid e in
    let at = stamp_below g.stamps g.nodes id fact.from_at valid.nodes_fall told.1 in
    let is = told.0 in
    let own = ap (λ (f : Fact). f.id) is in
    let from = ap (λ (f : Fact). f.from) is in
    let to = ap (λ (f : Fact). f.to) is in
    let to_at = ap (λ (f : Fact). f.to_at) is in
    record {
      id = omega (arith, own, used);
      from = omega (arith, from, used);
      to = omega (arith, to, used);
      from_at = at;
      to_at = omega (arith, to_at, at);
    }
facts_are_bounded g sorts.Arc id fact valid e =
    let parts = told_parts id (fin.get g.ends id) (stamp_of g.by_source id)
    (stamp_of g.by_target id) fact e in
    let live = valid.ends_live id fact.from fact.to parts.1 in
    let used = id_used g sorts.Arc id fact valid e in
    let own = fact_of-id g sorts.Arc id fact e in
    record {
      id = omega (arith, own, used);
      from = listed_below g sorts.Node fact.from valid (live_listed g sorts.Node fact.from live.0);
      to = listed_below g sorts.Node fact.to valid (live_listed g sorts.Node fact.to live.1);
      from_at = stamp_below g.stamps g.by_source id fact.from_at valid.sources_fall parts.2;
      to_at = stamp_below g.stamps g.by_target id fact.to_at valid.targets_fall parts.3;
    }

pub moved_facts_differ : MovedFactsDiffer
moved_facts_differ g fact node valid told =
    let bounds = facts_are_bounded g sorts.Arc fact.id fact valid told in
    let from_at = bounds.from_at in
    let to_at = bounds.to_at in (
      λ e. let same = ap (λ (f : Fact). f.from_at) e in omega (arith, same, from_at),
      λ e. let same = ap (λ (f : Fact). f.to_at) e in omega (arith, same, to_at),
      λ e. let same = ap (λ (f : Fact). f.from_at) e in omega (arith, same, from_at),
    )
