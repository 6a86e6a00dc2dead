-- The degree of a node is how many facts of arcs have it as their end.
use Rattle.std.proofs.Common.{◌≡◌, ℕ, ◌+◌, Bool, true, false, cond, List, [], ◌∷◌, ◌++◌, length}
use Rattle.std.proofs.Common.{filter, refl, sym, ap, Option, Some, None, ◌∙◌, is_some, arith}
use Rattle.std.proofs.Common.{count_by, IsPermutation}
use Rattle.std.specs.Prelude.{◌==◌, if◌then◌else◌}
use Rattle.std.specs.FinMap as fin
use Rattle.std.specs.List.{filter_map, cons_option, range_with_len}
use Rattle.std.specs.Option.{option_map_or}
use Rattle.std.proofs.lemmas.Bool.{true≢false}
use Rattle.std.proofs.lemmas.List.Sums.{sum_by-cons}
use Rattle.base_items.specs.declared.items.Fact.{Fact}
use Rattle.base_items.specs.declared.items.ItemSort.TheVariants.{Arc}
use Rattle.script_words.specs.declared.commands.Direction.{Direction}
use Rattle.script_words.specs.declared.commands.Direction.TheVariants.{In, Out}
use Rattle.plain_digraph.specs.Digraph.{Digraph}
use Rattle.plain_digraph.specs.Items.{ids, facts, fact_of}
use Rattle.plain_digraph.specs.Valid.{IsValid}
use Rattle.plain_digraph.proofs.Keys.{keys-has}
use Rattle.plain_digraph.proofs.Live.{fact_of-has}
use Rattle.plain_digraph.proofs.Shares.{free_not_live}
use Rattle.plain_digraph.proofs.Tallies.{tally, one_if, tally-IsPermutation, tally-append}
use Rattle.plain_digraph.proofs.Tallies.{length-filter-tally, tally_none}
use Rattle.observe_core.specs.Facts.{end_of}
use Rattle.plain_world.specs.Replies.{degree_of}
use Rattle.desk_world.specs.Claims.{is_out}
use Rattle.desk_world.proofs.ArcEnds.{ends_told}

module _ (g : Digraph) (valid : IsValid g) (out : Bool) (node : ℕ) where
  -- whether the arc has the node as this end
  abbrev at_node : ℕ → Bool
  at_node arc =
      option_map_or (λ ends. (if out then ends.0 else ends.1) == node) (fin.get g.ends arc) false

  abbrev ends_here : Fact → Bool
  ends_here fact = end_of out fact == node

  not_live : (arc : ℕ) → is_some (fin.get g.ends arc) ≡ false → at_node arc ≡ false
  not_live arc none = by (fin.get g.ends arc) none
    where
      by : (o : Option (ℕ × ℕ)) → is_some o ≡ false
          → option_map_or (λ ends. (if out then ends.0 else ends.1) == node) o false ≡ false
      by None none = refl
      by (Some ends) none = absurd (true≢false none)

  -- facts count as the arcs do of which something is told
  facts_counted : (arcs : List ℕ)
      → count_by ends_here (filter_map (fact_of g Arc) arcs) ≡ tally at_node arcs
  facts_counted [] = refl
  facts_counted (arc ∷ arcs) =
      let rest = facts_counted arcs in
      let more : List Fact = filter_map (fact_of g Arc) arcs in
      elim (fact_of g Arc arc) as (λ o. fact_of g Arc arc ≡ o
      → count_by ends_here (cons_option o more) ≡ one_if (at_node arc) + tally at_node arcs) [
        | None ↦ λ told.
            let none : is_some (fin.get g.ends arc) ≡ false =
            keys-has g.ends arc ∙ sym (fact_of-has g Arc arc valid) ∙ ap is_some told in
            let here : one_if (at_node arc) ≡ 0 = ap one_if (not_live arc none) in
            omega (arith, rest, here)
        | Some fact ↦ λ told.
            let here : at_node arc ≡ ends_here fact =
            ap (λ o. option_map_or (λ ends. (if out then ends.0 else ends.1) == node) o false)
            (ends_told g arc fact told) ∙ ended fact in
            let one : one_if (at_node arc) ≡ cond (ends_here fact) 1 0 =
            ap one_if here ∙ counted (ends_here fact) in
            let all = sum_by-cons (λ f. cond (ends_here f) 1 0) fact more in
            omega (arith, rest, one, all)
      ] refl
    where
      ended : (fact : Fact)
          → ((if out then fact.from else fact.to) == node) ≡ ends_here fact
      ended fact = refl

      counted : (b : Bool) → one_if b ≡ cond b 1 0
      counted true = refl
      counted false = refl

  -- and so do the arcs of either list
  pub arcs_counted : (arcs : List ℕ) → IsPermutation arcs (fin.keys g.ends)
      → count_by ends_here (facts g Arc) ≡ length (filter at_node arcs)
  arcs_counted arcs whole =
      let range = range_with_len 0 g.used_arcs in
      let live = fin.keys g.ends in
      let all = facts_counted range in
      let split : tally at_node range ≡ tally at_node live + tally at_node g.free_arcs =
      tally-IsPermutation at_node (live ++ g.free_arcs) range valid.arc_ids
      ∙ tally-append at_node live g.free_arcs in
      let none : tally at_node g.free_arcs ≡ 0 =
      tally_none at_node g.free_arcs (λ arc at. not_live arc (keys-has g.ends arc
      ∙ free_not_live live g.free_arcs g.used_arcs arc valid.arc_ids at)) in
      let same : tally at_node live ≡ tally at_node arcs =
      tally-IsPermutation at_node arcs live whole in
      let size = length-filter-tally at_node arcs in
      omega (arith, all, split, none, same, size)

pub degree_told : (g : Digraph) (way : Direction) (node : ℕ) → IsValid g
    → count_by (λ fact. end_of (is_out way) fact == node) (facts g Arc) ≡ degree_of g way node
degree_told g Out node valid = arcs_counted g valid true node (ids g.by_source) valid.sources_whole
degree_told g In node valid = arcs_counted g valid false node (ids g.by_target) valid.targets_whole
