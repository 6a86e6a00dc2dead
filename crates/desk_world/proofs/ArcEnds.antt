-- The ends of a live arc, as its fact tells them.
use Rattle.std.proofs.Common.{◌≡◌, ℕ, sym, ap, Some, None, ◌∙◌}
use Rattle.std.specs.Option.{option_map_or}
use Rattle.std.specs.FinMap as fin
use Rattle.std.proofs.lemmas.Option.{none-some}
use Rattle.base_items.specs.declared.items.Fact.{Fact}
use Rattle.base_items.specs.declared.items.ItemSort.TheVariants.{Node, Arc}
use Rattle.plain_digraph.specs.Digraph.{Digraph}
use Rattle.plain_digraph.specs.Items.{IsLive, fact_of, stamp_of, source_of, target_of}
use Rattle.plain_digraph.specs.Valid.{IsValid}
use Rattle.plain_digraph.proofs.Undone.{told_parts}
use Rattle.alter_graph.specs.Present.{fact_at}
use Rattle.alter_graph.proofs.Listing.{live_told}

module _ (g : Digraph) (id : ℕ) where
  -- a live arc is told of
  pub told_there : IsValid g → IsLive g Arc id → fact_of g Arc id ≡ None → ⊥
  told_there valid live told =
      none-some (fact_at g Arc id) (sym told ∙ live_told g Arc valid id live)

  module _ (fact : Fact) (told : fact_of g Arc id ≡ Some fact) where
    pub ends_told : fin.get g.ends id ≡ Some (fact.from, fact.to)
    ends_told =
        (told_parts id (fin.get g.ends id) (stamp_of g.by_source id) (stamp_of g.by_target id) fact
        told).1

    pub source_told : fact.from ≡ source_of g id
    source_told = sym (ap (λ e. option_map_or (λ p. p.0) e 0) ends_told)

    pub target_told : fact.to ≡ target_of g id
    target_told = sym (ap (λ e. option_map_or (λ p. p.1) e 0) ends_told)

    pub ends_live : IsValid g → IsLive g Node fact.from × IsLive g Node fact.to
    ends_live valid = valid.ends_live id fact.from fact.to ends_told
