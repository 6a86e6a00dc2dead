-- Once the added arcs are out, no arc is at an added node.
use Rattle.std.proofs.Common.{◌≡◌, ℕ, sym, ap, subst, ◌∙◌, is_some, option_map}
use Rattle.std.specs.Option.{option_map_or}
use Rattle.std.specs.FinMap as fin
use Rattle.base_items.specs.declared.items.Fact.{Fact}
use Rattle.base_items.specs.declared.items.ItemSort.TheVariants as sorts
use Rattle.plain_digraph.specs.Digraph.{Digraph}
use Rattle.plain_digraph.specs.Items.{IsLive, fact_of, out_arcs, in_arcs}
use Rattle.plain_digraph.specs.Copies.{copy_of, added}
use Rattle.plain_digraph.specs.Valid.{IsValid}
use Rattle.plain_digraph.specs.RestoreLaws.{ArcsAreCopied, AddedNodesAreBare}
use Rattle.plain_digraph.proofs.Orders.{out_arc_own, in_arc_own}
use Rattle.plain_digraph.proofs.Changes.{live_ends}
use Rattle.plain_digraph.proofs.Listed.{no_front}
use Rattle.plain_digraph.proofs.SameLists.{ends_told}
use Rattle.plain_digraph.proofs.Restored.{arcs_erased, copied_again, placed_g, arcs_placed}

pub arcs_are_copied : ArcsAreCopied
arcs_are_copied c g valid_c valid_g keeps valid_placed id =
    let placed : Digraph = placed_g c g valid_c valid_g keeps in
    arcs_erased (added (copy_of c) placed sorts.Arc) placed id
    ∙ copied_again c placed sorts.Arc id valid_c valid_placed
    (arcs_placed c g valid_c valid_g keeps id)

-- the same is told of the arcs, so the same ends are
same_ends : (c g : Digraph) (arc : ℕ) → IsValid c → IsValid g
    → fact_of g sorts.Arc arc ≡ fact_of c sorts.Arc arc
    → fin.get g.ends arc ≡ fin.get c.ends arc
same_ends c g arc valid_c valid_g same =
    ends_told g arc valid_g ∙ ap (option_map (λ (f : Fact). (f.from, f.to))) same
    ∙ sym (ends_told c arc valid_c)

pub added_nodes_are_bare : AddedNodesAreBare
added_nodes_are_bare c g node valid_c valid_g same not_copied = (
  no_front (out_arcs g node) (λ arc at.
      let own = out_arc_own g node arc at in
      let ends = same_ends c g arc valid_c valid_g (same arc) in
      let live : IsLive c sorts.Arc arc = sym (ap is_some ends) ∙ own.0 in
      not_copied (subst (IsLive c sorts.Node)
      (sym (ap (λ o. option_map_or (λ (e : ℕ × ℕ). e.0) o 0) ends) ∙ own.1)
      (live_ends c arc valid_c live).0)),
  no_front (in_arcs g node) (λ arc at.
      let own = in_arc_own g node arc at in
      let ends = same_ends c g arc valid_c valid_g (same arc) in
      let live : IsLive c sorts.Arc arc = sym (ap is_some ends) ∙ own.0 in
      not_copied (subst (IsLive c sorts.Node)
      (sym (ap (λ o. option_map_or (λ (e : ℕ × ℕ). e.1) o 0) ends) ∙ own.1)
      (live_ends c arc valid_c live).1)),
)
