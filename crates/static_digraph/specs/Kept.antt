-- What is always so of the arrays of a numbered digraph. No public clause cites this module.
use Rattle.std.specs.Prelude.{◌≡◌, ℕ, ◌<◌, ◌≤◌, List, length, All}
use Rattle.plain_certificates.specs.Tables.{at}
use Rattle.static_digraph.specs.Fixed.{FixedOf}
use Rattle.static_digraph.specs.Rows.{AreRows}

-- where the rows of an end begin, and all of them one behind the other
pub record RowsSeen : Type 0 where
  pub start : List ℕ
  pub arcs : List ℕ

-- sizes within the limits, ends that are nodes, and the rows by source and by target
pub record IsKept (f : FixedOf) (out into : RowsSeen) : Type 0 where
  pub few_nodes : length f.nodes ≤ 1048576
  pub few_arcs : length f.arcs ≤ 4194304
  pub sources : length f.from ≡ length f.arcs
  pub targets : length f.to ≡ length f.arcs
  pub source_nodes : All (λ node. node < length f.nodes) f.from
  pub target_nodes : All (λ node. node < length f.nodes) f.to
  pub by_source : AreRows (length f.nodes) (length f.arcs) (at 0 f.from) out.start out.arcs
  pub by_target : AreRows (length f.nodes) (length f.arcs) (at 0 f.to) into.start into.arcs
