-- What contracts see of a numbered digraph.
use Rattle.std.specs.Prelude.{refl, ◌≡◌, ℕ, ◌==◌, true, List, All, map, filter, length}
use Rattle.std.specs.List.{range_with_len}
use Rattle.std.specs.Coded.{Coded, code_by, coded×, coded_ℕ, coded_list}
use Rattle.base_items.specs.declared.items.Fact.{Fact}
use Rattle.plain_digraph.specs.Lists.{has}
use Rattle.plain_certificates.specs.Numbered.{Numbered}
use Rattle.plain_certificates.specs.Tables.{at, place_of}

-- the item of each node and of each arc, and the number of each arc's source and of its target
pub record FixedOf : Type 0 where
  pub nodes : List ℕ
  pub arcs : List ℕ
  pub from : List ℕ
  pub to : List ℕ

-- how a value of these four lists is stored
abbrev pub fixed_code : Coded FixedOf
fixed_code =
    code_by
    (List ℕ × (List ℕ × (List ℕ × List ℕ)))
    (coded× (coded_list coded_ℕ)
    (coded× (coded_list coded_ℕ) (coded× (coded_list coded_ℕ) (coded_list coded_ℕ))))
    (λ f. (f.nodes, (f.arcs, (f.from, f.to))))
    (λ p. record { nodes = p.0; arcs = p.1.0; from = p.1.1.0; to = p.1.1.1 })
    (λ _. refl)

-- the digraph by numbers
abbrev pub graph_of : FixedOf → Numbered
graph_of f =
    record { nodes = length f.nodes; arcs = length f.arcs; from = at 0 f.from; to = at 0 f.to }

-- of the arcs by number, those with this end at the node, by rising number
abbrev pub row_of : (ℕ → ℕ) → ℕ → ℕ → List ℕ
row_of end arcs node = filter (λ arc. end arc == node) (range_with_len 0 arcs)

-- the ends of each arc are among the nodes
abbrev pub HaveEnds : List ℕ → List Fact → Type 0
HaveEnds nodes arcs =
    All (λ fact. (has nodes fact.from ≡ true) × (has nodes fact.to ≡ true)) arcs

-- the nodes and arcs given, numbered in the given order
abbrev pub fixed_from : List ℕ → List Fact → FixedOf
fixed_from nodes arcs = record {
  nodes = nodes;
  arcs = map (λ fact. fact.id) arcs;
  from = map (λ fact. place_of nodes fact.from) arcs;
  to = map (λ fact. place_of nodes fact.to) arcs;
}
