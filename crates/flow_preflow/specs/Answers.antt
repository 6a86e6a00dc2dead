-- Lists read as a largest flow with its cut.
use Rattle.std.specs.Prelude.{◌≡◌, ℕ, Bool, false, ℤ, pos, List, length}
use Rattle.plain_certificates.specs.Cuts.{IsCut}
use Rattle.plain_certificates.specs.Numbered.{Numbered, net}
use Rattle.plain_certificates.specs.Rooms.{as_flow}
use Rattle.plain_certificates.specs.Tables.{at}
use Rattle.push_flow.specs.Search.{side_of}

-- a flow for each arc, and for each node whether it is on the side of the cut
pub record IsAnswer (g : Numbered) (cap : List ℤ) (s t : ℕ) (value : ℤ) (flow : List ℤ)
    (side : List Bool) : Type 0 where
  pub flow_all : length flow ≡ g.arcs
  pub side_all : length side ≡ g.nodes
  pub cut : IsCut g (at (pos 0) cap) s t (at (pos 0) flow) (at false side) value

-- the same without a sign, where the side has the nodes whose height is the number of nodes
pub record IsFound (g : Numbered) (cap : List ℕ) (s t : ℕ) (flow height : List ℕ) : Type 0 where
  pub flow_all : length flow ≡ g.arcs
  pub height_all : length height ≡ g.nodes
  pub cut : IsCut g (as_flow (at 0 cap)) s t (as_flow (at 0 flow)) (side_of g.nodes (at 0 height))
      (net g (as_flow (at 0 flow)) s)
