-- One run of the engine over a task that is ready, as the calls make it.
use Rattle.std.proofs.Common.{◌≡◌, ℕ, ◌<◌, Bool, true, false, eqb, ℤ, pos, List, length}
use Rattle.std.proofs.Common.{map, get_or, replicate, sym, ◌∙◌, ap, subst, arith}
use Rattle.std.proofs.Math.ListN.{get_or-map}
use Rattle.std.proofs.lemmas.Bool.Decides.{nat_tests}
use Rattle.std.proofs.lemmas.List.{get_or-replicate}
use Rattle.plain_certificates.specs.Numbered.{Numbered}
use Rattle.plain_certificates.specs.Tables.{at}
use Rattle.push_flow.specs.declared.push.Ends.{Ends}
use Rattle.push_flow.specs.declared.push.Spoke.{Spoke}
use Rattle.push_flow.specs.Search.{side_of}
use Rattle.push_flow.specs.Slices.{task_of}
use Rattle.flow_loads.proofs.Loading.{settled_in}
use Rattle.flow_loads.specs.declared.loads.Load.{Load}
use Rattle.flow_loads.specs.Loads.{HasSettled, IsLoaded}
use Rattle.flow_rows.specs.Network.{IsNetwork}
use Rattle.task_bounds.specs.declared.plan.Plan.{Plan}
use Rattle.task_bounds.specs.Plan.{IsReady}
use Rattle.flow_circulate.proofs.Answered.{begun_loaded, begun_settled, first_same}
use Rattle.flow_circulate.specs.Parts.{IsFirst}
use Rattle.flow_circulate.specs.Runs.{HasRun}

-- the nodes at the top, as a list
pub top_side : (n : ℕ) (heights : List ℕ) → 0 < n
    → at false (map (λ h. eqb h n) heights) ≡ side_of n (at 0 heights)
top_side n heights some =
    let top = λ (h : ℕ). eqb h n in
    let off : eqb 0 n ≡ false = grind (arith, nat_tests, some) in
    (λ i k. (ap (λ d. get_or (map top heights) k d) (sym off) ∙ get_or-map top heights k 0) i)

pub all_at : (n : ℕ) (nodes : List Bool) → nodes ≡ replicate n true → (v : ℕ) → v < n
    → at false nodes v ≡ true
all_at n nodes is v l = ap (λ xs. get_or xs v false) is ∙ get_or-replicate n v true false l

module _ (g : Numbered) (plan : Plan) (p : IsReady g 0 plan) (values : List ℤ)
    (values_are : values ≡ plan.excess.items) (count : ℕ) (count_is : count ≡ g.arcs) (begun : Load)
    (begins : IsFirst (length values) count (at (pos 0) values) begun) where
  first_is : IsFirst g.nodes g.arcs (at (pos 0) plan.excess.items) begun
  first_is = first_same g.nodes g.arcs count plan.excess.items values begun values_are p.excess_all
      count_is begins

  pub excess_begun : length begun.excess.items ≡ g.nodes
  excess_begun = first_is.sends.all

  -- where nothing has to be sent, the run is over as it begins
  pub has_rested : ((v : ℕ) → v < g.nodes → at 0 begun.excess.items v ≡ 0) → HasRun g plan begun
  has_rested none = record {
    begun = begun;
    first = first_is;
    settled = begun_settled g plan p begun first_is none;
  }

  module _ (ends : List Ends) (start : List ℕ) (row : List Spoke)
      (net' : IsNetwork g ends start row) (caps : List ℕ) (same : caps ≡ plan.caps.items) where
    pub first_run : IsLoaded ends start row caps begun
    first_run =
        subst (λ xs. IsLoaded ends start row xs begun) (sym same)
        (begun_loaded g plan p begun ends start row first_is net')

    pub has_run : (ended : Load)
        → HasSettled (task_of (length begun.height.items) ends caps) begun ended
        → HasRun g plan ended
    has_run ended ran = record {
      begun = begun;
      first = first_is;
      settled = settled_in g ends start row net' plan.caps.items (length begun.height.items)
          first_is.height_all begun ended
          (subst (λ xs. HasSettled (task_of (length begun.height.items) ends xs) begun ended) same
          ran);
    }

-- a value for each arc and each node is left
module _ (g : Numbered) (plan : Plan) (ended : Load) (r : HasRun g plan ended) where
  pub excess_long : length ended.excess.items ≡ g.nodes
  excess_long = r.settled.excess_all ∙ r.first.sends.all

  pub want_long : length ended.want.items ≡ g.nodes
  want_long = r.settled.want_all ∙ r.first.takes.all

  pub height_long : length ended.height.items ≡ g.nodes
  height_long = r.settled.height_all ∙ r.first.height_all

  pub flow_long : length ended.flow.items ≡ g.arcs
  flow_long = r.settled.flow_all ∙ r.first.flow_all
