-- A digraph that nobody observes, and what items make of a blank world over it.
use Rattle.std.proofs.Common.{◌≡◌, ℕ, ◌+◌, ◌<◌, List, [], ◌∷◌, ◌++◌, refl, sym, ap, ◌∙◌, subst}
use Rattle.std.proofs.Common.{take, length, get_or, arith}
use Rattle.std.proofs.Common.{add-one, false, Result, Ok, Err, ◌≤◌}
use Rattle.std.specs.Prelude.{is_err, OnOk}
use Rattle.std.proofs.Math.Seq.{take-suc, take-length}
use Rattle.lgf_file.specs.Rows.{Cells}
use Rattle.lgf_file.specs.declared.documents.Link.{Link}
use Rattle.plain_digraph.specs.Digraph.{Digraph}
use Rattle.plain_digraph.specs.PlainSteps.{AddNode, AddArc, after_step}
use Rattle.plain_digraph.specs.Valid.{IsValid}
use Rattle.plain_digraph.specs.Alterations.{single}
use Rattle.notify_chain.specs.Seats.{SeatSeen, Each, Became}
use Rattle.alter_graph.specs.Chains.{ChainSeen, ChainsSeen, no_chain, no_chains, IsSameChain}
use Rattle.alter_graph.specs.Chains.{IsSameChains}
use Rattle.alter_graph.specs.State.{State}
use Rattle.alter_graph.specs.Steps.{took}
use Rattle.alter_graph.specs.Outcome.{Happens}
use Rattle.plain_world.specs.World.{World}
use Rattle.plain_world.specs.Following.{follow}
use Rattle.desk_world.specs.Loading.{with_nodes, with_arcs}
use Rattle.desk_world.specs.Blank.{IsBlank, NodesLead, ArcsLead}
use Rattle.desk_world.proofs.Blank.{blank_node, blank_arc}

-- ---- nobody comes by an addition

no_seats : (new : List SeatSeen) → Each (Became (λ s. s)) [] new → new ≡ []
no_seats [] each = refl
no_seats (s ∷ ss) each = absurd each

same_chain : (new : ChainSeen) → IsSameChain no_chain new → new ≡ no_chain
same_chain new same =
    let seats = no_seats new.seats same.seats in
    let left = same.left in
    λ i. record { seats = seats i; left = left i }

same_chains : (new : ChainsSeen) → IsSameChains no_chains new → new ≡ no_chains
same_chains new same =
    let nodes = same_chain new.nodes same.nodes in
    let arcs = same_chain new.arcs same.arcs in
    let snaps = same.snaps in
    λ i. record { nodes = nodes i; arcs = arcs i; snaps = snaps i }

-- a node more
pub node_unseen : (old new : State) → old.chains ≡ no_chains → Happens (single AddNode) old new
    → new.chains ≡ no_chains
node_unseen old new none happens =
    let took_chains : (took AddNode old).chains ≡ no_chains =
    ap (λ c. (took AddNode (record { graph = old.graph; chains = c })).chains) none in
    same_chains new.chains
    (subst (λ c. IsSameChains c new.chains) took_chains happens.goes.took.chains)

-- an arc more
pub arc_unseen : (old new : State) (from to : ℕ) → old.chains ≡ no_chains
    → Happens (single (AddArc from to)) old new → new.chains ≡ no_chains
arc_unseen old new from to none happens =
    let took_chains : (took (AddArc from to) old).chains ≡ no_chains =
    ap (λ c. (took (AddArc from to) (record { graph = old.graph; chains = c })).chains) none in
    same_chains new.chains
    (subst (λ c. IsSameChains c new.chains) took_chains happens.goes.took.chains)

-- ---- one item more

with_nodes-push : (rows : List Cells) (world : World) (cells : Cells)
    → with_nodes world (rows ++ cells ∷ []) ≡ follow (with_nodes world rows) AddNode
with_nodes-push [] world cells = refl
with_nodes-push (other ∷ rows) world cells = with_nodes-push rows (follow world AddNode) cells

pub nodes_lead : (rows : List Cells) (cells : Cells) (g h k : Digraph) → NodesLead rows g h
    → IsValid h → k ≡ after_step h AddNode → NodesLead (rows ++ cells ∷ []) g k
nodes_lead rows cells g h k lead valid is = λ names arc_names pool attributes world at blank.
    let was = lead names arc_names pool attributes world at blank in
    let here = with_nodes world rows in
    let more = with_nodes-push rows world cells in
    let next = blank_node names arc_names pool attributes here was.1
    (subst IsValid (sym was.0) valid) in (
      ap (λ (w : World). w.graph) more ∙ ap (λ d. after_step d AddNode) was.0 ∙ sym is,
      subst (IsBlank names arc_names pool attributes) (sym more) next,
    )

with_arcs-push : (links : List Link) (world : World) (link : Link)
    → with_arcs world (links ++ link ∷ [])
    ≡ follow (with_arcs world links) (AddArc link.from link.to)
with_arcs-push [] world link = refl
with_arcs-push (other ∷ links) world link =
    with_arcs-push links (follow world (AddArc other.from other.to)) link

pub arcs_lead : (links : List Link) (link : Link) (g h k : Digraph) → ArcsLead links g h
    → IsValid h → k ≡ after_step h (AddArc link.from link.to)
    → ArcsLead (links ++ link ∷ []) g k
arcs_lead links link g h k lead valid is = λ names arc_names pool attributes world at blank.
    let was = lead names arc_names pool attributes world at blank in
    let here = with_arcs world links in
    let step = AddArc link.from link.to in
    let more = with_arcs-push links world link in
    let next = blank_arc names arc_names pool attributes here link.from link.to was.1
    (subst IsValid (sym was.0) valid) in (
      ap (λ (w : World). w.graph) more ∙ ap (λ d. after_step d step) was.0 ∙ sym is,
      subst (IsBlank names arc_names pool attributes) (sym more) next,
    )

-- none at all
pub nodes_start : (g : Digraph) → NodesLead [] g g
nodes_start g = λ names arc_names pool attributes world at blank. (at, blank)

pub arcs_start : (g : Digraph) → ArcsLead [] g g
arcs_start g = λ names arc_names pool attributes world at blank. (at, blank)

-- ---- loops

-- what is said of an `Ok`, at one
pub went : {T E P : Type 0} (r : Result T E) → is_err r ≡ false → OnOk r P → P
went (Ok x) e p = p
went (Err y) e p = absurd (cc)

-- the items before the next, and those up to it
pub one_more : {X : Type 0} (xs : List X) (done : ℕ) (x : X) → done < length xs
    → take (done + 1) xs ≡ take done xs ++ get_or xs done x ∷ []
one_more xs done x below = ap (λ n. take n xs) (add-one done) ∙ take-suc xs done x below

-- all of them
pub all_done : {X : Type 0} (xs : List X) (done : ℕ) → done ≤ length xs → length xs ≤ done
    → take done xs ≡ xs
all_done xs done low high = ap (λ n. take n xs) (omega (arith, low, high)) ∙ take-length xs
