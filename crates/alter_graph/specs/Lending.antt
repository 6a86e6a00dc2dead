-- What the chains, and an alterable digraph, end as where a `&mut` to an observer is returned.
use Rattle.std.specs.Prelude.{◌≡◌, ℕ, List, Option, Some}
use Rattle.std.specs.Borrow.{LendsIf, Fml, RattleType, MutBor}
use Rattle.base_items.specs.declared.items.Fact.{Fact}
use Rattle.base_items.specs.declared.items.ItemSort.{ItemSort}
use Rattle.base_items.specs.declared.items.ItemSort.TheVariants as sorts
use Rattle.plain_digraph.specs.Items.{facts}
use Rattle.observe_core.specs.Seen.{Seen, Watched}
use Rattle.observe_core.specs.Fits.{HeldFits}
use Rattle.notify_chain.specs.Seats.{seat_from, put_seat}
use Rattle.notify_chain.specs.Lending.{chain_with}
use Rattle.alter_graph.specs.Chains.{ChainsOf, chains_seen, seats_in, in_chain}
use Rattle.alter_graph.specs.Snaps.{half_of, IsHalf}
use Rattle.alter_graph.specs.Attaching.{with_seats}
use Rattle.alter_graph.specs.State.{AlterOf, state_of, IsInStep, SnapsStay}
use Rattle.alter_graph.specs.contracts.chains.Chains as chains
use Rattle.alter_graph.specs.contracts.graph.Alterable as graphs

-- another observer in the seat of the key
abbrev pub chains_with : {O : Type 0} → ItemSort → ℕ → O → ChainsOf O → ChainsOf O
chains_with sorts.Node key o c = record c { nodes = chain_with key o c.nodes }
chains_with sorts.Arc key o c = record c { arcs = chain_with key o c.arcs }

abbrev pub graph_with : {O : Type 0} → ItemSort → ℕ → O → AlterOf O → AlterOf O
graph_with sort key o a = record a { chains = chains_with sort key o a.chains }

-- once the borrow ends, the seat has the last value written

abbrev pub chains_lend : (O : RattleType) → MutBor (ChainsOf O.Denot) → ItemSort → ℕ
    → Option (MutBor O.Denot) → Fml
chains_lend O s sort key r =
    LendsIf (chains.the_row O) O s r (λ o. chains_with sort key o s.now) s.now

abbrev pub graph_lends : (O : RattleType) → MutBor (AlterOf O.Denot) → ItemSort → ℕ
    → Option (MutBor O.Denot) → Fml
graph_lends O s sort key r =
    LendsIf (graphs.the_row O) O s r (λ o. graph_with sort key o s.now) s.now

-- ---- what a write comes to

-- the seat of the key alone is another one
abbrev pub Reseats : {O : Type 0} → (O → Watched) → ItemSort → ℕ → O → ChainsOf O → Type 0
Reseats watch sort key o c =
    chains_seen watch (chains_with sort key o c)
    ≡ in_chain sort (with_seats
    (put_seat (seat_from watch key (Some o)) (seats_in sort (chains_seen watch c))))
    (chains_seen watch c)

-- whatever observer that is
abbrev pub AnyReseats : {O : Type 0} → (O → Watched) → ItemSort → ℕ → ChainsOf O → Type 0
AnyReseats {O} watch sort key c = (o : O) → Reseats watch sort key o c

-- an observer's record was written, and still stands for these items: kind, tracked facts and
-- counts are as before, and so is a half of a snapshot
pub record Rewrites (live : List Fact) (old new : Seen) : Type 0 where
  pub kind : new.kind ≡ old.kind
  pub facts : new.facts ≡ old.facts
  pub added : new.added ≡ old.added
  pub erased : new.erased ≡ old.erased
  pub moved : new.moved ≡ old.moved
  pub held : HeldFits old.held live → HeldFits new.held live
  pub half : IsHalf (half_of old) → half_of new ≡ half_of old

-- the observer of the seat was written: it alone is another one, and where it still stands for the
-- live items of its sort, all stays in step, and so do the snapshots
pub record Writes {O : Type 0} (watch : O → Watched) (sort : ItemSort) (key : ℕ) (a : AlterOf O)
    (old new : O) : Type 0 where
  pub seats : Reseats watch sort key new a.chains
  pub in_step : IsInStep (state_of watch a)
      → Rewrites (facts a.graph.graph sort) (watch old).seen (watch new).seen
      → IsInStep (state_of watch (graph_with sort key new a))
  pub snaps : IsInStep (state_of watch a)
      → Rewrites (facts a.graph.graph sort) (watch old).seen (watch new).seen
      → SnapsStay a.chains.snaps (state_of watch a) (state_of watch (graph_with sort key new a))

-- whatever is written to it
abbrev pub MayWrite : {O : Type 0} → (O → Watched) → ItemSort → ℕ → AlterOf O → O → Type 0
MayWrite {O} watch sort key a old = (new : O) → Writes watch sort key a old new
