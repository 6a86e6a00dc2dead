-- Two states that differ in room and reach alone, and what a notice makes of both.
use Rattle.std.proofs.Common.{◌≡◌, ℕ, ◌≤◌, true, false, if◌then◌else◌, List, [], ◌∷◌, ◌++◌}
use Rattle.std.proofs.Common.{refl, sym, ap, subst, ◌∙◌, le_trans}
use Rattle.base_items.specs.declared.items.ItemSort.{ItemSort}
use Rattle.base_items.specs.declared.items.ItemSort.TheVariants as sorts
use Rattle.plain_digraph.specs.Digraph.{Digraph}
use Rattle.plain_digraph.specs.PlainSteps.{PlainStep, sort_of, after_step}
use Rattle.observe_core.specs.declared.changes.Change.{Change}
use Rattle.observe_core.specs.declared.changes.Change.TheVariants.{Add, Shift, Build}
use Rattle.observe_core.specs.declared.losses.Loss.{Loss}
use Rattle.observe_core.specs.Losses as losses
use Rattle.observe_core.specs.Changes.{told, untold, CanTell, CanUntell}
use Rattle.observe_core.specs.Seen.{Seen}
use Rattle.observe_core.proofs.ChangeLaws.{untold-told}
use Rattle.notify_chain.specs.Seats.{SeatSeen, Each, Became, AllSeats, Steady}
use Rattle.notify_chain.specs.Leaving.{goes, stayers, goers}
use Rattle.notify_chain.proofs.SeatLemmas.{each_same}
use Rattle.alter_graph.specs.Chains.{ChainSeen, ChainsSeen, IsSameChain, IsSameChains}
use Rattle.alter_graph.specs.Chains.{seat_heard, seats_heard, chain_heard, in_chain}
use Rattle.alter_graph.specs.Chains.{seats_in}
use Rattle.alter_graph.specs.State.{State, IsSame}
use Rattle.alter_graph.specs.Steps.{Notice, Tells, Loses, notice_of, noticed, took, altered}

abbrev pub AreSame : List SeatSeen → List SeatSeen → Type 0
AreSame xs ys = Each (Became (λ s. s)) xs ys

-- ---- seats that hear

pub each_heard : (g : Seen → Seen) (xs ys : List SeatSeen) → Each (Became g) xs ys
    → AreSame (seats_heard g xs) ys
each_heard g [] [] h = tt
each_heard g [] (y ∷ ys) h = absurd h
each_heard g (x ∷ xs) [] h = absurd h
each_heard g (x ∷ xs) (y ∷ ys) h = (
  record { key = h.0.key; seen = h.0.seen; room = h.0.room; reach = h.0.reach },
  each_heard g xs ys h.1,
)

pub each_told : (g : Seen → Seen) (xs ys : List SeatSeen) → AreSame (seats_heard g xs) ys
    → Each (Became g) xs ys
each_told g [] [] h = tt
each_told g [] (y ∷ ys) h = absurd h
each_told g (x ∷ xs) [] h = absurd h
each_told g (x ∷ xs) (y ∷ ys) h = (
  record { key = h.0.key; seen = h.0.seen; room = h.0.room; reach = h.0.reach },
  each_told g xs ys h.1,
)

each_trans : (xs ys zs : List SeatSeen) → AreSame xs ys → AreSame ys zs → AreSame xs zs
each_trans [] [] [] a b = tt
each_trans [] [] (z ∷ zs) a b = absurd b
each_trans [] (y ∷ ys) zs a b = absurd a
each_trans (x ∷ xs) [] zs a b = absurd a
each_trans (x ∷ xs) (y ∷ ys) [] a b = absurd b
each_trans (x ∷ xs) (y ∷ ys) (z ∷ zs) a b = (
  record {
    key = b.0.key ∙ a.0.key;
    seen = b.0.seen ∙ a.0.seen;
    room = le_trans a.0.room b.0.room;
    reach = le_trans a.0.reach b.0.reach;
  },
  each_trans xs ys zs a.1 b.1,
)

each_alike : (g : Seen → Seen) (xs ys : List SeatSeen) → AreSame xs ys
    → AreSame (seats_heard g xs) (seats_heard g ys)
each_alike g [] [] h = tt
each_alike g [] (y ∷ ys) h = absurd h
each_alike g (x ∷ xs) [] h = absurd h
each_alike g (x ∷ xs) (y ∷ ys) h = (
  record { key = h.0.key; seen = ap g h.0.seen; room = h.0.room; reach = h.0.reach },
  each_alike g xs ys h.1,
)

-- what was told is undone
untold_seats : (c : Change) (ss : List SeatSeen) → AllSeats (λ s. CanTell c s.seen) ss
    → AllSeats Steady ss → seats_heard (untold c) (seats_heard (told c) ss) ≡ ss
untold_seats c [] can steady = refl
untold_seats c (s ∷ ss) can steady =
    let a = untold-told c s.seen can.0 steady.0.0 in
    let r = untold_seats c ss can.1 steady.1 in
    λ i. record s { seen = a i } ∷ r i

-- more reach does no harm
untell_more : (c : Change) (s : Seen) (m n : ℕ) → m ≤ n → CanUntell c s m → CanUntell c s n
untell_more (Add f) s m n l h =
    record { could = h.could; sound = h.sound; same = h.same; reached = le_trans h.reached l }
untell_more (Shift old now) s m n l h =
    record { could = h.could; sound = h.sound; same = h.same; reached = le_trans h.reached l }
untell_more (Build all) s m n l h = record {
  all = h.all;
  could = h.could;
  sound = h.sound;
  same = h.same;
  reached = le_trans h.reached l;
}

pub untell_same : (c : Change) (xs ys : List SeatSeen) → AreSame xs ys
    → AllSeats (λ s. CanUntell c s.seen s.reach) xs → AllSeats (λ s. CanUntell c s.seen s.reach) ys
untell_same c [] [] e h = tt
untell_same c [] (y ∷ ys) e h = absurd e
untell_same c (x ∷ xs) [] e h = absurd e
untell_same c (x ∷ xs) (y ∷ ys) e h = (
  subst (λ s. CanUntell c s y.reach) (sym e.0.seen)
      (untell_more c x.seen x.reach y.reach e.0.reach h.0),
  untell_same c xs ys e.1 h.1,
)

-- ---- seats at a loss

stayers_alike : (loss : Loss) (xs ys : List SeatSeen) → AreSame xs ys
    → AreSame (stayers loss xs) (stayers loss ys)
stayers_alike loss [] [] e = tt
stayers_alike loss [] (y ∷ ys) e = absurd e
stayers_alike loss (x ∷ xs) [] e = absurd e
stayers_alike loss (x ∷ xs) (y ∷ ys) e =
    let r = stayers_alike loss xs ys e.1 in
    let hears : SeatSeen → SeatSeen = seat_heard (losses.lost loss) in
    subst (λ b. AreSame (stayers loss (x ∷ xs))
    (if b then stayers loss ys else hears y ∷ stayers loss ys))
    (sym (ap (λ s. goes (losses.leaves_at loss s)) e.0.seen))
    (elim (goes (losses.leaves_at loss x.seen)) as (λ b. AreSame
    (if b then stayers loss xs else hears x ∷ stayers loss xs)
    (if b then stayers loss ys else hears y ∷ stayers loss ys)) [
      | true ↦ r
      | false ↦ (
        record {
          key = e.0.key;
          seen = ap (losses.lost loss) e.0.seen;
          room = e.0.room;
          reach = e.0.reach;
        },
        r,
      )
    ])

goers_alike : (loss : Loss) (xs ys : List SeatSeen) → AreSame xs ys
    → goers loss ys ≡ goers loss xs
goers_alike loss [] [] e = refl
goers_alike loss [] (y ∷ ys) e = absurd e
goers_alike loss (x ∷ xs) [] e = absurd e
goers_alike loss (x ∷ xs) (y ∷ ys) e =
    let r = goers_alike loss xs ys e.1 in
    λ i. r i ++ (if goes (losses.leaves_at loss (e.0.seen i)) then e.0.key i ∷ [] else [])

-- ---- chains

pub chain_refl : (c : ChainSeen) → IsSameChain c c
chain_refl c = record { seats = each_same c.seats; left = refl }

chain_trans : (a b c : ChainSeen) → IsSameChain a b → IsSameChain b c → IsSameChain a c
chain_trans a b c p q = record {
  seats = each_trans a.seats b.seats c.seats p.seats q.seats;
  left = q.left ∙ p.left;
}

heard_alike : (g : Seen → Seen) (a b : ChainSeen) → IsSameChain a b
    → IsSameChain (chain_heard g a) (chain_heard g b)
heard_alike g a b p = record { seats = each_alike g a.seats b.seats p.seats; left = p.left }

noticed_alike : (n : Notice) (a b : ChainSeen) → IsSameChain a b
    → IsSameChain (noticed n a) (noticed n b)
noticed_alike (Tells change) a b p = heard_alike (told change) a b p
noticed_alike (Loses loss) a b p = record {
  seats = stayers_alike loss a.seats b.seats p.seats;
  left =
      let g = goers_alike loss a.seats b.seats p.seats in
      let l = p.left in
      λ i. l i ++ g i;
}

pub chains_refl : (c : ChainsSeen) → IsSameChains c c
chains_refl c = record { nodes = chain_refl c.nodes; arcs = chain_refl c.arcs; snaps = refl }

chains_trans : (a b c : ChainsSeen) → IsSameChains a b → IsSameChains b c → IsSameChains a c
chains_trans a b c p q = record {
  nodes = chain_trans a.nodes b.nodes c.nodes p.nodes q.nodes;
  arcs = chain_trans a.arcs b.arcs c.arcs p.arcs q.arcs;
  snaps = q.snaps ∙ p.snaps;
}

in_alike : (sort : ItemSort) (f : ChainSeen → ChainSeen)
    → ((a b : ChainSeen) → IsSameChain a b → IsSameChain (f a) (f b)) → (a b : ChainsSeen)
    → IsSameChains a b → IsSameChains (in_chain sort f a) (in_chain sort f b)
in_alike sorts.Node f alike a b p =
    record { nodes = alike a.nodes b.nodes p.nodes; arcs = p.arcs; snaps = p.snaps }
in_alike sorts.Arc f alike a b p =
    record { nodes = p.nodes; arcs = alike a.arcs b.arcs p.arcs; snaps = p.snaps }

pub same_seats : (sort : ItemSort) (a b : ChainsSeen) → IsSameChains a b
    → AreSame (seats_in sort a) (seats_in sort b)
same_seats sorts.Node a b p = p.nodes.seats
same_seats sorts.Arc a b p = p.arcs.seats

-- the seats of the chain that was told
pub heard_seats : (sort : ItemSort) (g : Seen → Seen) (a b : ChainsSeen)
    → IsSameChains (in_chain sort (chain_heard g) a) b
    → Each (Became g) (seats_in sort a) (seats_in sort b)
heard_seats sorts.Node g a b p = each_told g a.nodes.seats b.nodes.seats p.nodes.seats
heard_seats sorts.Arc g a b p = each_told g a.arcs.seats b.arcs.seats p.arcs.seats

pub unheard : (sort : ItemSort) (c : Change) (a : ChainsSeen)
    → AllSeats (λ s. CanTell c s.seen) (seats_in sort a) → AllSeats Steady (seats_in sort a)
    → in_chain sort (chain_heard (untold c)) (in_chain sort (chain_heard (told c)) a) ≡ a
unheard sorts.Node c a can steady =
    let e = untold_seats c a.nodes.seats can steady in
    λ i. record {
      nodes = record { seats = e i; left = a.nodes.left };
      arcs = a.arcs;
      snaps = a.snaps;
    }
unheard sorts.Arc c a can steady =
    let e = untold_seats c a.arcs.seats can steady in
    λ i. record {
      nodes = a.nodes;
      arcs = record { seats = e i; left = a.arcs.left };
      snaps = a.snaps;
    }

-- ---- states

pub same_refl : (s : State) → IsSame s s
same_refl s = record { graph = refl; chains = chains_refl s.chains }

pub same_trans : (a b c : State) → IsSame a b → IsSame b c → IsSame a c
same_trans a b c p q = record {
  graph = q.graph ∙ p.graph;
  chains = chains_trans a.chains b.chains c.chains p.chains q.chains;
}

pub heard_same : (sort : ItemSort) (g : Seen → Seen) (a b : ChainsSeen) → IsSameChains a b
    → IsSameChains (in_chain sort (chain_heard g) a) (in_chain sort (chain_heard g) b)
heard_same sort g a b p = in_alike sort (chain_heard g) (heard_alike g) a b p

pub took_same : (step : PlainStep) (s t : State) → IsSame s t → IsSame (took step s) (took step t)
took_same step s t e =
    subst (λ (g : Digraph). IsSame (took step s) (record {
      graph = after_step g step;
      chains = in_chain (sort_of step) (noticed (notice_of step g)) t.chains;
    })) (sym e.graph)
    (record {
      graph = refl;
      chains = in_alike (sort_of step) (noticed (notice_of step s.graph))
          (noticed_alike (notice_of step s.graph)) s.chains t.chains e.chains;
    })

pub altered_same : (steps : List PlainStep) (s t : State) → IsSame s t
    → IsSame (altered steps s) (altered steps t)
altered_same [] s t e = e
altered_same (step ∷ steps) s t e =
    altered_same steps (took step s) (took step t) (took_same step s t e)
