-- Loads of the slices are loads of the digraph.
use Rattle.std.proofs.Common.{◌≡◌, ◌⊎◌, inl, inr, ℕ, ◌+◌, ◌-◌, ◌<◌, ◌≤◌, ◌^◌, eqb, cond, List}
use Rattle.std.proofs.Common.{length}
use Rattle.std.proofs.Common.{refl, sym, ◌∙◌, ap, subst, arith}
use Rattle.std.proofs.lemmas.Int.{ints}
use Rattle.plain_certificates.specs.Numbered.{Numbered}
use Rattle.plain_certificates.specs.Rooms.{Joins, room_from, as_flow}
use Rattle.plain_certificates.specs.Totals.{total_to}
use Rattle.push_flow.proofs.Start.{fresh_held}
use Rattle.push_flow.specs.declared.push.Ends.{Ends}
use Rattle.push_flow.specs.declared.push.Spoke.{Spoke}
use Rattle.push_flow.specs.Held.{Supply, Task, IsHeld, most}
use Rattle.push_flow.specs.Search.{IsShut}
use Rattle.push_flow.specs.Slices.{at, graph_of, spoke_at, task_of, AreRows}
use Rattle.flow_rows.proofs.Carrying.{net_carried}
use Rattle.flow_loads.specs.declared.loads.Load.{Load}
use Rattle.flow_loads.specs.Loads.{HasSettled, IsLoaded, load_supply, task_in}
use Rattle.flow_rows.specs.Network.{IsNetwork}

-- what is held over the ends of one digraph is held over the same ends of another
module _ (g h : Numbered) (arcs : h.arcs ≡ g.arcs)
    (ends : (k : ℕ) → k < g.arcs → (h.from k ≡ g.from k) × (h.to k ≡ g.to k))
    (nodes : h.nodes ≡ g.nodes) (cap : ℕ → ℕ) where
  joins_back : (k v u : ℕ) → k < g.arcs → Joins g k v u → Joins h k v u
  joins_back k v u l (inl j) = inl ((ends k l).0 ∙ j.0, (ends k l).1 ∙ j.1)
  joins_back k v u l (inr j) = inr ((ends k l).0 ∙ j.0, (ends k l).1 ∙ j.1)

  room_same : (f : ℕ → ℕ) (k v : ℕ) → k < g.arcs
      → room_from h cap f k v ≡ room_from g cap f k v
  room_same f k v l = ap (λ x. cond (eqb x v) (cap k - f k) (f k)) (ends k l).0

  pub held_carried : (supply supply' : ℕ → Supply) (f e w y : ℕ → ℕ)
      → ((v : ℕ) → v < g.nodes → (supply v).sends ≡ (supply' v).sends)
      → ((v : ℕ) → v < g.nodes → (supply v).wants ≡ (supply' v).wants)
      → IsHeld (task_in h cap) supply f e w y → IsHeld (task_in g cap) supply' f e w y
  held_carried supply supply' f e w y sends wants s = record {
    within = λ k l. s.within k (rw arcs l);
    balance = λ v l.
        (let a = s.balance v (rw nodes l) in
        let b = net_carried g h arcs ends (as_flow f) v in
        let c = sends v l in
        omega (arith, ints, a, b, c));
    owed = λ v l.
        (let a = s.owed v (rw nodes l) in
        let c = wants v l in
        omega (arith, a, c));
    small = subst (λ n. total_to n e ≤ most) nodes s.small;
    high = λ v l. (let a = s.high v (rw nodes l) in omega (arith, a, nodes));
    wants = λ v l some. s.wants v (rw nodes l) some;
    apart = λ v l some. s.apart v (rw nodes l) some;
    gentle = λ k v u l j r.
        s.gentle k v u (rw arcs l) (joins_back k v u l j) (rw (room_same f k v l) r);
  }

  pub shut_carried : (f y : ℕ → ℕ) → IsShut (task_in h cap) f y → IsShut (task_in g cap) f y
  shut_carried f y shut k x u l lx lu j room low =
      let a = shut k x u (rw arcs l) (rw nodes lx) (rw nodes lu) (joins_back k x u l j)
      (rw (room_same f k x l) room) (rw nodes low) in
      omega (arith, a, nodes)

module _ (g : Numbered) (ends : List Ends) (start : List ℕ) (row : List Spoke)
    (net' : IsNetwork g ends start row) (cap : List ℕ) (n : ℕ) (n_is : n ≡ g.nodes) where
  back : (k : ℕ) → k < length ends → (g.from k ≡ (graph_of n ends).from k)
      × (g.to k ≡ (graph_of n ends).to k)
  back k l =
      let all = net'.ends_all in
      let are = net'.ends_are k (omega (arith, all, l)) in
      (sym are.0, sym are.1)

  supply_same : (load : Load) (v : ℕ)
      → (load_supply (task_in g (at cap)) load v).sends
      ≡ (load_supply (task_of n ends cap) load v).sends
  supply_same load v =
      let a = net_carried g (graph_of n ends) net'.ends_all net'.ends_are
      (as_flow (at load.flow.items)) v in
      omega (arith, ints, a)

  -- a load of the digraph can be handed to the engine
  pub held_slices : (load : Load)
      → IsHeld (task_in g (at cap)) (load_supply (task_in g (at cap)) load) (at load.flow.items)
      (at load.excess.items) (at load.want.items) (at load.height.items)
      → IsHeld (task_of n ends cap) (load_supply (task_of n ends cap) load) (at load.flow.items)
      (at load.excess.items) (at load.want.items) (at load.height.items)
  held_slices load held =
      held_carried (graph_of n ends) g (sym net'.ends_all) back (sym n_is) (at cap)
      (load_supply (task_in g (at cap)) load) (load_supply (task_of n ends cap) load)
      (at load.flow.items) (at load.excess.items) (at load.want.items) (at load.height.items)
      (λ v l. supply_same load v) (λ v l. refl) held

  -- and what it leaves is one of the digraph
  pub settled_in : (old new : Load) → HasSettled (task_of n ends cap) old new
      → HasSettled (task_in g (at cap)) old new
  settled_in old new s = record {
    flow_all = s.flow_all;
    excess_all = s.excess_all;
    want_all = s.want_all;
    height_all = s.height_all;
    held = held_carried g (graph_of n ends) net'.ends_all net'.ends_are n_is (at cap)
        (load_supply (task_of n ends cap) old) (load_supply (task_in g (at cap)) old)
        (at new.flow.items) (at new.excess.items) (at new.want.items) (at new.height.items)
        (λ v l. sym (supply_same old v)) (λ v l. refl) s.held;
    shut = shut_carried g (graph_of n ends) net'.ends_all net'.ends_are n_is (at cap)
        (at new.flow.items) (at new.height.items) s.shut;
    quiet = λ v l low. s.quiet v (rw n_is l) (rw n_is low);
  }

-- a flow within the capacities, at height 0, can be handed to the engine
pub fresh_loaded : (g : Numbered) (ends : List Ends) (start : List ℕ) (row : List Spoke)
    (cap : List ℕ) (load : Load) → IsNetwork g ends start row → g.nodes ≤ 2 ^ 20
    → length cap ≡ g.arcs → length load.flow.items ≡ g.arcs
    → length load.excess.items ≡ g.nodes → length load.want.items ≡ g.nodes
    → length load.height.items ≡ g.nodes
    → ((k : ℕ) → k < g.arcs → at load.flow.items k ≤ at cap k)
    → total_to g.nodes (at load.excess.items) ≤ most
    → ((v : ℕ) → v < g.nodes → 0 < at load.excess.items v → at load.want.items v ≡ 0)
    → ((v : ℕ) → at load.height.items v ≡ 0) → IsLoaded ends start row cap load
fresh_loaded g ends start row cap load net' few caps flows excesses wants heights within small
    apart low =
    let all = net'.ends_all in
    let starts = net'.starts_all in
    record {
      caps_all = omega (arith, caps, all);
      starts_all = omega (arith, starts, heights);
      flow_all = omega (arith, flows, all);
      excess_all = omega (arith, excesses, heights);
      want_all = omega (arith, wants, heights);
      few = omega (arith, few, heights);
      ends_in = λ k l.
          (let are = net'.ends_are k (omega (arith, l, all)) in
          let inside = net'.within k (omega (arith, l, all)) in
          (rw (are.0, heights) inside.0, rw (are.1, heights) inside.1));
      rows = rw heights (net'.rows cap);
      held = held_slices g ends start row net' cap (length load.height.items) heights load
          (fresh_held (task_in g (at cap)) (at load.flow.items) (at load.excess.items)
          (at load.want.items) (at load.height.items) within small apart low);
    }

-- ---- equal lists

pub held_lists : (t : Task) (supply : ℕ → Supply) (f e w y f' e' w' y' : List ℕ) → f' ≡ f
    → e' ≡ e → w' ≡ w → y' ≡ y → IsHeld t supply (at f) (at e) (at w) (at y)
    → IsHeld t supply (at f') (at e') (at w') (at y')
held_lists t supply f e w y f' e' w' y' fs es ws ys held =
    subst (λ (x : List ℕ). IsHeld t supply (at f') (at e') (at w') (at x)) (sym ys)
    (subst (λ (x : List ℕ). IsHeld t supply (at f') (at e') (at x) (at y)) (sym ws)
    (subst (λ (x : List ℕ). IsHeld t supply (at f') (at x) (at w) (at y)) (sym es)
    (subst (λ (x : List ℕ). IsHeld t supply (at x) (at e) (at w) (at y)) (sym fs) held)))

pub shut_lists : (t : Task) (f y f' y' : List ℕ) → f' ≡ f → y' ≡ y → IsShut t (at f) (at y)
    → IsShut t (at f') (at y')
shut_lists t f y f' y' fs ys shut =
    subst (λ (x : List ℕ). IsShut t (at f') (at x)) (sym ys)
    (subst (λ (x : List ℕ). IsShut t (at x) (at y)) (sym fs) shut)

abbrev pub AreQuiet : ℕ → List ℕ → List ℕ → Type 0
AreQuiet n e y = (v : ℕ) → v < n → at y v < n → at e v ≡ 0

pub quiet_lists : (n : ℕ) (e y e' y' : List ℕ) → e' ≡ e → y' ≡ y → AreQuiet n e y
    → AreQuiet n e' y'
quiet_lists n e y e' y' es ys quiet =
    subst (λ (x : List ℕ). AreQuiet n e' x) (sym ys)
    (subst (λ (x : List ℕ). AreQuiet n x y) (sym es) quiet)
