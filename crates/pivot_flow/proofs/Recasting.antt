-- The same facts over the nodes alone, or with capacities.
use Rattle.std.proofs.Common.{◌≡◌, ℕ, [], List, ℤ, refl, ◌∙◌}
use Rattle.pivot_flow.specs.declared.look.Ends.{Ends}
use Rattle.pivot_flow.specs.Enter.{IsSettled}
use Rattle.pivot_flow.specs.Kids.{bare}
use Rattle.pivot_flow.specs.Spread.{IsCut}
use Rattle.pivot_flow.specs.State.{IsState, sends_of}
use Rattle.pivot_flow.specs.Tree.{IsHung, Task, Tree, task_of}
use Rattle.pivot_flow.specs.Turn.{IsTurned}

-- what doesn't speak of the capacities, or of the arcs, holds with any
pub hung_bare : (n : ℕ) (es : List Ends) (cap : List ℕ) (h : Tree) → IsHung (task_of n es cap) h
    → IsHung (task_of n es []) h
hung_bare n es cap h s = record {
  top = s.top;
  top_depth = s.top_depth;
  parent = s.parent;
  arc =
      s.arc;
  joins = s.joins;
  falls = s.falls;
}

turned_full : (n : ℕ) (es : List Ends) (cap : List ℕ) (h : Tree) (p a : ℕ → ℕ)
    (inner outer e x : ℕ) → IsTurned (task_of n es []) h p a inner outer e x
    → IsTurned (task_of n es cap) h p a inner outer e x
turned_full n es cap h p a inner outer e x s =
    record { kept = s.kept; turned = s.turned; first = s.first }

settled_full : (n : ℕ) (es : List Ends) (cap : List ℕ) (p : ℕ → ℕ) (y y' : ℕ → ℤ) (d' : ℕ → ℕ)
    (inner outer : ℕ) (by : ℤ) → IsSettled (bare n) p y y' d' inner outer by
    → IsSettled (task_of n es cap) p y y' d' inner outer by
settled_full n es cap p y y' d' inner outer by s = record {
  top = s.top;
  top_price = s.top_price;
  depth = s.depth;
  moved = s.moved;
  inner_price = s.inner_price;
  outer_price = s.outer_price;
  each = s.each;
}

-- a part that hangs anew: the nodes and the change are given by what the program has for them
pub rehung_full : (n : ℕ) (es : List Ends) (cap : List ℕ) (h : Tree) (p a : ℕ → ℕ) (y y' : ℕ → ℤ)
    (d' : ℕ → ℕ) (i j inner outer e x : ℕ) (z by : ℤ) → i ≡ inner → j ≡ outer → z ≡ by
    → IsTurned (task_of n es []) h p a i j e x → IsSettled (bare n) p y y' d' i j z
    → IsTurned (task_of n es cap) h p a inner outer e x
    × IsSettled (task_of n es cap) p y y' d' inner outer by
rehung_full n es cap h p a y y' d' i j inner outer e x z by i_is j_is by_is turned settled = (
  turned_full n es cap h p a inner outer e x (rw (i_is, j_is) at turned),
  settled_full n es cap p y y' d' inner outer by (rw (i_is, j_is, by_is) at settled),
)

pub cut_bare : (n : ℕ) (es : List Ends) (p d : ℕ → ℕ) (inner outer : ℕ)
    → IsCut (task_of n es []) p d inner outer → IsCut (bare n) p d inner outer
cut_bare n es p d inner outer s = record {
  low = s.low;
  hangs = s.hangs;
  outer_node = s.outer_node;
  part = s.part;
  lacks = s.lacks;
  has = s.has;
  lacks_root = s.lacks_root;
  each = s.each;
  outside = s.outside;
}

-- a flow sends what it sends
pub own_sends : (t : Task) (supply cost : ℕ → ℤ) (h : Tree) (f : ℕ → ℕ) (y : ℕ → ℤ)
    → IsState t supply cost h f y → IsState t (sends_of t f) cost h f y
own_sends t supply cost h f y s = record {
  hung = s.hung;
  held = record {
    within = s.held.within;
    met = λ v l. refl;
    rest = s.held.rest;
    sends =
        s.held.sends;
  };
  priced = s.priced;
}

pub sends_back : (t : Task) (supply cost : ℕ → ℤ) (h h' : Tree) (f f' : ℕ → ℕ) (y y' : ℕ → ℤ)
    → IsState t supply cost h f y → IsState t (sends_of t f) cost h' f' y'
    → IsState t supply cost h' f' y'
sends_back t supply cost h h' f f' y y' s n = record {
  hung = n.hung;
  held = record {
    within = n.held.within;
    met = λ v l. n.held.met v l
        ∙ s.held.met v l;
    rest = n.held.rest;
    sends = n.held.sends;
  };
  priced = n.priced;
}
