-- That an observer's record is sound, and that its numbers are those of its kind.
use Rattle.std.proofs.Common.{◌≡◌, ℕ, ◌+◌, ◌-◌, ◌≤◌, List, [], ◌∷◌, length, refl, ap, arith}
use Rattle.base_items.specs.declared.items.Fact.{Fact}
use Rattle.plain_digraph.specs.Rising.{with_item, without_item, swapped}
use Rattle.plain_digraph.specs.Facts.{fact_id}
use Rattle.observe_core.specs.declared.kinds.Kind.{Kind}
use Rattle.observe_core.specs.declared.kinds.Kind.TheVariants.{Map, Quota, Loopless, Simple, OutCap}
use Rattle.observe_core.specs.declared.kinds.Kind.TheVariants.{Fuse, Tally}
use Rattle.observe_core.specs.declared.changes.Change.{Change}
use Rattle.observe_core.specs.declared.changes.Change.TheVariants.{Add, Shift, Build}
use Rattle.observe_core.specs.declared.losses.Loss.{Loss}
use Rattle.observe_core.specs.declared.losses.Loss.TheVariants.{Erase, Clear}
use Rattle.observe_core.specs.Items.{place_all}
use Rattle.observe_core.specs.Held.{Held, IsHeldSound}
use Rattle.observe_core.specs.Guards.{fuse_part, tally_part, by_kind}
use Rattle.observe_core.specs.Seen.{Seen, HasOwnNumbers, IsSound, map_seen}
use Rattle.observe_core.specs.Changes.{told}
use Rattle.observe_core.specs.Losses.{lost}

-- a map is sound where what it holds is
pub map_sound : (held : Held) → IsHeldSound held → IsSound (map_seen held)
map_sound held h = record {
  lawful = refl;
  numbers = record {
    items = refl;
    least = omega arith;
    greatest = omega arith;
    left = omega arith;
    added = refl;
    erased = refl;
    moved = refl;
  };
  rising = refl;
  held = h;
}

-- a number that only a tally has stays such a number
pub tally_more : (kind : Kind) (n m : ℕ) → n ≡ tally_part kind n
    → n + tally_part kind m ≡ tally_part kind (n + tally_part kind m)
tally_more Map n m e = omega (arith, e)
tally_more Quota n m e = omega (arith, e)
tally_more Loopless n m e = omega (arith, e)
tally_more Simple n m e = omega (arith, e)
tally_more OutCap n m e = omega (arith, e)
tally_more Fuse n m e = omega (arith, e)
tally_more Tally n m e = refl

pub tally_less : (kind : Kind) (n m : ℕ) → n ≡ tally_part kind n
    → n - tally_part kind m ≡ tally_part kind (n - tally_part kind m)
tally_less Map n m e = omega (arith, e)
tally_less Quota n m e = omega (arith, e)
tally_less Loopless n m e = omega (arith, e)
tally_less Simple n m e = omega (arith, e)
tally_less OutCap n m e = omega (arith, e)
tally_less Fuse n m e = omega (arith, e)
tally_less Tally n m e = refl

pub tally_none : (kind : Kind) → 0 ≡ tally_part kind 0
tally_none Map = refl
tally_none Quota = refl
tally_none Loopless = refl
tally_none Simple = refl
tally_none OutCap = refl
tally_none Fuse = refl
tally_none Tally = refl

pub fuse_less : (kind : Kind) (left k : ℕ) → left ≤ fuse_part kind k
    → left - fuse_part kind 1 ≤ fuse_part kind k
fuse_less kind left k h = omega (arith, h)

-- facts that only a guard tracks
abbrev pub AreOwn : Kind → List Fact → Type 0
AreOwn kind fs = length fs ≡ by_kind 0 (length fs) kind

pub chosen_own : (kind : Kind) (fs gs : List Fact) → AreOwn kind fs
    → AreOwn kind (by_kind fs gs kind)
chosen_own Map fs gs e = e
chosen_own Quota fs gs e = refl
chosen_own Loopless fs gs e = refl
chosen_own Simple fs gs e = refl
chosen_own OutCap fs gs e = refl
chosen_own Fuse fs gs e = refl
chosen_own Tally fs gs e = refl

-- facts that come from none are none
came_own : (kind : Kind) (go : List Fact → List Fact) → go [] ≡ [] → (fs : List Fact)
    → AreOwn kind fs → AreOwn kind (go fs)
came_own Map go e [] h = ap length e
came_own Map go e (f ∷ fs) h = absurd (omega (arith, h))
came_own Quota go e fs h = refl
came_own Loopless go e fs h = refl
came_own Simple go e fs h = refl
came_own OutCap go e fs h = refl
came_own Fuse go e fs h = refl
came_own Tally go e fs h = refl

no_facts_own : (kind : Kind) → AreOwn kind []
no_facts_own Map = refl
no_facts_own Quota = refl
no_facts_own Loopless = refl
no_facts_own Simple = refl
no_facts_own OutCap = refl
no_facts_own Fuse = refl
no_facts_own Tally = refl

pub told-own : (s : Seen) (c : Change) → HasOwnNumbers s → HasOwnNumbers (told c s)
told-own s (Add f) h = record {
  items = chosen_own s.kind s.facts (with_item fact_id f s.facts) h.items;
  least = h.least;
  greatest = h.greatest;
  left = h.left;
  added = tally_more s.kind s.added 1 h.added;
  erased = h.erased;
  moved = h.moved;
}
told-own s (Shift old now) h = record {
  items = came_own s.kind (swapped fact_id now) refl s.facts h.items;
  least = h.least;
  greatest = h.greatest;
  left = h.left;
  added = h.added;
  erased = h.erased;
  moved = tally_more s.kind s.moved 1 h.moved;
}
told-own s (Build all) h = record {
  items = chosen_own s.kind s.facts (place_all fact_id all.now []) h.items;
  least = h.least;
  greatest = h.greatest;
  left = h.left;
  added = h.added;
  erased = h.erased;
  moved = h.moved;
}

pub lost-own : (s : Seen) (l : Loss) → HasOwnNumbers s → HasOwnNumbers (lost l s)
lost-own s (Erase f) h = record {
  items = came_own s.kind (without_item fact_id f.id) refl s.facts h.items;
  least = h.least;
  greatest = h.greatest;
  left = fuse_less s.kind s.left s.k h.left;
  added = h.added;
  erased = tally_more s.kind s.erased 1 h.erased;
  moved = h.moved;
}
lost-own s Clear h = record {
  items = no_facts_own s.kind;
  least = h.least;
  greatest = h.greatest;
  left = h.left;
  added = h.added;
  erased = tally_more s.kind s.erased (length s.facts) h.erased;
  moved = h.moved;
}
