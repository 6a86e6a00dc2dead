-- What is so of every guard: its law holds of what it tracks, and its undo reaches any end.
use Rattle.std.specs.Prelude.{◌||◌}
use Rattle.std.specs.List.{list_any}
use Rattle.std.proofs.Common.{◌≡◌, ◌≢◌, ℕ, ◌+◌, ◌*◌, ◌≤◌, Bool, true, false, ◌==◌, if◌then◌else◌}
use Rattle.std.proofs.Common.{List, [], ◌∷◌, length, count_by, refl, ap, arith}
use Rattle.std.proofs.lemmas.Bool.{le-leb}
use Rattle.std.proofs.lemmas.Grind.{common_steps}
use Rattle.std.proofs.lemmas.List.Sums.{sum_by-cons}
use Rattle.base_items.specs.declared.items.Fact.{Fact}
use Rattle.plain_digraph.specs.Guards.{has_same_ends, is_simple}
use Rattle.plain_digraph.proofs.FewFrom.{few_from_each}
use Rattle.observe_core.specs.declared.kinds.Kind.{Kind}
use Rattle.observe_core.specs.declared.kinds.Kind.TheVariants.{Map, Quota, Loopless, Simple, OutCap}
use Rattle.observe_core.specs.declared.kinds.Kind.TheVariants.{Fuse, Tally}
use Rattle.observe_core.specs.Guards.{Law, by_kind}
use Rattle.observe_core.specs.Seen.{IsSound, need}
use Rattle.guard_kinds.specs.declared.guard.Guard.{Guard}
use Rattle.guard_kinds.specs.GuardViews.{guard_seen}
use Rattle.fact_table.specs.Table.{facts_of}
use Rattle.fact_table.specs.TableFacts.{table-rises, table-reach}
use Rattle.guard_kinds.specs.Keys.{key_of, is_key, one, with_key, IsWithin}

-- how many pass of a list with one more
pub count_more : {X : Type 0} (p : X → Bool) (x : X) (xs : List X)
    → count_by p (x ∷ xs) ≡ one (p x) + count_by p xs
count_more p x xs = sum_by-cons (λ z. if p z then 1 else 0) x xs

count_all : {X : Type 0} (xs : List X) → count_by (λ x. true) xs ≡ length xs
count_all [] = refl
count_all (x ∷ xs) =
    let r = count_all xs in
    let a : count_by (λ x. true) (x ∷ xs) ≡ 1 + count_by (λ x. true) xs =
    sum_by-cons (λ z. 1) x xs in
    omega (arith, r, a)

-- where none passes one test, none passes a narrower one
none_any : {X : Type 0} (p q : X → Bool) (xs : List X)
    → ((x : X) → q x ≡ true → p x ≡ true) → count_by p xs ≡ 0 → list_any q xs ≡ false
none_any p q [] within h = refl
none_any p q (x ∷ xs) within h =
    let a = count_more p x xs in
    let r = none_any p q xs within (omega (arith, a, h)) in
    elim (q x) as (λ t. q x ≡ t → (q x || list_any q xs) ≡ false) [
      | true ↦ λ e. let y : one (p x) ≡ 1 = ap one (within x e) in absurd (omega (arith, a, h, y))
      | false ↦ λ e. rw (e, r) refl
    ] refl

quota_keeps : (k : ℕ) (facts : List Fact) → with_key Quota 0 facts ≤ k → Law Quota k facts
quota_keeps k facts h = let a = count_all facts in le-leb (length facts) k (omega (arith, a, h))

no_loops : (facts : List Fact) → with_key Loopless 0 facts ≡ 0 → Law Loopless 0 facts
no_loops [] h = refl
no_loops (f ∷ fs) h =
    let p : Fact → Bool = λ f. is_key 0 (key_of Loopless f) in
    let a = count_more p f fs in
    let r = no_loops fs (omega (arith, a, h)) in
    elim (f.from == f.to) as (λ t. (f.from == f.to) ≡ t → Law Loopless 0 (f ∷ fs)) [
      | true ↦ λ e.
          let y : p f ≡ true = rw e refl in
          let z : one (p f) ≡ 1 = ap one y in
          absurd (omega (arith, a, h, z))
      | false ↦ λ e. rw (e, r) refl
    ] refl

own_key : (f : Fact) → is_key (f.from * 4294967296 + f.to) (key_of Simple f) ≡ true
own_key f = grind (arith, common_steps)

same_key : (f g : Fact) → has_same_ends f g ≡ true
    → is_key (f.from * 4294967296 + f.to) (key_of Simple g) ≡ true
same_key f g h = grind (arith, common_steps, h)

simple_keeps : (facts : List Fact) → ((n : ℕ) → with_key Simple n facts ≤ 1)
    → is_simple facts ≡ true
simple_keeps [] h = refl
simple_keeps (f ∷ fs) h =
    let n = f.from * 4294967296 + f.to in
    let p : Fact → Bool = λ g. is_key n (key_of Simple g) in
    let a = count_more p f fs in
    let o : one (p f) ≡ 1 = ap one (own_key f) in
    let alone = none_any p (has_same_ends f) fs (same_key f) (omega (arith, a, o, h n)) in
    let rest = simple_keeps fs (λ m.
    let b = count_more (λ g. is_key m (key_of Simple g)) f fs in
    omega (arith, b, h m)) in
    rw (alone, rest) refl

-- the law of a kind holds where no key stands above its limit
law-keeps : (kind : Kind) (k : ℕ) (facts : List Fact) → IsWithin kind k facts → Law kind k facts
law-keeps Map k facts h = refl
law-keeps Quota k facts h = quota_keeps k facts (h 0)
law-keeps Loopless k facts h = no_loops facts (let b = h 0 in omega (arith, b))
law-keeps Simple k facts h = simple_keeps facts h
law-keeps OutCap k facts h = (few_from_each k facts).1 h
law-keeps Fuse k facts h = refl
law-keeps Tally k facts h = refl

-- what a guard tracks isn't a map's
tracks : (kind : Kind) (n : ℕ) → kind ≢ Map → n ≡ by_kind 0 n kind
tracks Map n h = absurd (h refl)
tracks Quota n h = refl
tracks Loopless n h = refl
tracks Simple n h = refl
tracks OutCap n h = refl
tracks Fuse n h = refl
tracks Tally n h = refl

pub guard-sound : (g : Guard) → IsSound (guard_seen g)
guard-sound g = record {
  lawful = law-keeps g.kind g.k (facts_of g.table) g.within;
  numbers = record {
    items = tracks g.kind (length (facts_of g.table)) g.guards;
    least = g.numbers.least;
    greatest = g.numbers.greatest;
    left = g.numbers.own_left;
    added = g.numbers.own_added;
    erased = g.numbers.own_erased;
    moved = g.numbers.own_moved;
  };
  rising = table-rises g.table;
  held = tt;
}

pub guard-reaches : (g : Guard) → need (guard_seen g) ≤ 4194304
guard-reaches g = let r = table-reach g.table in omega (arith, r)
