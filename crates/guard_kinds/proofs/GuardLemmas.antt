-- The laws of guards by their keys, and how the counts follow the facts.
use Rattle.std.specs.Prelude.{not, ◌&&◌}
use Rattle.std.specs.List.{list_any}
use Rattle.std.proofs.lemmas.List.Folds.{list_any_at}
use Rattle.plain_digraph.specs.Guards.{has_same_ends, is_simple, has_no_loop}
use Rattle.plain_digraph.proofs.FewFrom.{few_from_each}
use Rattle.guard_kinds.specs.Sound.{count_more}
use Rattle.std.proofs.Common.{◌≡◌, ◌≢◌, ℕ, zero, suc, ◌+◌, ◌*◌, ◌<◌, ◌≤◌, Bool, true, false, ◌==◌}
use Rattle.std.proofs.Common.{if◌then◌else◌, IsTrue, List, [], ◌∷◌, Err, nat_le, length, get_or}
use Rattle.std.proofs.Common.{count_by, Contains, refl, sym, ap, subst, ◌∙◌, arith}
use Rattle.std.proofs.lemmas.Bool.{leb-true}
use Rattle.std.proofs.lemmas.Grind.{common_steps}
use Rattle.std.proofs.lemmas.List.Sums.{sum_by-cons, count_by-le-length}
use Rattle.base_items.specs.declared.items.Fact.{Fact}
use Rattle.observe_core.specs.declared.kinds.Kind.{Kind}
use Rattle.observe_core.specs.declared.kinds.Kind.TheVariants.{Map, Quota, Loopless, Simple, OutCap}
use Rattle.observe_core.specs.declared.kinds.Kind.TheVariants.{Fuse, Tally}
use Rattle.observe_core.specs.declared.kinds.Veto.{Veto}
use Rattle.observe_core.specs.declared.kinds.Veto.TheVariants.{Refused, Memory}
use Rattle.observe_core.specs.Guards.{Law, by_kind}
use Rattle.observe_core.specs.Seen.{Seen, Lawful}
use Rattle.observe_core.specs.Told.{added, shifted}
use Rattle.observe_core.specs.Untold.{unadded, unshifted}
use Rattle.observe_core.specs.Conditions.{Answers}
use Rattle.plain_digraph.specs.Facts.{fact_id}
use Rattle.observe_core.specs.Facts.{IsInBounds, AllInBounds}
use Rattle.plain_digraph.specs.Lists.{AllOf}
use Rattle.plain_digraph.specs.Rising.{with_item, without_item, swapped}
use Rattle.observe_core.specs.Items.{place_all, has_id, rises_from}
use Rattle.observe_core.proofs.ItemLemmas.{all-place}
use Rattle.observe_core.proofs.CountLemmas.{count-place, count-place_all, count-without}
use Rattle.observe_core.proofs.CountLemmas.{count-swapped, contained-counted, length-without}
use Rattle.guard_kinds.specs.Keys.{key_of, limit_of, room_of, is_key, is_keyed, one, with_key}
use Rattle.guard_kinds.specs.Keys.{keyed, IsWithin}
use Rattle.guard_kinds.specs.Putting.{Puts}

pub guards : {A : Type 0} (a b : A) (k : Kind) → k ≢ Map → by_kind a b k ≡ b
guards a b Map n = absurd (n refl)
guards a b Quota n = refl
guards a b Loopless n = refl
guards a b Simple n = refl
guards a b OutCap n = refl
guards a b Fuse n = refl
guards a b Tally n = refl

----------------------------------------------------------------------------------------------------
-- a law that holds keeps each key within its limit
----------------------------------------------------------------------------------------------------
none_pass : {X : Type 0} (p : X → Bool) (xs : List X) (d : X)
    → ((j : ℕ) → j < length xs → p (get_or xs j d) ≡ false) → count_by p xs ≡ 0
none_pass p [] d h = refl
none_pass p (x ∷ xs) d h =
    let r = none_pass p xs d (λ j l. h (suc j) (omega (arith, l))) in
    let a = sum_by-cons (λ z. if p z then 1 else 0) x xs in
    let e : one (p x) ≡ 0 = ap one (h 0 (omega arith)) in
    omega (arith, a, r, e)

false_is : {X : Type 0} → false ≡ true → X
false_is e = cc

both_true : (a b : Bool) → (a && b) ≡ true → (a ≡ true) × (b ≡ true)
both_true true b e = (refl, e)
both_true false b e = false_is e

is_one : (m n : ℕ) → (m == n) ≡ true → m ≡ n
is_one m n h = grind (arith, common_steps, h)

no_fact : Fact
no_fact = record { id = 0; from = 0; to = 0; from_at = 0; to_at = 0 }

bounded_at : (facts : List Fact) (j : ℕ) (d : Fact) → AllInBounds facts → j < length facts
    → IsInBounds (get_or facts j d)
bounded_at [] j d b l = absurd (omega (arith, l))
bounded_at (f ∷ fs) zero d b l = b.0
bounded_at (f ∷ fs) (suc j) d b l = bounded_at fs j d b.1 (omega (arith, l))

apart : (f g : Fact) → f.from ≡ g.from → f.to ≡ g.to → has_same_ends f g ≡ true
apart f g a b = grind (arith, common_steps, a, b)

simple-breaks : (facts : List Fact) (n : ℕ) → AllInBounds facts → is_simple facts ≡ true
    → with_key Simple n facts ≤ 1
simple-breaks [] n b h = omega arith
simple-breaks (f ∷ fs) n b h =
    let p : Fact → Bool = λ f. is_key n (key_of Simple f) in
    let a = count_more p f fs in
    let parts = both_true (not (list_any (has_same_ends f) fs)) (is_simple fs) h in
    let r = simple-breaks fs n b.1 parts.1 in
    elim (p f) as (λ t. p f ≡ t → with_key Simple n (f ∷ fs) ≤ 1) [
      | true ↦ λ q.
          let z = none_pass p fs no_fact (λ j l.
          let g = get_or fs j no_fact in
          elim (p g) as (λ t. p g ≡ t → t ≡ false) [
            | true ↦ λ s.
                let x : f.from * 4294967296 + f.to ≡ n = is_one (f.from * 4294967296 + f.to) n q in
                let y : g.from * 4294967296 + g.to ≡ n = is_one (g.from * 4294967296 + g.to) n s in
                let u = b.0.2 in
                let v = (bounded_at fs j no_fact b.1 l).2 in
                let e = apart f g (omega (arith, x, y, u, v)) (omega (arith, x, y, u, v)) in
                let any = list_any_at (has_same_ends f) fs j no_fact l e in
                false_is (ap not (sym any) ∙ parts.0)
            | false ↦ λ s. refl
          ] refl) in
          let e : one (p f) ≡ 1 = ap one q in
          omega (arith, a, z, e)
      | false ↦ λ q. let e : one (p f) ≡ 0 = ap one q in omega (arith, a, r, e)
    ] refl

loopless-breaks : (facts : List Fact) (n : ℕ) → has_no_loop facts ≡ true
    → with_key Loopless n facts ≤ 0
loopless-breaks [] n h = omega arith
loopless-breaks (f ∷ fs) n h =
    let p : Fact → Bool = λ f. is_key n (key_of Loopless f) in
    let a = count_more p f fs in
    let parts = both_true (not (f.from == f.to)) (has_no_loop fs) h in
    let r = loopless-breaks fs n parts.1 in
    elim (f.from == f.to) as (λ t. (f.from == f.to) ≡ t → with_key Loopless n (f ∷ fs) ≤ 0) [
      | true ↦ λ e. false_is (ap not (sym e) ∙ parts.0)
      | false ↦ λ e.
          let q : p f ≡ false = rw e refl in
          let o : one (p f) ≡ 0 = ap one q in
          omega (arith, a, r, o)
    ] refl

never : {X : Type 0} (xs : List X) → count_by (λ x. false) xs ≡ 0
never [] = refl
never (x ∷ xs) =
    let r = never xs in
    let a : count_by (λ x. false) (x ∷ xs) ≡ 0 + count_by (λ x. false) xs =
    sum_by-cons (λ z. 0) x xs in
    omega (arith, r, a)

quota-breaks : (k n : ℕ) (facts : List Fact) → Law Quota k facts → with_key Quota n facts ≤ k
quota-breaks k n facts h =
    let a = count_by-le-length (λ f. is_key n (key_of Quota f)) facts in
    let b = leb-true (length facts) k h in
    omega (arith, a, b)

-- where the law of a kind holds, no key stands above its limit
pub law-breaks : (kind : Kind) (k : ℕ) (facts : List Fact) → AllInBounds facts → Law kind k facts
    → IsWithin kind k facts
law-breaks Map k facts b h = λ n. let e = never facts in omega (arith, e)
law-breaks Quota k facts b h = λ n. quota-breaks k n facts h
law-breaks Loopless k facts b h = λ n. loopless-breaks facts n h
law-breaks Simple k facts b h = λ n. simple-breaks facts n b h
law-breaks OutCap k facts b h = (few_from_each k facts).0 h
law-breaks Fuse k facts b h = λ n. let e = never facts in omega (arith, e)
law-breaks Tally k facts b h = λ n. let e = never facts in omega (arith, e)

----------------------------------------------------------------------------------------------------
-- counts that follow the facts
----------------------------------------------------------------------------------------------------
keyed-le : (kind : Kind) (facts : List Fact) → keyed kind facts ≤ length facts
keyed-le kind facts = count_by-le-length (λ f. is_keyed (key_of kind f)) facts

-- fewer facts need no more room
pub room-rises : (kind : Kind) (m n : ℕ) → m ≤ n → room_of kind m ≤ room_of kind n
room-rises Map m n h = omega arith
room-rises Quota m n h = grind (arith, common_steps, h)
room-rises Loopless m n h = omega arith
room-rises Simple m n h = h
room-rises OutCap m n h = h
room-rises Fuse m n h = omega arith
room-rises Tally m n h = omega arith

pub length-swapped : (x : Fact) (ys : List Fact) → length (swapped fact_id x ys) ≡ length ys
length-swapped x [] = refl
length-swapped x (y ∷ ys) = ap suc (length-swapped x ys)

pub few-keyed : (kind : Kind) (n : ℕ) (facts : List Fact) → with_key kind n facts ≤ length facts
few-keyed kind n facts = count_by-le-length (λ f. is_key n (key_of kind f)) facts

module _ (kind : Kind) (facts : List Fact) (f : Fact) where
  pub placed-key : (n : ℕ)
      → with_key kind n (with_item fact_id f facts)
      ≡ one (is_key n (key_of kind f)) + with_key kind n facts
  placed-key n = count-place fact_id (λ f. is_key n (key_of kind f)) f facts

  pub placed-keyed : keyed kind (with_item fact_id f facts)
      ≡ one (is_keyed (key_of kind f)) + keyed kind facts
  placed-keyed = count-place fact_id (λ f. is_keyed (key_of kind f)) f facts

  pub placed-within : (k : ℕ) → IsWithin kind k facts
      → ((n : ℕ) → IsTrue (is_key n (key_of kind f)) → with_key kind n facts < limit_of kind k)
      → IsWithin kind k (with_item fact_id f facts)
  placed-within k h o = λ n.
      let a = placed-key n in
      let b = h n in
      elim (is_key n (key_of kind f)) as (λ t. is_key n (key_of kind f) ≡ t
      → with_key kind n (with_item fact_id f facts) ≤ limit_of kind k) [
        | true ↦ λ q. let z = o n q in let e = ap one q in omega (arith, a, z, e)
        | false ↦ λ q. let e = ap one q in omega (arith, a, b, e)
      ] refl

  module _ (rising : IsTrue (rises_from fact_id 0 facts)) (there : Contains facts f) where
    pub taken-key : (n : ℕ)
        → with_key kind n facts
        ≡ one (is_key n (key_of kind f)) + with_key kind n (without_item fact_id f.id facts)
    taken-key n = count-without fact_id (λ f. is_key n (key_of kind f)) f facts rising there

    pub taken-keyed : keyed kind facts
        ≡ one (is_keyed (key_of kind f)) + keyed kind (without_item fact_id f.id facts)
    taken-keyed = count-without fact_id (λ f. is_keyed (key_of kind f)) f facts rising there

    pub there-counted : (n : ℕ) → IsTrue (is_key n (key_of kind f)) → 0 < with_key kind n facts
    there-counted n t = contained-counted (λ f. is_key n (key_of kind f)) f facts t there

    -- the others leave room for one that is counted
    pub others-keyed : keyed kind (without_item fact_id f.id facts) + 1 ≤ length facts
    others-keyed =
        let a = keyed-le kind (without_item fact_id f.id facts) in
        let b = length-without fact_id f facts rising there in
        omega (arith, a, b)

    module _ (now : Fact) (same : now.id ≡ f.id) where
      pub swapped-key : (n : ℕ)
          → with_key kind n (swapped fact_id now facts)
          ≡ one (is_key n (key_of kind now)) + with_key kind n (without_item fact_id f.id facts)
      swapped-key n =
          count-swapped fact_id (λ f. is_key n (key_of kind f)) f now facts rising there same

      pub swapped-keyed : keyed kind (swapped fact_id now facts)
          ≡ one (is_keyed (key_of kind now)) + keyed kind (without_item fact_id f.id facts)
      swapped-keyed =
          count-swapped fact_id (λ f. is_keyed (key_of kind f)) f now facts rising there same

-- a key that doesn't stand, and may, has room beside those of one fact less
pub key-fits : (kind : Kind) (k : ℕ) (facts : List Fact) (f : Fact) (n : ℕ)
    → IsTrue (is_key n (key_of kind f)) → with_key kind n facts ≡ 0
    → with_key kind n facts < limit_of kind k
    → keyed kind facts < room_of kind (length facts + 1)
key-fits Map k facts f n t none below = cc
key-fits Quota k [] f n t none below = omega arith
key-fits Quota k (g ∷ gs) f n t none below =
    let a = count_more (λ f. is_key n (key_of Quota f)) g gs in
    let e : one (is_key n (key_of Quota g)) ≡ 1 = ap one t in
    absurd (omega (arith, a, e, none))
key-fits Loopless k facts f n t none below = absurd (omega (arith, below))
key-fits Simple k facts f n t none below = let a = keyed-le Simple facts in omega (arith, a)
key-fits OutCap k facts f n t none below = let a = keyed-le OutCap facts in omega (arith, a)
key-fits Fuse k facts f n t none below = cc
key-fits Tally k facts f n t none below = cc

-- a law that a key passes fails
pub passes-breaks : (kind : Kind) (k : ℕ) (facts : List Fact) → AllInBounds facts → (n : ℕ)
    → limit_of kind k < with_key kind n facts → Law kind k facts → ⊥
passes-breaks kind k facts b n l h = let w = law-breaks kind k facts b h n in omega (arith, l, w)

-- what a key has in a part it has in the whole
pub more-key : (kind : Kind) (n : ℕ) (rest facts : List Fact)
    → with_key kind n facts ≤ with_key kind n (place_all fact_id rest facts)
more-key kind n rest facts = let a =
    count-place_all fact_id (λ f. is_key n (key_of kind f)) rest facts in omega (arith, a)

----------------------------------------------------------------------------------------------------
-- lists of facts in bounds, and what is among them
----------------------------------------------------------------------------------------------------
pub all-swapped : (p : Fact → Type 0) (x : Fact) (ys : List Fact) → p x → AllOf p ys
    → AllOf p (swapped fact_id x ys)
all-swapped p x [] a h = tt
all-swapped p x (y ∷ ys) a h =
    elim (y.id == x.id) as (λ b. AllOf p ((if b then x else y) ∷ swapped fact_id x ys)) [
      | true ↦ (a, all-swapped p x ys a h.1)
      | false ↦ (h.0, all-swapped p x ys a h.1)
    ]

pub all-place_all : (p : Fact → Type 0) (xs ys : List Fact) → AllOf p xs → AllOf p ys
    → AllOf p (place_all fact_id xs ys)
all-place_all p [] ys a h = h
all-place_all p (x ∷ xs) ys a h =
    all-place_all p xs (with_item fact_id x ys) a.1 (all-place p fact_id x ys a.0 h)

placed-there : (x : Fact) (ys : List Fact) → Contains (with_item fact_id x ys) x
placed-there x [] = (0, omega arith, refl)
placed-there x (y ∷ ys) =
    elim (nat_le x.id y.id) as (λ b.
    Contains (if b then x ∷ y ∷ ys else y ∷ with_item fact_id x ys) x) [
      | true ↦ (0, omega arith, refl)
      | false ↦ let c = placed-there x ys in (suc c.0, omega (arith, c.1), c.2)
    ]

swapped-there : (x : Fact) (ys : List Fact) → IsTrue (has_id fact_id x.id ys)
    → Contains (swapped fact_id x ys) x
swapped-there x [] h = cc
swapped-there x (y ∷ ys) h =
    elim (y.id == x.id) as (λ b. IsTrue (if b then true else has_id fact_id x.id ys)
    → Contains ((if b then x else y) ∷ swapped fact_id x ys) x) [
      | true ↦ λ t. (0, omega arith, refl)
      | false ↦ λ t. let c = swapped-there x ys t in (suc c.0, omega (arith, c.1), c.2)
    ] h

-- a guard that was told of an addition tracks its fact
pub was-added : (s : Seen) (f : Fact) → s.kind ≢ Map → added f (unadded f s) ≡ s
    → Contains s.facts f
was-added s f n e =
    let x : with_item fact_id f (without_item fact_id f.id s.facts) ≡ s.facts =
    sym (guards (without_item fact_id f.id s.facts)
    (with_item fact_id f (without_item fact_id f.id s.facts)) s.kind n)
    ∙ ap (λ (s : Seen). s.facts) e in
    subst (λ l. Contains l f) x (placed-there f (without_item fact_id f.id s.facts))

-- and one that was told of a move tracks the new fact
pub was-shifted : (s : Seen) (old now : Fact)
    → IsTrue (has_id fact_id now.id (swapped fact_id old s.facts))
    → shifted old now (unshifted old now s) ≡ s → Contains s.facts now
was-shifted s old now h e =
    subst (λ l. Contains l now) (ap (λ (s : Seen). s.facts) e)
    (swapped-there now (swapped fact_id old s.facts) h)

-- a live fact is tracked
pub tracked : (kind : Kind) (facts live : List Fact) (f : Fact) → kind ≢ Map
    → facts ≡ by_kind [] live kind → Contains live f → Contains facts f
tracked kind facts live f n e c = subst (λ l. Contains l f) (sym (e ∙ guards [] live kind n)) c

-- what comes of a fact answers the notice, where a law that a key passes fails
pub put-answers : (v : Veto) (f : Fact) (old new next : Seen)
    → ((n : ℕ) → limit_of old.kind old.k < with_key old.kind n (with_item fact_id f old.facts)
    → Lawful next → ⊥) → Puts {E = Unit {0}} (Err v) f old new → Answers {E = Unit {0}} (Err v) old
    new next
put-answers Refused f old new next b p = (p.0, b p.1.0 p.1.1)
put-answers Memory f old new next b p = p

-- an exchange that no full key bars
module _ (kind : Kind) (k : ℕ) (facts : List Fact) (old now : Fact)
    (rising : IsTrue (rises_from fact_id 0 facts)) (there : Contains facts old)
    (same : now.id ≡ old.id) where
  pub swapped-within : IsWithin kind k facts
      → ((n : ℕ) → IsTrue (is_key n (key_of kind now))
      → with_key kind n facts < limit_of kind k + one (is_key n (key_of kind old)))
      → IsWithin kind k (swapped fact_id now facts)
  swapped-within h o = λ n.
      let a = taken-key kind facts old rising there n in
      let b = swapped-key kind facts old rising there now same n in
      let w = h n in
      elim (is_key n (key_of kind now)) as (λ t. is_key n (key_of kind now) ≡ t
      → with_key kind n (swapped fact_id now facts) ≤ limit_of kind k) [
        | true ↦ λ q. let e = ap one q in let z = o n q in omega (arith, a, b, e, z)
        | false ↦ λ q. let e = ap one q in omega (arith, a, b, e, w)
      ] refl

  pub swapped-passes : (n : ℕ) → IsTrue (is_key n (key_of kind now))
      → limit_of kind k + one (is_key n (key_of kind old)) ≤ with_key kind n facts
      → limit_of kind k < with_key kind n (swapped fact_id now facts)
  swapped-passes n t l =
      let a = taken-key kind facts old rising there n in
      let b = swapped-key kind facts old rising there now same n in
      let e : one (is_key n (key_of kind now)) ≡ 1 = ap one t in
      omega (arith, a, b, e, l)

-- the same for a build, which tracks nothing after a refusal
pub build-answers : (v : Veto) (f : Fact) (before after old new next : Seen)
    → ((n : ℕ) → limit_of before.kind before.k < with_key before.kind n
    (with_item fact_id f before.facts) → Lawful next → ⊥)
    → (after ≡ before → new ≡ old) → Puts {E = Unit {0}} (Err v) f before after
    → Answers {E = Unit {0}} (Err v) old new next
build-answers Refused f before after old new next b back p = (back p.0, b p.1.0 p.1.1)
build-answers Memory f before after old new next b back p = back p
