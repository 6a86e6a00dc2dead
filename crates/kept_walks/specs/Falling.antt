-- Items that fall, and those of one owner among them.
use Rattle.std.proofs.Common.{◌≡◌, ℕ, ◌≤◌, nat_le, ◌==◌, Bool, true, false, cond}
use Rattle.std.proofs.Common.{if◌then◌else◌, List, [], ◌∷◌, map, filter, refl, sym, ap, ◌∙◌}
use Rattle.std.proofs.Common.{arith}
use Rattle.std.proofs.lemmas.Grind.{common_steps}
use Rattle.std.specs.Prelude.{◌||◌}
use Rattle.std.specs.List.{list_any}
use Rattle.base_items.specs.declared.items.Fact.{Fact}
use Rattle.plain_digraph.specs.Lists.{AllOf}
use Rattle.observe_core.proofs.ItemLemmas.{all_more}
use Rattle.plain_views.specs.Shown.{ShownArc}
use Rattle.kept_views.specs.declared.listing.Listing.{Listing}
use Rattle.kept_views.specs.declared.listing.Listing.TheVariants.{Whole}
use Rattle.kept_views.specs.Order.{owner_of, rank, put_falling, items_at}
use Rattle.kept_walks.specs.Stored.{in_falling, arc_shown}

pub all_kept : {X : Type 0} (P : X → Type 0) (k : X → Bool) (xs : List X) → AllOf P xs
    → AllOf P (filter k xs)
all_kept P k [] all = tt
all_kept P k (x ∷ xs) all =
    let r = all_kept P k xs all.1 in
    elim (k x) as (λ b. AllOf P (cond b (x ∷ filter k xs) (filter k xs)))
    [ true ↦ (all.0, r) | false ↦ r ]

module _ (l : Listing) where
  abbrev Low : Fact → Fact → Type 0
  Low f y = rank l y ≤ rank l f

  abbrev Falls : List Fact → Type 0
  Falls [] = Unit {0}
  Falls (x ∷ xs) = AllOf (Low x) xs × Falls xs

  all_put : (P : Fact → Type 0) (f : Fact) → P f → (xs : List Fact) → AllOf P xs
      → AllOf P (put_falling l f xs)
  all_put P f here [] all = (here, tt)
  all_put P f here (x ∷ xs) all =
      let r = all_put P f here xs all.1 in
      elim (nat_le (rank l x) (rank l f)) as (λ b.
      AllOf P (if b then f ∷ x ∷ xs else x ∷ put_falling l f xs))
      [ true ↦ (here, all) | false ↦ (all.0, r) ]

  falls_put : (f : Fact) (xs : List Fact) → Falls xs → Falls (put_falling l f xs)
  falls_put f [] falls = (tt, tt)
  falls_put f (x ∷ xs) falls =
      let r = falls_put f xs falls.1 in
      elim (nat_le (rank l x) (rank l f)) as (λ b. nat_le (rank l x) (rank l f) ≡ b
      → Falls (if b then f ∷ x ∷ xs else x ∷ put_falling l f xs)) [
        | true ↦ λ e.
            let low : rank l x ≤ rank l f = grind (arith, common_steps, e) in
            ((low, all_more (λ y h. omega (arith, h, low)) xs falls.0), falls)
        | false ↦ λ e.
            let high : rank l f ≤ rank l x = grind (arith, common_steps, e) in
            (all_put (Low x) f high xs falls.0, r)
      ] refl

  falling : (fs : List Fact) → Falls (in_falling l fs)
  falling [] = tt
  falling (f ∷ fs) = falls_put f (in_falling l fs) (falling fs)

  -- in front of all that are lower
  put_front : (f : Fact) (ys : List Fact) → AllOf (Low f) ys → put_falling l f ys ≡ f ∷ ys
  put_front f [] low = refl
  put_front f (y ∷ ys) low = let h = low.0 in
      let t : nat_le (rank l y) (rank l f) ≡ true = grind (arith, common_steps, h) in
      ap (λ b. if b then f ∷ y ∷ ys else y ∷ put_falling l f ys) t

  kept_put : (k : Fact → Bool) (f : Fact) (xs : List Fact) → Falls xs
      → filter k (put_falling l f xs)
      ≡ (if k f then put_falling l f (filter k xs) else filter k xs)
  kept_put k f [] falls = elim (k f) as (λ b. cond b (f ∷ []) [] ≡ (if b then f ∷ [] else []))
      [ true ↦ refl | false ↦ refl ]
  kept_put k f (x ∷ xs) falls =
      let r = kept_put k f xs falls.1 in
      let ys = filter k xs in
      elim (nat_le (rank l x) (rank l f)) as (λ b. nat_le (rank l x) (rank l f) ≡ b
      → filter k (if b then f ∷ x ∷ xs else x ∷ put_falling l f xs)
      ≡ (if k f then put_falling l f (filter k (x ∷ xs)) else filter k (x ∷ xs))) [
        | true ↦ λ e.
            let low : rank l x ≤ rank l f = grind (arith, common_steps, e) in
            let all = all_kept (Low f) k (x ∷ xs)
            (low, all_more (λ y h. omega (arith, h, low)) xs falls.0) in
            let front = put_front f (filter k (x ∷ xs)) all in
            elim (k f) as (λ b. cond b (f ∷ filter k (x ∷ xs)) (filter k (x ∷ xs))
            ≡ (if b then put_falling l f (filter k (x ∷ xs)) else filter k (x ∷ xs)))
            [ true ↦ sym front | false ↦ refl ]
        | false ↦ λ e.
            ap (λ zs. cond (k x) (x ∷ zs) zs) r ∙ both (k x) (k f) x f ys e
      ] refl
    where
      both : (a b : Bool) (x f : Fact) (ys : List Fact) → nat_le (rank l x) (rank l f) ≡ false
          → cond a (x ∷ (if b then put_falling l f ys else ys))
          (if b then put_falling l f ys else ys)
          ≡ (if b then put_falling l f (cond a (x ∷ ys) ys) else cond a (x ∷ ys) ys)
      both true true x f ys e = sym (ap (λ t. if t then f ∷ x ∷ ys else x ∷ put_falling l f ys) e)
      both true false x f ys e = refl
      both false true x f ys e = refl
      both false false x f ys e = refl

  -- the items of one owner are one list
  pub kept_at : (v : ℕ) (fs : List Fact)
      → filter (λ f. owner_of l f == v) (in_falling l fs) ≡ items_at l v fs
  kept_at v [] = refl
  kept_at v (f ∷ fs) =
      kept_put (λ g. owner_of l g == v) f (in_falling l fs) (falling fs)
      ∙ ap (λ xs. if owner_of l f == v then put_falling l f xs else xs) (kept_at v fs)

  -- ---- tests

  any_put : (test : ShownArc → Bool) (f : Fact) (xs : List Fact)
      → list_any test (map arc_shown (put_falling l f xs))
      ≡ test (arc_shown f) || list_any test (map arc_shown xs)
  any_put test f [] = refl
  any_put test f (x ∷ xs) =
      let r = any_put test f xs in
      elim (nat_le (rank l x) (rank l f)) as (λ b.
      list_any test (map arc_shown (if b then f ∷ x ∷ xs else x ∷ put_falling l f xs))
      ≡ test (arc_shown f) || (test (arc_shown x) || list_any test (map arc_shown xs))) [
        | true ↦ refl
        | false ↦
            ap (λ c. test (arc_shown x) || c) r
            ∙ shift (test (arc_shown x)) (test (arc_shown f)) (list_any test (map arc_shown xs))
      ]
    where
      shift : (a b c : Bool) → a || (b || c) ≡ b || (a || c)
      shift true true c = refl
      shift true false c = refl
      shift false true c = refl
      shift false false c = refl

  pub any_falling : (test : ShownArc → Bool) (fs : List Fact)
      → list_any test (map arc_shown (in_falling l fs)) ≡ list_any test (map arc_shown fs)
  any_falling test [] = refl
  any_falling test (f ∷ fs) =
      any_put test f (in_falling l fs) ∙ ap (λ b. test (arc_shown f) || b) (any_falling test fs)

-- all nodes are one list
pub one_list : (fs : List Fact) → in_falling Whole fs ≡ items_at Whole 0 fs
one_list [] = refl
one_list (f ∷ fs) = ap (put_falling Whole f) (one_list fs)

pub all_falling : (l : Listing) (P : Fact → Type 0) (fs : List Fact) → AllOf P fs
    → AllOf P (in_falling l fs)
all_falling l P [] all = tt
all_falling l P (f ∷ fs) all =
    all_put l P f all.0 (in_falling l fs) (all_falling l P fs all.1)
